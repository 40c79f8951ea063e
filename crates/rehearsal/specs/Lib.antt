-- Public contracts cite these: the forms of lines and the events that they say (Forms), the grammar
-- of a history and what is written of it (History), where what plays its lines stands, and a reader
-- (PlayerState, HistoryReaderState), and what holds by the definitions alone (Laws).
pub mod Forms
pub mod History
pub mod PlayerState
pub mod HistoryReaderState
pub mod Laws
-- Private calls cite this one.
pub mod Reading
