-- Public contracts cite these: what the events of a stream say to a relay (Events), what is written
-- for them (Carried), what was read and written in all (Relayed), and what settings say (Opening).
pub mod Events
pub mod Carried
pub mod Relayed
pub mod Opening
-- and of connections, one after the other, with their lines (Connections, Lines).
pub mod Connections
pub mod Lines
-- Private calls cite these: how a direction ended (Outcomes), what was read up to what begins a
-- session (Beginning), what a carrier has written of events (Writing), one direction to its end
-- (Pumping), a session that was opened with the back (Joining), and what was relayed so far (Along).
pub mod Outcomes
pub mod Beginning
pub mod Writing
pub mod Pumping
pub mod Joining
pub mod Along
