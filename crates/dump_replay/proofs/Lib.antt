-- what a report leaves, by its status (specs/Reporting)
pub mod Statuses
pub mod Beginnings
-- the writing of a session (specs/Building, Laws)
pub mod BuildEndings
pub mod BuildLaws
-- the answering of connections (specs/Serving)
pub mod ServeEnds
pub mod RelayEnds
pub mod PoolEnds
-- the call of a peer (specs/Calling)
pub mod CallEnds
pub mod CallLeaves
-- the notes (specs/Noting), what any task leaves (specs/Working), and the statuses of a run that
-- reads nothing (specs/Running)
pub mod Noting
pub mod Causes
pub mod Works
pub mod RunSteps
-- what is seen of the ends, by their traits (specs/Outside)
pub mod Seen
pub mod Directions
-- the status where nothing of the outside fails (specs/Complete, Order)
pub mod CompleteFiles
pub mod CompleteCalls
pub mod Orders
pub mod Rehearsals
pub mod Played
pub mod Complete
pub mod Order
