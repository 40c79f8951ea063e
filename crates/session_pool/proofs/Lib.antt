-- what follows the end of a stream (specs/OwedTurns)
pub mod Ends
-- one more session behind others (src/serving.rt)
pub mod Along
-- what is written of them all
pub mod Owing
-- what is told of a connection's ends behind its sessions
pub mod Telling
-- connections that are accepted, served and closed (src/pooling.rt)
pub mod Pooled
-- the sum of counts (src/lines.rt)
pub mod Sums
-- their lines, one more behind others
pub mod PutLines
-- worked connections
mod Worked
