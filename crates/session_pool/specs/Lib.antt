-- Public contracts cite these: what is owed for the bytes of a connection that carries sessions one
-- behind the other (OwedTurns), what serving them leaves (Turns), and serving many connections at
-- once (Pooling), with their lines (PoolLines).
pub mod OwedTurns
pub mod Turns
pub mod Pooling
pub mod PoolLines
-- Private calls cite these: what was served of a connection so far (SoFar), and connections that
-- are being served (Serving).
pub mod SoFar
pub mod Serving
