-- Public contracts cite these: the documents that follow a seed (Documents), the session of them
-- (Generated) and its ends (Ends), the line of a session and what is written of it (Summary).
pub mod Documents
pub mod Generated
pub mod Ends
pub mod Summary
-- Private calls cite these: what is wrong with a session that isn't made (Faults), how far one has
-- come (UnderWay), what one measures, and what becomes of its line (Measuring).
pub mod Faults
pub mod UnderWay
pub mod Measuring
