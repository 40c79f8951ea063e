-- Public contracts cite these: the grammar of input whose lines may bring events (LineRules), and
-- where a reader of it stands (LineStreamState).
pub mod LineRules
pub mod LineStreamState
