-- What comes next of a payload.
use Rattle.std.specs.Prelude.{ℕ, if◌then◌else◌, ◌==◌}
use Rattle.nbfx_values.specs.declared.session.Kind.{Kind, TheVariants.Plain, TheVariants.Session}
use Rattle.nbfx_decoder.specs.declared.section.Section.{Section}
use Rattle.nbfx_decoder.specs.declared.section.Section.TheVariants.{Nodes, Strings, TableSize}

-- what comes first
abbrev pub first_section : Kind → Section
first_section Plain = Nodes
first_section Session = TableSize

-- what comes where so many bytes of the table are left
abbrev pub section_of : ℕ → Section
section_of left = if left == 0 then Nodes else Strings left

-- how many bytes of an open table are left; elsewhere some number
abbrev pub left_in : Section → ℕ
left_in (Strings left) = left
left_in _ = 1
