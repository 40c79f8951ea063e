-- The offence of a stream, by its grammar.
use Rattle.std.specs.Prelude.{ℕ, List, Option}
use Rattle.unit_streams.specs.Judging.{offence as offence_by}
use Rattle.nbfx_values.specs.declared.refusals.Offence.{Offence}
use Rattle.stream_reader.specs.Stream.{Settings, stream}

-- what refuses the shortest prefix that is refused, else the end of the input
abbrev pub offence : Settings → List ℕ → Option Offence
offence x bytes = offence_by (stream x) bytes
