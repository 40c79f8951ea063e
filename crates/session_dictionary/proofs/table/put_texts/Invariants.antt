use Rattle.std.proofs.Common.{◌≡◌, ◌++◌, slice_range, flat_map}
use Rattle.multibyte_ints.specs.Text.{string_bytes_of}
use Rattle.session_dictionary.proofs.table.put_texts.Given as goal

-- the texts so far were appended
abbrev pub invariant-loop-place : goal.invariant-loop-place
invariant-loop-place l = l.out.items ≡ l.fn.out.items ++ flat_map string_bytes_of
    (slice_range l.texts l.from l.place)
