-- What a source and a sink in memory do, call by call.
use Rattle.std.specs.Prelude.{ℕ, min, Bool, true, false, List, [], ◌++◌, length, take, drop, if◌then◌else◌, ◌==◌}
use Rattle.io_edges.specs.{Faults.one_more, Plan.after_call, Plan.is_due, Plan.new_plan, Plan.Plan}

-- bytes that are handed out from the front, and how many takes gave none
pub record Tape : Type 0 where
  pub taken : List ℕ
  pub left : List ℕ
  pub empty_takes : ℕ

-- nothing is handed out yet
abbrev pub new_tape : List ℕ → Tape
new_tape bytes = record { taken = []; left = bytes; empty_takes = 0 }

-- the bytes before a place are handed out, and so many takes gave none
abbrev pub tape_at : ℕ → List ℕ → ℕ → Tape
tape_at at bytes empty =
    record { taken = take at bytes; left = drop at bytes; empty_takes = empty }

-- how many takes gave nothing, behind one that gave n bytes
abbrev pub with_take : ℕ → ℕ → ℕ
with_take n empty = if n == 0 then one_more empty else empty

-- after a take of n bytes
abbrev pub advanced : ℕ → Tape → Tape
advanced n tape = record {
  taken = tape.taken ++ take n tape.left;
  left = drop n tape.left;
  empty_takes = with_take n tape.empty_takes;
}

-- a source that fails by plan, and gives at most so many bytes a call
pub record PlannedSource : Type 0 where
  pub tape : Tape
  pub most : ℕ
  pub plan : Plan

-- before the first take
abbrev pub new_source : List ℕ → ℕ → List ℕ → PlannedSource
new_source bytes most failing =
    record { tape = new_tape bytes; most = most; plan = new_plan failing }

-- how many bytes the next take puts into a room of that length, if it doesn't fail
abbrev pub next_count : PlannedSource → ℕ → ℕ
next_count source room = min (min source.most room) (length source.tape.left)

-- after the next take, into a room of that length
abbrev pub after_take : PlannedSource → ℕ → PlannedSource
after_take source room = record {
  tape = if is_due source.plan then source.tape else advanced (next_count source room) source.tape;
  most = source.most;
  plan = after_call source.plan;
}

-- a sink that fails by plan, and at a failing call keeps so many bytes of the piece; and whether
-- its direction was ended
pub record PlannedSink : Type 0 where
  pub written : List ℕ
  pub kept : ℕ
  pub plan : Plan
  pub ended : Bool

-- before the first put
abbrev pub new_sink : List ℕ → ℕ → PlannedSink
new_sink failing kept =
    record { written = []; kept = kept; plan = new_plan failing; ended = false }

-- whether the next put fails: it is to fail, or the direction was ended
abbrev pub fails_next : PlannedSink → Bool
fails_next sink = if sink.ended then true else is_due sink.plan

-- how many bytes of its piece that writes: none behind the end
abbrev pub kept_next : PlannedSink → ℕ
kept_next sink = if sink.ended then 0 else sink.kept

-- after the end of the direction
abbrev pub after_end : PlannedSink → PlannedSink
after_end sink =
    record { written = sink.written; kept = sink.kept; plan = sink.plan; ended = true }
