-- A place in bytes, as a tape.
use Rattle.std.proofs.Common.{◌≡◌, ℕ, ◌+◌, false, List, sym, refl, drop-drop}
use Rattle.std.proofs.Math.Seq.{take-add}
use Rattle.io_edges.specs.InMemory.{advanced, after_take, next_count, PlannedSource, tape_at}
use Rattle.io_edges.specs.{InMemory.with_take, Plan.after_call, Plan.is_due, Plan.Plan}

-- n bytes further on in the bytes
pub advanced-tape_at : (at n : ℕ) (bytes : List ℕ) (empty : ℕ)
    → advanced n (tape_at at bytes empty) ≡ tape_at (at + n) bytes (with_take n empty)
advanced-tape_at at n bytes empty = rw (drop-drop n at bytes, take-add at n bytes) refl

-- a source at a place in its bytes
abbrev pub source_at : ℕ → List ℕ → ℕ → ℕ → Plan → PlannedSource
source_at at bytes empty most plan =
    record { tape = tape_at at bytes empty; most = most; plan = plan }

-- after a take that doesn't fail
pub after_good_take : (at n most room : ℕ) (bytes : List ℕ) (empty empty' : ℕ) (plan plan' : Plan)
    → is_due plan ≡ false → n ≡ next_count (source_at at bytes empty most plan) room
    → plan' ≡ after_call plan → empty' ≡ with_take n empty
    → source_at (at + n) bytes empty' most plan'
    ≡ after_take (source_at at bytes empty most plan) room
after_good_take at n most room bytes empty empty' plan plan' good count counted given =
    rw (counted, given, good, ← count, advanced-tape_at at n bytes empty) refl

-- after a take that always gives what the room holds
pub after_sure_take : (at n m : ℕ) (bytes : List ℕ) (empty empty' : ℕ) → n ≡ m
    → empty' ≡ with_take n empty → tape_at (at + n) bytes empty'
    ≡ advanced m (tape_at at bytes empty)
after_sure_take at n m bytes empty empty' count given =
    rw (← count, given) (sym (advanced-tape_at at n bytes empty))
