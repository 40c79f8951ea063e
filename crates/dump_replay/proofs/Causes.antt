-- The statuses of a run by what causes them: each outcome has one lemma that says so, and what a
-- run leaves whatever it did follows.
use Rattle.std.proofs.Common.{◌≡◌, ℕ, ◌≤◌, ◌⊎◌, sym, ◌∙◌, inl, inr}
use Rattle.io_edges.specs.Faults.{one_more, Rose}
use Rattle.dump_replay.specs.{Outside.Outside, Running.IsJudged, Running.IsStatus, Working.Leaves}

-- the status of a stream that is judged, or of the first that failed: `reads`, `writes` and `wires`
-- say that a read, a write, or a connection did
pub data Cause (reads writes wires : Type 0) (n : ℕ) : Type 0 where
  judged : IsJudged n → Cause reads writes wires n
  starved : n ≡ 5 → Cause reads writes wires n
  refused : n ≡ 6 → Cause reads writes wires n
  unfit : n ≡ 7 → Cause reads writes wires n
  unread : n ≡ 3 → reads → Cause reads writes wires n
  unwritten : n ≡ 4 → writes → Cause reads writes wires n
  unwired : n ≡ 8 → wires → Cause reads writes wires n

judged_not : (n m : ℕ) → IsJudged n → (0 ≡ m → ⊥) → (1 ≡ m → ⊥) → (9 ≡ m → ⊥) → (10 ≡ m → ⊥)
    → n ≡ m → ⊥
judged_not n m (inl h) zero one nine ten e = zero (sym h ∙ e)
judged_not n m (inr (inl h)) zero one nine ten e = one (sym h ∙ e)
judged_not n m (inr (inr (inl h))) zero one nine ten e = nine (sym h ∙ e)
judged_not n m (inr (inr (inr h))) zero one nine ten e = ten (sym h ∙ e)

-- one number isn't two
other : (n a b : ℕ) → n ≡ a → (a ≡ b → ⊥) → n ≡ b → ⊥
other n a b is not e = not (sym is ∙ e)

module _ {reads writes wires : Type 0} (n : ℕ) where
  pub status_by : Cause reads writes wires n → IsStatus n
  status_by (judged h) = inl h
  status_by (starved h) = inr (inr (inr (inr (inl h))))
  status_by (refused h) = inr (inr (inr (inr (inr (inl h)))))
  status_by (unfit h) = inr (inr (inr (inr (inr (inr (inl h))))))
  status_by (unread h why) = inr (inr (inl h))
  status_by (unwritten h why) = inr (inr (inr (inl h)))
  status_by (unwired h why) = inr (inr (inr (inr (inr (inr (inr h))))))

  pub never_two : Cause reads writes wires n → n ≡ 2 → ⊥
  never_two (judged h) e = judged_not n 2 h (λ e. cc) (λ e. cc) (λ e. cc) (λ e. cc) e
  never_two (starved h) e = other n 5 2 h (λ e. cc) e
  never_two (refused h) e = other n 6 2 h (λ e. cc) e
  never_two (unfit h) e = other n 7 2 h (λ e. cc) e
  never_two (unread h why) e = other n 3 2 h (λ e. cc) e
  never_two (unwritten h why) e = other n 4 2 h (λ e. cc) e
  never_two (unwired h why) e = other n 8 2 h (λ e. cc) e

  pub reads_by : Cause reads writes wires n → n ≡ 3 → reads
  reads_by (judged h) e = absurd (judged_not n 3 h (λ e. cc) (λ e. cc) (λ e. cc) (λ e. cc) e)
  reads_by (starved h) e = absurd (other n 5 3 h (λ e. cc) e)
  reads_by (refused h) e = absurd (other n 6 3 h (λ e. cc) e)
  reads_by (unfit h) e = absurd (other n 7 3 h (λ e. cc) e)
  reads_by (unread h why) e = why
  reads_by (unwritten h why) e = absurd (other n 4 3 h (λ e. cc) e)
  reads_by (unwired h why) e = absurd (other n 8 3 h (λ e. cc) e)

  pub writes_by : Cause reads writes wires n → n ≡ 4 → writes
  writes_by (judged h) e = absurd (judged_not n 4 h (λ e. cc) (λ e. cc) (λ e. cc) (λ e. cc) e)
  writes_by (starved h) e = absurd (other n 5 4 h (λ e. cc) e)
  writes_by (refused h) e = absurd (other n 6 4 h (λ e. cc) e)
  writes_by (unfit h) e = absurd (other n 7 4 h (λ e. cc) e)
  writes_by (unread h why) e = absurd (other n 3 4 h (λ e. cc) e)
  writes_by (unwritten h why) e = why
  writes_by (unwired h why) e = absurd (other n 8 4 h (λ e. cc) e)

  pub wires_by : Cause reads writes wires n → n ≡ 8 → wires
  wires_by (judged h) e = absurd (judged_not n 8 h (λ e. cc) (λ e. cc) (λ e. cc) (λ e. cc) e)
  wires_by (starved h) e = absurd (other n 5 8 h (λ e. cc) e)
  wires_by (refused h) e = absurd (other n 6 8 h (λ e. cc) e)
  wires_by (unfit h) e = absurd (other n 7 8 h (λ e. cc) e)
  wires_by (unread h why) e = absurd (other n 3 8 h (λ e. cc) e)
  wires_by (unwritten h why) e = absurd (other n 4 8 h (λ e. cc) e)
  wires_by (unwired h why) e = why

-- what a run with such a status leaves, by what its causes left of the counts
pub leaves_by : {R K : Type 0} (old new : Outside R K) {reads writes wires : Type 0} (n : ℕ)
    → Cause reads writes wires n
    → (reads → Rose old.input.faults new.input.faults ⊎ Rose old.shelf.faults new.shelf.faults)
    → (writes → Rose old.output.faults new.output.faults)
    → (new.input.empty_takes ≡ old.input.empty_takes)
    ⊎ (new.input.empty_takes ≡ one_more old.input.empty_takes)
    → old.input.faults ≤ new.input.faults → old.output.faults ≤ new.output.faults
    → Leaves old new n
leaves_by old new n cause rose_in rose_out once reads writes = record {
  is_status = status_by n cause;
  not_two = never_two n cause;
  one_empty_take = once;
  read_fault = λ three. rose_in (reads_by n cause three);
  write_fault = λ four. rose_out (writes_by n cause four);
  reads = reads;
  writes = writes;
}
