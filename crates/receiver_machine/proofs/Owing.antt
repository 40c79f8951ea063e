-- What a receiver owes.
use Rattle.std.proofs.Common.{◌≡◌, ℕ, List, ◌++◌, take, IfOk, IfErr, Some, None, Ok, Err, Option}
use Rattle.std.proofs.Common.{Result, sym, refl, ap, ◌∙◌}
use Rattle.stream_reader.proofs.ReaderFacts.{failure_as, not_failed}
use Rattle.stream_reader.specs.declared.reader.{ReadRefusal.ReadRefusal, StreamStep.StreamStep}
use Rattle.stream_reader.specs.declared.reader.StreamReader.{StreamReader}
use Rattle.receiver_machine.specs.declared.{owed.Owed.Owed, receiver.Receiver.Receiver}
use Rattle.receiver_machine.specs.Owed.{after_answer, after_step, bytes_of, owed_after, owed_behind}
use Rattle.receiver_machine.specs.Owed.{owed_for}
use Rattle.receiver_machine.specs.ReceiverState.{failure_of, owed_unless, StandsFor}
use Rattle.stream_reader.specs.StreamReaderState as reader_standing
use Rattle.stream_reader.specs.declared.reader.StreamStep.TheVariants as steps

-- a reader that stands hasn't failed
pub unfailed : (r : StreamReader) (p : List ℕ) → reader_standing.StandsFor r p
    → reader_standing.failure_of r ≡ None
unfolding reader_standing.StandsFor reader_standing.failure_of
unfailed r p stands = stands.unfailed

-- nor has a receiver that does
pub stands_unfailed : (r : Receiver) (p : List ℕ) (refusal : ReadRefusal) → StandsFor r p
    → failure_of r ≡ Some refusal → ⊥
unfolding StandsFor failure_of reader_standing.StandsFor
stands_unfailed r p refusal stands failed =
    not_failed r.reader (reader_standing.settings_of r.reader) p refusal stands
    (failure_as r.reader (Some refusal) failed)

-- and a reader that has failed answers that
pub failure_is : (r : StreamReader) (refusal : ReadRefusal) (taken : ℕ) (p : List ℕ)
    → reader_standing.FailedBehind r refusal taken p
    → reader_standing.failure_of r ≡ Some refusal
unfolding reader_standing.FailedBehind
failure_is r refusal taken p failed = failed.failure

-- what is owed where nothing has failed
pub owed_unfailed : (failure : Option ReadRefusal) (owed : Owed) → failure ≡ None
    → owed_unless failure owed ≡ bytes_of owed
owed_unfailed failure owed none = rw none refl

-- and where something has
pub owed_failed : (failure : Option ReadRefusal) (owed : Owed) (refusal : ReadRefusal)
    → failure ≡ Some refusal → owed_unless failure owed ≡ owed_for refusal
owed_failed failure owed refusal is = rw is refl

-- two readers that stand for the same bytes
pub owed_kept : (old new : StreamReader) (owed : Owed) (p : List ℕ)
    → reader_standing.StandsFor old p → reader_standing.StandsFor new p
    → owed_unless (reader_standing.failure_of new) owed
    ≡ owed_unless (reader_standing.failure_of old) owed
owed_kept old new owed p stands then_stands =
    ap (λ (f : Option ReadRefusal). owed_unless f owed)
    (unfailed new p then_stands ∙ sym (unfailed old p stands))

-- after a step, as bytes
pub owed_bytes : (owed : Owed) (step : StreamStep)
    → bytes_of (after_step owed step) ≡ owed_after (bytes_of owed) step
owed_bytes owed steps.More = refl
owed_bytes owed (steps.Opened mode kind) = refl
owed_bytes owed (steps.Ended n) = refl
owed_bytes owed step = refl

-- a reader has failed as it answers
abbrev FailsAs : Option ReadRefusal → Result (ℕ × StreamStep) ReadRefusal → Type 0
FailsAs failure (Ok answer) = failure ≡ None
FailsAs failure (Err refusal) = failure ≡ Some refusal

fails_as : (r : StreamReader) (p y : List ℕ) (result : Result (ℕ × StreamStep) ReadRefusal)
    → IfOk result (λ step. reader_standing.StandsFor r (p ++ take step.0 y))
    → IfErr result (λ refusal. reader_standing.failure_of r ≡ Some refusal)
    → FailsAs (reader_standing.failure_of r) result
fails_as r p y (Ok answer) stands refused = unfailed r _ stands
fails_as r p y (Err refusal) stands refused = refused

owed_as : (old new : Option ReadRefusal) (owed : Owed)
    (result : Result (ℕ × StreamStep) ReadRefusal) → old ≡ None → FailsAs new result
    → owed_unless new (after_answer owed result) ≡ owed_behind (owed_unless old owed) result
owed_as old new owed (Ok answer) none fails = rw (none, fails) (owed_bytes owed answer.1)
owed_as old new owed (Err refusal) none fails = rw fails refl

-- after the answer to a piece y behind p
pub owed_fed : (old new : StreamReader) (owed : Owed) (p y : List ℕ)
    (result : Result (ℕ × StreamStep) ReadRefusal) → reader_standing.StandsFor old p
    → IfOk result (λ step. reader_standing.StandsFor new (p ++ take step.0 y))
    → IfErr result (λ refusal. reader_standing.failure_of new ≡ Some refusal)
    → owed_unless (reader_standing.failure_of new) (after_answer owed result)
    ≡ owed_behind (owed_unless (reader_standing.failure_of old) owed) result
owed_fed old new owed p y result stands then_stands refused =
    owed_as _ _ owed result (unfailed old p stands) (fails_as new p y result then_stands refused)

-- a receiver that repeats a refusal is as it was
pub repeats_it : (old new : StreamReader) (owed : Owed)
    (result : Result (ℕ × StreamStep) ReadRefusal) (refusal : ReadRefusal) → new ≡ old
    → result ≡ Err refusal
    → ◌≡◌ {A = Receiver} (record { reader = new; owed = after_answer owed result })
    (record { reader = old; owed = owed })
repeats_it old new owed result refusal same repeated = rw (same, repeated) refl
