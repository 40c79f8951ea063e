-- What was sent is read whole, or shows that the stream is too long.
use Rattle.std.proofs.Common.{◌≡◌, ℕ, false, List, [], ◌++◌, length, take, Some, Ok, Err, Result}
use Rattle.std.proofs.Common.{sym, ap, ◌∙◌, subst, inl, inr, arith, take_all}
use Rattle.{std.specs.Prelude.⊤, unit_streams.proofs.Standing.standing_nothing}
use Rattle.unit_streams.specs.Judging.{Answer, answer, completes, goes_on, is_over_at, offends}
use Rattle.nbfx_values.specs.declared.refusals.Offence.{Offence}
use Rattle.nbfx_values.specs.declared.refusals.Reason.TheVariants.{SessionTooLong as IsLong}
use Rattle.stream_reader.proofs.{Ending.first_on, Grammar.readable}
use Rattle.stream_reader.specs.declared.reader.ReadRefusal.TheVariants.{Offence as Refused}
use Rattle.stream_reader.specs.declared.reader.StreamStep.{StreamStep, TheVariants.More}
use Rattle.stream_reader.specs.{Judging.offence, Saying.said, Saying.step_for}
use Rattle.stream_reader.specs.Stream.{is_over_in, Settings, stream, StreamEvent}
use Rattle.receiver_machine.specs.declared.receiver.Receiver.{Receiver}
use Rattle.receiver_machine.specs.ReceiverState.{settings_of, StandsFor}
use Rattle.session_ends.proofs.Steps.{IsTakenWhole}
use Rattle.session_generator.specs.{declared.ends.GenFault.GenFault, UnderWay.IsReadSo}
use Rattle.session_generator.specs.declared.ends.GenFault.TheVariants.{Memory, SessionTooLong}

-- before the first byte nothing is over
pub first_going : (x : Settings) → is_over_at (stream x) [] ≡ false
unfolding is_over_at
first_going x =
    ap (λ s. is_over_in s.situation.stage) (standing_nothing (stream x) (readable x))
    ∙ first_on x.side

-- what a feed's answer leaves, by the stream's
module _ (p y : List ℕ) (r : Receiver) where
  pub taken_so : (a : Answer StreamEvent Offence) (k : ℕ) (step : StreamStep)
      → Ok (k, step) ≡ said (length y) a → StandsFor r (p ++ take k y) → IsReadSo a p y r (Ok tt)
  taken_so goes_on k step is stands =
      let pair : (k, step) ≡ (length y, More) = cc in
      let same : k ≡ length y = ap (λ (p : ℕ × StreamStep). p.0) pair in
      let all : take k y ≡ y = ap (λ n. take n y) same ∙ take_all (length y) y (omega arith) in
      subst (λ b. StandsFor r (p ++ b)) all stands
  taken_so (completes n e) k step is stands =
      let pair : (k, step) ≡ (n, step_for e) = cc in
      let same : k ≡ n = ap (λ (p : ℕ × StreamStep). p.0) pair in
      subst (λ m. StandsFor r (p ++ take m y)) same stands
  taken_so (offends n o) k step is stands = cc

  pub refused_so : (a : Answer StreamEvent Offence) (o : Offence)
      → Err (Refused o) ≡ said (length y) a → IsReadSo a p y r (Err (SessionTooLong o))
  refused_so goes_on o is = cc
  refused_so (completes n e) o is = cc
  refused_so (offends n told) o is = let same : Refused o ≡ Refused told = cc in cc

  pub unread_so : (a : Answer StreamEvent Offence) → IsReadSo a p y r (Err Memory)
  unread_so goes_on = tt
  unread_so (completes n e) = tt
  unread_so (offends n o) = tt

abbrev pub HasReadSo : Settings → List ℕ → List ℕ → Receiver → Result ⊤ GenFault → Type 0
HasReadSo x p y r (Ok _) = StandsFor r (p ++ y)
HasReadSo x p y r (Err (SessionTooLong o)) =
    (o.reason ≡ IsLong) × ((rest : List ℕ) → offence x (p ++ (y ++ rest)) ≡ Some o)
HasReadSo x p y r (Err Memory) = ⊤

module _ (x : Settings) (p y : List ℕ) (r : Receiver) where
  completed_so : (e : StreamEvent) (result : Result ⊤ GenFault)
      → IsReadSo (completes (length y) e) p y r result → HasReadSo x p y r result
  completed_so e (Ok done) h =
      subst (λ b. StandsFor r (p ++ b)) (take_all (length y) y (omega arith)) h
  completed_so e (Err (SessionTooLong told)) h = absurd h
  completed_so e (Err Memory) h = tt

  offended_so : (k : ℕ) (o : Offence) (result : Result ⊤ GenFault) → o.reason ≡ IsLong
      → ((rest : List ℕ) → offence x (p ++ (y ++ rest)) ≡ Some o)
      → IsReadSo (offends k o) p y r result → HasReadSo x p y r result
  offended_so k o (Ok done) reason follows h = absurd h
  offended_so k o (Err (SessionTooLong told)) reason follows same =
      (ap (λ (o : Offence). o.reason) same ∙ reason, λ rest. follows rest ∙ ap Some (sym same))
  offended_so k o (Err Memory) reason follows h = tt

  read_so : (result : Result ⊤ GenFault) → IsTakenWhole x p y
      → IsReadSo (answer (stream x) p y) p y r result → HasReadSo x p y r result
  read_so result (inl (e, is)) h =
      completed_so e result (subst (λ a. IsReadSo a p y r result) is h)
  read_so result (inr t) h =
      offended_so t.shown_by t.offence result t.reason t.whatever_follows
      (subst (λ a. IsReadSo a p y r result) t.answer_is h)

  -- by what a receiver answers that has read the bytes before
  pub has_read : (old : Receiver) (result : Result ⊤ GenFault) → settings_of old ≡ x
      → StandsFor old p → is_over_at (stream x) p ≡ false → IsTakenWhole x p y
      → ((q : List ℕ) → StandsFor old q → is_over_at (stream (settings_of old)) q ≡ false
      → IsReadSo (answer (stream (settings_of old)) q y) q y r result)
      → HasReadSo x p y r result
  has_read old result same stands going taken answered =
      read_so result taken
      (subst (λ s. IsReadSo (answer (stream s) p y) p y r result) same
      (answered p stands (ap (λ s. is_over_at (stream s) p) same ∙ going)))
