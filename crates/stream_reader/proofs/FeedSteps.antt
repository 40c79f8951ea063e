-- A reader takes a piece, unit by unit.
use Rattle.std.proofs.Common.{inl, inr}
use Rattle.stream_reader.specs.Stepping.{step_of}
use Rattle.stream_reader.specs.Stream.{accepted, ended, message, opened, peer_fault}
use Rattle.std.proofs.Math.Nat.{eq-or-lt_of_le}
use Rattle.std.proofs.Common.{Option}
use Rattle.std.proofs.Common.{◌≡◌, ℕ, ◌+◌, ◌<◌, ◌≤◌, false, List, ◌++◌, length, take, drop, Some}
use Rattle.std.proofs.Common.{None, Ok, Err, Result, sym, refl, ap, ◌∙◌, subst, append_assoc}
use Rattle.std.proofs.Common.{append-nil, arith, length-append, length-take-le, take-take, le-leb}
use Rattle.std.proofs.{Math.Seq.take-add, Math.Seq.take-length, lemmas.List.take-append-le}
use Rattle.unit_streams.proofs.Answers.{answers_are_first, quiet_none}
use Rattle.unit_streams.proofs.{Ends.not_over_along, Quiet.quiet_joined}
use Rattle.unit_streams.proofs.Passing.{going_refusal, refusal_from}
use Rattle.unit_streams.proofs.Quiet.{quiet_before_behind, quiet_before_joined, quiet_behind}
use Rattle.unit_streams.specs.{Going.IsQuiet, Going.IsQuietBefore, Grammar.standing}
use Rattle.unit_streams.specs.Judging.{Answer, answer, completes, event_at, goes_on, is_over_at}
use Rattle.unit_streams.specs.Judging.{offends, refusal_at, used}
use Rattle.nbfx_values.specs.declared.refusals.{Offence.Offence, Reason.TheVariants.SessionTooLong}
use Rattle.nmf_records.specs.declared.reader.FrameReader.{FrameReader}
use Rattle.nmf_records.specs.Reader.{ShowsText as FramesShowText}
use Rattle.nmf_records.specs.RecordFronts.{via_or_fault}
use Rattle.nbfx_decoder.specs.declared.decoder.Decoder.{Decoder}
use Rattle.stream_reader.specs.declared.reader.{ReadRefusal.ReadRefusal, StreamStep.StreamStep}
use Rattle.stream_reader.specs.declared.reader.ReadRefusal.TheVariants.{Memory, Offence as Refused}
use Rattle.stream_reader.specs.declared.reader.StreamReader.{StreamReader}
use Rattle.stream_reader.specs.Saying.{said, Says, step_for}
use Rattle.stream_reader.specs.Stepping.{KeepsShown, taken_since, UnitAnswers}
use Rattle.stream_reader.specs.Stream.{ends, is_over_in, offence_at, open_from, Settings, Stage}
use Rattle.stream_reader.specs.Stream.{stream, StreamEvent, strings_in, too_long}
use Rattle.stream_reader.specs.StreamReaderState.{DecideNothing, Failed, FailsBy, failure_of}
use Rattle.stream_reader.specs.StreamReaderState.{HasPayloads, messages_of, Reached, settings_of}
use Rattle.stream_reader.specs.StreamReaderState.{ShowsStrings, ShowsTable, ShowsText, StandsFor}
use Rattle.stream_reader.specs.StreamReaderState.{taken_of}
use Rattle.stream_reader.proofs.{Ending.tells, ReaderFacts.failed_as_set}
use Rattle.stream_reader.proofs.Grammar.{readable, short_enough}
use Rattle.stream_reader.specs.declared.reader.StreamStep.TheVariants as steps

-- it has come k bytes of y behind p, which decided nothing
pub record Along (r : StreamReader) (x : Settings) (p y : List ℕ) (k : ℕ) : Type 0 where
  pub reached : Reached r x (p ++ take k y)
  pub quiet : IsQuiet (stream x) p y k
  pub on : is_over_at (stream x) (p ++ take k y) ≡ false
  pub payloads : HasPayloads (standing (stream x) (p ++ take k y)).situation.stage
      → HasPayloads (standing (stream x) p).situation.stage

-- a session that isn't over, of as many bytes as its quota
long_enough : (x : Settings) (stage : Stage) (from n : ℕ) → x.limits.session ≤ n → is_over_in stage
    ≡ false → too_long x stage from n ≡ Some (offence_at (open_from stage from) SessionTooLong)
unfolding too_long
long_enough x stage from n le on = rw (le-leb x.limits.session n le, on) refl

-- what a piece is answered with, and what the reader is then
abbrev pub Fed : StreamReader → Settings → List ℕ → List ℕ → ℕ → StreamStep → Type 0
Fed new x p y k step = (said (length y) (answer (stream x) p y) ≡ Ok (k, step))
    × Reached new x (p ++ take k y)

-- where it is refused
abbrev pub FedRefused : StreamReader → Settings → List ℕ → List ℕ → ReadRefusal → Type 0
FedRefused new x p y (Refused o) = (said (length y) (answer (stream x) p y) ≡ Err (Refused o))
    × Failed new x (Refused o) (length p + used (length y) (answer (stream x) p y))
    (p ++ take (used (length y) (answer (stream x) p y)) y)
FedRefused new x p y Memory = HasPayloads (standing (stream x) p).situation.stage × (k : ℕ)
    × DecideNothing x p y k × Failed new x Memory new.taken (p ++ take k y)

-- where no event is told there is none
told_none : (event : Option StreamEvent) → steps.More ≡ step_of event → event ≡ None
told_none None is = refl
told_none (Some (opened mode kind via)) is = cc
told_none (Some accepted) is = cc
told_none (Some (message envelope)) is = cc
told_none (Some (ended n)) is = cc
told_none (Some (peer_fault n text)) is = cc

module _ (x : Settings) (p y : List ℕ) where
  pub along_none : (r : StreamReader) → Reached r x p → is_over_at (stream x) p ≡ false
      → Along r x p y 0
  along_none r h on = record {
    reached = subst (Reached r x) (sym (append-nil p)) h;
    quiet = quiet_none (stream x) p y;
    on = ap (is_over_at (stream x)) (append-nil p) ∙ on;
    payloads = subst (λ (q : List ℕ). HasPayloads (standing (stream x) q).situation.stage)
        (append-nil p);
  }

  -- a refusal behind k bytes is answered
  fed_refused : (new : StreamReader) (k : ℕ) (o : Offence) → IsQuiet (stream x) p y k
      → refusal_at (stream x) (p ++ take k y) ≡ Some o → Failed new x (Refused o) (length p + k)
      (p ++ take k y) → FedRefused new x p y (Refused o)
  fed_refused new k o quiet refused failed =
      let e : answer (stream x) p y
      ≡ offends k o = (answers_are_first (stream x) p y (offends k o)).1 (quiet, refused) in (
        ap (said (length y)) e,
        subst (λ (a : Answer StreamEvent Offence). Failed new x (Refused o)
            (length p + used (length y) a) (p ++ take (used (length y) a) y)) (sym e) failed,
      )

  module _ (old : StreamReader) (k : ℕ) (a : Along old x p y k) where
    -- nothing more is asked of as many bytes as the session quota
    pub along_too_long : (new : StreamReader) (o : Offence) → x.limits.session
        ≤ length (p ++ take k y)
        → o ≡ offence_at (open_from (standing (stream x) (p ++ take k y)).situation.stage
        (standing (stream x) (p ++ take k y)).from) SessionTooLong → Failed new x (Refused o)
        (length p + k) (p ++ take k y) → FedRefused new x p y (Refused o)
    unfolding is_over_at
    along_too_long new o long told failed = fed_refused new k o a.quiet refused failed
      where
        refused : refusal_at (stream x) (p ++ take k y) ≡ Some o
        refused = refusal_from (stream x) (p ++ take k y) (standing (stream x) (p ++ take k y)) refl
            ∙ going_refusal (stream x) (standing (stream x) (p ++ take k y))
            (length (p ++ take k y)) a.reached.going ∙ long_enough x _ _ (length (p ++ take k y))
            long a.on ∙ ap Some (sym told)

    -- the piece is used up
    pub along_end : (step : StreamStep) → k ≡ length y → length (p ++ take k y) < x.limits.session
        → step ≡ steps.More → Fed old x p y k step
    along_end step all short more = (
      ap (said (length y)) e ∙ ap (λ n. Ok (n, steps.More)) (sym all)
          ∙ ap (λ s. Ok (k, s)) (sym more),
      a.reached,
    )
      where
        unrefused : refusal_at (stream x) (p ++ take k y) ≡ None
        unrefused = refusal_from (stream x) (p ++ take k y) (standing (stream x) (p ++ take k y))
            refl ∙ going_refusal (stream x) (standing (stream x) (p ++ take k y))
            (length (p ++ take k y)) a.reached.going ∙ short_enough x _ _ (length (p ++ take k y))
            short

        whole : p ++ take k y ≡ p ++ y
        whole = ap (λ c. p ++ c) (ap (λ n. take n y) all ∙ take-length y)

        e : answer (stream x) p y ≡ goes_on
        e = (answers_are_first (stream x) p y goes_on).1 (
          subst (λ (n : ℕ). IsQuiet (stream x) p y n) all a.quiet,
          ap (refusal_at (stream x))
              (sym whole) ∙ unrefused,
        )

    -- some bytes of what is left
    module _ (c more : List ℕ) (split : drop k y ≡ c ++ more) (new : StreamReader) where
      taken_so : (n : ℕ) → n ≤ length c → (p ++ take k y) ++ take n c ≡ p ++ take (k + n) y
      taken_so n le = append_assoc p (take k y) (take n c) ∙ ap (λ d. p ++ (take k y ++ d))
          (sym (ap (take n) split ∙ take-append-le n c more le)) ∙ ap (λ d. p ++ d)
          (sym (take-add k n y))

      quiet_so : (n : ℕ) → IsQuiet (stream x) (p ++ take k y) c n → IsQuiet (stream x) p y (k + n)
      quiet_so n q = quiet_joined (stream x) p y k n a.quiet
          (subst (λ (d : List ℕ). IsQuiet (stream x) (p ++ take k y) d n) (sym split)
          (quiet_behind (stream x) (p ++ take k y) c more n q))

      quiet_before_so : (n : ℕ) → IsQuietBefore (stream x) (p ++ take k y) c n
          → IsQuietBefore (stream x) p y (k + n)
      quiet_before_so n q = quiet_before_joined (stream x) p y k n a.quiet
          (subst (λ (d : List ℕ). IsQuietBefore (stream x) (p ++ take k y) d n) (sym split)
          (quiet_before_behind (stream x) (p ++ take k y) c more n q))

      pub along_more : (n : ℕ) → UnitAnswers x (p ++ take k y) c new (Ok (n, steps.More))
          → Along new x p y (k + n)
      along_more n (event, some, before, at, is, there, payloads) =
          let none = told_none event is in
          let quiet : IsQuiet (stream x) (p ++ take k y) c n = record {
            within = before.within;
            unrefused = before.unrefused;
            eventless = λ i any le.
                elim (eq-or-lt_of_le le) [
                  | inl same ↦
                      ap (λ m. event_at (stream x) ((p ++ take k y) ++ take m c)) same ∙ at ∙ none
                  | inr lt ↦ before.eventless i any lt
                ];
          } in
          record {
            reached = subst (Reached new x) (taken_so n quiet.within) there;
            quiet = quiet_so n quiet;
            payloads = λ has. a.payloads
                (payloads none
                (subst (λ (q : List ℕ). HasPayloads (standing (stream x) q).situation.stage)
                (sym (taken_so n quiet.within)) has));
            on = ap (is_over_at (stream x)) (sym (taken_so n quiet.within)) ∙ on_still n quiet;
          }
        where
          on_still : (n : ℕ) → IsQuiet (stream x) (p ++ take k y) c n → is_over_at (stream x)
              ((p ++ take k y) ++ take n c) ≡ false
          on_still n q =
              let len = length-take-le n c q.within in
              ap (λ d. is_over_at (stream x) ((p ++ take k y) ++ d)) (sym (take-length (take n c)))
              ∙ not_over_along (stream x) (readable x) ends (tells x) (take n c) (p ++ take k y)
              a.on
              (λ i some le. ap (λ d. event_at (stream x) ((p ++ take k y) ++ d))
              (take-take i n c (omega (arith, len, le))) ∙ q.eventless i some
              (omega (arith, len, le))) (length (take n c)) (omega arith)

      pub along_refused : (told : ReadRefusal) → UnitAnswers x (p ++ take k y) c new (Err told)
          → FedRefused new x p y told
      along_refused (Refused o) u =
          let far : length (p ++ take k y) + u.0 ≡ length p + (k + u.0) = let n = length-append p
          (take k y) in let m = length-take-le k y a.quiet.within in omega (arith, n, m) in
          fed_refused new (k + u.0) o (quiet_so u.0 u.1)
          (ap (refusal_at (stream x)) (sym (taken_so u.0 u.1.within)) ∙ u.2)
          (subst (λ (q : List ℕ). Failed new x (Refused o) (length p + (k + u.0)) q)
          (taken_so u.0 u.1.within)
          (subst (λ (n : ℕ). Failed new x (Refused o) n ((p ++ take k y) ++ take u.0 c)) far u.3))
      along_refused Memory u = (
        a.payloads u.2,
        k + u.0,
        (quiet_so u.0 u.1.0, ap (refusal_at (stream x)) (sym (taken_so u.0 u.1.0.within)) ∙ u.1.1),
        subst (Failed new x Memory new.taken) (taken_so u.0 u.1.0.within) u.3,
      )

      -- an event
      fed_event : (n : ℕ) (step : StreamStep) (event : StreamEvent) → 0 < n
          → IsQuietBefore (stream x) (p ++ take k y) c n → event_at (stream x)
          ((p ++ take k y) ++ take n c) ≡ Some event → step ≡ step_for event
          → Reached new x ((p ++ take k y) ++ take n c) → Fed new x p y (k + n) step
      fed_event n step event some before at is reached =
          let e : answer (stream x) p y ≡ completes (k + n) event
          = (answers_are_first (stream x) p y (completes (k + n) event)).1 (
            quiet_before_so n before,
            omega (arith, some),
            ap (event_at (stream x))
                (sym (taken_so n before.within)) ∙ at,
          ) in (
            ap (said (length y)) e ∙ ap (λ s. Ok (k + n, s)) (sym is),
            subst (Reached new x)
                (taken_so n before.within) reached,
          )

      pub along_event : (n : ℕ) (step : StreamStep) → (step ≡ steps.More → ⊥)
          → UnitAnswers x (p ++ take k y) c new (Ok (n, step)) → Fed new x p y (k + n) step
      along_event n step other (None, some, before, at, is, there, payloads) = absurd (other is)
      along_event n step other (Some event, some, before, at, is, there, payloads) =
          fed_event n step event some before at is there

      -- a unit takes some byte
      pub some_taken : (n : ℕ) (step : StreamStep) → UnitAnswers x (p ++ take k y) c new
          (Ok (n, step)) → 0 < n
      some_taken n step u = u.1

-- what is said of a refusal
pub says_refused : (new : StreamReader) (x : Settings) (p y : List ℕ) (told : ReadRefusal)
    → FedRefused new x p y told → Says (length y) (answer (stream x) p y) (Err told)
says_refused new x p y (Refused o) fed = sym fed.0
says_refused new x p y Memory fed = tt

-- it was wanted where payloads may come
pub wanted_payloads : (new : StreamReader) (x : Settings) (p y : List ℕ) (told : ReadRefusal)
    → FedRefused new x p y told → told ≡ Memory
    → HasPayloads (standing (stream x) p).situation.stage
wanted_payloads new x p y told fed is = let f : FedRefused new x p y Memory = subst
    (FedRefused new x p y) is fed in f.0

-- a refusal stays when the bytes are counted that were used before it
still_failed : (mid new : StreamReader) (x : Settings) (refusal : ReadRefusal) (taken now : ℕ)
    (p : List ℕ) → KeepsShown mid new → new.failure ≡ mid.failure → new.taken ≡ now
    → Failed mid x refusal taken p → Failed new x refusal now p
unfolding failure_of taken_of messages_of ShowsText ShowsStrings
still_failed mid new x refusal taken now p kept failure taken_is h = record {
  failure = failure ∙ h.failure;
  taken_is = taken_is;
  text = subst (λ (f : FrameReader). FramesShowText via_or_fault f (standing
      (stream x) p).situation.text)
      (sym kept.frames) h.text;
  messages = kept.messages ∙ h.messages;
  strings = subst (λ (d : Decoder). ShowsTable d (strings_in (standing (stream x) p).situation))
      (sym kept.decoder) h.strings;
}

taken_there : (r : StreamReader) (x : Settings) (refusal : ReadRefusal) (taken : ℕ) (p : List ℕ)
    → Failed r x refusal taken p → r.taken ≡ taken
unfolding taken_of
taken_there r x refusal taken p h = h.taken_is

pub fails_since : (mid new : StreamReader) (x : Settings) (p y : List ℕ) (told : ReadRefusal)
    → settings_of new ≡ x → KeepsShown mid new → new.failure ≡ mid.failure → new.taken
    ≡ taken_since (length p) mid.taken told → FedRefused mid x p y told
    → FailsBy new p y (answer (stream x) p y) told
fails_since mid new x p y (Refused o) set kept failure taken fed =
    failed_as_set new x (Refused o) _ _ set (still_failed mid new x (Refused o) _ _ _ kept failure
    (taken ∙ taken_there mid x (Refused o) _ _ fed.1) fed.1)
fails_since mid new x p y Memory set kept failure taken fed = (
  fed.1,
  subst (λ (s : Settings). DecideNothing s p y fed.1) (sym set) fed.2,
  failed_as_set new x
      Memory _ _ set (still_failed mid new x Memory _ _ _ kept failure taken fed.3),
)

-- one that counts no bytes since
pub fails_at_once : (new : StreamReader) (x : Settings) (p y : List ℕ) (o : Offence)
    → settings_of new ≡ x → FedRefused new x p y (Refused o) → FailsBy new p y
    (answer (stream x) p y) (Refused o)
fails_at_once new x p y o set fed = failed_as_set new x (Refused o) _ _ set fed.1

-- a unit of a reader that is set so
pub unit_by : (r : StreamReader) (x : Settings) (q c : List ℕ) (new : StreamReader)
    (result : Result (ℕ × StreamStep) ReadRefusal) → settings_of r ≡ x
    → ((p : List ℕ) → StandsFor r p → is_over_at (stream (settings_of r)) p ≡ false
    → UnitAnswers (settings_of r) p c new result) → Reached r x q → is_over_at (stream x) q ≡ false
    → UnitAnswers x q c new result
unfolding StandsFor
unit_by r x q c new result set answers = subst (λ (s : Settings). Reached r s q
    → is_over_at (stream s) q ≡ false → UnitAnswers s q c new result) set (answers q)
