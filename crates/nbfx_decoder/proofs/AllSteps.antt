-- A decoder takes the bytes of a piece, one unit after the other.
use Rattle.std.proofs.Common.{◌≡◌, ℕ, ◌+◌, ◌-◌, ◌<◌, List, [], ◌++◌, length, take, drop, IsErrAnd}
use Rattle.std.proofs.Common.{None, Ok, Err, Result, sym, refl, ap, ◌∙◌, subst, append_assoc, arith}
use Rattle.std.proofs.Common.{length-append, length-drop, length-take-le, take_all}
use Rattle.std.proofs.{Math.Seq.take-add, lemmas.Result.err_from_is_err_and}
use Rattle.unit_streams.proofs.{Passing.going_refusal, Passing.refusal_from, Quiet.quiet_joined}
use Rattle.unit_streams.specs.{Going.IsGoing, Going.IsQuiet, Grammar.standing, Judging.refusal_at}
use Rattle.nbfx_decoder.specs.declared.{decoder.Decoder.Decoder, faults.UnitFault.UnitFault}
use Rattle.nbfx_decoder.specs.declared.faults.UnitFault.TheVariants.{Memory, Refused}
use Rattle.nbfx_decoder.specs.declared.units.UnitRead.TheVariants.{Done}
use Rattle.nbfx_decoder.specs.DecoderState.{begun_of, from_of, Reached, situation_of}
use Rattle.nbfx_decoder.specs.Payload.{payload, Settings}
use Rattle.nbfx_decoder.specs.Taking.{AllAnswers, HasTaken, TakeAnswers, TakesRecords}
use Rattle.nbfx_decoder.specs.Units.{HasStrings, Reads, UnitAnswers}
use Rattle.nbfx_decoder.proofs.Keeping.{settings_through}
use Rattle.nbfx_decoder.proofs.TakeSteps.{takes_unit_of}

-- what goes on isn't refused
pub going_unrefused : (x : Settings) (strings : List (List ℕ)) (p : List ℕ)
    → IsGoing (payload x strings) (standing (payload x strings) p) → refusal_at (payload x strings)
    p ≡ None
going_unrefused x strings p going = refusal_from (payload x strings) p
    (standing (payload x strings) p) refl ∙ going_refusal (payload x strings)
    (standing (payload x strings) p) (length p) going

-- those behind some, as the bytes between two offsets
pub rest_of : (y : List ℕ) (used : ℕ) → take (length y - used) (drop used y) ≡ drop used y
rest_of y used = let n = length-drop used y in take_all (length y - used) (drop used y)
    (omega (arith, n))

module _ (x : Settings) (strings : List (List ℕ)) (p y : List ℕ) (used : ℕ)
    (quiet : IsQuiet (payload x strings) p y used) where
  -- n more
  joined : (n : ℕ) → (p ++ take used y) ++ take n (drop used y) ≡ p ++ take (used + n) y
  joined n = append_assoc p (take used y) (take n (drop used y)) ∙ ap (λ c. p ++ c)
      (sym (take-add used n y))

  pub taken_more : (new : Decoder) (n : ℕ) → TakeAnswers x strings (p ++ take used y) (drop used y)
      new (Ok n) → HasTaken new x strings p y (used + n)
  taken_more new n (some, more, reached) = record {
    quiet = quiet_joined (payload x strings) p y used n quiet more;
    reached = subst (λ (q : List ℕ). Reached new x strings q) (joined n) reached;
  }

  -- what is refused, as a `?` hands it on
  pub taken_fault : (old new : Decoder) → used < length y → Reached old x strings (p ++ take used y)
      → (fault : UnitFault) (result : Result (Unit {0}) UnitFault) → IsErrAnd result
      (λ f. f ≡ fault) → TakeAnswers x strings (p ++ take used y) (drop used y) new (Err fault)
      → AllAnswers x strings p y new result
  taken_fault old new more reached fault result e answers =
      let q = err_from_is_err_and result e in
      subst (λ (r : Result (Unit {0}) UnitFault). AllAnswers x strings p y new r)
      (ap Err (sym q.2) ∙ sym q.1) (by_fault fault answers)
    where
      size : length (p ++ take used y) ≡ length p + used
      size = length-append p (take used y) ∙ ap (λ n. length p + n)
          (length-take-le used y quiet.within)

      by_fault : (fault : UnitFault) → TakeAnswers x strings (p ++ take used y) (drop used y) new
          (Err fault) → AllAnswers x strings p y new (Err fault)
      by_fault (Refused reason shown_by) (k, then, shown, sum, set) = (
        used + k,
        from_of x strings (p ++ take used y),
        quiet_joined (payload x strings) p y used k quiet then,
        ap (refusal_at (payload x strings)) (sym (joined k)) ∙ shown,
        (let n = size in omega (arith, n, sum)),
        subst (λ (q : List ℕ). HasStrings new.units x (situation_of x strings q).strings
            (from_of x strings (p ++ take used y))) (joined k) set,
      )
      by_fault Memory set =
          (used, quiet, more, going_unrefused x strings (p ++ take used y) reached.going, set)

-- a whole record that is read by its fast path behind p, where none has begun
pub answers_quickly : (old new : Decoder) (x : Settings) (strings : List (List ℕ)) (p c : List ℕ)
    (used : ℕ) → old.begun ≡ [] → new.begun ≡ [] → new.failure ≡ old.failure
    → Reads old.units new.units c (Ok (Done used)) → Reached old x strings p
    → TakeAnswers x strings p c new (Ok used)
answers_quickly old new x strings p c used begun none failure reads h =
    let empty : [] ≡ begun_of x strings p = sym begun ∙ h.begun in
    let read : UnitAnswers x (situation_of x strings p) (from_of x strings p)
    (begun_of x strings p ++ c) new.units (Ok (Done used)) =
    subst (λ (b : List ℕ). UnitAnswers x (situation_of x strings p) (from_of x strings p)
    (b ++ c) new.units (Ok (Done used))) empty
    (reads.answers x (situation_of x strings p) (from_of x strings p) h.at) in
    let size = ap length empty in
    takes_unit_of x strings p c h.going read.0 used read.1 used (omega (arith, size)) read.2 new
    read.3 none (failure ∙ h.unfailed)

-- one more is read by its fast path
pub takes_one_more : (old mid new : Decoder) (y : List ℕ) (used : ℕ) → TakesRecords old mid y used
    → new.begun ≡ mid.begun → new.failure ≡ mid.failure
    → (n : ℕ) → Reads mid.units new.units (take (length y - used) (drop used y)) (Ok (Done n))
    → TakesRecords old new y (used + n)
takes_one_more old mid new y used before begun failure n reads =
    let size = length-drop used y in
    let same = ap length (rest_of y used) in
    let counts = reads.counts.1 in
    let on = reads.goes_on in
    let far = before.taken in
    let le = before.within in
    record {
      within = omega (arith, counts, same, size, le);
      taken = omega (arith, on, far);
      none = begun ∙ before.none;
      keeps = record {
        failure = failure ∙ before.keeps.failure;
        settings = settings_through before.keeps.settings reads.kept;
      };
      far = λ x strings p h.
          let far = before.far x strings p h in
          taken_more x strings p y used far.quiet new n
          (answers_quickly mid new x strings (p ++ take used y) (drop used y) n before.none
          (begun ∙ before.none) failure
          (subst (λ (b : List ℕ). Reads mid.units new.units b (Ok (Done n))) (rest_of y used)
          reads) far.reached);
    }
