-- What pieces of a payload and its end are answered, by what their bytes show and spell.
use Rattle.std.proofs.Common.{◌≡◌, ℕ, ◌-◌, ◌<◌, ◌≤◌, List, [], ◌++◌, length, take, Some, None, Ok}
use Rattle.std.proofs.Common.{Option, sym, refl, ap, ◌∙◌, subst, inl, inr, arith, take_all}
use Rattle.std.proofs.Math.Seq.{take-append-add, take-length, take-nil}
use Rattle.std.proofs.lemmas.{Bool.cases_lt, List.take-append-le}
use Rattle.{std.specs.Option.option_or, unit_streams.proofs.Standing.standing_nothing}
use Rattle.unit_streams.proofs.{Answers.answers_are_first, Passing.refusal_from}
use Rattle.unit_streams.proofs.Offences.{no_offence, unrefused_offence}
use Rattle.unit_streams.specs.{Front.wrong_of, Going.IsQuiet, Grammar.at_start}
use Rattle.unit_streams.specs.Judging.{answer, event_at, goes_on, offence, offends, refusal_at}
use Rattle.nbfx_values.specs.declared.{content.Item.Item, refusals.Reason.Reason}
use Rattle.nbfx_decoder.specs.DecoderState.{FinishAnswers, situation_of}
use Rattle.nbfx_decoder.specs.Laws.{FinishedWhereWhole, GoesOnUnrefused, GoesOnWhereNothing}
use Rattle.nbfx_decoder.specs.Laws.{IsUnrefused, IsWholePayload, MayBegin, NothingIsRefused}
use Rattle.nbfx_decoder.specs.Laws.{OffendsWhereShown, ShowsNothing, ShowsWithin}
use Rattle.nbfx_decoder.specs.Payload.{NoEvent, payload, refusal, Settings}
use Rattle.nbfx_decoder.proofs.PayloadLaws.{accepted_strings, payloads_are_accepted}
use Rattle.nbfx_decoder.proofs.PayloadReasons.{nothing_unrefused, refused_where_shown}
use Rattle.nbfx_decoder.proofs.{PayloadReasons.unrefused_nothing, Readable.readable}

-- there are no events
no_event : (o : Option NoEvent) → o ≡ None
no_event None = refl
no_event (Some event) = absurd (elim event [ ])

module _ (x : Settings) (strings : List (List ℕ)) (p y : List ℕ) where
  quiet : (k : ℕ) → k ≤ length y → ((i : ℕ) → i < k → ShowsNothing x strings (p ++ take i y))
      → IsQuiet (payload x strings) p y k
  quiet k within nothing = record {
    within = within;
    unrefused = λ i lt. nothing_unrefused x strings (p ++ take i y) (nothing i lt);
    eventless = λ i some le. no_event (event_at (payload x strings) (p ++ take i y));
  }

  module _ (n from : ℕ) (reason : Reason) where
    offends_shows : answer (payload x strings) p y ≡ offends n (refusal from reason)
        → ShowsWithin x strings p y n from reason
    offends_shows e =
        let h = (answers_are_first (payload x strings) p y (offends n (refusal from reason))).0 e in
        record {
          within = h.0.within;
          before = λ i lt. unrefused_nothing x strings (p ++ take i y) (h.0.unrefused i lt);
          shows = (refused_where_shown x strings (p ++ take n y) from reason).0 h.1;
        }

    shows_offends : ShowsWithin x strings p y n from reason → answer (payload x strings) p y
        ≡ offends n (refusal from reason)
    shows_offends h =
        (answers_are_first (payload x strings) p y (offends n (refusal from reason))).1 (
          quiet n h.within h.before,
          (refused_where_shown x strings (p ++ take n y) from reason).1
              h.shows,
        )

  all_taken : (i : ℕ) → length y ≤ i → p ++ take i y ≡ p ++ y
  all_taken i le = ap (λ c. p ++ c) (take_all i y le)

  going_nothing : answer (payload x strings) p y ≡ goes_on → (i : ℕ) → ShowsNothing x strings
      (p ++ take i y)
  going_nothing e i =
      let h = (answers_are_first (payload x strings) p y goes_on).0 e in
      unrefused_nothing x strings (p ++ take i y) (elim (cases_lt i (length y)) [
        | inl lt ↦ h.0.unrefused i lt
        | inr le ↦ ap (refusal_at (payload x strings)) (all_taken i le) ∙ h.1
      ])

  nothing_going : ((i : ℕ) → i ≤ length y → ShowsNothing x strings (p ++ take i y))
      → answer (payload x strings) p y ≡ goes_on
  nothing_going nothing =
      (answers_are_first (payload x strings) p y goes_on).1 (
        quiet (length y) (omega arith) (λ i lt. nothing i (omega (arith, lt))),
        nothing_unrefused x strings (p ++ y)
            (subst (λ (c : List ℕ). ShowsNothing x strings (p ++ c)) (take-length y)
            (nothing (length y) (omega arith))),
      )

  going_unrefused : IsUnrefused x strings p → answer (payload x strings) p y ≡ goes_on
      → IsUnrefused x strings (p ++ y)
  going_unrefused before e i =
      elim (cases_lt (length p) i) [
        | inr le ↦ subst (ShowsNothing x strings) (sym (take-append-le i p y le)) (before i)
        | inl lt ↦ subst (ShowsNothing x strings) (further i lt) (going_nothing e (i - length p))
      ]
    where
      further : (i : ℕ) → length p < i → p ++ take (i - length p) y ≡ take i (p ++ y)
      further i lt = sym (take-append-add p y (i - length p)) ∙ ap (λ n. take n (p ++ y))
          (omega (arith, lt))

pub offends_where_shown : OffendsWhereShown
offends_where_shown x strings p y n from reason =
    (offends_shows x strings p y n from reason, shows_offends x strings p y n from reason)

pub goes_on_where_nothing : GoesOnWhereNothing
goes_on_where_nothing x strings p y = (
  λ e i le. going_nothing x strings p y e i,
  nothing_going x
      strings p y,
)

pub goes_on_unrefused : GoesOnUnrefused
goes_on_unrefused x strings p y before e = going_unrefused x strings p y before e

pub nothing_is_refused : NothingIsRefused
nothing_is_refused x strings i =
    let g = payload x strings in
    let none : refusal_at g [] ≡ None =
    refusal_from g [] (at_start g []) (standing_nothing g (readable x strings)) ∙
    ap (λ v. option_or (wrong_of v) None) ((readable x strings).nothing g.start 0) in
    unrefused_nothing x strings (take i []) (ap (refusal_at g) (take-nil i) ∙ none)

-- the end
module _ (x : Settings) (strings : List (List ℕ)) (p : List ℕ) (doc : List Item)
    (may : MayBegin x strings) where
  finished_whole : IsUnrefused x strings p → length p ≤ x.limits.payload → FinishAnswers x strings p
      (Ok doc) → (own : List (List ℕ)) × IsWholePayload x strings own doc p
  finished_whole clean le h =
      let none : offence (payload x strings) p ≡ None = unrefused_offence (payload x strings) p
      (λ i le. nothing_unrefused x strings (take i p) (clean i)) ∙ h.0 in
      let own = accepted_strings x strings p none in
      let it = (payloads_are_accepted x strings p doc own.0 may).0
      (record { offenceless = none; items_are = sym h.1; strings_are = own.1 }) in
      (own.0, record { is_payload = it.0; within = record { payload = le; admitted = it.1 } })

  whole_finished : (own : List (List ℕ)) × IsWholePayload x strings own doc p → FinishAnswers x
      strings p (Ok doc)
  whole_finished (own, h) =
      let it = (payloads_are_accepted x strings p doc own may).1 (h.is_payload, h.within.admitted)
      in
      ((no_offence (payload x strings) p it.offenceless).1, sym it.items_are)

pub finished_where_whole : FinishedWhereWhole
finished_where_whole x strings p doc may clean le =
    (finished_whole x strings p doc may clean le, whole_finished x strings p doc may)

-- the strings that stand behind a whole payload
pub strings_behind : (x : Settings) (strings own : List (List ℕ)) (items : List Item) (p : List ℕ)
    → MayBegin x strings → IsWholePayload x strings own items p → (situation_of x strings p).strings
    ≡ strings ++ own
strings_behind x strings own items p may h = ((payloads_are_accepted x strings p items own may).1
    (h.is_payload, h.within.admitted)).strings_are
