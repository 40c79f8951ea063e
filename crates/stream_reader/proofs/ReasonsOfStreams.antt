-- Which streams are refused first in a record, are too long, and are cut off.
use Rattle.std.proofs.Common.{◌≡◌, ℕ, zero, suc, ◌+◌, ◌-◌, ◌<◌, ◌≤◌, Bool, true, false, ◌↔◌, List}
use Rattle.std.proofs.Common.{◌++◌, length, take, drop, if◌then◌else◌, Some, None, Option, sym}
use Rattle.std.proofs.Common.{refl, ap, ◌∙◌, subst, inl, inr, arith, length-take-le}
use Rattle.std.proofs.{Math.Seq.take-add, lemmas.Bool.cases_Bool, lemmas.Bool.cases_lt}
use Rattle.unit_streams.proofs.{Answers.answers_are_first, Ends.after_end}
use Rattle.unit_streams.proofs.{Offences.offences_are_first, Passing.going_at}
use Rattle.unit_streams.specs.Grammar.{Standing, standing}
use Rattle.unit_streams.specs.Judging.{answer, ending_at, is_over_at, offence as offence_by}
use Rattle.unit_streams.specs.Judging.{offends, refusal_at}
use Rattle.nbfx_values.specs.declared.refusals.{Offence.Offence, Reason.Reason}
use Rattle.nbfx_values.specs.declared.refusals.Place.{Place, TheVariants.Frame as InFrame}
use Rattle.nbfx_values.specs.declared.refusals.Place.TheVariants.{Payload as InPayload}
use Rattle.nbfx_values.specs.declared.session.Mode.{Mode}
use Rattle.nbfx_decoder.specs.{declared.section.Section.Section, DecoderState.situation_of}
use Rattle.nbfx_decoder.specs.declared.section.Section.TheVariants.{Nodes, Strings, TableSize}
use Rattle.nbfx_decoder.specs.Payload.{refusal, Settings as PayloadSettings}
use Rattle.nbfx_decoder.specs.Payload.{Situation as PayloadSituation}
use Rattle.nbfx_decoder.specs.Reasons.{Shows as ShowsInSection}
use Rattle.stream_reader.{specs.Laws.Begins, proofs.Grammar.quiet_over, proofs.Grammar.readable}
use Rattle.stream_reader.specs.Reasons.{IsCutOff, IsTooLong, ShowsFrom, ShowsInPayload, ShowsOf}
use Rattle.stream_reader.specs.Stream.{chunk_due, cut_off, is_over_in, may_end_in, offence_at}
use Rattle.stream_reader.specs.Stream.{offence_in, open_from, payload_open, payloads, record_due}
use Rattle.stream_reader.specs.Stream.{Settings, Situation, Stage, stream, StreamEvent}
use Rattle.stream_reader.proofs.LoneAck.{ack_may_end, only_ack_may_end}
use Rattle.stream_reader.proofs.{PayloadRefusals.in_payload_is, Reasons.too_long_is}
use Rattle.stream_reader.proofs.Reasons.{apart, never_cut, refused_by_record, same_place}
use Rattle.nbfx_values.specs.declared.refusals.Reason.TheVariants as reasons
use Rattle.nmf_records.specs.declared.script.Due.TheVariants as dues

-- the end refuses a stream that isn't over, at what is open
end_is : (x : Settings) (mode : Mode) (stage : Stage) (from n : ℕ) (o : Offence)
    → cut_off x mode stage from n ≡ Some o
    → (is_over_in stage ≡ false) × (o ≡ offence_at (open_from stage from) reasons.Truncated)
unfolding cut_off
end_is x mode stage from n o e = go (may_end_in x mode stage from n) refl e where
  going : (stage : Stage) → may_end_in x mode stage from n ≡ false → is_over_in stage ≡ false
  going (record_due dues.Over) e = cc
  going (record_due _) e = refl
  going (chunk_due p) e = refl
  going (payload_open p) e = refl

  go : (b : Bool) → may_end_in x mode stage from n ≡ b
      → (if b then None else Some (offence_at (open_from stage from) reasons.Truncated)) ≡ Some o
      → (is_over_in stage ≡ false) × (o ≡ offence_at (open_from stage from) reasons.Truncated)
  go true is e = cc
  go false is e = (going stage is, cc)

module _ (x : Settings) (p : List ℕ) where
  abbrev opened : ℕ
  opened = open_from (standing (stream x) p).situation.stage (standing (stream x) p).from

  ended_so : (o : Offence) → ending_at (stream x) p ≡ Some o
      → (is_over_at (stream x) p ≡ false)
      × (o ≡ offence_at (open_from (standing (stream x) p).situation.stage
      (standing (stream x) p).from) reasons.Truncated)
  unfolding is_over_at ending_at
  ended_so o e =
      end_is x (standing (stream x) p).situation.mode (standing (stream x) p).situation.stage
      (standing (stream x) p).from (length p) o e

  cut_at : (from : ℕ) → ending_at (stream x) p ≡ Some (offence_at from reasons.Truncated)
      → IsCutOff x p from
  cut_at from e =
      let told = ended_so (offence_at from reasons.Truncated) e in
      record {
        going_on = told.0;
        not_alone = λ alone. let none = sym (ack_may_end x p alone) ∙ e in cc;
        place = same_place from opened reasons.Truncated reasons.Truncated told.1;
      }

  at_cut : (from : ℕ) → IsCutOff x p from
      → ending_at (stream x) p ≡ Some (offence_at from reasons.Truncated)
  at_cut from h = go (ending_at (stream x) p) refl where
    go : (v : Option Offence) → ending_at (stream x) p ≡ v
        → ending_at (stream x) p ≡ Some (offence_at from reasons.Truncated)
    go None e = absurd (h.not_alone (only_ack_may_end x p e h.going_on))
    go (Some o) e =
        e ∙ ap Some ((ended_so o e).1 ∙ ap (λ n. offence_at n reasons.Truncated) (sym h.place))

  pub cut_off_is : (from : ℕ)
      → (ending_at (stream x) p ≡ Some (offence_at from reasons.Truncated)) ↔ IsCutOff x p from
  cut_off_is from = (cut_at from, at_cut from)

  pub end_cuts_off : (o : Offence) → ending_at (stream x) p ≡ Some o
      → (o.reason ≡ reasons.Truncated) × (is_over_at (stream x) p ≡ false)
  end_cuts_off o e =
      let told = ended_so o e in (ap (λ (o : Offence). o.reason) told.1, told.0)

  -- no bytes of a payload show it
  payload_uncut : (y : PayloadSettings) (strings : List (List ℕ)) (all : Bool) (bytes : List ℕ)
      (at : ℕ) (reason : Reason) → reason ≡ reasons.Truncated → ShowsOf y strings all bytes at
      reason → ⊥
  payload_uncut y strings all bytes at reason cut (inr (other, every, is, nothing)) = cc
  payload_uncut y strings all bytes at reason cut (inl shows) =
      none (situation_of y strings shows.before) (situation_of y strings shows.before).section
      shows.bytes
      (subst (λ (r : Reason). ShowsInSection y (situation_of y strings shows.before)
      (situation_of y strings shows.before).section shows.bytes r) cut shows.shows)
    where
      none : (z : PayloadSituation) (section : Section) (b : List ℕ)
          → ShowsInSection y z section b reasons.Truncated → ⊥
      none z TableSize b h = h
      none z (Strings zero) b h = h
      none z (Strings (suc more)) b h = h
      none z Nodes b h = h

  -- nor a record
  never_by_place : (place : Place) (reason : Reason) → reason ≡ reasons.Truncated
      → refusal_at (stream x) p ≡ Some (record { place = place; reason = reason }) → ⊥
  never_by_place (InFrame from) reason cut e =
      let h = (refused_by_record x p from reasons.Truncated (λ is. cc)).0
      (e ∙ ap (λ (r : Reason). Some (offence_at from r)) cut) in
      never_cut x p (standing (stream x) h.before).situation.stage h.bytes h.shows
  never_by_place (InPayload number at) reason cut e =
      let h = (in_payload_is x p number at reason).0 e in
      payload_uncut (payloads x h.0.kind) h.0.strings h.2 h.1 at reason cut h.5

  never_cut_off : (o : Offence) → refusal_at (stream x) p ≡ Some o → o.reason ≡ reasons.Truncated
      → ⊥
  never_cut_off o e cut = never_by_place o.place o.reason cut e

pub no_piece_cuts_off : (x : Settings) (p y : List ℕ) (n : ℕ) (o : Offence)
    → answer (stream x) p y ≡ offends n o → o.reason ≡ reasons.Truncated → ⊥
no_piece_cuts_off x p y n o e cut =
    never_cut_off x (p ++ take n y) o ((answers_are_first (stream x) p y (offends n o)).0 e).1 cut

module _ (x : Settings) (bytes : List ℕ) where
  cut_for : (from : ℕ) → offence_by (stream x) bytes ≡ Some (offence_at from reasons.Truncated)
      → ((i : ℕ) → i ≤ length bytes → refusal_at (stream x) (take i bytes) ≡ None)
      × IsCutOff x bytes from
  cut_for from e =
      elim ((offences_are_first (stream x) bytes (offence_at from reasons.Truncated)).0 e) [
        | inl h ↦ absurd (never_cut_off x (take h.place bytes)
            (offence_at from reasons.Truncated) h.refused refl)
        | inr h ↦ (h.unrefused, (cut_off_is x bytes from).0 h.ended)
      ]

  pub cut_off_unrefused : (from : ℕ)
      → (offence_by (stream x) bytes ≡ Some (offence_at from reasons.Truncated))
      ↔ (((i : ℕ) → i ≤ length bytes → refusal_at (stream x) (take i bytes) ≡ None)
      × IsCutOff x bytes from)
  cut_off_unrefused from = (
    cut_for from,
    λ h. (offences_are_first (stream x) bytes (offence_at from reasons.Truncated)).1
        (inr (record { unrefused = h.0; ended = (cut_off_is x bytes from).1 h.1 })),
  )

  -- an offence other than the end's is that of the first prefix that is refused
  module _ (o : Offence) (isnt : ending_at (stream x) bytes ≡ Some o → ⊥) (Holds : List ℕ → Type 0)
      (law : (p : List ℕ) → (refusal_at (stream x) p ≡ Some o) ↔ Holds p) where
    first_for : offence_by (stream x) bytes ≡ Some o → Begins x bytes Holds
    first_for e =
        elim ((offences_are_first (stream x) bytes o).0 e) [
          | inl h ↦ (h.place, h.within, h.before, (law (take h.place bytes)).0 h.refused)
          | inr h ↦ absurd (isnt h.ended)
        ]

    for_first : Begins x bytes Holds → offence_by (stream x) bytes ≡ Some o
    for_first (n, within, before, holds) = (offences_are_first (stream x) bytes o).1
        (inl (record {
          place = n;
          within = within;
          before = before;
          refused = (law (take n bytes)).1
              holds;
        }))

    first_is : (offence_by (stream x) bytes ≡ Some o) ↔ Begins x bytes Holds
    first_is = (first_for, for_first)

  -- whose reason is none of these
  other_end : (from : ℕ) (reason : Reason) → (reason ≡ reasons.Truncated → ⊥) → ending_at (stream x)
      bytes ≡ Some (offence_at from reason) → ⊥
  other_end from reason isnt e = isnt (end_cuts_off x bytes (offence_at from reason) e).0

  pub refused_first : (from : ℕ) (reason : Reason) → (reason ≡ reasons.SessionTooLong → ⊥)
      → (reason ≡ reasons.Truncated → ⊥)
      → (offence_by (stream x) bytes ≡ Some (offence_at from reason))
      ↔ Begins x bytes (λ p. ShowsFrom x p from reason)
  refused_first from reason short whole =
      first_is (offence_at from reason) (other_end from reason whole)
      (λ p. ShowsFrom x p from reason) (λ p. refused_by_record x p from reason short)

  pub in_payload_first : (number at : ℕ) (reason : Reason)
      → (offence_by (stream x) bytes ≡ Some (offence_in number (refusal at reason)))
      ↔ Begins x bytes (λ p. ShowsInPayload x p number at reason)
  in_payload_first number at reason =
      first_is (offence_in number (refusal at reason))
      (λ e. apart _ reasons.Truncated number (refusal at reason)
      (sym (ended_so x bytes (offence_in number (refusal at reason)) e).1))
      (λ p. ShowsInPayload x p number at reason) (λ p. in_payload_is x p number at reason)

  -- what is over stays so
  over_longer : (p c : List ℕ) → is_over_at (stream x) p ≡ true → is_over_at (stream x) (p ++ c)
      ≡ true
  unfolding is_over_at
  over_longer p c o = ap (λ (s : Standing Situation StreamEvent Offence). is_over_in
      s.situation.stage) (after_end (stream x) (readable x) (quiet_over x) p c o) ∙ o

  -- a part that isn't refused and has the session quota is over
  full_over : (p : List ℕ) → refusal_at (stream x) p ≡ None → x.limits.session ≤ length p
      → is_over_at (stream x) p ≡ true
  full_over p none le =
      elim (cases_Bool (is_over_at (stream x) p)) [
        | inl over ↦ over
        | inr on ↦
            let refused =
            (too_long_is x p (open_from (standing (stream x) p).situation.stage
            (standing (stream x) p).from)).1
            (record {
              reached = le;
              going_on = on;
              going = going_at (stream x) (readable x) p none;
              place = refl;
            }) in
            cc
      ]

  longer : (m n : ℕ) → m ≤ n → take n bytes ≡ take m bytes ++ take (n - m) (drop m bytes)
  longer m n le = let sum : n ≡ m + (n - m) = omega arith in ap (λ k. take k bytes) sum ∙ take-add m
      (n - m) bytes

  at_quota : (place from : ℕ) → place ≤ length bytes
      → ((i : ℕ) → i < place → refusal_at (stream x) (take i bytes) ≡ None)
      → IsTooLong x (take place bytes) from → place ≡ x.limits.session
  at_quota place from within before h =
      let size = length-take-le place bytes within in
      let reached = h.reached in
      elim (cases_lt x.limits.session place) [
        | inl lt ↦ absurd (
            let part = length-take-le x.limits.session bytes (omega arith) in
            let over = full_over (take x.limits.session bytes) (before x.limits.session lt)
            (omega (arith, part)) in
            let over' : is_over_at (stream x) (take place bytes) ≡ true = ap (is_over_at (stream x))
            (longer x.limits.session place (omega arith)) ∙ over_longer
            (take x.limits.session bytes)
            (take (place - x.limits.session) (drop x.limits.session bytes)) over in
            let on = h.going_on in
            cc)
        | inr le ↦ omega (arith, size, reached)
      ]

  abbrev IsTooLongAtQuota : ℕ → Type 0
  IsTooLongAtQuota from = (x.limits.session ≤ length bytes)
      × ((i : ℕ) → i < x.limits.session → refusal_at (stream x) (take i bytes) ≡ None)
      × IsTooLong x (take x.limits.session bytes) from

  long_for : (from : ℕ) → Begins x bytes (λ p. IsTooLong x p from) → IsTooLongAtQuota from
  long_for from (place, within, before, h) =
      let same = at_quota place from within before h in
      (omega (arith, same), (λ i lt. before i (omega (arith, same))), rw same at h)

  pub too_long_at_quota : (from : ℕ)
      → (offence_by (stream x) bytes ≡ Some (offence_at from reasons.SessionTooLong))
      ↔ IsTooLongAtQuota from
  too_long_at_quota from =
      let first = first_is (offence_at from reasons.SessionTooLong)
      (other_end from reasons.SessionTooLong (λ e. cc)) (λ p. IsTooLong x p from)
      (λ p. too_long_is x p from) in
      ((λ e. long_for from (first.0 e)), (λ h. first.1 (x.limits.session, h.0, h.1, h.2)))
