-- What the next bytes of a payload are answered with, and what they leave.
use Rattle.std.proofs.Common.{◌≡◌, ℕ, ◌+◌, ◌^◌, ◌<◌, ◌≤◌, List, [], ◌++◌, length, take, Some, None}
use Rattle.std.proofs.Common.{Ok, Err, sym, refl, ap, ◌∙◌, subst, arith, length-append}
use Rattle.unit_streams.{proofs.Answers.answers_are_first, specs.Going.IsQuiet}
use Rattle.unit_streams.specs.Judging.{answer, goes_on, offends, refusal_at}
use Rattle.nbfx_decoder.specs.{declared.decoder.Decoder.Decoder, Taking.AllAnswers}
use Rattle.nbfx_decoder.specs.declared.faults.{DecodeFault.DecodeFault, UnitFault.UnitFault}
use Rattle.nbfx_decoder.specs.declared.faults.UnitFault.TheVariants.{Memory, Refused}
use Rattle.nbfx_decoder.specs.{Answers.ShowsFault, Payload.payload, Payload.refusal}
use Rattle.nbfx_decoder.specs.DecoderState.{FailedBehind, FailedWithin, FeedAnswers, from_of}
use Rattle.nbfx_decoder.specs.DecoderState.{IsPlacedAt, settings_of, ShownBy, situation_of}
use Rattle.nbfx_decoder.specs.DecoderState.{StandsFor, taken_of}
use Rattle.nbfx_decoder.specs.Units.{HasStrings, KeepsSettings, KeepsTable}
use Rattle.nbfx_decoder.proofs.AllSteps.{going_unrefused}
use Rattle.nbfx_decoder.proofs.Keeping.{keeps_settings, settings_through, strings_kept}
use Rattle.nbfx_decoder.proofs.StandsFacts.{counts_taken, failed_of, settings_kept, stands_as}
use Rattle.nbfx_decoder.proofs.StandsFacts.{stands_of, still_pending, taken_is}
use Rattle.nbfx_decoder.specs.declared.faults.DecodeFault.TheVariants as decode_faults

module _ (d mid : Decoder) (strings : List (List ℕ)) (p y : List ℕ) (h : StandsFor d strings p)
    (kept : KeepsSettings d.units mid.units) where
  -- all of the piece is taken
  module _ (all : AllAnswers (settings_of d) strings p y mid (Ok tt)) where
    pub answer_goes_on : answer (payload (settings_of d) strings) p y ≡ goes_on
    answer_goes_on = (answers_are_first (payload (settings_of d) strings) p y goes_on).1
        (all.0, going_unrefused (settings_of d) strings (p ++ y) all.1.going)

    pub stands_behind : taken_of d + length y ≤ (settings_of d).limits.payload
        → StandsFor mid strings (p ++ y)
    stands_behind le =
        let size = length-append p y in
        let taken = taken_is d strings p h in
        let s = stands_as d strings p h in
        stands_of mid (settings_of d) strings (p ++ y) (settings_kept d mid kept) (record {
          reached = all.1;
          pending = still_pending (settings_of d) strings p y s.pending all.0
              (going_unrefused (settings_of d) strings (p ++ y) all.1.going);
          within = omega (arith, le, size, taken);
          before = s.before;
        })

  -- or a fault is shown
  module _ (new : Decoder) (fault : UnitFault) (told : DecodeFault)
      (shows : ShowsFault mid.units.from fault told) (failure : new.failure ≡ Some told)
      (no_bytes : new.begun ≡ []) (no_items : new.units.document ≡ [])
      (from : new.units.from ≡ mid.units.from) (same : KeepsTable mid.units new.units) where
    all_kept : KeepsSettings d.units new.units
    all_kept = settings_through kept (keeps_settings same)

    failed_at : (q : List ℕ) (at : ℕ) → HasStrings mid.units (settings_of d)
        (situation_of (settings_of d) strings q).strings at → IsPlacedAt
        (from_of (settings_of d) strings q) told mid.units.from → FailedBehind new told strings q
    failed_at q at set place =
        failed_of new (settings_of d) told strings q (settings_kept d new all_kept) (record {
          failure = failure;
          place = subst (IsPlacedAt (from_of (settings_of d) strings q) told) (sym from) place;
          strings_are = strings_kept same set refl;
          no_bytes = no_bytes;
          no_items = no_items;
        })

    unrefused_before : (n : ℕ) → IsQuiet (payload (settings_of d) strings) p y n → (i : ℕ) → i < n
        → refusal_at (payload (settings_of new) strings) (p ++ take i y) ≡ None
    unrefused_before n quiet i lt = ap (λ s. refusal_at (payload s strings) (p ++ take i y))
        (settings_kept d new all_kept) ∙ quiet.unrefused i lt

    module _ (few : d.units.from + length d.begun + length y < 2 ^ 32) where
      told_as : (reason : _) (k n at : ℕ) → fault ≡ Refused reason k → n ≤ length y → at + k
          ≡ length p + n → mid.units.from ≡ at → told ≡ decode_faults.Payload at reason
          (length p + n)
      told_as reason k n at is le sum place =
          let size = counts_taken d strings p h in
          let s : ShowsFault mid.units.from (Refused reason k) told = subst
          (λ (f : UnitFault). ShowsFault mid.units.from f told) is shows in
          s (omega (arith, few, size, le, sum, place))
          ∙ ap (λ n. decode_faults.Payload n reason (n + k)) place ∙
          ap (decode_faults.Payload at reason) sum

      pub answer_fault : AllAnswers (settings_of d) strings p y mid (Err fault)
          → FeedAnswers (settings_of d) strings p y (Err told)
      answer_fault all = by_fault fault refl all
        where
          by_fault : (f : UnitFault) → fault ≡ f → AllAnswers (settings_of d) strings p y mid
              (Err f) → FeedAnswers (settings_of d) strings p y (Err told)
          by_fault (Refused reason k) is (n, at, quiet, refused, sum, set) =
              rw (told_as reason k n at is quiet.within sum set.from_is) (
                n,
                (answers_are_first (payload (settings_of d) strings) p y
                    (offends n (refusal at reason))).1 (quiet, refused),
                refl,
              )
          by_fault Memory is all =
              let s : ShowsFault mid.units.from Memory told = subst
              (λ (f : UnitFault). ShowsFault mid.units.from f told) is shows in
              rw s tt

      pub failed_within : AllAnswers (settings_of d) strings p y mid (Err fault) → FailedWithin new
          told strings p y
      failed_within all = by_fault fault refl all
        where
          by_fault : (f : UnitFault) → fault ≡ f → AllAnswers (settings_of d) strings p y mid
              (Err f) → FailedWithin new told strings p y
          by_fault (Refused reason k) is (n, at, quiet, refused, sum, set) = record {
            count = n;
            within = quiet.within;
            before = unrefused_before n quiet;
            shown = subst (λ (t : DecodeFault). ShownBy t (length p + n))
                (sym (told_as reason k n at is quiet.within sum set.from_is)) refl;
            wanted = λ memory. let bad = sym (told_as reason k n at is quiet.within sum set.from_is)
                ∙ memory in cc;
            behind = failed_at (p ++ take n y) at set
                (subst (λ (t : DecodeFault). IsPlacedAt
                (from_of (settings_of d) strings (p ++ take n y)) t mid.units.from)
                (sym (told_as reason k n at is quiet.within sum set.from_is)) set.from_is);
          }
          by_fault Memory is (n, quiet, more, none, set) =
              let s : ShowsFault mid.units.from Memory told = subst
              (λ (f : UnitFault). ShowsFault mid.units.from f told) is shows in
              record {
                count = n;
                within = quiet.within;
                before = unrefused_before n quiet;
                shown = subst (λ (t : DecodeFault). ShownBy t (length p + n)) (sym s) tt;
                wanted = λ memory. (
                  more,
                  ap (λ s. refusal_at (payload s strings) (p ++ take n y))
                      (settings_kept d new all_kept) ∙ none,
                );
                behind = failed_at (p ++ take n y)
                    (from_of (settings_of d) strings (p ++ take n y)) set
                    (subst (λ (t : DecodeFault). IsPlacedAt
                    (from_of (settings_of d) strings (p ++ take n y)) t mid.units.from) (sym s)
                    set.from_is);
              }
