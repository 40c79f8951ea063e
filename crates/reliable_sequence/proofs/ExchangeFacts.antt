-- What each event makes of the parts of a world.
use Rattle.std.proofs.Common.{◌≡◌, ℕ, suc, ◌+◌, ◌-◌, Bool, true, false, ◌&&◌, not, List, [], ◌∷◌, ◌++◌, map}
use Rattle.std.proofs.Common.{nat_le, nat_lt, if◌then◌else◌, slice_get, take, Some, None, Option, Ok, Err}
use Rattle.std.proofs.Common.{Result, option_map, refl, sym, ap, ◌∙◌, subst}
use Rattle.std.proofs.lemmas.{Bool.leb-false, Bool.lt-ltb, Option.slice_get-map}
use Rattle.std.specs.Option.{option_to_list}
use Rattle.nbfx_values.specs.declared.content.Item.{Item}
use Rattle.reliable_sequence.specs.declared.{parts.Data.Data, parts.Marked.Marked, ranges.Range.Range}
use Rattle.reliable_sequence.specs.declared.{faults.RmFault.RmFault, faults.SubmitFault.SubmitFault}
use Rattle.reliable_sequence.specs.declared.faults.RmFault.TheVariants.{AfterLast}
use Rattle.reliable_sequence.specs.declared.parts.Taken.{Taken, TheVariants.Again, TheVariants.Ahead}
use Rattle.reliable_sequence.specs.declared.parts.Taken.TheVariants.{New}
use Rattle.reliable_sequence.specs.declared.events.Event.{Event, TheVariants.Ack, TheVariants.Data as Hand}
use Rattle.reliable_sequence.specs.declared.events.Event.TheVariants.{Deliver, Send, SendAck, Submit}
use Rattle.reliable_sequence.specs.Exchange.{after_data, after_ranges, body_or_none, data_at}
use Rattle.reliable_sequence.specs.Exchange.{is_wanted, kept_of, mark_of, marked, with_submission, world_of}
use Rattle.reliable_sequence.specs.PlainWorld.{after_acknowledgement as world_after_ranges}
use Rattle.reliable_sequence.specs.PlainWorld.{after_arrival, after_receipt as world_after_receipt}
use Rattle.reliable_sequence.specs.PlainWorld.{after_submission, happens, with_sender, World}
use Rattle.reliable_sequence.specs.Received.{after_delivery, breaks_the_end, has_number, Received, received}
use Rattle.reliable_sequence.specs.Received.{received_again, received_anew, received_ranges}
use Rattle.reliable_sequence.specs.Rehearsal.{after_acknowledgement, after_receipt, kept_after, MayHappen}
use Rattle.reliable_sequence.specs.Rehearsal.{Rehearsal}
use Rattle.reliable_sequence.specs.Sent.{acknowledged, body_of, data_with, Sent, submitted}
use Rattle.reliable_sequence.specs.Soundness.{IsFaithful, IsSound}
use Rattle.reliable_sequence.proofs.{PlaceFacts.slice_get-push_before, RehearsalFacts.one-more}
use Rattle.reliable_sequence.proofs.RehearsalFacts.{rehearsed-as, sound-happens}
use Rattle.reliable_sequence.proofs.WorldFacts.{sent-submitted}

-- a world is known by its other parts: what it delivered are the first bodies
abbrev rebuilt : World → World
rebuilt w = record w { delivered = take w.receiver.delivered w.bodies }

rebuilt-is : (w : World) → IsFaithful w → rebuilt w ≡ w
rebuilt-is w f =
    ap (λ (ds : List (List Item)). record w { delivered = ds }) (sym f.holds.in_order)

-- so is the next one, and what is kept of it
module _ (identifier : List ℕ) (w : World) (s : IsSound w) (event : Event)
    (may : MayHappen (kept_of identifier w) event) (next : World)
    (is : next ≡ rebuilt (happens w event)) where
  next-is : next ≡ happens w event
  next-is = is ∙ rebuilt-is (happens w event) (sound-happens identifier w s event may).faithful

  pub sound-next : IsSound next
  sound-next = subst IsSound (sym next-is) (sound-happens identifier w s event may)

  pub kept-next : kept_of identifier next ≡ kept_after (kept_of identifier w) event
  kept-next =
      ap (kept_of identifier) next-is
      ∙ sym (ap (λ (r : Rehearsal). r.kept) (rehearsed-as identifier w s event))

-- what is sent under a number stays the same
same-data : (bodies : List (List Item)) (body : List Item) (marks : List Marked)
    → ((at : ℕ) (d : Data) → slice_get (map (data_at bodies) marks) at ≡ Some d
    → slice_get bodies (d.number - 1) ≡ Some d.body)
    → map (data_at (bodies ++ body ∷ [])) marks ≡ map (data_at bodies) marks
same-data bodies body [] all = refl
same-data bodies body (m ∷ marks) all =
    let found = all 0 (data_at bodies m) refl in
    let there = slice_get-push_before bodies body (m.number - 1) (data_at bodies m).body found in
    let same : data_at (bodies ++ body ∷ []) m ≡ data_at bodies m =
    ap (λ (o : Option (List Item)). record {
      number = m.number;
      last = m.last;
      body = body_or_none o;
    }) (there ∙ sym found) in
    ap (λ (d : Data). d ∷ map (data_at (bodies ++ body ∷ [])) marks) same
    ∙ ap (λ (ds : List Data). data_at bodies m ∷ ds)
    (same-data bodies body marks (λ at d e. all (suc at) d e))

-- ---- the next parts

module _ (s : Sent) (r : Received) (bodies : List (List Item)) (marks : List Marked)
    (ranges : List (List Range)) where
  abbrev w : World
  w = world_of s r bodies marks ranges

  pub submitted-next : IsSound w → (body : List Item) (last : Bool) (end : Sent)
      (all : List (List Item))
      → (end, all) ≡ with_submission s bodies body (submitted s body last)
      → world_of end r all marks ranges ≡ rebuilt (happens w (Submit body last))
  submitted-next f body last end all is =
      ap (λ (p : Sent × List (List Item)). world_of p.0 r p.1 marks ranges) is
      ∙ go (submitted s body last)
    where
      go : (answer : Result (ℕ × Sent) SubmitFault)
          → let p = with_submission s bodies body answer in
          world_of p.0 r p.1 marks ranges ≡ rebuilt (after_submission w body answer)
      go (Err fault) = refl
      go (Ok a) =
          ap (λ (ds : List Data). record (world_of a.1 r (bodies ++ body ∷ []) marks ranges) {
            data_sent = ds;
          }) (same-data bodies body marks (λ at d e. (f.faithful.data_sent at d e).body))

  pub sent-next : IsSound w → (number : ℕ) (more : List Marked)
      → more ≡ marks ++ option_to_list (mark_of s number)
      → world_of s r bodies more ranges ≡ rebuilt (happens w (Send number))
  sent-next f number more is =
      ap (λ (ms : List Marked). world_of s r bodies ms ranges) is
      ∙ ap (λ (ds : List Data). record w { data_sent = ds })
      (sym (one-more (data_at bodies) marks (mark_of s number))
      ∙ ap (λ (o : Option Data). map (data_at bodies) marks ++ option_to_list o)
      (same (body_of s number) refl))
    where
      same : (body : Option (List Item)) → body_of s number ≡ body
          → option_map (data_at bodies) (option_map (marked s number) body)
          ≡ option_map (data_with s number) body
      same None is = refl
      same (Some body) is =
          ap (λ (o : Option (List Item)). Some (record (data_with s number body) {
            body = body_or_none o;
          })) (sent-submitted w f.faithful number body is).body

  pub handed-next : (at : ℕ) (end : Received) (same : List (List Range)) → same ≡ ranges
      → end ≡ after_data r (option_map (data_at bodies) (slice_get marks at))
      → world_of s end bodies marks same ≡ rebuilt (happens w (Hand at))
  handed-next at end same kept is =
      ap (λ (rs : List (List Range)). world_of s end bodies marks rs) kept
      ∙ ap (λ (e : Received). world_of s e bodies marks ranges) is
      ∙ ap (λ (o : Option Data). world_of s (after_data r o) bodies marks ranges)
      (sym (slice_get-map (data_at bodies) marks at))
      ∙ go (slice_get w.data_sent at)
    where
      by : (answer : Result (Taken × Received) RmFault)
          → world_of s (after_receipt r answer) bodies marks ranges
          ≡ rebuilt (world_after_receipt w answer)
      by (Ok taken) = refl
      by (Err fault) = refl

      go : (o : Option Data)
          → world_of s (after_data r o) bodies marks ranges ≡ rebuilt (after_arrival w o)
      go None = refl
      go (Some d) = by (received r d)

  pub delivered-next : (end : Received) (same : List (List Range)) → same ≡ ranges
      → end ≡ after_delivery r → world_of s end bodies marks same ≡ rebuilt (happens w Deliver)
  delivered-next end same kept is =
      ap (λ (rs : List (List Range)). world_of s end bodies marks rs) kept
      ∙ ap (λ (e : Received). world_of s e bodies marks ranges) is

  pub ranged-next : (same : Received) (more : List (List Range)) → same ≡ r
      → more ≡ ranges ++ received_ranges r ∷ []
      → world_of s same bodies marks more ≡ rebuilt (happens w SendAck)
  ranged-next same more kept is =
      ap (λ (e : Received). world_of s e bodies marks more) kept
      ∙ ap (λ (rs : List (List Range)). world_of s r bodies marks rs) is

  pub heard-next : (at : ℕ) (end : Sent) → end ≡ after_ranges s (slice_get ranges at)
      → world_of end r bodies marks ranges ≡ rebuilt (happens w (Ack at))
  heard-next at end is =
      ap (λ (e : Sent). world_of e r bodies marks ranges) is ∙ go (slice_get ranges at)
    where
      by : (answer : Result Sent RmFault)
          → world_of (after_acknowledgement s answer) r bodies marks ranges
          ≡ rebuilt (with_sender w answer)
      by (Ok next) = refl
      by (Err fault) = refl

      go : (o : Option (List Range))
          → world_of (after_ranges s o) r bodies marks ranges ≡ rebuilt (world_after_ranges w o)
      go None = refl
      go (Some rs) = by (acknowledged s rs)

-- a body that isn't wanted isn't looked at
module _ (r : Received) (number : ℕ) (last : Bool) where
  abbrev sent : List Item → Data
  sent body = record { number = number; last = last; body = body }

  abbrev answer : (broken had : Bool) → List Item → Result (Taken × Received) RmFault
  answer broken had given =
      if broken then Err (AfterLast number) else Ok
      (if had then (Again, received_again r (sent given))
      else if nat_lt (r.delivered + r.window) number then (Ahead number, r)
      else (New, received_anew r (sent given)))

  pub unwanted : (body other : List Item) → is_wanted r number ≡ false
      → after_receipt r (received r (sent body)) ≡ after_receipt r (received r (sent other))
  unwanted body other is = go (breaks_the_end r (sent body)) (has_number r number) is
    where
      go : (broken had : Bool) → not had && nat_le number (r.delivered + r.window) ≡ false
          → after_receipt r (answer broken had body) ≡ after_receipt r (answer broken had other)
      go true had none = refl
      go false true none = refl
      go false false none =
          rw (lt-ltb (r.delivered + r.window) number (leb-false number (r.delivered + r.window)
          none))
          refl
