-- What every world keeps.
use Rattle.std.proofs.Common.{◌≡◌, ℕ, zero, suc, ◌+◌, ◌-◌, ◌<◌, ◌≤◌, ◌⊎◌, Bool, true, false, ◌&&◌, ◌==◌, option_map}
use Rattle.std.proofs.Common.{List, [], ◌∷◌, ◌++◌, length, take, slice_get, Some, None, Option, Ok, Err}
use Rattle.std.proofs.Common.{inl, inr, refl, sym, ap, ◌∙◌, subst, arith, nat_le, nat_lt, if◌then◌else◌}
use Rattle.std.proofs.Common.{is_some, IsTrue, length-append, length-drop}
use Rattle.std.proofs.lemmas.Bool.{le-ltb, lt-ltb, cases_eq, cases_lt, eqb-true, leb-false, ltb-false}
use Rattle.std.proofs.lemmas.List.{append-nil, take_more, take-append-le}
use Rattle.std.proofs.lemmas.Option.{none-some, get_or_from_slice_get, same_Some, slice_get_within}
use Rattle.std.specs.Option.{option_to_list}
use Rattle.nbfx_values.specs.declared.content.Item.{Item}
use Rattle.reliable_sequence.specs.declared.{ranges.Range.Range, parts.Data.Data}
use Rattle.reliable_sequence.specs.declared.faults.SubmitFault.TheVariants.{Closed, WindowFull}
use Rattle.reliable_sequence.specs.declared.faults.RmFault.TheVariants.{AfterLast}
use Rattle.reliable_sequence.specs.declared.parts.Taken.TheVariants.{Again, Ahead, New}
use Rattle.reliable_sequence.specs.Ranges.{begun_at, first_above, is_in}
use Rattle.reliable_sequence.specs.Received.{delivered_from, has_number, newest, next_body}
use Rattle.reliable_sequence.specs.Received.{place_of, received, received_again, received_anew}
use Rattle.reliable_sequence.specs.Received.{is_behind, last_with, breaks_the_end, received_ranges}
use Rattle.reliable_sequence.specs.Sent.{is_acknowledged, body_of, data_of, data_with, Sent, sent_with}
use Rattle.reliable_sequence.specs.Sent.{acknowledged_unless, sent_without, submitted_count, without_all}
use Rattle.reliable_sequence.specs.Slots.{body_at, leading_free, Slots, with_body}
use Rattle.reliable_sequence.specs.Soundness.{AreReceived, Has, Holds, IsFaithful, IsSubmitted}
use Rattle.reliable_sequence.specs.Soundness.{Keeps}
use Rattle.reliable_sequence.specs.PlainWorld.{after_acknowledgement, after_arrival, after_submission}
use Rattle.reliable_sequence.specs.PlainWorld.{happens, run, new_world, World, with_sender, after_receipt}
use Rattle.reliable_sequence.specs.declared.events.Event.{Event, TheVariants.Ack, TheVariants.Data as Hand}
use Rattle.reliable_sequence.specs.declared.events.Event.TheVariants.{Deliver, Send, SendAck, Submit}
use Rattle.reliable_sequence.proofs.AckFacts.{acknowledged-parts, received-at, received-before}
use Rattle.reliable_sequence.proofs.NumberFacts.{both-true, either-false, is_none_of, BegunAre, below-more, free-without_all, kept-without_all}
use Rattle.reliable_sequence.proofs.NumberFacts.{none_above, runs-are, runs-below}
use Rattle.reliable_sequence.proofs.PlaceFacts.{body_at-drop, body_at-push, body_at-with_body_other}
use Rattle.reliable_sequence.proofs.PlaceFacts.{leading_free-drop, leading_free-push, body_at-with_body_same, free_at-push, free_in_front}
use Rattle.reliable_sequence.proofs.PlaceFacts.{slice_get-push, slice_get-push_before, slice_get-push_last}
use Rattle.reliable_sequence.proofs.SentFacts.{length-without_all}
use Rattle.reliable_sequence.proofs.SlotFacts.{leading_free-le, length-with_body}

pub faithful-new : (window : ℕ) → IsFaithful (new_world window)
faithful-new window = record {
  keeps = record {
    counted = refl;
    kept = λ place body e. cc;
    passed = λ number le. inl le;
    freed = λ place below e. absurd (omega arith);
    tight = refl;
  };
  holds = record {
    in_order = refl;
    held = λ place body e. cc;
    few = omega arith;
    near = omega arith;
    last = λ number e. cc;
  };
  data_sent = λ at d e. cc;
  ranges_sent = λ at ranges e. cc;
}

-- where more was received
received-more : (bodies : List (List Item)) (s : Sent) (Was Is : ℕ → Type 0)
    → ((number : ℕ) → Was number → Is number) → Keeps bodies s Was → Keeps bodies s Is
received-more bodies s Was Is more k = record {
  counted = k.counted;
  kept = k.kept;
  passed = λ number le. more number (k.passed number le);
  freed = λ place below e. more (s.front + place + 1) (k.freed place below e);
  tight = k.tight;
}

-- a body is submitted
submitted-more : (bodies : List (List Item)) (body : List Item) (d : Data) (last : Bool)
    → IsSubmitted bodies false d → IsSubmitted (bodies ++ body ∷ []) last d
submitted-more bodies body d last s = record {
  counted = s.counted;
  body = slice_get-push_before bodies body (d.number - 1) d.body s.body;
  last = λ e. let no = (s.last e).0 in cc;
}

module _ (w : World) (f : IsFaithful w) where
  faithful-submitted : (body : List Item) (last : Bool) → w.sender.closed ≡ false
      → IsFaithful (record w {
        bodies = w.bodies ++ body ∷ [];
        sender = sent_with w.sender body last;
      })
  faithful-submitted body last still =
      let slots = w.sender.unacknowledged in
      let long = length-append w.bodies (body ∷ []) in
      let wide = length-append slots (Some body ∷ []) in
      let counted = f.keeps.counted in
      let few = f.holds.few in
      record {
        keeps = record {
          counted = omega arith;
          kept = λ place found e.
              elim (body_at-push slots body place found e) [
                | inl before ↦
                    slice_get-push_before w.bodies body (w.sender.front + place) found
                    (f.keeps.kept place found before)
                | inr this ↦
                    let here : w.sender.front + place ≡ length w.bodies =
                    let at = this.0 in omega arith in
                    rw (here, this.1) (slice_get-push_last w.bodies found)
              ];
          passed = f.keeps.passed;
          freed = λ place below e.
              let free = free_at-push slots body place (omega arith) e in
              f.keeps.freed place free.0 free.1;
          tight = leading_free-push slots body f.keeps.tight;
        };
        holds = record {
          in_order = f.holds.in_order
              ∙ sym (take-append-le w.receiver.delivered w.bodies (body ∷ []) (omega arith));
          held = λ place found e.
              slice_get-push_before w.bodies body (w.receiver.delivered + place) found
              (f.holds.held place found e);
          few = omega arith;
          near = f.holds.near;
          last = λ number e. let no = (f.holds.last number e).0 in cc;
        };
        data_sent = λ at d e.
            submitted-more w.bodies body d last
            (subst (λ (closed : Bool). IsSubmitted w.bodies closed d) still (f.data_sent at d e));
        ranges_sent = f.ranges_sent;
      }

  pub faithful-submit : (body : List Item) (last : Bool) → IsFaithful (happens w (Submit body last))
  faithful-submit body last =
      go w.sender.closed (length w.sender.unacknowledged == w.sender.window) refl
    where
      go : (closed full : Bool) → w.sender.closed ≡ closed
          → IsFaithful (after_submission w body
          (if closed then Err Closed
          else if full then Err (WindowFull (length w.sender.unacknowledged))
          else Ok (submitted_count w.sender + 1, sent_with w.sender body last)))
      go true full e = f
      go false true e = f
      go false false e = faithful-submitted body last e

  -- a body is sent
  pub sent-submitted : (number : ℕ) (body : List Item) → body_of w.sender number ≡ Some body
      → IsSubmitted w.bodies w.sender.closed (data_with w.sender number body)
  sent-submitted number body e = go (nat_le number w.sender.front) refl e
    where
      go : (old : Bool) → nat_le number w.sender.front ≡ old
          → (if old then None
          else body_at w.sender.unacknowledged (place_of w.sender.front number)) ≡ Some body
          → IsSubmitted w.bodies w.sender.closed (data_with w.sender number body)
      go true is found = cc
      go false is found =
          let above = leb-false number w.sender.front is in
          let here : w.sender.front + place_of w.sender.front number ≡ number - 1 = omega arith in
          let counted = f.keeps.counted in
          record {
            counted = omega arith;
            body = ap (slice_get w.bodies) (sym here)
                ∙ f.keeps.kept (place_of w.sender.front number) body found;
            last = λ both.
                let parts = both-true w.sender.closed (number == submitted_count w.sender) both in
                (parts.0, eqb-true number (submitted_count w.sender) parts.1 ∙ counted);
          }

  with_data : (sent : Option Data)
      → ((d : Data) → sent ≡ Some d → IsSubmitted w.bodies w.sender.closed d)
      → IsFaithful (record w { data_sent = w.data_sent ++ option_to_list sent })
  with_data sent all = record {
    keeps = f.keeps;
    holds = f.holds;
    data_sent = sent-among sent all;
    ranges_sent = f.ranges_sent;
  }
    where
      sent-among : (more : Option Data)
          → ((d : Data) → more ≡ Some d → IsSubmitted w.bodies w.sender.closed d)
          → (at : ℕ) (d : Data) → slice_get (w.data_sent ++ option_to_list more) at ≡ Some d
          → IsSubmitted w.bodies w.sender.closed d
      sent-among None all at d e =
          f.data_sent at d
          (ap (λ (ds : List Data). slice_get ds at) (sym (append-nil w.data_sent)) ∙ e)
      sent-among (Some this) all at d e =
          elim (slice_get-push w.data_sent this at d e) [
            | inl before ↦ f.data_sent at d before
            | inr last ↦ all d (ap Some last.1)
          ]

  sent-are : (body : Option (List Item)) (number : ℕ) → body_of w.sender number ≡ body
      → (d : Data) → option_map (data_with w.sender number) body ≡ Some d
      → IsSubmitted w.bodies w.sender.closed d
  sent-are None number is d e = cc
  sent-are (Some body) number is d e =
      subst (IsSubmitted w.bodies w.sender.closed) (same_Some _ d e) (sent-submitted number body is)

  pub faithful-send : (number : ℕ) → IsFaithful (happens w (Send number))
  faithful-send number =
      with_data (data_of w.sender number) (sent-are (body_of w.sender number) number refl)

  -- ranges are sent
  received-are : (number : ℕ) → is_in (received_ranges w.receiver) number ≡ true
      → Has w.receiver number
  received-are =
      runs-are (Has w.receiver) w.receiver.held (begun_at w.receiver.delivered) w.receiver.delivered
      (begun (w.receiver.delivered == 0))
      (λ place body found.
      inr (record { place = place; body = body; is = refl; found = found }))
    where
      begun : (none : Bool)
          → BegunAre (Has w.receiver) (if none then None else Some 1) w.receiver.delivered
      begun true = tt
      begun false = λ number low high. inl high

  pub faithful-send_ranges : IsFaithful (happens w SendAck)
  faithful-send_ranges =
      let below = runs-below w.receiver.held (begun_at w.receiver.delivered) w.receiver.delivered
      (newest w.receiver) (omega arith) in
      record {
        keeps = f.keeps;
        holds = f.holds;
        data_sent = f.data_sent;
        ranges_sent = λ at ranges e.
            elim (slice_get-push w.ranges_sent (received_ranges w.receiver) at ranges e) [
              | inl before ↦ f.ranges_sent at ranges before
              | inr this ↦
                  subst (AreReceived w.receiver) this.1
                  (record { each = received-are; below = below })
            ];
      }

  -- ranges are acknowledged
  acknowledged-are : (ranges : List Range) → AreReceived w.receiver ranges
      → IsFaithful (record w { sender = sent_without w.sender ranges })
  acknowledged-are ranges all =
      let front = w.sender.front in
      let slots = w.sender.unacknowledged in
      let left = without_all front slots ranges in
      let count = leading_free left in
      let long = length-without_all front slots ranges in
      let few = leading_free-le left in
      let rest = length-drop count left in
      let counted = f.keeps.counted in
      let free = free-without_all (Has w.receiver) front slots ranges f.keeps.freed all.each in
      record {
        keeps = record {
          counted = omega arith;
          kept = λ place body e.
              let found = kept-without_all front slots ranges (count + place) body
              (sym (body_at-drop count left place) ∙ e) in
              let same : front + (count + place) ≡ front + count + place = omega arith in
              ap (slice_get w.bodies) (sym same) ∙ f.keeps.kept (count + place) body found;
          passed = λ number le.
              elim (cases_lt front number) [
                | inl above ↦
                    let here : front + (number - front - 1) + 1 ≡ number = omega arith in
                    subst (Has w.receiver) here
                    (free (number - front - 1) (omega arith)
                    (free_in_front left (number - front - 1) (omega arith)))
                | inr most ↦ f.keeps.passed number most
              ];
          freed = λ place below e.
              let same : front + (count + place) + 1 ≡ front + count + place + 1 = omega arith in
              subst (Has w.receiver) same
              (free (count + place) (omega arith) (sym (body_at-drop count left place) ∙ e));
          tight = leading_free-drop left;
        };
        holds = f.holds;
        data_sent = f.data_sent;
        ranges_sent = f.ranges_sent;
      }

  pub ranges-accepted : (at : ℕ) (ranges : List Range) → slice_get w.ranges_sent at ≡ Some ranges
      → first_above (submitted_count w.sender) ranges ≡ None
  ranges-accepted at ranges e =
      let counted = f.keeps.counted in
      let few = f.holds.few in
      none_above (submitted_count w.sender) ranges
      (below-more (newest w.receiver) (submitted_count w.sender) ranges (omega arith)
      (f.ranges_sent at ranges e).below)

  pub faithful-take_ranges : (at : ℕ) → IsFaithful (happens w (Ack at))
  faithful-take_ranges at = go (slice_get w.ranges_sent at) refl
    where
      go : (ranges : Option (List Range)) → slice_get w.ranges_sent at ≡ ranges
          → IsFaithful (after_acknowledgement w ranges)
      go None e = f
      go (Some ranges) e =
          subst (λ (above : Option ℕ). IsFaithful (with_sender w (acknowledged_unless above ranges
          w.sender)))
          (sym (ranges-accepted at ranges e))
          (acknowledged-are ranges (f.ranges_sent at ranges e))

  -- a body is delivered
  has-delivered : (body : List Item) (more : Slots) (number : ℕ)
      → Has (record w.receiver { held = Some body ∷ more }) number
      → Has (record w.receiver { delivered = w.receiver.delivered + 1; held = more }) number
  has-delivered body more number (inl le) = inl (omega arith)
  has-delivered body more number (inr h) = at_place h.place h.body h.is h.found
    where
      at_place : (place : ℕ) (found : List Item) → number ≡ w.receiver.delivered + place + 1
          → body_at (Some body ∷ more) place ≡ Some found
          → Has (record w.receiver { delivered = w.receiver.delivered + 1; held = more }) number
      at_place zero found is e = inl (omega arith)
      at_place (suc place) found is e =
          inr (record { place = place; body = found; is = omega arith; found = e })

  ranges-delivered : (body : List Item) (more : Slots) (ranges : List Range)
      → AreReceived (record w.receiver { held = Some body ∷ more }) ranges
      → AreReceived (record w.receiver { delivered = w.receiver.delivered + 1; held = more }) ranges
  ranges-delivered body more ranges all = record {
    each = λ number e. has-delivered body more number (all.each number e);
    below =
        below-more (w.receiver.delivered + length (Some body ∷ more))
        (w.receiver.delivered + 1 + length more) ranges (omega arith) all.below;
  }

  delivered-one : (body : List Item) (more : Slots) → w.receiver.held ≡ Some body ∷ more
      → IsFaithful (record w {
        receiver = record w.receiver { delivered = w.receiver.delivered + 1; held = more };
        delivered = w.delivered ++ body ∷ [];
      })
  delivered-one body more is =
      let long = ap (λ (held : Slots). length held) is in
      let few = f.holds.few in
      let near = f.holds.near in
      let at = λ (place : ℕ). ap (λ (held : Slots). body_at held place) is in
      let first : slice_get w.bodies (w.receiver.delivered + 0) ≡ Some body =
      f.holds.held 0 body (at 0) in
      let here : w.receiver.delivered + 0 ≡ w.receiver.delivered = omega arith in
      let next = ap (slice_get w.bodies) (sym here) ∙ first in
      let step = take_more w.bodies w.receiver.delivered body
      (slice_get_within w.bodies w.receiver.delivered body next) in
      let has = λ (number : ℕ) (h : Has w.receiver number).
      has-delivered body more number
      (subst (λ (held : Slots). Has (record w.receiver { held = held }) number) is h) in
      record {
        keeps = received-more w.bodies w.sender (Has w.receiver) _ has f.keeps;
        holds = record {
          in_order =
              ap (λ (xs : List (List Item)). xs ++ body ∷ []) f.holds.in_order
              ∙ ap (λ (x : List Item). take w.receiver.delivered w.bodies ++ x ∷ [])
              (sym (get_or_from_slice_get w.bodies w.receiver.delivered body body next))
              ∙ sym step;
          held = λ place found e.
              let same : w.receiver.delivered + suc place ≡ w.receiver.delivered + 1 + place = omega
              arith in
              ap (slice_get w.bodies) (sym same) ∙ f.holds.held (suc place) found (at (suc place)
              ∙ e);
          few = omega arith;
          near = omega arith;
          last = f.holds.last;
        };
        data_sent = f.data_sent;
        ranges_sent = λ at ranges e.
            ranges-delivered body more ranges
            (subst (λ (held : Slots). AreReceived (record w.receiver { held = held }) ranges) is
            (f.ranges_sent at ranges e));
      }

  pub faithful-deliver : IsFaithful (happens w Deliver)
  faithful-deliver = go w.receiver.held refl
    where
      none : IsFaithful (record w { delivered = w.delivered ++ [] })
      none = record {
        keeps = f.keeps;
        holds =
            subst (Holds w.bodies w.sender.closed w.receiver) (sym (append-nil w.delivered))
            f.holds;
        data_sent = f.data_sent;
        ranges_sent = f.ranges_sent;
      }

      go : (held : Slots) → w.receiver.held ≡ held
          → IsFaithful (record w {
            receiver = delivered_from w.receiver held;
            delivered = w.delivered ++ option_to_list (next_body held);
          })
      go [] is = none
      go (None ∷ more) is = none
      go (Some body ∷ more) is = delivered-one body more is

  -- a body is taken
  module _ (d : Data) (s : IsSubmitted w.bodies w.sender.closed d) where
    last-noted : (number : ℕ) → last_with d.number d.last w.receiver.last ≡ Some number
        → (w.sender.closed ≡ true) × (number ≡ length w.bodies)
    last-noted number e = go d.last refl e
      where
        go : (last : Bool) → d.last ≡ last
            → last_with d.number last w.receiver.last ≡ Some number
            → (w.sender.closed ≡ true) × (number ≡ length w.bodies)
        go true is noted =
            let marked = s.last is in
            let some = lt-ltb 0 d.number s.counted in
            let kept = ap (λ (b : Bool). if b then Some d.number else w.receiver.last) some in
            (marked.0, sym (same_Some d.number number (sym kept ∙ noted)) ∙ marked.1)
        go false is noted = f.holds.last number noted

    taken-again : IsFaithful (record w { receiver = received_again w.receiver d })
    taken-again = record {
      keeps = f.keeps;
      holds = record {
        in_order = f.holds.in_order;
        held = f.holds.held;
        few = f.holds.few;
        near = f.holds.near;
        last = last-noted;
      };
      data_sent = f.data_sent;
      ranges_sent = λ at ranges e.
          let all = f.ranges_sent at ranges e in record { each = all.each; below = all.below };
    }

    -- the place of a number that wasn't received is free
    module _ (above : w.receiver.delivered < d.number)
        (free : body_at w.receiver.held (place_of w.receiver.delivered d.number) ≡ None) where
      has-taken : (number : ℕ) → Has w.receiver number → Has (received_anew w.receiver d) number
      has-taken number (inl le) = inl le
      has-taken number (inr h) =
          let other = λ (same : h.place ≡ place_of w.receiver.delivered d.number).
          none-some h.body
          (sym free ∙ ap (body_at w.receiver.held) (sym same) ∙ h.found) in
          inr (record {
            place = h.place;
            body = h.body;
            is = h.is;
            found =
                body_at-with_body_other w.receiver.held (place_of w.receiver.delivered d.number)
                d.body h.place other
                ∙ h.found;
          })

      taken-anew : d.number ≤ w.receiver.delivered + w.receiver.window
          → IsFaithful (record w { receiver = received_anew w.receiver d })
      taken-anew near =
          let held = w.receiver.held in
          let place = place_of w.receiver.delivered d.number in
          let long = length-with_body held place d.body in
          let within = slice_get_within w.bodies (d.number - 1) d.body s.body in
          let few = f.holds.few in
          let close = f.holds.near in
          record {
            keeps = received-more w.bodies w.sender (Has w.receiver) _ has-taken f.keeps;
            holds = record {
              in_order = f.holds.in_order;
              held = λ at found e.
                  elim (cases_eq at place) [
                    | inl same ↦
                        let here : d.number - 1 ≡ w.receiver.delivered + at = omega arith in
                        let this = same_Some d.body found
                        (sym (body_at-with_body_same held place d.body)
                        ∙ ap (body_at (with_body held place d.body)) (sym same) ∙ e) in
                        ap (slice_get w.bodies) (sym here) ∙ s.body ∙ ap Some this
                    | inr other ↦
                        f.holds.held at found
                        (sym (body_at-with_body_other held place d.body at other) ∙ e)
                  ];
              few = omega arith;
              near = omega arith;
              last = last-noted;
            };
            data_sent = f.data_sent;
            ranges_sent = λ at ranges e.
                let all = f.ranges_sent at ranges e in
                record {
                  each = λ number found. has-taken number (all.each number found);
                  below =
                      below-more (newest w.receiver) (newest (received_anew w.receiver d)) ranges
                      (omega arith) all.below;
                };
          }

    arrived : IsFaithful (after_receipt w (received w.receiver d))
    arrived =
        go (breaks_the_end w.receiver d) (has_number w.receiver d.number)
        (nat_lt (w.receiver.delivered + w.receiver.window) d.number) refl refl
      where
        go : (broken had far : Bool) → has_number w.receiver d.number ≡ had
            → nat_lt (w.receiver.delivered + w.receiver.window) d.number ≡ far
            → IsFaithful (after_receipt w
            (if broken then Err (AfterLast d.number) else Ok
            (if had then (Again, received_again w.receiver d)
            else if far then (Ahead d.number, w.receiver)
            else (New, received_anew w.receiver d))))
        go true had far is reach = f
        go false true far is reach = taken-again
        go false false true is reach = f
        go false false false is reach =
            let place = place_of w.receiver.delivered d.number in
            let neither =
            either-false (nat_le d.number w.receiver.delivered)
            (is_some (body_at w.receiver.held place)) is in
            taken-anew (leb-false d.number w.receiver.delivered neither.0)
            (is_none_of (body_at w.receiver.held place) neither.1)
            (ltb-false (w.receiver.delivered + w.receiver.window) d.number reach)

    accepted : breaks_the_end w.receiver d ≡ false
    accepted =
        rw (behind w.receiver.last refl) (marked d.last refl)
      where
        within : d.number - 1 < length w.bodies
        within = slice_get_within w.bodies (d.number - 1) d.body s.body

        behind : (last : Option ℕ) → w.receiver.last ≡ last → is_behind last d.number ≡ false
        behind None is = refl
        behind (Some last) is =
            let end = (f.holds.last last is).1 in
            let within = within in
            let counted = s.counted in
            le-ltb last d.number (omega arith)

        marked : (last : Bool) → d.last ≡ last → last && nat_lt d.number (newest w.receiver) ≡ false
        marked true is =
            let end = (s.last is).1 in
            let few = f.holds.few in
            le-ltb d.number (newest w.receiver) (omega arith)
        marked false is = refl

  pub faithful-take_data : (at : ℕ) → IsFaithful (happens w (Hand at))
  faithful-take_data at = go (slice_get w.data_sent at) refl
    where
      go : (sent : Option Data) → slice_get w.data_sent at ≡ sent
          → IsFaithful (after_arrival w sent)
      go None e = f
      go (Some d) e = arrived d (f.data_sent at d e)

  pub data-accepted : (at : ℕ) (d : Data) → slice_get w.data_sent at ≡ Some d
      → breaks_the_end w.receiver d ≡ false
  data-accepted at d e = accepted d (f.data_sent at d e)

  -- what is acknowledged was received
  has-true : (number : ℕ) → Has w.receiver number → IsTrue (has_number w.receiver number)
  has-true number (inl le) = received-before w.receiver number le
  has-true number (inr h) =
      subst (λ (n : ℕ). IsTrue (has_number w.receiver n)) (sym h.is)
      (received-at w.receiver h.place h.body h.found)

  pub acknowledged-received : (number : ℕ) → IsTrue (is_acknowledged w.sender number)
      → IsTrue (has_number w.receiver number)
  acknowledged-received number holds =
      let a = acknowledged-parts w.sender number holds in
      has-true number (go a.submitted a.free)
    where
      go : number ≤ submitted_count w.sender
          → (number ≤ w.sender.front) ⊎ ((w.sender.front < number)
          × (body_at w.sender.unacknowledged (place_of w.sender.front number) ≡ None))
          → Has w.receiver number
      go low (inl passed) = f.keeps.passed number passed
      go low (inr found) =
          let place = place_of w.sender.front number in
          let above = found.0 in
          let here : w.sender.front + place + 1 ≡ number = omega arith in
          subst (Has w.receiver) here (f.keeps.freed place (omega arith) found.1)

pub faithful-happens : (w : World) → IsFaithful w → (event : Event) → IsFaithful (happens w event)
faithful-happens w f (Submit body last) = faithful-submit w f body last
faithful-happens w f (Send number) = faithful-send w f number
faithful-happens w f (Hand at) = faithful-take_data w f at
faithful-happens w f Deliver = faithful-deliver w f
faithful-happens w f SendAck = faithful-send_ranges w f
faithful-happens w f (Ack at) = faithful-take_ranges w f at

pub faithful-run : (w : World) → IsFaithful w → (events : List Event) → IsFaithful (run w events)
faithful-run w f [] = f
faithful-run w f (event ∷ more) = faithful-run (happens w event) (faithful-happens w f event) more

-- every world is faithful
pub faithful : (window : ℕ) (events : List Event) → IsFaithful (run (new_world window) events)
faithful window events = faithful-run (new_world window) (faithful-new window) events
