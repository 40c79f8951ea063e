-- What events say, with one more, and what is due before one of them begins a session.
use Rattle.std.proofs.Common.{◌≡◌, ℕ, Bool, true, false, not, ◌||◌, List, [], ◌∷◌, ◌++◌}
use Rattle.std.proofs.Common.{Some, None, sym, refl, ap, ◌∙◌, subst, inl}
use Rattle.unit_streams.proofs.Telling.{state_append, state_one}
use Rattle.unit_streams.specs.Tellers.{state_behind}
use Rattle.nbfx_values.specs.declared.session.{Kind.Kind, Mode.Mode}
use Rattle.nbfx_encoder.specs.declared.sender.Side.{Side}
use Rattle.nbfx_encoder.specs.declared.sender.Side.TheVariants.{Initiator, Receiver}
use Rattle.session_report.specs.declared.reading.Event.{Event}
use Rattle.relay.specs.declared.beginning.{Beginning.Beginning, Begun.Begun}
use Rattle.stream_loop.specs.PartsDue.{AreDue}
use Rattle.relay.specs.{Beginning.begun_at, Beginning.HasWaited}
use Rattle.relay.specs.Events.{begins, faulted_along, has_begun, is_fault, kind_in, mode_in}
use Rattle.relay.specs.Carried.{behind, Carried, carried_by, carries, Carrying, opened, start}
use Rattle.relay.specs.Carried.{told_for}
use Rattle.session_report.specs.declared.reading.Event.TheVariants as heard
use Rattle.relay.specs.declared.beginning.Begun.TheVariants as begun

-- ---- one event more

pub faulted_more : (faulted : Bool) (events : List Event) (event : Event)
    → faulted_along faulted (events ++ event ∷ []) ≡ is_fault event
unfolding faulted_along
faulted_more faulted [] event = refl
faulted_more faulted (one ∷ events) event = faulted_more (is_fault one) events event

or_assoc : (a b c : Bool) → (a || (b || c)) ≡ ((a || b) || c)
or_assoc true b c = refl
or_assoc false b c = refl

pub begun_more : (side : Side) (events more : List Event)
    → has_begun side (events ++ more) ≡ has_begun side events || has_begun side more
unfolding has_begun
begun_more side [] more = refl
begun_more side (one ∷ events) more = ap (λ (b : Bool). begins one side || b)
    (begun_more side events more)
    ∙ or_assoc (begins one side) (has_begun side events) (has_begun side more)

or_false : (b c : Bool) → b ≡ false → c ≡ false → (b || c) ≡ false
or_false b c is also = rw (is, also) refl

-- none of the events begins a session, and another doesn't
pub unbegun_more : (side : Side) (events : List Event) (event : Event)
    → has_begun side events ≡ false → begins event side ≡ false
    → has_begun side (events ++ event ∷ []) ≡ false
unfolding has_begun
unbegun_more side events event none not =
    begun_more side events (event ∷ [])
    ∙ or_false (has_begun side events) (begins event side || false) none
    (or_false (begins event side) false not refl)

-- one of them does
pub still_begun : (side : Side) (events more : List Event) → has_begun side events ≡ true
    → has_begun side (events ++ more) ≡ true
still_begun side events more is =
    begun_more side events more ∙ ap (λ (b : Bool). b || has_begun side more) is

or_true : (b : Bool) → (b || true) ≡ true
or_true true = refl
or_true false = refl

-- what an event begins
pub begins_as : (event : Event) (side : Side) (halt : Begun) → begun_at event side ≡ Some halt
    → begins event side ≡ true
begins_as (heard.Opened mode kind via) Initiator halt is = refl
begins_as (heard.Opened mode kind via) Receiver halt is = cc
begins_as heard.Accepted Initiator halt is = cc
begins_as heard.Accepted Receiver halt is = refl
begins_as (heard.Message received) side halt is = cc
begins_as (heard.Ended n) side halt is = cc
begins_as (heard.PeerFault n text) side halt is = cc

pub begins_not : (event : Event) (side : Side) → begun_at event side ≡ None
    → begins event side ≡ false
begins_not (heard.Opened mode kind via) Initiator is = cc
begins_not (heard.Opened mode kind via) Receiver is = refl
begins_not heard.Accepted Initiator is = refl
begins_not heard.Accepted Receiver is = cc
begins_not (heard.Message received) side is = refl
begins_not (heard.Ended n) side is = refl
begins_not (heard.PeerFault n text) side is = refl

pub begun_at_last : (side : Side) (before : List Event) (event : Event) (halt : Begun)
    → begun_at event side ≡ Some halt → has_begun side (before ++ event ∷ []) ≡ true
unfolding has_begun
begun_at_last side before event halt is =
    begun_more side before (event ∷ [])
    ∙ ap (λ (b : Bool). has_begun side before || (b || false)) (begins_as event side halt is)
    ∙ or_true (has_begun side before)

-- and isn't a Fault
pub no_fault : (event : Event) (side : Side) (halt : Begun) → begun_at event side ≡ Some halt
    → is_fault event ≡ false
no_fault (heard.Opened mode kind via) side halt is = refl
no_fault heard.Accepted side halt is = refl
no_fault (heard.Message received) side halt is = refl
no_fault (heard.Ended n) side halt is = refl
no_fault (heard.PeerFault n text) side halt is = cc

-- ---- the mode and the encoding

-- those of the first preamble
mode_first : (before : List Event) (mode : Mode) (kind : Kind) (via : List ℕ)
    → has_begun Initiator before ≡ false
    → (mode_in (before ++ heard.Opened mode kind via ∷ []) ≡ mode)
    × (kind_in (before ++ heard.Opened mode kind via ∷ []) ≡ kind)
unfolding has_begun mode_in kind_in
mode_first [] mode kind via none = (refl, refl)
mode_first (heard.Opened m k v ∷ before) mode kind via none = cc
mode_first (heard.Accepted ∷ before) mode kind via none = mode_first before mode kind via none
mode_first (heard.Message r ∷ before) mode kind via none = mode_first before mode kind via none
mode_first (heard.Ended n ∷ before) mode kind via none = mode_first before mode kind via none
mode_first (heard.PeerFault n t ∷ before) mode kind via none =
    mode_first before mode kind via none

pub named_first : (before : List Event) (event : Event) (mode : Mode) (kind : Kind)
    → has_begun Initiator before ≡ false
    → begun_at event Initiator ≡ Some (begun.Opened mode kind)
    → (mode_in (before ++ event ∷ []) ≡ mode) × (kind_in (before ++ event ∷ []) ≡ kind)
named_first before (heard.Opened m k via) mode kind none is =
    let both : begun.Opened m k ≡ begun.Opened mode kind = cc in
    let h = mode_first before m k via none in
    let mm : m ≡ mode = cc in
    let kk : k ≡ kind = cc in
    (h.0 ∙ mm, h.1 ∙ kk)
named_first before heard.Accepted mode kind none is = cc
named_first before (heard.Message r) mode kind none is = cc
named_first before (heard.Ended n) mode kind none is = cc
named_first before (heard.PeerFault n t) mode kind none is = cc

-- later events leave them
pub named_more : (events more : List Event) → has_begun Initiator events ≡ true
    → (mode_in (events ++ more) ≡ mode_in events) × (kind_in (events ++ more) ≡ kind_in events)
unfolding has_begun mode_in kind_in
named_more [] more some = cc
named_more (heard.Opened m k v ∷ events) more some = (refl, refl)
named_more (heard.Accepted ∷ events) more some = named_more events more some
named_more (heard.Message r ∷ events) more some = named_more events more some
named_more (heard.Ended n ∷ events) more some = named_more events more some
named_more (heard.PeerFault n t ∷ events) more some = named_more events more some

-- ---- what is due

module _ (x : Carrying) where
  pub carried_more : (events : List Event) (event : Event)
      → carried_by x (events ++ event ∷ []) ≡ behind x (carried_by x events) event
  carried_more events event =
      state_append (carries x) events (event ∷ []) (start x)
      ∙ state_one (carries x) event (carried_by x events)

  -- an event that begins nothing leaves the start as it is, and nothing is due for it
  still_start : (event : Event) → begins event x.side ≡ false
      → (behind x (start x) event ≡ start x) × (told_for x (start x) event ≡ [])
  still_start (heard.Opened mode kind via) unopened = rw unopened (refl, refl)
  still_start heard.Accepted unopened = rw unopened (refl, refl)
  still_start (heard.Message received) unopened = (refl, refl)
  still_start (heard.Ended n) unopened = rw unopened (refl, refl)
  still_start (heard.PeerFault n text) unopened = rw unopened (refl, refl)

  first_not : (a b : Bool) → (a || b) ≡ false → a ≡ false
  first_not true b none = cc
  first_not false b none = refl

  second_not : (a b : Bool) → (a || b) ≡ false → b ≡ false
  second_not true b none = cc
  second_not false b none = none

  pub unbegun_start : (events : List Event) → has_begun x.side events ≡ false
      → carried_by x events ≡ start x
  unfolding has_begun state_behind
  unbegun_start [] none = refl
  unbegun_start (event ∷ events) none =
      let here = first_not (begins event x.side) (has_begun x.side events) none in
      let later = second_not (begins event x.side) (has_begun x.side events) none in
      ap (λ (s : Carried). state_behind (carries x) s events) (still_start event here).0
      ∙ unbegun_start events later

  pub unbegun_due : (events : List Event) → has_begun x.side events ≡ false
      → AreDue (carries x) (λ s. s.documents) (start x) events []
  unfolding has_begun AreDue
  unbegun_due [] none = refl
  unbegun_due (event ∷ events) none =
      let here = first_not (begins event x.side) (has_begun x.side events) none in
      let later = second_not (begins event x.side) (has_begun x.side events) none in
      let h = still_start event here in
      inl (
        (h.1, ap (λ (s : Carried). s.documents) h.0),
        subst (λ (s : Carried). AreDue (carries x) (λ s. s.documents) s events []) (sym h.0)
            (unbegun_due events later),
      )

  -- what is due for the event that begins the session, and where that leaves the direction
  pub opens_so : (event : Event) (halt : Begun) → begun_at event x.side ≡ Some halt
      → (told_for x (start x) event ≡ x.opening)
      × (behind x (start x) event ≡ opened x (start x))
  opens_so (heard.Opened mode kind via) halt is =
      rw (begins_as (heard.Opened mode kind via) x.side halt is) (refl, refl)
  opens_so heard.Accepted halt is =
      rw (begins_as heard.Accepted x.side halt is) (refl, refl)
  opens_so (heard.Message received) halt is = cc
  opens_so (heard.Ended n) halt is = cc
  opens_so (heard.PeerFault n text) halt is = cc

-- ---- before a session begins

-- one event more, which doesn't begin it
pub waited_more : (handled : List Event) (event : Event) (b b' : Beginning) → b'.side ≡ b.side
    → begun_at event b.side ≡ None → b'.faulted ≡ is_fault event → HasWaited handled b
    → HasWaited (handled ++ event ∷ []) b'
waited_more handled event b b' side not fault h = record {
  unbegun = rw side (unbegun_more b.side handled event h.unbegun (begins_not event b.side not));
  faulted_is = fault ∙ sym (faulted_more false handled event);
}
