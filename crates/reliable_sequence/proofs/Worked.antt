-- Worked cases: literal events, data and ranges.
use Rattle.std.proofs.Common.{◌≡◌, ℕ, Bool, true, false, List, [], ◌∷◌, map, Some, None, Option, Ok, Err}
use Rattle.std.proofs.Common.{codes, Result, refl}
use Rattle.nbfx_values.specs.declared.content.Item.{Item, TheVariants.Comment}
use Rattle.reliable_sequence.specs.declared.{faults.RmFault.RmFault, parts.Data.Data}
use Rattle.reliable_sequence.specs.declared.faults.RmFault.TheVariants.{AfterLast, InvalidAck}
use Rattle.reliable_sequence.specs.declared.faults.SubmitFault.{TheVariants.Closed}
use Rattle.reliable_sequence.specs.declared.faults.SubmitFault.TheVariants.{WindowFull}
use Rattle.reliable_sequence.specs.declared.parts.Taken.{Taken, TheVariants.Again, TheVariants.Ahead}
use Rattle.reliable_sequence.specs.declared.parts.Taken.TheVariants.{New}
use Rattle.reliable_sequence.specs.declared.ranges.Range.{Range}
use Rattle.reliable_sequence.specs.Ranges.{range, rise_from, runs}
use Rattle.reliable_sequence.specs.Received.{Received, received, received_ranges}
use Rattle.reliable_sequence.specs.Sent.{acknowledged, acknowledged_count, data_of, is_acknowledged, Sent}
use Rattle.reliable_sequence.specs.Sent.{submitted, submitted_count}
use Rattle.reliable_sequence.specs.Slots.{Slots}
use Rattle.reliable_sequence.specs.declared.events.Event.{Event, TheVariants.Ack, TheVariants.Data as Hand}
use Rattle.reliable_sequence.specs.declared.events.Event.TheVariants.{Deliver, Send, SendAck, Submit}
use Rattle.reliable_sequence.specs.PlainWorld.{new_world, run, World}

-- bodies
abbrev x : List Item
x = Comment (codes "x") ∷ []

abbrev y : List Item
y = Comment (codes "y") ∷ []

abbrev z : List Item
z = Comment (codes "z") ∷ []

-- a window, what happens, and what is seen then: what was delivered, and how many bodies were
-- submitted, delivered and acknowledged
abbrev Row : Type 0
Row = (ℕ × List Event) × (List (List Item) × (ℕ × (ℕ × ℕ)))

abbrev seen : World → List (List Item) × (ℕ × (ℕ × ℕ))
seen w = (
  w.delivered,
  (submitted_count w.sender, (w.receiver.delivered, acknowledged_count w.sender)),
)

abbrev AllSeen : List Row → Type 0
AllSeen rows =
    map (λ (r : Row). seen (run (new_world r.0.0) r.0.1)) rows ≡ map (λ (r : Row). r.1) rows

worlds : AllSeen (
    -- the second body comes first, and twice more
    (
      (
        32,
        Submit x false ∷ Submit y false ∷ Send 2 ∷ Send 1 ∷ Hand 0 ∷ Deliver ∷ SendAck
            ∷ Ack 0 ∷ Hand 1 ∷ Hand 1 ∷ Deliver ∷ Deliver ∷ [],
      ),
      (x ∷ y ∷ [], (2, (2, 1))),
    )
    -- a window of one: the second body waits until the first is acknowledged, and the receiving end
    -- takes it only once that is delivered
    ∷ (
      (
        1,
        Submit x false ∷ Submit y false ∷ Send 1 ∷ Hand 0 ∷ SendAck ∷ Ack 0
            ∷ Submit z false ∷ Send 2 ∷ Hand 1 ∷ Deliver ∷ Deliver ∷ [],
      ),
      (x ∷ [], (2, (1, 1))),
    )
    ∷ (
      (
        1,
        Submit x false ∷ Send 1 ∷ Hand 0 ∷ SendAck ∷ Ack 0 ∷ Submit z true ∷ Send 2
            ∷ Deliver ∷ Hand 1 ∷ Deliver ∷ SendAck ∷ Ack 1 ∷ [],
      ),
      (x ∷ z ∷ [], (2, (2, 2))),
    )
    -- nothing is submitted behind the last body, nor sent that isn't, nor taken that wasn't sent
    ∷ (
      (
        32,
        Submit x true ∷ Submit y false ∷ Send 2 ∷ Send 0 ∷ Hand 0 ∷ Ack 0 ∷ Deliver
            ∷ [],
      ),
      ([], (1, (0, 0))),
    )
    -- an old acknowledgement takes nothing back
    ∷ (
      (
        32,
        Submit x false ∷ Submit y false ∷ SendAck ∷ Send 1 ∷ Send 2 ∷ Hand 1 ∷ Hand 0
            ∷ SendAck ∷ Ack 1 ∷ Ack 0 ∷ [],
      ),
      ([], (2, (0, 2))),
    )
    ∷ [])
worlds = refl

-- what is held, the number before its first place, whether a range has begun at 1, and the ranges
abbrev RangeRow : Type 0
RangeRow = (Slots × (ℕ × Option ℕ)) × List Range

abbrev AllRanges : List RangeRow → Type 0
AllRanges rows =
    map (λ (r : RangeRow). runs r.0.1.1 r.0.1.0 r.0.0) rows ≡ map (λ (r : RangeRow). r.1) rows

ranges : AllRanges (
    (([], (0, None)), [])
    ∷ (([], (7, Some 1)), range 1 7 ∷ [])
    ∷ ((Some x ∷ [], (7, Some 1)), range 1 8 ∷ [])
    ∷ ((None ∷ Some x ∷ [], (0, None)), range 2 2 ∷ [])
    ∷ (
      (None ∷ Some x ∷ Some y ∷ None ∷ None ∷ Some z ∷ [], (7, Some 1)),
      range 1 7 ∷ range 9 10 ∷ range 13 13 ∷ [],
    )
    ∷ [])
ranges = refl

rising : map (rise_from 1) (
    []
    ∷ (range 1 7 ∷ range 9 10 ∷ range 13 13 ∷ [])
    ∷ (range 0 7 ∷ [])
    ∷ (range 2 1 ∷ [])
    ∷ (range 1 7 ∷ range 8 10 ∷ [])
    ∷ (range 1 7 ∷ range 7 10 ∷ [])
    ∷ (range 9 10 ∷ range 1 7 ∷ [])
    ∷ [])
    ≡ (true ∷ true ∷ false ∷ false ∷ false ∷ false ∷ false ∷ [])
rising = refl

-- the receiving end with three bodies delivered, and number 6 held, as the last or not
abbrev six : Option ℕ → Received
six last = record { window = 4; delivered = 3; held = None ∷ None ∷ Some x ∷ []; last = last }

abbrev with_number : ℕ → Bool → Data
with_number number last = record { number = number; last = last; body = y }

abbrev answer : Result (Taken × Received) RmFault → Result (Taken × List Range) RmFault
answer (Ok taken) = Ok (taken.0, received_ranges taken.1)
answer (Err fault) = Err fault

abbrev TakeRow : Type 0
TakeRow = (Received × Data) × Result (Taken × List Range) RmFault

abbrev AllTaken : List TakeRow → Type 0
AllTaken rows =
    map (λ (r : TakeRow). answer (received r.0.0 r.0.1)) rows ≡ map (λ (r : TakeRow). r.1) rows

taken : AllTaken (
    ((six None, with_number 3 false), Ok (Again, range 1 3 ∷ range 6 6 ∷ []))
    ∷ ((six None, with_number 4 false), Ok (New, range 1 4 ∷ range 6 6 ∷ []))
    ∷ ((six None, with_number 5 false), Ok (New, range 1 3 ∷ range 5 6 ∷ []))
    ∷ ((six None, with_number 6 true), Ok (Again, range 1 3 ∷ range 6 6 ∷ []))
    ∷ ((six None, with_number 7 false), Ok (New, range 1 3 ∷ range 6 7 ∷ []))
    ∷ ((six None, with_number 8 false), Ok (Ahead 8, range 1 3 ∷ range 6 6 ∷ []))
    ∷ ((six None, with_number 5 true), Err (AfterLast 5))
    ∷ ((six (Some 6), with_number 5 false), Ok (New, range 1 3 ∷ range 5 6 ∷ []))
    ∷ ((six (Some 6), with_number 6 true), Ok (Again, range 1 3 ∷ range 6 6 ∷ []))
    ∷ ((six (Some 6), with_number 7 false), Err (AfterLast 7))
    ∷ ((six (Some 6), with_number 8 false), Err (AfterLast 8))
    ∷ [])
taken = refl

-- the sending end with numbers 1 to 3 and 5 acknowledged, of 6
abbrev of_six : Bool → Sent
of_six closed = record {
  window = 4;
  front = 3;
  unacknowledged = Some x ∷ None ∷ Some y ∷ [];
  closed = closed;
}

submissions : (submitted (of_six true) z false ≡ Err Closed)
    × ((submitted (record (of_six false) { window = 3 }) z false ≡ Err (WindowFull 3))
    × (submitted (of_six false) z true ≡ Ok (
      7,
      record {
        window = 4;
        front = 3;
        unacknowledged = Some x ∷ None ∷ Some y ∷ Some z ∷ [];
        closed = true;
      },
    )))
submissions = (refl, (refl, refl))

messages : map (data_of (of_six true)) (0 ∷ 3 ∷ 4 ∷ 5 ∷ 6 ∷ 7 ∷ [])
    ≡ (None ∷ None ∷ Some (record { number = 4; last = false; body = x }) ∷ None
    ∷ Some (record { number = 6; last = true; body = y }) ∷ None ∷ [])
messages = refl

abbrev numbers : Sent → List Bool
numbers s = map (is_acknowledged s) (0 ∷ 1 ∷ 3 ∷ 4 ∷ 5 ∷ 6 ∷ 7 ∷ [])

abbrev told : Result Sent RmFault → Result (ℕ × List Bool) RmFault
told (Ok s) = Ok (s.front, numbers s)
told (Err fault) = Err fault

acknowledgements : map (λ ranges. told (acknowledged (of_six false) ranges))
    ([] ∷ (range 1 4 ∷ []) ∷ (range 6 6 ∷ []) ∷ (range 1 1 ∷ range 4 6 ∷ [])
    ∷ (range 1 1 ∷ range 6 7 ∷ []) ∷ [])
    ≡ (Ok (3, false ∷ true ∷ true ∷ false ∷ true ∷ false ∷ false ∷ [])
    ∷ Ok (5, false ∷ true ∷ true ∷ true ∷ true ∷ false ∷ false ∷ [])
    ∷ Ok (3, false ∷ true ∷ true ∷ false ∷ true ∷ true ∷ false ∷ [])
    ∷ Ok (6, false ∷ true ∷ true ∷ true ∷ true ∷ true ∷ false ∷ [])
    ∷ Err (InvalidAck 7)
    ∷ [])
acknowledgements = refl
