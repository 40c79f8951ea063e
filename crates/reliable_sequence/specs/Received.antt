-- The receiving end of a sequence.
use Rattle.std.specs.Prelude.{ℕ, ◌+◌, ◌-◌, Bool, false, ◌&&◌, ◌||◌, List, [], ◌∷◌, length}
use Rattle.std.specs.Prelude.{is_some, nat_le, nat_lt, if◌then◌else◌, Some, None, Option, Ok, Err}
use Rattle.std.specs.Prelude.{Result}
use Rattle.nbfx_values.specs.declared.content.Item.{Item}
use Rattle.reliable_sequence.specs.declared.{ranges.Range.Range, parts.Data.Data}
use Rattle.reliable_sequence.specs.declared.parts.Taken.{Taken, TheVariants.Again, TheVariants.Ahead}
use Rattle.reliable_sequence.specs.declared.parts.Taken.TheVariants.{New}
use Rattle.reliable_sequence.specs.declared.faults.RmFault.{RmFault, TheVariants.AfterLast}
use Rattle.reliable_sequence.specs.Ranges.{begun_at, runs}
use Rattle.reliable_sequence.specs.Slots.{body_at, Slots, with_body}

pub record Received : Type 0 where
  -- how far above what was delivered a number may be
  pub window : ℕ
  -- how many bodies were delivered
  pub delivered : ℕ
  -- the bodies that are held, each at the place of its number: the next number's comes first
  pub held : Slots
  -- the number that was received as the last of the sequence
  pub last : Option ℕ

abbrev pub nothing_received : ℕ → Received
nothing_received window = record { window = window; delivered = 0; held = []; last = None }

-- the greatest number that was received
abbrev pub newest : Received → ℕ
newest r = r.delivered + length r.held

-- the place of a number that wasn't delivered
abbrev pub place_of : ℕ → ℕ → ℕ
place_of delivered number = number - delivered - 1

-- whether a number was delivered or is held
abbrev pub has_number : Received → ℕ → Bool
has_number r number =
    nat_le number r.delivered || is_some (body_at r.held (place_of r.delivered number))

abbrev pub is_behind : Option ℕ → ℕ → Bool
is_behind None number = false
is_behind (Some last) number = nat_lt last number

-- whether a number comes behind the last, or is marked as the last and came before another
abbrev pub breaks_the_end : Received → Data → Bool
breaks_the_end r d = is_behind r.last d.number || (d.last && nat_lt d.number (newest r))

-- the last number, where this one is received too, marked as the last or not: 0 is no number
abbrev pub last_with : ℕ → Bool → Option ℕ → Option ℕ
last_with number is_last last = if is_last && nat_lt 0 number then Some number else last

-- what is received of a number that was received before, and of one that wasn't
abbrev pub received_again : Received → Data → Received
received_again r d = record {
  window = r.window;
  delivered = r.delivered;
  held = r.held;
  last = last_with d.number d.last r.last;
}

abbrev pub received_anew : Received → Data → Received
received_anew r d = record {
  window = r.window;
  delivered = r.delivered;
  held = with_body r.held (place_of r.delivered d.number) d.body;
  last = last_with d.number d.last r.last;
}

abbrev pub taken : Received → Data → Taken × Received
taken r d =
    if has_number r d.number then (Again, received_again r d)
    else if nat_lt (r.delivered + r.window) d.number then (Ahead d.number, r)
    else (New, received_anew r d)

-- what taking a body answers, and what is received then
abbrev pub received : Received → Data → Result (Taken × Received) RmFault
received r d = if breaks_the_end r d then Err (AfterLast d.number) else Ok (taken r d)

-- the next body in order, if it is held, and what is received once it is delivered
abbrev pub next_body : Slots → Option (List Item)
next_body [] = None
next_body (slot ∷ more) = slot

abbrev pub delivered_from : Received → Slots → Received
delivered_from r (Some body ∷ more) = record {
  window = r.window;
  delivered = r.delivered + 1;
  held = more;
  last = r.last;
}
delivered_from r slots = r

abbrev pub after_delivery : Received → Received
after_delivery r = delivered_from r r.held

-- the ranges of the numbers that were delivered or are held
abbrev pub received_ranges : Received → List Range
received_ranges r = runs (begun_at r.delivered) r.delivered r.held
