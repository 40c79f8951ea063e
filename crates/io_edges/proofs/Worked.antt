-- The definitions at small cases, and over calls in a row.
use Rattle.std.proofs.Common.{◌≡◌, ℕ, ◌-◌, ◌^◌, ◌≤◌, true, [], ◌∷◌, refl, inl, inr, arith, lit<}
use Rattle.io_edges.specs.Faults.{one_more, Rose}
use Rattle.io_edges.specs.{Flow.GrowsByPrefix, Flow.Passes, Plan.is_due, Plan.Plan}
use Rattle.io_edges.specs.InMemory.{after_take, new_source, PlannedSource}

rises : Rose 3 4
rises = inl (lit< tt)

stands_at_the_end : Rose (2 ^ 64 - 1) (one_more (2 ^ 64 - 1))
stands_at_the_end = inr refl

keeps_a_front : GrowsByPrefix (1 ∷ []) (1 ∷ 2 ∷ []) (2 ∷ 3 ∷ [])
keeps_a_front = record { kept = 1; grown = refl }

-- 2 was held, 3 and 4 come, 2 and 3 are written
holds_the_last : Passes (1 ∷ []) (1 ∷ 2 ∷ 3 ∷ []) (2 ∷ []) (4 ∷ []) (3 ∷ 4 ∷ [])
holds_the_last = record { put = 2 ∷ 3 ∷ []; split = refl; grown = refl }

-- five bytes, at most two a take, and the take number 1 fails
five : PlannedSource
five = new_source (1 ∷ 2 ∷ 3 ∷ 4 ∷ 5 ∷ []) 2 (1 ∷ [])

first_take : after_take five 4
    ≡ record {
      tape = record { taken = 1 ∷ 2 ∷ []; left = 3 ∷ 4 ∷ 5 ∷ []; empty_takes = 0 };
      most =
          2;
      plan = record { failing = 1 ∷ []; calls = 1; faults = 0 };
    }
unfolding five
first_take = refl

second_take : after_take (after_take five 4) 4
    ≡ record {
      tape = record { taken = 1 ∷ 2 ∷ []; left = 3 ∷ 4 ∷ 5 ∷ []; empty_takes = 0 };
      most =
          2;
      plan = record { failing = 1 ∷ []; calls = 2; faults = 1 };
    }
unfolding five
second_take = refl

third_take : after_take (after_take (after_take five 4) 4) 1
    ≡ record {
      tape = record { taken = 1 ∷ 2 ∷ 3 ∷ []; left = 4 ∷ 5 ∷ []; empty_takes = 0 };
      most =
          2;
      plan = record { failing = 1 ∷ []; calls = 3; faults = 1 };
    }
unfolding five
third_take = refl

-- the last call number stays due
at_the_last_number : Plan
at_the_last_number = record {
  failing = (2 ^ 64 - 1) ∷ [];
  calls = one_more (2 ^ 64 - 1);
  faults = 0;
}

stays_due : is_due at_the_last_number ≡ true
unfolding at_the_last_number
stays_due = refl

-- a count that rose stays risen while it never falls, and so does one that rises later
rose_before : (old mid new : ℕ) → Rose old mid → old ≤ mid → mid ≤ new → Rose old new
rose_before old mid new rose before after = grind arith

rose_after : (old mid new : ℕ) → old ≤ mid → Rose mid new → Rose old new
rose_after old mid new before rose = grind arith
