-- What follows of least identifiers, whichever look-up finds the texts.
use Rattle.std.proofs.Common.{◌≡◌, ℕ, ◌≤◌, ◌≢◌, List, IfSome, IfNone, Some, None, Option}
use Rattle.std.proofs.Common.{MatchOption, refl, arith}
use Rattle.string_tables.specs.{Laws.GivesLeast, StringTable.IsLeastName}

-- an identifier was found that is no greater than another
pub record FindsAtMost (found : Option ℕ) (other : ℕ) : Type 0 where
  pub id : ℕ
  pub is : found ≡ Some id
  pub below : id ≤ other

module _ (text_of : ℕ → Option (List ℕ)) where
  -- what is found names the text, and each identifier that does has one found that is no greater
  pub gives_least : (found : Option ℕ) (text : List ℕ)
      → ((id : ℕ) → found ≡ Some id → text_of id ≡ Some text)
      → ((other : ℕ) → text_of other ≡ Some text → FindsAtMost found other)
      → MatchOption found ((id : ℕ) → text_of id ≢ Some text) (IsLeastName text_of text)
  gives_least None text named lowest = λ id names. cc (lowest id names).is
  gives_least (Some id) text named lowest = record {
    names = named id refl;
    lowest = λ other names.
        let first = lowest other names in
        let same : id ≡ first.id = cc first.is in
        omega (arith, same, first.below);
  }

  module _ (least_of : List ℕ → Option ℕ) (gives : GivesLeast text_of least_of) (text : List ℕ)
    where
      -- what a call found of a text
      pub found_least : (found : Option ℕ) → found ≡ least_of text
          → IfSome found (IsLeastName text_of text)
      found_least found is = named found (rw is (gives text))
        where
          named : (o : Option ℕ) → MatchOption o ((id : ℕ) → text_of id ≢ Some text)
              (IsLeastName text_of text) → IfSome o (IsLeastName text_of text)
          named None at = tt
          named (Some id) at = at

      pub found_none : (found : Option ℕ) → found ≡ least_of text
          → IfNone found ((id : ℕ) → text_of id ≢ Some text)
      found_none found is = unnamed found (rw is (gives text))
        where
          unnamed : (o : Option ℕ) → MatchOption o ((id : ℕ) → text_of id ≢ Some text)
              (IsLeastName text_of text) → IfNone o ((id : ℕ) → text_of id ≢ Some text)
          unnamed None at = at
          unnamed (Some id) at = tt
