-- The records of a text, of which the first is read.
use Rattle.std.proofs.Common.{◌≡◌, ℕ, zero, suc, ◌+◌, ◌<◌, ◌≤◌, true, false, List, [], ◌∷◌, ◌++◌}
use Rattle.std.proofs.Common.{length, Some, None, Option, sym, refl, ap, ◌∙◌, subst, inl, inr}
use Rattle.std.proofs.{Common.arith, lemmas.Bool.cases_Bool, lemmas.Bool.false≢true}
use Rattle.csv.specs.declared.parser.{Config.Config, State.State}
use Rattle.csv.specs.Machine.{ends_at_end, field_after, fields_after, is_end, next_record, Read}
use Rattle.csv.specs.{Machine.step, Reading.NextIs, Reading.records_from, Reading.records_next}
use Rattle.csv.specs.declared.parser.State.TheVariants as st

module _ (cfg : Config) where
  -- a record leaves no more text than there was
  no_longer : (s : State) (fields : List (List ℕ)) (field xs : List ℕ) (read : Read)
      → next_record cfg s fields field xs ≡ Some read → length read.2 ≤ length xs
  unfolding next_record
  no_longer s fields field [] read e =
      elim (cases_Bool (ends_at_end s)) [
        | inl ends ↦
            let is : (fields ++ (field ∷ []), st.StartRecord, []) ≡ read = cc (rw ends at e) in
            subst (λ (r : Read). length r.2 ≤ 0) is (omega arith)
        | inr goes ↦ cc (rw goes at e)
      ]
  no_longer s fields field (c ∷ rest) read e =
      elim (cases_Bool (is_end (step cfg s c).1)) [
        | inl ends ↦
            let is : (fields_after (step cfg s c).1 fields field, (step cfg s c).0, rest) ≡ read =
            cc (rw ends at e) in
            subst (λ (r : Read). length r.2 ≤ length (c ∷ rest)) is (omega arith)
        | inr goes ↦
            let later =
            no_longer (step cfg s c).0 (fields_after (step cfg s c).1 fields field)
            (field_after (step cfg s c).1 c field) rest read (rw goes at e) in
            omega (arith, later)
      ]

  -- and less where there was some
  takes : (s : State) (fields : List (List ℕ)) (field : List ℕ) (c : ℕ) (rest : List ℕ)
      (read : Read) → next_record cfg s fields field (c ∷ rest) ≡ Some read
      → length read.2 ≤ length rest
  unfolding next_record
  takes s fields field c rest read e =
      elim (cases_Bool (is_end (step cfg s c).1)) [
        | inl ends ↦
            let is : (fields_after (step cfg s c).1 fields field, (step cfg s c).0, rest) ≡ read =
            cc (rw ends at e) in
            subst (λ (r : Read). length r.2 ≤ length rest) is (omega arith)
        | inr goes ↦
            no_longer (step cfg s c).0 (fields_after (step cfg s c).1 fields field)
            (field_after (step cfg s c).1 c field) rest read (rw goes at e)
      ]

  -- a record of no text is the last
  ends : (s : State) (read : Read) → next_record cfg s [] [] [] ≡ Some read
      → (read.1 ≡ st.StartRecord) × (read.2 ≡ [])
  unfolding next_record
  ends s read e =
      elim (cases_Bool (ends_at_end s)) [
        | inl at ↦
            let is : ([] ∷ [], st.StartRecord, []) ≡ read = cc (rw at at e) in
            subst (λ (r : Read). (r.1 ≡ st.StartRecord) × (r.2 ≡ [])) is (refl, refl)
        | inr goes ↦ cc (rw goes at e)
      ]

  none_at_end : (n : ℕ) → records_from cfg n st.StartRecord [] ≡ []
  unfolding records_from next_record
  none_at_end zero = refl
  none_at_end (suc n) = refl

  -- what comes behind a record
  onward : (n m : ℕ) (next : Option Read)
      → ((read : Read) → next ≡ Some read
      → records_from cfg n read.1 read.2 ≡ records_from cfg m read.1 read.2)
      → records_next (records_from cfg n) next ≡ records_next (records_from cfg m) next
  onward n m None same = refl
  onward n m (Some read) same = ap (λ more. read.0 ∷ more) (same read refl)

  -- a text has no more records than bytes, and one more at its end
  enough : (n m : ℕ) (s : State) (xs : List ℕ) → length xs < n → length xs < m
      → records_from cfg n s xs ≡ records_from cfg m s xs
  unfolding records_from
  enough zero m s xs first second = absurd (omega arith)
  enough (suc n) zero s xs first second = absurd (omega arith)
  enough (suc n) (suc m) s [] first second =
      onward n m (next_record cfg s [] [] [])
      (λ read e. let at = ends s read e in rw (at.0, at.1, none_at_end n, none_at_end m) refl)
  enough (suc n) (suc m) s (c ∷ rest) first second =
      onward n m (next_record cfg s [] [] (c ∷ rest))
      (λ read e. let left = takes s [] [] c rest read e in enough n m read.1 read.2
      (omega (arith, left)) (omega (arith, left)))

  -- as many as can be behind the first
  behind : (s : State) (xs : List ℕ) (read : Read) → next_record cfg s [] [] xs ≡ Some read
      → records_from cfg (length xs) read.1 read.2
      ≡ records_from cfg (length read.2 + 1) read.1 read.2
  behind s [] read e =
      let at = ends s read e in rw (at.0, at.1, none_at_end 0, none_at_end (length [] + 1)) refl
  behind s (c ∷ rest) read e =
      let left = takes s [] [] c rest read e in
      enough (length (c ∷ rest)) (length read.2 + 1) read.1 read.2 (omega (arith, left))
      (omega arith)

  first_of : (s s2 : State) (xs ys : List ℕ) (fields : List (List ℕ)) (next : Option Read)
      → next_record cfg s [] [] xs ≡ next → NextIs next true fields s2 ys
      → records_next (records_from cfg (length xs)) next ≡ fields
      ∷ records_from cfg (length ys + 1) s2 ys
  first_of s s2 xs ys fields None e is = absurd (false≢true (sym is))
  first_of s s2 xs ys fields (Some read) e is =
      rw (is.1, is.2, is.3) (ap (λ more. read.0 ∷ more) (behind s xs read e))

  -- a record that was read is the first of those that were left
  pub first_read : (s s2 : State) (xs ys : List ℕ) (fields : List (List ℕ))
      → NextIs (next_record cfg s [] [] xs) true fields s2 ys
      → records_from cfg (length xs + 1) s xs ≡ fields ∷ records_from cfg (length ys + 1) s2 ys
  unfolding records_from
  first_read s s2 xs ys fields is =
      let one : length xs + 1 ≡ suc (length xs) = omega arith in
      ap (λ n. records_from cfg n s xs) one
      ∙ first_of s s2 xs ys fields (next_record cfg s [] [] xs) refl is

  none_of : (s2 : State) (n : ℕ) (ys : List ℕ) (fields : List (List ℕ)) (next : Option Read)
      → NextIs next false fields s2 ys → records_next (records_from cfg n) next ≡ []
  none_of s2 n ys fields None is = refl
  none_of s2 n ys fields (Some read) is = absurd (false≢true is.0)

  -- where none was read none was left
  pub none_read : (s s2 : State) (xs ys : List ℕ) (fields : List (List ℕ))
      → NextIs (next_record cfg s [] [] xs) false fields s2 ys
      → records_from cfg (length xs + 1) s xs ≡ []
  unfolding records_from
  none_read s s2 xs ys fields is =
      let one : length xs + 1 ≡ suc (length xs) = omega arith in
      ap (λ n. records_from cfg n s xs) one
      ∙ none_of s2 (length xs) ys fields (next_record cfg s [] [] xs) is
