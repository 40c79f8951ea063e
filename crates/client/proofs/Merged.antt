-- How many documents a merge of two lists has, so that it may be sent where they may.
use Rattle.std.proofs.Common.{◌≡◌, ◌+◌, List, [], ◌∷◌, ◌++◌, length, sym, ◌∙◌, arith, length-append}
use Rattle.nbfx_values.specs.declared.{content.Item.Item, session.Mode.Mode}
use Rattle.nbfx_values.specs.declared.session.Mode.TheVariants.{Duplex, Simplex, Singleton}
use Rattle.session_ends.specs.Sent.{MayBeSent}
use Rattle.two_lanes.specs.declared.jobs.Lane.{Lane, TheVariants.A, TheVariants.B}
use Rattle.two_lanes.specs.Merges.{AreAll, merge, times}

merge_long : (a b : List (List Item)) (order : List Lane) → times A order ≡ length a
    → times B order ≡ length b → length (merge a b order) ≡ length a + length b
merge_long [] [] [] all_a all_b = omega arith
merge_long (x ∷ a) b [] all_a all_b = absurd (omega (arith, all_a))
merge_long [] (y ∷ b) [] all_a all_b = absurd (omega (arith, all_b))
merge_long [] b (A ∷ order) all_a all_b = absurd (omega (arith, all_a))
merge_long (x ∷ a) b (A ∷ order) all_a all_b =
    let more = merge_long a b order (omega (arith, all_a)) all_b in omega (arith, more)
merge_long a [] (B ∷ order) all_a all_b = absurd (omega (arith, all_b))
merge_long a (y ∷ b) (B ∷ order) all_a all_b =
    let more = merge_long a b order all_a (omega (arith, all_b)) in omega (arith, more)

module _ (a b : List (List Item)) (order : List Lane) (all : AreAll a b order) where
  same_length : length (merge a b order) ≡ length (a ++ b)
  same_length = merge_long a b order all.all_a all.all_b ∙ sym (length-append a b)

  pub may_merged : (mode : Mode) → MayBeSent mode (a ++ b) → MayBeSent mode (merge a b order)
  may_merged Singleton may = same_length ∙ may
  may_merged Duplex may = tt
  may_merged Simplex may = tt

  pub may_apart : (mode : Mode) → MayBeSent mode (merge a b order) → MayBeSent mode (a ++ b)
  may_apart Singleton may = sym same_length ∙ may
  may_apart Duplex may = tt
  may_apart Simplex may = tt
