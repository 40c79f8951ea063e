-- In which order the documents of a call's two lists are sent (specs/Complete).
use Rattle.std.proofs.Common.{◌≡◌, ℕ, List, [], ◌∷◌, ◌++◌, drop, length, sym, refl, ap, ◌∙◌}
use Rattle.std.proofs.Common.{append-nil, arith}
use Rattle.nbfx_values.specs.declared.content.Item.{Item}
use Rattle.two_lanes.specs.declared.jobs.Lane.{Lane, TheVariants.A, TheVariants.B}
use Rattle.two_lanes.specs.Merges.{AreAll, merge, times}
use Rattle.dump_replay.specs.Complete.{in_order}

none_left : {T : Type 0} (l : List T) (n : ℕ) → n ≡ length l → drop n l ≡ []
none_left l n is = ap (λ n. drop n l) is ∙ past l where
  past : {T : Type 0} (l : List T) → drop (length l) l ≡ []
  past [] = refl
  past (x ∷ l) = past l

-- letters for all documents
pub all_in_order : (a b : List (List Item)) (order : List Lane) → AreAll a b order
    → merge a b order ≡ in_order a b order
all_in_order a b order all =
    sym (append-nil (merge a b order)) ∙ sym (append-nil (merge a b order ++ []))
    ∙ ap (λ l. (merge a b order ++ l) ++ []) (sym (none_left a (times A order) all.all_a))
    ∙ ap (λ l. (merge a b order ++ drop (times A order) a) ++ l)
    (sym (none_left b (times B order) all.all_b))

merge_alone : (a : List (List Item)) (order : List Lane) → times A order ≡ length a
    → times B order ≡ 0 → merge a [] order ≡ a
merge_alone [] [] all none = refl
merge_alone (x ∷ a) [] all none = absurd (omega (arith, all))
merge_alone [] (A ∷ order) all none = absurd (omega (arith, all))
merge_alone (x ∷ a) (A ∷ order) all none =
    ap (λ l. x ∷ l) (merge_alone a order (omega (arith, all)) none)
merge_alone a (B ∷ order) all none = absurd (omega (arith, none))

-- the only list
pub alone : (a b : List (List Item)) (order : List Lane) → b ≡ [] → AreAll a b order
    → merge a b order ≡ in_order a b []
alone a b order none all =
    ap (λ l. merge a l order) none
    ∙ merge_alone a order all.all_a (all.all_b ∙ ap length none)
    ∙ sym (append-nil a) ∙ ap (λ l. a ++ l) (sym none)
