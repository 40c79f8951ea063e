-- The texts that a map holds.
use Rattle.std.proofs.Common.{◌≡◌, ℕ, true, false, List, [], ◌∷◌, is_some, Ok, Err, string_bytes}
use Rattle.std.proofs.Common.{String, string_cmp, nat_cmp, Ordering, Less, Equal, Greater, BTreeMap}
use Rattle.std.proofs.{Common.refl, Common.ap, Common.◌∙◌, lemmas.Map.Text.is_eq-slice_cmp}
use Rattle.std.specs.BTreeMap.{get_by_text, insert_entry, is_at}
use Rattle.std.specs.{Cmp.Lexicographic.slice_cmp, Map.lookup, Ordering.match_ordering}
use Rattle.action_dispatch.specs.Actions.{text_for, Texts, with_entry}
use Rattle.action_dispatch.specs.Inside.{shown, texts_in}
use Rattle.action_dispatch.specs.declared.fault.ActionKind.TheVariants as kind

module _ {A : Type 0} where
  shown-choice : (o : Ordering) (a b c : List (String A × List ℕ))
      → shown (match_ordering o a b c) ≡ match_ordering o (shown a) (shown b) (shown c)
  shown-choice Less a b c = refl
  shown-choice Equal a b c = refl
  shown-choice Greater a b c = refl

  -- an insertion shows one more entry
  pub shown-insert : (entries : List (String A × List ℕ)) (action : String A) (text : List ℕ)
      → shown (insert_entry string_cmp entries action text)
      ≡ insert_entry (slice_cmp nat_cmp) (shown entries) (string_bytes action) text
  shown-insert [] action text = refl
  shown-insert (entry ∷ entries) action text =
      let order = string_cmp action entry.0 in
      let first = (string_bytes action, text) ∷ shown (entry ∷ entries) in
      let same = shown ((entry.0, text) ∷ entries) in
      shown-choice order ((action, text) ∷ entry ∷ entries) ((entry.0, text) ∷ entries)
      (entry ∷ insert_entry string_cmp entries action text)
      ∙ ap (λ rest. match_ordering order first same ((string_bytes entry.0, entry.1) ∷ rest))
      (shown-insert entries action text)

  -- a look-up finds the text that an action has
  text_for-shown : (entries : List (String A × List ℕ)) (action : List ℕ)
      → text_for (shown entries) action
      ≡ lookup (is_at (λ (k : String A). slice_cmp nat_cmp action (string_bytes k))) entries
  text_for-shown [] action = refl
  text_for-shown (entry ∷ entries) action =
      rw (is_eq-slice_cmp action (string_bytes entry.0), text_for-shown entries action) refl

  pub text_for-get : (texts : BTreeMap (String A) (List ℕ)) (action : List ℕ)
      → text_for (texts_in texts) action ≡ get_by_text texts action
  text_for-get texts action = text_for-shown texts.entries action

-- an action that has a text already, and a new one
pub with_entry-again : (texts : Texts) (action text : List ℕ)
    → is_some (text_for texts action) ≡ true → with_entry texts (action, text) ≡ Err kind.Repeated
with_entry-again texts action text again = rw again refl

pub with_entry-new : (texts : Texts) (action text : List ℕ)
    → is_some (text_for texts action) ≡ false
    → with_entry texts (action, text) ≡ Ok (insert_entry (slice_cmp nat_cmp) texts action text)
with_entry-new texts action text fresh = rw fresh refl
