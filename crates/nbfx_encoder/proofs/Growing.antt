-- Tables that a writer carries on: the strings that come behind are text, and stay within the
-- quota.
use Rattle.std.proofs.Common.{◌≡◌, ℕ, ◌≤◌, true, false, List, [], ◌++◌, sym, refl, ap, ◌∙◌, subst}
use Rattle.std.proofs.Common.{append_assoc, append-nil}
use Rattle.std.proofs.lemmas.{Bool.and_from, List.Folds.list_all-append}
use Rattle.std.specs.{List.list_all, Str.is_utf8}
use Rattle.string_tables.specs.{SessionStrings.used_cost, StaticStrings.IsStaticMap}
use Rattle.string_tables.specs.StringTable.{StringTable, with_strings}
use Rattle.nbfx_encoder.specs.{Placing.brings_strings, Placing.Writing, Sound.IsSound}

-- a table behind another; where payloads bring no strings, there are none
pub record Grows (w : Writing) (table behind : StringTable) : Type 0 where
  pub more : List (List ℕ)
  pub is : behind ≡ with_strings table more
  pub cost : used_cost behind.strings ≤ w.dictionary
  pub texts : list_all is_utf8 more ≡ true
  pub none : brings_strings w.kind ≡ false → more ≡ []

pub grows_not : (w : Writing) (table : StringTable) → IsSound w table → Grows w table table
grows_not w table sound = record {
  more = [];
  is = rw (append-nil table.strings) refl;
  cost = sound.cost;
  texts = refl;
  none = λ plain. refl;
}

pub grows_on : (w : Writing) (a b c : StringTable) → Grows w a b → Grows w b c → Grows w a c
grows_on w a b c first second = record {
  more = first.more ++ second.more;
  is = second.is ∙ ap (λ t. with_strings t second.more) first.is
      ∙ ap (λ strings. record a { strings = strings })
      (append_assoc a.strings first.more second.more);
  cost = second.cost;
  texts = list_all-append is_utf8 first.more second.more
      ∙ and_from (list_all is_utf8 first.more) (list_all is_utf8 second.more) first.texts
      second.texts;
  none = λ plain. ap (λ more. more ++ second.more) (first.none plain) ∙ second.none plain;
}

pub sound_behind : (w : Writing) (table behind : StringTable) → IsSound w table
    → Grows w table behind → IsSound w behind
sound_behind w table behind sound grows = record {
  statics = subst (λ (t : StringTable). IsStaticMap t.statics) (sym grows.is) sound.statics;
  cost = grows.cost;
  small = sound.small;
}
