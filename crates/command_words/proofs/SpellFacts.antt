-- The options that words spell, computed: a word names an option as it looks, and is then compared
-- with the option as it is written.
use Rattle.std.proofs.Common.{◌≡◌, false, List, [], ◌∷◌, ◌++◌, if◌then◌else◌, Some, None, codes}
use Rattle.std.proofs.Common.{Option, option_map, bytes_eq, sym, refl, ap, ◌∙◌, subst, inl, inr}
use Rattle.std.proofs.lemmas.{Bool.cases_Bool, Slice.Eq.bytes_eq-Decides}
use Rattle.clap.specs.Lexer.{long_of}
use Rattle.command_words.specs.declared.option_name.OptionName.{OptionName}
use Rattle.command_words.specs.Options.{begins_with_hyphen, dashed, Given, option_text}
use Rattle.command_words.specs.Options.{SpellOptions, Text}
use Rattle.command_words.proofs.OptionFacts.{bytes_eq-same, named, named-option_text}
use Rattle.command_words.proofs.WordFacts.{long_of-dashed, long_of-joined}

-- an option more in front
abbrev with_given : Given → Option (List Given) → Option (List Given)
with_given given more = option_map (λ rest. given ∷ rest) more

-- a word that begins an option, by what it looks like: what follows it where it has the value, or
-- where the next word is
abbrev begun_in : Text → Option (Text × Option Text) → Option (List Given)
    → (OptionName → Option (List Given)) → Option (List Given)
begun_in word None joined apart = None
begun_in word (Some (name, None)) joined apart =
    if bytes_eq word (dashed (named name)) then apart (named name) else None
begun_in word (Some (name, Some value)) joined apart =
    if bytes_eq word (dashed (named name) ++ (codes "=" ++ value))
    then with_given (named name, value) joined else None

-- the options that words spell, the first of which may be the value of an option before them
abbrev pub given_in : List Text → Option OptionName → Option (List Given)
given_in [] None = Some []
given_in [] (Some option) = None
given_in (word ∷ words) None =
    begun_in word (long_of word) (given_in words None) (λ option. given_in words (Some option))
given_in (word ∷ words) (Some option) =
    if begins_with_hyphen word then None else with_given (option, word) (given_in words None)

-- ---- what is computed is spelled

with_given-some : (one : Given) (more : Option (List Given)) (given : List Given)
    → with_given one more ≡ Some given
    → (rest : List Given) × (more ≡ Some rest) × (one ∷ rest ≡ given)
with_given-some one None given e = cc e
with_given-some one (Some rest) given e = (rest, refl, cc e)

-- the words, after the name of an option that has no value yet
abbrev after_name : Option OptionName → List Text → List Text
after_name None words = words
after_name (Some option) words = dashed option ∷ words

abbrev Sound : List Text → Type 0
Sound words = (before : Option OptionName) (given : List Given) → given_in words before ≡ Some given
    → SpellOptions (after_name before words) given

begun-sound : (word : Text) (words : List Text) → Sound words
    → (look : Option (Text × Option Text)) (given : List Given)
    → begun_in word look (given_in words None) (λ option. given_in words (Some option))
    ≡ Some given
    → SpellOptions (word ∷ words) given
begun-sound word words sound None given e = cc e
begun-sound word words sound (Some (name, None)) given e =
    elim (cases_Bool (bytes_eq word (dashed (named name)))) [
      | inl same ↦
          let is : word ≡ dashed (named name) = (bytes_eq-Decides word _).0 same in
          subst (λ w. SpellOptions (w ∷ words) given) (sym is)
          (sound (Some (named name)) given (rw same at e))
      | inr other ↦ cc (rw other at e)
    ]
begun-sound word words sound (Some (name, Some value)) given e =
    elim (cases_Bool (bytes_eq word (dashed (named name) ++ (codes "=" ++ value)))) [
      | inl same ↦
          let is = (bytes_eq-Decides word (dashed (named name) ++ (codes "=" ++ value))).0 same in
          let more = with_given-some (named name, value) _ given (rw same at e) in
          subst (SpellOptions (word ∷ words)) more.2
          (words, inr (ap (λ w. w ∷ words) is), sound None more.0 more.1)
      | inr other ↦ cc (rw other at e)
    ]

value-sound : (word : Text) (words : List Text) → Sound words → (option : OptionName)
    (given : List Given) → given_in (word ∷ words) (Some option) ≡ Some given
    → SpellOptions (dashed option ∷ word ∷ words) given
value-sound word words sound option given e =
    elim (cases_Bool (begins_with_hyphen word)) [
      | inl hyphen ↦ cc (rw hyphen at e)
      | inr plain ↦
          let more = with_given-some (option, word) _ given (rw plain at e) in
          subst (SpellOptions (dashed option ∷ word ∷ words)) more.2
          (words, inl (refl, plain), sound None more.0 more.1)
    ]

pub given_in-sound : (words : List Text) → Sound words
given_in-sound [] None given e = let is : [] ≡ given = cc e in subst (SpellOptions []) is refl
given_in-sound [] (Some option) given e = cc e
given_in-sound (word ∷ words) None given e =
    begun-sound word words (given_in-sound words) (long_of word) given e
given_in-sound (word ∷ words) (Some option) given e =
    value-sound word words (given_in-sound words) option given e

-- ---- what is spelled is computed

abbrev Computes : List Text → List Given → Type 0
Computes words given = given_in words None ≡ Some given

apart-computes : (word : Text) (words : List Text) (one : Given) (given : List Given)
    → long_of word ≡ Some (option_text one.0, None) → word ≡ dashed one.0
    → begins_with_hyphen one.1 ≡ false → Computes words given
    → Computes (word ∷ one.1 ∷ words) (one ∷ given)
apart-computes word words one given looks is plain computes =
    let joined = given_in (one.1 ∷ words) None in
    let apart : OptionName → Option (List Given) =
    λ option. given_in (one.1 ∷ words) (Some option) in
    ap (λ look. begun_in word look joined apart) looks
    ∙ ap (λ name. if bytes_eq word (dashed name) then apart name else None)
    (named-option_text one.0)
    ∙ ap (λ w. if bytes_eq w (dashed one.0) then apart one.0 else None) is
    ∙ rw (bytes_eq-same (dashed one.0), plain, computes) refl

joined-computes : (word : Text) (words : List Text) (one : Given) (given : List Given)
    → long_of word ≡ Some (option_text one.0, Some one.1)
    → word ≡ dashed one.0 ++ (codes "=" ++ one.1)
    → Computes words given → Computes (word ∷ words) (one ∷ given)
joined-computes word words one given looks is computes =
    let joined = given_in words None in
    let apart : OptionName → Option (List Given) = λ option. given_in words (Some option) in
    let written : OptionName → Text = λ name. dashed name ++ (codes "=" ++ one.1) in
    ap (λ look. begun_in word look joined apart) looks
    ∙ ap (λ name. if bytes_eq word (written name) then with_given (name, one.1) joined else None)
    (named-option_text one.0)
    ∙ ap (λ w. if bytes_eq w (written one.0) then with_given one joined else None) is
    ∙ rw (bytes_eq-same (written one.0), computes) refl

pub given_in-complete : (given : List Given) (words : List Text) → SpellOptions words given
    → Computes words given
given_in-complete [] words none = ap (λ ws. given_in ws None) none
given_in-complete (one ∷ given) words (rest, inl (is, plain), spelled) =
    ap (λ ws. given_in ws None) is
    ∙ apart-computes (dashed one.0) rest one given (long_of-dashed one.0) refl plain
    (given_in-complete given rest spelled)
given_in-complete (one ∷ given) words (rest, inr is, spelled) =
    ap (λ ws. given_in ws None) is
    ∙ joined-computes (dashed one.0 ++ (codes "=" ++ one.1)) rest one given
    (long_of-joined one.0 one.1) refl (given_in-complete given rest spelled)

-- words spell options in one way
pub spells-one : (one other : List Given) (words : List Text) → SpellOptions words one
    → SpellOptions words other → one ≡ other
spells-one one other words is_one is_other =
    let same : Some one ≡ Some other =
    sym (given_in-complete one words is_one) ∙ given_in-complete other words is_other in
    cc same
