-- What a word looks like, and how an option's looks.
use Rattle.std.proofs.Common.{◌≡◌, ℕ, zero, suc, ◌<◌, true, false, ◌⊎◌, List, [], ◌∷◌, ◌++◌, length}
use Rattle.std.proofs.Common.{◌==◌, slice_get, Some, None, codes, IsUtf8, Option, encode_utf8_all}
use Rattle.std.proofs.Common.{bytes_eq, sym, refl, ap, ◌∙◌, subst, inl, inr, true≢false, arith}
use Rattle.std.proofs.Common.{eq-eqb, eqb-true}
use Rattle.std.proofs.lemmas.{Bool.cases_Bool, Slice.Eq.bytes_eq-Decides, Str.encodes-chars}
use Rattle.{std.specs.Char.encode_utf8, std.specs.Str.chars, clap.proofs.CutLemmas.Lacks}
use Rattle.clap.proofs.LexerLemmas.{name_and_value-at, name_and_value-without}
use Rattle.clap.specs.Lexer.{long_of, name_and_value, short_of}
use Rattle.command_words.specs.{declared.option_name.OptionName.OptionName, WordAnswers.IsReadable}
use Rattle.command_words.specs.declared.option_name.OptionName.TheVariants.{Actions, Connect}
use Rattle.command_words.specs.declared.option_name.OptionName.TheVariants.{Connections, Content}
use Rattle.command_words.specs.declared.option_name.OptionName.TheVariants.{Count, Depth}
use Rattle.command_words.specs.declared.option_name.OptionName.TheVariants.{Dictionary, Encoding}
use Rattle.command_words.specs.declared.option_name.OptionName.TheVariants.{Endpoint, Id, Listen, Mode}
use Rattle.command_words.specs.declared.option_name.OptionName.TheVariants.{Payload, Replies}
use Rattle.command_words.specs.declared.option_name.OptionName.TheVariants.{BackStatic, Sessions}
use Rattle.command_words.specs.declared.option_name.OptionName.TheVariants.{ReplyContent, ReplyDepth}
use Rattle.command_words.specs.declared.option_name.OptionName.TheVariants.{ReplyDictionary, ReplyPayload}
use Rattle.command_words.specs.declared.option_name.OptionName.TheVariants.{Second, Seed, Session}
use Rattle.command_words.specs.declared.option_name.OptionName.TheVariants.{Static, Via, Window}
use Rattle.command_words.specs.Options.{begins_with_hyphen, dashed, option_text, Text}

-- ---- the words of options

pub long_of-dashed : (option : OptionName) → long_of (dashed option)
    ≡ Some (option_text option, None)
long_of-dashed Static = refl
long_of-dashed Replies = refl
long_of-dashed Via = refl
long_of-dashed Mode = refl
long_of-dashed Encoding = refl
long_of-dashed Listen = refl
long_of-dashed Connections = refl
long_of-dashed Connect = refl
long_of-dashed Second = refl
long_of-dashed BackStatic = refl
long_of-dashed Sessions = refl
long_of-dashed Seed = refl
long_of-dashed Count = refl
long_of-dashed Id = refl
long_of-dashed Window = refl
long_of-dashed Endpoint = refl
long_of-dashed Actions = refl
long_of-dashed Payload = refl
long_of-dashed Depth = refl
long_of-dashed Dictionary = refl
long_of-dashed Content = refl
long_of-dashed Session = refl
long_of-dashed ReplyPayload = refl
long_of-dashed ReplyDepth = refl
long_of-dashed ReplyDictionary = refl
long_of-dashed ReplyContent = refl

pub long_of-joined : (option : OptionName) (value : Text)
    → long_of (dashed option ++ (codes "=" ++ value)) ≡ Some (option_text option, Some value)
long_of-joined Static value = refl
long_of-joined Replies value = refl
long_of-joined Via value = refl
long_of-joined Mode value = refl
long_of-joined Encoding value = refl
long_of-joined Listen value = refl
long_of-joined Connections value = refl
long_of-joined Connect value = refl
long_of-joined Second value = refl
long_of-joined BackStatic value = refl
long_of-joined Sessions value = refl
long_of-joined Seed value = refl
long_of-joined Count value = refl
long_of-joined Id value = refl
long_of-joined Window value = refl
long_of-joined Endpoint value = refl
long_of-joined Actions value = refl
long_of-joined Payload value = refl
long_of-joined Depth value = refl
long_of-joined Dictionary value = refl
long_of-joined Content value = refl
long_of-joined Session value = refl
long_of-joined ReplyPayload value = refl
long_of-joined ReplyDepth value = refl
long_of-joined ReplyDictionary value = refl
long_of-joined ReplyContent value = refl

-- a word with a name is no pair of hyphens
pub long-not_pair : (word : Text) (long : Text × Option Text) → long_of word ≡ Some long
    → bytes_eq word (codes "--") ≡ false
long-not_pair word long e = go (cases_Bool (bytes_eq word (codes "--")))
  where
    go : (bytes_eq word (codes "--") ≡ true) ⊎ (bytes_eq word (codes "--") ≡ false)
        → bytes_eq word (codes "--") ≡ false
    go (inr other) = other
    go (inl pair) =
        let is : word ≡ codes "--" = (bytes_eq-Decides word (codes "--")).0 pair in
        cc (rw is at e)

-- ---- words by their looks

-- a number is another one or not
same_byte : (byte c : ℕ) → (byte ≡ c) ⊎ ((byte == c) ≡ false)
same_byte byte c = go (cases_Bool (byte == c))
  where
    go : ((byte == c) ≡ true) ⊎ ((byte == c) ≡ false) → (byte ≡ c) ⊎ ((byte == c) ≡ false)
    go (inl same) = inl (eqb-true byte c same)
    go (inr other) = inr other

lacks-nil : (c : ℕ) → Lacks c []
lacks-nil c i lt = absurd (omega arith)

lacks-cons : (c byte : ℕ) (rest : Text) → (byte == c) ≡ false → Lacks c rest → Lacks c (byte ∷ rest)
lacks-cons c byte rest other lacks zero lt e = true≢false (sym (eq-eqb byte c e) ∙ other)
lacks-cons c byte rest other lacks (suc i) lt e = lacks i (omega arith) e

-- a text has no equals sign, or is cut at the first
pub cut_at_equals : (text : Text) → Lacks 61 text
    ⊎ ((front : Text) × (back : Text) × (text ≡ front ++ 61 ∷ back) × Lacks 61 front)
cut_at_equals [] = inl (lacks-nil 61)
cut_at_equals (byte ∷ rest) = go (same_byte byte 61) (cut_at_equals rest)
  where
    go : (byte ≡ 61) ⊎ ((byte == 61) ≡ false) → Lacks 61 rest
        ⊎ ((front : Text) × (back : Text) × (rest ≡ front ++ 61 ∷ back) × Lacks 61 front)
        → Lacks 61 (byte ∷ rest)
        ⊎ ((front : Text) × (back : Text) × (byte ∷ rest ≡ front ++ 61 ∷ back) × Lacks 61 front)
    go (inl same) behind = inr ([], rest, ap (λ b. b ∷ rest) same, lacks-nil 61)
    go (inr other) (inl lacks) = inl (lacks-cons 61 byte rest other lacks)
    go (inr other) (inr cut) = inr (
      byte ∷ cut.0,
      cut.1,
      ap (λ text. byte ∷ text) cut.2,
      lacks-cons
          61 byte cut.0 other cut.3,
    )

-- `--text` or `--text=value`
abbrev pub IsLong : Text → Text → Option Text → Type 0
IsLong word text None = word ≡ codes "--" ++ text
IsLong word text (Some value) = word ≡ codes "--" ++ (text ++ 61 ∷ value)

-- what a word is for clap, which is no pair of hyphens
pub data Look (word : Text) : Type 0 where
  long : (text : Text) (value : Option Text) → long_of word ≡ Some (text, value) → IsLong word text
      value → Look word
  short : (flags : Text) → long_of word ≡ None → short_of word ≡ Some flags → word ≡ 45 ∷ flags → 0
      < length flags → Look word
  plain : long_of word ≡ None → short_of word ≡ None → begins_with_hyphen word ≡ false → Look word

look-long : (byte : ℕ) (rest : Text) → Look (45 ∷ 45 ∷ byte ∷ rest)
look-long byte rest = go (cut_at_equals (byte ∷ rest))
  where
    go : Lacks 61 (byte ∷ rest)
        ⊎ ((front : Text) × (back : Text) × (byte ∷ rest ≡ front ++ 61 ∷ back) × Lacks 61 front)
        → Look (45 ∷ 45 ∷ byte ∷ rest)
    go (inl lacks) = long (byte ∷ rest) None (ap Some (name_and_value-without (byte ∷ rest) lacks))
        refl
    go (inr cut) = long cut.0 (Some cut.1)
        (ap Some (ap name_and_value cut.2 ∙ name_and_value-at cut.0 cut.1 cut.3))
        (ap (λ text. codes "--" ++ text) cut.2)

look-hyphen : (rest : Text) → IsReadable (45 ∷ rest) → Look (45 ∷ rest)
look-hyphen [] readable = absurd (readable.not_one refl)
look-hyphen (byte ∷ rest) readable = go (same_byte byte 45) rest readable
  where
    go : (byte ≡ 45) ⊎ ((byte == 45) ≡ false) → (rest : Text) → IsReadable (45 ∷ byte ∷ rest)
        → Look (45 ∷ byte ∷ rest)
    go (inl same) [] readable = absurd (readable.not_two (ap (λ b. 45 ∷ b ∷ []) same))
    go (inl same) (next ∷ rest) readable = subst (λ b. Look (45 ∷ b ∷ next ∷ rest)) (sym same)
        (look-long next rest)
    go (inr other) rest readable = short (byte ∷ rest) (rw other refl) (rw other refl) refl
        (omega arith)

pub look : (word : Text) → IsReadable word → Look word
look [] readable = plain refl refl refl
look (byte ∷ rest) readable = go (same_byte byte 45)
  where
    go : (byte ≡ 45) ⊎ ((byte == 45) ≡ false) → Look (byte ∷ rest)
    go (inl same) = subst (λ b. Look (b ∷ rest)) (sym same)
        (look-hyphen rest (subst (λ b. IsReadable (b ∷ rest)) same readable))
    go (inr other) = plain (rw other refl) (rw other refl) other

-- what a word without a hyphen in front isn't
pub plain-looks : (word : Text) → begins_with_hyphen word ≡ false → (long_of word ≡ None)
    × (short_of word ≡ None) × (bytes_eq word (codes "--") ≡ false)
plain-looks [] no_hyphen = (refl, refl, refl)
plain-looks (byte ∷ rest) no_hyphen = (rw no_hyphen refl, rw no_hyphen refl, rw no_hyphen refl)

-- ---- short flags

-- what follows a hyphen in a text has a first character
pub first_flag : (flags : Text) → IsUtf8 (45 ∷ flags) → 0 < length flags → (x : ℕ)
    × (slice_get (chars flags) 0 ≡ Some x)
unfolding chars encode_utf8
first_flag [] utf8 some = absurd (omega arith)
first_flag (byte ∷ rest) utf8 some = go (chars (byte ∷ rest)) refl
  where
    go : (found : List ℕ) → chars (byte ∷ rest) ≡ found → (x : ℕ)
        × (slice_get (chars (byte ∷ rest)) 0 ≡ Some x)
    go [] none =
        let whole : encode_utf8_all (45 ∷ chars (byte ∷ rest)) ≡ 45 ∷ byte ∷ rest = encodes-chars
        (45 ∷ byte ∷ rest) utf8 in
        let alone : encode_utf8_all (45 ∷ []) ≡ 45 ∷ byte ∷ rest = rw none at whole in
        cc alone
    go (x ∷ more) is = (x, rw is refl)
