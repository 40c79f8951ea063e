-- A line has a form exactly where the form is read out of it.
use Rattle.std.proofs.Common.{◌≡◌, ℕ, List, [], ◌∷◌, Some, None, codes, Option, sym, refl, ap, ◌∙◌}
use Rattle.{std.proofs.Common.subst, nbfx_values.specs.declared.content.ArrayKind.ArrayKind}
use Rattle.line_notation.specs.{declared.line.Keyword.Keyword, Words.words_of}
use Rattle.line_notation.specs.Forms.{AreQuoted, array, array_kind_in, array_kind_word, array_kinds}
use Rattle.line_notation.specs.Forms.{attr, close, comment, Form, form_behind, form_in, form_of}
use Rattle.line_notation.specs.Forms.{IsForm, IsLine, keyword_in, keyword_word, keywords_of_lines}
use Rattle.line_notation.specs.Forms.{ns, start, text, two_texts_at, values}
use Rattle.line_notation.specs.{Options.alone, Options.◌>>=◌, Quoted.quoted_in, Scalars.one_word}
use Rattle.line_notation.specs.Values.{if_some, value_in, values_in}
use Rattle.line_notation.proofs.{ClosedFacts.form-words, TokenFacts.found}
use Rattle.line_notation.proofs.{GatherFacts.some_same, SpacedFacts.spaced-words_of}
use Rattle.line_notation.proofs.PiecesFacts.{quoted-quoted_in, quoted_in-quoted}
use Rattle.line_notation.proofs.ScalarFacts.{has_word, HasWord, named}
use Rattle.line_notation.proofs.WrittenFacts.{one-value-read, read-one-value, read-some-values}
use Rattle.line_notation.proofs.WrittenFacts.{some-values-read}
use Rattle.nbfx_values.specs.declared.content.ArrayKind.TheVariants as arrays
use Rattle.line_notation.specs.declared.line.Keyword.TheVariants as keywords

-- two texts in front of words
two-read : (first second a b : List ℕ) (rest : List (List ℕ)) → AreQuoted first second a b
    → two_texts_at (a ∷ b ∷ rest) ≡ Some ((first, second), rest)
two-read first second a b rest (q, r) = rw (quoted_in-quoted first a q, quoted_in-quoted second b r)
    refl

kind-read : (kind : ArrayKind) → array_kind_in (array_kind_word kind) ≡ Some kind
kind-read arrays.Bool = refl
kind-read _ = refl

-- the form that words have is read out of them
form-read : (form : Form) (words : List (List ℕ)) → IsForm form words → form_in words ≡ Some form
form-read (start prefix local) words (a, b, e, h) =
    ap form_in e ∙ ap (λ read. alone read >>= λ names. Some (start names.0 names.1))
    (two-read prefix local a b [] h)
form-read (ns prefix uri) words (a, b, e, h) = ap form_in e ∙
    ap (λ read. alone read >>= λ names. Some (ns names.0 names.1)) (two-read prefix uri a b [] h)
form-read (attr prefix local written) words (a, b, own, e, h, v) =
    ap form_in e ∙ ap (λ read. read >>= λ names. value_in names.1 >>= λ written. Some
    (attr names.0.0 names.0.1 written)) (two-read prefix local a b own h)
    ∙ ap (λ read. read >>= λ written. Some (attr prefix local written))
    (one-value-read written own v)
form-read (text written) words (own, e, v) = ap form_in e ∙
    ap (λ read. read >>= λ written. Some (text written)) (one-value-read written own v)
form-read (comment bytes) words (a, e, q) = ap form_in e ∙ rw (quoted_in-quoted bytes a q) refl
form-read (array kind prefix local) words (a, b, e, h) =
    ap form_in e ∙ rw (kind-read kind)
    (ap (λ read. alone read >>= λ names. Some (array kind names.0 names.1))
    (two-read prefix local a b [] h))
form-read (values written) words (own, e, v) = ap form_in e ∙
    ap (λ read. read >>= λ written. Some (values written)) (some-values-read written own v)
form-read close words e = ap form_in e

-- the two texts that are read
record AreTwo (words rest : List (List ℕ)) (names : List ℕ × List ℕ) : Type 0 where
  a : List ℕ
  b : List ℕ
  words_are : words ≡ a ∷ b ∷ rest
  are : AreQuoted names.0 names.1 a b

are_two : (words rest : List (List ℕ)) (names : List ℕ × List ℕ) → two_texts_at words
    ≡ Some (names, rest) → AreTwo words rest names
are_two words rest names e =
    let a = found (one_word quoted_in words) _ (names, rest) e in
    let b = found (one_word quoted_in a.value.1) (λ b. Some ((a.value.0, b.0), b.1)) (names, rest)
    a.step_is in
    inner a.value.0 b.value.0 (has_word quoted_in words a.value.1 a.value.0 a.read_is)
    (has_word quoted_in a.value.1 b.value.1 b.value.0 b.read_is) (some_same b.step_is)
  where
    inner : (first second : List ℕ) {left behind : List (List ℕ)} → HasWord quoted_in words left
        first → HasWord quoted_in left behind second
        → ◌≡◌ {A = (List ℕ × List ℕ) × List (List ℕ)} ((first, second), behind) (names, rest)
        → AreTwo words rest names
    inner first second a b same =
        subst (λ (p : (List ℕ × List ℕ) × List (List ℕ)). AreTwo words p.1 p.0) same
        (record {
          a = a.word;
          b = b.word;
          words_are = a.words_are ∙ ap (λ l. a.word ∷ l) b.words_are;
          are = (quoted-quoted_in first a.word a.read_is, quoted-quoted_in second b.word b.read_is);
        })

-- what is read where no word is left behind it
alone-is : {A : Type 0} (read : Option (A × List (List ℕ))) (a : A) → alone read ≡ Some a → read
    ≡ Some (a, [])
alone-is None a e = absurd cc
alone-is (Some (b, [])) a e = ap (λ b. Some (b, [])) (some_same e)
alone-is (Some (b, word ∷ words)) a e = absurd cc

two-alone : (words : List (List ℕ)) (names : List ℕ × List ℕ) → alone (two_texts_at words)
    ≡ Some names → AreTwo words [] names
two-alone words names e = are_two words [] names (alone-is (two_texts_at words) names e)

-- and the words have the form that is read
behind-form : (keyword : Keyword) (words : List (List ℕ)) (form : Form) → form_behind keyword words
    ≡ Some form → IsForm form (keyword_word keyword ∷ words)
behind-form keywords.Start words form e =
    let f = found (alone (two_texts_at words)) (λ names. Some (start names.0 names.1)) form e in
    let t = two-alone words f.value f.read_is in
    subst (λ form. IsForm form (codes "start" ∷ words)) (some_same f.step_is)
    (t.a, t.b, ap (λ l. codes "start" ∷ l) t.words_are, t.are)
behind-form keywords.Ns words form e =
    let f = found (alone (two_texts_at words)) (λ names. Some (ns names.0 names.1)) form e in
    let t = two-alone words f.value f.read_is in
    subst (λ form. IsForm form (codes "ns" ∷ words)) (some_same f.step_is)
    (t.a, t.b, ap (λ l. codes "ns" ∷ l) t.words_are, t.are)
behind-form keywords.Attr words form e =
    let f = found (two_texts_at words) _ form e in
    let v = found (value_in f.value.1) (λ written. Some (attr f.value.0.0 f.value.0.1 written)) form
    f.step_is in
    let t = are_two words f.value.1 f.value.0 f.read_is in
    subst (λ form. IsForm form (codes "attr" ∷ words)) (some_same v.step_is) (
      t.a,
      t.b,
      f.value.1,
      ap (λ l. codes "attr" ∷ l) t.words_are,
      t.are,
      read-one-value f.value.1
          v.value v.read_is,
    )
behind-form keywords.Text words form e =
    let v = found (value_in words) (λ written. Some (text written)) form e in
    subst (λ form. IsForm form (codes "text" ∷ words)) (some_same v.step_is)
    (words, refl, read-one-value words v.value v.read_is)
behind-form keywords.Comment words form e =
    let f = found (alone (one_word quoted_in words)) (λ bytes. Some (comment bytes)) form e in
    let w = has_word quoted_in words [] f.value
    (alone-is (one_word quoted_in words) f.value f.read_is) in
    subst (λ form. IsForm form (codes "comment" ∷ words)) (some_same f.step_is)
    (w.word, ap (λ l. codes "comment" ∷ l) w.words_are, quoted-quoted_in f.value w.word w.read_is)
behind-form keywords.Array words form e =
    let k = found (one_word array_kind_in words) _ form e in
    let f = found (alone (two_texts_at k.value.1)) (λ names. Some (array k.value.0 names.0 names.1))
    form k.step_is in
    let w = has_word array_kind_in words k.value.1 k.value.0 k.read_is in
    let t = two-alone k.value.1 f.value f.read_is in
    let kind : w.word ≡ array_kind_word k.value.0 = named array_kind_word w.word array_kinds
    k.value.0 w.read_is in
    subst (λ form. IsForm form (codes "array" ∷ words)) (some_same f.step_is) (
      t.a,
      t.b,
      ap (λ l. codes "array" ∷ l) (w.words_are ∙ ap (λ l. w.word ∷ l) t.words_are ∙
          ap (λ w. w ∷ t.a ∷ t.b ∷ []) kind),
      t.are,
    )
behind-form keywords.Values words form e =
    let v = found (values_in words >>= if_some) (λ written. Some (values written)) form e in
    subst (λ form. IsForm form (codes "values" ∷ words)) (some_same v.step_is)
    (words, refl, read-some-values words v.value v.read_is)
behind-form keywords.Close [] form e = subst (λ form. IsForm form (codes "close" ∷ []))
    (some_same e) refl
behind-form keywords.Close (word ∷ words) form e = absurd cc

read-form : (words : List (List ℕ)) (form : Form) → form_in words ≡ Some form → IsForm form words
read-form [] form e = absurd cc
read-form (word ∷ words) form e =
    let k = found (keyword_in word) (λ keyword. form_behind keyword words) form e in
    subst (λ w. IsForm form (w ∷ words))
    (sym (named keyword_word word keywords_of_lines k.value k.read_is))
    (behind-form k.value words form k.step_is)

-- a line and its form
pub line-read : (form : Form) (line : List ℕ) → IsLine form line → form_of line ≡ Some form
line-read form line (words, e, h) = ap form_of e ∙ ap form_in (form-words form words h) ∙ form-read
    form words h

pub read-line : (line : List ℕ) (form : Form) → form_of line ≡ Some form → IsLine form line
read-line line form e = (
  words_of line,
  sym (spaced-words_of line),
  read-form (words_of line) form
      e,
)
