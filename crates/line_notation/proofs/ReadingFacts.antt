-- What the words behind each keyword say, read and judged at once.
use Rattle.std.proofs.Common.{◌≡◌, ℕ, Bool, true, false, not, ◌&&◌, List, [], ◌∷◌, if◌then◌else◌}
use Rattle.std.proofs.Common.{nat_lt, Some, None, Ok, Err, Option, Result, sym, refl, ap, ◌∙◌}
use Rattle.{std.specs.Str.is_utf8, nbfx_values.specs.Items.fits_kind}
use Rattle.nbfx_values.specs.declared.{content.ArrayKind.ArrayKind, scalars.Scalar.Scalar}
use Rattle.nbfx_values.specs.declared.content.Item.TheVariants.{Attr, Comment, Start, Text, Xmlns}
use Rattle.line_notation.specs.declared.{line.Line.Line, reader.LineKind.LineKind}
use Rattle.line_notation.specs.declared.reader.LineKind.TheVariants.{BadText, OutOfRange}
use Rattle.line_notation.specs.BehindKeywords.{as_attribute, judged_behind, read_array, values_of}
use Rattle.line_notation.specs.BehindKeywords.{read_attribute, read_comment, read_declaration}
use Rattle.line_notation.specs.BehindKeywords.{read_start, read_text, read_values, texts_alone}
use Rattle.line_notation.specs.Forms.{array, array_kind_in, attr, comment, Form, ns, start, text}
use Rattle.line_notation.specs.{Forms.two_texts_at, Forms.values, Options.alone, Options.◌>>=◌}
use Rattle.line_notation.specs.Judging.{are_in_range, are_scalars, begun_array, have_good_texts}
use Rattle.line_notation.specs.Judging.{judged, said, scalars_of, value_said}
use Rattle.line_notation.specs.Parts.{both, holder_of, judged_by, judged_scalars, judged_text}
use Rattle.line_notation.specs.Parts.{judged_text_in, judged_texts_at, judged_value}
use Rattle.line_notation.specs.Parts.{judged_value_in, mapped}
use Rattle.line_notation.specs.{Quoted.quoted_in, Scalars.one_word, Values.Written}
use Rattle.line_notation.specs.Values.{how_many, if_some, value_in, values_in as written_in}
use Rattle.line_notation.proofs.GatherFacts.{held-range}
use Rattle.line_notation.specs.declared.line.Keyword.TheVariants as keywords
use Rattle.line_notation.specs.declared.line.Line.TheVariants as says

-- a list of bytes, texts in front of words, and the same judged
abbrev Bytes : Type 0
Bytes = List ℕ

abbrev Read : Type 0 → Type 0
Read A = Option (A × List Bytes)

abbrev with_words : {A : Type 0} → List Bytes → Option A → Read A
with_words {A} words read = ◌>>=◌ {A = A} {B = A × List Bytes} read (λ a. Some (a, words))

abbrev judged_one : Read Bytes → Read (Result Bytes LineKind)
judged_one read = ◌>>=◌ {A = Bytes × List Bytes} {B = Result Bytes LineKind × List Bytes} read
    (λ t. Some (judged_text t.0, t.1))

one-judged : (words : List Bytes) → one_word judged_text_in words
    ≡ judged_one (one_word quoted_in words)
one-judged [] = refl
one-judged (word ∷ words) = go (quoted_in word)
  where
    go : (read : Option Bytes) → with_words words (read >>= λ t. Some (judged_text t))
        ≡ judged_one (with_words words read)
    go None = refl
    go (Some t) = refl

-- two texts, each of which may be refused
abbrev judged_two : Bytes × Bytes → Result (Bytes × Bytes) LineKind
judged_two t = both (judged_text t.0) (judged_text t.1)

abbrev judged_texts : Read (Bytes × Bytes) → Read (Result (Bytes × Bytes) LineKind)
judged_texts read = ◌>>=◌ {A = (Bytes × Bytes) × List Bytes} {B = Result (Bytes × Bytes) LineKind
    × List Bytes} read (λ t. Some (judged_two t.0, t.1))

abbrev second_judged : Result Bytes LineKind → Read (Result Bytes LineKind)
    → Read (Result (Bytes × Bytes) LineKind)
second_judged first read =
    ◌>>=◌ {A = Result Bytes LineKind × List Bytes} {B = Result (Bytes × Bytes) LineKind
    × List Bytes} read (λ b. Some (both first b.0, b.1))

abbrev second : Bytes → Read Bytes → Read (Bytes × Bytes)
second first read = ◌>>=◌ {A = Bytes × List Bytes} {B = (Bytes × Bytes) × List Bytes} read
    (λ b. Some ((first, b.0), b.1))

second-judged : (first : Bytes) (read : Read Bytes) → second_judged (judged_text first)
    (judged_one read) ≡ judged_texts (second first read)
second-judged first None = refl
second-judged first (Some b) = refl

texts-judged : (words : List Bytes) → judged_texts_at words ≡ judged_texts (two_texts_at words)
texts-judged words = ap (λ read. read >>= λ a. second_judged a.0 (one_word judged_text_in a.1))
    (one-judged words) ∙ go (one_word quoted_in words)
  where
    go : (read : Read Bytes)
        → (judged_one read >>= λ a. second_judged a.0 (one_word judged_text_in a.1))
        ≡ judged_texts (read >>= λ a. second a.0 (one_word quoted_in a.1))
    go None = refl
    go (Some a) = ap (second_judged (judged_text a.0)) (one-judged a.1) ∙ second-judged a.0
        (one_word quoted_in a.1)

-- two texts and no more
texts_alone-judged : (words : List Bytes) → texts_alone words
    ≡ (alone (two_texts_at words) >>= λ t. Some (judged_two t))
texts_alone-judged words = ap alone (texts-judged words) ∙ go (two_texts_at words)
  where
    go : (read : Read (Bytes × Bytes)) → alone (judged_texts read)
        ≡ (alone read >>= λ t. Some (judged_two t))
    go None = refl
    go (Some (t, [])) = refl
    go (Some (t, word ∷ words)) = refl

-- what is said by two texts
abbrev SaidByTexts : Option ArrayKind → (Bytes → Bytes → Form) → (Bytes × Bytes → Line) → Type 0
SaidByTexts kind form make = (a b : Bytes) → judged kind (form a b)
    ≡ mapped make (judged_two (a, b))

by-texts : (kind : Option ArrayKind) (form : Bytes → Bytes → Form) (make : Bytes × Bytes → Line)
    → SaidByTexts kind form make → (words : List Bytes)
    → ((alone (two_texts_at words) >>= λ t. Some (form t.0 t.1)) >>= λ f. Some (judged kind f))
    ≡ (texts_alone words >>= λ t. Some (mapped make t))
by-texts kind form make same words = go (alone (two_texts_at words)) ∙
    ap (λ read. read >>= λ t. Some (mapped make t)) (sym (texts_alone-judged words))
  where
    go : (read : Option (Bytes × Bytes))
        → ((read >>= λ t. Some (form t.0 t.1)) >>= λ f. Some (judged kind f))
        ≡ ((read >>= λ t. Some (judged_two t)) >>= λ t. Some (mapped make t))
    go None = refl
    go (Some t) = ap Some (same t.0 t.1)

-- a judged line by two texts that are good, or not
two-texts : (make : Bytes × Bytes → Line) (a b : Bytes)
    → (if not (is_utf8 a && is_utf8 b) then Err BadText else Ok (make (a, b)))
    ≡ mapped make (judged_two (a, b))
two-texts make a b = go (is_utf8 a) (is_utf8 b)
  where
    go : (s t : Bool) → (if not (s && t) then Err BadText else Ok (make (a, b)))
        ≡ mapped make (both (if s then Ok a else Err BadText) (if t then Ok b else Err BadText))
    go true true = refl
    go true false = refl
    go false true = refl
    go false false = refl

pub reads-start : (kind : Option ArrayKind) (words : List Bytes) → judged_behind kind keywords.Start
    words ≡ read_start words
reads-start kind words = by-texts kind start (λ t. says.Item (Start t.0 t.1))
    (two-texts (λ t. says.Item (Start t.0 t.1))) words

pub reads-declaration : (kind : Option ArrayKind) (words : List Bytes) → judged_behind kind
    keywords.Ns words ≡ read_declaration words
reads-declaration kind words = by-texts kind ns (λ t. says.Item (Xmlns t.0 t.1))
    (two-texts (λ t. says.Item (Xmlns t.0 t.1))) words

-- an attribute
attribute-said : (kind : Option ArrayKind) (a b : Bytes) (written : Written)
    → judged kind (attr a b written) ≡ mapped as_attribute
    (both (judged_two (a, b)) (judged_value written))
attribute-said kind a b written = go (is_utf8 a) (is_utf8 b) (have_good_texts written)
    (are_in_range written)
  where
    go : (s t goods fit : Bool)
        → (if not ((s && t) && goods) then Err BadText else if not fit then Err OutOfRange else Ok
        (says.Item (Attr a b (value_said written))))
        ≡ mapped as_attribute
        (both (both (if s then Ok a else Err BadText) (if t then Ok b else Err BadText))
        (if goods then (if fit then Ok (value_said written) else Err OutOfRange) else Err BadText))
    go true true true true = refl
    go true true true false = refl
    go true true false fit = refl
    go true false true true = refl
    go true false true false = refl
    go true false false fit = refl
    go false true true true = refl
    go false true true false = refl
    go false true false fit = refl
    go false false true true = refl
    go false false true false = refl
    go false false false fit = refl

pub reads-attribute : (kind : Option ArrayKind) (words : List Bytes) → judged_behind kind
    keywords.Attr words ≡ read_attribute words
reads-attribute kind words = go (two_texts_at words) ∙
    ap (λ read. read >>= λ t. judged_value_in t.1 >>= λ value. Some
    (mapped as_attribute (both t.0 value))) (sym (texts-judged words))
  where
    inner : (a b : Bytes) (read : Option Written)
        → ((read >>= λ written. Some (attr a b written)) >>= λ f. Some (judged kind f))
        ≡ ((read >>= λ written. Some (judged_value written)) >>= λ value. Some
        (mapped as_attribute (both (judged_two (a, b)) value)))
    inner a b None = refl
    inner a b (Some written) = ap Some (attribute-said kind a b written)

    go : (read : Read (Bytes × Bytes))
        → ((read >>= λ t. value_in t.1 >>= λ written. Some (attr t.0.0 t.0.1 written)) >>= λ f. Some
        (judged kind f))
        ≡ (judged_texts read >>= λ t. judged_value_in t.1 >>= λ value. Some
        (mapped as_attribute (both t.0 value)))
    go None = refl
    go (Some t) = inner t.0.0 t.0.1 (value_in t.1)

-- a text and a comment
text-said : (kind : Option ArrayKind) (written : Written) → judged kind (text written)
    ≡ mapped (λ v. says.Item (Text v)) (judged_value written)
text-said kind written = go (have_good_texts written) (are_in_range written)
  where
    go : (goods fit : Bool)
        → (if not goods then Err BadText else if not fit then Err OutOfRange else Ok
        (says.Item (Text (value_said written))))
        ≡ mapped (λ v. says.Item (Text v))
        (if goods then (if fit then Ok (value_said written) else Err OutOfRange) else Err BadText)
    go true true = refl
    go true false = refl
    go false fit = refl

pub reads-text : (kind : Option ArrayKind) (words : List Bytes) → judged_behind kind keywords.Text
    words ≡ read_text words
reads-text kind words = go (value_in words)
  where
    go : (read : Option Written)
        → ((read >>= λ written. Some (text written)) >>= λ f. Some (judged kind f))
        ≡ ((read >>= λ written. Some (judged_value written)) >>= λ value. Some
        (mapped (λ v. says.Item (Text v)) value))
    go None = refl
    go (Some written) = ap Some (text-said kind written)

comment-said : (kind : Option ArrayKind) (bytes : Bytes) → judged kind (comment bytes)
    ≡ mapped (λ t. says.Item (Comment t)) (judged_text bytes)
comment-said kind bytes = go (is_utf8 bytes)
  where
    go : (t : Bool) → (if not t then Err BadText else Ok (says.Item (Comment bytes)))
        ≡ mapped (λ t. says.Item (Comment t)) (if t then Ok bytes else Err BadText)
    go true = refl
    go false = refl

pub reads-comment : (kind : Option ArrayKind) (words : List Bytes) → judged_behind kind
    keywords.Comment words ≡ read_comment words
reads-comment kind words = go (one_word quoted_in words) ∙
    ap (λ read. alone read >>= λ t. Some (mapped (λ t. says.Item (Comment t)) t))
    (sym (one-judged words))
  where
    go : (read : Read Bytes)
        → ((alone read >>= λ bytes. Some (comment bytes)) >>= λ f. Some (judged kind f))
        ≡ (alone (judged_one read) >>= λ t. Some (mapped (λ t. says.Item (Comment t)) t))
    go None = refl
    go (Some (bytes, [])) = ap Some (comment-said kind bytes)
    go (Some (bytes, word ∷ words)) = refl

-- an array and its values
pub reads-array : (kind : Option ArrayKind) (words : List Bytes) → judged_behind kind keywords.Array
    words ≡ read_array words
reads-array kind words = go (one_word array_kind_in words)
  where
    make : ArrayKind → Bytes × Bytes → Line
    make own t = says.Array (begun_array own t.0 t.1)

    go : (read : Read ArrayKind)
        → ((read >>= λ own. alone (two_texts_at own.1) >>= λ t. Some (array own.0 t.0 t.1)) >>= λ f.
        Some (judged kind f))
        ≡ (read >>= λ own. texts_alone own.1 >>= λ t. Some (mapped (make own.0) t))
    go None = refl
    go (Some own) = by-texts kind (array own.0) (make own.0) (two-texts (make own.0)) own.1

values-said : (kind : Option ArrayKind) (written : Written) → judged kind (values written)
    ≡ values_of kind (judged_scalars (holder_of kind) written)
values-said kind written = each kind
  where
    go : (kind : Option ArrayKind) (goods fit : Bool)
        → (if not goods then Err BadText else if not fit then Err OutOfRange else said kind
        (values written))
        ≡ values_of kind (if goods then (if fit then Ok (scalars_of written) else Err OutOfRange)
        else Err BadText)
    go None true true = refl
    go (Some own) true true = refl
    go kind true false = refl
    go kind false fit = refl

    each : (kind : Option ArrayKind) → judged kind (values written)
        ≡ values_of kind (judged_scalars (holder_of kind) written)
    each None =
        go None (have_good_texts written) (are_in_range written)
        ∙ ap (λ taken. values_of None
        (judged_by (have_good_texts written) taken (scalars_of written))) (sym (held-range written))
    each (Some own) = go (Some own) (have_good_texts written) (are_scalars (fits_kind own) written)

pub reads-values : (kind : Option ArrayKind) (words : List Bytes) → judged_behind kind
    keywords.Values words ≡ read_values kind words
reads-values kind words = go (written_in words)
  where
    inner : (written : Written) (some : Bool)
        → (((if some then Some written else None) >>= λ written. Some (values written)) >>= λ f.
        Some (judged kind f))
        ≡ (if some then Some (values_of kind (judged_scalars (holder_of kind) written)) else None)
    inner written true = ap Some (values-said kind written)
    inner written false = refl

    go : (read : Option Written)
        → (((read >>= if_some) >>= λ written. Some (values written)) >>= λ f. Some (judged kind f))
        ≡ (◌>>=◌ {A = Written} {B = ℕ × Result (List Scalar) LineKind} read
        (λ written. Some (how_many written, judged_scalars (holder_of kind) written)) >>= λ all.
        if nat_lt 0 all.0 then Some (values_of kind all.1) else None)
    go None = refl
    go (Some written) = inner written (nat_lt 0 (how_many written))
