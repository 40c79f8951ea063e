-- A line has a form exactly where the form is read out of it, and says one event at most.
use Rattle.std.proofs.Common.{◌≡◌, ℕ, ◌<◌, ◌≤◌, Bool, true, false, List, [], ◌∷◌, ◌++◌}
use Rattle.std.proofs.Common.{if◌then◌else◌, nat_le, ◌==◌, Some, None, Option}
use Rattle.std.proofs.Common.{sym, refl, ap, ◌∙◌, subst, arith, eqb-true, le-leb, leb-true}
use Rattle.std.proofs.Common.{ne_eqb}
use Rattle.std.proofs.lemmas.Bool.{eqb-false}
use Rattle.line_notation.proofs.{GatherFacts.some_same, ScalarFacts.named, TokenFacts.found}
use Rattle.line_notation.proofs.NaturalFacts.{natural-natural_in, natural_in-natural}
use Rattle.line_notation.proofs.PiecesFacts.{quoted-quoted_in, quoted_in-quoted}
use Rattle.line_notation.specs.{Numerals.natural_in, Options.◌>>=◌, Quoted.IsQuoted}
use Rattle.line_notation.specs.Quoted.{quoted_in}
use Rattle.rehearsal.specs.declared.line.Keyword.{Keyword}
use Rattle.rehearsal.specs.Forms.{acknowledges, arrives, delivers, Form, form_alone, form_behind}
use Rattle.rehearsal.specs.Forms.{form_of, form_with, HasArgument, is_heard, IsLine, IsWritten}
use Rattle.rehearsal.specs.Forms.{keyword_in, keyword_word, keywords_of_lines, most_number}
use Rattle.rehearsal.specs.Forms.{number_in, onto_word, parts_of, place_in, sends, submits}
use Rattle.rehearsal.specs.Laws.{HaveOneForm}
use Rattle.rehearsal.specs.declared.line.Keyword.TheVariants as keywords

-- ---- numbers

place-written : (n : ℕ) (digits : List ℕ) → IsWritten n digits → place_in digits ≡ Some n
place-written n digits w =
    let few : n ≤ most_number = let f = w.few in omega (arith, f) in
    ap (λ read. read >>= λ m. if nat_le m most_number then Some m else None)
    (natural_in-natural n digits w.natural) ∙ rw (le-leb n most_number few) refl

written-place : (n : ℕ) (digits : List ℕ) → place_in digits ≡ Some n → IsWritten n digits
written-place n digits e =
    let read = found (natural_in digits) (λ m. if nat_le m most_number then Some m else None) n e in
    by_test read.value read.read_is (nat_le read.value most_number) refl read.step_is
  where
    by_test : (m : ℕ) → natural_in digits ≡ Some m → (v : Bool) → nat_le m most_number ≡ v
        → (if v then Some m else None) ≡ Some n → IsWritten n digits
    by_test m is true few same =
        let n_is : m ≡ n = some_same same in
        let le = leb-true m most_number few in
        subst (λ (k : ℕ). IsWritten k digits) n_is (record {
          natural = natural-natural_in m digits is;
          few = omega (arith, le);
        })
    by_test m is false few same = cc

number-written : (n : ℕ) (digits : List ℕ) → IsWritten n digits → 0 < n → number_in digits ≡ Some n
number-written n digits w some =
    ap (λ read. read >>= λ m. if m == 0 then None else Some m) (place-written n digits w)
    ∙ rw (ne_eqb n 0 (λ e. omega (arith, e, some))) refl

written-number : (n : ℕ) (digits : List ℕ) → number_in digits ≡ Some n
    → IsWritten n digits × (0 < n)
written-number n digits e =
    let read = found (place_in digits) (λ m. if m == 0 then None else Some m) n e in
    by_test read.value read.read_is (read.value == 0) refl read.step_is
  where
    by_test : (m : ℕ) → place_in digits ≡ Some m → (v : Bool) → (m == 0) ≡ v
        → (if v then None else Some m) ≡ Some n → IsWritten n digits × (0 < n)
    by_test m is true zero same = cc
    by_test m is false zero same =
        let n_is : m ≡ n = some_same same in
        let other = eqb-false m 0 zero in
        subst (λ (k : ℕ). IsWritten k digits × (0 < k)) n_is
        (written-place m digits is, omega (arith, other))

-- ---- a form that a line has is read

form-read : (form : Form) (line : List ℕ) → IsLine form line → form_of line ≡ Some form
form-read (submits text true) line (q, e, is) =
    ap form_of e ∙ ap (λ read. read >>= λ t. Some (submits t true)) (quoted_in-quoted text q is)
form-read (submits text false) line (q, e, is) =
    ap form_of e ∙ ap (λ read. read >>= λ t. Some (submits t false)) (quoted_in-quoted text q is)
form-read (sends n) line (digits, e, is) =
    ap form_of e ∙ ap (λ read. read >>= λ m. Some (sends m)) (number-written n digits is.0 is.1)
form-read (arrives at) line (digits, e, is) =
    ap form_of e ∙ ap (λ read. read >>= λ m. Some (arrives m)) (place-written at digits is)
form-read delivers line e = ap form_of e
form-read acknowledges line e = ap form_of e
form-read (is_heard at) line (digits, e, is) =
    ap form_of e ∙ ap (λ read. read >>= λ m. Some (is_heard m)) (place-written at digits is)

-- ---- and a form that is read is the line's

-- a line is its word, and an argument behind a space
abbrev joined : List ℕ × Option (List ℕ) → List ℕ
joined (word, None) = word
joined (word, Some argument) = word ++ 32 ∷ argument

onto-joined : (b : ℕ) (parts : List ℕ × Option (List ℕ)) → joined (onto_word b parts)
    ≡ b ∷ joined parts
onto-joined b (word, None) = refl
onto-joined b (word, Some argument) = refl

parts-joined : (line : List ℕ) → joined (parts_of line) ≡ line
parts-joined [] = refl
parts-joined (b ∷ line) = by_space (parts-joined line) (b == 32) refl where
  by_space : joined (parts_of line) ≡ line → (v : Bool) → (b == 32) ≡ v
      → joined (if v then ([], Some line) else onto_word b (parts_of line)) ≡ b ∷ line
  by_space more true is = ap (λ c. c ∷ line) (sym (eqb-true b 32 is))
  by_space more false is = onto-joined b (parts_of line) ∙ ap (λ l. b ∷ l) more

-- an argument is read, and what it says is the form
argued : {A : Type 0} (keyword : Keyword) (argument : List ℕ) (line : List ℕ)
    (read : Option A) (make : A → Form) (Is : A → List ℕ → Type 0)
    → line ≡ keyword_word keyword ++ 32 ∷ argument
    → ((a : A) → read ≡ Some a → Is a argument) → (form : Form)
    → (read >>= λ a. Some (make a)) ≡ Some form
    → (a : A) × (make a ≡ form) × HasArgument keyword (Is a) line
argued keyword argument line read make Is is reads form e =
    let f = found read (λ a. Some (make a)) form e in
    (f.value, some_same f.step_is, (argument, is, reads f.value f.read_is))

read-alone : (keyword : Keyword) (line : List ℕ) → line ≡ keyword_word keyword → (form : Form)
    → form_alone keyword ≡ Some form → IsLine form line
read-alone keywords.Deliver line is form e =
    subst (λ (f : Form). IsLine f line) (some_same e) is
read-alone keywords.Ack line is form e = subst (λ (f : Form). IsLine f line) (some_same e) is
read-alone keywords.Submit line is form e = cc
read-alone keywords.Last line is form e = cc
read-alone keywords.Send line is form e = cc
read-alone keywords.Data line is form e = cc
read-alone keywords.Heard line is form e = cc

read-with : (keyword : Keyword) (argument line : List ℕ)
    → line ≡ keyword_word keyword ++ 32 ∷ argument → (form : Form)
    → form_with argument keyword ≡ Some form → IsLine form line
read-with keywords.Submit argument line is form e =
    let a = argued keywords.Submit argument line (quoted_in argument) (λ text. submits text false)
    (λ text word. IsQuoted text word) is (λ text read. quoted-quoted_in text argument read) form
    e in
    subst (λ (f : Form). IsLine f line) a.1 a.2
read-with keywords.Last argument line is form e =
    let a = argued keywords.Last argument line (quoted_in argument) (λ text. submits text true)
    (λ text word. IsQuoted text word) is (λ text read. quoted-quoted_in text argument read) form
    e in
    subst (λ (f : Form). IsLine f line) a.1 a.2
read-with keywords.Send argument line is form e =
    let a = argued keywords.Send argument line (number_in argument) sends
    (λ n digits. IsWritten n digits × (0 < n)) is (λ n read. written-number n argument read) form e
    in
    subst (λ (f : Form). IsLine f line) a.1 a.2
read-with keywords.Data argument line is form e =
    let a = argued keywords.Data argument line (place_in argument) arrives
    (λ at digits. IsWritten at digits) is (λ at read. written-place at argument read) form e in
    subst (λ (f : Form). IsLine f line) a.1 a.2
read-with keywords.Heard argument line is form e =
    let a = argued keywords.Heard argument line (place_in argument) is_heard
    (λ at digits. IsWritten at digits) is (λ at read. written-place at argument read) form e in
    subst (λ (f : Form). IsLine f line) a.1 a.2
read-with keywords.Deliver argument line is form e = cc
read-with keywords.Ack argument line is form e = cc

read-parts : (parts : List ℕ × Option (List ℕ)) (line : List ℕ) → joined parts ≡ line
    → (form : Form) → (keyword_in parts.0 >>= form_behind parts.1) ≡ Some form → IsLine form line
read-parts (word, None) line is form e =
    let k = found (keyword_in word) form_alone form e in
    let word_is = named keyword_word word keywords_of_lines k.value k.read_is in
    read-alone k.value line (sym is ∙ word_is) form k.step_is
read-parts (word, Some argument) line is form e =
    let k = found (keyword_in word) (form_with argument) form e in
    let word_is = named keyword_word word keywords_of_lines k.value k.read_is in
    read-with k.value argument line (sym is ∙ ap (λ w. w ++ 32 ∷ argument) word_is) form k.step_is

pub one-form : HaveOneForm
one-form form line =
    (form-read form line, λ e. read-parts (parts_of line) line (parts-joined line) form e)
