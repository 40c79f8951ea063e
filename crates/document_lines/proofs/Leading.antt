-- Where lines lead that come behind others, and what that says of all bytes.
use Rattle.std.proofs.Common.{◌≡◌, ℕ, ◌+◌, ◌-◌, ◌<◌, ◌≤◌, Bool, true, false, List, [], ◌∷◌, ◌++◌}
use Rattle.std.proofs.Common.{length, take, if◌then◌else◌, nat_le, Some, None, Ok, Err, Option}
use Rattle.std.proofs.Common.{Result, sym, refl, ap, ◌∙◌, subst, arith}
use Rattle.std.proofs.{Common.length-append, Common.le-leb, lemmas.Bool.lt-leb}
use Rattle.std.proofs.Math.Seq.{take-append-add, take-append_seam}
use Rattle.nbfx_values.specs.declared.content.Item.{Item}
use Rattle.line_notation.specs.declared.reader.LineFault.{LineFault, TheVariants.Bad}
use Rattle.line_notation.specs.{declared.reader.LineKind.LineKind, Between.IsUnrefused, Lines.cut}
use Rattle.line_notation.specs.LineReaderState.{after, answer, answer_of, ends, failed, going}
use Rattle.line_notation.specs.LineReaderState.{on, outcome, Placed, Standing, standing}
use Rattle.line_notation.specs.LineReaderState.{standing_from, standing_of}
use Rattle.document_lines.specs.declared.InputFault.{InputFault}
use Rattle.document_lines.specs.declared.InputFault.TheVariants.{Line, TooLong}
use Rattle.document_lines.specs.Documents.{documents_in, documents_within, refusal_in, unless}
use Rattle.line_streams.proofs.Cutting.{cut_append}

-- this is why one of the lines of these bytes is refused
pub record IsWhy (fault : InputFault) (p : List ℕ) : Type 0 where
  pub number : ℕ
  pub kind : LineKind
  pub fault_is : fault ≡ Line number kind
  pub stands : standing (cut p).0 ≡ failed (Bad number kind)

-- a line that is refused is so for good
refused_of : (n : ℕ) (o : Result Placed LineKind) (fault : LineFault) → answer_of n o ≡ Err fault
    → standing_of n o ≡ failed fault
refused_of n (Ok (on items array)) fault e = cc
refused_of n (Ok (ends doc)) fault e = cc
refused_of n (Err kind) fault e = let same : Bad n kind ≡ fault = cc in ap failed same

pub refused_leads : (z : Standing) (line : List ℕ) (fault : LineFault) → answer z line ≡ Err fault
    → after z line ≡ failed fault
refused_leads (failed other) line fault e = let same : other ≡ fault = cc in ap failed same
refused_leads (going n items array) line fault e =
    refused_of (n + 1) (outcome items array line) fault e

-- lines behind it change nothing
failed_stays : (fault : LineFault) (lines : List (List ℕ))
    → standing_from (failed fault) lines ≡ failed fault
failed_stays fault [] = refl
failed_stays fault (line ∷ lines) = failed_stays fault lines

pub from_append : (z : Standing) (lines more : List (List ℕ))
    → standing_from z (lines ++ more) ≡ standing_from (standing_from z lines) more
from_append z [] more = refl
from_append z (line ∷ lines) more = from_append (after z line) lines more

pub why_stays : (fault : InputFault) (p more : List ℕ) → IsWhy fault p → IsWhy fault (p ++ more)
why_stays fault p more why = record {
  number = why.number;
  kind = why.kind;
  fault_is = why.fault_is;
  stands = ap (λ (c : List (List ℕ) × List ℕ). standing c.0) (cut_append p more)
      ∙ from_append (going 0 [] None) (cut p).0 (cut ((cut p).1 ++ more)).0
      ∙ ap (λ z. standing_from z (cut ((cut p).1 ++ more)).0) why.stands
      ∙ failed_stays (Bad why.number why.kind) (cut ((cut p).1 ++ more)).0;
}

-- ---- what it says of all bytes

-- a test by its answer
if_true : {T : Type 0} (b : Bool) (x y : T) → b ≡ true → (if b then x else y) ≡ x
if_true true x y e = refl
if_true false x y e = cc

if_false : {T : Type 0} (b : Bool) (x y : T) → b ≡ false → (if b then x else y) ≡ y
if_false true x y e = cc
if_false false x y e = refl

why_refusal : (fault : InputFault) (p : List ℕ) → IsWhy fault p
    → refusal_in (standing (cut p).0) ≡ Some fault
why_refusal fault p why = ap refusal_in why.stands ∙ ap Some (sym why.fault_is)

-- a refused line is the answer, whatever comes behind it
pub why_within : (quota : ℕ) (fault : InputFault) (p more : List ℕ) → IsWhy fault p
    → length p ≤ quota → documents_within quota (p ++ more) ≡ Err fault
why_within quota fault p more why le = by_length (nat_le quota (length (p ++ more))) refl where
  front_is : take quota (p ++ more) ≡ p ++ take (quota - length p) more
  front_is =
      ap (λ n. take n (p ++ more)) (let same : quota ≡ length p + (quota - length p) = omega
      (arith, le) in same) ∙ take-append-add p more (quota - length p)

  refused : (q : List ℕ) → IsWhy fault q → (later : Result (List (List Item)) InputFault)
      → unless (refusal_in (standing (cut q).0)) later ≡ Err fault
  refused q w later = ap (λ (r : Option InputFault). unless r later) (why_refusal fault q w)

  by_length : (v : Bool) → nat_le quota (length (p ++ more)) ≡ v
      → documents_within quota (p ++ more) ≡ Err fault
  by_length true is =
      if_true _ _ _ is
      ∙ refused (take quota (p ++ more)) (subst (IsWhy fault) (sym front_is)
      (why_stays fault p (take (quota - length p) more) why)) (Err TooLong)
  by_length false is =
      if_false _ _ _ is ∙ refused (p ++ more) (why_stays fault p more why) _

pub unrefused_none : (z : Standing) → IsUnrefused z → refusal_in z ≡ None
unrefused_none (failed fault) u = absurd u
unrefused_none (going n items array) u = refl

-- as many bytes as the quota are too long, where no line of them is refused
pub too_long : (p more : List ℕ) → IsUnrefused (standing (cut p).0)
    → documents_within (length p) (p ++ more) ≡ Err TooLong
too_long p more unrefused =
    let len = length-append p more in
    if_true (nat_le (length p) (length (p ++ more))) _ _
    (le-leb (length p) (length (p ++ more)) (omega (arith, len)))
    ∙ ap (λ (q : List ℕ). unless (refusal_in (standing (cut q).0)) (Err TooLong))
    (take-append_seam p more)
    ∙ ap (λ (r : Option InputFault). unless r (Err TooLong))
    (unrefused_none (standing (cut p).0) unrefused)

-- fewer bytes are read by themselves
pub short_within : (quota : ℕ) (p : List ℕ) → length p < quota
    → documents_within quota p ≡ documents_in p
short_within quota p lt = if_false (nat_le quota (length p)) _ _ (lt-leb quota (length p) lt)
