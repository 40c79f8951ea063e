-- What a reader of strings stands for after each of its steps.
use Rattle.std.proofs.Common.{◌≡◌, ℕ, ◌+◌, ◌-◌, ◌<◌, ◌≤◌, Bool, true, false, List, [], ◌∷◌, ◌++◌}
use Rattle.std.proofs.Common.{length, get_or, take, drop, if◌then◌else◌, Ok, Err, IsUtf8, Result}
use Rattle.std.proofs.Common.{MatchResult, sym, refl, ap, ◌∙◌, subst, append_assoc, arith}
use Rattle.std.proofs.Common.{length-append, length-drop, length-take-le, take_all, Bor}
use Rattle.std.proofs.Math.Seq.{drop-length, take-add}
use Rattle.std.proofs.lemmas.List.{drop-append-le, take_more}
use Rattle.std.specs.{Result.result_unwrap_or, Str.is_utf8}
use Rattle.unit_streams.proofs.Taken.{all_taken, whole_then, wrong_then}
use Rattle.unit_streams.specs.Front.{begun, whole, wrong}
use Rattle.multibyte_ints.specs.declared.text.{Part.Part, StringReader.StringReader}
use Rattle.multibyte_ints.specs.declared.text.Part.TheVariants.{Answered, Length, Text}
use Rattle.multibyte_ints.specs.declared.text.StringStep.{StringStep, TheVariants.TooLong}
use Rattle.multibyte_ints.specs.declared.text.StringStep.TheVariants.{BadInt, BadUtf8, Done, More}
use Rattle.multibyte_ints.specs.{Integer.int_at, Reader.StandsFor, TextPart.Waits}
use Rattle.multibyte_ints.specs.Text.{bad_int, bad_utf8, string_at, too_long}
use Rattle.multibyte_ints.specs.TextPart.{InLengthAllUsed, InTextAllUsed, is_settled, step_of}
use Rattle.multibyte_ints.specs.TextReader.{EndsAtInt, InLength, InText, Reached, Rests}
use Rattle.multibyte_ints.specs.TextReader.{StringAnswersAt, StringStandsFor, text_of}
use Rattle.multibyte_ints.proofs.IntegerBytes.{int_peels, int_reads_front, wrong_at_last}
use Rattle.multibyte_ints.proofs.{TextBytes.string_reads_front, TextFacts.waiting_is}
use Rattle.multibyte_ints.proofs.TextFacts.{int_begun_is, int_wrong_is, no_text_is, text_is}

reached_at_start : (r : StringReader) (part : Part) → part ≡ Length → StandsFor r.length []
    → Reached r [] part × Waits part
reached_at_start r part e s = rw e (record { begun = int_peels.nothing; int = s }, tt)

pub stands_at_start : (r : StringReader) → r.part ≡ Length → StandsFor r.length [] → StringStandsFor
    r []
unfolding StringStandsFor
stands_at_start r e s = reached_at_start r r.part e s

-- one more byte of a piece
pub one_more : (p piece : List ℕ) (i b : ℕ) → i < length piece → b ≡ get_or piece i 0
    → p ++ take (i + 1) piece ≡ (p ++ take i piece) ++ b ∷ []
one_more p piece i b lt e = rw (take_more piece i 0 lt, e, append_assoc) refl

-- a byte at which the length is wrong
pub wrong_rests : (limit : ℕ) (q : List ℕ) (b : ℕ) → int_at q ≡ begun → int_at (q ++ b ∷ [])
    ≡ wrong tt 5
    → string_at limit (q ++ b ∷ []) ≡ wrong bad_int (length (q ++ b ∷ []))
wrong_rests limit q b before e = int_wrong_is limit (q ++ b ∷ []) tt 5 e ∙ ap (wrong bad_int)
    (wrong_at_last q b before e)

pub begins_text : (r : StringReader) (n : ℕ) (p : List ℕ) → EndsAtInt p n → n ≤ r.limit
    → r.bytes.items ≡ [] → InText r n p
begins_text r n p e low none = record {
  len = n;
  int_len = length p;
  int = e;
  low = low;
  kept = none ∙ sym (drop-length p);
  rest = refl;
}

-- more of the text came
pub goes_on_in_text : (r r' : StringReader) (left used : ℕ) (p piece : List ℕ) → InText r left p
    → r'.limit ≡ r.limit
    → r'.bytes.items ≡ r.bytes.items ++ take used piece → used ≤ left → used ≤ length piece
    → InText r' (left - used) (p ++ take used piece)
goes_on_in_text r r' left used p piece w limit bytes few within =
    let int_within = int_reads_front.whole_within p w.len w.int_len w.int in
    let lens = length-append p (take used piece) in
    let len = length-take-le used piece within in
    record {
      len = w.len;
      int_len = w.int_len;
      int = int_reads_front.whole_stays p (take used piece) w.len w.int_len w.int;
      low = rw limit w.low;
      kept = bytes ∙ ap (λ s. s ++ take used piece) w.kept ∙ sym
          (drop-append-le w.int_len p (take used piece) int_within);
      rest = let rest = w.rest in omega arith;
    }

whole_text : (r : StringReader) (q : List ℕ) (w : InText r 0 q) → (w.int_len + w.len ≤ length q)
    × (take w.len (drop w.int_len q) ≡ r.bytes.items)
whole_text r q w =
    let rest = w.rest in
    (omega arith, take_all w.len (drop w.int_len q) (simp length-drop (omega arith)) ∙ sym w.kept)

rests_by : (r : StringReader) (q : List ℕ) → InText r 0 q → (u : Bool) → is_utf8 r.bytes.items ≡ u
    → Rests r.limit q r.bytes.items (if u then Done else BadUtf8)
rests_by r q w true e =
    let there = whole_text r q w in
    let rest = w.rest in
    let size : w.int_len + w.len ≡ length q = omega arith in
    text_is r.limit q w.len w.int_len w.int w.low there.0 (ap is_utf8 there.1 ∙ e)
    ∙ ap (λ s. whole s (w.int_len + w.len)) there.1 ∙ ap (whole r.bytes.items) size
rests_by r q w false e =
    let there = whole_text r q w in
    let rest = w.rest in
    let size : w.int_len + w.len ≡ length q = omega arith in
    no_text_is r.limit q w.len w.int_len w.int w.low there.0 (ap is_utf8 there.1 ∙ e) ∙
    ap (wrong bad_utf8) size

-- the last of the text came
pub rests_at_end : (r : StringReader) (q : List ℕ) → InText r 0 q
    → Rests r.limit q r.bytes.items (if is_utf8 r.bytes.items then Done else BadUtf8)
rests_at_end r q w = rests_by r q w (is_utf8 r.bytes.items) refl

-- a part that is known only by an equation
pub reached_text : (r : StringReader) (q : List ℕ) (part : Part) (left : ℕ) → part ≡ Text left
    → InText r left q → Reached r q part
reached_text r q part left e w = rw e w

pub reached_answer : (r : StringReader) (q : List ℕ) (part : Part) (step : StringStep) → part
    ≡ Answered step
    → Rests r.limit q r.bytes.items step → Reached r q part
reached_answer r q part step e w = rw e w

pub in_length : (r : StringReader) (p : List ℕ) (part : Part) → part ≡ Length → Reached r p part
    → InLength r p
in_length r p part e w = rw e at w

pub in_text : (r : StringReader) (p : List ℕ) (part : Part) (left : ℕ) → part ≡ Text left
    → Reached r p part → InText r left p
in_text r p part left e w = rw e at w

-- the last of the text came, and was judged
pub judged : (r : StringReader) (q : List ℕ) (left : ℕ) (part : Part) (step : StringStep)
    (text : List ℕ) → InText r left q
    → left ≡ 0 → text ≡ r.bytes.items → step ≡ (if is_utf8 text then Done else BadUtf8) → part
    ≡ Answered step → Reached r q part
judged r q left part step text w none same by e =
    reached_answer r q part (if is_utf8 r.bytes.items then Done else BadUtf8)
    (e ∙ ap Answered (by ∙ ap (λ s. if is_utf8 s then Done else BadUtf8) same))
    (rests_at_end r q (subst (λ n. InText r n q) none w))

-- all of a piece was used where the part waits for more
unfoldable pub WaitsForMore : Part → ℕ → ℕ → Type 0
WaitsForMore Length used len = used ≡ len
WaitsForMore (Text left) used len = (0 < left) × (used ≡ len)
WaitsForMore (Answered step) used len = Unit {0}

answers_step : (r : StringReader) (p piece : List ℕ) (used : ℕ) → used ≤ length piece
    → (step : StringStep)
    → Rests r.limit (p ++ take used piece) r.bytes.items step → StringAnswersAt r.limit p piece used
    step
answers_step r p piece used within More w = absurd w
answers_step r p piece used within Done w = (
  r.bytes.items,
  whole_then (string_at r.limit) (string_reads_front r.limit) p piece used within
      r.bytes.items w,
)
answers_step r p piece used within BadInt w = wrong_then (string_at r.limit)
    (string_reads_front r.limit) p piece used within bad_int w
answers_step r p piece used within TooLong w = wrong_then (string_at r.limit)
    (string_reads_front r.limit) p piece used within too_long w
answers_step r p piece used within BadUtf8 w = wrong_then (string_at r.limit)
    (string_reads_front r.limit) p piece used within bad_utf8 w

pub answers_in : (r : StringReader) (p piece : List ℕ) (used : ℕ) → used ≤ length piece
    → (part : Part)
    → Reached r (p ++ take used piece) part → WaitsForMore part used (length piece)
    → StringAnswersAt r.limit p piece used (step_of part)
unfolding WaitsForMore
answers_in r p piece used within Length w all = (
  ap (string_at r.limit) (sym (all_taken p piece used all)) ∙ int_begun_is r.limit _ w.begun,
  all,
)
answers_in r p piece used within (Text left) w all =
    let rest = w.rest in (
      ap (string_at r.limit) (sym (all_taken p piece used all.1))
          ∙ waiting_is r.limit (p ++ take used piece) w.len w.int_len w.int w.low
          (let some = all.0 in omega arith),
      all.1,
    )
answers_in r p piece used within (Answered step) w all = answers_step r p piece used within step w

answered_none : (r : StringReader) (p : List ℕ) (step : StringStep) → Rests r.limit p r.bytes.items
    step → (step ≡ Done → ⊥)
    → text_of (string_at r.limit p) ≡ []
answered_none r p More w isnt = absurd w
answered_none r p Done w isnt = absurd (isnt refl)
answered_none r p BadInt w isnt = rw w refl
answered_none r p TooLong w isnt = rw w refl
answered_none r p BadUtf8 w isnt = rw w refl

-- there is no text before all of it is there, and none where it is wrong
pub no_text_in : (r : StringReader) (p : List ℕ) (part : Part) → Reached r p part → Waits part
    → (part ≡ Answered Done → ⊥)
    → text_of (string_at r.limit p) ≡ []
no_text_in r p Length w waits isnt = rw (int_begun_is r.limit p w.begun) refl
no_text_in r p (Text left) w waits isnt =
    let rest = w.rest in
    rw (waiting_is r.limit p w.len w.int_len w.int w.low (omega arith)) refl
no_text_in r p (Answered step) w waits isnt = answered_none r p step w (λ e. isnt (ap Answered e))

pub text_in : (r : StringReader) (p : List ℕ) (part : Part) → Reached r p part → part
    ≡ Answered Done
    → string_at r.limit p ≡ whole r.bytes.items (length p)
text_in r p part w e = rw e at w

-- bytes that are UTF-8 are read as they are
pub read_as_text : {E : Type 0} (r : Result (Bor (List ℕ)) E) (d : Bor (List ℕ)) (bytes : List ℕ)
    (Q : E → Type 0)
    → MatchResult r (λ s. (s.now ≡ bytes) × IsUtf8 bytes) (λ e. (¬ (IsUtf8 bytes)) × Q e)
    → IsUtf8 bytes
    → (result_unwrap_or r d).now ≡ bytes
read_as_text (Ok s) d bytes Q read utf8 = read.0
read_as_text (Err e) d bytes Q read utf8 = absurd (read.0 utf8)

pub done_part : (part : Part) → step_of part ≡ Done → part ≡ Answered Done
done_part Length e = cc
done_part (Text left) e = cc
done_part (Answered step) e = ap Answered e

used_in_length : (part : Part) (used n : ℕ) → part ≡ Length → InLengthAllUsed part used n → used ≡ n
used_in_length part used n e all = rw e at all

pub waits_for_more : (before after : Part) (first second n left : ℕ) → first + left ≡ n
    → InLengthAllUsed before first n
    → InTextAllUsed after second left → (after ≡ Length → before ≡ Length) → WaitsForMore after
    (first + second) n
unfolding WaitsForMore
waits_for_more before Length first second n left sum all rest same =
    let whole = used_in_length before first n (same refl) all in omega (arith, rest)
waits_for_more before (Text more) first second n left sum all rest same =
    (rest.0, omega (arith, rest.1))
waits_for_more before (Answered step) first second n left sum all rest same = tt

pub all_when_more : (part : Part) (used n : ℕ) → is_settled part ≡ true → WaitsForMore part used n
    → step_of part ≡ More → used ≡ n
unfolding WaitsForMore
all_when_more Length used n settled w e = w
all_when_more (Text left) used n settled w e = w.1
all_when_more (Answered More) used n settled w e = cc
all_when_more (Answered Done) used n settled w e = cc
all_when_more (Answered BadInt) used n settled w e = cc
all_when_more (Answered TooLong) used n settled w e = cc
all_when_more (Answered BadUtf8) used n settled w e = cc

waits_of : (part : Part) (used n : ℕ) → WaitsForMore part used n → Waits part
unfolding WaitsForMore
waits_of Length used n w = tt
waits_of (Text left) used n w = w.0
waits_of (Answered step) used n w = tt

both_used : (p piece rest : List ℕ) (first second : ℕ) → rest ≡ drop first piece
    → p ++ take (first + second) piece ≡ (p ++ take first piece) ++ take second rest
both_used p piece rest first second e = rw (take-add first second piece, append_assoc, e) refl

-- after the bytes of the length and those of the text
pub stands_after : (r : StringReader) (p piece rest : List ℕ) (first second : ℕ) → rest
    ≡ drop first piece
    → Reached r ((p ++ take first piece) ++ take second rest) r.part
    → WaitsForMore r.part (first + second) (length piece) → StringStandsFor r
    (p ++ take (first + second) piece)
unfolding StringStandsFor
stands_after r p piece rest first second e w waits = (
  subst (λ q. Reached r q r.part) (sym (both_used p piece rest first second e)) w,
  waits_of
      r.part _ _ waits,
)

pub answers_after : (r : StringReader) (limit : ℕ) (p piece rest : List ℕ) (first second : ℕ)
    (step : StringStep)
    → rest ≡ drop first piece → r.limit ≡ limit → first + second ≤ length piece
    → Reached r ((p ++ take first piece) ++ take second rest) r.part
    → WaitsForMore r.part (first + second) (length piece) → step ≡ step_of r.part
    → StringAnswersAt limit p piece (first + second) step
answers_after r limit p piece rest first second step at same within w waits e =
    subst (λ n. StringAnswersAt n p piece (first + second) step) same
    (subst (StringAnswersAt r.limit p piece (first + second)) (sym e)
    (answers_in r p piece (first + second) within r.part
    (subst (λ q. Reached r q r.part) (sym (both_used p piece rest first second at)) w) waits))
