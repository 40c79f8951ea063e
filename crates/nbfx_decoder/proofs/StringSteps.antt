-- A string of a table is read off the front of some bytes.
use Rattle.std.proofs.Common.{◌≡◌, ℕ, ◌+◌, ◌-◌, ◌<◌, ◌≤◌, min, max, Bool, true, false, List, ◌++◌}
use Rattle.std.proofs.Common.{length, take, drop, IsErrAnd, if◌then◌else◌, nat_lt, nat_le, Ok, Err}
use Rattle.std.proofs.Common.{IsUtf8, Result, sym, refl, ap, ◌∙◌, subst, arith, length-append}
use Rattle.std.proofs.Common.{length-drop, length-take, ltb-false, le-ltb, lt-ltb, le-leb}
use Rattle.std.{proofs.lemmas.Bool.false_from_ne_true, proofs.lemmas.Bool.lt-leb, specs.Str.is_utf8}
use Rattle.std.proofs.lemmas.{List.take_min, Result.err_from_is_err_and}
use Rattle.std.proofs.lemmas.Str.{IsUtf8-from_is_utf8, is_utf8-from_IsUtf8}
use Rattle.unit_streams.proofs.Parts.{then_begun, then_whole, then_wrong}
use Rattle.unit_streams.proofs.Peeling.{peels_front}
use Rattle.unit_streams.specs.Front.{begun, Front, whole, wrong}
use Rattle.unit_streams.specs.Parts.{closed_at, further, judged_at, judged_whole, seen}
use Rattle.multibyte_ints.{proofs.IntegerBytes.int_peels, specs.Integer.int_at}
use Rattle.nbfx_values.specs.declared.refusals.Reason.{Reason, TheVariants.TableCut}
use Rattle.nbfx_values.specs.declared.refusals.Reason.TheVariants.{BadInt, BadUtf8, DictionaryFull}
use Rattle.nbfx_decoder.specs.{declared.faults.UnitFault.UnitFault, Tables.table_text_at}
use Rattle.nbfx_decoder.specs.declared.faults.UnitFault.TheVariants.{Memory, Refused}
use Rattle.nbfx_decoder.specs.declared.strings.{Head.Head, StringRead.StringRead}
use Rattle.nbfx_decoder.specs.Tables.{head_at, length_judged, StringHead, table_string_at}
use Rattle.nbfx_decoder.specs.Units.{AwaitsBytes, head_seen, HeadStands, StringStands}
use Rattle.nbfx_decoder.proofs.{Readable.reads_head, Waits.waits_one}

-- the length, of which the bytes up to the table's end are read
module _ (room left : ℕ) (some : 0 < left) (b : List ℕ) (m : ℕ) (is : m ≡ min (length b) left) where
  same : take m b ≡ take left b
  same = ap (λ n. take n b) is ∙ ap (λ n. take n b) (omega arith) ∙ take_min left b

  pub used_within : (n k : ℕ) → int_at (take m b) ≡ whole n k → k ≤ left
  used_within n k e =
      let le = (peels_front int_at int_peels).whole_within (take m b) n k e in
      let size = length-take m b in
      omega (arith, le, size, is)

  -- what it is judged as
  of_integer : (v : Front ℕ _) → int_at (take m b) ≡ v → head_at room left b
      ≡ judged_at (length_judged room left)
      (closed_at left TableCut (length b) (seen (λ n. n) (λ _. BadInt) v))
  unfolding head_at
  of_integer v e =
      ap (λ w. judged_at (length_judged room left)
      (closed_at left TableCut (length b) (seen (λ n. n) (λ _. BadInt) w)))
      (ap int_at (sym same) ∙ e)

  pub head_begun : int_at (take m b) ≡ begun → length b < left → head_at room left b ≡ begun
  head_begun e lt = of_integer begun e ∙ rw (lt-leb left (length b) lt) refl

  pub head_cut : int_at (take m b) ≡ begun → left ≤ length b → head_at room left b
      ≡ wrong TableCut left
  head_cut e le = of_integer begun e ∙ rw (le-leb left (length b) le) refl

  pub head_bad : int_at (take m b) ≡ wrong tt 5 → head_at room left b ≡ wrong BadInt 5
  head_bad e = of_integer (wrong tt 5) e

  pub head_long : (n k : ℕ) → int_at (take m b) ≡ whole n k → left - k < n → head_at room left b
      ≡ wrong TableCut k
  head_long n k e lt = of_integer (whole n k) e ∙ rw (lt-ltb (left - k) n lt) refl

  pub head_dear : (n k cost : ℕ) → int_at (take m b) ≡ whole n k → n ≤ left - k → cost ≡ max n 1
      → room < cost → head_at room left b ≡ wrong DictionaryFull k
  head_dear n k cost e le paid lt = of_integer (whole n k) e ∙
      rw (le-ltb (left - k) n le, lt-ltb room (max n 1) (omega (arith, paid, lt))) refl

  pub head_good : (n k cost : ℕ) → int_at (take m b) ≡ whole n k → n ≤ left - k → cost ≡ max n 1
      → cost ≤ room
      → head_at room left b ≡ whole (head_seen left (record { used = k; size = n })) k
  head_good n k cost e le paid few = of_integer (whole n k) e ∙
      rw (le-ltb (left - k) n le, le-ltb room (max n 1) (omega (arith, paid, few))) refl

-- a string whose length isn't whole, or is wrong
module _ (room left : ℕ) (some : 0 < left) (b : List ℕ) where
  pub waits_for_length : head_at room left b ≡ begun → AwaitsBytes (table_string_at room left) b
      (length b + 1)
  unfolding table_string_at
  waits_for_length e = waits_one (table_string_at room left) b
      (then_begun (head_at room left) table_text_at b e)

  pub string_wrong : (reason : Reason) (k : ℕ) → head_at room left b ≡ wrong reason k
      → table_string_at room left b ≡ wrong reason k
  unfolding table_string_at
  string_wrong reason k e = then_wrong (head_at room left) table_text_at b reason k e

-- a string whose length is whole
module _ (room left : ℕ) (some : 0 < left) (b : List ℕ) (head : Head)
    (e : head_at room left b ≡ whole (head_seen left head) head.used) where
  abbrev seen_head : StringHead
  seen_head = head_seen left head

  pub length_within : head.used ≤ length b
  length_within = (reads_head room left some).whole_within b seen_head head.used e

  text_begun : (c : List ℕ) → length c < head.size → table_text_at seen_head c ≡ begun
  text_begun c lt = rw (lt-ltb (length c) head.size lt) refl

  pub waits_for_text : length b < head.used + head.size → AwaitsBytes (table_string_at room left) b
      (head.used + head.size)
  unfolding table_string_at
  waits_for_text lt = record {
    more = lt;
    begins = λ next few.
        let size = length-drop head.used (b ++ next) in
        let longer = length-append b next in
        let le = length_within in
        then_whole (head_at room left) table_text_at (b ++ next) seen_head head.used
        ((reads_head room left some).whole_stays b next seen_head head.used e)
        ∙ ap (further head.used)
        (text_begun (drop head.used (b ++ next)) (omega (arith, size, longer, le, few)));
  }

  abbrev pub text_of : List ℕ
  text_of = take head.size (drop head.used b)

  text_there : head.used + head.size ≤ length b → (v : Bool) → is_utf8 text_of ≡ v
      → table_string_at room left b ≡ further head.used
      (seen (λ text. record { text = text; left = seen_head.left }) (λ reason. reason)
      (judged_whole (if v then Ok text_of else Err BadUtf8) head.size))
  unfolding table_string_at
  text_there le v is =
      let size = length-drop head.used b in
      then_whole (head_at room left) table_text_at b seen_head head.used e
      ∙ rw (le-ltb (length (drop head.used b)) head.size (omega (arith, size, le)), is) refl

  -- the text, as the bytes between two offsets
  abbrev pub between : List ℕ
  between = take (head.used + head.size - head.used) (drop head.used b)

  pub between_size : head.used + head.size ≤ length b → length between ≡ head.size
  between_size le = let n = length-take (head.used + head.size - head.used) (drop head.used b) in
      let m = length-drop head.used b in omega (arith, n, m, le)

  same_text : between ≡ text_of
  same_text = let size : head.used + head.size - head.used ≡ head.size = omega arith in
      ap (λ n. take n (drop head.used b)) size

  pub string_whole : (text : List ℕ) → head.used + head.size ≤ length b → text ≡ between
      → IsUtf8 between
      → table_string_at room left b
      ≡ whole (record { text = text; left = left - (head.used + head.size) })
      (head.used + head.size)
  string_whole text le is utf8 =
      let sum : left - head.used - head.size ≡ left - (head.used + head.size) = omega arith in
      text_there le true (is_utf8-from_IsUtf8 text_of (subst IsUtf8 same_text utf8))
      ∙ ap (λ n. whole (record { text = text_of; left = n }) (head.used + head.size)) sum
      ∙ ap (λ t. whole (record { text = t; left = left - (head.used + head.size) })
      (head.used + head.size)) (sym (is ∙ same_text))

  pub string_bad : head.used + head.size ≤ length b → (IsUtf8 between → ⊥) → table_string_at room
      left b ≡ wrong BadUtf8 (head.used + head.size)
  string_bad le bad = text_there le false
      (false_from_ne_true (is_utf8 text_of)
      (λ h. bad (subst IsUtf8 (sym same_text) (IsUtf8-from_is_utf8 text_of h))))

-- a whole length and its text are within the table
module _ (room left : ℕ) (b : List ℕ) (h : StringHead) (k : ℕ) where
  fits_judged : (n j : ℕ) → j ≤ left → (long dear : Bool) → nat_lt (left - j) n ≡ long
      → judged_whole (if long then Err TableCut else if dear then Err DictionaryFull else Ok
      (record { size = n; left = left - j - n })) j ≡ whole h k → k + h.size ≤ left
  fits_judged n j le true dear lt e = cc
  fits_judged n j le false true lt e = cc
  fits_judged n j le false false lt e =
      let few = ltb-false (left - j) n lt in
      let same : record { size = n; left = left - j - n } ≡ h = cc in
      let used : j ≡ k = cc in
      let size : n ≡ h.size = ap (λ (x : StringHead). x.size) same in
      omega (arith, few, used, size, le)

  fits_open : (v : Bool) → judged_at (length_judged room left)
      (if v then wrong TableCut left else begun) ≡ whole h k → k + h.size ≤ left
  fits_open true e = cc
  fits_open false e = cc

  pub text_within : head_at room left b ≡ whole h k → k + h.size ≤ left
  unfolding head_at
  text_within e = by_integer (int_at (take left b)) refl e where
    by_integer : (v : Front ℕ _) → int_at (take left b) ≡ v → judged_at (length_judged room left)
        (closed_at left TableCut (length b) (seen (λ n. n) (λ _. BadInt) v)) ≡ whole h k → k
        + h.size ≤ left
    by_integer begun i e = fits_open (nat_le left (length b)) e
    by_integer (whole n j) i e =
        let le = (peels_front int_at int_peels).whole_within (take left b) n j i in
        let size = length-take left b in
        fits_judged n j (omega (arith, le, size)) (nat_lt (left - j) n) (nat_lt room (max n 1)) refl
        e
    by_integer (wrong r j) i e = cc

-- what a `?` hands on
pub string_exit : (room left : ℕ) (b : List ℕ) (fault : UnitFault) (r : Result StringRead UnitFault)
    → IsErrAnd r (λ y. y ≡ fault) → 0 < left → HeadStands room left b (Err fault)
    → StringStands room left b r
string_exit room left b fault r e some stands =
    let p = err_from_is_err_and r e in
    subst (λ (q : Result StringRead UnitFault). StringStands room left b q)
    (ap Err (sym p.2) ∙ sym p.1) (by_fault fault stands)
  where
    by_fault : (fault : UnitFault) → HeadStands room left b (Err fault) → StringStands room left b
        (Err fault)
    by_fault (Refused reason k) h = string_wrong room left some b reason k h
    by_fault Memory h = h
