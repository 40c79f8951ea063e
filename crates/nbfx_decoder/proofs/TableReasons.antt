-- Why a string of a table is refused.
use Rattle.std.proofs.Common.{◌≡◌, ℕ, ◌+◌, ◌-◌, ◌≤◌, max, Bool, true, false, List, ◌++◌, length}
use Rattle.std.proofs.Common.{take, drop, if◌then◌else◌, nat_lt, nat_le, Ok, Err, sym, refl, ap}
use Rattle.std.proofs.Common.{◌∙◌, subst, inl, inr, arith, length-append, take-append-drop}
use Rattle.std.proofs.Common.{length-take, length-take-le, take-take, ltb-false, ltb-true, le-ltb}
use Rattle.std.proofs.Common.{lt-ltb, le-leb, leb-true}
use Rattle.std.{specs.Prelude.⊤, proofs.lemmas.Bool.false_from_ne_true, specs.Str.is_utf8}
use Rattle.std.proofs.Math.Seq.{drop-append_seam, take-append_seam}
use Rattle.std.proofs.lemmas.Str.{IsUtf8-from_is_utf8, is_utf8-from_IsUtf8}
use Rattle.unit_streams.proofs.Parts.{then_begun, then_whole, then_wrong}
use Rattle.unit_streams.specs.{Front.begun, Front.Front, Front.whole, Front.wrong, Parts.some_bytes}
use Rattle.unit_streams.specs.Parts.{closed_at, further, judged, judged_at, judged_whole, seen}
use Rattle.multibyte_ints.proofs.{IntegerBytes.above_from, IntegerFacts.wrong_is}
use Rattle.multibyte_ints.proofs.IntegerLaws.{begun_from_spells, goes_on_from_begun}
use Rattle.multibyte_ints.proofs.IntegerLaws.{spells_from_whole, whole_from_spells}
use Rattle.multibyte_ints.specs.{Integer.int_at, Integer.Spells, Laws.FifthIsAbove}
use Rattle.nbfx_values.specs.declared.refusals.Reason.{Reason, TheVariants.TableCut}
use Rattle.nbfx_values.specs.declared.refusals.Reason.TheVariants.{BadInt, BadUtf8, DictionaryFull}
use Rattle.nbfx_decoder.specs.Reasons.{HasLength, IsBadString, ShowsAtSize, ShowsAtString}
use Rattle.nbfx_decoder.specs.Tables.{head_at, length_judged, StringHead, table_integer}
use Rattle.nbfx_decoder.specs.Tables.{table_string_at, table_text_at, TableString, text_judged}
use Rattle.nbfx_decoder.proofs.TableBytes.{IsHead, just_head}

abbrev head_of : (left n j : ℕ) → StringHead
head_of left n j = record { size = n; left = left - j - n }

abbrev read_as : StringHead → List ℕ → TableString
read_as head text = record { text = text; left = head.left }

-- an integer
pub integer_shows : (bytes : List ℕ) (reason : Reason) (k : ℕ) → table_integer bytes
    ≡ wrong reason k → ShowsAtSize bytes reason
integer_shows bytes reason k e = by (int_at bytes) refl e
  where
    by : (v : Front ℕ ⊤) → int_at bytes ≡ v → seen (λ n. n) (λ _. BadInt) v ≡ wrong reason k
        → ShowsAtSize bytes reason
    by begun t g = cc
    by (whole n j) t g = cc
    by (wrong r j) t g = let same : BadInt ≡ reason = cc in subst (ShowsAtSize bytes) same
        (above_from bytes r j t).1

pub shows_integer : (bytes : List ℕ) → FifthIsAbove bytes → table_integer bytes ≡ wrong BadInt 5
shows_integer bytes h = ap (seen (λ n. n) (λ _. BadInt)) (wrong_is bytes h)

module _ (left : ℕ) (bytes : List ℕ) where
  -- a length within what is left
  length_there : (n j : ℕ) → int_at (take left bytes) ≡ whole n j → (has : HasLength left n bytes)
      × (length has.spelling ≡ j)
  length_there n j e =
      let it = spells_from_whole (take left bytes) n j e in
      let size = length-take left bytes in
      let low : j ≤ left = let few = it.0 in omega (arith, few, size) in
      let within : j ≤ length bytes = let few = it.0 in omega (arith, few, size) in
      let len = length-take-le j bytes within in (
        record {
          spelling = take j bytes;
          rest = drop j bytes;
          joined = sym (take-append-drop j bytes);
          spelled = subst (Spells n) (take-take j left bytes low) it.1;
          within = omega (arith, len, low);
        },
        len,
      )

  length_back : (n : ℕ) (has : HasLength left n bytes) → int_at (take left bytes)
      ≡ whole n (length has.spelling)
  length_back n has =
      let size = length-take left bytes in
      let all = ap length has.joined ∙ length-append has.spelling has.rest in
      let low = has.within in
      let front : take (length has.spelling) (take left bytes) ≡ has.spelling =
      take-take (length has.spelling) left bytes low ∙ ap (take (length has.spelling)) has.joined ∙
      take-append_seam has.spelling has.rest in
      whole_from_spells (take left bytes) n (length has.spelling) (omega (arith, size, all, low))
      (subst (Spells n) (sym front) has.spelled)

module _ (room left : ℕ) (bytes : List ℕ) where
  -- the length of a string
  judged_shows : (n j : ℕ) (reason : Reason) (k : ℕ) → int_at (take left bytes) ≡ whole n j
      → judged_whole (length_judged room left n j) j ≡ wrong reason k → ShowsAtString room left
      bytes reason
  judged_shows n j reason k e g = by_end (nat_lt (left - j) n) refl g
    where
      it : (has : HasLength left n bytes) × (length has.spelling ≡ j)
      it = length_there left bytes n j e

      by_room : j + n ≤ left → (above : Bool) → nat_lt room (max n 1) ≡ above
          → judged_whole (if above then Err DictionaryFull else Ok (head_of left n j)) j
          ≡ wrong reason k
          → ShowsAtString room left bytes reason
      by_room fits true t g = let same : DictionaryFull ≡ reason = cc in
          subst (ShowsAtString room left bytes) same
          (record {
            n = n;
            has = it.0;
            fits = let size = it.1 in omega (arith, size, fits);
            costs =
                ltb-true room (max n 1) t;
          })
      by_room fits false t g = cc

      by_end : (above : Bool) → nat_lt (left - j) n ≡ above
          → judged_whole
          (if above then Err TableCut else (if nat_lt room (max n 1) then Err DictionaryFull else Ok
          (head_of left n j))) j ≡ wrong reason k → ShowsAtString room left bytes reason
      by_end true t g =
          let same : TableCut ≡ reason = cc in
          subst (ShowsAtString room left bytes) same
          (inl (record {
            n = n;
            has = it.0;
            passes = let size = it.1 in let more = ltb-true
                (left - j) n t in omega (arith, size, more);
          }))
      by_end false t g = let low = ltb-false (left - j) n t in let within = it.0.within in
          let size = it.1 in by_room (omega (arith, low, within, size)) (nat_lt room (max n 1)) refl
          g

  head_shows : (reason : Reason) (k : ℕ) → head_at room left bytes ≡ wrong reason k
      → ShowsAtString room left bytes reason
  unfolding head_at
  head_shows reason k e = by (int_at (take left bytes)) refl e
    where
      cut : (all : Bool) → nat_le left (length bytes) ≡ all → int_at (take left bytes) ≡ begun
          → judged_at (length_judged room left) (if all then wrong TableCut left else begun)
          ≡ wrong reason k
          → ShowsAtString room left bytes reason
      cut true t b g =
          let same : TableCut ≡ reason = cc in
          let on = goes_on_from_begun (take left bytes) b in
          subst (ShowsAtString room left bytes) same
          (inr (record {
            all = leb-true left (length bytes) t;
            n = on.0;
            more = on.1;
            some = on.2;
            goes_on = on.3;
          }))
      cut false t b g = cc

      by : (v : Front ℕ ⊤) → int_at (take left bytes) ≡ v → judged_at (length_judged room left)
          (closed_at left TableCut (length bytes) (seen (λ n. n) (λ _. BadInt) v)) ≡ wrong reason k
          → ShowsAtString room left bytes reason
      by begun t g = cut (nat_le left (length bytes)) refl t g
      by (whole n j) t g = judged_shows n j reason k t g
      by (wrong r j) t g = let same : BadInt ≡ reason = cc in subst (ShowsAtString room left bytes)
          same (above_from (take left bytes) r j t).1

  -- and its text
  text_shows : (head : StringHead) (n : ℕ) (reason : Reason) (k : ℕ) → head_at room left bytes
      ≡ whole head n → table_text_at head (drop n bytes) ≡ wrong reason k → ShowsAtString room left
      bytes reason
  text_shows head n reason k e g = by (nat_lt (length (drop n bytes)) head.size) refl g
    where
      text : List ℕ
      text = take head.size (drop n bytes)

      bad : head.size ≤ length (drop n bytes) → is_utf8 (take head.size (drop n bytes)) ≡ false
          → IsBadString room left bytes
      bad enough t =
          let it = (just_head room left bytes head n).0 e in
          let own = it.1 in
          let len = length-take-le head.size (drop n bytes) enough in
          let fits = own.fits in
          let pays = own.pays in
          record {
            spelling = take n bytes;
            text = take head.size (drop n bytes);
            rest = drop head.size (drop n bytes);
            joined = sym (take-append-drop n bytes) ∙ ap (λ c. take n bytes ++ c)
                (sym (take-append-drop head.size (drop n bytes)));
            spelled = subst (λ (m : ℕ). Spells m (take n bytes)) (sym len) own.spelled;
            fits = omega (arith, fits, len);
            pays = subst (λ (m : ℕ). max m 1 ≤ room) (sym len) pays;
            bad = λ good. let yes = is_utf8-from_IsUtf8 (take head.size (drop n bytes)) good in
                let no : false ≡ true = sym t ∙ yes in cc;
          }

      by_text : head.size ≤ length (drop n bytes) → (good : Bool)
          → is_utf8 (take head.size (drop n bytes)) ≡ good
          → seen (read_as head) (λ reason. reason)
          (judged_whole (if good then Ok (take head.size (drop n bytes)) else Err BadUtf8)
          head.size) ≡ wrong reason k → ShowsAtString room left bytes reason
      by_text enough true t g = cc
      by_text enough false t g = let same : BadUtf8 ≡ reason = cc in subst
          (ShowsAtString room left bytes) same (bad enough t)

      by : (few : Bool) → nat_lt (length (drop n bytes)) head.size ≡ few
          → seen (read_as head) (λ reason. reason)
          (judged text_judged (if few then begun else whole (take head.size (drop n bytes))
          head.size)) ≡ wrong reason k → ShowsAtString room left bytes reason
      by true t g = cc
      by false t g = by_text (ltb-false (length (drop n bytes)) head.size t)
          (is_utf8 (take head.size (drop n bytes))) refl g

  pub string_shows : (reason : Reason) (k : ℕ) → table_string_at room left bytes ≡ wrong reason k
      → ShowsAtString room left bytes reason
  unfolding table_string_at
  string_shows reason k e = by_head (head_at room left bytes) refl
    where
      by_text : (head : StringHead) (n : ℕ) → head_at room left bytes ≡ whole head n
          → (v : Front TableString Reason) → table_text_at head (drop n bytes) ≡ v → further n v
          ≡ wrong reason k → ShowsAtString room left bytes reason
      by_text head n h begun t g = cc
      by_text head n h (whole s m) t g = cc
      by_text head n h (wrong r m) t g = let same : r ≡ reason = cc in text_shows head n reason m h
          (t ∙ ap (λ r. wrong r m) same)

      by_head : (v : Front StringHead Reason) → head_at room left bytes ≡ v → ShowsAtString room
          left bytes reason
      by_head begun h = let none = then_begun (head_at room left) table_text_at bytes h in cc
      by_head (whole head n) h = by_text head n h (table_text_at head (drop n bytes)) refl
          (sym (then_whole (head_at room left) table_text_at bytes head n h) ∙ e)
      by_head (wrong r n) h = let told = then_wrong (head_at room left) table_text_at bytes r n h in
          let same : r ≡ reason = cc in head_shows reason n (h ∙ ap (λ r. wrong r n) same)

  -- the other way round: what is shown is wrong
  abbrev pub Wrong : Reason → Type 0
  Wrong reason = (k : ℕ) × (table_string_at room left bytes ≡ wrong reason k)

  head_wrong : (reason : Reason) (k : ℕ) → head_at room left bytes ≡ wrong reason k → Wrong reason
  unfolding table_string_at
  head_wrong reason k e = (k, then_wrong (head_at room left) table_text_at bytes reason k e)

  by_integer : (v : Front ℕ ⊤) → int_at (take left bytes) ≡ v → head_at room left bytes
      ≡ judged_at (length_judged room left)
      (closed_at left TableCut (length bytes) (seen (λ n. n) (λ _. BadInt) v))
  unfolding head_at
  by_integer v e =
      ap (λ v. judged_at (length_judged room left)
      (closed_at left TableCut (length bytes) (seen (λ n. n) (λ _. BadInt) v))) e

  bad_wrong : IsBadString room left bytes → Wrong BadUtf8
  unfolding table_string_at
  bad_wrong h =
      let n : ℕ = length h.spelling in
      let head : StringHead = record { size = length h.text; left = left - n - length h.text } in
      let all = ap length h.joined ∙ length-append h.spelling (h.text ++ h.rest) in
      let front : take n bytes ≡ h.spelling = ap (take n) h.joined ∙ take-append_seam h.spelling
      (h.text ++ h.rest) in
      let behind : drop n bytes ≡ h.text ++ h.rest = ap (drop n) h.joined ∙ drop-append_seam
      h.spelling (h.text ++ h.rest) in
      let is : IsHead room left head h.spelling = record
      { spelled = h.spelled; fits = h.fits; pays = h.pays; left_is = refl } in
      let read = (just_head room left bytes head n).1
      (omega (arith, all), subst (IsHead room left head) (sym front) is) in
      let size = length-append h.text h.rest in
      let enough : some_bytes {R = Reason} (length h.text) (h.text ++ h.rest)
      ≡ whole h.text (length h.text) =
      rw (le-ltb (length (h.text ++ h.rest)) (length h.text) (omega (arith, size)))
      (ap (λ c. whole c (length h.text)) (take-append_seam h.text h.rest)) in
      let no : is_utf8 h.text ≡ false = false_from_ne_true (is_utf8 h.text)
      (λ good. h.bad (IsUtf8-from_is_utf8 h.text good)) in
      let judged_no : judged text_judged
      (some_bytes {R = Reason} (length h.text) (h.text ++ h.rest)) ≡ wrong BadUtf8 (length h.text) =
      ap (judged text_judged) enough ∙
      ap (λ good. judged_whole (if good then Ok h.text else Err BadUtf8) (length h.text)) no in
      let refused : table_text_at head (drop n bytes) ≡ wrong BadUtf8 (length h.text) =
      ap (table_text_at head) behind ∙ ap (seen (read_as head) (λ reason. reason)) judged_no in (
        n + length h.text,
        then_whole (head_at room left) table_text_at bytes head n read ∙
            ap (further n) refused,
      )

  pub shows_string : (reason : Reason) → ShowsAtString room left bytes reason → Wrong reason
  shows_string BadInt h = head_wrong BadInt 5
      (by_integer (wrong tt 5) (wrong_is (take left bytes) h))
  shows_string TableCut (inl h) =
      let n = h.n in
      let j : ℕ = length h.has.spelling in
      let more : nat_lt (left - j) n ≡ true = let passes = h.passes in lt-ltb (left - j) n
      (omega (arith, passes)) in
      head_wrong TableCut j (by_integer (whole n j) (length_back left bytes n h.has) ∙
      ap (λ above. judged_whole
      (if above then Err TableCut else (if nat_lt room (max n 1) then Err DictionaryFull else Ok
      (head_of left n j))) j) more)
  shows_string TableCut (inr h) =
      let all : nat_le left (length bytes) ≡ true = le-leb left (length bytes) h.all in
      head_wrong TableCut left
      (by_integer begun (begun_from_spells (take left bytes) h.n h.more h.some h.goes_on) ∙
      ap (λ all. judged_at (length_judged room left) (if all then wrong TableCut left else begun))
      all)
  shows_string DictionaryFull h =
      let n = h.n in
      let j : ℕ = length h.has.spelling in
      let low : nat_lt (left - j) n ≡ false = let fits = h.fits in le-ltb (left - j) n
      (omega (arith, fits)) in
      let above : nat_lt room (max n 1) ≡ true = lt-ltb room (max n 1) h.costs in
      head_wrong DictionaryFull j (by_integer (whole n j) (length_back left bytes n h.has)
      ∙ ap (λ above. judged_whole
      (if above then Err TableCut else (if nat_lt room (max n 1) then Err DictionaryFull else Ok
      (head_of left n j))) j) low
      ∙ ap (λ above. judged_whole (if above then Err DictionaryFull else Ok (head_of left n j)) j)
      above)
  shows_string BadUtf8 h = bad_wrong h
  shows_string _ h = absurd h
