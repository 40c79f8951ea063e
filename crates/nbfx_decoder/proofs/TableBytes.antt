-- The string that is read of a table is what bytes there are.
use Rattle.std.proofs.Common.{◌≡◌, ℕ, ◌+◌, ◌-◌, ◌≤◌, max, Bool, true, false, List, ◌++◌, length}
use Rattle.std.proofs.Common.{take, if◌then◌else◌, nat_lt, nat_le, Ok, Err, IsUtf8, Result, sym}
use Rattle.std.proofs.Common.{refl, ap, ◌∙◌, subst, arith, length-append, length-take}
use Rattle.std.proofs.Common.{length-take-le, take-take, ltb-false, le-ltb}
use Rattle.std.specs.{Prelude.⊤, Str.is_utf8}
use Rattle.std.proofs.lemmas.Str.{IsUtf8-from_is_utf8, is_utf8-from_IsUtf8}
use Rattle.unit_streams.proofs.Spelled.{just_bytes, just_judged, just_seen, just_then}
use Rattle.unit_streams.specs.Front.{begun, Front, whole, wrong}
use Rattle.unit_streams.specs.Parts.{closed_at, Joined, judged, judged_at, judged_whole, Reader}
use Rattle.unit_streams.specs.Parts.{ReadsJust, seen, some_bytes, within}
use Rattle.multibyte_ints.proofs.IntegerLaws.{spells_from_whole, whole_from_spells}
use Rattle.multibyte_ints.specs.{Integer.int_at, Integer.Spells, Text.IsString}
use Rattle.nbfx_values.specs.declared.refusals.Reason.TheVariants.{BadInt, BadUtf8, DictionaryFull}
use Rattle.nbfx_values.specs.declared.refusals.Reason.TheVariants.{TableCut}
use Rattle.nbfx_decoder.specs.Tables.{head_at, length_judged, StringHead, table_integer}
use Rattle.nbfx_decoder.specs.Tables.{table_string_at, table_text_at, TableString, text_judged}

-- an integer
pub just_integer : ReadsJust table_integer Spells
just_integer b n k = (
  λ e. there (int_at b) refl e,
  λ h. ap (seen (λ n. n) (λ _. BadInt))
      (whole_from_spells b n k h.0 h.1),
)
  where
    there : (v : Front ℕ ⊤) → int_at b ≡ v → seen (λ n. n) (λ _. BadInt) v ≡ whole n k
        → (k ≤ length b) × Spells n (take k b)
    there begun e g = cc
    there (whole m j) e g = let same : m ≡ n = cc in let size : j ≡ k = cc in spells_from_whole b n
        k (e ∙ ap (λ a. whole a j) same ∙ ap (whole n) size)
    there (wrong r j) e g = cc

-- within so many bytes
module _ {A R : Type 0} (limit : ℕ) (r : R) (f : Reader A R) (P : A → List ℕ → Type 0) where
  front_of_all : (b : List ℕ) (k : ℕ) → k ≤ length (take limit b) → (k ≤ limit) × (k ≤ length b)
      × (take k (take limit b) ≡ take k b)
  front_of_all b k le =
      let size = length-take limit b in
      let low : k ≤ limit = omega (arith, size, le) in
      (low, (omega (arith, size, le)), take-take k limit b low)

  pub just_within : ReadsJust f P → ReadsJust (within limit r f) (λ a b. P a b × (length b ≤ limit))
  just_within just b a k = (λ e. there (f (take limit b)) refl e, λ h. back h.0 h.1.0 h.1.1)
    where
      there : (v : Front A R) → f (take limit b) ≡ v → closed_at limit r (length b) v ≡ whole a k
          → (k ≤ length b) × (P a (take k b) × (length (take k b) ≤ limit))
      there begun e g = absurd (by (nat_le limit (length b)) g)
        where
          by : (more : Bool) → (if more then wrong r limit else begun) ≡ whole a k → ⊥
          by true g = cc
          by false g = cc
      there (whole c j) e g =
          let same : c ≡ a = cc in
          let size : j ≡ k = cc in
          let h = (just (take limit b) a k).0 (e ∙ ap (λ d. whole d j) same ∙ ap (whole a) size) in
          let front = front_of_all b k h.0 in (
            front.1,
            (
              subst (P a) front.2 h.1,
              (let len = length-take-le k b front.1 in let low = front.0 in
                  omega (arith, len, low)),
            ),
          )
      there (wrong s j) e g = cc

      back : k ≤ length b → P a (take k b) → length (take k b) ≤ limit → closed_at limit r
          (length b) (f (take limit b)) ≡ whole a k
      back le is low =
          let len = length-take-le k b le in
          let few : k ≤ limit = omega (arith, len, low) in
          let size = length-take limit b in
          let it : f (take limit b) ≡ whole a k = (just (take limit b) a k).1
          (omega (arith, size, le, few), subst (P a) (sym (take-take k limit b few)) is) in
          ap (closed_at limit r (length b)) it

-- judged with how many bytes it has
module _ {A B R : Type 0} (judge : A → ℕ → Result B R) (f : Reader A R) (P : A → List ℕ → Type 0)
  where
    pub just_judged_at : ReadsJust f P → ReadsJust (λ b. judged_at judge (f b))
        (λ y b. (a : A) × P a b × (judge a (length b) ≡ Ok y))
    just_judged_at just b y n = (
      λ e. there (f b) refl e,
      λ h. let g = (just b h.1.0 n).1 (h.0, h.1.1) in
          ap (judged_at judge) g ∙ ap (λ v. judged_whole v n)
          (ap (judge h.1.0) (sym (length-take-le n b h.0)) ∙ h.1.2),
    )
      where
        told : (a : A) (k : ℕ) → f b ≡ whole a k → (v : Result B R) → judge a k ≡ v → judged_whole v k
            ≡ whole y n → (n ≤ length b)
            × ((a : A) × P a (take n b) × (judge a (length (take n b)) ≡ Ok y))
        told a k e (Ok z) j g =
            let same : z ≡ y = cc in
            let size : k ≡ n = cc in
            let h = (just b a n).0 (e ∙ ap (whole a) size) in
            (h.0, (a, h.1, ap (judge a) (length-take-le n b h.0 ∙ sym size) ∙ j ∙ ap Ok same))
        told a k e (Err r) j g = cc

        there : (v : Front A R) → f b ≡ v → judged_at judge v ≡ whole y n → (n ≤ length b)
            × ((a : A) × P a (take n b) × (judge a (length (take n b)) ≡ Ok y))
        there begun e g = cc
        there (whole a k) e g = told a k e (judge a k) refl g
        there (wrong r k) e g = cc

-- a length within a table
pub record IsHead (room left : ℕ) (head : StringHead) (bytes : List ℕ) : Type 0 where
  pub spelled : Spells head.size bytes
  pub fits : length bytes + head.size ≤ left
  pub pays : max head.size 1 ≤ room
  pub left_is : head.left ≡ left - length bytes - head.size

module _ (room left : ℕ) where
  length_passes : (size used : ℕ) → used + size ≤ left → max size 1 ≤ room → length_judged room left
      size used ≡ Ok (record { size = size; left = left - used - size })
  length_passes size used fits pays = rw (
    le-ltb (left - used) size (omega arith),
    le-ltb room
        (max size 1) pays,
  ) refl

  passed_length : (size used : ℕ) (head : StringHead) → used ≤ left → length_judged room left size
      used ≡ Ok head
      → (used + size ≤ left) × (max size 1 ≤ room)
      × (head ≡ record { size = size; left = left - used - size })
  passed_length size used head within e = by_end (nat_lt (left - used) size) refl e
    where
      by_room : used + size ≤ left → (above : Bool) → nat_lt room (max size 1) ≡ above
          → (if above then Err DictionaryFull else Ok
          (record { size = size; left = left - used - size })) ≡ Ok head
          → (used + size ≤ left) × (max size 1 ≤ room)
          × (head ≡ record { size = size; left = left - used - size })
      by_room fits true t g = cc
      by_room fits false t g = (fits, ltb-false room (max size 1) t, cc)

      by_end : (above : Bool) → nat_lt (left - used) size ≡ above
          → (if above then Err TableCut else (if nat_lt room (max size 1) then Err DictionaryFull
          else Ok (record { size = size; left = left - used - size }))) ≡ Ok head
          → (used + size ≤ left) × (max size 1 ≤ room)
          × (head ≡ record { size = size; left = left - used - size })
      by_end true t g = cc
      by_end false t g = let low = ltb-false (left - used) size t in by_room
          (omega (arith, low, within)) (nat_lt room (max size 1)) refl g

  pub just_head : ReadsJust (head_at room left) (IsHead room left)
  unfolding head_at
  just_head b head n = (there, back)
    where
      inner : ReadsJust (head_at room left)
          (λ head b. (size : ℕ) × (Spells size b × (length b ≤ left))
          × (length_judged room left size (length b) ≡ Ok head))
      inner = just_judged_at (length_judged room left) (within left TableCut table_integer)
          (λ size b. Spells size b × (length b ≤ left))
          (just_within left TableCut table_integer Spells just_integer)

      there : head_at room left b ≡ whole head n → (n ≤ length b) × IsHead room left head (take n b)
      there e =
          let h = (inner b head n).0 e in
          let it = passed_length h.1.0 (length (take n b)) head h.1.1.1 h.1.2 in
          let size : head.size ≡ h.1.0 = ap (λ (k : StringHead). k.size) it.2 in (
            h.0,
            record {
              spelled = subst (λ (m : ℕ). Spells m (take n b)) (sym size) h.1.1.0;
              fits = let low = it.0 in omega (arith, low, size);
              pays = let low = it.1 in subst (λ (m : ℕ). max m 1 ≤ room) (sym size) low;
              left_is = ap (λ (k : StringHead). k.left) it.2 ∙ ap (λ m. left - length (take n b)
                  - m) (sym size);
            },
          )

      back : (n ≤ length b) × IsHead room left head (take n b) → head_at room left b ≡ whole head n
      back h =
          let is = h.1 in
          let fits = is.fits in
          (inner b head n).1 (
            h.0,
            (
              head.size,
              (is.spelled, omega (arith, fits)),
              length_passes head.size
                  (length (take n b)) is.fits is.pays ∙ ap (λ m. Ok (record { size = head.size; left = m }))
                  (sym is.left_is),
            ),
          )

  pub just_text : (head : StringHead) → ReadsJust (table_text_at head)
      (λ s b. IsUtf8 s.text × (b ≡ s.text) × (length b ≡ head.size) × (s.left ≡ head.left))
  just_text head b s n = (there, back)
    where
      inner : ReadsJust (table_text_at head)
          (λ s b. (text : List ℕ) × ((content : List ℕ) × ((b ≡ content) × (length b ≡ head.size))
          × (text_judged content ≡ Ok text)) × (record { text = text; left = head.left } ≡ s))
      inner = just_seen (λ text. record { text = text; left = head.left }) (λ reason. reason)
          (λ b. judged text_judged (some_bytes head.size b))
          (λ text b. (content : List ℕ) × ((b ≡ content) × (length b ≡ head.size))
          × (text_judged content ≡ Ok text))
          (just_judged text_judged (some_bytes head.size)
          (λ content b. (b ≡ content) × (length b ≡ head.size)) (just_bytes head.size))

      judged_text : (content text : List ℕ) → text_judged content ≡ Ok text → (content ≡ text)
          × (is_utf8 content ≡ true)
      judged_text content text e = by (is_utf8 content) refl e
        where
          by : (good : Bool) → is_utf8 content ≡ good → (if good then Ok content else Err BadUtf8)
              ≡ Ok text → (content ≡ text) × (is_utf8 content ≡ true)
          by true t g = (cc, t)
          by false t g = cc

      there : table_text_at head b ≡ whole s n → (n ≤ length b)
          × (IsUtf8 s.text × (take n b ≡ s.text) × (length (take n b) ≡ head.size)
          × (s.left ≡ head.left))
      there e =
          let h = (inner b s n).0 e in
          let t = judged_text h.1.1.0 h.1.0 h.1.1.2 in
          let text : h.1.0 ≡ s.text = ap (λ (k : TableString). k.text) h.1.2 in (
            h.0,
            (
              subst IsUtf8 (t.0 ∙ text) (IsUtf8-from_is_utf8 h.1.1.0 t.1),
              h.1.1.1.0 ∙ t.0 ∙
                  text,
              h.1.1.1.1,
              sym (ap (λ (k : TableString). k.left) h.1.2),
            ),
          )

      back : (n ≤ length b) × (IsUtf8 s.text × (take n b ≡ s.text) × (length (take n b) ≡ head.size)
          × (s.left ≡ head.left)) → table_text_at head b ≡ whole s n
      back h =
          (inner b s n).1 (
            h.0,
            (
              s.text,
              (s.text, (h.1.1, h.1.2), rw (is_utf8-from_IsUtf8 s.text h.1.0) refl),
              ap (λ m. record { text = s.text; left = m }) (sym h.1.3),
            ),
          )

-- a string of a table of which so many bytes are left, where its strings may cost so much more
pub record IsTableString (room left : ℕ) (s : TableString) (bytes : List ℕ) : Type 0 where
  pub is_string : IsString s.text bytes
  pub fits : length bytes ≤ left
  pub pays : max (length s.text) 1 ≤ room
  pub left_is : s.left ≡ left - length bytes

module _ (room left : ℕ) where
  pub just_string : ReadsJust (table_string_at room left) (IsTableString room left)
  unfolding table_string_at
  just_string b s n = (
    λ e. let h = (inner b s n).0 e in (h.0, there (take n b) h.1),
    λ h.
        (inner b s n).1 (h.0, back (take n b) h.1),
  )
    where
      inner : ReadsJust (table_string_at room left)
          (Joined (IsHead room left) (λ head s b. IsUtf8 s.text × (b ≡ s.text)
          × (length b ≡ head.size) × (s.left ≡ head.left)))
      inner = just_then (head_at room left) table_text_at (IsHead room left)
          (λ head s b. IsUtf8 s.text × (b ≡ s.text) × (length b ≡ head.size) × (s.left ≡ head.left))
          (just_head room left) (just_text room left)

      there : (bytes : List ℕ) → Joined (IsHead room left) (λ head s b. IsUtf8 s.text × (b ≡ s.text)
          × (length b ≡ head.size) × (s.left ≡ head.left)) s bytes → IsTableString room left s bytes
      there bytes j =
          let head = j.first in
          let text = j.next.1 in
          let size : length s.text ≡ j.part.size = ap length (sym text) ∙ j.next.2 in
          let all : length bytes ≡ length j.front + j.part.size = ap length j.joined ∙ length-append
          j.front j.rest ∙ ap (λ m. length j.front + m) j.next.2 in
          record {
            is_string = record {
              spelling = j.front;
              spelled = subst (λ (m : ℕ). Spells m j.front)
                  (sym size) head.spelled;
              joined = j.joined ∙ ap (λ c. j.front ++ c) text;
              utf8 =
                  j.next.0;
            };
            fits = let fits = head.fits in omega (arith, all, fits);
            pays = let pays = head.pays in subst (λ (m : ℕ). max m 1 ≤ room) (sym size) pays;
            left_is = let e = head.left_is in let f = j.next.3 in omega (arith, e, f, all);
          }

      back : (bytes : List ℕ) → IsTableString room left s bytes → Joined (IsHead room left)
          (λ head s b. IsUtf8 s.text × (b ≡ s.text) × (length b ≡ head.size) × (s.left ≡ head.left))
          s bytes
      back bytes is =
          let string = is.is_string in
          let all : length bytes ≡ length string.spelling + length s.text = ap length string.joined
          ∙ length-append string.spelling s.text in
          let fits = is.fits in
          let e = is.left_is in
          record {
            part = record { size = length s.text; left = s.left };
            front = string.spelling;
            rest = s.text;
            joined = string.joined;
            first = record {
              spelled = string.spelled;
              fits = omega (arith, all, fits);
              pays =
                  is.pays;
              left_is = omega (arith, e, all);
            };
            next = (string.utf8, refl, refl, refl);
          }
