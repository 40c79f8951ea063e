-- The text at the front is the one whose string stands there.
use Rattle.std.proofs.Common.{◌≡◌, ℕ, ◌+◌, ◌^◌, ◌<◌, ◌≤◌, true, List, [], ◌++◌, length, take, drop}
use Rattle.std.proofs.Common.{IsUtf8, sym, refl, ap, ◌∙◌, arith, length-append, length-drop}
use Rattle.std.{proofs.Common.take-append-drop, proofs.Common.length-take-le, specs.Str.is_utf8}
use Rattle.std.proofs.Math.Seq.{drop-append_seam, take-add, take-length}
use Rattle.std.proofs.lemmas.Str.{IsUtf8-from_is_utf8, is_utf8-from_IsUtf8}
use Rattle.unit_streams.{proofs.Taken.none_goes_on, specs.Front.whole}
use Rattle.multibyte_ints.specs.Integer.{int_at, shortest, Spells}
use Rattle.multibyte_ints.specs.Text.{IsString, string_at, string_bytes_of}
use Rattle.multibyte_ints.proofs.IntegerLaws.{spells_from_whole, whole_then}
use Rattle.multibyte_ints.proofs.{ShortestLaws.shortest_spells, TextBytes.string_reads_front}
use Rattle.multibyte_ints.proofs.TextFacts.{above, int_begun, int_wrong, no_text, string_cases}
use Rattle.multibyte_ints.proofs.TextFacts.{text, text_is, waiting}

text_len : (b : List ℕ) (n j : ℕ) → j + n ≤ length b → length (take n (drop j b)) ≡ n
text_len b n j within = length-take-le n (drop j b) (simp length-drop (omega arith))

string_there : (b : List ℕ) (n j : ℕ) → int_at b ≡ whole n j → j + n ≤ length b
    → is_utf8 (take n (drop j b)) ≡ true
    → IsString (take n (drop j b)) (take (j + n) b)
string_there b n j e within utf8 = record {
  spelling = take j b;
  spelled = rw (text_len b n j within) (spells_from_whole b n j e).1;
  joined = take-add j n b;
  utf8 = IsUtf8-from_is_utf8 _ utf8;
}

pub string_from_whole : (limit : ℕ) (b s : List ℕ) (k : ℕ) → string_at limit b ≡ whole s k
    → (k ≤ length b) × (length s ≤ limit) × IsString s (take k b)
string_from_whole limit b s k e =
    elim (string_cases limit b) [
      | int_begun i is ↦ cc
      | int_wrong j i is ↦ cc
      | above n j i up is ↦ cc
      | waiting n j i low few is ↦ cc
      | text n j i low within u is ↦
          let same : s ≡ take n (drop j b) = cc in
          let size : k ≡ j + n = cc in
          rw (same, size) (within, rw (text_len b n j within) low, string_there b n j i within u)
      | no_text n j i low within u is ↦ cc
    ]

joined_alone : (limit : ℕ) (p s : List ℕ) → Spells (length s) p → IsUtf8 s → length s ≤ limit
    → string_at limit (p ++ s) ≡ whole s (length p + length s)
joined_alone limit p s spelled utf8 low =
    let lens = length-append p s in
    let same : take (length s) (drop (length p) (p ++ s)) ≡ s = ap (take (length s))
    (drop-append_seam p s) ∙ take-length s in
    text_is limit (p ++ s) (length s) (length p) (whole_then p s (length s) spelled) low
    (omega arith)
    (ap is_utf8 same ∙ is_utf8-from_IsUtf8 s utf8)
    ∙ ap (λ t. whole t (length p + length s)) same

pub string_alone : (limit : ℕ) (b s : List ℕ) → length s ≤ limit → IsString s b → string_at limit b
    ≡ whole s (length b)
string_alone limit b s low is =
    let lens : length b ≡ length is.spelling + length s = ap length is.joined ∙ length-append
    is.spelling s in
    ap (string_at limit) is.joined ∙ joined_alone limit is.spelling s is.spelled is.utf8 low ∙
    ap (whole s) (sym lens)

pub whole_from_string : (limit : ℕ) (b s : List ℕ) (k : ℕ) → k ≤ length b → length s ≤ limit
    → IsString s (take k b)
    → string_at limit b ≡ whole s k
whole_from_string limit b s k within low is =
    ap (string_at limit) (sym (take-append-drop k b))
    ∙ (string_reads_front limit).whole_stays (take k b) (drop k b) s k
    (string_alone limit (take k b) s low is ∙ ap (whole s) (length-take-le k b within))

pub no_longer_string : (s t b more : List ℕ) → IsString s b → IsString t (b ++ more) → more ≡ []
no_longer_string s t b more p q =
    let limit = length s + length t in
    (none_goes_on (string_at limit) (string_reads_front limit) b more s t
    (string_alone limit b s (omega arith) p) (string_alone limit (b ++ more) t (omega arith) q)).0

pub string_bytes_are : (s : List ℕ) → IsUtf8 s → length s < 2 ^ 31 → IsString s (string_bytes_of s)
unfolding string_bytes_of
string_bytes_are s utf8 lt = record {
  spelling = shortest (length s);
  spelled = (shortest_spells (length s) lt).0;
  joined = refl;
  utf8 = utf8;
}
