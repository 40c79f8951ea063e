-- The string at the front of some bytes, case by case.
use Rattle.std.proofs.Common.{◌≡◌, ℕ, ◌+◌, ◌<◌, ◌≤◌, Bool, true, false, List, length, take, drop}
use Rattle.std.proofs.Common.{refl, inl, inr, arith}
use Rattle.std.specs.{Prelude.⊤, Str.is_utf8}
use Rattle.std.proofs.lemmas.Bool.Decides.{leb_tells, nat_tests}
use Rattle.unit_streams.specs.Front.{begun, Front, whole, wrong}
use Rattle.multibyte_ints.specs.{Integer.int_at, Text.text_ending_at, Text.too_long}
use Rattle.multibyte_ints.specs.Text.{bad_int, bad_utf8, string_at, text_at, text_behind}

pub int_begun_is : (limit : ℕ) (b : List ℕ) → int_at b ≡ begun → string_at limit b ≡ begun
unfolding string_at text_behind
int_begun_is limit b e = rw e refl

pub int_wrong_is : (limit : ℕ) (b : List ℕ) (r : ⊤) (k : ℕ) → int_at b ≡ wrong r k → string_at limit
    b ≡ wrong bad_int k
unfolding string_at text_behind
int_wrong_is limit b r k e = rw e refl

pub above_is : (limit : ℕ) (b : List ℕ) (n j : ℕ) → int_at b ≡ whole n j → limit < n
    → string_at limit b ≡ wrong too_long j
unfolding string_at text_behind text_at
above_is limit b n j e lt = rw e (grind (arith, nat_tests))

pub waiting_is : (limit : ℕ) (b : List ℕ) (n j : ℕ) → int_at b ≡ whole n j → n ≤ limit → length b
    < j + n → string_at limit b ≡ begun
unfolding string_at text_behind text_at
waiting_is limit b n j e le lt = rw e (grind (arith, nat_tests))

text_there : (limit : ℕ) (b : List ℕ) (n j : ℕ) → int_at b ≡ whole n j → n ≤ limit → j + n
    ≤ length b
    → string_at limit b ≡ text_ending_at (j + n) (take n (drop j b))
unfolding string_at text_behind text_at
text_there limit b n j e le within = rw e (grind (arith, nat_tests))

pub text_is : (limit : ℕ) (b : List ℕ) (n j : ℕ) → int_at b ≡ whole n j → n ≤ limit → j + n
    ≤ length b
    → is_utf8 (take n (drop j b)) ≡ true → string_at limit b ≡ whole (take n (drop j b)) (j + n)
unfolding text_ending_at
text_is limit b n j e le within utf8 = rw (text_there limit b n j e le within, utf8) refl

pub no_text_is : (limit : ℕ) (b : List ℕ) (n j : ℕ) → int_at b ≡ whole n j → n ≤ limit → j + n
    ≤ length b
    → is_utf8 (take n (drop j b)) ≡ false → string_at limit b ≡ wrong bad_utf8 (j + n)
unfolding text_ending_at
no_text_is limit b n j e le within utf8 = rw (text_there limit b n j e le within, utf8) refl

pub data StringCase (limit : ℕ) (b : List ℕ) : Type 0 where
  int_begun : int_at b ≡ begun → string_at limit b ≡ begun → StringCase limit b
  int_wrong : (k : ℕ) → int_at b ≡ wrong tt k → string_at limit b ≡ wrong bad_int k
      → StringCase limit b
  above : (n j : ℕ) → int_at b ≡ whole n j → limit < n → string_at limit b ≡ wrong too_long j
      → StringCase limit b
  waiting : (n j : ℕ) → int_at b ≡ whole n j → n ≤ limit → length b < j + n → string_at limit b
      ≡ begun → StringCase limit b
  text : (n j : ℕ) → int_at b ≡ whole n j → n ≤ limit → j + n ≤ length b
      → is_utf8 (take n (drop j b)) ≡ true
      → string_at limit b ≡ whole (take n (drop j b)) (j + n) → StringCase limit b
  no_text : (n j : ℕ) → int_at b ≡ whole n j → n ≤ limit → j + n ≤ length b
      → is_utf8 (take n (drop j b)) ≡ false
      → string_at limit b ≡ wrong bad_utf8 (j + n) → StringCase limit b

by_utf8 : (limit : ℕ) (b : List ℕ) (n j : ℕ) → int_at b ≡ whole n j → n ≤ limit → j + n ≤ length b
    → (u : Bool) → is_utf8 (take n (drop j b)) ≡ u → StringCase limit b
by_utf8 limit b n j e le within true u = text n j e le within u (text_is limit b n j e le within u)
by_utf8 limit b n j e le within false u = no_text n j e le within u
    (no_text_is limit b n j e le within u)

by_front : (limit : ℕ) (b : List ℕ) (f : Front ℕ ⊤) → int_at b ≡ f → StringCase limit b
by_front limit b begun e = int_begun e (int_begun_is limit b e)
by_front limit b (wrong r k) e = int_wrong k e (int_wrong_is limit b r k e)
by_front limit b (whole n j) e =
    elim (leb_tells n limit) [
      | inr up ↦ above n j e (omega arith) (above_is limit b n j e (omega arith))
      | inl low ↦ elim (leb_tells (j + n) (length b)) [
        | inr few ↦ waiting n j e low.1 few.1 (waiting_is limit b n j e low.1 few.1)
        | inl all ↦ by_utf8 limit b n j e low.1 all.1 (is_utf8 (take n (drop j b))) refl
      ]
    ]

pub string_cases : (limit : ℕ) (b : List ℕ) → StringCase limit b
string_cases limit b = by_front limit b (int_at b) refl
