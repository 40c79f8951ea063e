-- The causes of a wrong string.
use Rattle.std.proofs.Common.{◌≡◌, ℕ, ◌+◌, ◌<◌, false, List, take, drop, IsUtf8, sym, ap, ◌∙◌}
use Rattle.std.{proofs.Common.arith, proofs.lemmas.Bool.false_from_ne_true, specs.Str.is_utf8}
use Rattle.std.proofs.lemmas.Str.{IsUtf8-from_is_utf8, is_utf8-from_IsUtf8}
use Rattle.unit_streams.specs.Front.{whole, wrong}
use Rattle.multibyte_ints.{specs.Integer.int_at, specs.Laws.IsBadText, proofs.TextFacts.waiting}
use Rattle.multibyte_ints.specs.Text.{bad_int, bad_utf8, string_at, too_long}
use Rattle.multibyte_ints.proofs.TextFacts.{above, above_is, int_begun, int_wrong, int_wrong_is}
use Rattle.multibyte_ints.proofs.TextFacts.{no_text, no_text_is, string_cases, StringCase, text}

by_int : (limit : ℕ) (b : List ℕ) (k : ℕ) → string_at limit b ≡ wrong bad_int k → StringCase limit b
    → int_at b ≡ wrong tt k
by_int limit b k e (int_begun f is) = cc
by_int limit b k e (int_wrong j f is) = let size : k ≡ j = cc in rw size f
by_int limit b k e (above n j f lt is) = cc
by_int limit b k e (waiting n j f le lt is) = cc
by_int limit b k e (text n j f le within u is) = cc
by_int limit b k e (no_text n j f le within u is) = cc

pub bad_int_cause : (limit : ℕ) (b : List ℕ) (k : ℕ) → string_at limit b ≡ wrong bad_int k
    → int_at b ≡ wrong tt k
bad_int_cause limit b k e = by_int limit b k e (string_cases limit b)

pub bad_int_comes : (limit : ℕ) (b : List ℕ) (k : ℕ) → int_at b ≡ wrong tt k → string_at limit b
    ≡ wrong bad_int k
bad_int_comes limit b k e = int_wrong_is limit b tt k e

by_length : (limit : ℕ) (b : List ℕ) (k : ℕ) → string_at limit b ≡ wrong too_long k
    → StringCase limit b
    → (n : ℕ) × (int_at b ≡ whole n k) × (limit < n)
by_length limit b k e (int_begun f is) = cc
by_length limit b k e (int_wrong j f is) = cc
by_length limit b k e (above n j f lt is) = let size : k ≡ j = cc in (n, rw size f, lt)
by_length limit b k e (waiting n j f le lt is) = cc
by_length limit b k e (text n j f le within u is) = cc
by_length limit b k e (no_text n j f le within u is) = cc

pub too_long_cause : (limit : ℕ) (b : List ℕ) (k : ℕ) → string_at limit b ≡ wrong too_long k
    → (n : ℕ) × (int_at b ≡ whole n k) × (limit < n)
too_long_cause limit b k e = by_length limit b k e (string_cases limit b)

pub too_long_comes : (limit : ℕ) (b : List ℕ) (k n : ℕ) → int_at b ≡ whole n k → limit < n
    → string_at limit b ≡ wrong too_long k
too_long_comes limit b k n e lt = above_is limit b n k e lt

not_utf8 : (s : List ℕ) → is_utf8 s ≡ false → IsUtf8 s → ⊥
not_utf8 s fails u = let yes = is_utf8-from_IsUtf8 s u in cc

by_text : (limit : ℕ) (b : List ℕ) (k : ℕ) → string_at limit b ≡ wrong bad_utf8 k → StringCase limit
    b → IsBadText limit b k
by_text limit b k e (int_begun f is) = cc
by_text limit b k e (int_wrong j f is) = cc
by_text limit b k e (above n j f lt is) = cc
by_text limit b k e (waiting n j f le lt is) = cc
by_text limit b k e (text n j f le within u is) = cc
by_text limit b k e (no_text n j f le within u is) =
    let size : k ≡ j + n = cc in
    record {
      n = n;
      j = j;
      int = f;
      low = le;
      size = size;
      within = rw size within;
      bad = not_utf8
          (take n (drop j b)) u;
    }

pub bad_text_cause : (limit : ℕ) (b : List ℕ) (k : ℕ) → string_at limit b ≡ wrong bad_utf8 k
    → IsBadText limit b k
bad_text_cause limit b k e = by_text limit b k e (string_cases limit b)

pub bad_text_comes : (limit : ℕ) (b : List ℕ) (k : ℕ) → IsBadText limit b k → string_at limit b
    ≡ wrong bad_utf8 k
bad_text_comes limit b k w =
    no_text_is limit b w.n w.j w.int w.low (let within = w.within in omega (arith, w.size))
    (false_from_ne_true _ (λ e. w.bad (IsUtf8-from_is_utf8 _ e)))
    ∙ ap (wrong bad_utf8) (sym w.size)
