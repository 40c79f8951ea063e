-- A line is known by its own bytes, and input of so many bytes has an end.
use Rattle.std.proofs.Common.{◌≡◌, ℕ, zero, suc, ◌+◌, ◌<◌, ◌≤◌, Bool, true, false, ◌⊎◌, List, []}
use Rattle.std.proofs.Common.{◌∷◌, ◌++◌, length, drop, take, if◌then◌else◌, nat_le, ◌==◌, Some}
use Rattle.std.proofs.Common.{None, Option, Ok, Err, Result, sym, refl, ap, ◌∙◌, subst, inl, inr}
use Rattle.std.proofs.Common.{arith, le-leb, leb-false}
use Rattle.std.proofs.lemmas.Bool.{lt-leb}
use Rattle.unit_streams.proofs.Passing.{going_at, going_refusal, refusal_from}
use Rattle.unit_streams.proofs.Peeling.{extent, peels_front}
use Rattle.unit_streams.proofs.{Pending.pending_unrefused, Standing.standing_nothing}
use Rattle.unit_streams.specs.Front.{begun, Front, whole, wrong}
use Rattle.unit_streams.specs.{Going.IsPending, Grammar.IsReadable, Grammar.standing}
use Rattle.unit_streams.specs.{Judging.refusal_at, Tellers.Closes}
use Rattle.line_notation.specs.Lines.{cut, cut_before, has_no_feed}
use Rattle.line_streams.specs.LineRules.{event_in, length_refused, line_at, LineRules, lines_by}
use Rattle.line_streams.specs.LineRules.{refusal_in, situation_behind, with_byte}

module _ {R : Type 0} where
  -- a byte more before a line
  longer_begun : (b : ℕ) (v : Front (List ℕ) R) → with_byte b v ≡ begun → v ≡ begun
  longer_begun b begun e = refl
  longer_begun b (whole line n) e = cc
  longer_begun b (wrong fault n) e = cc

  longer_extent : (b k : ℕ) (v : Front (List ℕ) R) → extent v ≡ suc k
      → extent (with_byte b v) ≡ suc (suc k)
  longer_extent b k begun e = absurd (omega (arith, e))
  longer_extent b k (whole line n) e = omega (arith, e)
  longer_extent b k (wrong fault n) e = omega (arith, e)

  -- what a whole line with a byte more before it is
  longer_whole : (b n : ℕ) (line : List ℕ) (v : Front (List ℕ) R)
      → with_byte b v ≡ whole line n → (rest : List ℕ) × (m : ℕ) × (v ≡ whole rest m)
      × (line ≡ b ∷ rest) × (n ≡ suc m)
  longer_whole b n line begun e = cc
  longer_whole b n line (whole rest m) e =
      let same_line : b ∷ rest ≡ line = cc in
      let same : m + 1 ≡ n = cc in
      (rest, m, refl, sym same_line, omega (arith, same))
  longer_whole b n line (wrong fault m) e = cc

  -- what is decided stays
  stays_by : (b : List ℕ) (x : ℕ) → (line_at {R = R} b ≡ begun → ⊥)
      → line_at {R = R} (b ++ x ∷ []) ≡ line_at b
  stays_by [] x said = absurd (said refl)
  stays_by (c ∷ b) x said = by_feed (stays_by b x) (c == 10) refl where
    by_feed : ((line_at {R = R} b ≡ begun → ⊥) → line_at {R = R} (b ++ x ∷ []) ≡ line_at b)
        → (v : Bool) → (c == 10) ≡ v → line_at {R = R} ((c ∷ b) ++ x ∷ []) ≡ line_at (c ∷ b)
    by_feed stays true is = rw is refl
    by_feed stays false is =
        let said' : line_at {R = R} b ≡ begun → ⊥ = λ e. said (rw is (ap (with_byte c) e)) in
        rw is (ap (with_byte c) (stays said'))

  -- and it is decided by the last byte
  byte_by : (b : List ℕ) (x : ℕ) → line_at {R = R} b ≡ begun
      → (line_at {R = R} (b ++ x ∷ []) ≡ begun)
      ⊎ (extent (line_at {R = R} (b ++ x ∷ [])) ≡ suc (length b))
  byte_by [] x e = by_feed (x == 10) refl where
    by_feed : (v : Bool) → (x == 10) ≡ v → (line_at {R = R} (x ∷ []) ≡ begun)
        ⊎ (extent (line_at {R = R} (x ∷ [])) ≡ 1)
    by_feed true is = inr (rw is refl)
    by_feed false is = inl (rw is refl)
  byte_by (c ∷ b) x e = by_feed (byte_by b x) (c == 10) refl where
    by_feed : (line_at {R = R} b ≡ begun → (line_at {R = R} (b ++ x ∷ []) ≡ begun)
        ⊎ (extent (line_at {R = R} (b ++ x ∷ [])) ≡ suc (length b))) → (v : Bool) → (c == 10) ≡ v
        → (line_at {R = R} ((c ∷ b) ++ x ∷ []) ≡ begun)
        ⊎ (extent (line_at {R = R} ((c ∷ b) ++ x ∷ [])) ≡ suc (suc (length b)))
    by_feed byte true is = absurd (let h = rw is at e in cc)
    by_feed byte false is =
        elim (byte (longer_begun c (line_at b) (rw is at e))) [
          | inl n ↦ inl (rw is (ap (with_byte c) n))
          | inr n ↦ inr (rw is (longer_extent c (length b) (line_at (b ++ x ∷ [])) n))
        ]

  feed_line : (b : ℕ) (bytes : List ℕ) → (b == 10) ≡ true → line_at {R = R} (b ∷ bytes) ≡ whole [] 1
  feed_line b bytes is = rw is refl

  other_line : (b : ℕ) (bytes : List ℕ) → (b == 10) ≡ false
      → line_at {R = R} (b ∷ bytes) ≡ with_byte b (line_at bytes)
  other_line b bytes is = rw is refl

  -- a line, and those of the bytes after so many
  same_line : (line : List ℕ) (n : ℕ) → ◌≡◌ {A = Front (List ℕ) R} (whole [] 1)
      (whole line n) → ([] ≡ line) × (1 ≡ n)
  same_line line n e = (cc, cc)

  -- a line that has begun has no line feed
  pub begun_no_feed : (b : List ℕ) → line_at {R = R} b ≡ begun → has_no_feed b ≡ true
  begun_no_feed [] e = refl
  begun_no_feed (c ∷ b) e = by_feed (begun_no_feed b) (c == 10) refl e where
    by_feed : (line_at {R = R} b ≡ begun → has_no_feed b ≡ true) → (v : Bool) → (c == 10) ≡ v
        → line_at {R = R} (c ∷ b) ≡ begun → has_no_feed (c ∷ b) ≡ true
    by_feed more true is e = absurd (let h = sym (feed_line c b is) ∙ e in cc)
    by_feed more false is e =
        rw is (more (longer_begun c (line_at b) (sym (other_line c b is) ∙ e)))

  -- bytes without one begin a line
  pub no_feed_begun : (b : List ℕ) → has_no_feed b ≡ true → line_at {R = R} b ≡ begun
  no_feed_begun [] e = refl
  no_feed_begun (c ∷ b) e = by_feed (no_feed_begun b) (c == 10) refl e where
    by_feed : (has_no_feed b ≡ true → line_at {R = R} b ≡ begun) → (v : Bool) → (c == 10) ≡ v
        → has_no_feed (c ∷ b) ≡ true → line_at {R = R} (c ∷ b) ≡ begun
    by_feed more true is e = absurd (let h = rw is at e in cc)
    by_feed more false is e = other_line c b is ∙ ap (with_byte c) (more (rw is at e))

  -- up to the first they are one
  pub feed_whole : (a rest : List ℕ) → has_no_feed a ≡ true
      → line_at {R = R} (a ++ 10 ∷ rest) ≡ whole a (length a + 1)
  feed_whole [] rest e = refl
  feed_whole (c ∷ a) rest e = by_feed (feed_whole a rest) (c == 10) refl e where
    by_feed : (has_no_feed a ≡ true → line_at {R = R} (a ++ 10 ∷ rest) ≡ whole a (length a + 1))
        → (v : Bool) → (c == 10) ≡ v → has_no_feed (c ∷ a) ≡ true
        → line_at {R = R} ((c ∷ a) ++ 10 ∷ rest) ≡ whole (c ∷ a) (length (c ∷ a) + 1)
    by_feed more true is e = absurd (let h = rw is at e in cc)
    by_feed more false is e =
        other_line c (a ++ 10 ∷ rest) is ∙ ap (with_byte c) (more (rw is at e))
        ∙ ap (whole (c ∷ a)) (omega arith)

  -- no bytes are wrong as a line
  pub never_wrong : (b : List ℕ) (fault : R) (n : ℕ) → line_at b ≡ wrong fault n → ⊥
  never_wrong [] fault n e = cc
  never_wrong (c ∷ b) fault n e = by_feed (never_wrong b) (c == 10) (line_at b) refl refl e where
    by_feed : ((fault : R) (n : ℕ) → line_at b ≡ wrong fault n → ⊥) → (v : Bool)
        → (f : Front (List ℕ) R) → line_at b ≡ f → (c == 10) ≡ v
        → line_at (c ∷ b) ≡ wrong fault n → ⊥
    by_feed never true f is feed e = let h = rw feed at e in cc
    by_feed never false begun is feed e = let h = rw (feed, is) at e in cc
    by_feed never false (whole line k) is feed e = let h = rw (feed, is) at e in cc
    by_feed never false (wrong other k) is feed e = never other k is

-- ---- input by its lines

pub feed_cut : (b : ℕ) (bytes : List ℕ) → (b == 10) ≡ true → cut (b ∷ bytes)
    ≡ ([] ∷ (cut bytes).0, (cut bytes).1)
feed_cut b bytes is = rw is refl

pub other_cut : (b : ℕ) (bytes : List ℕ) → (b == 10) ≡ false → cut (b ∷ bytes) ≡ cut_before b
    (cut bytes)
other_cut b bytes is = rw is refl

abbrev and_more : List ℕ → ℕ → List ℕ → List (List ℕ) × List ℕ
and_more line n bytes = (line ∷ (cut (drop n bytes)).0, (cut (drop n bytes)).1)

pub cut_line : {R : Type 0} (bytes line : List ℕ) (n : ℕ) → line_at {R = R} bytes ≡ whole line n
    → cut bytes ≡ and_more line n bytes
cut_line [] line n e = cc
cut_line {R = R} (b ∷ bytes) line n e = by_feed (cut_line {R = R} bytes) (b == 10) refl where
  by_feed : ((line : List ℕ) (n : ℕ) → line_at {R = R} bytes ≡ whole line n
      → cut bytes ≡ and_more line n bytes) → (v : Bool) → (b == 10) ≡ v
      → cut (b ∷ bytes) ≡ and_more line n (b ∷ bytes)
  by_feed cuts true is =
      let same = same_line line n (sym (feed_line b bytes is) ∙ e) in
      feed_cut b bytes is ∙ ap (λ l. and_more l 1 (b ∷ bytes)) same.0
      ∙ ap (λ m. and_more line m (b ∷ bytes)) same.1
  by_feed cuts false is =
      let v = longer_whole b n line (line_at bytes) (sym (other_line b bytes is) ∙ e) in
      other_cut b bytes is ∙ ap (cut_before b) (cuts v.0 v.1 v.2)
      ∙ ap (λ l. and_more l (suc v.1) (b ∷ bytes)) (sym v.3)
      ∙ ap (λ m. and_more line m (b ∷ bytes)) (sym v.4)

-- the first bytes of bytes without a line feed have none
pub free_take : (k : ℕ) (b : List ℕ) → has_no_feed b ≡ true → has_no_feed (take k b) ≡ true
free_take zero b e = refl
free_take (suc k) [] e = refl
free_take (suc k) (c ∷ b) e = by_feed (free_take k b) (c == 10) refl e where
  by_feed : (has_no_feed b ≡ true → has_no_feed (take k b) ≡ true) → (v : Bool) → (c == 10) ≡ v
      → has_no_feed (c ∷ b) ≡ true → has_no_feed (c ∷ take k b) ≡ true
  by_feed more true is e = let h = rw is at e in cc
  by_feed more false is e = rw is (more (rw is at e))

-- ---- the grammar

module _ {Z E R : Type 0} (x : LineRules Z E R) where
  pub readable : IsReadable (lines_by x)
  readable = record {
    reads = λ z from. peels_front line_at (record {
      nothing = refl;
      byte = byte_by;
      stays = λ b y some. stays_by b y
          (λ e. let none : extent (line_at b) ≡ 0 = ap extent e in omega (arith, some, none));
    });
    nothing = λ z from. refl;
  }

  pub closes : Closes (lines_by x) (λ e. false)
  closes = record {
    readable = readable;
    quiet = record {
      unread = λ z from bytes over. cc;
      any_length = λ z from n over. cc;
      any_end = λ z from n over. cc;
    };
    tells = record {
      start = refl;
      told = λ z from b u k e reads over some. refl;
      untold = λ z from b u k reads over none. refl;
    };
    unrefused = λ z from to u e some is_end. cc;
  }

  -- fewer bytes than are too many aren't refused for their length
  pub short_enough : (n : ℕ) → n < x.most → length_refused x n ≡ None
  short_enough n lt = rw (lt-leb x.most n lt) refl

  pub long_enough : (n : ℕ) → x.most ≤ n → length_refused x n ≡ Some x.too_long
  long_enough n le = rw (le-leb x.most n le) refl

  few_bytes : (n : ℕ) → length_refused x n ≡ None → n < x.most
  few_bytes n none = by_test (nat_le x.most n) refl none where
    by_test : (b : Bool) → nat_le x.most n ≡ b
        → ◌≡◌ {A = Option R} (if b then Some x.too_long else None) None → n < x.most
    by_test true is e = cc
    by_test false is e = leb-false x.most n is

  -- input of no bytes isn't refused
  pub begins : 0 < x.most → refusal_at (lines_by x) [] ≡ None
  unfolding refusal_at
  begins some = rw (standing_nothing (lines_by x) readable) (short_enough 0 some)

  -- input that may go on is shorter
  pub bounded : (bytes : List ℕ) → IsPending (lines_by x) bytes → length bytes < x.most
  bounded bytes pending =
      let none = pending_unrefused (lines_by x) bytes pending in
      let at = standing (lines_by x) bytes in
      few_bytes (length bytes)
      (sym (going_refusal (lines_by x) at (length bytes)
      (going_at (lines_by x) readable bytes none))
      ∙ sym (refusal_from (lines_by x) bytes at refl) ∙ none)

-- ---- where each line brings an event or is refused

module _ {Z E R : Type 0} where
  pub refused_by : (v : Result (Z × E) R) (r : R) → refusal_in v ≡ Some r → v ≡ Err r
  refused_by (Ok brought) r e = cc
  refused_by (Err other) r e = ap Err cc

  -- how it is answered
  pub answered_by : (IsIn : Z → Type 0) (z z' : Z) (event : E) (v : Result (Z × E) R)
      → v ≡ Ok (z', event) → IsIn z'
      → (refusal_in v ≡ None) × (event_in v ≡ Some event) × IsIn (situation_behind z v)
  answered_by IsIn z z' event v is at = (
    ap refusal_in is,
    ap event_in is,
    subst IsIn (sym (ap (situation_behind z) is)) at,
  )
