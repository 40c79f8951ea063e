-- Parts that are read from an offset on, by what their readers say of the bytes there.
use Rattle.std.proofs.Common.{◌≡◌, ℕ, ◌+◌, ◌-◌, ◌%◌, ◌<◌, ◌≤◌, List, [], ◌∷◌, ◌++◌, length, get_or}
use Rattle.std.proofs.Common.{take, drop, IsErrAnd, Ok, Err, Result, sym, refl, ap, ◌∙◌, subst}
use Rattle.std.proofs.Common.{append_assoc, append-nil, arith, length-append, length-drop}
use Rattle.std.proofs.Common.{take-append-drop, length-take-le, get_or-drop, drop-drop}
use Rattle.{std.proofs.Math.Nat.mod-eq_of_lt, nbfx_records.proofs.ShapeFronts.reads_integer}
use Rattle.std.proofs.lemmas.{List.drop-append-le, List.take_more, Result.err_from_is_err_and}
use Rattle.unit_streams.proofs.Parts.{then_begun, then_whole, then_wrong}
use Rattle.unit_streams.proofs.{Peeling.extent, Taken.at_last}
use Rattle.unit_streams.specs.Front.{begun, Front, ReadsFront, whole, wrong}
use Rattle.unit_streams.specs.Parts.{further, given, Reader, refuse, seen, ◌>>=◌}
use Rattle.multibyte_ints.proofs.{IntegerBytes.int_peels, IntegerFacts.whole_is}
use Rattle.multibyte_ints.specs.Integer.{int_at, value_of}
use Rattle.nbfx_records.specs.declared.cursor.Stop.{Stop, TheVariants.Fault, TheVariants.More}
use Rattle.nbfx_records.specs.{declared.nodes.RecordFault.RecordFault, Cursor.Why}
use Rattle.nbfx_records.specs.{Asked.Either, Asked.here, Asked.later, Shapes.an_integer}
use Rattle.nbfx_records.specs.Cursor.{AsksAt, IsWhole, IsWrong, PartTold, read_from, Stops, Tells}
use Rattle.nbfx_records.specs.declared.nodes.RecordFault.TheVariants as faults

-- bytes that follow, behind an offset
drop_more : (bytes more : List ℕ) (at : ℕ) → at ≤ length bytes → drop at (bytes ++ more)
    ≡ drop at bytes ++ more
drop_more bytes more at within = drop-append-le at bytes more within

-- the bytes from an offset up to another, and those behind
part_then : (bytes more : List ℕ) (at to : ℕ) → at ≤ to → to ≤ length bytes
    → drop at (bytes ++ more) ≡ take (to - at) (drop at bytes)
    ++ (drop (to - at) (drop at bytes) ++ more)
part_then bytes more at to after within =
    drop_more bytes more at (omega arith) ∙ ap (λ b. b ++ more)
    (sym (take-append-drop (to - at) (drop at bytes))) ∙ append_assoc
    (take (to - at) (drop at bytes)) (drop (to - at) (drop at bytes)) more

module _ {A : Type 0} (reader : Reader A RecordFault) (reads : ReadsFront reader) (bytes : List ℕ)
    (at to : ℕ) (after : at ≤ to) (within : to ≤ length bytes) where
  -- what stands in the bytes up to an offset stands there whatever follows
  pub whole_by : (a : A) → reader (take (to - at) (drop at bytes)) ≡ whole a (to - at)
      → IsWhole reader bytes at a to
  whole_by a e = record {
    after = after;
    within = within;
    stands = λ more. ap (λ b. further at (reader b)) (part_then bytes more at to after within)
        ∙ ap (further at) (reads.whole_stays (take (to - at) (drop at bytes))
        (drop (to - at) (drop at bytes) ++ more) a (to - at) e) ∙ ap (whole a) (omega arith);
  }

  pub wrong_by : (fault : RecordFault) → reader (take (to - at) (drop at bytes))
      ≡ wrong fault (to - at) → IsWrong reader bytes at fault to
  wrong_by fault e = record {
    stands = λ more. ap (λ b. further at (reader b)) (part_then bytes more at to after within)
        ∙ ap (further at) (reads.wrong_stays (take (to - at) (drop at bytes))
        (drop (to - at) (drop at bytes) ++ more) fault (to - at) e) ∙ ap (wrong fault)
        (omega arith);
  }

-- one more byte behind those from an offset on
pub one_more : (bytes : List ℕ) (from at : ℕ) → from ≤ at → at < length bytes → take (at - from)
    (drop from bytes) ++ get_or bytes at 0 ∷ [] ≡ take ((at + 1) - from) (drop from bytes)
one_more bytes from at after lt =
    let size = length-drop from bytes in
    let at_is : from + (at - from) ≡ at = omega arith in
    let count : (at - from) + 1 ≡ (at + 1) - from = omega arith in
    ap (λ x. take (at - from) (drop from bytes) ++ x ∷ [])
    (ap (λ i. get_or bytes i 0) (sym at_is) ∙ sym (get_or-drop from bytes (at - from) 0))
    ∙ sym (take_more (drop from bytes) (at - from) 0 (omega (arith, size))) ∙
    ap (λ n. take n (drop from bytes)) count

pub further_whole : {A : Type 0} (n : ℕ) (v : Front A RecordFault) (a : A) (m : ℕ) → further n v
    ≡ whole a m → (k : ℕ) × (v ≡ whole a k) × (m ≡ n + k)
further_whole n begun a m e = cc
further_whole n (whole b k) a m e = let same : b ≡ a = cc in let size : n + k
    ≡ m = cc in (k, ap (λ x. whole x k) same, sym size)
further_whole n (wrong r k) a m e = cc

pub further_begun : {A : Type 0} (n : ℕ) (v : Front A RecordFault) → further n v ≡ begun → v ≡ begun
further_begun n begun e = refl
further_begun n (whole b k) e = cc
further_begun n (wrong r k) e = cc

pub further_wrong : {A : Type 0} (n : ℕ) (v : Front A RecordFault) (r : RecordFault) (m : ℕ)
    → further n v ≡ wrong r m → (k : ℕ) × (v ≡ wrong r k) × (m ≡ n + k)
further_wrong n begun r m e = cc
further_wrong n (whole b k) r m e = cc
further_wrong n (wrong s k) r m e = let same : s ≡ r = cc in let size : n + k
    ≡ m = cc in (k, ap (λ x. wrong x k) same, sym size)

pub further_more : {A : Type 0} (n m : ℕ) (v : Front A RecordFault) → further n (further m v)
    ≡ further (n + m) v
further_more n m begun = refl
further_more n m (whole b k) = let sum : n + (m + k) ≡ (n + m) + k = omega arith in ap (whole b) sum
further_more n m (wrong r k) = let sum : n + (m + k) ≡ (n + m) + k = omega arith in ap (wrong r) sum

-- a part and what comes behind it
module _ {A B : Type 0} (reader : Reader A RecordFault) (next : A → Reader B RecordFault)
    (bytes : List ℕ) (at : ℕ) where
  from_then : (b : List ℕ) (a : A) (to : ℕ) → read_from at reader b ≡ whole a to
      → read_from at (reader >>= next) b ≡ read_from to (next a) b
  from_then b a to e =
      let w = further_whole at (reader (drop at b)) a to e in
      ap (further at) (then_whole reader next (drop at b) a w.0 w.1) ∙
      ap (λ c. further at (further w.0 (next a c))) (drop-drop w.0 at b)
      ∙ further_more at w.0 (next a (drop (at + w.0) b)) ∙ ap (λ n. further n (next a (drop n b)))
      (sym w.2)

  why_behind : (a : A) (to : ℕ) (stop : Stop) → IsWhole reader bytes at a to → Why (next a) bytes to
      stop → Why (reader >>= next) bytes at stop
  why_behind a to (Fault fault shown_by) first then = record
      { stands = λ more. from_then (bytes ++ more) a to (first.stands more) ∙ then.stands more }
  why_behind a to (More wants) first then = record {
    above = then.above;
    begins = λ more lt. from_then (bytes ++ more) a to (first.stands more) ∙ then.begins more lt;
  }

  why_first : (stop : Stop) → Why reader bytes at stop → Why (reader >>= next) bytes at stop
  why_first (Fault fault shown_by) first = record {
    stands = λ more.
        let w = further_wrong at (reader (drop at (bytes ++ more))) fault shown_by
        (first.stands more) in
        ap (further at) (then_wrong reader next (drop at (bytes ++ more)) fault w.0 w.1) ∙
        ap (wrong fault) (sym w.2);
  }
  why_first (More wants) first = record {
    above = first.above;
    begins = λ more lt. ap (further at) (then_begun reader next (drop at (bytes ++ more))
        (further_begun at (reader (drop at (bytes ++ more))) (first.begins more lt)));
  }

  module _ (asked : List ℕ → ℕ → Type 0) (behind : A → List ℕ → ℕ → Type 0) where
    asks_first : (stop : Stop) → AsksAt asked bytes at stop → AsksAt (Either reader asked behind)
        bytes at stop
    asks_first (Fault fault shown_by) h = tt
    asks_first (More wants) (m, e, h) = (m, e, here h)

    asks_behind : (a : A) (to : ℕ) (stop : Stop) → IsWhole reader bytes at a to → AsksAt (behind a)
        bytes to stop → AsksAt (Either reader asked behind) bytes at stop
    asks_behind a to (Fault fault shown_by) first h = tt
    asks_behind a to (More wants) first (m, e, h) =
        let k = further_whole at (reader (drop at (bytes ++ []))) a to (first.stands []) in
        let rest = ap (λ n. drop n bytes) k.2 ∙ sym (drop-drop k.0 at bytes) in (
          k.0 + m,
          omega (arith, e, k.2),
          later (
            a,
            k.0,
            m,
            ap (λ b. reader (drop at b)) (sym (append-nil bytes)) ∙ k.1,
            refl,
            subst
                (λ (b : List ℕ). behind a b m) rest h,
          ),
        )

  told_behind : (asked : List ℕ → ℕ → Type 0) (behind : A → List ℕ → ℕ → Type 0) {X : Type 0}
      (see : X → B) (a : A) (to : ℕ) (r : Result (X × ℕ) Stop) → IsWhole reader bytes at a to
      → PartTold see (next a) (behind a) bytes to r
      → PartTold see (reader >>= next) (Either reader asked behind) bytes at r
  told_behind asked behind see a to (Ok x) first then = record {
    after = let e = first.after in let f = then.after in omega arith;
    within = then.within;
    stands = λ more. from_then (bytes ++ more) a to (first.stands more) ∙ then.stands more;
  }
  told_behind asked behind see a to (Err stop) first then = record {
    why = why_behind a to stop first then.why;
    asks = asks_behind asked behind a to stop first
        then.asks;
  }

module _ {A B : Type 0} {reader : Reader A RecordFault} (next : A → Reader B RecordFault)
    {asked : List ℕ → ℕ → Type 0} {behind : A → List ℕ → ℕ → Type 0} {bytes : List ℕ} {at : ℕ} where
  -- where the first part stops
  pub then_stops : {stop : Stop} → Stops reader asked bytes at stop → Stops (reader >>= next)
      (Either reader asked behind) bytes at stop
  then_stops {stop} first = record {
    why = why_first reader next bytes at stop first.why;
    asks =
        asks_first reader next bytes at asked behind stop first.asks;
  }

  -- behind a first part that is whole
  pub then_tells : {X Y : Type 0} {see' : Y → A} {see : X → B} {x : Y} {to : ℕ}
      {r : Result (X × ℕ) Stop} → Tells see' reader asked bytes at (Ok (x, to))
      → Tells see (next (see' x)) (behind (see' x)) bytes to r
      → Tells see (reader >>= next) (Either reader asked behind) bytes at r
  then_tells {see' = see'} {see} {x} {to} {r} first then = record {
    told = told_behind reader next bytes at asked behind see (see' x) to r first.told then.told;
  }

  pub then_stops_behind : {Y : Type 0} {see' : Y → A} {x : Y} {to : ℕ} {stop : Stop}
      → Tells see' reader asked bytes at (Ok (x, to)) → Stops (next (see' x)) (behind (see' x))
      bytes to stop
      → Stops (reader >>= next) (Either reader asked behind) bytes at stop
  then_stops_behind {see' = see'} {x} {to} {stop} first then = record {
    why = why_behind reader next bytes at (see' x) to stop first.told then.why;
    asks = asks_behind reader next bytes at asked behind (see' x) to stop first.told then.asks;
  }

-- a part seen otherwise
module _ {A B : Type 0} (see : A → B) (reader : Reader A RecordFault) (bytes : List ℕ) (at : ℕ)
  where
    seen_further : (n : ℕ) (v : Front A RecordFault) → further n (seen see (λ fault. fault) v)
        ≡ seen see (λ fault. fault) (further n v)
    seen_further n begun = refl
    seen_further n (whole a k) = refl
    seen_further n (wrong r k) = refl

    seen_is : (a : A) (to : ℕ) → IsWhole reader bytes at a to
        → IsWhole (λ b. seen see (λ fault. fault) (reader b)) bytes at (see a) to
    seen_is a to first = record {
      after = first.after;
      within = first.within;
      stands = λ more. seen_further at (reader (drop at (bytes ++ more))) ∙
          ap (seen see (λ fault. fault)) (first.stands more);
    }

    seen_why : (stop : Stop) → Why reader bytes at stop
        → Why (λ b. seen see (λ fault. fault) (reader b)) bytes at stop
    seen_why (Fault fault shown_by) first = record {
      stands = λ more. seen_further at (reader (drop at (bytes ++ more))) ∙
          ap (seen see (λ fault. fault)) (first.stands more);
    }
    seen_why (More wants) first = record {
      above = first.above;
      begins = λ more lt. seen_further at (reader (drop at (bytes ++ more))) ∙
          ap (seen see (λ fault. fault)) (first.begins more lt);
    }

module _ {A B : Type 0} (see : A → B) {reader : Reader A RecordFault} {asked : List ℕ → ℕ → Type 0}
    {bytes : List ℕ} {at : ℕ} where
  pub seen_stops : {stop : Stop} → Stops reader asked bytes at stop
      → Stops (λ b. seen see (λ fault. fault) (reader b)) asked bytes at stop
  seen_stops {stop} first = record {
    why = seen_why see reader bytes at stop first.why;
    asks =
        first.asks;
  }

  pub seen_tells : {X Y : Type 0} {see' : Y → A} {view : X → B} {x : Y} {y : X} {to : ℕ}
      → Tells see' reader asked bytes at (Ok (x, to)) → see (see' x) ≡ view y
      → Tells view (λ b. seen see (λ fault. fault) (reader b)) asked bytes at (Ok (y, to))
  seen_tells {see' = see'} {view} {x} {y} {to} first same = record {
    told = subst (λ (b : B). IsWhole (λ c. seen see (λ fault. fault) (reader c)) bytes at b to) same
        (seen_is see reader bytes at (see' x) to first.told);
  }

-- a thing of no bytes, and nothing that may come
given_is : {A : Type 0} (a : A) (bytes : List ℕ) (at : ℕ) → at ≤ length bytes → IsWhole (given a)
    bytes at a at
given_is a bytes at within = record {
  after = omega arith;
  within = within;
  stands = λ more.
      ap (whole a) (omega arith);
}

refuse_is : {A : Type 0} (fault : RecordFault) (bytes : List ℕ) (at : ℕ)
    → IsWrong (refuse {A = A} fault) bytes at fault at
refuse_is fault bytes at = record { stands = λ more. ap (wrong fault) (omega arith) }

pub given_tells : {asked : List ℕ → ℕ → Type 0} {X A : Type 0} (see : X → A) (x : X)
    (bytes : List ℕ) (at : ℕ) → at ≤ length bytes → Tells see (given (see x)) asked bytes at
    (Ok (x, at))
given_tells see x bytes at within = record { told = given_is (see x) bytes at within }

pub refuse_stops : {asked : List ℕ → ℕ → Type 0} {A : Type 0} (fault : RecordFault) (bytes : List ℕ)
    (at : ℕ) → Stops (refuse {A = A} fault) asked bytes at (Fault fault at)
refuse_stops fault bytes at = record { why = refuse_is fault bytes at; asks = tt }

-- the bytes of an integer so far, and one more
module _ (bytes : List ℕ) (from at : ℕ) (after : from ≤ at) (lt : at < length bytes) where
  abbrev so_far : List ℕ
  so_far = take (at - from) (drop from bytes)

  size_so_far : length (so_far ++ get_or bytes at 0 ∷ []) ≡ (at + 1) - from
  size_so_far = simp length-append
      (omega (
        arith,
        length-take-le (at - from) (drop from bytes)
            (omega (arith, length-drop from bytes)),
      ))

  pub integer_whole : (n : ℕ) → int_at (so_far ++ get_or bytes at 0 ∷ [])
      ≡ whole n (length (so_far ++ get_or bytes at 0 ∷ [])) → IsWhole an_integer bytes from n
      (at + 1)
  integer_whole n e =
      whole_by an_integer reads_integer bytes from (at + 1) (omega arith) (omega arith) n
      (ap an_integer (sym (one_more bytes from at after lt)) ∙
      ap (seen (λ n. n) (λ _. faults.BadInt)) e ∙ ap (whole n) size_so_far)

  pub integer_wrong : int_at so_far ≡ begun → int_at (so_far ++ get_or bytes at 0 ∷ []) ≡ wrong tt 5
      → IsWrong an_integer bytes from faults.BadInt (at + 1)
  integer_wrong begins e =
      let five : 5 ≡ (at + 1) - from =
      sym (ap extent e) ∙ at_last int_at int_peels so_far (get_or bytes at 0) begins (λ h. cc) ∙
      omega (arith, size_so_far, length-append so_far (get_or bytes at 0 ∷ [])) in
      wrong_by an_integer reads_integer bytes from (at + 1) (omega arith) (omega arith)
      faults.BadInt
      (ap an_integer (sym (one_more bytes from at after lt)) ∙
      ap (seen (λ n. n) (λ _. faults.BadInt)) e ∙ ap (wrong faults.BadInt) five)

-- an integer of one byte
small_value : (b : ℕ) → b < 128 → value_of (b ∷ []) ≡ b
unfolding value_of
small_value b lt = let same : b % 128 ≡ b = mod-eq_of_lt lt in omega (arith, same)

pub one_byte_whole : (bytes : List ℕ) (from : ℕ) → from < length bytes → get_or bytes from 0 < 128
    → IsWhole an_integer bytes from (get_or bytes from 0) (from + 1)
one_byte_whole bytes from lt small =
    let none : from - from ≡ 0 = omega arith in
    let b = get_or bytes from 0 in
    let there : int_at (b ∷ []) ≡ whole b 1 =
    whole_is 0 (b ∷ [])
    (record {
      within = omega arith;
      at_most_five = omega arith;
      continued = λ i h. absurd
          (omega (arith, h));
      ended = small;
      fifth = λ h. cc;
    }) ∙ ap (λ v. whole v 1)
    (small_value b small) in
    integer_whole bytes from from (omega arith) lt b (rw none there)

-- what a `?` hands on
pub exit : {X A : Type 0} {see : X → A} {reader : Reader A RecordFault}
    {asked : List ℕ → ℕ → Type 0} {bytes : List ℕ} {at : ℕ} {stop : Stop} {r : Result (X × ℕ) Stop}
    → IsErrAnd r (λ y. y ≡ stop) → Stops reader asked bytes at stop
    → Tells see reader asked bytes at r
exit {X} {A} {see} {reader} {asked} {bytes} {at} {stop} {r} e h =
    let p = err_from_is_err_and r e in
    subst (λ (q : Result (X × ℕ) Stop). Tells see reader asked bytes at q)
    (ap Err (sym p.2) ∙ sym p.1) (record { told = h })
