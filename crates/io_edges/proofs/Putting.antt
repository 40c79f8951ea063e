-- Puts, one behind the other.
use Rattle.std.proofs.Common.{◌≡◌, ℕ, ◌+◌, ◌≤◌, min, true, false, List, [], ◌++◌, length, take}
use Rattle.std.proofs.Common.{Some, None, Ok, Err, Option, Result, IsErrOf, IsOk, sym, refl, ap}
use Rattle.std.proofs.Common.{◌∙◌, subst, inl, inr, append_assoc, append-nil, arith, take_all}
use Rattle.std.proofs.Math.Seq.{take-append-add, take-append_seam}
use Rattle.std.proofs.lemmas.{Bool.cases_lt, List.take-append-le}
use Rattle.io_edges.specs.declared.SinkFault.{SinkFault, TheVariants.Failed, TheVariants.Memory}
use Rattle.io_edges.specs.{Faults.CountsFaults, Faults.Rose, Gathering.with_room, Puts.Puts}
use Rattle.io_edges.specs.{Puts.PutsSome, Views.HoldsNothing, Views.SinkView}
use Rattle.io_edges.specs.Flow.{GrowsByPrefix, Passes, Told}

-- what a call counts that didn't fail, and one behind it
nothing_counted : (f : ℕ) {P : Type 0} → (P → ⊥) → CountsFaults f f P
nothing_counted f none = record {
  rose = λ p. absurd (none p);
  same = λ no. refl;
  grows = omega
      arith;
}

counted_then : {f f1 f2 : ℕ} {P Q : Type 0} → (P → ⊥) → CountsFaults f f1 P → CountsFaults f1 f2 Q
    → CountsFaults f f2 Q
counted_then {f2 = f2} none h k = record {
  rose = λ q. subst (λ n. Rose n f2) (h.same none) (k.rose q);
  same = λ no. k.same no ∙ h.same none;
  grows = omega (arith, h.grows, k.grows);
}

no_fault : {A : Type 0} {a : A} {fault : SinkFault} → IsErrOf (Ok a) fault → ⊥
no_fault e = cc

-- nothing was put
passes_nothing : (w : Option (List ℕ)) (h : List ℕ) → Told w w (λ w w'. Passes w w' h h [])
passes_nothing None h = tt
passes_nothing (Some w) h = record { put = []; split = append-nil h; grown = sym (append-nil w) }

pub Puts-nothing : (k : SinkView) → Puts k k [] (Ok tt)
Puts-nothing k = record {
  written = passes_nothing k.written k.held;
  refused = tt;
  dropped = tt;
  unheld = λ plain. plain.1;
  counted = nothing_counted k.faults no_fault;
  memory = λ e. cc;
  same_memory = refl;
  same_holding = refl;
}

-- a call that leaves a sink as it was has put nothing
pub Puts-kept : (k : SinkView) (result : Result (Unit {0}) SinkFault) → IsOk result
    → Puts k k [] result
Puts-kept k (Ok u) ok = Puts-nothing k
Puts-kept k (Err fault) ok = let never : false ≡ true = ok in cc

-- one behind the other
passes_then : (a b h h1 h2 : List ℕ) (w w1 w2 : Option (List ℕ))
    → Told w w1 (λ w w'. Passes w w' h h1 a) → Told w1 w2 (λ w w'. Passes w w' h1 h2 b)
    → Told w w2 (λ w w'. Passes w w' h h2 (a ++ b))
passes_then a b h h1 h2 None w1 w2 p q = tt
passes_then a b h h1 h2 (Some w) None w2 p q = absurd p
passes_then a b h h1 h2 (Some w) (Some v) None p q = absurd q
passes_then a b h h1 h2 (Some w) (Some v) (Some u) p q = record {
  put = p.put ++ q.put;
  split = sym (append_assoc h a b) ∙ ap (λ l. l ++ b) p.split ∙ append_assoc p.put h1 b ∙
      ap (λ l. p.put ++ l) q.split ∙ sym (append_assoc p.put q.put h2);
  grown = q.grown ∙ ap (λ l. l ++ q.put) p.grown ∙ append_assoc w p.put q.put;
}

cut_then : (a b h h1 : List ℕ) (w w1 w2 : Option (List ℕ)) → Told w w1 (λ w w'. Passes w w' h h1 a)
    → Told w1 w2 (λ w w'. GrowsByPrefix w w' (h1 ++ b))
    → Told w w2 (λ w w'. GrowsByPrefix w w' (h ++ (a ++ b)))
cut_then a b h h1 None w1 w2 p q = tt
cut_then a b h h1 (Some w) None w2 p q = absurd p
cut_then a b h h1 (Some w) (Some v) None p q = absurd q
cut_then a b h h1 (Some w) (Some v) (Some u) p q =
    let shape : p.put ++ (h1 ++ b) ≡ h ++ (a ++ b) = sym (append_assoc p.put h1 b) ∙
    ap (λ l. l ++ b) (sym p.split) ∙ append_assoc h a b in
    record {
      kept = length p.put + q.kept;
      grown = q.grown ∙ ap (λ l. l ++ take q.kept (h1 ++ b)) p.grown ∙ append_assoc w p.put
          (take q.kept (h1 ++ b))
          ∙ ap (λ l. w ++ l) (sym (take-append-add p.put (h1 ++ b) q.kept)) ∙
          ap (λ l. w ++ take (length p.put + q.kept) l) shape;
    }

shorter_take : (a b : List ℕ) (n : ℕ) → take n a ≡ take (min n (length a)) (a ++ b)
shorter_take a b n =
    elim (cases_lt n (length a)) [
      | inl below ↦
          let e : min n (length a) ≡ n = omega arith in
          let h : n ≤ length a = omega arith in
          rw (e, take-append-le) refl
      | inr beyond ↦
          let e : min n (length a) ≡ length a = omega arith in
          rw e (take_all n a beyond ∙ sym (take-append_seam a b))
    ]

prefix_longer : (a b : List ℕ) (w w1 : Option (List ℕ)) → Told w w1 (λ w w'. GrowsByPrefix w w' a)
    → Told w w1 (λ w w'. GrowsByPrefix w w' (a ++ b))
prefix_longer a b None w1 p = tt
prefix_longer a b (Some w) None p = absurd p
prefix_longer a b (Some w) (Some v) p = record {
  kept = min p.kept (length a);
  grown = p.grown ∙ ap (λ l. w ++ l) (shorter_take a b p.kept);
}

pub Puts-then : {a b : List ℕ} (result : Result (Unit {0}) SinkFault) {k k1 k2 : SinkView}
    → Puts k k1 a (Ok tt) → Puts k1 k2 b result → Puts k k2 (a ++ b) result
Puts-then {a = a} {b = b} (Ok u) {k = k} {k1 = k1} {k2 = k2} p q = record {
  written = passes_then a b k.held k1.held k2.held k.written k1.written k2.written p.written
      q.written;
  refused = tt;
  dropped = tt;
  unheld = λ plain. q.unheld (p.same_holding ∙ plain.0, p.unheld plain);
  counted = counted_then no_fault p.counted q.counted;
  memory = λ e. cc;
  same_memory = q.same_memory ∙ p.same_memory;
  same_holding = q.same_holding ∙ p.same_holding;
}
Puts-then {a = a} {b = b} (Err fault) {k = k} {k1 = k1} {k2 = k2} p q = record {
  written = tt;
  refused = cut_then a b k.held k1.held k.written k1.written k2.written p.written q.refused;
  dropped = q.dropped;
  unheld = λ plain. q.dropped;
  counted = counted_then no_fault p.counted q.counted;
  memory = λ e. sym p.same_memory ∙ q.memory e;
  same_memory = q.same_memory ∙ p.same_memory;
  same_holding = q.same_holding ∙ p.same_holding;
}

-- what was cut short is cut short of more
pub Puts-cut : {a : List ℕ} (b : List ℕ) {e : SinkFault} {k k1 : SinkView} → Puts k k1 a (Err e)
    → Puts k k1 (a ++ b) (Err e)
Puts-cut {a = a} b {k = k} {k1 = k1} p = record {
  written = tt;
  refused = subst (λ l. Told k.written k1.written (λ w w'. GrowsByPrefix w w' l))
      (append_assoc k.held a b) (prefix_longer (k.held ++ a) b k.written k1.written p.refused);
  dropped = p.dropped;
  unheld = p.unheld;
  counted = p.counted;
  memory = p.memory;
  same_memory = p.same_memory;
  same_holding = p.same_holding;
}

-- with an empty room a sink holds what it held
unfilled : (k k1 : SinkView) → HoldsNothing (with_room [] k) → k1.held ++ [] ≡ []
unfilled k k1 plain = let never : true ≡ false = plain.0 in cc

-- a put, beside a room in which nothing stands
pub beside_no_room : {bytes : List ℕ} {result : Result (Unit {0}) SinkFault} {k k1 : SinkView}
    → Puts k k1 bytes result → Puts (with_room [] k) (with_room [] k1) bytes result
beside_no_room {k = k} {k1 = k1} p = record {
  written = rw (append-nil k.held, append-nil k1.held) p.written;
  refused = rw (append-nil k.held) p.refused;
  dropped = rw (append-nil k1.held) p.dropped;
  unheld = unfilled k k1;
  counted = p.counted;
  memory = p.memory;
  same_memory = p.same_memory;
  same_holding = refl;
}

counted_for : (f f1 : ℕ) {P Q : Type 0} → CountsFaults f f1 P → (Q → P) → (P → Q)
    → CountsFaults f f1 Q
counted_for f f1 h to back = record {
  rose = λ q. h.rose (to q);
  same = λ no. h.same (λ p. no (back p));
  grows = h.grows;
}

-- the fault of a failed call, whatever it answers else
error_of : {A : Type 0} (fault other : SinkFault) (a : Result A SinkFault) → a ≡ Err fault
    → a ≡ Err other → fault ≡ other
error_of fault other a is also = cc

-- a put in parts is one of the bytes that it took, or of none
pub some_taken : {bytes : List ℕ} {n : ℕ} {k k1 : SinkView} → PutsSome k k1 bytes (Ok n)
    → Puts k k1 (take n bytes) (Ok tt)
some_taken {k = k} {k1 = k1} p = record {
  written = p.written;
  refused = tt;
  dropped = tt;
  unheld = p.unheld;
  counted = counted_for k.faults k1.faults p.counted (λ e. cc) (λ e. cc);
  memory = λ e. cc;
  same_memory = p.same_memory;
  same_holding = p.same_holding;
}

pub none_taken : {bytes : List ℕ} {fault : SinkFault} {k k1 : SinkView}
    → PutsSome k k1 bytes (Err fault) → Puts k k1 [] (Err fault)
none_taken {fault = fault} {k = k} {k1 = k1} p = record {
  written = tt;
  refused = rw append-nil p.refused;
  dropped = p.dropped;
  unheld = p.unheld;
  counted = counted_for k.faults k1.faults p.counted
      (λ e. ap Err (error_of fault Failed (Err fault) refl e))
      (λ e. ap Err (error_of fault Failed (Err fault) refl e));
  memory = λ e. p.memory (ap Err (error_of fault Memory (Err fault) refl e));
  same_memory = p.same_memory;
  same_holding = p.same_holding;
}

some_of : {bytes : List ℕ} {n : ℕ} {k k1 : SinkView} → Puts k k1 (take n bytes) (Ok tt)
    → PutsSome k k1 bytes (Ok n)
some_of {k = k} {k1 = k1} p = record {
  written = p.written;
  refused = tt;
  dropped = tt;
  unheld = p.unheld;
  counted = counted_for k.faults k1.faults p.counted (λ e. cc) (λ e. cc);
  memory = λ e. cc;
  same_memory = p.same_memory;
  same_holding = p.same_holding;
}

pub none_of : {bytes : List ℕ} {fault : SinkFault} {k k1 : SinkView} → Puts k k1 [] (Err fault)
    → PutsSome k k1 bytes (Err fault)
none_of {fault = fault} {k = k} {k1 = k1} p = record {
  written = tt;
  refused = rw append-nil at p.refused;
  dropped = p.dropped;
  unheld = p.unheld;
  counted = counted_for k.faults k1.faults p.counted
      (λ e. ap Err (error_of fault Failed (Err fault) refl e))
      (λ e. ap Err (error_of fault Failed (Err fault) refl e));
  memory = λ e. p.memory (ap Err (error_of fault Memory (Err fault) refl e));
  same_memory = p.same_memory;
  same_holding = p.same_holding;
}

-- a put in parts behind what stood in a room, in which nothing stands then
pub some_behind : {bytes : List ℕ} (k : SinkView) (room : List ℕ) (result : Result ℕ SinkFault)
    {k1 k2 : SinkView}
    → Puts (with_room room k) (with_room [] k1) [] (Ok tt) → PutsSome k1 k2 bytes result
    → PutsSome (with_room room k) (with_room [] k2) bytes result
some_behind {bytes = bytes} k room (Ok n) before p =
    some_of (Puts-then {a = []} {b = take n bytes} (Ok tt) before
    (beside_no_room (some_taken p)))
some_behind k room (Err fault) before p =
    none_of (Puts-then {a = []} {b = []} (Err fault) before (beside_no_room (none_taken p)))
