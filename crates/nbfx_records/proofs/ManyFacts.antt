-- Things one behind the other that are read from an offset on, and what they are together.
use Rattle.std.proofs.Common.{◌≡◌, ℕ, ◌+◌, ◌<◌, List, [], ◌∷◌, ◌++◌, length, drop, sym, refl, ap}
use Rattle.std.proofs.Common.{◌∙◌, subst, append_assoc, append-nil, arith, length-append}
use Rattle.std.proofs.Common.{length-drop, drop-drop}
use Rattle.unit_streams.proofs.{Fronts.whole_some, Repeated.many_is}
use Rattle.unit_streams.proofs.Parts.{then_begun, then_whole, then_wrong}
use Rattle.unit_streams.specs.Front.{begun, Front, ReadsFront, whole, wrong}
use Rattle.unit_streams.specs.Parts.{further, Many, many, more, Reader, repeated, seen, stop, Turn}
use Rattle.unit_streams.specs.Parts.{turned, with_first}
use Rattle.nbfx_records.specs.declared.cursor.Stop.{Stop, TheVariants.Fault, TheVariants.More}
use Rattle.nbfx_records.specs.declared.nodes.RecordFault.{RecordFault}
use Rattle.nbfx_records.specs.Causes.{BehindMany, BehindThese}
use Rattle.nbfx_records.specs.Cursor.{AsksAt, IsWhole, read_from, Stops, Why}
use Rattle.nbfx_records.specs.Resuming.{AreMore, Passes}
use Rattle.nbfx_records.proofs.CursorFacts.{further_begun, further_more, further_whole}
use Rattle.nbfx_records.proofs.CursorFacts.{further_wrong}

module _ {A B : Type 0} (turn : Reader (Turn A B) RecordFault) (reads : ReadsFront turn)
    (nothing : turn [] ≡ begun) where
  pub many_stop : (b : List ℕ) (e : B) (k : ℕ) → turn b ≡ whole (stop e) k → many turn b
      ≡ whole (record { items = []; last = e }) k
  unfolding many repeated
  many_stop b e k h = then_whole turn (turned (repeated (length b) turn)) b (stop e) k h ∙
      ap (whole (record { items = []; last = e })) (omega arith)

  pub many_more : (b : List ℕ) (a : A) (k : ℕ) → turn b ≡ whole (more a) k → many turn b
      ≡ further k (seen (with_first a) (λ r. r) (many turn (drop k b)))
  unfolding many repeated
  many_more b a k h =
      let some = whole_some turn reads nothing b (more a) k h in
      then_whole turn (turned (repeated (length b) turn)) b (more a) k h
      ∙ ap (λ v. further k (seen (with_first a) (λ r. r) v))
      (sym (many_is turn reads nothing (length b) (drop k b)
      (omega (arith, some.0, some.1, length-drop k b))))

  pub many_begun : (b : List ℕ) → turn b ≡ begun → many turn b ≡ begun
  unfolding many repeated
  many_begun b h = then_begun turn (turned (repeated (length b) turn)) b h

  pub many_wrong : (b : List ℕ) (r : RecordFault) (k : ℕ) → turn b ≡ wrong r k → many turn b
      ≡ wrong r k
  unfolding many repeated
  many_wrong b r k h = then_wrong turn (turned (repeated (length b) turn)) b r k h

  -- a whole thing has a byte
  pub moves : (bytes : List ℕ) (at : ℕ) (t : Turn A B) (to : ℕ) → IsWhole turn bytes at t to → at
      < to
  moves bytes at t to h =
      let w = further_whole at (turn (drop at (bytes ++ []))) t to (h.stands []) in
      let some = whole_some turn reads nothing (drop at (bytes ++ [])) t w.0 w.1 in
      omega (arith, some.0, w.2)

  further_seen : {C D : Type 0} (see : C → D) (n : ℕ) (v : Front C RecordFault)
      → further n (seen see (λ r. r) v) ≡ seen see (λ r. r) (further n v)
  further_seen see n begun = refl
  further_seen see n (whole c k) = refl
  further_seen see n (wrong r k) = refl

  module _ (bytes : List ℕ) where
    -- what is read behind one thing
    behind_one : (from mid : ℕ) (a : A) (c : List ℕ) → IsWhole turn bytes from (more a) mid
        → read_from from (many turn) (bytes ++ c) ≡ seen (with_first a) (λ r. r)
        (read_from mid (many turn) (bytes ++ c))
    behind_one from mid a c h =
        let w = further_whole from (turn (drop from (bytes ++ c))) (more a) mid (h.stands c) in
        ap (further from) (many_more (drop from (bytes ++ c)) a w.0 w.1) ∙ further_more from w.0 _
        ∙ further_seen (with_first a) (from + w.0) (many turn (drop w.0 (drop from (bytes ++ c))))
        ∙ ap (λ b. seen (with_first a) (λ r. r) (further (from + w.0) (many turn b)))
        (drop-drop w.0 from (bytes ++ c))
        ∙ ap (λ n. seen (with_first a) (λ r. r) (further n (many turn (drop n (bytes ++ c)))))
        (sym w.2)

    -- things, and then the end
    pub many_whole : (items : List A) (from at : ℕ) (last : B) (to : ℕ) → AreMore turn bytes from
        items at → IsWhole turn bytes at (stop last) to → IsWhole (many turn) bytes from
        (record { items = items; last = last }) to
    many_whole [] from at last to are h = rw are (record {
      after = h.after;
      within = h.within;
      stands = λ c.
          let w = further_whole at (turn (drop at (bytes ++ c))) (stop last) to (h.stands c) in
          ap (further at) (many_stop (drop at (bytes ++ c)) last w.0 w.1) ∙
          ap (whole (record { items = []; last = last })) (sym w.2);
    })
    many_whole (a ∷ items) from at last to (mid, lt, first, others) h =
        let rest = many_whole items mid at last to others h in
        record {
          after = let e = rest.after in omega arith;
          within = rest.within;
          stands = λ c. behind_one from mid a c first ∙ ap (seen (with_first a) (λ r. r))
              (rest.stands c);
        }

    many_why : (items : List A) (from at : ℕ) (s : Stop) → AreMore turn bytes from items at
        → Why turn bytes at s → Why (many turn) bytes from s
    many_why [] from at (Fault fault shown_by) are h = rw are (record {
      stands = λ c.
          let w = further_wrong at (turn (drop at (bytes ++ c))) fault shown_by (h.stands c) in
          ap (further at) (many_wrong (drop at (bytes ++ c)) fault w.0 w.1) ∙ ap (wrong fault)
          (sym w.2);
    })
    many_why [] from at (More wants) are h = rw are (record {
      above = h.above;
      begins = λ c lt. ap (further at)
          (many_begun (drop at (bytes ++ c))
          (further_begun at (turn (drop at (bytes ++ c))) (h.begins c lt)));
    })
    many_why (a ∷ items) from at (Fault fault shown_by) (mid, lt, first, others) h =
        let rest = many_why items mid at (Fault fault shown_by) others h in
        record {
          stands = λ c. behind_one from mid a c first ∙ ap (seen (with_first a) (λ r. r))
              (rest.stands c);
        }
    many_why (a ∷ items) from at (More wants) (mid, lt, first, others) h =
        let rest = many_why items mid at (More wants) others h in
        record {
          above = rest.above;
          begins = λ c few. behind_one from mid a c first ∙
              ap (seen (with_first a) (λ r. r)) (rest.begins c few);
        }

    -- behind things what the next asks for
    module _ (asked : List ℕ → ℕ → Type 0) where
      many_ask : (items : List A) (from at wants m : ℕ) → AreMore turn bytes from items at → wants
          ≡ at + m → asked (drop at bytes) m
          → (n : ℕ) × (wants ≡ from + n) × BehindMany turn asked (drop from bytes) n
      many_ask [] from at wants m are e h = rw are (m, e, ([], h))
      many_ask (a ∷ items) from at wants m (mid, lt, first, others) e h =
          let rest = many_ask items mid at wants m others e h in
          let w = further_whole from (turn (drop from (bytes ++ []))) (more a) mid (first.stands [])
          in
          let here : turn (drop from bytes) ≡ whole (more a) w.0 = ap (λ b. turn (drop from b))
          (sym (append-nil bytes)) ∙ w.1 in
          let behind : drop mid bytes ≡ drop w.0 (drop from bytes) = ap (λ n. drop n bytes) w.2 ∙
          sym (drop-drop w.0 from bytes) in
          let sum : wants ≡ from + (w.0 + rest.0) = omega (arith, rest.1, w.2) in (
            w.0 + rest.0,
            sum,
            (
              a ∷ rest.2.0,
              (
                w.0,
                rest.0,
                here,
                refl,
                subst (λ (b : List ℕ). BehindThese turn asked rest.2.0 b rest.0)
                    behind rest.2.1,
              ),
            ),
          )

      many_asks : (items : List A) (from at : ℕ) (s : Stop) → AreMore turn bytes from items at
          → AsksAt asked bytes at s → AsksAt (BehindMany turn asked) bytes from s
      many_asks items from at (Fault fault shown_by) are h = tt
      many_asks items from at (More wants) are (m, e, h) = many_ask items from at wants m are e h

    pub many_stops : {asked : List ℕ → ℕ → Type 0} (items : List A) (from at : ℕ) (s : Stop)
        → AreMore turn bytes from items at → Stops turn asked bytes at s → Stops (many turn)
        (BehindMany turn asked) bytes from s
    many_stops {asked} items from at s are h = record {
      why = many_why items from at s are h.why;
      asks = many_asks asked items from at s are
          h.asks;
    }

    -- one more thing
    pub more_are : (items : List A) (from at to : ℕ) (a : A) → AreMore turn bytes from items at
        → IsWhole turn bytes at (more a) to → AreMore turn bytes from (items ++ a ∷ []) to
    more_are [] from at to a are h = rw are (to, moves bytes at (more a) to h, h, refl)
    more_are (x ∷ items) from at to a (mid, lt, first, others) h =
        (mid, lt, first, more_are items mid at to a others h)

    pub passes_more : (from at to : ℕ) (a : A) → Passes turn bytes from at → IsWhole turn bytes at
        (more a) to → Passes turn bytes from to
    passes_more from at to a p h = record {
      items = p.items ++ a ∷ [];
      are = more_are p.items from
          at to a p.are h;
      within = h.within;
    }

  -- bytes that are all of some things, and the first of them
  module _ (b : List ℕ) (m : Many A B) (all : many turn b ≡ whole m (length b)) where
    here : (t : Turn A B) (to : ℕ) → IsWhole turn b 0 t to → turn b ≡ whole t to
    here t to h =
        let w = further_whole 0 (turn (b ++ [])) t to (h.stands []) in
        let size : w.0 ≡ to = omega (arith, w.2) in
        ap turn (sym (append-nil b)) ∙ w.1 ∙ ap (whole t) size

    pub all_stop : (e : B) (to : ℕ) → IsWhole turn b 0 (stop e) to → m
        ≡ record { items = []; last = e }
    all_stop e to h = let one = many_stop b e to (here (stop e) to h) in cc

    seen_whole : {C D : Type 0} (see : C → D) (v : Front C RecordFault) (d : D) (n : ℕ)
        → seen see (λ r. r) v ≡ whole d n → (c : C) × (v ≡ whole c n) × (see c ≡ d)
    seen_whole see begun d n e = cc
    seen_whole see (whole c k) d n e = let size : k ≡ n = cc in let same : see c
        ≡ d = cc in (c, ap (whole c) size, same)
    seen_whole see (wrong r k) d n e = cc

    pub all_more : (a : A) (to : ℕ) → IsWhole turn b 0 (more a) to → (rest : Many A B)
        × (many turn (drop to b) ≡ whole rest (length (drop to b))) × (m ≡ with_first a rest)
    all_more a to h =
        let f = further_whole to (seen (with_first a) (λ r. r) (many turn (drop to b))) m (length b)
        (sym (many_more b a to (here (more a) to h)) ∙ all) in
        let rest = seen_whole (with_first a) (many turn (drop to b)) m f.0 f.1 in
        let size : f.0 ≡ length (drop to b) = omega (arith, f.2, length-drop to b) in
        (rest.0, rest.1 ∙ ap (whole rest.0) size, sym rest.2)

    pub never_stops : {asked : List ℕ → ℕ → Type 0} (s : Stop) → Stops turn asked b 0 s → ⊥
    never_stops {asked} (Fault fault shown_by) h =
        let w = further_wrong 0 (turn (b ++ [])) fault shown_by (h.why.stands []) in
        let one = many_wrong b fault w.0 (ap turn (sym (append-nil b)) ∙ w.1) in cc
    never_stops {asked} (More wants) h =
        let above = h.why.above in
        let none = further_begun 0 (turn (b ++ []))
        (h.why.begins [] (omega (arith, length-append b [], above))) in
        let one = many_begun b (ap turn (sym (append-nil b)) ∙ none) in cc

-- more bytes behind them change nothing
module _ {A B : Type 0} (turn : Reader (Turn A B) RecordFault) where
  more_follow : {C : Type 0} (reader : Reader C RecordFault) (bytes c : List ℕ) (from : ℕ) (t : C)
      (to : ℕ) → IsWhole reader bytes from t to → IsWhole reader (bytes ++ c) from t to
  more_follow reader bytes c from t to h = record {
    after = h.after;
    within = omega (arith, h.within, length-append bytes c);
    stands = λ d. ap (read_from from reader) (append_assoc bytes c d) ∙ h.stands (c ++ d);
  }

  pub are_kept : (items : List A) (bytes c : List ℕ) (from to : ℕ) → AreMore turn bytes from items
      to → AreMore turn (bytes ++ c) from items to
  are_kept [] bytes c from to are = are
  are_kept (a ∷ items) bytes c from to (mid, lt, first, others) = (
    mid,
    lt,
    more_follow turn bytes c from (more a) mid first,
    are_kept items bytes c mid to
        others,
  )

  pub passes_kept : (bytes c : List ℕ) (from to : ℕ) → Passes turn bytes from to
      → Passes turn (bytes ++ c) from to
  passes_kept bytes c from to p = record {
    items = p.items;
    are = are_kept p.items bytes c from to
        p.are;
    within = omega (arith, p.within, length-append bytes c);
  }
