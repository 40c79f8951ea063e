-- What was written of parts was written of the events for which they are due.
use Rattle.std.proofs.Common.{◌≡◌, ℕ, List, [], ◌∷◌, ◌++◌, sym, refl, ap, ◌∙◌, subst}
use Rattle.std.proofs.Common.{inl, inr, append-nil}
use Rattle.io_edges.specs.Flow.{GrowsByPrefix, Told}
use Rattle.unit_streams.specs.Tellers.{state_behind, Teller, told_along}
use Rattle.stream_loop.specs.declared.outbound.Outbound.{Outbound}
use Rattle.stream_loop.specs.declared.outbound.Outbound.TheVariants.{Done, Memory, WriteFault}
use Rattle.stream_loop.specs.Parts.{counting, Part, with_part}
use Rattle.stream_loop.specs.Writing.{due_next, HasStopped, Wrote}
use Rattle.io_edges.specs.Views.{SinkView}
use Rattle.stream_loop.specs.PartsDue.{AreDue, IsDue, IsQuiet}

head_of : Part → List Part → Part
head_of other [] = other
head_of other (one ∷ parts) = one

tail_of : List Part → List Part
tail_of [] = []
tail_of (one ∷ parts) = parts

module _ {S E R : Type 0} (t : Teller S E R) (count : S → ℕ) where
  abbrev Due' : S → List E → List Part → Type 0
  Due' = AreDue t count

  -- ---- one event more

  pub due_more : (s : S) (events : List E) (parts : List Part) (event : E) (one : Part)
      → Due' s events parts → IsDue t count (state_behind t s events) event one
      → Due' s (events ++ event ∷ []) (parts ++ one ∷ [])
  unfolding AreDue state_behind
  due_more s [] parts event one none due =
      inr (one, [], ap (λ l. l ++ one ∷ []) none, due, refl)
  due_more s (first ∷ events) parts event one (inl h) due =
      inl (h.0, due_more (t.next s first) events parts event one h.1 due)
  due_more s (first ∷ events) parts event one (inr h) due = inr (
    h.0,
    h.1 ++ one ∷ [],
    ap (λ l. l ++ one ∷ []) h.2,
    h.3,
    due_more (t.next s first) events h.1 event one h.4 due,
  )

  pub due_quietly : (s : S) (events : List E) (parts : List Part) (event : E)
      → Due' s events parts → IsQuiet t count (state_behind t s events) event
      → Due' s (events ++ event ∷ []) parts
  unfolding AreDue state_behind
  due_quietly s [] parts event none quiet = inl (quiet, none)
  due_quietly s (first ∷ events) parts event (inl h) quiet =
      inl (h.0, due_quietly (t.next s first) events parts event h.1 quiet)
  due_quietly s (first ∷ events) parts event (inr h) quiet =
      inr (h.0, h.1, h.2, h.3, due_quietly (t.next s first) events h.1 event h.4 quiet)

  -- ---- their bytes, and how many count

  told_due : (s : S) (events : List E) (parts : List Part) (n : ℕ) → Due' s events parts
      → told_along counting n parts ≡ told_along t s events
  unfolding AreDue told_along
  told_due s [] parts n none = ap (told_along counting n) none
  told_due s (event ∷ events) parts n (inl h) =
      told_due (t.next s event) events parts n h.1
      ∙ ap (λ l. l ++ told_along t (t.next s event) events) (sym h.0.0)
  told_due s (event ∷ events) parts n (inr h) =
      ap (told_along counting n) h.2
      ∙ ap (λ l. l ++ told_along counting (with_part n h.0) h.1) h.3.0
      ∙ ap (λ l. t.told s event ++ l)
      (told_due (t.next s event) events h.1 (with_part n h.0) h.4)

  count_due : (s : S) (events : List E) (parts : List Part) → Due' s events parts
      → state_behind counting (count s) parts ≡ count (state_behind t s events)
  unfolding AreDue state_behind
  count_due s [] parts none = ap (state_behind counting (count s)) none
  count_due s (event ∷ events) parts (inl h) =
      ap (λ (n : ℕ). state_behind counting n parts) (sym h.0.1)
      ∙ count_due (t.next s event) events parts h.1
  count_due s (event ∷ events) parts (inr h) =
      ap (state_behind counting (count s)) h.2
      ∙ ap (λ n. state_behind counting n h.1) h.3.1
      ∙ count_due (t.next s event) events h.1 h.4

  -- ---- what was written

  -- what is due for the first events are the first parts, where the writing stopped behind these
  record Split (s : S) (events : List E) (done rest : List Part) : Type 0 where
    first : List E
    others : List E
    joined : events ≡ first ++ others
    due : Due' s first done
    none : others ≡ [] → rest ≡ []
    next : (n : ℕ) (closing : List ℕ) → due_next counting n closing rest
        ≡ due_next t (state_behind t s first) closing others

  -- an event before them of which no part is
  behind_quiet : (s : S) (event : E) (events : List E) (done rest : List Part)
      → IsQuiet t count s event → Split (t.next s event) events done rest
      → Split s (event ∷ events) done rest
  unfolding AreDue state_behind
  behind_quiet s event events done rest quiet more = record {
    first = event ∷ more.first;
    others = more.others;
    joined = ap (λ l. event ∷ l) more.joined;
    due = inl (quiet, more.due);
    none = more.none;
    next = more.next;
  }

  split_at : (s : S) (events : List E) (done rest : List Part)
      → Due' s events (done ++ rest) → Split s events done rest
  unfolding AreDue state_behind head_of tail_of
  split_at s events [] [] due = record {
    first = events;
    others = [];
    joined = sym (append-nil events);
    due = due;
    none = λ e. refl;
    next = λ n closing. refl;
  }
  split_at s [] [] (one ∷ rest) due = cc
  split_at s [] (one ∷ done) rest due = cc
  split_at s (event ∷ events) [] (one ∷ rest) (inl h) = behind_quiet s event events [] (one ∷ rest)
      h.0 (split_at (t.next s event) events [] (one ∷ rest) h.1)
  split_at s (event ∷ events) [] (one ∷ rest) (inr h) = record {
    first = [];
    others = event ∷ events;
    joined = refl;
    due = refl;
    none = λ e. cc;
    next = λ n closing.
        ap (λ (l : List Part). (head_of one l).bytes) h.2 ∙ h.3.0;
  }
  split_at s (event ∷ events) (one ∷ done) rest (inl h) = behind_quiet s event events (one ∷ done)
      rest h.0 (split_at (t.next s event) events (one ∷ done) rest h.1)
  split_at s (event ∷ events) (one ∷ done) rest (inr h) =
      let same = ap (head_of one) h.2 in
      let more = split_at (t.next s event) events done rest
      (subst (Due' (t.next s event) events) (sym (ap tail_of h.2)) h.4) in
      record {
        first = event ∷ more.first;
        others = more.others;
        joined = ap (λ l. event ∷ l) more.joined;
        due = inr (one, done, refl, subst (IsDue t count s event) (sym same) h.3, more.due);
        none = more.none;
        next = more.next;
      }

  module _ (none : count t.start ≡ 0) (first now : SinkView) (events : List E) (parts : List Part)
      (due : Due' t.start events parts) (whole : ℕ) (closing : List ℕ) where
    counted_is : (first : List E) (done : List Part) → Due' t.start first done
        → state_behind counting 0 done ≡ count (state_behind t t.start first)
    counted_is first done due =
        ap (λ n. state_behind counting n done) (sym none) ∙ count_due t.start first done due

    stopped_so : (o : Outbound)
        → HasStopped counting o closing first parts (λ n. whole ≡ n) now
        → HasStopped t o closing first events (λ s. whole ≡ count s) now
    stopped_so o h =
        let k = split_at t.start events h.done h.rest (subst (Due' t.start events) h.joined due) in
        let told = told_due t.start k.first h.done 0 k.due in
        let next = k.next (state_behind counting 0 h.done) closing in
        record {
          done = k.first;
          rest = k.others;
          joined = k.joined;
          left = h.left ∙ counted_is k.first h.done k.due;
          grown = subst (λ (l : List ℕ). Told first.written now.written (λ w w'.
              GrowsByPrefix w w' (first.held ++ (l ++ due_next
              t (state_behind t t.start k.first) closing k.others))))
              told
              (subst (λ (l : List ℕ). Told first.written now.written (λ w w'.
              GrowsByPrefix w w' (first.held ++ (told_along counting 0 h.done ++ l)))) next
              h.grown);
          whole = λ plain. subst (λ (l : List ℕ). Told first.written now.written (λ w w'.
              GrowsByPrefix (w ++ first.held ++ l) w' (due_next
              t (state_behind t t.start k.first) closing k.others)))
              told
              (subst (λ (l : List ℕ). Told first.written now.written (λ w w'.
              GrowsByPrefix (w ++ first.held ++ told_along counting 0 h.done) w' l)) next
              (h.whole plain));
          emptied = h.emptied;
          counted = h.counted;
          memory = λ last. h.memory (k.none last);
        }

    pub wrote_so : (o : Outbound)
        → Wrote counting o closing first parts (λ n. whole ≡ n) now
        → Wrote t o closing first events (λ s. whole ≡ count s) now
    wrote_so Done h = record {
      puts = rw (sym (told_due t.start events parts 0 due)) h.puts;
      left = h.left ∙ counted_is events parts due;
      emptied = h.emptied;
    }
    wrote_so WriteFault h = stopped_so WriteFault h
    wrote_so Memory h = stopped_so Memory h
