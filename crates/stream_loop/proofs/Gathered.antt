-- What is written of what was gathered: all, or first bytes of it, a part at a time.
use Rattle.std.proofs.Common.{◌≡◌, ℕ, ◌+◌, ◌-◌, ◌<◌, ◌≤◌, List, [], ◌∷◌, ◌++◌, length, take}
use Rattle.std.proofs.Common.{drop, Some, Ok, Err, sym, refl, ap, ◌∙◌, subst, inl}
use Rattle.std.proofs.Common.{inr, append_assoc, append-nil, arith, take-append-drop, take_all}
use Rattle.std.proofs.Math.Seq.{take-add, take-append-add, take-nil}
use Rattle.std.proofs.lemmas.{Bool.cases_lt, List.take-append-le}
use Rattle.io_edges.proofs.Putting.{Puts-then}
use Rattle.io_edges.specs.{declared.SinkFault.SinkFault, Flow.GrowsByPrefix, Flow.Told}
use Rattle.unit_streams.proofs.Telling.{state_append, state_one, told_append, told_one}
use Rattle.unit_streams.specs.Tellers.{state_behind, Teller, told_along}
use Rattle.stream_loop.specs.declared.outbound.Outbound.TheVariants.{Done, WriteFault}
use Rattle.stream_loop.specs.Gathering.{CutsAt, IsGathering}
use Rattle.stream_loop.specs.Writing.{HasStopped, IsWriting, outbound_of, PutsParts}
use Rattle.stream_loop.proofs.{Counts.counts_as, Writing.known_told, Writing.told_some}
use Rattle.stream_loop.proofs.Grown.{all_written, cut_written, Grew, grew_more}
use Rattle.io_edges.specs.{Puts.Puts, Views.HoldsNothing, Views.SinkView}
use Rattle.io_edges.specs.declared.SinkFault.TheVariants as sinks

-- the fault of a failed put, and of the writing
fault_counts : (fault : SinkFault) → outbound_of fault ≡ WriteFault → fault ≡ sinks.Failed
fault_counts sinks.Failed is = refl
fault_counts sinks.Memory is = cc

never_done : (fault : SinkFault) → outbound_of fault ≡ Done → ⊥
never_done sinks.Failed is = cc
never_done sinks.Memory is = cc

-- a put that failed and took nothing, where nothing is held
nothing_more : (fault : SinkFault) (old new : SinkView) → Puts old new [] (Err fault) → old.held
    ≡ []
    → (w : List ℕ) → old.written ≡ Some w → (w' : List ℕ) × (new.written ≡ Some w') × (w' ≡ w)
nothing_more fault old new puts none w is =
    let k = cut_written fault old new [] puts w is in (
      k.0,
      k.1,
      k.2.grown ∙ ap (λ l. w ++ take k.2.kept (l ++ [])) none
          ∙ ap (λ l. w ++ l) (take-nil k.2.kept) ∙ append-nil w,
    )

module _ (bytes : List ℕ) (at : ℕ) (first old : SinkView)
    (so_far : Puts first old (take at bytes) (Ok tt)) where
  exactly : HoldsNothing first → (w : List ℕ) → first.written ≡ Some w
      → (w' : List ℕ) × (old.written ≡ Some w') × (w' ≡ w ++ take at bytes)
  exactly plain w is =
      let k = all_written first old (take at bytes) so_far (so_far.unheld plain) w is in (
        k.0,
        k.1,
        k.2 ∙ ap (λ l. w ++ l ++ take at bytes) plain.1
            ∙ ap (λ l. l ++ take at bytes) (append-nil w),
      )

  pub parts_done : length bytes ≤ at → at ≤ length bytes → PutsParts bytes first old at Done
  parts_done over within = record {
    answer = Ok tt;
    outbound_is = refl;
    puts = so_far;
    exact = λ plain. known_told (λ w w'. w' ≡ w ++ take at bytes) first.written old.written
        (exactly plain);
    within = within;
    all = λ is. omega (arith, over, within);
    short = λ never. absurd (never refl);
  }

  pub parts_failed : (fault : SinkFault) (new : SinkView) → Puts old new [] (Err fault)
      → at < length bytes
      → PutsParts bytes first new at (outbound_of fault)
  parts_failed fault new failed short = record {
    answer = Err fault;
    outbound_is = refl;
    puts = subst (λ l. Puts first new l (Err fault)) (append-nil (take at bytes))
        (Puts-then _ so_far failed);
    exact = λ plain. known_told (λ w w'. w' ≡ w ++ take at bytes) first.written new.written
        (λ w is. let k = exactly plain w is in
        let l = nothing_more fault old new failed (so_far.unheld plain) k.0 k.1 in
        (l.0, l.1, l.2 ∙ k.2));
    within = omega (arith, short);
    all = λ is. absurd (never_done fault is);
    short = λ never. short;
  }

  pub parts_more : (n : ℕ) (new : SinkView) → Puts old new (take n (drop at bytes)) (Ok tt)
      → Puts first new (take (at + n) bytes) (Ok tt)
  parts_more n new puts =
      subst (λ l. Puts first new l (Ok tt)) (sym (take-add at n bytes))
      (Puts-then _ so_far puts)

module _ {S E R : Type 0} (t : Teller S E R) (first : SinkView) where
  abbrev told : List E → List ℕ
  told events = told_along t t.start events

  abbrev left_by : List E → S
  left_by events = state_behind t t.start events

  -- nothing is gathered
  pub gathers_none : (events : List E) (s : S) (Left : ℕ → S → Type 0) (now : SinkView)
      → IsWriting t first events s now
      → IsGathering t first events s Left [] now
  gathers_none events s Left now h = record {
    put = told events;
    puts = h.puts;
    split = sym (append-nil (told events));
    state_is = h.state_is;
    cuts = λ n below. absurd (omega (arith, below));
  }

  pub none_gathered : (events : List E) (s : S) (Left : ℕ → S → Type 0) (now : SinkView)
      → IsGathering t first events s Left [] now
      → IsWriting t first events s now
  none_gathered events s Left now h = record {
    puts = subst (λ l. Puts first now l (Ok tt)) (sym (h.split ∙ append-nil h.put)) h.puts;
    state_is = h.state_is;
  }

  module _ (events : List E) (s : S) (Left : ℕ → S → Type 0) (gathered : List ℕ) (old : SinkView)
      (so_far : IsGathering t first events s Left gathered old)
    where
      -- what is due for one event more is gathered
      pub gathers_more : (e : E) (bytes : List ℕ) (s' : S) (Left' : ℕ → S → Type 0)
          → bytes ≡ t.told s e → s' ≡ t.next s e
          → ((n : ℕ) (z : S) → n < length gathered → Left n z → Left' n z)
          → ((n : ℕ) → length gathered ≤ n → n < length (gathered ++ bytes) → Left' n s)
          → IsGathering t first (events ++ e ∷ []) s' Left'
          (gathered ++ bytes) old
      gathers_more e bytes s' Left' told_is next_is earlier here = record {
        put = so_far.put;
        puts = so_far.puts;
        split = told_append t events (e ∷ []) t.start
            ∙ ap (λ l. told events ++ l) (told_one t e (left_by events) ∙ sym due)
            ∙ ap (λ l. l ++ bytes) so_far.split ∙ append_assoc so_far.put gathered bytes;
        state_is = next_is ∙ ap (λ z. t.next z e) so_far.state_is
            ∙ sym (state_one t e (left_by events)) ∙ sym (state_append t events (e ∷ []) t.start);
        cuts = λ n short. elim (cases_lt n (length gathered)) [
          | inl below ↦ before n below
          | inr beyond ↦ within n beyond short
        ];
      } where
        due : bytes ≡ t.told (left_by events) e
        due = told_is ∙ ap (λ z. t.told z e) so_far.state_is

        before : (n : ℕ) → n < length gathered
            → CutsAt t so_far.put (gathered ++ bytes) (events ++ e ∷ []) (Left' n) n
        before n below =
            let c = so_far.cuts n below in
            record {
              done = c.done;
              next = c.next;
              rest = c.rest ++ e ∷ [];
              joined = ap (λ l. l ++ e ∷ []) c.joined
                  ∙ append_assoc c.done (c.next ∷ c.rest) (e ∷ []);
              left = earlier n (left_by c.done) below c.left;
              kept = c.kept;
              bytes = ap (λ l. so_far.put ++ l)
                  (take-append-le n gathered bytes (omega (arith, below))) ∙ c.bytes;
            }

        within : (n : ℕ) → length gathered ≤ n → n < length (gathered ++ bytes)
            → CutsAt t so_far.put (gathered ++ bytes) (events ++ e ∷ []) (Left' n) n
        within n beyond short =
            let k : ℕ = n - length gathered in
            let sum : n ≡ length gathered + k = omega (arith, beyond) in
            record {
              done = events;
              next = e;
              rest = [];
              joined = refl;
              left = subst (Left' n) so_far.state_is (here n beyond short);
              kept = k;
              bytes = ap (λ m. so_far.put ++ take m (gathered ++ bytes)) sum
                  ∙ ap (λ l. so_far.put ++ l) (take-append-add gathered bytes k)
                  ∙ sym (append_assoc so_far.put gathered (take k bytes))
                  ∙ ap (λ l. l ++ take k bytes) (sym so_far.split)
                  ∙ ap (λ l. told events ++ take k l) due;
            }

      -- all of it is put
      pub gathered_put : (n : ℕ) (s' : S) (Left' : ℕ → S → Type 0) (new : SinkView)
          → n ≡ length gathered → Puts old new (take n gathered) (Ok tt) → s' ≡ s
          → IsGathering t first events s' Left' [] new
      gathered_put n s' Left' new all puts same = record {
        put = so_far.put ++ gathered;
        puts = Puts-then _ so_far.puts (subst (λ l. Puts old new l (Ok tt))
            (take_all n gathered (omega (arith, all))) puts);
        split = so_far.split ∙ sym (append-nil (so_far.put ++ gathered));
        state_is = same ∙ so_far.state_is;
        cuts = λ n below. absurd (omega (arith, below));
      }

      -- or first bytes of it, and the writing ended
      module _ (fault : SinkFault) (n : ℕ) (new : SinkView) (short : n < length gathered)
          (failed : Puts old new (take n gathered) (Err fault))
          (exact : HoldsNothing old → Told old.written new.written
          (λ w w'. w' ≡ w ++ take n gathered)) where
        abbrev c : CutsAt t so_far.put gathered events (Left n) n
        c = so_far.cuts n short

        abbrev due : List ℕ
        due = t.told (left_by c.done) c.next

        abbrev all_failed : Puts first new (so_far.put ++ take n gathered) (Err fault)
        all_failed = Puts-then _ so_far.puts failed

        front : (told c.done ++ take c.kept due) ++ drop c.kept due ≡ told c.done ++ due
        front = append_assoc (told c.done) (take c.kept due) (drop c.kept due)
            ∙ ap (λ l. told c.done ++ l) (take-append-drop c.kept due)

        whole : HoldsNothing first → (w : List ℕ) → first.written ≡ Some w
            → (w' : List ℕ) × (new.written ≡ Some w')
            × GrowsByPrefix (w ++ first.held ++ told c.done) w' due
        whole plain w is =
            let k = all_written first old so_far.put so_far.puts (so_far.puts.unheld plain) w is in
            let l = told_some (λ w w'. w' ≡ w ++ take n gathered) old.written new.written k.0
            k.1 (exact (so_far.puts.same_holding ∙ plain.0, so_far.puts.unheld plain)) in (
              l.0,
              l.1,
              record {
                kept = c.kept;
                grown = l.2 ∙ ap (λ l. l ++ take n gathered) k.2
                    ∙ append_assoc (w ++ first.held) so_far.put (take n gathered)
                    ∙ ap (λ l. (w ++ first.held) ++ l) c.bytes
                    ∙ sym (append_assoc (w ++ first.held) (told c.done) (take c.kept due));
              },
            )

        pub gathered_cut : (Stopped : S → Type 0) → ((z : S) → Left n z → Stopped z)
            → HasStopped t (outbound_of fault) [] first events
            Stopped new
        gathered_cut Stopped still = record {
          done = c.done;
          rest = c.next ∷ c.rest;
          joined = c.joined;
          left = still _ c.left;
          grown = known_told (λ w w'. GrowsByPrefix w w' (first.held ++ (told c.done ++ due)))
              first.written new.written
              (subst (Grew first new) front
              (grew_more first new
              (told c.done ++ take c.kept due) (drop c.kept due)
              (subst (Grew first new) c.bytes
              (cut_written fault first new
              (so_far.put ++ take n gathered) all_failed))));
          whole = λ plain. known_told
              (λ w w'. GrowsByPrefix (w ++ first.held ++ told c.done) w' due) first.written
              new.written (whole plain);
          emptied = failed.dropped;
          counted = counts_as _ _ _ _ (λ e. cc) (λ e. ap Err (fault_counts fault e))
              all_failed.counted;
          memory = λ none is. cc;
        }
