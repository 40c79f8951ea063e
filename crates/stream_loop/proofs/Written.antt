-- What is written of one event more, of none, and of a closing.
use Rattle.std.proofs.Common.{◌≡◌, ℕ, true, ◌⊎◌, List, [], ◌∷◌, ◌++◌, Some, Ok, Err}
use Rattle.std.proofs.Common.{Result, sym, refl, ap, ◌∙◌, subst, inl, inr, append_assoc, append-nil}
use Rattle.io_edges.proofs.Putting.{Puts-nothing, Puts-then}
use Rattle.io_edges.specs.{declared.SinkFault.SinkFault, Flow.GrowsByPrefix}
use Rattle.unit_streams.proofs.Telling.{state_append, state_one, told_append, told_one}
use Rattle.unit_streams.specs.Tellers.{state_behind, Teller, told_along}
use Rattle.stream_loop.{specs.declared.outbound.Outbound.Outbound, proofs.Counts.ends_counted}
use Rattle.stream_loop.specs.declared.outbound.Outbound.TheVariants.{Done, Memory, WriteFault}
use Rattle.stream_loop.specs.Writing.{due_next, Goes, HasStopped, IsCut, IsWriting, outbound_by}
use Rattle.stream_loop.specs.Writing.{outbound_of, Writes, Wrote}
use Rattle.stream_loop.proofs.Grown.{all_written, cut_behind, cut_grew, ends_empty, ends_grew}
use Rattle.stream_loop.proofs.Writing.{grown_within, known_told, told_as}
use Rattle.io_edges.specs.{Puts.Puts, Views.HoldsNothing, Views.SinkView}
use Rattle.io_edges.specs.declared.SinkFault.TheVariants as sinks

-- the sink is out of memory
pub out_of_memory : (fault : SinkFault) → outbound_of fault ≡ Memory → fault ≡ sinks.Memory
out_of_memory sinks.Failed is = cc
out_of_memory sinks.Memory is = refl

-- a put that failed
pub cut_of : (fault : SinkFault) (next bytes : List ℕ) (old new : SinkView)
    → Puts old new bytes (Err fault)
    → (bytes ≡ []) ⊎ (bytes ≡ next)
    → IsCut (outbound_of fault) next old new
cut_of sinks.Failed next bytes old new puts front =
    record { bytes = bytes; front = front; ends = puts }
cut_of sinks.Memory next bytes old new puts front =
    record { bytes = bytes; front = front; ends = inl puts }

pub goes_of : (fault : SinkFault) (bytes : List ℕ) (old new : SinkView)
    → Puts old new bytes (Err fault)
    → Goes (outbound_of fault) bytes old new
goes_of sinks.Failed bytes old new puts = cut_of sinks.Failed bytes bytes old new puts (inr refl)
goes_of sinks.Memory bytes old new puts = cut_of sinks.Memory bytes bytes old new puts (inr refl)

-- there was no memory
pub cut_starved : (next : List ℕ) (old new : SinkView) → Puts old new [] (Ok tt) → new.held ≡ []
    → IsCut Memory next old new
cut_starved next old new puts emptied =
    record { bytes = []; front = inl refl; ends = inr (puts, refl, emptied) }

-- a flush that was answered so
pub goes_by : (answer : Result (Unit {0}) SinkFault) (bytes : List ℕ) (old new : SinkView)
    → Puts old new bytes answer
    → Goes (outbound_by answer) bytes old new
goes_by (Ok u) bytes old new puts = puts
goes_by (Err fault) bytes old new puts = goes_of fault bytes old new puts

-- a sink that is out of memory says that it may be
pub memory_by : (answer : Result (Unit {0}) SinkFault) (bytes : List ℕ) (old new : SinkView)
    → Puts old new bytes answer → outbound_by answer ≡ Memory
    → old.may_run_out ≡ true
memory_by (Ok u) bytes old new puts is = cc
memory_by (Err sinks.Failed) bytes old new puts is = cc
memory_by (Err sinks.Memory) bytes old new puts is = puts.memory refl

pub done_well : (answer : Result (Unit {0}) SinkFault) (o : Outbound) (bytes : List ℕ)
    (old new : SinkView)
    → o ≡ outbound_by answer → o ≡ Done
    → Puts old new bytes answer
    → Puts old new bytes (Ok tt)
done_well (Ok u) o bytes old new is done puts = puts
done_well (Err sinks.Failed) o bytes old new is done puts = cc
done_well (Err sinks.Memory) o bytes old new is done puts = cc

-- one more follows
more_follow : {E : Type 0} (rest : List E) (e : E) → rest ++ e ∷ [] ≡ [] → ⊥
more_follow [] e none = cc
more_follow (one ∷ rest) e none = cc

module _ {S E R : Type 0} (t : Teller S E R) (first : SinkView) where
  abbrev told : List E → List ℕ
  told events = told_along t t.start events

  abbrev left_by : List E → S
  left_by events = state_behind t t.start events

  abbrev next_of : (done : List E) → (closing : List ℕ) → (rest : List E) → List ℕ
  next_of done closing rest =
      due_next t (left_by done) closing rest

  -- what is due for the first events was put, and the writing ended so at what was due next
  stopped_at : (o : Outbound) (closing : List ℕ) (events done rest : List E)
      (Left : S → Type 0) (mid now : SinkView) → events ≡ done ++ rest
      → Puts first mid (told done) (Ok tt) → IsCut o (next_of done closing rest) mid now
      → Left (left_by done) → (rest ≡ [] → o ≡ Memory → first.may_run_out ≡ true)
      → HasStopped t o closing first events Left now
  stopped_at o closing events done rest Left mid now joined puts cut left memory = record {
    done = done;
    rest = rest;
    joined = joined;
    left = left;
    grown = known_told (λ w w'. GrowsByPrefix w w' (first.held
        ++ (told done ++ next_of done closing rest))) first.written now.written
        (cut_behind (next_of done closing rest) (told done) first
        now cut.bytes cut.front (ends_grew o first mid now
        (told done) cut.bytes puts cut.ends));
    whole = λ plain. known_told (λ w w'. GrowsByPrefix (w ++ first.held ++ told done) w'
        (next_of done closing rest)) first.written now.written (whole plain);
    emptied = ends_empty o mid now cut.bytes cut.ends;
    counted = ends_counted o (told done) cut.bytes first mid now puts cut.ends;
    memory = memory;
  } where
    whole : HoldsNothing first → (w : List ℕ) → first.written ≡ Some w
        → (w' : List ℕ) × (now.written ≡ Some w')
        × GrowsByPrefix (w ++ first.held ++ told done) w' (next_of done closing rest)
    whole plain w is =
        let k = all_written first mid (told done) puts (puts.unheld plain)
        w is in
        let l = cut_grew o (next_of done closing rest) mid now cut
        k.0 k.1 in (
          l.0,
          l.1,
          subst (λ before. GrowsByPrefix before l.0 (next_of done closing rest)) k.2
              (subst (λ h. GrowsByPrefix k.0 l.0 (h ++ next_of done closing rest))
              (puts.unheld plain)
              l.2),
        )

  -- where more may follow, that is due next
  module _ (o : Outbound) (closing closing' : List ℕ) (events rest' : List E)
      (Left : S → Type 0) (now : SinkView)
      (h : HasStopped t o closing first events Left now) where
    abbrev due : List ℕ
    due = next_of h.done closing h.rest

    abbrev due' : List ℕ
    due' = next_of h.done closing' rest'

    all_due : (more : List ℕ) → due' ≡ due ++ more
        → (first.held ++ (told h.done ++ due)) ++ more ≡ first.held ++ (told h.done ++ due')
    all_due more is = append_assoc first.held (told h.done ++ due) more
        ∙ ap (λ l. first.held ++ l) (append_assoc (told h.done) due more
        ∙ ap (λ l. told h.done ++ l) (sym is))

    stopped_so : (events' : List E) (Still : S → Type 0) → events' ≡ h.done ++ rest'
        → (more : List ℕ) → due' ≡ due ++ more → ((s : S) → Left s → Still s)
        → (rest' ≡ [] → o ≡ Memory → first.may_run_out ≡ true)
        → HasStopped t o closing' first events' Still now
    stopped_so events' Still joined more is still memory = record {
      done = h.done;
      rest = rest';
      joined = joined;
      left = still _ h.left;
      grown = told_as (λ w w'. GrowsByPrefix w w' (first.held ++ (told h.done ++ due)))
          (λ w w'. GrowsByPrefix w w' (first.held ++ (told h.done ++ due'))) first.written
          now.written h.grown (λ w w' g. subst (GrowsByPrefix w w') (all_due more is)
          (grown_within w w' (first.held ++ (told h.done ++ due)) more g));
      whole = λ plain. told_as (λ w w'. GrowsByPrefix (w ++ first.held ++ told h.done) w' due)
          (λ w w'. GrowsByPrefix (w ++ first.held ++ told h.done) w' due')
          first.written now.written (h.whole plain)
          (λ w w' g. subst (GrowsByPrefix (w ++ first.held ++ told h.done) w') (sym is)
          (grown_within (w ++ first.held ++ told h.done) w' due more g));
      emptied = h.emptied;
      counted = h.counted;
      memory = memory;
    }

  -- before the first event
  pub begins : IsWriting t first [] t.start first
  unfolding told_along state_behind
  begins = record { puts = Puts-nothing _; state_is = refl }

  module _ (events : List E) (s : S) (old : SinkView)
      (so_far : IsWriting t first events s old) where
    told_more : (e : E) → told events ++ t.told s e ≡ told (events ++ e ∷ [])
    told_more e =
        ap (λ z. told events ++ t.told z e) so_far.state_is
        ∙ ap (λ l. told events ++ l) (sym (told_one t e (left_by events)))
        ∙ sym (told_append t events (e ∷ []) t.start)

    -- what the sink said before
    first_may_run_out : old.may_run_out ≡ true → first.may_run_out ≡ true
    first_may_run_out may = sym so_far.puts.same_memory ∙ may

    state_more : (e : E) → t.next s e ≡ left_by (events ++ e ∷ [])
    state_more e =
        ap (λ z. t.next z e) so_far.state_is ∙ sym (state_one t e (left_by events))
        ∙ sym (state_append t events (e ∷ []) t.start)

    -- one event more
    pub goes_on : (e : E) (s' : S) (new : SinkView)
        → Puts old new (t.told s e) (Ok tt) → s' ≡ t.next s e
        → IsWriting t first (events ++ e ∷ []) s' new
    goes_on e s' new puts is = record {
      puts = subst (λ l. Puts first new l (Ok tt)) (told_more e) (Puts-then _ so_far.puts puts);
      state_is = is ∙ state_more e;
    }

    -- the writing ends at it
    pub stops : (o : Outbound) (e : E) (Left : S → Type 0) (new : SinkView)
        → IsCut o (t.told s e) old new → Left s
        → HasStopped t o [] first (events ++ e ∷ []) Left new
    stops o e Left new cut left =
        stopped_at o [] (events ++ e ∷ []) events (e ∷ []) Left old new refl so_far.puts
        (subst (λ z. IsCut o (t.told z e) old new) so_far.state_is cut)
        (subst Left so_far.state_is left) (λ none is. cc)

    -- or before the next one
    pub stops_between : (o : Outbound) (Left : S → Type 0) (new : SinkView)
        → IsCut o [] old new → (o ≡ Memory → old.may_run_out ≡ true)
        → Left s → HasStopped t o [] first events Left new
    stops_between o Left new cut memory left =
        stopped_at o [] events events [] Left old new (sym (append-nil events)) so_far.puts cut
        (subst Left so_far.state_is left) (λ none is. first_may_run_out (memory is))

    -- however it goes at an event
    pub steps : (o : Outbound) (e : E) (s' : S) (Left : S → Type 0) (new : SinkView)
        → Goes o (t.told s e) old new → (o ≡ Done → s' ≡ t.next s e)
        → ((o ≡ Done → ⊥) → Left s)
        → Writes t o first (events ++ e ∷ []) s' Left new
    steps Done e s' Left new goes next left = goes_on e s' new goes (next refl)
    steps WriteFault e s' Left new goes next left =
        stops WriteFault e Left new goes (left (λ e. cc))
    steps Memory e s' Left new goes next left = stops Memory e Left new goes (left (λ e. cc))

    -- or at none
    pub pauses : (o : Outbound) (Left : S → Type 0) (new : SinkView)
        → Goes o [] old new → (o ≡ Memory → old.may_run_out ≡ true)
        → Left s → Writes t o first events s Left new
    pauses Done Left new goes memory left = record {
      puts = subst (λ l. Puts first new l (Ok tt)) (append-nil (told events))
          (Puts-then _ so_far.puts goes);
      state_is = so_far.state_is;
    }
    pauses WriteFault Left new goes memory left =
        stops_between WriteFault Left new goes memory left
    pauses Memory Left new goes memory left = stops_between Memory Left new goes memory left

    -- a closing is put, and then what is held is written
    pub closes : (closing : List ℕ) (Left : S → Type 0) (mid new : SinkView)
        (answer : Result (Unit {0}) SinkFault)
        → Puts old mid closing (Ok tt)
        → Puts mid new [] answer → new.held ≡ [] → Left s
        → Wrote t (outbound_by answer) closing first events Left new
    closes closing Left mid new answer puts flushed emptied left = by answer flushed where
      all_left : Left (left_by events)
      all_left = subst Left so_far.state_is left

      -- what is held isn't written
      all_failed : (fault : SinkFault) → Puts mid new [] (Err fault)
          → Puts old new closing (Err fault)
      all_failed fault failed =
          subst (λ l. Puts old new l (Err fault)) (append-nil closing)
          (Puts-then _ puts failed)

      stopped : (fault : SinkFault) → Puts old new closing (Err fault)
          → HasStopped t (outbound_of fault) closing first events
          Left new
      stopped fault failed =
          stopped_at (outbound_of fault) closing events events [] Left old new
          (sym (append-nil events)) so_far.puts
          (cut_of fault closing closing old new failed (inr refl)) all_left
          (λ none is. first_may_run_out (memory_by (Err fault) closing old new failed is))

      by : (answer : Result (Unit {0}) SinkFault) → Puts mid new [] answer
          → Wrote t (outbound_by answer) closing first events Left
          new
      by (Ok u) goes = record {
        puts = subst (λ l. Puts first new l (Ok tt)) (append-nil (told events ++ closing))
            (Puts-then _ (Puts-then _ so_far.puts puts) goes);
        left = all_left;
        emptied = emptied;
      }
      by (Err sinks.Failed) failed =
          stopped sinks.Failed (all_failed sinks.Failed failed)
      by (Err sinks.Memory) failed =
          stopped sinks.Memory (all_failed sinks.Memory failed)

    -- or the writing ends at the closing
    pub stops_last : (o : Outbound) (closing : List ℕ) (Left : S → Type 0) (new : SinkView)
        → (o ≡ Done → ⊥) → Goes o closing old new
        → (o ≡ Memory → old.may_run_out ≡ true) → Left s
        → Wrote t o closing first events Left new
    stops_last o closing Left new never goes memory left = by o never goes memory where
      stopped : (o : Outbound) → IsCut o closing old new → (o ≡ Memory → old.may_run_out ≡ true)
          → HasStopped t o closing first events Left new
      stopped o cut memory =
          stopped_at o closing events events [] Left old new (sym (append-nil events))
          so_far.puts cut (subst Left so_far.state_is left)
          (λ none is. first_may_run_out (memory is))

      by : (o : Outbound) → (o ≡ Done → ⊥) → Goes o closing old new
          → (o ≡ Memory → old.may_run_out ≡ true)
          → Wrote t o closing first events Left new
      by Done never goes memory = absurd (never refl)
      by WriteFault never goes memory = stopped WriteFault goes memory
      by Memory never goes memory = stopped Memory goes memory

  -- where the writing has ended, an event more changes nothing
  module _ (events : List E) (now : SinkView) where
    pub stays : (o : Outbound) (e : E) (Left Still : S → Type 0) → ((s : S) → Left s → Still s)
        → HasStopped t o [] first events Left now
        → HasStopped t o [] first (events ++ e ∷ []) Still now
    stays o e Left Still still h =
        let m = later h.rest in
        stopped_so o [] [] events (h.rest ++ e ∷ []) Left now h (events ++ e ∷ []) Still
        (ap (λ l. l ++ e ∷ []) h.joined ∙ append_assoc h.done h.rest (e ∷ [])) m.0 m.1 still
        (λ none is. absurd (more_follow h.rest e none)) where
          later : (rest : List E) → (more : List ℕ)
              × (next_of h.done [] (rest ++ e ∷ []) ≡ next_of h.done [] rest ++ more)
          later [] = (t.told (left_by h.done) e, refl)
          later (one ∷ rest) = ([], sym (append-nil (t.told (left_by h.done) one)))

    pub stays_so : (o : Outbound) (e : E) (s s' : S) (Left Still : S → Type 0) → (o ≡ Done → ⊥)
        → ((s : S) → Left s → Still s)
        → Writes t o first events s Left now
        → Writes t o first (events ++ e ∷ []) s' Still now
    stays_so Done e s s' Left Still never still h = absurd (never refl)
    stays_so WriteFault e s s' Left Still never still h = stays WriteFault e Left Still still h
    stays_so Memory e s s' Left Still never still h = stays Memory e Left Still still h

    -- nor does a closing
    pub stays_closed : (o : Outbound) (closing : List ℕ) (s : S) (Left : S → Type 0)
        → (o ≡ Done → ⊥) → Writes t o first events s Left now
        → Wrote t o closing first events Left now
    stays_closed o closing s Left never h = by o never h where
      stopped : (o : Outbound) → HasStopped t o [] first events Left now
          → HasStopped t o closing first events Left now
      stopped o h =
          let m = later h.rest in
          stopped_so o [] closing events h.rest Left now h events Left h.joined m.0 m.1
          (λ s left. left) h.memory where
            later : (rest : List E) → (more : List ℕ)
                × (next_of h.done closing rest ≡ next_of h.done [] rest ++ more)
            later [] = (closing, refl)
            later (one ∷ rest) = ([], sym (append-nil (t.told (left_by h.done) one)))

      by : (o : Outbound) → (o ≡ Done → ⊥) → Writes t o first events s Left now
          → Wrote t o closing first events Left now
      by Done never h = absurd (never refl)
      by WriteFault never h = stopped WriteFault h
      by Memory never h = stopped Memory h
