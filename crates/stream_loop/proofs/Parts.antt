-- What a writer of parts has put and gathered, with one part more, with none, and when it closes.
use Rattle.std.proofs.Common.{◌≡◌, ℕ, ◌<◌, ◌≤◌, Bool, true, false, leb, List, [], ◌∷◌, ◌++◌}
use Rattle.std.proofs.Common.{length, take, Ok, Err, Result, sym, refl, ap, ◌∙◌, subst}
use Rattle.std.proofs.Common.{if◌then◌else◌, append-nil, arith, length-append, le-leb}
use Rattle.std.{specs.Prelude.⊤, proofs.Math.Seq.take-append_seam, proofs.lemmas.Bool.lt-leb}
use Rattle.io_edges.specs.{declared.SinkFault.SinkFault, Faults.one_more}
use Rattle.stream_loop.proofs.Within.{within_in, within_out}
use Rattle.stream_loop.proofs.Gathered.{gathered_cut, gathered_put, gathers_more, gathers_none}
use Rattle.stream_loop.proofs.Gathered.{none_gathered}
use Rattle.stream_loop.proofs.Written.{begins, closes, goes_by, pauses, stays, stays_closed, stops}
use Rattle.stream_loop.proofs.Written.{stops_last, memory_by}
use Rattle.stream_loop.specs.declared.{outbound.Outbound.Outbound, part_writer.PartWriter.PartWriter}
use Rattle.stream_loop.specs.declared.outbound.Outbound.TheVariants.{Done, Memory, WriteFault}
use Rattle.stream_loop.specs.Gathering.{Gathers}
use Rattle.stream_loop.specs.Parts.{counting, ends_within, Part}
use Rattle.stream_loop.specs.PartsGiven.{HasTaken, IsFresh, MayWait, WasGiven, WasGivenMore}
use Rattle.stream_loop.specs.Writing.{Goes, IsCut, IsWriting, outbound_by, PutsParts}
use Rattle.stream_loop.specs.Writing.{Writes, Wrote}
use Rattle.io_edges.specs.Views.{SinkView}
use Rattle.io_edges.specs.Puts.{Puts}
use Rattle.io_edges.specs.declared.SinkFault.TheVariants as sinks

-- what was gathered before, without what came behind it
pub taken_back : (n : ℕ) (earlier more gathered : List ℕ) → length earlier ≡ n
    → gathered ≡ earlier ++ more → take n gathered ≡ earlier
taken_back n earlier more gathered long is =
    ap (take n) is ∙ ap (λ k. take k (earlier ++ more)) (sym long) ∙ take-append_seam earlier more

module _ (first : SinkView) where
  abbrev Taken' : List Part → Outbound → ℕ → List ℕ → List ℕ → SinkView → Type 0
  Taken' = HasTaken first

  -- before the first part
  none_taken : Taken' [] Done 0 [] [] first
  unfolding ends_within
  none_taken = record {
    gathers = gathers_none counting first [] 0
        (λ n count. 0 ≡ count) first (begins counting first);
    all_end = λ done n beyond. refl;
  }

  pub given_none : (writer : PartWriter) → IsFresh writer
      → WasGiven first [] writer first
  given_none writer fresh =
      rw (fresh.going, fresh.nothing, fresh.unmarked, fresh.none_whole) none_taken

  -- what was gathered is written, or has stopped, where nothing is gathered any more
  module _ (parts : List Part) (s : ℕ) (Left : ℕ → ℕ → Type 0) (Stopped : ℕ → Type 0) where
    as_writes : (o : Outbound) (now : SinkView)
        → Gathers counting o first parts s Left Stopped [] now
        → Writes counting o first parts s Stopped now
    as_writes Done now h =
        none_gathered counting first parts s Left now h
    as_writes WriteFault now h = h
    as_writes Memory now h = h

    as_gathers : (o : Outbound) (now : SinkView)
        → Writes counting o first parts s Stopped now
        → Gathers counting o first parts s Left Stopped [] now
    as_gathers Done now h =
        gathers_none counting first parts s Left now h
    as_gathers WriteFault now h = h
    as_gathers Memory now h = h

    stopped_writes : (o : Outbound) (gathered : List ℕ) (now : SinkView) → (o ≡ Done → ⊥)
        → Gathers counting o first parts s Left Stopped gathered now
        → Writes counting o first parts s Stopped now
    stopped_writes Done gathered now never h = absurd (never refl)
    stopped_writes WriteFault gathered now never h = h
    stopped_writes Memory gathered now never h = h

  module _ (parts : List Part) (whole : ℕ) (gathered ends : List ℕ) (old : SinkView) where
    -- where the writing has ended, a part more changes nothing
    pub given_stopped : (outbound : Outbound) (next : Part)
        → (outbound ≡ Done → ⊥) → Taken' parts outbound whole gathered ends old
        → Taken' (parts ++ next ∷ []) outbound whole gathered ends old
    given_stopped Done next never h = absurd (never refl)
    given_stopped WriteFault next never h = record {
      gathers = stays counting first parts old WriteFault next
          (λ count. whole ≡ count) (λ count. whole ≡ count) (λ s e. e) h.gathers;
      all_end = λ is. cc;
    }
    given_stopped Memory next never h = record {
      gathers = stays counting first parts old Memory next
          (λ count. whole ≡ count) (λ count. whole ≡ count) (λ s e. e) h.gathers;
      all_end = λ is. cc;
    }

    module _ (so_far : Taken' parts Done whole gathered ends old) where
      abbrev s : ℕ
      s = ends_within (length gathered) ends whole

      -- what is gathered is put, or first bytes of it
      pub puts_gathered : (n : ℕ) (outbound : Outbound) (whole' : ℕ) (new : SinkView)
          → PutsParts gathered old new n outbound
          → whole' ≡ ends_within n ends whole
          → Taken' parts outbound whole' [] [] new
      unfolding ends_within
      puts_gathered n outbound whole' new puts counted =
          by puts.answer puts.outbound_is puts.puts where
            by : (answer : Result ⊤ SinkFault) → outbound ≡ outbound_by answer
                → Puts old new (take n gathered) answer
                → Taken' parts outbound whole' [] [] new
            by (Ok u) is put =
                let all = puts.all is in
                rw is (record {
                  gathers = gathered_put counting first parts s
                      (λ n count. ends_within n ends whole ≡ count) gathered old
                      so_far.gathers n whole' (λ n count. whole' ≡ count) new
                      all put (counted ∙ ap (λ n. ends_within n ends whole) all);
                  all_end = λ done n beyond. refl;
                })
            by (Err sinks.Failed) is failed = rw is (record {
              gathers = gathered_cut counting first parts s
                  (λ n count. ends_within n ends whole ≡ count) gathered old so_far.gathers
                  sinks.Failed n new (puts.short (λ done. cc))
                  failed puts.exact (λ count. whole' ≡ count) (λ z left. counted ∙ left);
              all_end = λ is. cc;
            })
            by (Err sinks.Memory) is failed = rw is (record {
              gathers = gathered_cut counting first parts s
                  (λ n count. ends_within n ends whole ≡ count) gathered old so_far.gathers
                  sinks.Memory n new (puts.short (λ done. cc))
                  failed puts.exact (λ count. whole' ≡ count) (λ z left. counted ∙ left);
              all_end = λ is. cc;
            })

      same : (n : ℕ) → length gathered ≤ n → ends_within n ends whole ≡ s
      same n beyond = so_far.all_end refl n beyond

      -- a part that doesn't count is gathered
      pub gathers_uncounted : (next : Part) → next.counts ≡ false
          → Taken' (parts ++ next ∷ []) Done whole (gathered ++ next.bytes) ends old
      gathers_uncounted next uncounted = record {
        gathers = gathers_more counting first parts s
            (λ n count. ends_within n ends whole ≡ count) gathered old so_far.gathers next
            next.bytes (ends_within (length (gathered ++ next.bytes)) ends whole)
            (λ n count. ends_within n ends whole ≡ count) refl
            (same (length (gathered ++ next.bytes)) longer
            ∙ sym (ap (λ (b : Bool). if b then one_more s else s) uncounted))
            (λ n z below left. left) (λ n beyond short. same n beyond);
        all_end = λ done n beyond. same n (omega (arith, longer, beyond))
            ∙ sym (same (length (gathered ++ next.bytes)) longer);
      } where
        longer : length gathered ≤ length (gathered ++ next.bytes)
        longer = rw (length-append gathered next.bytes) (omega arith)

      -- one that has no bytes, too
      pub gathers_nothing : (next : Part) → next.bytes ≡ [] → next.counts ≡ false
          → Taken' (parts ++ next ∷ []) Done whole gathered ends old
      gathers_nothing next none uncounted =
          subst (λ (l : List ℕ). Taken' (parts ++ next ∷ []) Done whole l ends old)
          (ap (λ l. gathered ++ l) none ∙ append-nil gathered) (gathers_uncounted next uncounted)

      -- a part that counts, whose end is marked
      module _ (next : Part) where
        abbrev end : ℕ
        end = length (gathered ++ next.bytes)

        abbrev marked : List ℕ
        marked = ends ++ end ∷ []

        pub gathers_counted : next.counts ≡ true
            → Taken' (parts ++ next ∷ []) Done whole (gathered ++ next.bytes) marked old
        gathers_counted counted = record {
          gathers = gathers_more counting first parts s
              (λ n count. ends_within n ends whole ≡ count) gathered old so_far.gathers next
              next.bytes (ends_within end marked whole)
              (λ n count. ends_within n marked whole ≡ count) refl
              (one_more_at end (omega arith)
              ∙ sym (ap (λ (b : Bool). if b then one_more s else s) counted))
              (λ n z below left. within_out n ends end whole
              (outside n (omega (arith, below, longer))) ∙ left)
              (λ n beyond short. within_out n ends end whole (outside n short) ∙ same n beyond);
          all_end = λ done n beyond. one_more_at n beyond ∙ sym (one_more_at end (omega arith));
        } where
          longer : length gathered ≤ end
          longer = rw (length-append gathered next.bytes) (omega arith)

          outside : (n : ℕ) → n < end → leb end n ≡ false
          outside n short = lt-leb end n short

          one_more_at : (n : ℕ) → end ≤ n → ends_within n marked whole ≡ one_more s
          one_more_at n beyond =
              within_in n ends end whole (le-leb end n beyond)
              ∙ ap one_more (same n (omega (arith, beyond, longer)))

  -- the end of a part that was appended is marked
  pub marks : (parts : List Part) (next : Part) (before : ℕ) (w : PartWriter) (now : SinkView)
      → w.outbound ≡ Done
      → WasGivenMore first parts next before w now
      → (ends' : List ℕ) (end : ℕ) → end ≡ length w.gathered.items
      → ends' ≡ w.ends.items ++ end ∷ []
      → Taken' (parts ++ next ∷ []) w.outbound w.whole w.gathered.items ends' now
  marks parts next before w now going r ends' end is more =
      rw (going, more, is) (subst (λ (l : List ℕ). Taken' (parts ++ next ∷ []) Done
      w.whole l (w.ends.items ++ length l ∷ []) now) (sym r.bytes)
      (gathers_counted parts w.whole r.earlier w.ends.items now (rw going at r.taken) next
      r.counts))

  -- where nothing is gathered
  module _ (parts : List Part) (whole : ℕ) (old : SinkView) (so_far : Taken' parts Done whole [] [] old)
    where
      abbrev none : IsWriting counting first parts
          (ends_within 0 [] whole) old
      none = as_writes parts (ends_within 0 [] whole) (λ n count. ends_within n [] whole ≡ count)
          (λ count. whole ≡ count) Done old so_far.gathers

      -- what the sink holds is written
      pub given_flushed : (answer : Result ⊤ SinkFault) (outbound : Outbound) (new : SinkView)
          → outbound ≡ outbound_by answer → Puts old new [] answer
          → Taken' parts outbound whole [] [] new
      unfolding ends_within
      given_flushed answer outbound new is puts = record {
        gathers = rw is (as_gathers parts whole (λ n count. whole ≡ count)
            (λ count. whole ≡ count) (outbound_by answer) new
            (pauses counting first parts whole old none
            (outbound_by answer) (λ count. whole ≡ count) new
            (goes_by answer [] old new puts)
            (memory_by answer [] old new puts) refl));
        all_end = λ done n beyond. refl;
      }

      -- there was no memory for the next part
      pub given_cut : (outbound : Outbound) (next : Part) (new : SinkView)
          → ((bytes : List ℕ) → IsCut outbound bytes old new)
          → Taken' (parts ++ next ∷ []) outbound whole [] [] new
      unfolding ends_within
      given_cut Done next new cut = absurd (cut []).ends
      given_cut WriteFault next new cut = record {
        gathers = stops counting first parts whole old none WriteFault
            next (λ count. whole ≡ count) new (cut next.bytes) refl;
        all_end = λ is. cc;
      }
      given_cut Memory next new cut = record {
        gathers = stops counting first parts whole old none Memory
            next (λ count. whole ≡ count) new (cut next.bytes) refl;
        all_end = λ is. cc;
      }

      -- last bytes come
      module _ (last : List ℕ) where
        pub closed_at : (outbound : Outbound) (new : SinkView) → (outbound ≡ Done → ⊥)
            → Goes outbound last old new
            → (outbound ≡ Memory → old.may_run_out ≡ true)
            → Wrote counting outbound last first parts
            (λ count. whole ≡ count) new
        unfolding ends_within
        closed_at outbound new never goes memory =
            stops_last counting first parts whole old none outbound
            last (λ count. whole ≡ count) new never goes memory refl

        pub closed_well : (answer : Result ⊤ SinkFault) (outbound : Outbound) (mid new : SinkView)
            → Puts old mid last (Ok tt)
            → outbound ≡ outbound_by answer
            → Puts mid new [] answer → new.held ≡ []
            → Wrote counting outbound last first parts
            (λ count. whole ≡ count) new
        unfolding ends_within
        closed_well answer outbound mid new puts is flushed emptied =
            rw is (closes counting first parts whole old none last
            (λ count. whole ≡ count) mid new answer puts flushed emptied refl)

  pub closed_before : (parts : List Part) (outbound : Outbound) (whole : ℕ)
      (gathered ends last : List ℕ) (now : SinkView) → (outbound ≡ Done → ⊥)
      → Taken' parts outbound whole gathered ends now
      → Wrote counting outbound last first parts
      (λ count. whole ≡ count) now
  closed_before parts outbound whole gathered ends last now never h =
      let s : ℕ = ends_within (length gathered) ends whole in
      stays_closed counting first parts now outbound last s
      (λ count. whole ≡ count) never
      (stopped_writes parts s (λ n count. ends_within n ends whole ≡ count)
      (λ count. whole ≡ count) outbound gathered now never h.gathers)

-- more may be waited for, by what has become of the writing
pub waits_ended : (o : Outbound) → (o ≡ Done → ⊥) → (gathered : List ℕ) (now : SinkView)
    (ended : Bool) → ended ≡ true → MayWait o gathered now ended
waits_ended Done stopped gathered now ended is = absurd (stopped refl)
waits_ended WriteFault stopped gathered now ended is = is
waits_ended Memory stopped gathered now ended is = is

pub waits_going : (o : Outbound) → o ≡ Done → (gathered : List ℕ) (now : SinkView) (ended : Bool)
    → gathered ≡ [] → now.held ≡ [] → MayWait o gathered now ended
waits_going o going gathered now ended none emptied = rw going (none, emptied)
