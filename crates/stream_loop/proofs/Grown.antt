-- What puts leave of what is written: all of their bytes, or first ones of them.
use Rattle.std.proofs.Common.{◌≡◌, ℕ, ◌⊎◌, List, [], ◌++◌, length, Some, Ok, Err, sym}
use Rattle.std.proofs.Common.{ap, ◌∙◌, subst, inl, inr, append_assoc, append-nil, arith, take_all}
use Rattle.io_edges.proofs.Putting.{Puts-nothing, Puts-then}
use Rattle.io_edges.specs.{declared.SinkFault.SinkFault, Flow.GrowsByPrefix, Flow.Passes}
use Rattle.stream_loop.specs.declared.outbound.Outbound.{Outbound}
use Rattle.stream_loop.specs.declared.outbound.Outbound.TheVariants.{Done, Memory, WriteFault}
use Rattle.stream_loop.specs.Writing.{Ends, IsCut}
use Rattle.stream_loop.proofs.Writing.{grown_within, told_some}
use Rattle.io_edges.specs.Views.{SinkView}
use Rattle.io_edges.specs.Puts.{Puts}

-- so much is written, of what was held and of these bytes
abbrev pub Grew : SinkView → SinkView → List ℕ → Type 0
Grew old new bytes = (w : List ℕ) → old.written ≡ Some w → (w' : List ℕ)
    × (new.written ≡ Some w') × GrowsByPrefix w w' (old.held ++ bytes)

abbrev pub AllWritten : SinkView → SinkView → List ℕ → Type 0
AllWritten old new bytes = (w : List ℕ) → old.written ≡ Some w → (w' : List ℕ)
    × (new.written ≡ Some w') × (w' ≡ w ++ old.held ++ bytes)

-- where nothing is held any more, all that was put is written
pub all_written : (old new : SinkView) (bytes : List ℕ) → Puts old new bytes (Ok tt) → new.held ≡ []
    → AllWritten old new bytes
all_written old new bytes puts none w is =
    let k = told_some (λ w w'. Passes w w' old.held new.held bytes) old.written
    new.written w is puts.written in (
      k.0,
      k.1,
      k.2.grown ∙ ap (λ l. w ++ l) (sym (append-nil k.2.put)
          ∙ ap (λ l. k.2.put ++ l) (sym none) ∙ sym k.2.split)
          ∙ sym (append_assoc w old.held bytes),
    )

-- a put that failed has written first bytes
pub cut_written : (fault : SinkFault) (old new : SinkView) (bytes : List ℕ)
    → Puts old new bytes (Err fault) → Grew old new bytes
cut_written fault old new bytes puts w is =
    told_some (λ w w'. GrowsByPrefix w w' (old.held ++ bytes)) old.written new.written w is
    puts.refused

-- what is all written is written in part
pub all_grew : (old new : SinkView) (bytes : List ℕ) → AllWritten old new bytes → Grew old new bytes
all_grew old new bytes all w is =
    let k = all w is in (
      k.0,
      k.1,
      record {
        kept = length (old.held ++ bytes);
        grown = k.2 ∙ append_assoc w old.held bytes
            ∙ ap (λ l. w ++ l) (sym (take_all (length (old.held ++ bytes)) (old.held ++ bytes)
            (omega arith)));
      },
    )

-- first bytes of some are first bytes of more
pub grew_more : (old new : SinkView) (bytes more : List ℕ) → Grew old new bytes
    → Grew old new (bytes ++ more)
grew_more old new bytes more grew w is =
    let k = grew w is in (
      k.0,
      k.1,
      subst (GrowsByPrefix w k.0) (append_assoc old.held bytes more)
          (grown_within w k.0 (old.held ++ bytes) more k.2),
    )

-- or the writing ended at a put behind others
pub ends_grew : (o : Outbound) (first mid now : SinkView) (before bytes : List ℕ)
    → Puts first mid before (Ok tt)
    → Ends o mid now bytes → Grew first now (before ++ bytes)
ends_grew Done first mid now before bytes puts ends = absurd ends
ends_grew WriteFault first mid now before bytes puts ends =
    cut_written _ first now (before ++ bytes) (Puts-then _ puts ends)
ends_grew Memory first mid now before bytes puts (inl ends) =
    cut_written _ first now (before ++ bytes) (Puts-then _ puts ends)
ends_grew Memory first mid now before bytes puts (inr ends) =
    all_grew first now (before ++ bytes) (all_written first now (before ++ bytes)
    (Puts-then _ puts ends.0) ends.2)

-- of what was due next the first bytes are written, or none
pub cut_behind : (next before : List ℕ) (first now : SinkView) (bytes : List ℕ)
    → (bytes ≡ []) ⊎ (bytes ≡ next) → Grew first now (before ++ bytes)
    → Grew first now (before ++ next)
cut_behind next before first now bytes (inl e) grew =
    grew_more first now before next
    (subst (Grew first now) (ap (λ l. before ++ l) e ∙ append-nil before) grew)
cut_behind next before first now bytes (inr e) grew =
    subst (λ l. Grew first now (before ++ l)) e grew

pub cut_grew : (o : Outbound) (next : List ℕ) (old now : SinkView)
    → IsCut o next old now → Grew old now next
cut_grew o next old now cut =
    cut_behind next [] old now cut.bytes cut.front
    (ends_grew o old old now [] cut.bytes (Puts-nothing _) cut.ends)

-- where the writing ended nothing is held
pub ends_empty : (o : Outbound) (old now : SinkView) (bytes : List ℕ)
    → Ends o old now bytes → now.held ≡ []
ends_empty Done old now bytes ends = absurd ends
ends_empty WriteFault old now bytes ends = ends.dropped
ends_empty Memory old now bytes (inl put) = put.dropped
ends_empty Memory old now bytes (inr none) = none.2
