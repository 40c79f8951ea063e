-- A report that isn't begun, and one that goes through a sink that gathers.
use Rattle.std.proofs.Common.{◌≡◌, ℕ, Bool, List, [], ◌++◌, Option, sym, refl, ◌∙◌, subst, inl}
use Rattle.std.proofs.Common.{append-nil, arith}
use Rattle.unit_streams.specs.{Grammar.Grammar, Tellers.Teller}
use Rattle.stream_loop.proofs.LoopSteps.{first_pending, writes_none}
use Rattle.stream_loop.proofs.Writing.{counted_none, known_told}
use Rattle.stream_loop.specs.{declared.reporting.ReportEnding.ReportEnding, Answers.EndsWithin}
use Rattle.stream_loop.specs.Edges.{Input}
use Rattle.stream_loop.specs.Reported.{Breaks, Decides, EndsAs, Reaches}
use Rattle.io_edges.specs.{Gathering.with_room, Views.SinkView}
use Rattle.stream_loop.specs.declared.reporting.ReportEnding.TheVariants as endings

module _ {Z U E R S : Type 0} (g : Grammar Z U E R) (t : Teller S E R) where
  module _ (i : Input) (o : SinkView) (held : List ℕ) where
    abbrev so_held : SinkView
    so_held = record o { held = held }

    first_reaches : (ends : E → Bool) (most : ℕ) → EndsWithin g ends most
        → Reaches g t i i so_held o
    first_reaches ends most within = record {
      before = [];
      piece = [];
      pending = first_pending g ends most within;
      short = omega arith;
      stream = known_told (λ all rest. all ≡ [] ++ [] ++ rest) i.left i.left
          (λ all e. (all, e, refl));
      took = known_told (λ t t'. t' ≡ t ++ [] ++ []) i.taken i.taken
          (λ t e. (t, e, sym (append-nil (t ++ []) ∙ append-nil t)));
      wrote = writes_none g t held o.written;
    }

    -- there was no memory to begin with, whatever it holds
    pub not_begun : (ends : E → Bool) (most : ℕ) → EndsWithin g ends most → (state : S)
        → EndsAs g t i i so_held o state endings.Memory
    not_begun ends most within state = record {
      judges = λ bytes e. tt;
      reports = λ bytes w e before. (w, before, record { kept = 0; grown = sym (append-nil w) });
      decides = λ judged e. cc;
      breaks = λ e. cc;
      reaches = first_reaches ends most within;
      one_empty_take = inl refl;
      reads_counted = counted_none _ _ _ refl (λ e. cc);
      writes_counted = counted_none _ _ _ refl (λ e. cc);
    }

  -- what is known is of the sink that a gathering one stood over, whatever that one holds at last
  module _ (i i' : Input) (first last : SinkView) (gathered rest : List ℕ) (state : S)
      (ending : ReportEnding R) where
    abbrev at : SinkView
    at = record first { held = first.held ++ gathered }

    module _ (e : EndsAs g t i i' (with_room gathered first) (with_room rest last) state ending)
      where
        decides_so : (judged : Option R)
            → Decides g t i i' (with_room gathered first) (with_room rest last) judged state
            → Decides g t i i' at last judged state
        decides_so judged k = record {
          bytes = k.bytes;
          judged_so = k.judged_so;
          settled = k.settled;
          stream = k.stream;
          took = k.took;
          wrote = k.wrote;
        }

        breaks_so : Breaks g t i i' (with_room gathered first) (with_room rest last)
            → Breaks g t i i' at last
        breaks_so k = record {
          bytes = k.bytes;
          pending = k.pending;
          stream = k.stream;
          took = k.took;
          wrote = k.wrote;
          no_empty_take = k.no_empty_take;
        }

        ends_so : EndsAs g t i i' at last state ending
        ends_so = record {
          judges = e.judges;
          reports = e.reports;
          decides = λ judged is. decides_so judged (e.decides judged is);
          breaks = λ is. breaks_so (e.breaks is);
          reaches = record {
            before = e.reaches.before;
            piece = e.reaches.piece;
            pending = e.reaches.pending;
            short = e.reaches.short;
            stream = e.reaches.stream;
            took = e.reaches.took;
            wrote = e.reaches.wrote;
          };
          one_empty_take = e.one_empty_take;
          reads_counted = e.reads_counted;
          writes_counted = e.writes_counted;
        }

    -- it has gathered these bytes
    pub ends_behind : (front : List ℕ) → gathered ≡ front
        → EndsAs g t i i' (with_room gathered first) (with_room rest last) state ending
        → EndsAs g t i i' (record first { held = first.held ++ front }) last state ending
    ends_behind front is e =
        subst (λ (l : List ℕ). EndsAs g t i i' (record first { held = first.held ++ l }) last state
        ending) is (ends_so e)

    -- or nothing yet
    pub ends_under : gathered ≡ []
        → EndsAs g t i i' (with_room gathered first) (with_room rest last) state ending
        → EndsAs g t i i' first last state ending
    ends_under none e =
        subst (λ (l : List ℕ). EndsAs g t i i' (record first { held = l }) last state ending)
        (append-nil first.held) (ends_behind [] none e)
