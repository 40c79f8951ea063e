-- What was taken of a source, by how the reading of its lines ended.
use Rattle.std.proofs.Common.{◌≡◌, ℕ, ◌<◌, Bool, true, false, ◌⊎◌, List, [], ◌∷◌, ◌++◌, length}
use Rattle.std.proofs.Common.{nat_le, map, IfOk, Some, None, Ok, Err, Option, Result, sym, refl, ap}
use Rattle.std.proofs.Common.{◌∙◌, subst, inl, inr, append_assoc, append-nil, arith, map-id}
use Rattle.io_edges.specs.{Faults.CountsFaults, Flow.Told}
use Rattle.nbfx_values.specs.declared.content.Item.{Item}
use Rattle.stream_loop.proofs.Writing.{told_as, told_some}
use Rattle.unit_streams.specs.Judging.{events_of}
use Rattle.stream_loop.specs.declared.following.FollowEnding.{FollowEnding}
use Rattle.stream_loop.specs.{Answers.EndsWithin, Edges.Input}
use Rattle.stream_loop.specs.Followed.{AreHandled, Breaks, Decides, Follows, IsWhole, Starves}
use Rattle.stream_loop.specs.declared.following.FollowEnding.TheVariants as endings
use Rattle.line_notation.specs.declared.reader.LineStep.{LineStep}
use Rattle.line_notation.specs.declared.reader.LineKind.TheVariants.{Cut}
use Rattle.line_notation.specs.{Between.is_between, Between.next_line, Lines.cut}
use Rattle.line_notation.specs.LineReaderState.{Standing, standing}
use Rattle.line_streams.proofs.LineFacts.{begins, bounded, closes}
use Rattle.line_streams.proofs.Cutting.{begun_behind}
use Rattle.document_lines.specs.declared.{InputFault.InputFault, reading.ListFault.ListFault}
use Rattle.document_lines.specs.declared.InputFault.TheVariants.{Line, TooLong}
use Rattle.document_lines.specs.declared.reading.ListFault.TheVariants.{Memory, ReadFault, Refused}
use Rattle.document_lines.specs.Documents.{documents_in, documents_within, refusal_at_end}
use Rattle.document_lines.specs.Documents.{refusal_in, unless}
use Rattle.document_lines.specs.Steps.{documents_of_steps, step_rules}
use Rattle.document_lines.specs.Taking.{IsReadAs, of_kept, Says, TakesDocuments}
use Rattle.document_lines.proofs.Stepping.{g, history_said, pending_unrefused, Said}

-- they have an end
pub ends_within : (quota : ℕ) → 0 < quota → EndsWithin (g quota) (λ e. false) quota
ends_within quota some = record {
  closes = closes (step_rules quota);
  first = begins (step_rules quota) some;
  within = λ p pending. let short = bounded (step_rules quota) p pending in omega (arith, short);
}

-- ---- lines may end behind some bytes, and not behind one more that ends no line

-- one thing is refused first, or another
refused_or : {T : Type 0} (r s : Option InputFault) (t v : T)
    → unless r (unless s (Ok t)) ≡ Ok v → s ≡ None
refused_or (Some fault) s t v e = cc
refused_or None None t v e = refl
refused_or None (Some fault) t v e = cc

too_long_or : {T : Type 0} (r : Option InputFault) (v : T) → unless r (Err TooLong) ≡ Ok v → ⊥
too_long_or (Some fault) v e = cc
too_long_or None v e = cc

cut_at_end : (left : List ℕ) (b : ℕ) (z : Standing) → refusal_at_end (left ++ b ∷ []) z ≡ None → ⊥
cut_at_end [] b z e = cc
cut_at_end (first ∷ left) b z e = cc

module _ (quota : ℕ) (bytes : List ℕ) (documents : List (List Item)) where
  abbrev all : List ℕ
  all = bytes ++ 120 ∷ []

  abbrev z : Standing
  z = standing (cut all).0

  never_whole : documents_within quota all ≡ Ok documents → ⊥
  never_whole e = by (nat_le quota (length all)) refl e where
    by : (v : Bool) → nat_le quota (length all) ≡ v → documents_within quota all ≡ Ok documents → ⊥
    by true is e = too_long_or _ documents (let h = rw is at e in h)
    by false is e =
        let read : documents_in all ≡ Ok documents = let h = rw is at e in h in
        let none = refused_or (refusal_in z) (refusal_at_end (cut all).1 z) _ documents read in
        let c = begun_behind bytes (120 ∷ []) refl in
        cut_at_end (cut bytes).1 120 z
        (subst (λ (l : List ℕ). refusal_at_end l z ≡ None)
        (ap (λ (x : List (List ℕ) × List ℕ). x.1) c) none)

-- ---- what was taken

-- what is answered where the reading ended so, and these steps were handled
abbrev pub answered : List LineStep → FollowEnding InputFault → Result (List (List Item)) ListFault
answered steps (endings.Judged None) = Ok (documents_of_steps steps)
answered steps (endings.Judged (Some fault)) = Err (Refused fault)
answered steps endings.ReadFault = Err ReadFault
answered steps endings.Memory = Err Memory

-- of what is told, or of what is so anyhow
told_or : (P : Type 0) (old new : Option (List ℕ)) → Told old new (λ all rest. (rest ≡ []) ⊎ P)
    → Told old new (λ all rest. rest ≡ []) ⊎ P
told_or P None new told = inl tt
told_or P (Some l) None told = absurd told
told_or P (Some l) (Some rest) (inl nothing) = inl nothing
told_or P (Some l) (Some rest) (inr so) = inr so

-- a read failed where the answer says so
read_failed : (steps : List LineStep) (ending : FollowEnding InputFault)
    → answered steps ending ≡ Err ReadFault → ending ≡ endings.ReadFault
read_failed steps (endings.Judged None) is = cc
read_failed steps (endings.Judged (Some fault)) is = cc
read_failed steps endings.ReadFault is = refl
read_failed steps endings.Memory is = cc

-- steps that were handled by the values that they are said with, which are themselves
pub handled_all : (K : List LineStep → Type 0) (steps : List LineStep)
    → AreHandled (λ (step : LineStep). step) (λ paused since. K (paused ++ since)) steps → K steps
handled_all K steps h =
    subst K (ap (λ l. l ++ map (λ (step : LineStep). step) h.since) (map-id h.paused)
    ∙ ap (λ l. h.paused ++ l) (map-id h.since) ∙ sym h.joined) h.handled

module _ (quota : ℕ) (Handled : List LineStep → Type 0) (i i' : Input) where
  -- these steps were handled, and what was taken is answered so
  pub record TakesSteps (ending : FollowEnding InputFault) : Type 0 where
    pub steps : List LineStep
    pub handled : Handled steps
    pub takes : TakesDocuments quota i i' (answered steps ending)

  counts_so : (steps : List LineStep) (ending : FollowEnding InputFault)
      → CountsFaults i.faults i'.faults (ending ≡ endings.ReadFault)
      → CountsFaults i.faults i'.faults (answered steps ending ≡ Err ReadFault)
  counts_so steps ending c = record {
    rose = λ is. c.rose (read_failed steps ending is);
    same = λ not. c.same (λ is. not (ap (answered steps) is));
    grows = c.grows;
  }

  -- the lines were judged
  module _ (judged : Option InputFault) (d : Decides (g quota) Handled i i' judged) where
    abbrev Whole : List ℕ → Type 0
    Whole bytes = IsWhole (g quota) d.events judged bytes

    abbrev More : Type 0
    More = (more : List ℕ) → Whole (d.bytes ++ more)

    said : (bytes : List ℕ) → Whole bytes → Said quota bytes d.events judged
    said bytes whole = history_said quota bytes d.events judged whole

    ended_or : Told i.left i'.left (λ all rest. rest ≡ []) ⊎ More
    ended_or = told_or More i.left i'.left (told_as _ (λ all rest. (rest ≡ []) ⊎ More) i.left
        i'.left d.stream (λ all rest both. both.1))

    all_of : (all : List ℕ) → i.left ≡ Some all → Whole all
    all_of all left =
        let t = told_some _ i.left i'.left all left d.stream in
        subst Whole (sym t.2.0) (elim t.2.1 [
          | inl nothing ↦
              subst Whole (sym (ap (λ r. d.bytes ++ r) nothing ∙ append-nil d.bytes)) d.whole
          | inr more ↦ more t.0
        ])

  -- what all of it says, and what was read of it
  module _ (bytes : List ℕ) (events : List LineStep) where
    says_so : (judged : Option InputFault) → Said quota bytes events judged
        → Says (documents_within quota bytes) (answered events (endings.Judged judged))
    says_so None said = said
    says_so (Some fault) said = said

    read_so : (judged : Option InputFault) (Ended : Type 0) → Said quota bytes events judged
        → Ended ⊎ ((more : List ℕ) → Said quota (bytes ++ more) events judged)
        → IsReadAs quota bytes Ended (answered events (endings.Judged judged))
    read_so None Ended said (inl ended) = (said, ended)
    read_so None Ended said (inr more) =
        absurd (never_whole quota bytes (documents_of_steps events) (more (120 ∷ [])))
    read_so (Some fault) Ended said or = (said, or)

  judged_takes : (judged : Option InputFault) → Decides (g quota) Handled i i' judged
      → CountsFaults i.faults i'.faults (endings.Judged judged ≡ endings.ReadFault)
      → TakesSteps (endings.Judged judged)
  judged_takes judged d counted = record {
    steps = d.events;
    handled = d.handled;
    takes = record {
      says = λ all left. says_so all d.events judged (said judged d all (all_of judged d all left));
      bytes = d.bytes;
      stream = told_as _ _ i.left i'.left d.stream (λ all rest both. both.0);
      took = d.took;
      read = read_so d.bytes d.events judged _ (said judged d d.bytes d.whole)
          (elim (ended_or judged d) [
            | inl ended ↦ inl ended
            | inr more ↦ inr (λ m. said judged d (d.bytes ++ m) (more m))
          ]);
      one_empty_take = elim d.settled [
        | inl over ↦ inr over.1
        | inr stays ↦ inl stays.1
      ];
      counted = counts_so d.events (endings.Judged judged) counted;
    };
  }

  pub takes_steps : (ending : FollowEnding InputFault) → Follows (g quota) Handled i i' ending
      → CountsFaults i.faults i'.faults (ending ≡ endings.ReadFault) → TakesSteps ending
  takes_steps (endings.Judged judged) d counted = judged_takes judged d counted
  takes_steps endings.ReadFault b counted = record {
    steps = events_of (g quota) b.bytes;
    handled = b.handled;
    takes = record {
      says = λ all left. tt;
      bytes = b.bytes;
      stream = b.stream;
      took = b.took;
      read = (
        bounded (step_rules quota) b.bytes b.pending,
        pending_unrefused quota b.bytes b.pending,
      );
      one_empty_take = inl b.no_empty_take;
      counted = counts_so (events_of (g quota) b.bytes) endings.ReadFault counted;
    };
  }
  takes_steps endings.Memory s counted = record {
    steps = s.events;
    handled = s.handled;
    takes = record {
      says = λ all left. tt;
      bytes = s.before ++ s.piece;
      stream = s.stream;
      took = told_as _ _ i.taken i'.taken s.took
          (λ t t' is. is ∙ append_assoc t s.before s.piece);
      read = tt;
      one_empty_take = inl s.no_empty_take;
      counted = counts_so s.events endings.Memory counted;
    };
  }

-- of a list that was empty at first
pub says_list : (read : Result (List (List Item)) InputFault) (documents : List (List Item))
    (result : Result (List (List Item)) ListFault) → Says read (of_kept documents result)
    → IfOk result (λ docs. docs ≡ documents) → Says read result
says_list read documents (Ok docs) said same =
    subst (λ (l : List (List Item)). read ≡ Ok l) (sym same) said
says_list read documents (Err (Refused fault)) said same = said
says_list read documents (Err ReadFault) said same = tt
says_list read documents (Err Memory) said same = tt
