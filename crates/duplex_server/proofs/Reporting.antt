-- The lines of connections, one behind the other.
use Rattle.std.proofs.Common.{◌≡◌, ℕ, ◌+◌, List, [], ◌∷◌, ◌++◌, length, Some, None, Ok, Err}
use Rattle.std.proofs.Common.{Option, sym, refl, ap, ◌∙◌, subst, append_assoc, append-nil, arith}
use Rattle.io_edges.specs.{declared.SinkFault.SinkFault, Flow.GrowsByPrefix, Flow.Told}
use Rattle.stream_loop.{proofs.Grown.all_written, proofs.Grown.cut_written}
use Rattle.stream_loop.proofs.Writing.{known_told, told_some}
use Rattle.duplex_server.specs.{declared.outcome.Outcome.Outcome, Along.HasLines}
use Rattle.duplex_server.specs.Lines.{connection_line, lines_from}
use Rattle.duplex_server.specs.Served.{CutsLast, held_behind, WritesAll}
use Rattle.io_edges.specs.Views.{SinkView}
use Rattle.io_edges.specs.Puts.{Puts}

lines_from-push : (number : ℕ) (outcomes : List Outcome) (last : Outcome)
    → lines_from number (outcomes ++ last ∷ [])
    ≡ lines_from number outcomes ++ connection_line (number + length outcomes) last
unfolding lines_from
lines_from-push number [] last =
    append-nil (connection_line number last)
    ∙ ap (λ (n : ℕ). connection_line n last) (omega arith)
lines_from-push number (o ∷ outcomes) last =
    ap (λ (l : List ℕ). connection_line number o ++ l) (lines_from-push (number + 1) outcomes last)
    ∙ sym (append_assoc (connection_line number o) (lines_from (number + 1) outcomes)
    (connection_line (number + 1 + length outcomes) last))
    ∙ ap (λ (n : ℕ). (connection_line number o ++ lines_from (number + 1) outcomes)
    ++ connection_line n last) (omega arith)

-- what is written with one more line
more_written : (held : List ℕ) (outcomes : List Outcome) (last : Outcome) (w mid w' : List ℕ)
    → WritesAll held outcomes w mid
    → w' ≡ mid ++ held_behind held outcomes ++ connection_line (length outcomes) last
    → WritesAll held (outcomes ++ last ∷ []) w w'
unfolding lines_from
more_written held [] last w mid w' before is =
    is ∙ ap (λ (l : List ℕ). l ++ held ++ connection_line 0 last) before
    ∙ ap (λ (l : List ℕ). w ++ held ++ l) (sym (append-nil (connection_line 0 last)))
more_written held (o ∷ outcomes) last w mid w' before is =
    let all : List ℕ = lines_from 0 (o ∷ outcomes) in
    let line : List ℕ = connection_line (length (o ∷ outcomes)) last in
    is ∙ ap (λ (l : List ℕ). l ++ [] ++ line) before
    ∙ ap (λ (l : List ℕ). l ++ line) (append-nil (w ++ held ++ all))
    ∙ append_assoc (w ++ held) all line
    ∙ ap (λ (l : List ℕ). w ++ held ++ l) (sym (lines_from-push 0 (o ∷ outcomes) last
    ∙ ap (λ (n : ℕ). all ++ connection_line n last) (omega arith)))

held_none : (held : List ℕ) (outcomes : List Outcome) (last : Outcome)
    → held_behind held (outcomes ++ last ∷ []) ≡ []
held_none held [] last = refl
held_none held (o ∷ outcomes) last = refl

some_pushed : (outcomes : List Outcome) (last : Outcome) → outcomes ++ last ∷ [] ≡ [] → ⊥
some_pushed [] last e = cc
some_pushed (o ∷ outcomes) last e = cc

module _ (first : SinkView) where
  abbrev Lines : SinkView → Type 0 → List Outcome → Type 0
  Lines = HasLines first

  -- before the first
  pub no_lines : {Same : Type 0} → Same → Lines first Same []
  no_lines same = record {
    lines = nothing first.written;
    held_is = refl;
    faults_are = refl;
    untouched = λ e. same;
  }
    where
      nothing : (w : Option (List ℕ)) → Told w w (WritesAll first.held [])
      nothing None = tt
      nothing (Some w) = refl

  module _ (now new : SinkView) (Same : Type 0) (outcomes : List Outcome)
      (h : Lines now Same outcomes)
      (last : Outcome) where
    abbrev line : List ℕ
    line = connection_line (length outcomes) last

    -- one more
    pub more_lines : Puts now new line (Ok tt) → new.held ≡ [] → {Still : Type 0}
        → Lines new Still (outcomes ++ last ∷ [])
    more_lines puts none = record {
      lines = known_told (WritesAll first.held (outcomes ++ last ∷ [])) first.written
          new.written (λ w is.
          let mid = told_some (WritesAll first.held outcomes) first.written now.written w is
          h.lines in
          let k = all_written now new line puts none mid.0 mid.1 in (
            k.0,
            k.1,
            more_written first.held outcomes last w mid.0 k.0 mid.2
                (subst (λ (l : List ℕ). k.0 ≡ mid.0 ++ l ++ line) h.held_is k.2),
          ));
      held_is = none ∙ sym (held_none first.held outcomes last);
      faults_are = puts.counted.same (λ e. cc) ∙ h.faults_are;
      untouched = λ e. absurd (some_pushed outcomes last e);
    }

    -- one that was cut
    pub cut_lines : (fault : SinkFault)
        → Puts now new line (Err fault)
        → Told first.written new.written
        (CutsLast first.held (outcomes ++ last ∷ []))
    cut_lines fault puts =
        known_told (CutsLast first.held (outcomes ++ last ∷ [])) first.written new.written
        (λ w is.
        let mid = told_some (WritesAll first.held outcomes) first.written now.written w is
        h.lines in
        let k = cut_written fault now new line puts mid.0 mid.1 in (
          k.0,
          k.1,
          record {
            before = outcomes;
            last = last;
            joined = refl;
            mid = mid.0;
            whole = mid.2;
            cut = subst (λ (l : List ℕ). GrowsByPrefix mid.0 k.0 (l ++ line)) h.held_is k.2;
          },
        ))
