-- What is written of input that isn't refused.
use Rattle.std.proofs.Common.{◌≡◌, ℕ, ◌+◌, Bool, true, false, List, [], ◌∷◌, ◌++◌, map, length}
use Rattle.std.proofs.Common.{take, drop, nat_lt, None, Ok, Err, Result, option_to_list, flat_map}
use Rattle.std.proofs.Common.{refl, ap, ◌∙◌, append-nil, arith, ltb-false as ge_nat_lt}
use Rattle.unit_streams.proofs.Accepted.{accepted_or_offended, leads_length}
use Rattle.unit_streams.proofs.{Pieces.told_flat, Units.between_first, Units.units_bring}
use Rattle.unit_streams.specs.{Grammar.Grammar, Tellers.report, Tellers.told_along}
use Rattle.unit_streams.specs.Judging.{History, history, history_from, led_by, offence}
use Rattle.unit_streams.specs.Units.{Counted, events_along, IsAccepted, size_of, UnitsLead}
use Rattle.string_tables.specs.StringTable.{StringTable}
use Rattle.nbfx_encoder.specs.Envelopes.{behind_bytes, envelope, envelope_then, envelopes_from}
use Rattle.nbfx_encoder.specs.{Placing.Placed, Spelling.Unfit}
use Rattle.line_notation.specs.{declared.reader.LineKind.LineKind, Lines.cut}
use Rattle.line_notation.specs.LineReaderState.{answer_of, at_start, document_of, documents_from}
use Rattle.line_notation.specs.LineReaderState.{ends, failed, going, on, outcome}
use Rattle.line_notation.specs.LineReaderState.{Placed as PlacedLine, Standing, standing_of}
use Rattle.document_lines.specs.{declared.InputFault.InputFault, Laws.AcceptedIsBuilt, Laws.IsBuilt}
use Rattle.document_lines.specs.Input.{behind_line, completed_line, document_rules, ending_fault}
use Rattle.document_lines.specs.Input.{envelope_of, envelopes_and_end, fault_of, lines_of_documents}
use Rattle.document_lines.specs.Input.{payload_at, refused_line, Settings, Situation, table_of}
use Rattle.line_streams.proofs.Walking.{cuts, lines_of}
use Rattle.document_lines.proofs.Lines.{readable}

-- a reader of lines that hasn't failed
abbrev pub IsGoing : Standing → Type 0
IsGoing (failed fault) = ⊥
IsGoing (going n items array) = Unit {0}

-- what is written of the documents of units
module _ (x : Settings) where
  abbrev pub g : Grammar Situation (List ℕ) (List ℕ) InputFault
  g = lines_of_documents x

  -- the envelopes that events bring
  abbrev pub joined : List (List ℕ) → List ℕ
  joined es = flat_map (λ e. e) es

  -- the lines bring documents, whose envelopes are the events
  abbrev pub Writes : Situation → ℕ → List (Counted (List ℕ)) → Situation → Type 0
  Writes z from units z' =
      envelopes_from x.limits x.kind x.mode z.table z.documents
      (documents_from z.lines (lines_of (document_rules x) units)) ≡ Ok (
        joined (events_along g z from units),
        z'.table,
      )

  -- what lines have left
  abbrev pub at : Standing → StringTable → ℕ → Situation
  at lines table k = record { lines = lines; table = table; documents = k }

  -- after the document that a line completes
  abbrev behind : ℕ → StringTable → ℕ → Result (Placed (List ℕ)) Unfit → Situation
  behind n table k v = at (going n [] None) (table_of x table v) (k + 1)

  -- what is known of the units after a line
  abbrev pub Later : List (Counted (List ℕ)) → ℕ → List ℕ → Situation → List ℕ → Type 0
  Later units from bytes z' rest = (lines : Standing) (table : StringTable) (k : ℕ) → IsGoing lines
      → UnitsLead g (at lines table k) from units bytes z' rest → Writes (at lines table k) from
      units z'

  -- the line that completes a document
  module _ (n : ℕ) (table : StringTable) (k from : ℕ) (units : List (Counted (List ℕ)))
      (bytes : List ℕ) (z' : Situation) (rest : List ℕ) (later : Later units from bytes z' rest)
    where
      document : (v : Result (Placed (List ℕ)) Unfit) → fault_of x k v ≡ None
          → UnitsLead g (behind n table k v) from units bytes z' rest
          → envelope_then x.mode k v (λ table. envelopes_from x.limits x.kind x.mode table (k + 1)
          (documents_from (going n [] None) (lines_of (document_rules x) units)))
          ≡ Ok (
            joined (option_to_list (envelope_of x v) ++ events_along g (behind n table k v) from
                units),
            z'.table,
          )
      document (Ok payload) none l = ap (behind_bytes (envelope x.mode payload.0))
          (later (going n [] None) payload.1 (k + 1) tt l)
      document (Err why) none l = cc

  -- by where a line leads
  leads : (n : ℕ) (lines : Standing) (table : StringTable) (k from : ℕ)
      (units : List (Counted (List ℕ))) (bytes : List ℕ) (z' : Situation) (rest : List ℕ)
      → Later units from bytes z' rest → (o : Result PlacedLine LineKind)
      → refused_line x (at lines table k) (standing_of n o) (answer_of n o) ≡ None
      → UnitsLead g (behind_line x (at lines table k) (standing_of n o) (answer_of n o)) from
      units bytes z' rest
      → envelopes_from x.limits x.kind x.mode table k (document_of (answer_of n o) ++ documents_from
      (standing_of n o) (lines_of (document_rules x) units))
      ≡ Ok (
        joined (option_to_list (completed_line x (at lines table k) (answer_of n o))
            ++ events_along g (behind_line x (at lines table k) (standing_of n o) (answer_of n o))
            from units),
        z'.table,
      )
  leads n lines table k from units bytes z' rest later (Ok (on i a)) none l = later (going n i a)
      table k tt l
  leads n lines table k from units bytes z' rest later (Ok (ends doc)) none l = document n table k
      from units bytes z' rest later (payload_at x (at lines table k) doc) none l
  leads n lines table k from units bytes z' rest later (Err kind) none l = cc

  pub walk : (units : List (Counted (List ℕ))) (from : ℕ) (bytes : List ℕ) (z' : Situation)
      (rest : List ℕ) → Later units from bytes z' rest
  unfolding UnitsLead events_along
  walk [] from bytes z' rest lines table k on_way l = ap (λ (z : Situation). Ok ([], z.table)) l.0
  walk (one ∷ units) from bytes z' rest (failed fault) table k on_way l = absurd on_way
  walk (one ∷ units) from bytes z' rest (going n items array) table k on_way l =
      leads (n + 1) (going n items array) table k (from + one.size) units (drop one.size bytes) z'
      rest (walk units (from + one.size) (drop one.size bytes) z' rest)
      (outcome items array one.unit) l.1 l.2

  -- input may end at the end of a line alone
  at_feed : (b : Bool) (z : Situation) → ending_fault x b z ≡ None → b ≡ false
  at_feed true z e = cc
  at_feed false z e = refl

  module _ (bytes : List ℕ) (a : IsAccepted g bytes) where
    nothing_left : a.rest ≡ []
    nothing_left =
        let more = at_feed (nat_lt (size_of a.units) (length bytes)) a.situation a.may_end in
        let total = leads_length g (readable x) a.units g.start 0 bytes a.situation a.rest a.lead in
        let least = ge_nat_lt (size_of a.units) (length bytes) more in
        none_of a.rest (omega (arith, total, least))
      where
        none_of : (l : List ℕ) → length l ≡ 0 → l ≡ []
        none_of [] e = refl
        none_of (b ∷ l) e = absurd (omega (arith, e))

    abbrev es : List (List ℕ)
    es = events_along g g.start 0 a.units

    events_are : (history g bytes).events ≡ es
    unfolding history history_from
    events_are =
        let b = units_bring g (readable x) a.units [] g.start 0 bytes a.situation a.rest
        (between_first g (readable x)) a.lead a.units_short in
        ap (λ (h : History (List ℕ) InputFault). h.events) (b.history
        ∙ ap (λ r. led_by es (history_from g ([] ++ take (size_of a.units) bytes) r))
        nothing_left) ∙ append-nil es

    written : offence g bytes ≡ None → report g envelopes_and_end bytes ≡ joined es ++ 7 ∷ []
    unfolding report offence
    written none =
        ap (λ o. told_along envelopes_and_end tt (history g bytes).events ++ envelopes_and_end.ends
        tt o) none
        ∙ ap (λ l. l ++ 7 ∷ []) (told_flat envelopes_and_end (λ e. e) (λ s e. refl)
        (history g bytes).events tt ∙ ap joined events_are)

    built_of : offence g bytes ≡ None → IsBuilt x bytes
    built_of none = record {
      lines = lines_of (document_rules x) a.units;
      lines_are = cuts (document_rules x) a.units g.start 0 bytes a.situation a.rest a.lead
          ∙ ap (λ r. (lines_of (document_rules x) a.units ++ (cut r).0, (cut r).1)) nothing_left
          ∙ ap (λ l. (l, [])) (append-nil (lines_of (document_rules x) a.units));
      envelopes = (joined es, a.situation.table);
      all_fit = walk a.units 0 bytes a.situation a.rest at_start
          (record { statics = x.statics; strings = [] }) 0 tt a.lead;
      written = written none;
    }

pub built : AcceptedIsBuilt
built x bytes none = built_of x bytes ((accepted_or_offended (lines_of_documents x) (readable x)
    bytes).0 none) none
