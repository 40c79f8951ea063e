-- Input of a few lines: what is written of it, and why it is refused, by computation alone.
use Rattle.std.proofs.Common.{◌≡◌, ℕ, List, [], ◌∷◌, ◌++◌, map, Some, None, codes, Option, refl}
use Rattle.std.{proofs.Common.inl, proofs.Common.inr, specs.Prelude.⊤, specs.Char.encode_utf8}
use Rattle.unit_streams.specs.{Grammar.peel, Grammar.peeled, Grammar.standing, Judging.refusal_at}
use Rattle.unit_streams.specs.Judging.{ending_at, event_at, history, history_from, offence}
use Rattle.unit_streams.specs.Tellers.{report, state_behind, told_along}
use Rattle.multibyte_ints.specs.{Integer.shortest, Integer.shortest_within, Text.string_bytes_of}
use Rattle.nbfx_values.specs.declared.session.Kind.{Kind, TheVariants.Plain, TheVariants.Session}
use Rattle.nbfx_values.specs.declared.session.Mode.{Mode}
use Rattle.nbfx_values.specs.declared.session.Mode.TheVariants.{Duplex, Simplex, Singleton}
use Rattle.nbfx_values.specs.Limits.{Limits, limits, usual_limits}
use Rattle.nbfx_encoder.specs.declared.faults.EncodeFault.TheVariants.{TooDeep}
use Rattle.line_notation.proofs.OnLiterals.{lines_on_literals}
use Rattle.line_notation.specs.declared.reader.LineKind.TheVariants.{Cut, NotALine, OutOfPlace}
use Rattle.line_notation.specs.declared.reader.LineKind.TheVariants.{WrongCount}
use Rattle.document_lines.specs.{declared.InputFault.InputFault, Refused.RefusesLine}
use Rattle.document_lines.specs.declared.InputFault.TheVariants.{Line, TooLong, Unfit}
use Rattle.document_lines.specs.Input.{envelopes_and_end, lines_of_documents, Settings}

-- the input, what is written of it, and why it is refused
abbrev Row : Type 0
Row = List ℕ × (List ℕ × Option InputFault)

abbrev AreWritten : Limits → Kind → Mode → List Row → Type 0
AreWritten q kind mode rows =
    let x : Settings = record { limits = q; kind = kind; mode = mode; statics = [] } in
    map (λ (r : Row). (
      report (lines_of_documents x) envelopes_and_end r.0,
      offence (lines_of_documents x) r.0,
    )) rows ≡ map (λ (r : Row). r.1) rows

-- what a proof unfolds to compute input
unfoldable pub input_on_literals : ⊤
unfolding lines_on_literals encode_utf8 shortest shortest_within string_bytes_of report told_along
    state_behind offence history history_from event_at refusal_at ending_at standing peel peeled
input_on_literals = tt

-- an element `x`
abbrev one : List ℕ
one = codes "start \"\" \"x\"\nclose\n"

-- nothing, an element, the same twice, of which the first brings its name, and with empty lines
in_sessions : AreWritten usual_limits Session Duplex (
    ([], (7 ∷ [], None)) ∷
    (one, (6 ∷ 6 ∷ 2 ∷ 1 ∷ 0x78 ∷ 0x42 ∷ 1 ∷ 1 ∷ 7 ∷ [], None)) ∷
    (one ++ one, (6 ∷ 6 ∷ 2 ∷ 1 ∷ 0x78 ∷ 0x42 ∷ 1 ∷ 1 ∷ 6 ∷ 4 ∷ 0 ∷ 0x42 ∷ 1 ∷ 1 ∷ 7 ∷ [], None)) ∷
    (codes "\n\n" ++ one ++ codes "\n", (6 ∷ 6 ∷ 2 ∷ 1 ∷ 0x78 ∷ 0x42 ∷ 1 ∷ 1 ∷ 7 ∷ [], None)) ∷
    [])
unfolding input_on_literals
in_sessions = refl

-- without strings of a session
under_encoding_7 : AreWritten usual_limits Plain Simplex (
    (one, (6 ∷ 4 ∷ 0x40 ∷ 1 ∷ 0x78 ∷ 1 ∷ 7 ∷ [], None)) ∷
    [])
unfolding input_on_literals
under_encoding_7 = refl

-- one document alone: a second is refused at its first line, and none at the line after the last
in_singleton_mode : AreWritten usual_limits Session Singleton (
    (one, (5 ∷ 6 ∷ 2 ∷ 1 ∷ 0x78 ∷ 0x42 ∷ 1 ∷ 1 ∷ 0 ∷ 7 ∷ [], None)) ∷
    (one ++ codes "\n", (5 ∷ 6 ∷ 2 ∷ 1 ∷ 0x78 ∷ 0x42 ∷ 1 ∷ 1 ∷ 0 ∷ 7 ∷ [], None)) ∷
    (one ++ one, (5 ∷ 6 ∷ 2 ∷ 1 ∷ 0x78 ∷ 0x42 ∷ 1 ∷ 1 ∷ 0 ∷ [], Some (Line 3 WrongCount))) ∷ (
      one ++ codes "start \"\" x\n",
      (
        5 ∷ 6 ∷ 2 ∷ 1 ∷ 0x78 ∷ 0x42 ∷ 1 ∷ 1 ∷ 0 ∷ [],
        Some (Line 3 NotALine),
      ),
    ) ∷ (
      one ++ codes "close\n",
      (
        5 ∷ 6 ∷ 2 ∷ 1 ∷ 0x78 ∷ 0x42 ∷ 1 ∷ 1 ∷ 0 ∷ [],
        Some (Line 3 OutOfPlace),
      ),
    ) ∷
    (one ++ codes "s", (5 ∷ 6 ∷ 2 ∷ 1 ∷ 0x78 ∷ 0x42 ∷ 1 ∷ 1 ∷ 0 ∷ [], Some (Line 3 Cut))) ∷
    ([], ([], Some (Line 1 WrongCount))) ∷
    (codes "\n", ([], Some (Line 2 WrongCount))) ∷
    [])
unfolding input_on_literals
in_singleton_mode = refl

-- lines that are none, and input that ends within a document or within a line
lines_refused : AreWritten usual_limits Session Duplex (
    (codes "start \"\" x\n", ([], Some (Line 1 NotALine))) ∷
    (one ++ codes "close\n", (6 ∷ 6 ∷ 2 ∷ 1 ∷ 0x78 ∷ 0x42 ∷ 1 ∷ 1 ∷ [], Some (Line 3 OutOfPlace))) ∷
    (codes "start \"\" \"x\"\n", ([], Some (Line 2 Cut))) ∷
    (codes "start \"\" \"x\"\n\n", ([], Some (Line 2 NotALine))) ∷
    (codes "start \"\" \"x\"", ([], Some (Line 1 Cut))) ∷
    (one ++ codes "start", (6 ∷ 6 ∷ 2 ∷ 1 ∷ 0x78 ∷ 0x42 ∷ 1 ∷ 1 ∷ [], Some (Line 3 Cut))) ∷
    [])
unfolding input_on_literals
lines_refused = refl

-- the second document isn't within the quotas; so is the first where its last byte reaches the
-- session quota
documents_refused : AreWritten (limits 65536 1 2048 262144 2048 100) Session Duplex ((
  one ++ codes "start \"\" \"x\"\nstart \"\" \"x\"\nclose\nclose\n",
  (6 ∷ 6 ∷ 2 ∷ 1 ∷ 0x78 ∷ 0x42 ∷ 1 ∷ 1 ∷ [], Some (Unfit 1 (TooDeep 2))),
) ∷
    [])
unfolding input_on_literals
documents_refused = refl

refused_at_the_quota : AreWritten (limits 65536 0 2048 262144 2048 19) Session Duplex (
    (one, ([], Some (Unfit 0 (TooDeep 1)))) ∷
    [])
unfolding input_on_literals
refused_at_the_quota = refl

-- as many bytes as the session quota, whose last completes a document
too_long : AreWritten (limits 65536 4 2048 262144 2048 19) Session Duplex (
    (one, (6 ∷ 6 ∷ 2 ∷ 1 ∷ 0x78 ∷ 0x42 ∷ 1 ∷ 1 ∷ [], Some TooLong)) ∷
    (codes "\n\n\n\n\n\n\n\n\n\n\n\n\n\n\n\n\n\n", (7 ∷ [], None)) ∷
    (codes "\n\n\n\n\n\n\n\n\n\n\n\n\n\n\n\n\n\n\n", ([], Some TooLong)) ∷
    [])
unfolding input_on_literals
too_long = refl

-- ---- why a line is refused

abbrev first_line : List ℕ
first_line = codes "start \"\" \"x\""

abbrev lines_of_one : List (List ℕ)
lines_of_one = first_line ∷ codes "close" ∷ []

-- it has no form, or may not stand there
no_line : RefusesLine Duplex (codes "start \"\" x\n") [] (codes "start \"\" x" ∷ []) NotALine
unfolding input_on_literals
no_line = record { line = codes "start \"\" x"; rest = []; next = refl; bad = refl }

out_of_place : RefusesLine Duplex (one ++ codes "close\n") lines_of_one (codes "close" ∷ [])
    OutOfPlace
unfolding input_on_literals
out_of_place = record { line = codes "close"; rest = []; next = refl; bad = refl }

-- it begins a second document in singleton mode, or would begin the only one
another : RefusesLine Singleton (one ++ one) lines_of_one lines_of_one WrongCount
unfolding input_on_literals
another = inl (record {
  line = first_line;
  rest = codes "close" ∷ [];
  next = refl;
  alone = refl;
  one = refl;
  between = refl;
  good = refl;
  begins = refl;
})

without_any : RefusesLine Singleton (codes "\n") ([] ∷ []) [] WrongCount
unfolding input_on_literals
without_any = inr (record {
  none_left = refl;
  no_bytes = refl;
  alone = refl;
  none = refl;
  between = refl;
})

-- the input ends within a document, or within a line; not behind the last line of a document
within_document : RefusesLine Duplex (first_line ++ codes "\n") (first_line ∷ []) [] Cut
unfolding input_on_literals
within_document = record { none_left = refl; within = inl refl }

within_line : RefusesLine Duplex (codes "start") [] [] Cut
unfolding input_on_literals
within_line = record { none_left = refl; within = inr (λ e. cc) }

not_within : RefusesLine Duplex one lines_of_one [] Cut → ⊥
unfolding input_on_literals
not_within h = elim h.within [
  | inl begun ↦ cc
  | inr more ↦ more refl
]
