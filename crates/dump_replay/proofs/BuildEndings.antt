-- The writing of a session: its preamble, and what its ending says.
use Rattle.std.proofs.Common.{◌≡◌, ℕ, zero, suc, ◌+◌, ◌/◌, ◌%◌, ◌≤◌, Bool, true, false, List, []}
use Rattle.std.proofs.Common.{◌∷◌, ◌++◌, length, if◌then◌else◌, nat_lt, refl, arith, length-append}
use Rattle.{string_tables.specs.StaticStrings.Entry, command_words.specs.Tasks.Opening}
use Rattle.multibyte_ints.specs.{Integer.shortest, Integer.shortest_within, Text.string_bytes_of}
use Rattle.nbfx_values.specs.{Limits.IsGood, Limits.Limits, Session.content_type}
use Rattle.nbfx_values.specs.declared.session.Encoding.{Encoding, TheVariants.Extensible}
use Rattle.nbfx_values.specs.declared.session.Encoding.TheVariants.{Known}
use Rattle.nmf_records.specs.declared.record_types.TheConstants.{PREAMBLE_END}
use Rattle.initiator_machine.specs.Opening.{encoding_bytes}
use Rattle.stream_loop.specs.{Answers.EndsWithin, Edges.Input}
use Rattle.document_lines.proofs.Lines.{begins, bounded, closes}
use Rattle.document_lines.specs.Input.{envelopes_and_end, lines_of_documents, Settings}
use Rattle.dump_replay.specs.Building.{Builds, preamble_of, settings_for_building}
use Rattle.dump_replay.proofs.Beginnings.{not_begun}
use Rattle.io_edges.specs.Views.{SinkView}
use Rattle.stream_loop.specs.declared.reporting.ReportEnding.TheVariants as endings
use Rattle.nbfx_values.specs.declared.session.Kind.TheVariants as kinds

-- the loop may read lines of documents
pub lines_end_within : (x : Settings) → IsGood x.limits
    → EndsWithin (lines_of_documents x) (λ envelope. false) x.limits.session
lines_end_within x good = record {
  closes = closes x;
  first = begins x good.session_least;
  within = λ p pending. let few = bounded x p pending in omega (arith, few);
}

-- ---- the preamble

short_within : (k n : ℕ) → length (shortest_within k n) ≤ suc k
unfolding shortest_within
short_within zero n = omega arith
short_within (suc k) n = by_test (short_within k (n / 128)) (nat_lt n 128) refl where
  by_test : length (shortest_within k (n / 128)) ≤ suc k → (v : Bool) → nat_lt n 128 ≡ v
      → length (if v then n ∷ [] else (n % 128 + 128) ∷ shortest_within k (n / 128))
      ≤ suc (suc k)
  by_test more true is = omega arith
  by_test more false is = omega (arith, more)

string_short : (text : List ℕ) → length (string_bytes_of text) ≤ length text + 5
unfolding string_bytes_of shortest
string_short text =
    let all = length-append (shortest_within 4 (length text)) text in
    let few = short_within 4 (length text) in
    omega (arith, all, few)

encoding_short : (encoding : Encoding) → length (encoding_bytes encoding) ≤ 64
encoding_short (Known kind) = omega arith
encoding_short (Extensible kinds.Plain) =
    let few = string_short (content_type kinds.Plain) in omega (arith, few)
encoding_short (Extensible kinds.Session) =
    let few = string_short (content_type kinds.Session) in omega (arith, few)

-- it is shorter than any room that it is gathered in
pub preamble_short : (opening : Opening) → length opening.via ≤ 2048
    → length (preamble_of opening) ≤ 65536
preamble_short opening short =
    let text : List ℕ = string_bytes_of opening.via in
    let encoding : List ℕ = encoding_bytes opening.encoding in
    let a = length-append (text ++ encoding) (PREAMBLE_END ∷ []) in
    let b = length-append text encoding in
    let c = string_short opening.via in
    let d = encoding_short opening.encoding in
    omega (arith, a, b, c, d, short)

-- ---- there was no memory to begin with

module _ (statics : List Entry) (limits : Limits) (opening : Opening) (good : IsGood limits)
    (i : Input) (o : SinkView)
  where
    abbrev x : Settings
    x = settings_for_building opening statics limits

    pub unbegun : Builds opening statics limits i i o o endings.Memory
    unbegun = not_begun (lines_of_documents x) envelopes_and_end i o
        (o.held ++ preamble_of opening) (λ envelope. false) limits.session
        (lines_end_within x good) tt
