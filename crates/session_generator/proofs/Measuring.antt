-- The line of a session, by what both ends measure, and what is written of it.
use Rattle.std.proofs.Common.{◌≡◌, ℕ, List, [], ◌++◌, length, OnOk, Ok, Err, Option, Result}
use Rattle.std.proofs.Common.{sym, refl, ap, ◌∙◌, subst, append-nil}
use Rattle.{std.specs.Prelude.⊤, nbfx_encoder.specs.Placing.Placed}
use Rattle.io_edges.specs.{declared.SinkFault.SinkFault, Faults.CountsFaults, Puts.Puts}
use Rattle.io_edges.specs.Flow.{GrowsByPrefix, Told}
use Rattle.string_tables.specs.{SessionStrings.used_cost, StaticStrings.Entry}
use Rattle.nbfx_values.specs.{declared.content.Item.Item, Limits.Limits}
use Rattle.stream_loop.proofs.{Grown.all_written, Writing.counted_with, Writing.known_told}
use Rattle.session_generator.specs.declared.summary.Summary.TheVariants.{WriteFault}
use Rattle.session_generator.specs.{Generated.session_of, Measuring.summary_by}
use Rattle.session_generator.specs.Summary.{IsWithinQuota, line_of, Summarizes, summary_line}
use Rattle.session_generator.specs.Summary.{summary_of, Writes}
use Rattle.io_edges.specs.Views.{SinkView}
use Rattle.io_edges.specs.declared.SinkFault.TheVariants as sinks

-- by the session's own numbers
pub measured_line : (limits : Limits) (statics : List Entry) (documents : List (List Item))
    (session : Placed (List ℕ)) → session_of limits statics documents ≡ Ok session
    → (d b s u : ℕ) → d ≡ length documents → b ≡ length session.0
    → s ≡ length session.1.strings → u ≡ used_cost session.1.strings
    → summary_line d b s u ≡ summary_of limits statics documents
measured_line limits statics documents session is d b s u d_is b_is s_is u_is =
    rw (d_is, b_is, s_is, u_is) (sym (ap (line_of (length documents)) is))

-- a line was put and is all written, or first bytes of it are
abbrev pub Wrote : (line : List ℕ) → Result ⊤ SinkFault → (w : Option (List ℕ)) → (held : List ℕ)
    → (w' : Option (List ℕ)) → Type 0
Wrote line (Ok done) w held w' = Told w w' (λ w w'. w' ≡ w ++ held ++ line)
Wrote line (Err fault) w held w' = Told w w' (λ w w'. GrowsByPrefix w w' (held ++ line))

pub wrote : (first now : SinkView) (line : List ℕ) (answer : Result ⊤ SinkFault)
    → Puts first now line answer → OnOk answer (now.held ≡ [])
    → Wrote line answer first.written first.held now.written
wrote first now line (Ok done) puts emptied =
    known_told (λ w w'. w' ≡ w ++ first.held ++ line) first.written now.written
    (all_written first now line puts emptied)
wrote first now line (Err fault) puts emptied = puts.refused

-- what is known of a sink that gathers is known of the one beneath, where nothing was gathered
-- first
pub beneath : (Known : Option (List ℕ) → List ℕ → Option (List ℕ) → Type 0)
    (sink first last result : SinkView) (gathered : List ℕ) → sink ≡ first → gathered ≡ [] → result
    ≡ last
    → Known sink.written (sink.held ++ gathered) last.written
    → Known first.written first.held result.written
beneath Known sink first last result gathered same none taken known =
    let plain : sink.held ++ gathered ≡ sink.held =
    ap (λ l. sink.held ++ l) none ∙ append-nil sink.held in
    let one = subst (λ l. Known sink.written l last.written) plain known in
    let two = subst (λ s. Known s.written s.held last.written) same one in
    subst (λ s. Known first.written first.held s.written) (sym taken) two

-- ---- the line of these documents

failed_by : (answer : Result ⊤ SinkFault) → summary_by answer ≡ WriteFault
    → answer ≡ Err sinks.Failed
failed_by (Ok done) is = cc
failed_by (Err sinks.Failed) is = refl
failed_by (Err sinks.Memory) is = cc

module _ (limits : Limits) (statics : List Entry) (documents : List (List Item)) where
  written_by : (o o' : SinkView) (line : List ℕ) (answer : Result ⊤ SinkFault)
      → IsWithinQuota limits statics documents
      → line ≡ summary_of limits statics documents → Wrote line answer o.written o.held o'.written
      → Writes limits statics documents o o' (summary_by answer)
  written_by o o' line (Ok done) within is h = (
    within,
    subst (λ (l : List ℕ).
        Told o.written o'.written (λ w w'. w' ≡ w ++ o.held ++ l)) is h,
  )
  written_by o o' line (Err sinks.Failed) within is h =
      subst (λ (l : List ℕ). Told o.written o'.written (λ w w'. GrowsByPrefix w w' (o.held ++ l)))
      is h
  written_by o o' line (Err sinks.Memory) within is h =
      subst (λ (l : List ℕ). Told o.written o'.written (λ w w'. GrowsByPrefix w w' (o.held ++ l)))
      is h

  pub summarized : (first result : SinkView) (line : List ℕ) (answer : Result ⊤ SinkFault)
      → IsWithinQuota limits statics documents → line ≡ summary_of limits statics documents
      → Wrote line answer first.written first.held result.written
      → CountsFaults first.faults result.faults (answer ≡ Err sinks.Failed)
      → Summarizes limits statics documents first result (summary_by answer)
  summarized first result line answer within is wrote counted = record {
    writes = written_by first result line answer within is wrote;
    counted = counted_with _ _ _ _ _ refl counted (failed_by answer) (λ e. ap summary_by e);
  }
