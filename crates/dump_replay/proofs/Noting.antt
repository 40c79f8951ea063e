-- What a put of a note leaves.
use Rattle.std.proofs.Common.{◌≡◌, ℕ, false, ◌⊎◌, List, [], ◌∷◌, ◌++◌}
use Rattle.std.proofs.Common.{Some, None, Ok, Err, codes, Option, Result, sym, refl, ap}
use Rattle.std.proofs.Common.{◌∙◌, inl, inr, append_assoc, append-nil, arith}
use Rattle.{std.specs.Prelude.⊤, nbfx_values.specs.declared.refusals.Offence.Offence}
use Rattle.io_edges.specs.declared.{SinkFault.SinkFault, fault.FileFault.FileFault}
use Rattle.io_edges.specs.{Faults.Rose, Puts.Puts, Views.SinkView}
use Rattle.io_edges.specs.Flow.{GrowsByPrefix, Told}
use Rattle.stream_loop.proofs.{Grown.all_written, Writing.after_flush, Writing.known_told}
use Rattle.stream_loop.proofs.Writing.{put_either, told_as}
use Rattle.session_report.specs.Report.{offence_line}
use Rattle.document_lines.specs.declared.fetching.DocumentsFault.{DocumentsFault}
use Rattle.dump_replay.specs.{Calling.note_of_documents, Noting.Notes, Running.note_of_file}
use Rattle.io_edges.specs.declared.SinkFault.TheVariants as faults
use Rattle.io_edges.specs.declared.fault.FileFault.TheVariants as files
use Rattle.nbfx_encoder.specs.declared.faults.EncodeFault.TheVariants as unfit
use Rattle.document_lines.specs.declared.InputFault.TheVariants as inputs
use Rattle.document_lines.specs.declared.fetching.DocumentsFault.TheVariants as lists

-- a put that failed
pub note_cut : {text : List ℕ} (fault : SinkFault) {k k' : SinkView} → Puts k k' text (Err fault)
    → Notes k k' text
note_cut {text = text} fault {k = k} {k' = k'} p = record {
  grows = p.refused;
  whole = λ sure well. absurd (never fault refl sure well);
  faults = p.counted.grows;
}
  where
    never : (v : SinkFault) → fault ≡ v → k.may_run_out ≡ false → (Rose k.faults k'.faults → ⊥) → ⊥
    never faults.Failed is sure well = well (p.counted.rose (ap Err is))
    never faults.Memory is sure well = let may = p.memory (ap Err is) in cc

module _ (text : List ℕ) (k k' : SinkView) where
  -- the text was written behind what was held
  abbrev IsWhole : List ℕ → List ℕ → Type 0
  IsWhole w w' = w' ≡ w ++ k.held ++ text

  as_whole : Told k.written k'.written IsWhole
      → Told k.written k'.written (λ w w'. (w' ≡ w ++ k.held ++ text) ⊎ (text ≡ []))
  as_whole whole = told_as IsWhole (λ l l'. (l' ≡ l ++ k.held ++ text) ⊎ (text ≡ [])) k.written
      k'.written whole (λ l l' e. inl e)

  as_one : Told k.written k'.written IsWhole
      → Told k.written k'.written (λ w w'. w' ≡ w ++ (k.held ++ text))
  as_one whole = told_as IsWhole (λ l l'. l' ≡ l ++ (k.held ++ text)) k.written k'.written whole
      (λ l l' e. e ∙ append_assoc l k.held text)

-- a put, and a flush behind it
pub note_put : {text : List ℕ} (r : Result ⊤ SinkFault) {k k1 k2 : SinkView}
    → Puts k k1 text (Ok tt) → Puts k1 k2 [] r → k2.held ≡ [] → Notes k k2 text
note_put {text = text} (Ok u) {k = k} {k2 = k2} p flushed emptied =
    let all = after_flush (Ok u) p flushed in
    let whole = known_told (IsWhole text k k2) k.written k2.written
    (all_written k k2 text all emptied) in
    record {
      grows = put_either (Ok u) k.written k2.written (k.held ++ text) (as_one text k k2 whole) tt;
      whole = λ sure well. as_whole text k k2 whole;
      faults = all.counted.grows;
    }
note_put (Err fault) p flushed emptied = note_cut fault (after_flush (Err fault) p flushed)

-- no note
pub note_none : (k : SinkView) → Notes k k []
note_none k = record {
  grows = nothing k.written;
  whole = λ sure well. none k.written;
  faults = omega arith;
}
  where
    nothing : (w : Option (List ℕ)) → Told w w (λ w w'. GrowsByPrefix w w' (k.held ++ []))
    nothing None = tt
    nothing (Some l) = record { kept = 0; grown = sym (append-nil l) }

    none : (w : Option (List ℕ))
        → Told w w (λ w w'. (w' ≡ w ++ k.held ++ []) ⊎ (◌≡◌ {A = List ℕ} [] []))
    none None = tt
    none (Some l) = inr refl

-- the line of an offence is a note
pub offence_line_some : (o : Offence) → offence_line o ≡ [] → ⊥
unfolding offence_line
offence_line_some o e = cc

-- and so is that of a file that isn't read
append_some : (name more : List ℕ) → (more ≡ [] → ⊥) → name ++ more ≡ [] → ⊥
append_some [] more some e = some e
append_some (one ∷ rest) more some e = cc

pub note_of_file_some : {K : Type 0} (kind_name : K → List ℕ) (name : List ℕ) (fault : FileFault K)
    → note_of_file kind_name name fault ≡ [] → ⊥
note_of_file_some kind_name name files.Missing e = append_some name _ (λ none. cc) e
note_of_file_some kind_name name (files.Bad row kind) e =
    append_some _ (codes "\n") (λ none. cc) e
note_of_file_some kind_name name files.Failed e = cc
note_of_file_some kind_name name files.Memory e = cc

pub note_of_documents_some : (name : List ℕ) (fault : DocumentsFault)
    → note_of_documents name fault ≡ [] → ⊥
note_of_documents_some name lists.Missing e = append_some name _ (λ none. cc) e
note_of_documents_some name (lists.Refused (inputs.Line n kind)) e =
    append_some name _ (λ none. cc) e
note_of_documents_some name (lists.Refused (inputs.Unfit number (unfit.TooDeep v))) e = cc
note_of_documents_some name (lists.Refused (inputs.Unfit number (unfit.TooMuchContent v))) e = cc
note_of_documents_some name (lists.Refused (inputs.Unfit number (unfit.NoIdForQName v))) e = cc
note_of_documents_some name (lists.Refused (inputs.Unfit number (unfit.TooLarge v))) e = cc
note_of_documents_some name (lists.Refused (inputs.Unfit number unfit.Memory)) e = cc
note_of_documents_some name (lists.Refused inputs.TooLong) e = cc
note_of_documents_some name lists.Failed e = cc
note_of_documents_some name lists.Memory e = cc
