-- The payload of a document is within the quota, where nothing of the stream before is refused.
use Rattle.std.proofs.Common.{◌≡◌, ℕ, ◌+◌, ◌<◌, ◌≤◌, false, List, [], ◌++◌, length, Some, None}
use Rattle.std.proofs.Common.{Option, option_map, sym, refl, ap, ◌∙◌, subst, arith, length-append}
use Rattle.std.proofs.{Common.take_all, lemmas.List.take-append-le}
use Rattle.unit_streams.proofs.{Fronts.whole_some, Refusals.unit_standing}
use Rattle.unit_streams.proofs.{Passing.given_some, Passing.refusal_from, Standing.standing_nothing}
use Rattle.unit_streams.specs.{Front.whole, Grammar.Standing, Grammar.standing, Refusals.AreUnits}
use Rattle.unit_streams.specs.Judging.{event_at, refusal_at}
use Rattle.nbfx_values.specs.declared.refusals.Offence.{Offence}
use Rattle.nmf_records.specs.declared.frame.Frame.{Frame}
use Rattle.stream_reader.specs.Laws.{IsUnrefusedBefore, open_payload}
use Rattle.stream_reader.specs.Stream.{after, after_bare, behind_payload, chunk_due, chunked}
use Rattle.stream_reader.specs.Stream.{completed, completed_bare, completed_payload, Envelope}
use Rattle.stream_reader.specs.Stream.{frame, is_chunked, message, offence_at, on_open, on_payload}
use Rattle.stream_reader.specs.Stream.{OpenPayload, payload_begun, payload_by, payload_byte}
use Rattle.stream_reader.specs.Stream.{payload_open, reason_in, record_due, refused}
use Rattle.stream_reader.specs.Stream.{refused_payload, Settings, Situation, sized, Stage, stream}
use Rattle.stream_reader.specs.Stream.{StreamEvent, StreamUnit, unit_in, with_byte, with_chunk}
use Rattle.stream_reader.proofs.{Grammar.readable, Prefixes.units_keep, RightRecords.right_size}
use Rattle.stream_reader.proofs.Outcomes.{goes_on, is_refused, is_whole, outcome, wants_chunk}
use Rattle.stream_reader.proofs.Left.{none_both, none_mapped}
use Rattle.nmf_records.specs.declared.frame.Frame.TheVariants as frames

-- the sizes of payloads that are open, or of the document that is told
abbrev FitsOpen : Settings → Stage → Type 0
FitsOpen x stage = (o : OpenPayload) → open_payload stage ≡ Some o → o.size ≤ x.limits.payload

abbrev size_told : Option StreamEvent → ℕ
size_told (Some (message e)) = e.size
size_told event = 0

module _ (x : Settings) (z : Situation) where
  -- behind bytes of a payload
  behind_fits : (p : OpenPayload) → p.size ≤ x.limits.payload
      → FitsOpen x (behind_payload x z p).stage
  behind_fits p low o is =
      elim (outcome x z p) [
        | goes_on more b c ↦
            let same : Some p ≡ Some o = ap (λ (s : Situation). open_payload s.stage) (sym b) ∙ is
            in
            let one : p ≡ o = cc in subst (λ (q : OpenPayload). q.size ≤ x.limits.payload) one low
        | wants_chunk none h b c ↦
            let same : Some p ≡ Some o = ap (λ (s : Situation). open_payload s.stage) (sym b) ∙ is
            in
            let one : p ≡ o = cc in subst (λ (q : OpenPayload). q.size ≤ x.limits.payload) one low
        | is_whole all none b c ↦
            let bad = ap (λ (s : Situation). open_payload s.stage) (sym b) ∙ is in cc
        | is_refused all r h b c ↦
            let bad = ap (λ (s : Situation). open_payload s.stage) (sym b) ∙ is in cc
      ]

  -- a document that is told has this size, and all bytes are there
  record IsTold (p : OpenPayload) (e : Envelope) : Type 0 where
    none_left : p.left ≡ 0
    last : is_chunked p.form ≡ false
    size : e.size ≡ p.size

  told_size : (p : OpenPayload) (e : Envelope) → completed_payload x z p ≡ Some (message e)
      → IsTold p e
  told_size p e some =
      elim (outcome x z p) [
        | goes_on more b c ↦ let bad = sym c ∙ some in cc
        | wants_chunk none h b c ↦ let bad = sym c ∙ some in cc
        | is_whole all none b c ↦ record {
          none_left = all.none_left;
          last = all.last;
          size = ap size_told (sym some ∙ c);
        }
        | is_refused all r h b c ↦ let bad = sym c ∙ some in cc
      ]

  -- behind a record of no payload none is open
  bare_none : (read : Frame) (text : List ℕ) → open_payload (after_bare x z read text).stage ≡ None
  bare_none frames.Via text = refl
  bare_none _ text = refl

  bare_untold : (to : ℕ) (read : Frame) (text : List ℕ) (e : Envelope)
      → completed_bare z to read text ≡ Some (message e) → ⊥
  bare_untold to frames.PreambleEnd text e some = cc
  bare_untold to frames.PreambleAck text e some = cc
  bare_untold to frames.End text e some = cc
  bare_untold to frames.Fault text e some = cc
  bare_untold to read text e some = cc

  -- a payload that a record makes or resumes, where it isn't refused
  made_fits : (from : ℕ) (read : Frame) (text : List ℕ) (p : OpenPayload)
      → reason_in x z.stage read text ≡ None → payload_by x z from read ≡ Some p
      → p.size ≤ x.limits.payload
  made_fits from (frames.SizedEnvelope size) text p fine e =
      let same : payload_begun x z from size sized ≡ p = cc in
      subst (λ (q : OpenPayload). q.size ≤ x.limits.payload) same (right_size x size fine)
  made_fits from frames.UnsizedEnvelope text p fine e =
      let same : payload_begun x z from 0 chunked ≡ p = cc in
      subst (λ (q : OpenPayload). q.size ≤ x.limits.payload) same (omega arith)
  made_fits from (frames.Chunk size) text p fine e = in_chunks z.stage fine e where
    in_chunks : (stage : Stage) → reason_in x stage (frames.Chunk size) text ≡ None
        → payload_by x (record z { stage = stage }) from (frames.Chunk size) ≡ Some p
        → p.size ≤ x.limits.payload
    in_chunks (record_due due) fine e = cc
    in_chunks (payload_open o) fine e = cc
    in_chunks (chunk_due o) fine e =
        let same : with_chunk o size ≡ p = cc in
        subst (λ (q : OpenPayload). q.size ≤ x.limits.payload) same
        (right_size x (o.size + size) fine)
  made_fits from read text p fine e = cc

  -- and one that is whole with it
  told_fits : (from : ℕ) (read : Frame) (p : OpenPayload) → FitsOpen x z.stage
      → payload_by x z from read ≡ Some p → p.left ≡ 0 → is_chunked p.form ≡ false
      → p.size ≤ x.limits.payload
  told_fits from (frames.SizedEnvelope size) p fits e none last =
      let same : payload_begun x z from size sized ≡ p = cc in
      let left = ap (λ (q : OpenPayload). q.left) same in
      let is = ap (λ (q : OpenPayload). q.size) same in omega (arith, left, is, none)
  told_fits from frames.UnsizedEnvelope p fits e none last =
      let same : payload_begun x z from 0 chunked ≡ p = cc in
      let bad = ap (λ (q : OpenPayload). is_chunked q.form) same ∙ last in cc
  told_fits from (frames.Chunk size) p fits e none last = in_chunks z.stage fits e where
    in_chunks : (stage : Stage) → FitsOpen x stage
        → payload_by x (record z { stage = stage }) from (frames.Chunk size) ≡ Some p
        → p.size ≤ x.limits.payload
    in_chunks (record_due due) fits e = cc
    in_chunks (payload_open o) fits e = cc
    in_chunks (chunk_due o) fits e =
        let same : with_chunk o size ≡ p = cc in
        let left : size ≡ 0 = ap (λ (q : OpenPayload). q.left) same ∙ none in
        let is = ap (λ (q : OpenPayload). q.size) same in
        let low = fits o refl in omega (arith, left, is, low)
  told_fits from read p fits e none last = cc

  -- behind a unit that isn't refused
  record_fits : (from : ℕ) (read : Frame) (text : List ℕ) (v : Option OpenPayload)
      → reason_in x z.stage read text ≡ None → payload_by x z from read ≡ v
      → FitsOpen x (on_payload v (behind_payload x z) (after_bare x z read text)).stage
  record_fits from read text (Some p) fine e = behind_fits p (made_fits from read text p fine e)
  record_fits from read text None fine e =
      λ o is. let bad = sym (bare_none read text) ∙ is in cc

  byte_fits : (byte : ℕ) (stage : Stage) → FitsOpen x stage → FitsOpen x z.stage
      → FitsOpen x (on_open stage (λ p. behind_payload x z (with_byte x z p byte)) z).stage
  byte_fits byte (record_due due) fits own = own
  byte_fits byte (chunk_due p) fits own = own
  byte_fits byte (payload_open p) fits own = behind_fits (with_byte x z p byte) (fits p refl)

  unit_fits : (from : ℕ) (u : StreamUnit) → FitsOpen x z.stage → refused x z from u ≡ None
      → FitsOpen x (after x z from u).stage
  unfolding after refused
  unit_fits from (frame read) fits ok =
      let none = none_both (option_map (offence_at from) (reason_in x z.stage read.frame read.text))
      (on_payload (payload_by x z from read.frame) (refused_payload x z) None) ok in
      record_fits from read.frame read.text (payload_by x z from read.frame)
      (none_mapped (offence_at from) (reason_in x z.stage read.frame read.text) none.0) refl
  unit_fits from (payload_byte byte) fits ok = byte_fits byte z.stage fits fits

  -- and the document that a unit brings
  record_told : (from to : ℕ) (read : Frame) (text : List ℕ) (v : Option OpenPayload) (e : Envelope)
      → FitsOpen x z.stage → payload_by x z from read ≡ v
      → on_payload v (completed_payload x z) (completed_bare z to read text) ≡ Some (message e)
      → e.size ≤ x.limits.payload
  record_told from to read text (Some p) e fits is some =
      let t = told_size p e some in
      let low = told_fits from read p fits is t.none_left t.last in
      let size = t.size in omega (arith, low, size)
  record_told from to read text None e fits is some = absurd (bare_untold to read text e some)

  byte_told : (byte : ℕ) (stage : Stage) (e : Envelope) → FitsOpen x stage
      → on_open stage (λ p. completed_payload x z (with_byte x z p byte)) None ≡ Some (message e)
      → e.size ≤ x.limits.payload
  byte_told byte (record_due due) e fits some = cc
  byte_told byte (chunk_due p) e fits some = cc
  byte_told byte (payload_open p) e fits some =
      let size = (told_size (with_byte x z p byte) e some).size in
      let low = fits p refl in omega (arith, size, low)

  unit_told : (from to : ℕ) (u : StreamUnit) (e : Envelope) → FitsOpen x z.stage
      → completed x z from to u ≡ Some (message e) → e.size ≤ x.limits.payload
  unfolding completed
  unit_told from to (frame read) e fits some =
      record_told from to read.frame read.text (payload_by x z from read.frame) e fits refl some
  unit_told from to (payload_byte byte) e fits some = byte_told byte z.stage e fits some

module _ (x : Settings) where
  -- of whole units of which none is refused, and the last of which may be
  record FitsAt (p : List ℕ) : Type 0 where
    opened : IsUnrefusedBefore x p → refusal_at (stream x) p ≡ None
        → FitsOpen x (standing (stream x) p).situation.stage
    told : IsUnrefusedBefore x p → (e : Envelope)
        → (standing (stream x) p).event ≡ Some (message e) → e.size ≤ x.limits.payload

  fits_first : FitsAt []
  fits_first =
      let s = standing_nothing (stream x) (readable x) in
      record {
        opened = λ before none o is.
            let bad = ap (λ (w : Standing Situation StreamEvent Offence).
            open_payload w.situation.stage) (sym s) ∙ is in cc;
        told = λ before e some.
            let bad = ap (λ (w : Standing Situation StreamEvent Offence). w.event) (sym s) ∙ some in
            cc;
      }

  module _ (before bytes : List ℕ) (u : StreamUnit) (units : AreUnits (stream x) before)
      (reads : (stream x).unit_at (standing (stream x) before).situation
      (standing (stream x) before).from bytes ≡ whole u (length bytes)) (h : FitsAt before) where
    some_bytes : 0 < length bytes
    some_bytes =
        (whole_some (unit_in x (standing (stream x) before).situation.stage
        (standing (stream x) before).from)
        ((readable x).reads (standing (stream x) before).situation
        (standing (stream x) before).from)
        ((readable x).nothing (standing (stream x) before).situation
        (standing (stream x) before).from) bytes u (length bytes) reads).0

    fits_before : IsUnrefusedBefore x (before ++ bytes)
        → FitsOpen x (standing (stream x) before).situation.stage
    fits_before unrefused =
        let size = length-append before bytes in
        let some = some_bytes in
        h.opened
        (λ n lt. ap (refusal_at (stream x)) (sym (take-append-le n before bytes (omega arith)))
        ∙ unrefused n (omega (arith, size, some, lt)))
        (ap (refusal_at (stream x)) (sym (take-append-le (length before) before bytes (omega arith)
        ∙ take_all (length before) before (omega arith)))
        ∙ unrefused (length before) (omega (arith, size, some)))

    fits_behind : FitsAt (before ++ bytes)
    fits_behind =
        let s = unit_standing (stream x) (readable x) before bytes u units reads in
        record {
          opened = λ unrefused none.
              let ok = (none_both _ _ (sym (refusal_from (stream x) (before ++ bytes) _ s) ∙
              none)).0 in
              subst (λ (w : Standing Situation StreamEvent Offence). FitsOpen x w.situation.stage)
              (sym s)
              (unit_fits x (standing (stream x) before).situation (standing (stream x) before).from
              u
              (fits_before unrefused) ok);
          told = λ unrefused e some.
              unit_told x (standing (stream x) before).situation (standing (stream x) before).from
              ((standing (stream x) before).from + length bytes) u e (fits_before unrefused)
              (ap (λ (w : Standing Situation StreamEvent Offence). w.event) (sym s) ∙ some);
        }

  pub payloads_fit : (p : List ℕ) (e : Envelope) → event_at (stream x) p ≡ Some (message e)
      → IsUnrefusedBefore x p → e.size ≤ x.limits.payload
  unfolding event_at
  payloads_fit p e some unrefused =
      let last = given_some (standing (stream x) p).begun (standing (stream x) p).event (message e)
      some in
      (units_keep (stream x) (readable x) FitsAt fits_behind fits_first p last.0).told unrefused e
      last.1
