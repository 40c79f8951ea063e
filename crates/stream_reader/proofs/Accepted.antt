-- A stream whose units lead to where the input may end is what a script leaves: unit by unit, from
-- the last to the first.
use Rattle.std.proofs.Common.{ne_eqb}
use Rattle.std.proofs.Common.{◌≡◌, ℕ, zero, suc, ◌+◌, ◌≤◌, Bool, false, List, [], ◌∷◌}
use Rattle.std.proofs.Common.{◌++◌, length, take, if◌then◌else◌, ◌==◌, Some, None, Option, sym, refl}
use Rattle.std.proofs.Common.{option_map, ap, ◌∙◌, subst, append_assoc, append-nil, arith}
use Rattle.std.proofs.lemmas.{List.nil_from_length}
use Rattle.unit_streams.specs.{Front.whole, Grammar.standing, Judging.ending_at}
use Rattle.string_tables.specs.SessionStrings.{used_cost}
use Rattle.nbfx_values.specs.{declared.session.Mode.Mode, Limits.IsGood, Session.mode_number}
use Rattle.nmf_records.specs.{declared.frame.Frame.Frame, Records.IsRecordOf}
use Rattle.nmf_records.specs.RecordFronts.{MayCome, text_limit}
use Rattle.nmf_records.specs.declared.script.{Direction.Direction, Due.Due}
use Rattle.nmf_records.specs.declared.script.Direction.TheVariants.{FromInitiator, FromReceiver}
use Rattle.nmf_records.specs.Script.{leads, may_come, NamesMode}
use Rattle.stream_reader.specs.Scripts.{Context, IsFollowedBy, refused_there}
use Rattle.stream_reader.specs.Stream.{after, after_bare, after_record, behind_payload, chunk_due}
use Rattle.stream_reader.specs.Stream.{chunked, direction_of, last_chunk, offence_at}
use Rattle.stream_reader.specs.Stream.{offence_in, on_open, on_payload, OpenPayload, payload_begun}
use Rattle.stream_reader.specs.Stream.{payload_by, payload_in, payload_open, reason_in, record_due}
use Rattle.stream_reader.specs.Stream.{refusal_in, refused, refused_payload, refused_record}
use Rattle.stream_reader.specs.Stream.{Settings, Situation, sized, Stage, StreamUnit, text_limits}
use Rattle.stream_reader.specs.Stream.{too_large, unit_in, with_byte, with_chunk}
use Rattle.stream_reader.proofs.Coming.{unit_of_chunk, unit_of_payload, unit_of_record}
use Rattle.stream_reader.proofs.DueRecords.{chunk_due as size_due, envelope_due}
use Rattle.stream_reader.proofs.{FromScript.context_of, LoneAck.IsBehindMode}
use Rattle.stream_reader.proofs.Left.{as_due, byte_first, clean_joined, from_preamble, IsCleanFrom}
use Rattle.stream_reader.proofs.Left.{Left, left_behind, LeftAt, LeftDue, none_both, none_mapped}
use Rattle.stream_reader.proofs.Left.{OpenLeft, rest_behind, whole_payload}
use Rattle.stream_reader.proofs.RightRecords.{right_mode, right_size}
use Rattle.stream_reader.proofs.Situations.{begun_behind, byte_behind, chunk_behind}
use Rattle.stream_reader.proofs.Situations.{IsOpenAt}
use Rattle.nmf_records.specs.declared.frame.Frame.TheVariants as frames
use Rattle.nmf_records.specs.declared.script.Due.TheVariants as dues

-- behind the Mode record the preamble's end, and an Ack, come
end_behind : (direction : Direction) (due : Due)
    → MayCome (may_come direction due) frames.PreambleEnd → IsBehindMode (record_due due)
end_behind direction dues.PreambleEnd may = tt
end_behind FromInitiator _ may = cc
end_behind FromReceiver _ may = cc

ack_behind : (direction : Direction) (due : Due)
    → MayCome (may_come direction due) frames.PreambleAck → IsBehindMode (record_due due)
ack_behind direction dues.Ack may = tt
ack_behind FromInitiator _ may = cc
ack_behind FromReceiver _ may = cc

-- where the stream is behind its Mode record its mode is this one
abbrev pub HasMode : Mode → Situation → Type 0
HasMode mode z = IsBehindMode z.stage → z.mode ≡ mode

module _ (x : Settings) (good : IsGood x.limits) (Stop : Type 0) (mode : Mode) (z : Situation)
    (cheap : used_cost z.strings ≤ x.limits.dictionary) where
  abbrev here : List ℕ → Context
  here q = context_of z.kind z.strings q

  module _ (from : ℕ) (due : Due) (at : z.stage ≡ record_due due) (has_mode : HasMode mode z)
      (t c : List ℕ) where
    abbrev d : Direction
    d = direction_of x.side

    -- a record that nothing stands behind
    bare : (read : Frame) (text : List ℕ) (then_context : Context)
        → MayCome (may_come (direction_of x.side) due) read → IsRecordOf read text t
        → length text ≤ text_limit (text_limits x) read
        → refused_there x (context_of z.kind z.strings []) read text ≡ None → NamesMode mode read
        → IsFollowedBy x (context_of z.kind z.strings []) read text [] then_context
        → Left x Stop mode (leads (direction_of x.side) mode due read) then_context c
        → LeftDue x Stop mode due (context_of z.kind z.strings []) (t ++ c)
    bare read text then_context may is low none names followed w =
        as_due x Stop mode due (here []) (t ++ c)
        (subst (λ b. Left x Stop mode due (here []) (b ++ c)) (append-nil t)
        (left_behind x Stop mode due (here []) then_context read text t [] c may names is low none
        followed w))

    -- an envelope of one part
    sized_first : (size : ℕ) (text : List ℕ)
        → MayCome (may_come (direction_of x.side) due) (frames.SizedEnvelope size)
        → IsRecordOf (frames.SizedEnvelope size) text t
        → length text ≤ text_limit (text_limits x) (frames.SizedEnvelope size)
        → reason_in x z.stage (frames.SizedEnvelope size) text ≡ None
        → OpenLeft x Stop mode z.kind z.strings sized size [] c
        → LeftDue x Stop mode due (context_of z.kind z.strings []) (t ++ c)
    sized_first size text may is low none r =
        let n = r.size in
        let doc = whole_payload x good z.kind z.strings r.part cheap
        (let le = right_size x size none in omega (arith, n, le)) r.clean r.next.0 in
        let then_context : Context = context_of z.kind (z.strings ++ doc.own) [] in
        let w : Left x Stop mode due then_context r.more =
        subst (λ (s : List (List ℕ)). Left x Stop mode due (context_of z.kind s []) r.more)
        doc.strings_are
        (subst (λ (m : Due). Left x Stop mode m (context_of z.kind
        (standing (payload_in x z) r.part).situation.strings []) r.more)
        (sym (envelope_due d due size may)) r.next.1) in
        as_due x Stop mode due (here []) (t ++ c)
        (subst (λ b. Left x Stop mode due (here []) b)
        (append_assoc t r.part r.more ∙ ap (λ b. t ++ b) (sym r.bytes_are))
        (left_behind x Stop mode due (here []) then_context (frames.SizedEnvelope size) text t
        r.part r.more may tt is low none (n, (doc.own, doc.items, doc.is_whole, refl)) w))

    pub record_first : (read : Frame) (text : List ℕ)
        → MayCome (may_come (direction_of x.side) due) read → IsRecordOf read text t
        → length text ≤ text_limit (text_limits x) read → reason_in x z.stage read text ≡ None
        → on_payload (payload_by x z from read) (refused_payload x z) None ≡ None
        → HasMode mode (after_record x z from read text)
        → LeftAt x Stop mode (after_record x z from read text)
        (after_record x z from read text).stage c
        → LeftDue x Stop mode due (context_of z.kind z.strings []) (t ++ c)
    record_first (frames.SizedEnvelope size) text may is low none fine then_mode h =
        let o : OpenPayload = payload_begun x z from size sized in
        sized_first size text may is low none
        (rest_behind x Stop mode z o [] c (begun_behind x z from size sized)
        (none_mapped (offence_in z.messages) (refusal_in x z o) fine) h)
    record_first frames.UnsizedEnvelope text may is low none fine then_mode h =
        let o : OpenPayload = payload_begun x z from 0 chunked in
        let r = rest_behind x Stop mode z o [] c (begun_behind x z from 0 chunked)
        (none_mapped (offence_in z.messages) (refusal_in x z o) fine) h in
        let nothing : r.part ≡ [] = nil_from_length r.part r.size in
        let w : IsCleanFrom (payload_in x z) 0 [] → Left x Stop mode dues.Chunk (here []) r.more =
        subst (λ (q : List ℕ). IsCleanFrom (payload_in x z) 0 q
        → Left x Stop mode dues.Chunk (here q) r.more) nothing r.next in
        bare frames.UnsizedEnvelope text (here []) may is low refl tt (refl, refl)
        (subst (Left x Stop mode dues.Chunk (here []))
        (sym (r.bytes_are ∙ ap (λ b. b ++ r.more) nothing))
        (w (λ i some le. absurd (omega (arith, some, le)))))
    record_first (frames.Chunk size) text may is low none fine then_mode h =
        subst (λ (n : Due). LeftDue x Stop mode n (here []) (t ++ c)) (sym (size_due d due size may))
        tt
    record_first (frames.Mode byte) text may is low none fine then_mode h =
        bare (frames.Mode byte) text (here []) may is low none
        (right_mode byte _ refl none ∙ ap mode_number (then_mode tt)) (refl, refl) h
    record_first frames.PreambleEnd text may is low none fine then_mode h =
        bare frames.PreambleEnd text (here []) may is low refl tt (refl, refl)
        (subst (λ (m : Mode). Left x Stop mode (leads d m due frames.PreambleEnd) (here []) c)
        (has_mode (subst IsBehindMode (sym at) (end_behind d due may)))
        (from_preamble x Stop mode d z.mode (here []) c h))
    record_first frames.PreambleAck text may is low none fine then_mode h =
        bare frames.PreambleAck text (here []) may is low refl tt (refl, refl)
        (subst (λ (m : Mode). Left x Stop mode (leads d m due frames.PreambleAck) (here []) c)
        (has_mode (subst IsBehindMode (sym at) (ack_behind d due may)))
        (from_preamble x Stop mode d z.mode (here []) c h))
    record_first read text may is low none fine then_mode h =
        bare read text
        (context_of (after_bare x z read text).kind (after_bare x z read text).strings []) may is low
        none tt (refl, refl) h

  -- the size of a chunk, behind these bytes of the payload
  chunk_first : (size : ℕ) (text q t c : List ℕ) → IsRecordOf (frames.Chunk size) text t
      → length text ≤ text_limit (text_limits x) (frames.Chunk size)
      → length q + size ≤ x.limits.payload
      → refused_there x (context_of z.kind z.strings q) (frames.Chunk size) text ≡ None
      → OpenLeft x Stop mode z.kind z.strings (if size == 0 then last_chunk else chunked) size q c
      → IsCleanFrom (payload_in x z) 0 q
      → Left x Stop mode dues.Chunk (context_of z.kind z.strings q) (t ++ c)
  chunk_first zero text q t c is text_low low none r clean =
      let nothing : r.part ≡ [] = nil_from_length r.part r.size in
      let same : q ++ r.part ≡ q = ap (λ b. q ++ b) nothing ∙ append-nil q in
      let next : (ending_at (payload_in x z) q ≡ None) × Left x Stop mode dues.End
      (context_of z.kind (standing (payload_in x z) q).situation.strings []) r.more =
      subst (λ (b : List ℕ). (ending_at (payload_in x z) b ≡ None) × Left x Stop mode dues.End
      (context_of z.kind (standing (payload_in x z) b).situation.strings []) r.more) same r.next in
      let doc = whole_payload x good z.kind z.strings q cheap (omega (arith, low)) clean next.0 in
      let then_context : Context = context_of z.kind (z.strings ++ doc.own) [] in
      subst (Left x Stop mode dues.Chunk (here q))
      (ap (λ b. b ++ r.more) (append-nil t)
      ∙ ap (λ b. t ++ b) (sym (r.bytes_are ∙ ap (λ b. b ++ r.more) nothing)))
      (left_behind x Stop mode dues.Chunk (here q) then_context (frames.Chunk 0) text t [] r.more
      refl tt is text_low none (refl, (doc.own, doc.items, doc.is_whole, refl))
      (subst (λ (s : List (List ℕ)). Left x Stop mode dues.End (context_of z.kind s []) r.more)
      doc.strings_are next.1))
  chunk_first (suc size) text q t c is text_low low none r clean =
      let some : (suc size == 0) ≡ false = ne_eqb (suc size) 0 (λ e. omega (arith, e)) in
      let r' : OpenLeft x Stop mode z.kind z.strings chunked (suc size) q c =
      subst (λ (b : Bool). OpenLeft x Stop mode z.kind z.strings
      (if b then last_chunk else chunked) (suc size) q c) some r in
      let w = r'.next (clean_joined (payload_in x z) 0 q r'.part clean r'.clean) in
      subst (Left x Stop mode dues.Chunk (here q))
      (append_assoc t r'.part r'.more ∙ ap (λ b. t ++ b) (sym r'.bytes_are))
      (left_behind x Stop mode dues.Chunk (here q) (here (q ++ r'.part)) (frames.Chunk (suc size))
      text t r'.part r'.more refl tt is text_low none (r'.size, refl)
      (subst (λ (b : Bool). Left x Stop mode (if b then dues.End else dues.Chunk)
      (here (q ++ r'.part)) r'.more) (sym some) w))

module _ (x : Settings) (good : IsGood x.limits) (Stop : Type 0) (mode : Mode) where
  -- of a record that isn't refused
  both : (z : Situation) (from : ℕ) (read : Frame) (text : List ℕ)
      → refused_record x z from read text ≡ None
      → (reason_in x z.stage read text ≡ None)
      × (on_payload (payload_by x z from read) (refused_payload x z) None ≡ None)
  both z from read text e =
      let b = none_both (option_map (offence_at from) (reason_in x z.stage read text))
      (on_payload (payload_by x z from read) (refused_payload x z) None) e in
      (none_mapped (offence_at from) (reason_in x z.stage read text) b.0, b.1)

  -- a chunk's size, with the payload that it resumes
  size_first : (z : Situation) (from : ℕ) (o : OpenPayload) (t c : List ℕ) (read : Frame)
      (text : List ℕ) → z.stage ≡ chunk_due o → used_cost z.strings ≤ x.limits.dictionary
      → IsOpenAt x z (chunk_due o)
      → MayCome (may_come (direction_of x.side) dues.Chunk) read → IsRecordOf read text t
      → length text ≤ text_limit (text_limits x) read
      → refused_record x z from read text ≡ None
      → LeftAt x Stop mode (after_record x z from read text)
      (after_record x z from read text).stage c
      → LeftAt x Stop mode z (chunk_due o) (t ++ c)
  size_first z from o t c (frames.Chunk size) text at cheap open_at may is low ok h q behind =
      let w = both z from (frames.Chunk size) text ok in
      let p : OpenPayload = with_chunk o size in
      let made : payload_by x z from (frames.Chunk size) ≡ Some p =
      ap (λ (s : Stage). payload_by x (record z { stage = s }) from (frames.Chunk size)) at in
      let none : refusal_in x z p ≡ None =
      none_mapped (offence_in z.messages) (refusal_in x z p)
      (ap (λ (v : Option OpenPayload). on_payload v (refused_payload x z) None) (sym made) ∙ w.1) in
      let h' : LeftAt x Stop mode (behind_payload x z p) (behind_payload x z p).stage c =
      subst (λ (v : Option OpenPayload).
      LeftAt x Stop mode
      (on_payload v (behind_payload x z) (after_bare x z (frames.Chunk size) text))
      (on_payload v (behind_payload x z) (after_bare x z (frames.Chunk size) text)).stage c) made h
      in
      let left = open_at.none_left in
      let size_is : o.size ≡ length q = let n = behind.counted in omega (arith, n, left) in
      let fits = ap (λ (s : Stage). reason_in x s (frames.Chunk size) text) (sym at) ∙ w.0 in
      let most = right_size x (o.size + size) fits in
      chunk_first x good Stop mode z cheap size text q t c is low (omega (arith, most, size_is))
      (ap (λ n. too_large x (n + size)) (sym size_is) ∙ fits)
      (rest_behind x Stop mode z p q c (chunk_behind x z o q size left behind) none h')
  size_first z from o t c read text at cheap open_at may is low ok h q behind = cc

  pub unit_first : (stage : Stage) (z : Situation) (from : ℕ) (bytes : List ℕ) (u : StreamUnit)
      (n : ℕ) (c : List ℕ) → z.stage ≡ stage → used_cost z.strings ≤ x.limits.dictionary
      → IsOpenAt x z stage → HasMode mode z → unit_in x stage from bytes ≡ whole u n
      → refused x z from u ≡ None → HasMode mode (after x z from u)
      → LeftAt x Stop mode (after x z from u) (after x z from u).stage c
      → LeftAt x Stop mode z stage (take n bytes ++ c)
  unfolding after refused
  unit_first (record_due due) z from bytes u n c at cheap open_at has_mode e ok then_mode h =
      let r = unit_of_record x from bytes u n due e in
      let w = both z from r.0.frame r.0.text (ap (refused x z from) (sym r.1) ∙ ok) in
      record_first x good Stop mode z cheap from due at has_mode (take n bytes) c r.0.frame r.0.text
      r.2.may r.2.bytes_are r.2.low w.0 w.1
      (subst (λ (v : StreamUnit). HasMode mode (after x z from v)) r.1 then_mode)
      (subst (λ (v : StreamUnit). LeftAt x Stop mode (after x z from v) (after x z from v).stage c)
      r.1 h)
  unit_first (chunk_due o) z from bytes u n c at cheap open_at has_mode e ok then_mode h =
      let r = unit_of_chunk x from bytes u n o e in
      size_first z from o (take n bytes) c r.0.frame r.0.text at cheap open_at r.2.may
      r.2.bytes_are r.2.low (ap (refused x z from) (sym r.1) ∙ ok)
      (subst (λ (v : StreamUnit). LeftAt x Stop mode (after x z from v) (after x z from v).stage c)
      r.1 h)
  unit_first (payload_open o) z from bytes u n c at cheap open_at has_mode e ok then_mode h =
      let r = unit_of_payload x from bytes u n o e in
      let y : ℕ = r.0 in
      let front : take n bytes ≡ y ∷ [] = ap (λ k. take k bytes) r.4 ∙ ap (take 1) r.2 in
      let none : refused_payload x z (with_byte x z o y) ≡ None =
      ap (λ (s : Stage). on_open s (λ p. refused_payload x z (with_byte x z p y)) None) (sym at)
      ∙ ap (refused x z from) (sym r.3) ∙ ok in
      let fine = none_mapped (offence_in z.messages) (refusal_in x z (with_byte x z o y)) none in
      let h' : LeftAt x Stop mode (behind_payload x z (with_byte x z o y))
      (behind_payload x z (with_byte x z o y)).stage c =
      subst (λ (s : Stage).
      LeftAt x Stop mode (on_open s (λ p. behind_payload x z (with_byte x z p y)) z)
      (on_open s (λ p. behind_payload x z (with_byte x z p y)) z).stage c) at
      (subst (λ (v : StreamUnit). LeftAt x Stop mode (after x z from v) (after x z from v).stage c)
      r.3 h) in
      subst (λ (b : List ℕ). LeftAt x Stop mode z (payload_open o) (b ++ c)) (sym front)
      (λ q behind. byte_first x Stop mode z o y q c open_at.more behind fine
      (rest_behind x Stop mode z (with_byte x z o y) (q ++ y ∷ []) c
      (byte_behind x z o q y open_at.more behind) fine h'))
