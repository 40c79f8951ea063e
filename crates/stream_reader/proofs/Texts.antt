-- Which text is shown: that of the situation, until a record brings another. Where a text may still
-- begin there is none before, and there are no strings before the encoding's record.
use Rattle.std.proofs.Common.{◌≡◌, ℕ, ◌+◌, Bool, true, false, not, ◌||◌, List, [], ◌∷◌, ◌++◌, take}
use Rattle.std.proofs.Common.{drop, if◌then◌else◌, ◌==◌, Some, None, Option, sym, refl, ap, ◌∙◌}
use Rattle.std.proofs.Common.{subst, inl, inr, take-append-drop, eqb-true}
use Rattle.std.proofs.lemmas.Bool.{and_left, cases_Bool}
use Rattle.unit_streams.proofs.Standing.{standing_keeps}
use Rattle.unit_streams.specs.{Front.begun, Front.Front, Front.whole, Front.wrong, Grammar.standing}
use Rattle.nbfx_values.specs.declared.session.{Kind.Kind, Mode.Mode}
use Rattle.nbfx_values.specs.declared.session.Mode.TheVariants.{Duplex, Simplex, Singleton}
use Rattle.nmf_records.proofs.{Records.read_record, Showing.no_text, Showing.plain_head}
use Rattle.nmf_records.specs.declared.frame.Expect.{Expect, TheVariants.Chunk, TheVariants.Types}
use Rattle.nmf_records.specs.declared.frame.{Frame.Frame, FrameFault.FrameFault}
use Rattle.nmf_records.specs.declared.record_types.TheConstants.{END, EXTENSIBLE_ENCODING, FAULT}
use Rattle.nmf_records.specs.declared.record_types.TheConstants.{KNOWN_ENCODING, MODE}
use Rattle.nmf_records.specs.declared.record_types.TheConstants.{PREAMBLE_ACK, PREAMBLE_END}
use Rattle.nmf_records.specs.declared.record_types.TheConstants.{SIZED_ENVELOPE, UNSIZED_ENVELOPE}
use Rattle.nmf_records.specs.declared.record_types.TheConstants.{VERSION, VIA}
use Rattle.nmf_records.specs.declared.script.{Direction.Direction, Due.Due}
use Rattle.nmf_records.specs.declared.script.Direction.TheVariants.{FromInitiator, FromReceiver}
use Rattle.nmf_records.specs.{Reader.text_after, Reader.text_read, Records.IsRecordOf, Records.Read}
use Rattle.nmf_records.specs.RecordFronts.{allows, begins_text, content_type, frame_at}
use Rattle.nmf_records.specs.RecordFronts.{has_text_of, MayCome, text_kind, TextKind, TextLimits}
use Rattle.nmf_records.specs.{RecordFronts.via_or_fault, Writing.has_text}
use Rattle.nmf_records.specs.Script.{behind_preamble, first, may_come}
use Rattle.stream_reader.specs.Stream.{after, after_bare, after_record, beginning, behind_payload}
use Rattle.stream_reader.specs.Stream.{chunk_due, chunked, direction_of, due_behind, due_in, Form}
use Rattle.stream_reader.specs.Stream.{is_over_in, kind_of, kind_of_type, last_chunk, mode_of}
use Rattle.stream_reader.specs.Stream.{on_open, on_payload}
use Rattle.stream_reader.specs.Stream.{OpenPayload, payload_begun, payload_by, payload_open}
use Rattle.stream_reader.specs.Stream.{record_due, Settings, Situation, sized, Stage, stream}
use Rattle.stream_reader.specs.Stream.{StreamUnit, unit_in, with_byte}
use Rattle.stream_reader.proofs.Coming.{unit_of_chunk, unit_of_payload, unit_of_record}
use Rattle.stream_reader.proofs.DueRecords.{chunk_due as size_due, encoding_due, mode_due}
use Rattle.stream_reader.proofs.DueRecords.{version_due, via_due}
use Rattle.stream_reader.proofs.{Grammar.readable, Outcomes.wants_chunk}
use Rattle.stream_reader.proofs.Outcomes.{goes_on, is_refused, is_whole, outcome, text_behind}
use Rattle.nmf_records.specs.declared.frame.Frame.TheVariants as frames
use Rattle.nmf_records.specs.declared.script.Due.TheVariants as dues

-- no Via was read yet
abbrev pub before_via : Stage → Bool
before_via (record_due dues.Version) = true
before_via (record_due dues.Mode) = true
before_via (record_due dues.Via) = true
before_via stage = false

-- nor the encoding's record
abbrev pub before_encoding : Stage → Bool
before_encoding (record_due dues.Encoding) = true
before_encoding stage = before_via stage

-- a text may still come: an initiator's Via, or a receiver's Fault
abbrev pub wants_text : Direction → Stage → Bool
wants_text FromInitiator stage = before_via stage
wants_text FromReceiver stage = not (is_over_in stage)

-- what holds of the texts and strings of each situation; a receiver's stream has no preamble
pub record IsEarly (direction : Direction) (z : Situation) : Type 0 where
  pub text : wants_text direction z.stage ≡ true → z.text ≡ []
  pub strings : before_encoding z.stage ≡ true → z.strings ≡ []
  pub late : direction ≡ FromReceiver → before_encoding z.stage ≡ false

-- at a stage behind the preamble, where a text may come only if it might before
abbrev GoesOn : Direction → Stage → Stage → Type 0
GoesOn direction old new = (wants_text direction new ≡ true → wants_text direction old ≡ true)
    × (before_encoding new ≡ false)

on_again : (direction : Direction) (old new : Stage) → before_encoding new ≡ false
    → is_over_in old ≡ false → GoesOn direction old new
on_again FromInitiator old new late on =
    (λ wants. let none = via_too new late in let bad = sym none ∙ wants in cc, late)
  where
    via_too : (stage : Stage) → before_encoding stage ≡ false → before_via stage ≡ false
    via_too (record_due dues.Encoding) e = cc
    via_too (record_due dues.Version) e = cc
    via_too (record_due dues.Mode) e = cc
    via_too (record_due dues.Via) e = cc
    via_too stage e = e
on_again FromReceiver old new late on = (λ wants. ap not on, late)

early_at : (direction : Direction) (z new : Situation) → GoesOn direction z.stage new.stage
    → new.text ≡ z.text → IsEarly direction z → IsEarly direction new
early_at direction z new goes text h = record {
  text = λ e. text ∙ h.text (goes.0 e);
  strings = λ e. let bad = sym goes.1 ∙ e in cc;
  late = λ is. goes.1;
}

behind_on : (direction : Direction) (mode : Mode)
    → before_encoding (record_due (behind_preamble direction mode)) ≡ false
behind_on FromInitiator Singleton = refl
behind_on FromInitiator Duplex = refl
behind_on FromInitiator Simplex = refl
behind_on FromReceiver Singleton = refl
behind_on FromReceiver Duplex = refl
behind_on FromReceiver Simplex = refl

form_late : (form : Form) → before_encoding (record_due (due_behind form)) ≡ false
form_late sized = refl
form_late chunked = refl
form_late last_chunk = refl

-- a record that may come, of a session that isn't over
pub due_on : (direction : Direction) (due : Due) (f : Frame) → MayCome (may_come direction due) f
    → is_over_in (record_due due) ≡ false
due_on direction dues.Over frames.Via may = cc
due_on direction dues.Over _ may = cc
due_on direction _ f may = refl

module _ (x : Settings) (z : Situation) (h : IsEarly (direction_of x.side) z) where
  abbrev d : Direction
  d = direction_of x.side

  -- bytes of a payload
  early_payload : (p : OpenPayload) → is_over_in z.stage ≡ false
      → IsEarly (direction_of x.side) (behind_payload x z p)
  early_payload p on =
      elim (outcome x z p) [
        | goes_on more b c ↦ rw b (at (payload_open p) refl z.text z.messages z.strings refl)
        | wants_chunk none is b c ↦ rw b (at (chunk_due p) refl z.text z.messages z.strings refl)
        | is_whole all none b c ↦
            rw b (at (record_due (due_behind p.form)) (form_late p.form) z.text (z.messages + 1)
            p.standing.situation.strings refl)
        | is_refused all r is b c ↦
            rw b (at (record_due (due_behind p.form)) (form_late p.form) z.text z.messages
            p.standing.situation.strings refl)
      ]
    where
      at : (stage : Stage) → before_encoding stage ≡ false → (text : List ℕ) (messages : ℕ)
          (strings : List (List ℕ)) → text ≡ z.text
          → IsEarly (direction_of x.side)
          (record z { stage = stage; text = text; messages = messages; strings = strings })
      at stage late text messages strings same =
          early_at d z _ (on_again d z.stage stage late on) same h

  module _ (due : Due) (at : z.stage ≡ record_due due) where
    -- before the encoding's record
    none_before : before_encoding (record_due due) ≡ true → z.strings ≡ []
    none_before e = h.strings (ap before_encoding at ∙ e)

    never : before_encoding (record_due due) ≡ true → direction_of x.side ≡ FromReceiver → ⊥
    never e is = let late = sym (ap before_encoding at ∙ e) ∙ h.late is in cc

    none_yet : (other : Due) → due ≡ other → before_via (record_due other) ≡ true → z.text ≡ []
    none_yet other same early =
        h.text (ap (wants_text d) (at ∙ ap record_due same) ∙ wanted (direction_of x.side) other
        early)
      where
        wanted : (direction : Direction) (due : Due) → before_via (record_due due) ≡ true
            → wants_text direction (record_due due) ≡ true
        wanted FromInitiator due e = e
        wanted FromReceiver dues.Version e = refl
        wanted FromReceiver dues.Mode e = refl
        wanted FromReceiver dues.Via e = refl
        wanted FromReceiver _ e = cc

    -- behind the Via only a receiver's text may come
    receivers_alone : (direction : Direction) (due : Due) → before_via (record_due due) ≡ false
        → wants_text direction (record_due due) ≡ true → direction ≡ FromReceiver
    receivers_alone FromInitiator due is e = let bad = sym is ∙ e in cc
    receivers_alone FromReceiver due is e = refl

    -- within the preamble
    preamble_early : (other next : Due) (text : List ℕ) (mode : Mode) → due ≡ other
        → before_encoding (record_due other) ≡ true
        → (before_via (record_due next) ≡ true → text ≡ [])
        → IsEarly (direction_of x.side)
        (record z { stage = record_due next; text = text; mode = mode })
    preamble_early other next text mode same early none =
        let here = ap (λ n. before_encoding (record_due n)) same ∙ early in record {
          text = λ e. by_test (before_via (record_due next)) refl e;
          strings = λ e. none_before here;
          late = λ is. absurd (never here is);
        }
      where
        by_test : (b : Bool) → before_via (record_due next) ≡ b
            → wants_text (direction_of x.side) (record_due next) ≡ true → text ≡ []
        by_test true is e = none is
        by_test false is e =
            absurd (never (ap (λ n. before_encoding (record_due n)) same ∙ early)
            (receivers_alone (direction_of x.side) next is e))

    -- behind the encoding's record
    encoding_early : (kind : Kind) → due ≡ dues.Encoding → IsEarly (direction_of x.side)
        (record z { stage = record_due dues.PreambleEnd; kind = kind; strings = [] })
    encoding_early kind same =
        let here = ap (λ n. before_encoding (record_due n)) same in
        record {
          text = λ e. absurd (never here (receivers_alone d dues.PreambleEnd refl e));
          strings = λ e. refl;
          late = λ is. refl;
        }

    going : (f : Frame) → MayCome (may_come (direction_of x.side) due) f → is_over_in z.stage
        ≡ false
    going f may = ap is_over_in at ∙ due_on d due f may

    -- a record of no payload
    early_bare : (from : ℕ) (f : Frame) (text : List ℕ)
        → MayCome (may_come (direction_of x.side) due) f
        → payload_by x z from f ≡ None → IsEarly (direction_of x.side) (after_bare x z f text)
    early_bare from (frames.Version major minor) text may none =
        let same = version_due d due major minor may in
        preamble_early dues.Version dues.Mode z.text z.mode same refl
        (λ e. none_yet dues.Version same refl)
    early_bare from (frames.Mode byte) text may none =
        let same = mode_due d due byte may in
        preamble_early dues.Mode dues.Via z.text (mode_of byte) same refl
        (λ e. none_yet dues.Mode same refl)
    early_bare from frames.Via text may none =
        preamble_early dues.Via dues.Encoding text z.mode (via_due d due may) refl (λ e. cc)
    early_bare from (frames.KnownEncoding encoding) text may none =
        encoding_early (kind_of encoding) (encoding_due d due
        (frames.KnownEncoding encoding) tt may)
    early_bare from frames.ExtensibleEncoding text may none =
        encoding_early (kind_of_type text) (encoding_due d due frames.ExtensibleEncoding tt may)
    early_bare from frames.End text may none =
        early_at d z _ (on_again d z.stage (record_due dues.Over) refl (going frames.End may)) refl
        h
    early_bare from frames.Fault text may none =
        record { text = over (direction_of x.side); strings = λ e. cc; late = λ is. refl }
      where
        over : (direction : Direction) → wants_text direction (record_due dues.Over) ≡ true
            → text ≡ []
        over FromInitiator e = cc
        over FromReceiver e = cc
    early_bare from frames.PreambleEnd text may none =
        early_at d z _
        (on_again d z.stage _ (behind_on d z.mode) (going frames.PreambleEnd may)) refl h
    early_bare from frames.PreambleAck text may none =
        early_at d z _
        (on_again d z.stage _ (behind_on d z.mode) (going frames.PreambleAck may)) refl h
    early_bare from frames.UnsizedEnvelope text may none = cc
    early_bare from (frames.SizedEnvelope size) text may none = cc
    early_bare from (frames.Chunk size) text may none =
        early_at d z _
        (on_again d z.stage _ (late (size == 0)) (going (frames.Chunk size) may)) refl h
      where
        late : (b : Bool)
            → before_encoding (record_due (if b then dues.End else due_in z.stage)) ≡ false
        late true = refl
        late false =
            ap (λ s. before_encoding (record_due (due_in s))) at
            ∙ ap (λ n. before_encoding (record_due n)) (size_due d due size may)

  -- behind a record
  early_record : (from : ℕ) (f : Frame) (text : List ℕ) (due : Due) → is_over_in z.stage ≡ false
      → MayCome (may_come (direction_of x.side) due) f
      → (v : Option OpenPayload) → payload_by x z from f ≡ v
      → (v ≡ None → z.stage ≡ record_due due)
      → IsEarly (direction_of x.side) (on_payload v (behind_payload x z) (after_bare x z f text))
  early_record from f text due on may (Some p) e at = early_payload p on
  early_record from f text due on may None e at = early_bare due (at refl) from f text may e

  early_byte : (byte : ℕ) (stage : Stage) → z.stage ≡ stage
      → IsEarly (direction_of x.side)
      (on_open stage (λ p. behind_payload x z (with_byte x z p byte)) z)
  early_byte byte (record_due due) at = h
  early_byte byte (chunk_due p) at = h
  early_byte byte (payload_open p) at = early_payload (with_byte x z p byte) (ap is_over_in at)

-- at a chunk's size a payload is made of what may come
pub chunk_made : (x : Settings) (z : Situation) (from : ℕ) (o : OpenPayload) (f : Frame)
    → z.stage ≡ chunk_due o → MayCome (may_come (direction_of x.side) dues.Chunk) f
    → payload_by x z from f ≡ None → ⊥
chunk_made x z from o (frames.Chunk size) at may e = let none = rw at at e in cc
chunk_made x z from o _ at may e = cc

module _ (x : Settings) where
  early_unit : (stage : Stage) (z : Situation) (from : ℕ) (b : List ℕ) (u : StreamUnit) (k : ℕ)
      → z.stage ≡ stage → unit_in x stage from b ≡ whole u k → IsEarly (direction_of x.side) z
      → IsEarly (direction_of x.side) (after x z from u)
  unfolding after
  early_unit (record_due due) z from b u k at e h =
      let c = unit_of_record x from b u k due e in
      rw c.1 (early_record x z h from c.0.frame c.0.text due
      (ap is_over_in at ∙ due_on (direction_of x.side) due c.0.frame c.2.may) c.2.may
      (payload_by x z from c.0.frame) refl (λ none. at))
  early_unit (chunk_due p) z from b u k at e h =
      let c = unit_of_chunk x from b u k p e in
      rw c.1 (early_record x z h from c.0.frame c.0.text dues.Chunk
      (ap is_over_in at) c.2.may (payload_by x z from c.0.frame) refl
      (λ none. absurd (chunk_made x z from p c.0.frame at c.2.may none)))
  early_unit (payload_open p) z from b u k at e h =
      let c = unit_of_payload x from b u k p e in rw c.3 (early_byte x z h c.0 z.stage refl)

  early_first : IsEarly (direction_of x.side) (beginning x)
  early_first = record {
    text = λ e. refl;
    strings = λ e. refl;
    late = by_direction (direction_of x.side);
  } where
    by_direction : (direction : Direction) → direction ≡ FromReceiver
        → before_encoding (record_due (first direction)) ≡ false
    by_direction FromInitiator is = cc
    by_direction FromReceiver is = refl

  pub early : (p : List ℕ) → IsEarly (direction_of x.side) (standing (stream x) p).situation
  early p =
      standing_keeps (stream x) (readable x) (λ z from. IsEarly (direction_of x.side) z) early_first
      (λ z from b u k e some h. early_unit z.stage z from b u k refl e h) p

-- the text of this kind behind a record, where s was shown before
abbrev pub kept_by : Frame → TextKind → List ℕ → List ℕ → List ℕ
kept_by frames.Via via_or_fault text s = text
kept_by frames.Fault via_or_fault text s = text
kept_by frames.ExtensibleEncoding content_type text s = text
kept_by f kind text s = s

module _ (kind : TextKind) (expect : Expect) (k : ℕ) (b text s : List ℕ) where
  first_byte : (type : ℕ) (rest : List ℕ) → take k b ≡ type ∷ rest → b ≡ type ∷ (rest ++ drop k b)
  first_byte type rest e = sym (take-append-drop k b) ∙ ap (λ d. d ++ drop k b) e

  abbrev shows : Bool → List ℕ
  shows t = if t then text else s

  plain : (type : ℕ) (rest : List ℕ) → has_text_of kind type ≡ false
      → take k b ≡ type ∷ rest → (if begins_text kind expect b then text else s) ≡ s
  plain type rest is e =
      ap (λ c. shows (begins_text kind expect c)) (first_byte type rest e)
      ∙ ap shows (plain_head kind expect type (rest ++ drop k b) is)

  texted : (type : ℕ) (rest : List ℕ) → has_text_of kind type ≡ true → (types : ℕ)
      → expect ≡ Types types → allows types type ≡ true → take k b ≡ type ∷ rest
      → (if begins_text kind expect b then text else s) ≡ text
  texted type rest is types same may e =
      ap (λ c. shows (begins_text kind expect c)) (first_byte type rest e) ∙ rw (same, may, is) refl

-- a record without a text shows what was shown
bare_shown : (kind : TextKind) (expect : Expect) (k : ℕ) (b text s : List ℕ) (type : ℕ)
    (rest : List ℕ) → (type == VIA) ≡ false → (type == FAULT) ≡ false
    → (type == EXTENSIBLE_ENCODING) ≡ false → take k b ≡ type ∷ rest
    → (if begins_text kind expect b then text else s) ≡ s
bare_shown kind expect k b text s type rest via fault encoding e =
    plain kind expect k b text s type rest (no_text kind type via fault encoding) e

-- a record that may come shows its text
whole_shown : (kind : TextKind) (expect : Expect) (k : ℕ) (b s : List ℕ) (f : Frame)
    (text : List ℕ) → IsRecordOf f text (take k b) → MayCome expect f
    → (if begins_text kind expect b then text else s) ≡ kept_by f kind text s
whole_shown via_or_fault (Types types) k b s frames.Via text is may =
    texted via_or_fault (Types types) k b text s VIA is.0 refl types refl may is.2
whole_shown via_or_fault (Types types) k b s frames.Fault text is may =
    texted via_or_fault (Types types) k b text s FAULT is.0 refl types refl may is.2
whole_shown via_or_fault (Types types) k b s frames.ExtensibleEncoding text is may =
    plain via_or_fault (Types types) k b text s EXTENSIBLE_ENCODING is.0 refl is.2
whole_shown content_type (Types types) k b s frames.Via text is may =
    plain content_type (Types types) k b text s VIA is.0 refl is.2
whole_shown content_type (Types types) k b s frames.Fault text is may =
    plain content_type (Types types) k b text s FAULT is.0 refl is.2
whole_shown content_type (Types types) k b s frames.ExtensibleEncoding text is may =
    texted content_type (Types types) k b text s EXTENSIBLE_ENCODING is.0 refl types refl may is.2
whole_shown kind Chunk k b s frames.Via text is may = cc
whole_shown kind Chunk k b s frames.Fault text is may = cc
whole_shown kind Chunk k b s frames.ExtensibleEncoding text is may = cc
whole_shown kind expect k b s (frames.Version major minor) text is may = bare_shown kind expect k b
    text s VERSION (major ∷ minor ∷ []) refl refl refl is.1
whole_shown kind expect k b s (frames.Mode mode) text is may = bare_shown kind expect k b
    text s MODE (mode ∷ []) refl refl refl is.1
whole_shown kind expect k b s (frames.KnownEncoding encoding) text is may = bare_shown kind expect k
    b text s KNOWN_ENCODING (encoding ∷ []) refl refl refl is.1
whole_shown kind expect k b s frames.UnsizedEnvelope text is may = bare_shown kind expect k b
    text s UNSIZED_ENVELOPE [] refl refl refl is.1
whole_shown kind expect k b s (frames.SizedEnvelope size) text is may = bare_shown kind expect k b
    text s SIZED_ENVELOPE is.1 refl refl refl is.3
whole_shown kind expect k b s frames.End text is may = bare_shown kind expect k b text s END []
    refl refl refl is.1
whole_shown kind expect k b s frames.PreambleAck text is may = bare_shown kind expect k b text s
    PREAMBLE_ACK [] refl refl refl is.1
whole_shown kind expect k b s frames.PreambleEnd text is may = bare_shown kind expect k b text s
    PREAMBLE_END [] refl refl refl is.1
whole_shown kind Chunk k b s (frames.Chunk size) text is may = refl
whole_shown kind (Types types) k b s (frames.Chunk size) text is may = cc

-- the situation behind a record has that text
kept_text : (x : Settings) (z : Situation) (from : ℕ) (f : Frame) (text : List ℕ)
    → kept_by f via_or_fault text z.text ≡ (after_record x z from f text).text
kept_text x z from frames.Via text = refl
kept_text x z from frames.Fault text = refl
kept_text x z from (frames.SizedEnvelope size) text =
    sym (text_behind x z (payload_begun x z from size sized))
kept_text x z from frames.UnsizedEnvelope text =
    sym (text_behind x z (payload_begun x z from 0 chunked))
kept_text x z from (frames.Chunk size) text = go (payload_by x z from (frames.Chunk size)) where
  go : (v : Option OpenPayload) → z.text
      ≡ (on_payload v (behind_payload x z) (after_bare x z (frames.Chunk size) text)).text
  go (Some p) = sym (text_behind x z p)
  go None = refl
kept_text x z from f text = refl

-- no text begins where none may come
never_begins : (types : ℕ) → allows types VIA ≡ false → allows types FAULT ≡ false → (b : List ℕ)
    → begins_text via_or_fault (Types types) b ≡ false
never_begins types e f [] = refl
never_begins types e f (kind ∷ rest) =
    elim (cases_Bool (kind == VIA)) [
      | inl t ↦
          let is : kind ≡ VIA = eqb-true kind VIA t in
          and_left (allows types kind) ((kind == VIA) || (kind == FAULT)) (rw is e)
      | inr n ↦ elim (cases_Bool (kind == FAULT)) [
        | inl t ↦
            let is : kind ≡ FAULT = eqb-true kind FAULT t in
            and_left (allows types kind) ((kind == VIA) || (kind == FAULT)) (rw is f)
        | inr m ↦ plain_head via_or_fault (Types types) kind rest (rw (n, m) refl)
      ]
    ]

none_begins : (types : ℕ) → allows types VIA ≡ false → allows types FAULT ≡ false → (b : List ℕ)
    → begins_text via_or_fault (Types types) b ≡ true → ⊥
none_begins types e f b begins = let none = never_begins types e f b in cc

-- an initiator's text begins where its Via is due, a receiver's in place of any record
begins_where : (direction : Direction) (due : Due) (b : List ℕ)
    → begins_text via_or_fault (may_come direction due) b ≡ true
    → wants_text direction (record_due due) ≡ true
begins_where FromInitiator dues.Version b e = refl
begins_where FromInitiator dues.Mode b e = refl
begins_where FromInitiator dues.Via b e = refl
begins_where FromInitiator dues.Chunk b e = cc
begins_where FromInitiator _ b e = absurd (none_begins _ refl refl b e)
begins_where FromReceiver dues.Over b e = absurd (none_begins _ refl refl b e)
begins_where FromReceiver _ b e = refl

-- a record is read where this is due, or the size of a chunk
pub data ReadsDue (stage : Stage) (due : Due) : Type 0 where
  reads_record : stage ≡ record_due due → ReadsDue stage due
  reads_size : (o : OpenPayload) → stage ≡ chunk_due o → due ≡ dues.Chunk → ReadsDue stage due

module _ (x : Settings) (z : Situation) (due : Due) (at : ReadsDue z.stage due)
    (h : IsEarly (direction_of x.side) z) where
  -- where a text begins there was none before
  none_shown : (b : List ℕ) → begins_text via_or_fault (may_come (direction_of x.side) due) b
      ≡ true → z.text
      ≡ []
  none_shown b begins =
      elim at [
        | reads_record is ↦ h.text
            (ap (wants_text (direction_of x.side)) is ∙ begins_where (direction_of x.side) due b
            begins)
        | reads_size o is same ↦
            let bad = subst (λ (n : Due). begins_text via_or_fault (may_come
            (direction_of x.side) n) b ≡ true)
            same begins in cc
      ]

  -- of bytes without a whole text the same text is shown
  same_shown : (b : List ℕ) (reading : Front Read FrameFault) → text_read reading ≡ []
      → text_after via_or_fault z.text (may_come (direction_of x.side) due) b reading ≡ z.text
  same_shown b reading nothing =
      go (begins_text via_or_fault (may_come (direction_of x.side) due) b) refl
    where
      go : (t : Bool) → begins_text via_or_fault (may_come (direction_of x.side) due) b ≡ t
          → (if t then text_read reading else z.text) ≡ z.text
      go true is = nothing ∙ sym (none_shown b is)
      go false is = refl

  -- a record that has begun
  pub begun_text : (b : List ℕ)
      → text_after via_or_fault z.text (may_come (direction_of x.side) due) b begun ≡ z.text
  begun_text b = same_shown b begun refl

  -- a wrong record
  pub wrong_text : (b : List ℕ) (fault : FrameFault) (k : ℕ)
      → text_after via_or_fault z.text (may_come (direction_of x.side) due) b (wrong fault k)
      ≡ z.text
  wrong_text b fault k = same_shown b (wrong fault k) refl

-- a record that is whole
pub whole_text : (x : Settings) (z : Situation) (limits : TextLimits) (expect : Expect) (from : ℕ)
    (b : List ℕ) (read : Read) (k : ℕ) → frame_at limits expect b ≡ whole read k
    → text_after via_or_fault z.text expect b (whole read k)
    ≡ (after_record x z from read.frame read.text).text
whole_text x z limits expect from b read k e =
    let r = read_record limits expect b read k e in
    whole_shown via_or_fault expect k b z.text read.frame read.text r.0 r.1
    ∙ kept_text x z from read.frame read.text

-- one with a text shows that
pub own_text : (limits : TextLimits) (expect : Expect) (kind : TextKind) (s b : List ℕ)
    (read : Read) (k : ℕ) → kind ≡ text_kind read.frame → has_text read.frame ≡ true
    → frame_at limits expect b ≡ whole read k
    → text_after kind s expect b (whole read k) ≡ read.text
own_text limits expect kind s b read k same has e =
    let r = read_record limits expect b read k e in
    whole_shown kind expect k b s read.frame read.text r.0 r.1
    ∙ ap (λ n. kept_by read.frame n read.text s) same ∙ kept_own read.frame read.text s has
  where
    kept_own : (f : Frame) (text s : List ℕ) → has_text f ≡ true
        → kept_by f (text_kind f) text s ≡ text
    kept_own frames.Via text s has = refl
    kept_own frames.Fault text s has = refl
    kept_own frames.ExtensibleEncoding text s has = refl
    kept_own f text s has = cc
