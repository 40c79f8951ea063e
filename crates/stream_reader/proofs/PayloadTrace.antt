-- Where a payload is open its bytes are those of an envelope so far.
use Rattle.std.proofs.Common.{◌≡◌, ℕ, ◌+◌, ◌-◌, ◌<◌, Bool, true, false, ◌⊎◌, List, [], ◌∷◌, ◌++◌}
use Rattle.std.proofs.Common.{length, if◌then◌else◌, ◌==◌, None, sym, refl, ap, ◌∙◌, subst, inl}
use Rattle.std.proofs.Common.{inr, append_assoc, append-nil, arith, length-append, take_all, ne_eqb}
use Rattle.std.proofs.lemmas.List.{nil_from_length}
use Rattle.unit_streams.proofs.{Refusals.unit_standing, Standing.standing_nothing}
use Rattle.unit_streams.specs.{Front.whole, Grammar.Standing, Grammar.standing, Refusals.AreUnits}
use Rattle.nbfx_values.specs.declared.refusals.Offence.{Offence}
use Rattle.nmf_records.specs.declared.{frame.Frame.Frame, script.Due.Due}
use Rattle.nmf_records.specs.{RecordFronts.MayCome, Records.IsRecordOf, Script.may_come}
use Rattle.stream_reader.specs.{Reasons.AreWhole, Reasons.IsChunked, Stream.with_chunk}
use Rattle.stream_reader.specs.Sessions.{IsBare, joined}
use Rattle.stream_reader.specs.Stream.{after, after_record, behind_payload, chunk_due, chunked}
use Rattle.stream_reader.specs.Stream.{direction_of, Form, is_chunked, last_chunk, on_open}
use Rattle.stream_reader.specs.Stream.{OpenPayload, payload_begun, payload_by, payload_open}
use Rattle.stream_reader.specs.Stream.{PayloadStanding, record_due, Settings, Situation, sized}
use Rattle.stream_reader.specs.Stream.{Stage, stream, StreamEvent, StreamUnit, unit_in, with_byte}
use Rattle.stream_reader.proofs.Coming.{unit_of_chunk, unit_of_payload, unit_of_record}
use Rattle.stream_reader.proofs.{DueRecords.envelope_due, Grammar.readable}
use Rattle.stream_reader.proofs.Envelopes.{between, so_far}
use Rattle.stream_reader.proofs.Outcomes.{goes_on, is_refused, is_whole, outcome, wants_chunk}
use Rattle.stream_reader.proofs.PayloadBytes.{behind_is, payload_behind, units_place, with_byte_is}
use Rattle.stream_reader.proofs.{Prefixes.units_keep, Situations.begun_behind}
use Rattle.nmf_records.specs.declared.frame.Frame.TheVariants as frames
use Rattle.nmf_records.specs.declared.script.Due.TheVariants as dues

-- how an envelope has brought bytes of its payload: in one part
pub record IsOnePart (x : Settings) (z : Situation) (start : ℕ) (base : OpenPayload)
    (bytes payload : List ℕ) : Type 0 where
  pub size : ℕ
  pub head : List ℕ
  pub is_due : z.stage ≡ record_due dues.Messages
  pub is_head : IsBare (frames.SizedEnvelope size) head
  pub joined : bytes ≡ head ++ payload
  pub base_is : base ≡ payload_begun x z start size sized

-- or in chunks, up to bytes of one
pub record IsOneOfChunks (x : Settings) (z : Situation) (start : ℕ) (base : OpenPayload)
    (bytes payload : List ℕ) : Type 0 where
  pub front : List ℕ
  pub head : List ℕ
  pub size : ℕ
  pub before : List ℕ
  pub part : List ℕ
  pub chunks : IsChunked x z front before
  pub is_head : IsBare (frames.Chunk size) head
  pub some : 0 < size
  pub bytes_are : bytes ≡ (front ++ head) ++ part
  pub payload_is : payload ≡ before ++ part
  pub base_is : base ≡ with_chunk (so_far x z start before) size

pub record OpenTrace (x : Settings) (p : List ℕ) (o : OpenPayload) : Type 0 where
  pub before : List ℕ
  pub bytes : List ℕ
  pub base : OpenPayload
  pub payload : List ℕ
  pub units : AreUnits (stream x) before
  pub joined : p ≡ before ++ bytes
  pub is : o ≡ payload_behind x (standing (stream x) before).situation base payload
  pub situation : (standing (stream x) p).situation
      ≡ record (standing (stream x) before).situation { stage = payload_open o }
  pub more : length payload < base.size
  pub shape : IsOnePart x (standing (stream x) before).situation (length before) base bytes payload
      ⊎ IsOneOfChunks x (standing (stream x) before).situation (length before) base bytes payload

-- or up to the end of one
pub record ChunkTrace (x : Settings) (p : List ℕ) : Type 0 where
  pub before : List ℕ
  pub bytes : List ℕ
  pub payload : List ℕ
  pub units : AreUnits (stream x) before
  pub joined : p ≡ before ++ bytes
  pub chunks : IsChunked x (standing (stream x) before).situation bytes payload
  pub situation : (standing (stream x) p).situation
      ≡ between x (standing (stream x) before).situation (length before) payload

abbrev pub TracedAt : Settings → List ℕ → Stage → Type 0
TracedAt x p (record_due due) = Unit {0}
TracedAt x p (chunk_due o) = ChunkTrace x p
TracedAt x p (payload_open o) = OpenTrace x p o

-- another whole chunk
snoc_whole : (chunks : List (List ℕ)) (front c head : List ℕ) → AreWhole chunks front → 0 < length c
    → IsBare (frames.Chunk (length c)) head
    → AreWhole (chunks ++ c ∷ []) (front ++ (head ++ c))
unfolding AreWhole
snoc_whole [] front c head none some is =
    (head, [], some, is, ap (λ b. b ++ (head ++ c)) none ∙ sym (append-nil (head ++ c)), refl)
snoc_whole (d ∷ chunks) front c head (h, rest, some_d, is_d, front_is, are) some is = (
  h,
  rest ++ (head ++ c),
  some_d,
  is_d,
  ap (λ b. b ++ (head ++ c)) front_is ∙ append_assoc (h ++ d) rest (head ++ c),
  snoc_whole chunks rest c head are some is,
)

snoc_joined : (chunks : List (List ℕ)) (c : List ℕ) → joined (chunks ++ c ∷ []) ≡ joined chunks ++ c
unfolding joined
snoc_joined [] c = append-nil c
snoc_joined (d ∷ chunks) c =
    ap (λ b. d ++ b) (snoc_joined chunks c) ∙ sym (append_assoc d (joined chunks) c)

module _ (x : Settings) (p bytes : List ℕ) (units : AreUnits (stream x) p) where
  abbrev z : Situation
  z = (standing (stream x) p).situation

  abbrev Leads : Situation → Type 0
  Leads s = (standing (stream x) (p ++ bytes)).situation ≡ s

  -- behind a record that makes a payload
  sized_traced : (size : ℕ) → (standing (stream x) p).situation.stage ≡ record_due dues.Messages
      → IsBare (frames.SizedEnvelope size) bytes
      → Leads (behind_payload x (standing (stream x) p).situation
      (payload_begun x (standing (stream x) p).situation (length p) size sized))
      → TracedAt x (p ++ bytes) (behind_payload x (standing (stream x) p).situation
      (payload_begun x (standing (stream x) p).situation (length p) size sized)).stage
  sized_traced size at is leads =
      let o : OpenPayload = payload_begun x z (length p) size sized in
      elim (outcome x z o) [
        | goes_on more b c ↦
            subst (TracedAt x (p ++ bytes)) (sym (ap (λ (s : Situation). s.stage) b))
            (record {
              before = p;
              bytes = bytes;
              base = o;
              payload = [];
              units = units;
              joined = refl;
              is = behind_is x z o [] (begun_behind x z (length p) size sized);
              situation = leads ∙ b;
              more = more;
              shape = inl (record {
                size = size;
                head = bytes;
                is_due = at;
                is_head = is;
                joined = sym (append-nil bytes);
                base_is = refl;
              });
            })
        | wants_chunk none h b c ↦ cc
        | is_whole all none b c ↦
            subst (TracedAt x (p ++ bytes)) (sym (ap (λ (s : Situation). s.stage) b)) tt
        | is_refused all r h b c ↦
            subst (TracedAt x (p ++ bytes)) (sym (ap (λ (s : Situation). s.stage) b)) tt
      ]

  unsized_traced : (due : Due) → (standing (stream x) p).situation.stage ≡ record_due due
      → MayCome (may_come (direction_of x.side) due) frames.UnsizedEnvelope
      → IsBare frames.UnsizedEnvelope bytes
      → Leads (behind_payload x (standing (stream x) p).situation
      (payload_begun x (standing (stream x) p).situation (length p) 0 chunked))
      → TracedAt x (p ++ bytes) (behind_payload x (standing (stream x) p).situation
      (payload_begun x (standing (stream x) p).situation (length p) 0 chunked)).stage
  unfolding AreWhole joined
  unsized_traced due at may is leads =
      let o : OpenPayload = payload_begun x z (length p) 0 chunked in
      let same : o ≡ so_far x z (length p) [] =
      ap (λ (s : PayloadStanding). record o { standing = s })
      (begun_behind x z (length p) 0 chunked).standing_is in
      record {
        before = p;
        bytes = bytes;
        payload = [];
        units = units;
        joined = refl;
        chunks = record {
          due = due;
          head = bytes;
          front = [];
          chunks = [];
          is_due = at;
          may_come_there = may;
          is_head = is;
          are_whole = refl;
          joined_bytes = sym (append-nil bytes);
          payload_is = refl;
        };
        situation = leads ∙ ap (λ (q : OpenPayload). record z { stage = chunk_due q }) same;
      }

  -- behind a chunk's size
  chunk_traced : (n : ℕ) (t : ChunkTrace x p) → IsBare (frames.Chunk n) bytes
      → Leads (behind_payload x (between x (standing (stream x) t.before).situation
      (length t.before) t.payload) (with_chunk (so_far x (standing (stream x) t.before).situation
      (length t.before) t.payload) n))
      → TracedAt x (p ++ bytes)
      (behind_payload x (between x (standing (stream x) t.before).situation
      (length t.before) t.payload) (with_chunk (so_far x (standing (stream x) t.before).situation
      (length t.before) t.payload) n)).stage
  chunk_traced n t is leads =
      let w : Situation = (standing (stream x) t.before).situation in
      let s : Situation = between x w (length t.before) t.payload in
      let o : OpenPayload = with_chunk (so_far x w (length t.before) t.payload) n in
      elim (outcome x s o) [
        | goes_on more b c ↦
            subst (TracedAt x (p ++ bytes)) (sym (ap (λ (s : Situation). s.stage) b))
            (record {
              before = t.before;
              bytes = t.bytes ++ bytes;
              base = o;
              payload = t.payload;
              units = t.units;
              joined = ap (λ b. b ++ bytes) t.joined ∙ append_assoc t.before t.bytes bytes;
              is = behind_is x w o t.payload (record { standing_is = refl; counted = refl });
              situation = leads ∙ b;
              more = omega (arith, more);
              shape = inr (record {
                front = t.bytes;
                head = bytes;
                size = n;
                before = t.payload;
                part = [];
                chunks = t.chunks;
                is_head = is;
                some = more;
                bytes_are = sym (append-nil (t.bytes ++ bytes));
                payload_is = sym (append-nil t.payload);
                base_is = refl;
              });
            })
        | wants_chunk none h b c ↦
            let last : (n == 0) ≡ true = ap (λ n. n == 0) none in
            let bad = sym (ap (λ (b : Bool). is_chunked (if b then last_chunk else chunked)) last) ∙
            h in
            cc
        | is_whole all none b c ↦
            subst (TracedAt x (p ++ bytes)) (sym (ap (λ (s : Situation). s.stage) b)) tt
        | is_refused all r h b c ↦
            subst (TracedAt x (p ++ bytes)) (sym (ap (λ (s : Situation). s.stage) b)) tt
      ]

  -- behind a byte
  chunk_done : (o : OpenPayload) (y : ℕ) (t : OpenTrace x p o) → bytes ≡ y ∷ []
      → IsOneOfChunks x (standing (stream x) t.before).situation (length t.before) t.base t.bytes
      t.payload
      → t.base.size ≡ length (t.payload ++ bytes)
      → Leads (record (standing (stream x) t.before).situation {
        stage = chunk_due (payload_behind x (standing (stream x) t.before).situation t.base
            (t.payload ++ bytes));
      })
      → ChunkTrace x (p ++ bytes)
  unfolding AreWhole joined
  chunk_done o y t one h all leads =
      let w : Situation = (standing (stream x) t.before).situation in
      let chunk : List ℕ = h.part ++ bytes in
      let some : 0 < length chunk =
      let n = ap length one in let m = length-append h.part bytes in omega (arith, n, m) in
      let base_size : t.base.size ≡ length h.before + h.size =
      ap (λ (b : OpenPayload). b.size) h.base_is in
      let whole_payload : t.payload ++ bytes ≡ h.before ++ chunk =
      ap (λ b. b ++ bytes) h.payload_is ∙ append_assoc h.before h.part bytes in
      let size : h.size ≡ length chunk =
      let n = ap length whole_payload in let m = length-append h.before chunk in
      omega (arith, base_size, all, n, m) in
      let front : List ℕ = h.chunks.front ++ (h.head ++ chunk) in
      let not_last : (h.size == 0) ≡ false =
      let more = h.some in ne_eqb h.size 0 (λ e. omega (arith, more, e)) in
      let form_is : t.base.form ≡ chunked =
      ap (λ (b : OpenPayload). b.form) h.base_is
      ∙ ap (λ (b : Bool). if b then last_chunk else chunked) not_last in
      let from_is : t.base.from ≡ length t.before = ap (λ (b : OpenPayload). b.from) h.base_is in
      let left : t.base.size - length (t.payload ++ bytes) ≡ 0 = omega (arith, all) in
      let behind : OpenPayload = payload_behind x w t.base (t.payload ++ bytes) in
      let same : behind ≡ so_far x w (length t.before) (t.payload ++ bytes) =
      ap (λ n. record behind { left = n }) left
      ∙ ap (λ n. record behind { left = 0; size = n }) all
      ∙ ap (λ n. record behind { left = 0; size = length (t.payload ++ bytes); from = n }) from_is
      ∙ ap (λ (f : Form). record (so_far x w (length t.before) (t.payload ++ bytes)) { form = f })
      form_is in
      let joins : t.bytes ++ bytes ≡ h.chunks.head ++ front =
      ap (λ b. b ++ bytes) h.bytes_are ∙ append_assoc (h.front ++ h.head) h.part bytes
      ∙ append_assoc h.front h.head chunk ∙ ap (λ b. b ++ (h.head ++ chunk)) h.chunks.joined_bytes
      ∙ append_assoc h.chunks.head h.chunks.front (h.head ++ chunk) in
      record {
        before = t.before;
        bytes = t.bytes ++ bytes;
        payload = t.payload ++ bytes;
        units = t.units;
        joined = ap (λ b. b ++ bytes) t.joined ∙ append_assoc t.before t.bytes bytes;
        chunks = record {
          due = h.chunks.due;
          head = h.chunks.head;
          front = front;
          chunks = h.chunks.chunks ++ chunk ∷ [];
          is_due = h.chunks.is_due;
          may_come_there = h.chunks.may_come_there;
          is_head = h.chunks.is_head;
          are_whole = snoc_whole h.chunks.chunks h.chunks.front chunk h.head h.chunks.are_whole some
              (subst (λ (n : ℕ). IsBare (frames.Chunk n) h.head) size h.is_head);
          joined_bytes = joins;
          payload_is = whole_payload ∙ ap (λ b. b ++ chunk) h.chunks.payload_is
              ∙ sym (snoc_joined h.chunks.chunks chunk);
        };
        situation = leads ∙ ap (λ (q : OpenPayload). record w { stage = chunk_due q }) same;
      }

  -- with one byte more it has come so
  longer_shape : (z : Situation) (start : ℕ) (base : OpenPayload) (b payload : List ℕ)
      → IsOnePart x z start base b payload ⊎ IsOneOfChunks x z start base b payload
      → IsOnePart x z start base (b ++ bytes) (payload ++ bytes)
      ⊎ IsOneOfChunks x z start base (b ++ bytes) (payload ++ bytes)
  longer_shape z start base b payload (inl h) = inl (record {
    size = h.size;
    head = h.head;
    is_due = h.is_due;
    is_head = h.is_head;
    joined = ap (λ c. c ++ bytes) h.joined ∙ append_assoc h.head payload bytes;
    base_is = h.base_is;
  })
  longer_shape z start base b payload (inr h) = inr (record {
    front = h.front;
    head = h.head;
    size = h.size;
    before = h.before;
    part = h.part ++ bytes;
    chunks = h.chunks;
    is_head = h.is_head;
    some = h.some;
    bytes_are = ap (λ c. c ++ bytes) h.bytes_are ∙ append_assoc (h.front ++ h.head) h.part bytes;
    payload_is = ap (λ c. c ++ bytes) h.payload_is ∙ append_assoc h.before h.part bytes;
    base_is = h.base_is;
  })

  byte_traced : (o : OpenPayload) (y : ℕ) (t : OpenTrace x p o) → bytes ≡ y ∷ []
      → Leads (behind_payload x (standing (stream x) t.before).situation
      (payload_behind x (standing (stream x) t.before).situation t.base (t.payload ++ bytes)))
      → TracedAt x (p ++ bytes) (behind_payload x (standing (stream x) t.before).situation
      (payload_behind x (standing (stream x) t.before).situation t.base (t.payload ++ bytes))).stage
  byte_traced o y t one leads =
      let w : Situation = (standing (stream x) t.before).situation in
      let q : OpenPayload = payload_behind x w t.base (t.payload ++ bytes) in
      let n = length-append t.payload bytes in
      let m = ap length one in
      let few = t.more in
      elim (outcome x w q) [
        | goes_on more b c ↦
            subst (TracedAt x (p ++ bytes)) (sym (ap (λ (s : Situation). s.stage) b))
            (record {
              before = t.before;
              bytes = t.bytes ++ bytes;
              base = t.base;
              payload = t.payload ++ bytes;
              units = t.units;
              joined = ap (λ b. b ++ bytes) t.joined ∙ append_assoc t.before t.bytes bytes;
              is = refl;
              situation = leads ∙ b;
              more = omega (arith, more);
              shape = longer_shape w (length t.before) t.base t.bytes t.payload t.shape;
            })
        | wants_chunk none h b c ↦
            subst (TracedAt x (p ++ bytes)) (sym (ap (λ (s : Situation). s.stage) b))
            (by_shape t.shape h (omega (arith, none, n, m, few)) (leads ∙ b))
        | is_whole all none b c ↦
            subst (TracedAt x (p ++ bytes)) (sym (ap (λ (s : Situation). s.stage) b)) tt
        | is_refused all r h b c ↦
            subst (TracedAt x (p ++ bytes)) (sym (ap (λ (s : Situation). s.stage) b)) tt
      ]
    where
      by_shape : IsOnePart x (standing (stream x) t.before).situation (length t.before) t.base
          t.bytes
          t.payload ⊎ IsOneOfChunks x (standing (stream x) t.before).situation (length t.before)
          t.base
          t.bytes t.payload
          → is_chunked t.base.form ≡ true → t.base.size ≡ length (t.payload ++ bytes)
          → Leads (record (standing (stream x) t.before).situation {
            stage = chunk_due (payload_behind x (standing (stream x) t.before).situation t.base
                (t.payload ++ bytes));
          })
          → ChunkTrace x (p ++ bytes)
      by_shape (inl h) is all leads =
          let bad = sym (ap (λ (b : OpenPayload). is_chunked b.form) h.base_is) ∙ is in cc
      by_shape (inr h) is all leads = chunk_done o y t one h all leads

  -- each unit
  record_traced : (due : Due) (read : Frame) (text : List ℕ)
      → (standing (stream x) p).situation.stage ≡ record_due due
      → MayCome (may_come (direction_of x.side) due) read → IsRecordOf read text bytes
      → Leads (after_record x (standing (stream x) p).situation (length p) read text)
      → TracedAt x (p ++ bytes) (after_record x (standing (stream x) p).situation (length p) read
      text).stage
  record_traced due (frames.SizedEnvelope size) text at may is leads =
      sized_traced size (at ∙ ap record_due (envelope_due (direction_of x.side) due size may))
      (refl, is.1, is.2, is.3) leads
  record_traced due frames.UnsizedEnvelope text at may is leads =
      unsized_traced due at may (refl, is.1) leads
  record_traced due (frames.Chunk size) text at may is leads =
      let none : payload_by x z (length p) (frames.Chunk size) ≡ None =
      ap (λ (s : Stage). payload_by x (record z { stage = s }) (length p) (frames.Chunk size)) at in
      rw none tt
  record_traced due _ text at may is leads = tt

  size_traced : (o : OpenPayload) (read : Frame) (text : List ℕ)
      → (standing (stream x) p).situation.stage ≡ chunk_due o → ChunkTrace x p
      → MayCome (may_come (direction_of x.side) dues.Chunk) read → IsRecordOf read text bytes
      → Leads (after_record x (standing (stream x) p).situation (length p) read text)
      → TracedAt x (p ++ bytes) (after_record x (standing (stream x) p).situation (length p) read
      text).stage
  size_traced o (frames.Chunk size) text at t may is leads =
      let same = ap (λ (w : Situation). after_record x w (length p) (frames.Chunk size) text)
      t.situation in
      subst (λ (w : Situation). TracedAt x (p ++ bytes) w.stage) (sym same)
      (chunk_traced size t (refl, is.1) (leads ∙ same))
  size_traced o read text at t may is leads = cc

  traced_unit : (u : StreamUnit) (stage : Stage) → (standing (stream x) p).situation.stage ≡ stage
      → unit_in x stage (standing (stream x) p).from bytes ≡ whole u (length bytes)
      → TracedAt x p stage
      → Leads (after x (standing (stream x) p).situation (length p) u)
      → TracedAt x (p ++ bytes) (after x (standing (stream x) p).situation (length p) u).stage
  unfolding after
  traced_unit u (record_due due) at e t leads =
      let c = unit_of_record x (standing (stream x) p).from bytes u (length bytes) due e in
      let is : IsRecordOf c.0.frame c.0.text bytes =
      subst (λ (b : List ℕ). IsRecordOf c.0.frame c.0.text b)
      (take_all (length bytes) bytes (omega arith)) c.2.bytes_are in
      let same = ap (after x z (length p)) c.1 in
      subst (λ (w : Situation). TracedAt x (p ++ bytes) w.stage) (sym same)
      (record_traced due c.0.frame c.0.text at c.2.may is (leads ∙ same))
  traced_unit u (chunk_due o) at e t leads =
      let c = unit_of_chunk x (standing (stream x) p).from bytes u (length bytes) o e in
      let is : IsRecordOf c.0.frame c.0.text bytes =
      subst (λ (b : List ℕ). IsRecordOf c.0.frame c.0.text b)
      (take_all (length bytes) bytes (omega arith)) c.2.bytes_are in
      let same = ap (after x z (length p)) c.1 in
      subst (λ (w : Situation). TracedAt x (p ++ bytes) w.stage) (sym same)
      (size_traced o c.0.frame c.0.text at t c.2.may is (leads ∙ same))
  traced_unit u (payload_open o) at e t leads =
      let c = unit_of_payload x (standing (stream x) p).from bytes u (length bytes) o e in
      let one : bytes ≡ c.0 ∷ [] =
      c.2 ∙ ap (λ r. c.0 ∷ r) (nil_from_length c.1
      (let n = ap length c.2 in let m = c.4 in omega (arith, n, m))) in
      let w : Situation = (standing (stream x) t.before).situation in
      let same : after x z (length p) u
      ≡ behind_payload x w (payload_behind x w t.base (t.payload ++ bytes)) =
      ap (after x z (length p)) c.3
      ∙ ap (λ (s : Situation). on_open s.stage (λ q. behind_payload x s (with_byte x s q c.0)) s)
      t.situation
      ∙ ap (λ (q : OpenPayload). behind_payload x w (with_byte x w q c.0)) t.is
      ∙ ap (behind_payload x w) (with_byte_is x w t.base t.payload c.0)
      ∙ ap (λ b. behind_payload x w (payload_behind x w t.base (t.payload ++ b))) (sym one) in
      subst (λ (w : Situation). TracedAt x (p ++ bytes) w.stage) (sym same)
      (byte_traced o c.0 t one (leads ∙ same))

pub traced : (x : Settings) (p : List ℕ) → AreUnits (stream x) p
    → TracedAt x p (standing (stream x) p).situation.stage
traced x p units =
    units_keep (stream x) (readable x) (λ q. TracedAt x q (standing (stream x) q).situation.stage)
    (λ before bytes u first reads h.
    let leads = leads_so before bytes u first reads in
    subst (λ (w : Situation). TracedAt x (before ++ bytes) w.stage) (sym leads)
    (traced_unit x before bytes first u (standing (stream x) before).situation.stage refl reads h
    leads))
    first_traced p units
  where
    leads_so : (before bytes : List ℕ) (u : StreamUnit) → AreUnits (stream x) before
        → (stream x).unit_at (standing (stream x) before).situation
        (standing (stream x) before).from
        bytes ≡ whole u (length bytes)
        → (standing (stream x) (before ++ bytes)).situation
        ≡ after x (standing (stream x) before).situation (length before) u
    leads_so before bytes u first reads =
        ap (λ (s : Standing Situation StreamEvent Offence). s.situation)
        (unit_standing (stream x) (readable x) before bytes u first reads)
        ∙ ap (λ n. after x (standing (stream x) before).situation n u) (units_place x before first)

    first_traced : TracedAt x [] (standing (stream x) []).situation.stage
    first_traced =
        subst (λ (w : Standing Situation StreamEvent Offence). TracedAt x [] w.situation.stage)
        (sym (standing_nothing (stream x) (readable x))) tt
