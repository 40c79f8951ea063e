-- What holds of each situation of a stream, and of the event that its last unit completed.
use Rattle.std.proofs.Common.{◌≡◌, ℕ, ◌+◌, ◌<◌, ◌≤◌, true, List, [], ◌∷◌, ◌++◌, length, Some, None}
use Rattle.std.proofs.Common.{Option, sym, refl, ap, ◌∙◌, subst, arith, length-append}
use Rattle.{unit_streams.proofs.Passing.given_some, nbfx_values.specs.Limits.IsGood}
use Rattle.unit_streams.proofs.Standing.{standing_append, standing_keeps, standing_last}
use Rattle.unit_streams.proofs.Standing.{standing_length, standing_nothing, standing_open}
use Rattle.unit_streams.specs.{Front.IsOpen, Grammar.resumed, Grammar.standing, Judging.event_at}
use Rattle.string_tables.specs.SessionStrings.{used_cost}
use Rattle.nmf_records.specs.declared.frame.Frame.{Frame}
use Rattle.nbfx_decoder.proofs.{Readable.readable as payload_readable, Sound.keeps_within}
use Rattle.stream_reader.specs.Laws.{FitsIn, IsBoundedIn, open_payload}
use Rattle.stream_reader.specs.Stream.{accepted, after, after_bare, beginning, behind_payload}
use Rattle.stream_reader.specs.Stream.{chunk_due, chunked, completed, completed_bare, with_chunk}
use Rattle.stream_reader.specs.Stream.{completed_payload, ended, Envelope, Form, frame, is_chunked}
use Rattle.stream_reader.specs.Stream.{message, on_open, on_payload, opened, OpenPayload}
use Rattle.stream_reader.specs.Stream.{payload_begun, payload_by, payload_byte, payload_in}
use Rattle.stream_reader.specs.Stream.{payload_open, payloads, PayloadStanding, peer_fault}
use Rattle.stream_reader.specs.Stream.{record_due, Settings, Situation, sized, Stage, stream}
use Rattle.stream_reader.specs.Stream.{StreamEvent, StreamUnit, strings_in, unit_in, with_byte}
use Rattle.stream_reader.proofs.{Grammar.readable, Outcomes.wants_chunk}
use Rattle.stream_reader.proofs.Outcomes.{envelope_of, goes_on, is_refused, is_whole, outcome}
use Rattle.nmf_records.specs.declared.frame.Frame.TheVariants as frames

-- a payload stands behind these bytes of it
pub record IsBehind (x : Settings) (z : Situation) (p : OpenPayload) (bytes : List ℕ) : Type 0 where
  pub standing_is : p.standing ≡ standing (payload_in x z) bytes
  pub counted : length bytes + p.left ≡ p.size

-- and some are to come of its chunk
pub record IsOpenIn (x : Settings) (z : Situation) (p : OpenPayload) : Type 0 where
  pub bytes : List ℕ
  pub behind : IsBehind x z p bytes
  pub more : 0 < p.left

-- or another chunk
pub record IsBetween (x : Settings) (z : Situation) (p : OpenPayload) : Type 0 where
  pub bytes : List ℕ
  pub behind : IsBehind x z p bytes
  pub none_left : p.left ≡ 0
  pub chunked : is_chunked p.form ≡ true

abbrev pub IsOpenAt : Settings → Situation → Stage → Type 0
IsOpenAt x z (record_due due) = Unit {0}
IsOpenAt x z (chunk_due p) = IsBetween x z p
IsOpenAt x z (payload_open p) = IsOpenIn x z p

pub record IsSound (x : Settings) (z : Situation) (from : ℕ) : Type 0 where
  pub messages_within : z.messages ≤ from
  pub dictionary : used_cost z.strings ≤ x.limits.dictionary
  pub payload : IsOpenAt x z z.stage

-- no bytes, and one more
pub begun_behind : (x : Settings) (z : Situation) (from size : ℕ) (form : Form)
    → IsBehind x z (payload_begun x z from size form) []
begun_behind x z from size form = record {
  standing_is = sym (standing_nothing (payload_in x z)
      (payload_readable (payloads x z.kind) z.strings));
  counted = omega arith;
}

pub byte_behind : (x : Settings) (z : Situation) (p : OpenPayload) (bytes : List ℕ) (byte : ℕ)
    → 0 < p.left → IsBehind x z p bytes → IsBehind x z (with_byte x z p byte) (bytes ++ byte ∷ [])
byte_behind x z p bytes byte some h = record {
  standing_is = ap (λ (s : PayloadStanding). resumed (payload_in x z) s (byte ∷ [])) h.standing_is
      ∙ sym (standing_append (payload_in x z) (payload_readable (payloads x z.kind) z.strings)
      bytes (byte ∷ []));
  counted = let n = length-append bytes (byte ∷ []) in let m = h.counted in omega
      (arith, n, m, some);
}

-- the size of another chunk
pub chunk_behind : (x : Settings) (z : Situation) (p : OpenPayload) (bytes : List ℕ) (size : ℕ)
    → p.left ≡ 0 → IsBehind x z p bytes → IsBehind x z (with_chunk p size) bytes
chunk_behind x z p bytes size none h = record {
  standing_is = h.standing_is;
  counted = let m = h.counted in omega (arith, m, none);
}

-- a payload that a record makes or resumes stands behind some bytes
pub record IsBehindSome (x : Settings) (z : Situation) (p : OpenPayload) : Type 0 where
  pub bytes : List ℕ
  pub behind : IsBehind x z p bytes

module _ (x : Settings) (z : Situation) (from : ℕ) where
  in_chunks : (stage : Stage) (size : ℕ) (p : OpenPayload) → z.stage ≡ stage → IsOpenAt x z stage
      → payload_by x (record z { stage = stage }) from (frames.Chunk size) ≡ Some p
      → IsBehindSome x z p
  in_chunks (record_due due) size p at h e = cc
  in_chunks (payload_open o) size p at h e = cc
  in_chunks (chunk_due o) size p at h e =
      let same : with_chunk o size ≡ p = cc in
      subst (IsBehindSome x z) same
      (record { bytes = h.bytes; behind = chunk_behind x z o h.bytes size h.none_left h.behind })

  pub made_behind : (read : Frame) (p : OpenPayload) → IsOpenAt x z z.stage
      → payload_by x z from read ≡ Some p → IsBehindSome x z p
  made_behind (frames.SizedEnvelope size) p h e =
      let same : payload_begun x z from size sized ≡ p = cc in
      subst (IsBehindSome x z) same
      (record { bytes = []; behind = begun_behind x z from size sized })
  made_behind frames.UnsizedEnvelope p h e =
      let same : payload_begun x z from 0 chunked ≡ p = cc in
      subst (IsBehindSome x z) same
      (record { bytes = []; behind = begun_behind x z from 0 chunked })
  made_behind (frames.Chunk size) p h e = in_chunks z.stage size p refl h e
  made_behind read p h e = cc

-- before the first unit
sound_first : (x : Settings) → IsSound x (beginning x) 0
sound_first x = record { messages_within = omega arith; dictionary = omega arith; payload = tt }

-- the strings of a payload are within the quota
pub cheap : (x : Settings) (z : Situation) (p : OpenPayload) (bytes : List ℕ) → IsBehind x z p bytes
    → used_cost z.strings ≤ x.limits.dictionary
    → used_cost p.standing.situation.strings ≤ x.limits.dictionary
cheap x z p bytes h low =
    let keeps = (keeps_within (payloads x z.kind) z.strings
    (payload_readable (payloads x z.kind) z.strings) bytes).dictionary in
    subst (λ (s : PayloadStanding). used_cost s.situation.strings ≤ x.limits.dictionary)
    (sym h.standing_is) (omega (arith, keeps, low))

sound_behind : (x : Settings) (z : Situation) (p : OpenPayload) (bytes : List ℕ) (from k : ℕ)
    → IsBehind x z p bytes → 0 < k → z.messages ≤ from
    → used_cost z.strings ≤ x.limits.dictionary → IsSound x (behind_payload x z p) (from + k)
sound_behind x z p bytes from k h some messages low =
    elim (outcome x z p) [
      | goes_on more b c ↦ rw b (record {
        messages_within = omega (arith, messages);
        dictionary = low;
        payload = record {
          bytes = bytes;
          behind = record { standing_is = h.standing_is; counted = h.counted };
          more = more;
        };
      })
      | wants_chunk none is b c ↦ rw b (record {
        messages_within = omega (arith, messages);
        dictionary = low;
        payload = record {
          bytes = bytes;
          behind = record { standing_is = h.standing_is; counted = h.counted };
          none_left = none;
          chunked = is;
        };
      })
      | is_whole all none b c ↦ rw b (record {
        messages_within = omega (arith, messages, some);
        dictionary = cheap x z p bytes h low;
        payload = tt;
      })
      | is_refused all r is b c ↦ rw b (record {
        messages_within = omega (arith, messages);
        dictionary = cheap x z p bytes h low;
        payload = tt;
      })
    ]

sound_bare : (x : Settings) (z : Situation) (from k : ℕ) (read : Frame) (text : List ℕ) → 0 < k
    → z.messages ≤ from → used_cost z.strings ≤ x.limits.dictionary
    → IsSound x (after_bare x z read text) (from + k)
sound_bare x z from k (frames.KnownEncoding encoding) text some h low =
    record { messages_within = omega arith; dictionary = omega arith; payload = tt }
sound_bare x z from k frames.ExtensibleEncoding text some h low =
    record { messages_within = omega arith; dictionary = omega arith; payload = tt }
sound_bare x z from k _ text some h low =
    record { messages_within = omega arith; dictionary = low; payload = tt }

-- a payload's bytes keep within the quotas
fits : (x : Settings) (z : Situation) (p : OpenPayload) (bytes : List ℕ) → IsBehind x z p bytes
    → used_cost z.strings ≤ x.limits.dictionary → IsGood x.limits
    → FitsIn x.limits (envelope_of z p)
fits x z p bytes h low good =
    let keeps = keeps_within (payloads x z.kind) z.strings
    (payload_readable (payloads x z.kind) z.strings) bytes in
    let there : FitsIn x.limits
    (envelope_of z (record p { standing = standing (payload_in x z) bytes })) = record {
      depth = let deep = keeps.depth in let some = good.depth_least in omega (arith, deep, some);
      content = keeps.content;
      dictionary = let cost = keeps.dictionary in omega (arith, cost, low);
    } in
    subst (λ (s : PayloadStanding). FitsIn x.limits (envelope_of z (record p { standing = s })))
    (sym h.standing_is) there

-- what an event says of where it was completed
abbrev pub Tells : Settings → Situation → ℕ → Option StreamEvent → Type 0
Tells x z to None = Unit {0}
Tells x z to (Some (opened mode kind via)) = (mode ≡ z.mode) × (kind ≡ z.kind) × (via ≡ z.text)
Tells x z to (Some accepted) = Unit {0}
Tells x z to (Some (message e)) = (z.messages ≡ e.number + 1) × (strings_in z ≡ e.strings)
    × (IsGood x.limits → FitsIn x.limits e)
Tells x z to (Some (ended n)) = n ≡ to
Tells x z to (Some (peer_fault n text)) = (n ≡ to) × (text ≡ z.text)

tells_payload : (x : Settings) (z : Situation) (p : OpenPayload) (bytes : List ℕ) (to : ℕ)
    → IsBehind x z p bytes → used_cost z.strings ≤ x.limits.dictionary
    → Tells x (behind_payload x z p) to (completed_payload x z p)
tells_payload x z p bytes to h low =
    elim (outcome x z p) [
      | goes_on more b c ↦ rw c tt
      | wants_chunk none is b c ↦ rw c tt
      | is_whole all none b c ↦ rw (b, c) (refl, refl, fits x z p bytes h low)
      | is_refused all r is b c ↦ rw c tt
    ]

tells_bare : (x : Settings) (z : Situation) (to : ℕ) (read : Frame) (text : List ℕ)
    → Tells x (after_bare x z read text) to (completed_bare z to read text)
tells_bare x z to frames.PreambleEnd text = (refl, refl, refl)
tells_bare x z to frames.PreambleAck text = tt
tells_bare x z to frames.End text = refl
tells_bare x z to frames.Fault text = (refl, refl)
tells_bare x z to read text = tt

module _ (x : Settings) (z : Situation) (from k : ℕ) (some : 0 < k) (h : IsSound x z from) where
  -- behind a record
  sound_record : (read : Frame) (text : List ℕ) (v : Option OpenPayload)
      → payload_by x z from read ≡ v
      → IsSound x (on_payload v (behind_payload x z) (after_bare x z read text)) (from + k)
  sound_record read text (Some p) e =
      let made = made_behind x z from read p h.payload e in
      sound_behind x z p made.bytes from k made.behind some h.messages_within h.dictionary
  sound_record read text None e =
      sound_bare x z from k read text some h.messages_within h.dictionary

  tells_record : (to : ℕ) (read : Frame) (text : List ℕ) (v : Option OpenPayload)
      → payload_by x z from read ≡ v
      → Tells x (on_payload v (behind_payload x z) (after_bare x z read text)) to
      (on_payload v (completed_payload x z) (completed_bare z to read text))
  tells_record to read text (Some p) e =
      let made = made_behind x z from read p h.payload e in
      tells_payload x z p made.bytes to made.behind h.dictionary
  tells_record to read text None e = tells_bare x z to read text

  -- behind a byte
  sound_byte : (byte : ℕ) (stage : Stage) → IsOpenAt x z stage
      → IsSound x (on_open stage (λ p. behind_payload x z (with_byte x z p byte)) z) (from + k)
  sound_byte byte (record_due due) open_at = record {
    messages_within = let m = h.messages_within in omega arith;
    dictionary = h.dictionary;
    payload = h.payload;
  }
  sound_byte byte (chunk_due p) open_at = record {
    messages_within = let m = h.messages_within in omega arith;
    dictionary = h.dictionary;
    payload = h.payload;
  }
  sound_byte byte (payload_open p) open_at =
      sound_behind x z (with_byte x z p byte) (open_at.bytes ++ byte ∷ []) from k
      (byte_behind x z p open_at.bytes byte open_at.more open_at.behind) some
      h.messages_within h.dictionary

  tells_byte : (to byte : ℕ) (stage : Stage) → IsOpenAt x z stage
      → Tells x (on_open stage (λ p. behind_payload x z (with_byte x z p byte)) z) to
      (on_open stage (λ p. completed_payload x z (with_byte x z p byte)) None)
  tells_byte to byte (record_due due) open_at = tt
  tells_byte to byte (chunk_due p) open_at = tt
  tells_byte to byte (payload_open p) open_at =
      tells_payload x z (with_byte x z p byte) (open_at.bytes ++ byte ∷ []) to
      (byte_behind x z p open_at.bytes byte open_at.more open_at.behind) h.dictionary

  pub sound_unit : (u : StreamUnit) → IsSound x (after x z from u) (from + k)
  unfolding after
  sound_unit (frame read) = sound_record read.frame read.text (payload_by x z from read.frame) refl
  sound_unit (payload_byte byte) = sound_byte byte z.stage h.payload

  tells_unit : (u : StreamUnit)
      → Tells x (after x z from u) (from + k) (completed x z from (from + k) u)
  unfolding after completed
  tells_unit (frame read) =
      tells_record (from + k) read.frame read.text (payload_by x z from read.frame) refl
  tells_unit (payload_byte byte) = tells_byte (from + k) byte z.stage h.payload

module _ (x : Settings) where
  pub sound : (p : List ℕ)
      → IsSound x (standing (stream x) p).situation (standing (stream x) p).from
  sound p =
      standing_keeps (stream x) (readable x) (IsSound x) (sound_first x)
      (λ z from b u k e some h. sound_unit x z from k some h u) p

  -- no more messages than bytes
  pub messages_within : (p : List ℕ) → (standing (stream x) p).situation.messages ≤ length p
  messages_within p =
      let n = standing_length (stream x) (readable x) p in
      let m = (sound p).messages_within in omega (arith, n, m)

  -- a payload's byte is a unit of its own, so within a payload nothing is begun
  pub nothing_begun : (p : List ℕ) (o : OpenPayload)
      → (standing (stream x) p).situation.stage ≡ payload_open o → (standing (stream x) p).begun
      ≡ []
  unfolding unit_in
  nothing_begun p o at =
      go (standing (stream x) p).begun (standing_open (stream x) (readable x) p)
    where
      from : ℕ
      from = (standing (stream x) p).from

      go : (b : List ℕ) → IsOpen (unit_in x (standing (stream x) p).situation.stage
          (standing (stream x) p).from b) → b ≡ []
      go [] open_unit = refl
      go (y ∷ b) open_unit =
          absurd (subst (λ (stage : Stage). IsOpen (unit_in x stage
          (standing (stream x) p).from (y ∷ b))) at open_unit)

  pub told_by_last : (p : List ℕ) → Tells x (standing (stream x) p).situation
      (standing (stream x) p).from (standing (stream x) p).event
  told_by_last p =
      (standing_last (stream x) (readable x)
      (λ z from event refusal. IsSound x z from × Tells x z from event) (sound_first x, tt)
      (λ z from event refusal b u k e some h.
      (sound_unit x z from k some h.0 u, tells_unit x z from k some h.0 u)) p).1

  -- the event that a prefix completes is the last unit's, which ends with it
  pub event_tells : (p : List ℕ) (event : StreamEvent) → event_at (stream x) p ≡ Some event
      → Tells x (standing (stream x) p).situation (length p) (Some event)
  unfolding event_at
  event_tells p event e =
      let g = given_some (standing (stream x) p).begun (standing (stream x) p).event event e in
      let all : (standing (stream x) p).from ≡ length p =
      let n = standing_length (stream x) (readable x) p in
      let none = ap length g.0 in omega (arith, n, none) in
      subst (λ (n : ℕ). Tells x (standing (stream x) p).situation n (Some event)) all
      (subst (λ (v : Option StreamEvent). Tells x (standing (stream x) p).situation
      (standing (stream x) p).from v) g.1 (told_by_last p))

  pub documents_fit : IsGood x.limits → (p : List ℕ) (e : Envelope)
      → event_at (stream x) p ≡ Some (message e) → FitsIn x.limits e
  documents_fit good p e here = (event_tells p (message e) here).2 good

  -- what there is of an open payload
  bounded : IsGood x.limits → (z : Situation) (o : OpenPayload) (bytes : List ℕ)
      → IsBehind x z o bytes
      → used_cost z.strings ≤ x.limits.dictionary → IsBoundedIn x.limits o
  bounded good z o bytes behind low =
      let readable_in = payload_readable (payloads x z.kind) z.strings in
      let keeps = keeps_within (payloads x z.kind) z.strings readable_in bytes in
      let size = standing_length (payload_in x z) readable_in bytes in
      let counted = behind.counted in
      let there : IsBoundedIn x.limits (record o { standing = standing (payload_in x z) bytes })
      = record {
        open_elements =
            let open_now = keeps.open_elements in let some = good.depth_least in
            omega (arith, open_now, some);
        content = keeps.content;
        dictionary = let cost = keeps.dictionary in omega (arith, cost, low);
        few_items = let few = keeps.few_items in omega (arith, few, size, counted);
        few_values = let few = keeps.few_values in omega (arith, few, size, counted);
      } in
      subst (λ (s : PayloadStanding). IsBoundedIn x.limits (record o { standing = s }))
      (sym behind.standing_is) there

  pub open_payloads : IsGood x.limits → (p : List ℕ) (o : OpenPayload)
      → open_payload (standing (stream x) p).situation.stage ≡ Some o → IsBoundedIn x.limits o
  open_payloads good p o at =
      by_stage (standing (stream x) p).situation.stage at (sound p).payload
    where
      by_stage : (stage : Stage) → open_payload stage ≡ Some o
          → IsOpenAt x (standing (stream x) p).situation stage → IsBoundedIn x.limits o
      by_stage (record_due due) e h = cc
      by_stage (chunk_due q) e h =
          let same : q ≡ o = cc in
          subst (IsBoundedIn x.limits) same
          (bounded good (standing (stream x) p).situation q h.bytes h.behind (sound p).dictionary)
      by_stage (payload_open q) e h =
          let same : q ≡ o = cc in
          subst (IsBoundedIn x.limits) same
          (bounded good (standing (stream x) p).situation q h.bytes h.behind (sound p).dictionary)
