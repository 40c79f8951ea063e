-- Which bytes of a payload refuse a stream: from the refusal to the bytes.
use Rattle.std.proofs.Common.{◌≡◌, ℕ, ◌+◌, ◌-◌, ◌<◌, ◌≤◌, Bool, true, false, not, ◌&&◌, ◌⊎◌, ◌↔◌}
use Rattle.std.proofs.Common.{List, [], ◌∷◌, ◌++◌, length, if◌then◌else◌, nat_le, ◌==◌, Some, None}
use Rattle.std.proofs.Common.{Option, option_map, sym, refl, ap, ◌∙◌, subst, inl, inr, append_assoc}
use Rattle.std.proofs.Common.{append-nil, arith, length-append, take_all, ne_eqb, eqb-true}
use Rattle.std.proofs.lemmas.{Bool.eqb-false, List.nil_from_length}
use Rattle.{std.specs.Option.option_or, unit_streams.proofs.Refusals.refusals_are_three}
use Rattle.unit_streams.specs.Front.{begun, Front, whole, wrong}
use Rattle.unit_streams.specs.{Grammar.standing, Judging.refusal_at, Parts.seen, Refusals.AreUnits}
use Rattle.nbfx_values.specs.declared.refusals.{Offence.Offence, Reason.Reason}
use Rattle.nbfx_values.specs.declared.refusals.Place.TheVariants.{Payload as InPayload}
use Rattle.nmf_records.specs.declared.frame.{Frame.Frame, FrameFault.FrameFault}
use Rattle.nmf_records.specs.{declared.script.Due.Due, Script.may_come}
use Rattle.nmf_records.specs.RecordFronts.{frame_at, MayCome}
use Rattle.nmf_records.specs.Records.{IsRecordOf, Read}
use Rattle.nbfx_decoder.proofs.{PayloadAnswers.nothing_is_refused, PayloadReasons.nothing_unrefused}
use Rattle.nbfx_decoder.specs.Payload.{Refusal, refusal}
use Rattle.stream_reader.specs.Reasons.{HasPayload, IsPart, ShowsInPayload}
use Rattle.stream_reader.{specs.Sessions.IsBare, proofs.Reasons.apart, proofs.Reasons.some_mapped}
use Rattle.stream_reader.specs.Stream.{text_limits}
use Rattle.stream_reader.specs.Stream.{chunk_due, chunked, direction_of, due_record_at, frame}
use Rattle.stream_reader.specs.Stream.{is_chunked, is_over_in, is_whole, last_chunk, offence_at}
use Rattle.stream_reader.specs.Stream.{offence_in, on_open, on_payload, open_from, OpenPayload}
use Rattle.stream_reader.specs.Stream.{payload_at, payload_begun, payload_by, payload_open}
use Rattle.stream_reader.specs.Stream.{payloads, reason_in, reason_of, record_due, refusal_in}
use Rattle.stream_reader.specs.Stream.{refused, refused_payload, refused_record, Settings}
use Rattle.stream_reader.specs.Stream.{Situation, sized, Stage, stream, StreamUnit, too_long}
use Rattle.stream_reader.specs.Stream.{unit_in, with_byte, with_chunk}
use Rattle.stream_reader.proofs.Coming.{unit_of_chunk, unit_of_payload, unit_of_record}
use Rattle.stream_reader.proofs.DueRecords.{envelope_due, refusing}
use Rattle.stream_reader.proofs.Envelopes.{between, so_far}
use Rattle.stream_reader.proofs.{Grammar.readable, PayloadBytes.with_byte_is}
use Rattle.stream_reader.proofs.PayloadBytes.{behind_is, payload_behind, refusal_between}
use Rattle.stream_reader.proofs.PayloadReasons.{for_in_payload, last_is, shown_by}
use Rattle.stream_reader.proofs.PayloadTrace.{ChunkTrace, IsOneOfChunks, IsOnePart, OpenTrace}
use Rattle.stream_reader.proofs.PayloadTrace.{traced, TracedAt}
use Rattle.stream_reader.proofs.{RightRecords.right_size, Situations.begun_behind}
use Rattle.nbfx_values.specs.declared.refusals.Reason.TheVariants as reasons
use Rattle.nmf_records.specs.declared.frame.Frame.TheVariants as frames
use Rattle.nmf_records.specs.declared.script.Due.TheVariants as dues

-- two refusals in payloads that are one
same_number : (m n : ℕ) (r s : Refusal) → offence_in m r ≡ offence_in n s → m ≡ n
same_number m n r s e =
    let h : InPayload m r.at ≡ InPayload n s.at = ap (λ (o : Offence). o.place) e in cc

same_refusal : (m n : ℕ) (r s : Refusal) → offence_in m r ≡ offence_in n s → r ≡ s
same_refusal m n r s e =
    let h : InPayload m r.at ≡ InPayload n s.at = ap (λ (o : Offence). o.place) e in
    let at : r.at ≡ s.at = cc in
    ap (λ n. record r { at = n }) at
    ∙ ap (λ reason. refusal s.at reason) (ap (λ (o : Offence). o.reason) e)

-- a record that is refused in a payload
record IsRefusedIn (x : Settings) (z : Situation) (from number : ℕ) (r : Refusal) (read : Frame)
    (text : List ℕ) : Type 0 where
  payload : OpenPayload
  made : payload_by x z from read ≡ Some payload
  fine : reason_in x z.stage read text ≡ None
  refused : refusal_in x z payload ≡ Some r
  number_is : z.messages ≡ number

in_record : (x : Settings) (z : Situation) (from number : ℕ) (r : Refusal) (read : Frame)
    (text : List ℕ) → refused_record x z from read text ≡ Some (offence_in number r)
    → IsRefusedIn x z from number r read text
in_record x z from number r read text e =
    go (reason_in x z.stage read text) (payload_by x z from read) refl refl e
  where
    go : (v : Option Reason) (w : Option OpenPayload) → reason_in x z.stage read text ≡ v
        → payload_by x z from read ≡ w
        → option_or (option_map (offence_at from) v) (on_payload w (refused_payload x z) None)
        ≡ Some (offence_in number r)
        → IsRefusedIn x z from number r read text
    go (Some reason) w is made some =
        let same : offence_at from reason ≡ offence_in number r = cc in
        absurd (apart from reason number r same)
    go None None is made some = cc
    go None (Some p) is made some =
        let m = some_mapped (offence_in z.messages) (refusal_in x z p) (offence_in number r) some in
        record {
          payload = p;
          made = made;
          fine = is;
          refused = m.1 ∙ ap Some (sym (same_refusal number z.messages r m.0 m.2));
          number_is = sym (same_number number z.messages r m.0 m.2);
        }

module _ (x : Settings) (p before bytes : List ℕ) (joined : p ≡ before ++ bytes)
    (units : AreUnits (stream x) before) (number : ℕ) (r : Refusal) where
  abbrev z : Situation
  z = (standing (stream x) before).situation

  abbrev Shows : Type 0
  Shows = ShowsInPayload x p number r.at r.reason

  -- the head of an envelope of one part, of which none has come
  by_sized : (from size : ℕ) → (standing (stream x) before).situation.stage
      ≡ record_due dues.Messages
      → IsBare (frames.SizedEnvelope size) bytes
      → refusal_in x (standing (stream x) before).situation
      (payload_begun x (standing (stream x) before).situation from size sized) ≡ Some r
      → (standing (stream x) before).situation.messages ≡ number
      → ShowsInPayload x p number r.at r.reason
  by_sized from size at is e number_is =
      let o : OpenPayload = payload_begun x z from size sized in
      let so : refusal_in x z (payload_behind x z o []) ≡ Some r =
      ap (refusal_in x z) (sym (behind_is x z o [] (begun_behind x z from size sized))) ∙ e in (
        z,
        [],
        (0 == size),
        record {
          before = before;
          bytes = bytes;
          joined = joined;
          units = units;
          situation = refl;
          part = inl (record {
            size = size;
            head = bytes;
            is_due = at;
            is_head = is;
            joined = sym (append-nil bytes);
            within = omega arith;
            is_all = refl;
          });
        },
        number_is,
        (shown_by x z o [] r (0 == size) (omega arith) (whole_is size (0 == size) refl)).0 so,
      )
    where
      whole_is : (size : ℕ) (b : Bool) → (0 == size) ≡ b → ((size - 0 == 0) && true) ≡ b
      whole_is size true e =
          let same = eqb-true 0 size e in
          let none : size - 0 ≡ 0 = omega (arith, same) in rw none refl
      whole_is size false e =
          let ne = eqb-false 0 size e in
          rw (ne_eqb (size - 0) 0 (λ none. ne (omega (arith, none)))) refl

  by_record : (due : Due) (from : ℕ) (read : Frame) (text : List ℕ)
      → (standing (stream x) before).situation.stage ≡ record_due due
      → MayCome (may_come (direction_of x.side) due) read → IsRecordOf read text bytes
      → IsRefusedIn x (standing (stream x) before).situation from number r read text
      → ShowsInPayload x p number r.at r.reason
  by_record due from (frames.SizedEnvelope size) text at may is h =
      let same : payload_begun x z from size sized ≡ h.payload = let made = h.made in cc in
      by_sized from size (at ∙ ap record_due (envelope_due (direction_of x.side) due size may))
      (refl, is.1, is.2, is.3) (ap (refusal_in x z) same ∙ h.refused) h.number_is
  by_record due from frames.UnsizedEnvelope text at may is h =
      let o : OpenPayload = payload_begun x z from 0 chunked in
      let same : o ≡ h.payload = let made = h.made in cc in
      let none : refusal_in x z o ≡ None =
      ap (refusal_in x z) (behind_is x z o [] (begun_behind x z from 0 chunked))
      ∙ refusal_between x z o [] (omega arith) refl
      ∙ nothing_unrefused (payloads x z.kind) z.strings []
      (nothing_is_refused (payloads x z.kind) z.strings 0) in
      let bad = sym none ∙ ap (refusal_in x z) same ∙ h.refused in cc
  by_record due from (frames.Chunk size) text at may is h =
      let none : payload_by x z from (frames.Chunk size) ≡ None =
      ap (λ (s : Stage). payload_by x (record z { stage = s }) from (frames.Chunk size)) at in
      let bad = sym none ∙ h.made in cc
  by_record due from read text at may is h = let made = h.made in cc

  -- a chunk's size
  by_size : (from : ℕ) (read : Frame) (text : List ℕ) → ChunkTrace x before
      → MayCome (may_come (direction_of x.side) dues.Chunk) read → IsRecordOf read text bytes
      → IsRefusedIn x (standing (stream x) before).situation from number r read text
      → ShowsInPayload x p number r.at r.reason
  by_size from (frames.Chunk size) text t may is h =
      let w : Situation = (standing (stream x) t.before).situation in
      let s : Situation = between x w (length t.before) t.payload in
      let o : OpenPayload = with_chunk (so_far x w (length t.before) t.payload) size in
      let made : Some o ≡ Some h.payload =
      ap (λ (v : Situation). payload_by x v from (frames.Chunk size)) (sym t.situation) ∙ h.made in
      let same : o ≡ h.payload = cc in
      let e : refusal_in x s (payload_behind x s o t.payload) ≡ Some r =
      ap (refusal_in x s)
      (sym (behind_is x s o t.payload (record { standing_is = refl; counted = refl })) ∙ same)
      ∙ ap (λ (v : Situation). refusal_in x v h.payload) (sym t.situation) ∙ h.refused in
      let low : length t.payload + size ≤ x.limits.payload =
      right_size x (length t.payload + size)
      (ap (λ (v : Situation). reason_in x v.stage (frames.Chunk size) text) (sym t.situation) ∙
      h.fine) in (
        w,
        t.payload,
        (size == 0),
        record {
          before = t.before;
          bytes = t.bytes ++ bytes;
          joined = joined ∙ ap (λ b. b ++ bytes) t.joined ∙ append_assoc t.before t.bytes bytes;
          units = t.units;
          situation = refl;
          part = inr (inl (record {
            front = t.bytes;
            head = bytes;
            size = size;
            chunked = t.chunks;
            is_head = (refl, is.1);
            joined_bytes = refl;
            low = low;
            is_all = refl;
          }));
        },
        ap (λ (v : Situation). v.messages) (sym t.situation) ∙ h.number_is,
        (shown_by x s o t.payload r (size == 0) (omega arith)
            (last_is x w (length t.before) t.payload size (size == 0) refl)).0 e,
      )
  by_size from read text t may is h = cc

  -- a byte
  by_byte : (o : OpenPayload) (y : ℕ) (t : OpenTrace x before o) → bytes ≡ y ∷ []
      → (standing (stream x) t.before).situation.messages ≡ number
      → refusal_in x (standing (stream x) t.before).situation
      (payload_behind x (standing (stream x) t.before).situation t.base (t.payload ++ bytes))
      ≡ Some r
      → ShowsInPayload x p number r.at r.reason
  by_byte o y t one number_is e = by_shape t.shape where
    w : Situation
    w = (standing (stream x) t.before).situation

    some : 0 < length bytes
    some = let n = ap length one in omega (arith, n)

    le : length (t.payload ++ bytes) ≤ t.base.size
    le =
        let n = length-append t.payload bytes in let m = ap length one in let few = t.more in
        omega (arith, n, m, few)

    has : (all : Bool)
        → IsPart x (standing (stream x) t.before).situation (t.bytes ++ bytes) (t.payload ++ bytes)
        all
        → HasPayload x p (standing (stream x) t.before).situation (t.payload ++ bytes) all
    has all part = record {
      before = t.before;
      bytes = t.bytes ++ bytes;
      joined = joined ∙ ap (λ b. b ++ bytes) t.joined ∙ append_assoc t.before t.bytes bytes;
      units = t.units;
      situation = refl;
      part = part;
    }

    by_shape : IsOnePart x (standing (stream x) t.before).situation (length t.before) t.base t.bytes
        t.payload ⊎ IsOneOfChunks x (standing (stream x) t.before).situation (length t.before)
        t.base
        t.bytes t.payload
        → ShowsInPayload x p number r.at r.reason
    by_shape (inl h) =
        let size_is : t.base.size ≡ h.size = ap (λ (b : OpenPayload). b.size) h.base_is in
        let form_is : is_chunked t.base.form ≡ false =
        ap (λ (b : OpenPayload). is_chunked b.form) h.base_is in
        let all : Bool = length (t.payload ++ bytes) == h.size in (
          w,
          t.payload ++ bytes,
          length (t.payload ++ bytes) == h.size,
          has (length (t.payload ++ bytes) == h.size) (inl (record {
            size = h.size;
            head = h.head;
            is_due = h.is_due;
            is_head = h.is_head;
            joined = ap (λ c. c ++ bytes) h.joined ∙ append_assoc h.head t.payload bytes;
            within = (let fits = le in omega (arith, fits, size_is));
            is_all = refl;
          })),
          number_is,
          (shown_by x w t.base (t.payload ++ bytes) r (length (t.payload ++ bytes) == h.size) le
              (whole_is (length (t.payload ++ bytes) == h.size) refl size_is form_is)).0 e,
        )
      where
        whole_is : (b : Bool) → (length (t.payload ++ bytes) == h.size) ≡ b → t.base.size ≡ h.size
            → is_chunked t.base.form ≡ false
            → is_whole (payload_behind x (standing (stream x) t.before).situation t.base
            (t.payload ++ bytes)) ≡ b
        whole_is true e size_is form_is =
            let same = eqb-true (length (t.payload ++ bytes)) h.size e in
            let none : t.base.size - length (t.payload ++ bytes) ≡ 0 = omega (arith, same, size_is)
            in
            rw (none, form_is) refl
        whole_is false e size_is form_is =
            let ne = eqb-false (length (t.payload ++ bytes)) h.size e in
            let fits = le in
            rw (ne_eqb (t.base.size - length (t.payload ++ bytes)) 0
            (λ none. ne (omega (arith, none, size_is, fits)))) refl
    by_shape (inr h) =
        let size_is : t.base.size ≡ length h.before + h.size =
        ap (λ (b : OpenPayload). b.size) h.base_is in
        let not_last : (h.size == 0) ≡ false =
        let more = h.some in ne_eqb h.size 0 (λ e. omega (arith, more, e)) in
        let form_is : is_chunked t.base.form ≡ true =
        ap (λ (b : OpenPayload). is_chunked b.form) h.base_is
        ∙ ap (λ (b : Bool). is_chunked (if b then last_chunk else chunked)) not_last in
        let longer : t.payload ++ bytes ≡ h.before ++ (h.part ++ bytes) =
        ap (λ c. c ++ bytes) h.payload_is ∙ append_assoc h.before h.part bytes in (
          w,
          t.payload ++ bytes,
          false,
          has false (inr (inr (
            refl,
            record {
              front = h.front;
              head = h.head;
              size = h.size;
              before = h.before;
              part = h.part ++ bytes;
              chunked = h.chunks;
              is_head = h.is_head;
              some = (let n = length-append h.part bytes in let m = some in omega (arith, n, m));
              within = (let n = ap length longer in let m = length-append h.before (h.part ++ bytes)
                  in
                  let fits = le in omega (arith, n, m, fits, size_is));
              joined_bytes = ap (λ c. c ++ bytes) h.bytes_are ∙ append_assoc (h.front ++ h.head)
                  h.part bytes;
              payload_is = longer;
            },
          ))),
          number_is,
          (shown_by x w t.base (t.payload ++ bytes) r false le
              (rw form_is (off (t.base.size - length (t.payload ++ bytes) == 0)))).0 e,
        )
      where
        off : (b : Bool) → (b && not true) ≡ false
        off true = refl
        off false = refl

  of_unit : (stage : Stage) (u : StreamUnit) → (standing (stream x) before).situation.stage ≡ stage
      → unit_in x stage (standing (stream x) before).from bytes ≡ whole u (length bytes)
      → TracedAt x before stage
      → refused x (standing (stream x) before).situation (standing (stream x) before).from u
      ≡ Some (offence_in number r)
      → ShowsInPayload x p number r.at r.reason
  unfolding refused
  of_unit (record_due due) u at e t some =
      let from : ℕ = (standing (stream x) before).from in
      let c = unit_of_record x from bytes u (length bytes) due e in
      let is : IsRecordOf c.0.frame c.0.text bytes =
      subst (λ (b : List ℕ). IsRecordOf c.0.frame c.0.text b)
      (take_all (length bytes) bytes (omega arith)) c.2.bytes_are in
      by_record due from c.0.frame c.0.text at c.2.may is
      (in_record x z from number r c.0.frame c.0.text (ap (refused x z from) (sym c.1) ∙ some))
  of_unit (chunk_due o) u at e t some =
      let from : ℕ = (standing (stream x) before).from in
      let c = unit_of_chunk x from bytes u (length bytes) o e in
      let is : IsRecordOf c.0.frame c.0.text bytes =
      subst (λ (b : List ℕ). IsRecordOf c.0.frame c.0.text b)
      (take_all (length bytes) bytes (omega arith)) c.2.bytes_are in
      by_size from c.0.frame c.0.text t c.2.may is
      (in_record x z from number r c.0.frame c.0.text (ap (refused x z from) (sym c.1) ∙ some))
  of_unit (payload_open o) u at e t some =
      let from : ℕ = (standing (stream x) before).from in
      let c = unit_of_payload x from bytes u (length bytes) o e in
      let one : bytes ≡ c.0 ∷ [] =
      c.2 ∙ ap (λ q. c.0 ∷ q) (nil_from_length c.1
      (let n = ap length c.2 in let m = c.4 in omega (arith, n, m))) in
      let w : Situation = (standing (stream x) t.before).situation in
      let so : refused_payload x w (payload_behind x w t.base (t.payload ++ bytes))
      ≡ Some (offence_in number r) =
      ap (λ b. refused_payload x w (payload_behind x w t.base (t.payload ++ b))) one
      ∙ ap (refused_payload x w) (sym (with_byte_is x w t.base t.payload c.0))
      ∙ ap (λ (q : OpenPayload). refused_payload x w (with_byte x w q c.0)) (sym t.is)
      ∙ ap (λ (s : Situation). on_open s.stage (λ q. refused_payload x s (with_byte x s q c.0))
      None)
      (sym t.situation)
      ∙ ap (refused x z from) (sym c.3) ∙ some in
      let m = some_mapped (offence_in w.messages)
      (refusal_in x w (payload_behind x w t.base (t.payload ++ bytes))) (offence_in number r) so in
      by_byte o c.0 t one (sym (same_number number w.messages r m.0 m.2))
      (m.1 ∙ ap Some (sym (same_refusal number w.messages r m.0 m.2)))

-- no bytes that are no unit, and no length, refuse a payload
seen_apart : (due : Due) (from number : ℕ) (r : Refusal) (v : Front Read FrameFault) (n : ℕ)
    → seen frame (refusing from due) v ≡ wrong (offence_in number r) n → ⊥
seen_apart due from number r begun n e = cc
seen_apart due from number r (whole read k) n e = cc
seen_apart due from number r (wrong fault k) n e =
    let same : refusing from due fault ≡ offence_in number r = cc in
    apart from (reason_of due fault) number r same

record_apart : (x : Settings) (due : Due) (from : ℕ) (bytes : List ℕ) (number : ℕ) (r : Refusal)
    (n : ℕ) → due_record_at x due from bytes ≡ wrong (offence_in number r) n → ⊥
record_apart x dues.Over from bytes number r n e = cc
record_apart x due from bytes number r n e =
    seen_apart due from number r (frame_at (text_limits x) (may_come
    (direction_of x.side) due) bytes)
    n e

bytes_apart : (x : Settings) (stage : Stage) (from : ℕ) (bytes : List ℕ) (number : ℕ) (r : Refusal)
    (n : ℕ) → unit_in x stage from bytes ≡ wrong (offence_in number r) n → ⊥
unfolding unit_in
bytes_apart x (record_due due) from bytes number r n e = record_apart x due from bytes number r n e
bytes_apart x (chunk_due o) from bytes number r n e =
    record_apart x dues.Chunk from bytes number r n e
bytes_apart x (payload_open o) from bytes number r n e = never bytes e where
  never : (b : List ℕ) → payload_at b ≡ wrong (offence_in number r) n → ⊥
  never [] e = cc
  never (y ∷ b) e = cc

length_apart : (x : Settings) (stage : Stage) (from n number : ℕ) (r : Refusal)
    → too_long x stage from n ≡ Some (offence_in number r) → ⊥
unfolding too_long
length_apart x stage from n number r e =
    go (nat_le x.limits.session n && not (is_over_in stage)) e
  where
    go : (b : Bool) → (if b then Some (offence_at (open_from stage from) reasons.SessionTooLong)
        else None) ≡ Some (offence_in number r) → ⊥
    go true e =
        let same : offence_at (open_from stage from) reasons.SessionTooLong ≡ offence_in number r =
        cc in
        apart (open_from stage from) reasons.SessionTooLong number r same
    go false e = cc

module _ (x : Settings) (p : List ℕ) where
  in_payload_for : (number at : ℕ) (reason : Reason)
      → refusal_at (stream x) p ≡ Some (offence_in number (refusal at reason))
      → ShowsInPayload x p number at reason
  in_payload_for number at reason e =
      elim ((refusals_are_three (stream x) (readable x) p
      (offence_in number (refusal at reason))).0 e) [
        | inl h ↦ of_unit x p h.before h.bytes h.joined h.units number (refusal at reason) _ h.unit
            refl
            h.reads (traced x h.before h.units) h.refused
        | inr (inl h) ↦ absurd (bytes_apart x (standing (stream x) h.before).situation.stage
            (standing (stream x) h.before).from h.bytes number (refusal at reason) h.size h.reads)
        | inr (inr h) ↦ absurd (length_apart x (standing (stream x) p).situation.stage
            (standing (stream x) p).from (length p) number (refusal at reason) h.refused)
      ]

  pub in_payload_is : (number at : ℕ) (reason : Reason)
      → (refusal_at (stream x) p ≡ Some (offence_in number (refusal at reason)))
      ↔ ShowsInPayload x p number at reason
  in_payload_is number at reason =
      (in_payload_for number at reason, for_in_payload x p number at reason)
