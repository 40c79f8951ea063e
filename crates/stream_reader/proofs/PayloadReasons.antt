-- Which bytes of a payload refuse a stream: from the bytes to the refusal.
use Rattle.std.proofs.Common.{◌≡◌, ℕ, zero, suc, ◌+◌, ◌-◌, ◌<◌, ◌≤◌, Bool, true, false, not, ◌&&◌}
use Rattle.std.proofs.Common.{◌↔◌, List, [], ◌∷◌, ◌++◌, length, if◌then◌else◌, ◌==◌, Some, None}
use Rattle.std.proofs.Common.{Option, option_map, sym, refl, ap, ◌∙◌, subst, inl, inr, append_assoc}
use Rattle.std.proofs.Common.{append-nil, arith, length-append, le-ltb, ne_eqb, eqb-true}
use Rattle.std.{proofs.lemmas.Bool.eqb-false, specs.Option.option_or}
use Rattle.{unit_streams.proofs.Passing.refusal_from, stream_reader.proofs.Situations.begun_behind}
use Rattle.unit_streams.specs.{Front.whole, Front.wrong_of, Refusals.AreUnits}
use Rattle.unit_streams.specs.Grammar.{Standing, standing}
use Rattle.unit_streams.specs.Judging.{ending_at, refusal_at}
use Rattle.nbfx_values.specs.declared.refusals.Offence.{Offence}
use Rattle.nbfx_values.specs.declared.refusals.Reason.{Reason, TheVariants.MessageTooLarge}
use Rattle.nmf_records.specs.{declared.script.Due.Due, Records.Read, Script.may_come}
use Rattle.nmf_records.specs.RecordFronts.{bare, MayCome}
use Rattle.nbfx_decoder.proofs.PayloadAnswers.{nothing_is_refused}
use Rattle.nbfx_decoder.proofs.PayloadReasons.{cut_where_unended, nothing_unrefused}
use Rattle.nbfx_decoder.proofs.PayloadReasons.{refused_where_shown, unrefused_nothing}
use Rattle.nbfx_decoder.specs.Payload.{Refusal, refusal}
use Rattle.stream_reader.specs.Reasons.{AreWhole, IsChunked, IsInChunk, IsPart, IsResumed}
use Rattle.stream_reader.specs.Reasons.{IsSizedPart, ShowsInPayload, ShowsOf}
use Rattle.stream_reader.specs.Sessions.{IsBare, joined}
use Rattle.stream_reader.specs.Stream.{behind_payload, chunk_due, chunked, direction_of, Form}
use Rattle.stream_reader.specs.Stream.{frame, is_chunked, is_over_in, is_whole, last_chunk}
use Rattle.stream_reader.specs.Stream.{offence_at, offence_in, on_payload, OpenPayload, with_chunk}
use Rattle.stream_reader.specs.Stream.{payload_begun, payload_by, payload_in, payload_open}
use Rattle.stream_reader.specs.Stream.{payloads, PayloadStanding, reason_in, record_due, refusal_in}
use Rattle.stream_reader.specs.Stream.{refused_payload, refused_record, Settings, Situation, sized}
use Rattle.stream_reader.specs.Stream.{Stage, stream, StreamEvent, too_large, too_long, unit_in}
use Rattle.stream_reader.proofs.DueRecords.{envelope_comes, record_unit}
use Rattle.stream_reader.proofs.Envelopes.{between, chunk_reads, so_far}
use Rattle.stream_reader.proofs.Outcomes.{chunk_behind, more_behind}
use Rattle.stream_reader.proofs.PayloadBytes.{behind_is, bytes_refused, bytes_stand, IsWithin}
use Rattle.stream_reader.proofs.PayloadBytes.{made_stands, payload_behind, refusal_all}
use Rattle.stream_reader.proofs.PayloadBytes.{refusal_before, refusal_between}
use Rattle.nmf_records.specs.declared.frame.Frame.TheVariants as frames
use Rattle.nmf_records.specs.declared.script.Due.TheVariants as dues

-- why bytes of a payload are refused, by what they show
module _ (x : Settings) (z : Situation) (o : OpenPayload) (bytes : List ℕ) (r : Refusal) where
  abbrev here : OpenPayload
  here = payload_behind x z o bytes

  -- where some are to come, or another chunk
  shown_part : refusal_in x z (payload_behind x z o bytes) ≡ refusal_at (payload_in x z) bytes
      → (refusal_in x z (payload_behind x z o bytes) ≡ Some r)
      ↔ ShowsOf (payloads x z.kind) z.strings false bytes r.at r.reason
  shown_part same = (
    (λ e. inl ((refused_where_shown (payloads x z.kind) z.strings bytes r.at r.reason).0
        (sym same ∙ e))),
    back,
  ) where
    back : ShowsOf (payloads x z.kind) z.strings false bytes r.at r.reason
        → refusal_in x z (payload_behind x z o bytes) ≡ Some r
    back (inl shows) =
        same ∙ (refused_where_shown (payloads x z.kind) z.strings bytes r.at r.reason).1 shows
    back (inr (is, all, cut, nothing)) = cc

  -- where they are all
  shown_all : length bytes ≡ o.size → is_chunked o.form ≡ false
      → (refusal_in x z (payload_behind x z o bytes) ≡ Some r)
      ↔ ShowsOf (payloads x z.kind) z.strings true bytes r.at r.reason
  shown_all all last = (there, back) where
    either : (v : Option Refusal) → refusal_at (payload_in x z) bytes ≡ v
        → option_or v (ending_at (payload_in x z) bytes) ≡ Some r
        → ShowsOf (payloads x z.kind) z.strings true bytes r.at r.reason
    either (Some other) e some =
        inl ((refused_where_shown (payloads x z.kind) z.strings bytes r.at r.reason).0 (e ∙ some))
    either None e some =
        let cut = (cut_where_unended (payloads x z.kind) z.strings bytes r.at r.reason).0 some in
        inr (cut.0, refl, cut.1, unrefused_nothing (payloads x z.kind) z.strings bytes e)

    there : refusal_in x z (payload_behind x z o bytes) ≡ Some r
        → ShowsOf (payloads x z.kind) z.strings true bytes r.at r.reason
    there e =
        either (refusal_at (payload_in x z) bytes) refl (sym (refusal_all x z o bytes all last) ∙ e)

    back : ShowsOf (payloads x z.kind) z.strings true bytes r.at r.reason
        → refusal_in x z (payload_behind x z o bytes) ≡ Some r
    back (inl shows) =
        refusal_all x z o bytes all last
        ∙ ap (λ v. option_or v (ending_at (payload_in x z) bytes))
        ((refused_where_shown (payloads x z.kind) z.strings bytes r.at r.reason).1 shows)
    back (inr (is, every, cut, nothing)) =
        refusal_all x z o bytes all last
        ∙ ap (λ v. option_or v (ending_at (payload_in x z) bytes))
        (nothing_unrefused (payloads x z.kind) z.strings bytes nothing)
        ∙ (cut_where_unended (payloads x z.kind) z.strings bytes r.at r.reason).1 (is, cut)

  -- by whether they are
  pub shown_by : (all : Bool) → length bytes ≤ o.size
      → is_whole (payload_behind x z o bytes) ≡ all
      → (refusal_in x z (payload_behind x z o bytes) ≡ Some r)
      ↔ ShowsOf (payloads x z.kind) z.strings all bytes r.at r.reason
  shown_by all le e = go (is_chunked o.form) refl ((o.size - length bytes) == 0) refl all e where
    go : (c : Bool) → is_chunked o.form ≡ c → (b : Bool) → ((o.size - length bytes) == 0) ≡ b
        → (all : Bool) → is_whole (payload_behind x z o bytes) ≡ all
        → (refusal_in x z (payload_behind x z o bytes) ≡ Some r)
        ↔ ShowsOf (payloads x z.kind) z.strings all bytes r.at r.reason
    go true h b is true w = let bad : is_whole (payload_behind x z o bytes)
        ≡ false = rw h (off b is) in cc
      where
        off : (b : Bool) → ((o.size - length bytes) == 0) ≡ b
            → (((o.size - length bytes) == 0) && not true) ≡ false
        off true is = rw is refl
        off false is = rw is refl
    go true h b is false w = shown_part (refusal_between x z o bytes le h)
    go false h true is true w =
        shown_all (let none = eqb-true (o.size - length bytes) 0 is in omega (arith, none, le)) h
    go false h true is false w =
        let bad : is_whole (payload_behind x z o bytes) ≡ true = rw (is, h) refl in cc
    go false h false is true w =
        let bad : is_whole (payload_behind x z o bytes) ≡ false = rw is refl in cc
    go false h false is false w =
        shown_part (refusal_before x z o bytes
        (let ne = eqb-false (o.size - length bytes) 0 is in omega (arith, ne, le)))

-- bytes behind a record that makes or resumes a payload
module _ (x : Settings) (before head : List ℕ) (read : Read) (o : OpenPayload) (q : List ℕ)
    (units : AreUnits (stream x) before)
    (reads : unit_in x (standing (stream x) before).situation.stage
    (standing (stream x) before).from head ≡ whole (frame read) (length head))
    (made : payload_by x (standing (stream x) before).situation (length before) read.frame ≡ Some o)
    (is : o ≡ payload_behind x (standing (stream x) before).situation o q) where
  abbrev z : Situation
  z = (standing (stream x) before).situation

  pub made_within : length q < o.size → IsWithin x (before ++ head)
      (standing (stream x) before).situation o q
  made_within lt =
      let s = made_stands x before head read o units reads made in
      let some : 0 < o.left = let n = ap (λ (p : OpenPayload). p.left) is in omega (arith, n, lt) in
      record {
        units = ap (λ (t : Standing Situation StreamEvent Offence). t.begun) s;
        situation = ap (λ (t : Standing Situation StreamEvent Offence). t.situation) s
            ∙ more_behind x z o some
            ∙ ap (λ (p : OpenPayload). record z { stage = payload_open p }) is;
        more = lt;
      }

  -- none of them
  pub made_refused : (r : Refusal)
      → reason_in x (standing (stream x) before).situation.stage read.frame read.text ≡ None
      → refusal_in x (standing (stream x) before).situation
      (payload_behind x (standing (stream x) before).situation o q) ≡ Some r
      → refusal_at (stream x) (before ++ head)
      ≡ Some (offence_in (standing (stream x) before).situation.messages r)
  made_refused r fine e =
      let told : refused_record x z (length before) read.frame read.text
      ≡ Some (offence_in z.messages r) =
      ap (λ (v : Option Reason). option_or (option_map (offence_at (length before)) v)
      (on_payload (payload_by x z (length before) read.frame) (refused_payload x z) None)) fine
      ∙ ap (λ (v : Option OpenPayload). on_payload v (refused_payload x z) None) made
      ∙ ap (option_map (offence_in z.messages)) (ap (refusal_in x z) is ∙ e) in
      refusal_from (stream x) (before ++ head) _ (made_stands x before head read o units reads made)
      ∙ ap (λ v. option_or v (option_or
      (wrong_of ((stream x).unit_at (behind_payload x z o) (length (before ++ head)) []))
      (too_long x (behind_payload x z o).stage (length (before ++ head))
      (length (before ++ head)))))
      told

-- behind whole chunks, before the size of another
pub record IsBetweenChunks (x : Settings) (z : Situation) (start : ℕ) (p q : List ℕ) : Type 0 where
  pub units : AreUnits (stream x) p
  pub situation : (standing (stream x) p).situation ≡ between x z start q

-- a chunk's size there resumes the payload
module _ (x : Settings) (z : Situation) (start : ℕ) (p q head : List ℕ) (n : ℕ)
    (at : IsBetweenChunks x z start p q) (is_head : IsBare (frames.Chunk n) head) where
  abbrev o : OpenPayload
  o = with_chunk (so_far x z start q) n

  pub size_reads : unit_in x (standing (stream x) p).situation.stage (standing (stream x) p).from
      head
      ≡ whole (frame (bare (frames.Chunk n))) (length head)
  size_reads =
      ap (λ (w : Situation). unit_in x w.stage (standing (stream x) p).from head) at.situation
      ∙ chunk_reads x z start q head (standing (stream x) p).from n is_head

  pub size_made : payload_by x (standing (stream x) p).situation (length p) (frames.Chunk n)
      ≡ Some (with_chunk (so_far x z start q) n)
  size_made =
      ap (λ (w : Situation). payload_by x w (length p) (frames.Chunk n)) at.situation

  own_is : with_chunk (so_far x z start q) n
      ≡ payload_behind x (between x z start q) (with_chunk (so_far x z start q) n) q
  own_is = behind_is x (between x z start q) o q (record { standing_is = refl; counted = refl })

  pub size_is : with_chunk (so_far x z start q) n
      ≡ payload_behind x (standing (stream x) p).situation (with_chunk (so_far x z start q) n) q
  size_is = own_is ∙ ap (λ (w : Situation). payload_behind x w o q) (sym at.situation)

  pub size_within : 0 < n
      → IsWithin x (p ++ head) (between x z start q) (with_chunk (so_far x z start q) n) q
  size_within some =
      subst (λ (w : Situation). IsWithin x (p ++ head) w (with_chunk (so_far x z start q) n) q)
      at.situation
      (made_within x p head (bare (frames.Chunk n)) o q at.units size_reads size_made size_is
      (omega arith))

-- a whole chunk
chunk_between : (x : Settings) (z : Situation) (start : ℕ) (p q head c : List ℕ)
    → IsBetweenChunks x z start p q → 0 < length c → IsBare (frames.Chunk (length c)) head
    → IsBetweenChunks x z start (p ++ (head ++ c)) (q ++ c)
chunk_between x z start p q head c at some is =
    let s : Situation = between x z start q in
    let o : OpenPayload = with_chunk (so_far x z start q) (length c) in
    let not_last : (length c == 0) ≡ false = ne_eqb (length c) 0 (λ e. omega arith) in
    let form_is : o.form ≡ chunked = ap (λ (b : Bool). if b then last_chunk else chunked) not_last
    in
    let more : is_chunked o.form ≡ true = ap is_chunked form_is in
    let longer = length-append q c in
    let stands = bytes_stand x c (p ++ head) s o q
    (size_within x z start p q head (length c) at is some) some (omega arith) in
    let left : (payload_behind x s o (q ++ c)).left ≡ 0 = omega (arith, longer) in
    let w = chunk_behind x s (payload_behind x s o (q ++ c)) left more in
    let same : payload_behind x s o (q ++ c) ≡ so_far x z start (q ++ c) =
    ap (λ n. record (payload_behind x s o (q ++ c)) { left = n }) left
    ∙ ap (λ n. record (so_far x z start (q ++ c)) { size = n; form = o.form }) (sym longer)
    ∙ ap (λ (f : Form). record (so_far x z start (q ++ c)) { form = f }) form_is in
    subst (λ (b : List ℕ). IsBetweenChunks x z start b (q ++ c)) (append_assoc p head c)
    (record {
      units = ap (λ (t : Standing Situation StreamEvent Offence). t.begun) stands;
      situation = ap (λ (t : Standing Situation StreamEvent Offence). t.situation) stands ∙ w.0
          ∙ ap (λ (q : OpenPayload). record z { stage = chunk_due q }) same;
    })

chunks_between : (x : Settings) (z : Situation) (start : ℕ) (chunks : List (List ℕ))
    (front p q : List ℕ) → IsBetweenChunks x z start p q → AreWhole chunks front
    → IsBetweenChunks x z start (p ++ front) (q ++ joined chunks)
unfolding AreWhole joined
chunks_between x z start [] front p q at none =
    subst (λ (b : List ℕ). IsBetweenChunks x z start (p ++ b) (q ++ [])) (sym none)
    (subst (λ (b : List ℕ). IsBetweenChunks x z start b (q ++ [])) (sym (append-nil p))
    (subst (IsBetweenChunks x z start p) (sym (append-nil q)) at))
chunks_between x z start (c ∷ chunks) front p q at (head, rest, some, is, front_is, are) =
    let r = chunks_between x z start chunks rest (p ++ (head ++ c)) (q ++ c)
    (chunk_between x z start p q head c at some is) are in
    subst (λ (b : List ℕ). IsBetweenChunks x z start (p ++ b) (q ++ (c ++ joined chunks)))
    (sym front_is)
    (subst (λ (b : List ℕ). IsBetweenChunks x z start b (q ++ (c ++ joined chunks)))
    (append_assoc p (head ++ c) rest)
    (subst (IsBetweenChunks x z start ((p ++ (head ++ c)) ++ rest))
    (append_assoc q c (joined chunks)) r))

-- behind the head of an envelope of chunks, and behind such an envelope so far
head_between : (x : Settings) (before head : List ℕ) (due : Due) → AreUnits (stream x) before
    → (standing (stream x) before).situation.stage ≡ record_due due
    → MayCome (may_come (direction_of x.side) due) frames.UnsizedEnvelope
    → IsBare frames.UnsizedEnvelope head
    → IsBetweenChunks x (standing (stream x) before).situation (length before) (before ++ head) []
head_between x before head due units at may is =
    let z : Situation = (standing (stream x) before).situation in
    let o : OpenPayload = payload_begun x z (length before) 0 chunked in
    let same : o ≡ so_far x z (length before) [] =
    ap (λ (s : PayloadStanding). record o { standing = s })
    (begun_behind x z (length before) 0 chunked).standing_is in
    let reads : unit_in x z.stage (standing (stream x) before).from head
    ≡ whole (frame (bare frames.UnsizedEnvelope)) (length head) =
    ap (λ (s : Stage). unit_in x s (standing (stream x) before).from head) at
    ∙ record_unit x due head (standing (stream x) before).from (bare frames.UnsizedEnvelope)
    (due_going due may) is may (omega arith) in
    let stands = made_stands x before head (bare frames.UnsizedEnvelope) o units reads refl in
    record {
      units = ap (λ (t : Standing Situation StreamEvent Offence). t.begun) stands;
      situation = ap (λ (t : Standing Situation StreamEvent Offence). t.situation) stands
          ∙ (chunk_behind x z o refl refl).0
          ∙ ap (λ (p : OpenPayload). record z { stage = chunk_due p }) same;
    }
  where
    due_going : (due : Due) → MayCome (may_come (direction_of x.side) due) frames.UnsizedEnvelope
        → is_over_in (record_due due) ≡ false
    due_going dues.Over may = cc
    due_going _ may = refl

pub so_between : (x : Settings) (before front payload : List ℕ) → AreUnits (stream x) before
    → IsChunked x (standing (stream x) before).situation front payload
    → IsBetweenChunks x (standing (stream x) before).situation (length before) (before ++ front)
    payload
so_between x before front payload units h =
    let z : Situation = (standing (stream x) before).situation in
    let r = chunks_between x z (length before) h.chunks h.front (before ++ h.head) []
    (head_between x before h.head h.due units h.is_due h.may_come_there h.is_head) h.are_whole in
    let all : (before ++ h.head) ++ h.front ≡ before ++ front =
    append_assoc before h.head h.front ∙ ap (λ b. before ++ b) (sym h.joined_bytes) in
    subst (λ (b : List ℕ). IsBetweenChunks x z (length before) b payload) all
    (subst (IsBetweenChunks x z (length before) ((before ++ h.head) ++ h.front)) (sym h.payload_is)
    r)

-- which chunk ends the payload
pub last_is : (x : Settings) (s : Situation) (start : ℕ) (q : List ℕ) (n : ℕ) (b : Bool) → (n == 0)
    ≡ b
    → is_whole (payload_behind x s (with_chunk (so_far x s start q) n) q) ≡ b
last_is x s start q n true e =
    let none : length q + n - length q ≡ 0 = let zero_is = eqb-true n 0 e in omega (arith, zero_is)
    in
    rw (e, none) refl
last_is x s start q n false e = rw e (off (length q + n - length q == 0)) where
  off : (b : Bool) → (b && not true) ≡ false
  off true = refl
  off false = refl

-- from the bytes to the refusal
module _ (x : Settings) (before : List ℕ) (units : AreUnits (stream x) before) (r : Refusal) where
  abbrev origin : Situation
  origin = (standing (stream x) before).situation

  abbrev Refuses : List ℕ → Type 0
  Refuses p = refusal_at (stream x) p
      ≡ Some (offence_in (standing (stream x) before).situation.messages r)

  abbrev Shown : List ℕ → Bool → Type 0
  Shown payload all =
      ShowsOf (payloads x (standing (stream x) before).situation.kind)
      (standing (stream x) before).situation.strings all payload r.at r.reason

  by_resumed : (bytes payload : List ℕ) (all : Bool)
      → IsResumed x (standing (stream x) before).situation bytes payload all → Shown payload all
      → Refuses (before ++ bytes)
  by_resumed bytes payload all h shows =
      let p : List ℕ = before ++ h.front in
      let at = so_between x before h.front payload units h.chunked in
      let s : Situation = between x origin (length before) payload in
      let o : OpenPayload = with_chunk (so_far x origin (length before) payload) h.size in
      let e : refusal_in x s (payload_behind x s o payload) ≡ Some r =
      (shown_by x s o payload r all (omega arith)
      (last_is x origin (length before) payload h.size all (sym h.is_all))).1 shows in
      let fine : too_large x (length payload + h.size) ≡ None =
      ap (λ (b : Bool). if b then Some MessageTooLarge else None)
      (le-ltb x.limits.payload (length payload + h.size) h.low) in
      let refused = made_refused x p h.head (bare (frames.Chunk h.size)) o payload at.units
      (size_reads x origin (length before) p payload h.head h.size at h.is_head)
      (size_made x origin (length before) p payload h.head h.size at h.is_head)
      (size_is x origin (length before) p payload h.head h.size at h.is_head) r
      (ap (λ (w : Situation). reason_in x w.stage (frames.Chunk h.size) []) at.situation ∙ fine)
      (ap (λ (w : Situation). refusal_in x w (payload_behind x w o payload)) at.situation ∙ e) in
      ap (refusal_at (stream x)) (ap (λ b. before ++ b) h.joined_bytes
      ∙ sym (append_assoc before h.front h.head))
      ∙ refused ∙ ap (λ (w : Situation). Some (offence_in w.messages r)) at.situation

  by_chunk : (bytes payload : List ℕ)
      → IsInChunk x (standing (stream x) before).situation bytes payload → Shown payload false
      → Refuses (before ++ bytes)
  by_chunk bytes payload h shows =
      let p : List ℕ = before ++ h.front in
      let at = so_between x before h.front h.before units h.chunked in
      let s : Situation = between x origin (length before) h.before in
      let o : OpenPayload = with_chunk (so_far x origin (length before) h.before) h.size in
      let some : 0 < h.size = let few = h.some in let le = h.within in omega (arith, few, le) in
      let not_last : (h.size == 0) ≡ false = ne_eqb h.size 0 (λ e. omega (arith, some, e)) in
      let longer = length-append h.before h.part in
      let le : length (h.before ++ h.part) ≤ o.size =
      let few = h.within in omega (arith, longer, few) in
      let e : refusal_in x s (payload_behind x s o (h.before ++ h.part)) ≡ Some r =
      (shown_by x s o (h.before ++ h.part) r false le
      (unended (o.size - length (h.before ++ h.part) == 0) not_last)).1
      (subst (λ (b : List ℕ). Shown b false) h.payload_is shows) in
      let refused = bytes_refused x (p ++ h.head) s o h.before
      (size_within x origin (length before) p h.before h.head h.size at h.is_head some) h.part
      h.some
      (let few = h.within in omega (arith, few)) r e in
      ap (refusal_at (stream x)) (ap (λ b. before ++ b) h.joined_bytes
      ∙ sym (append_assoc before (h.front ++ h.head) h.part)
      ∙ ap (λ b. b ++ h.part) (sym (append_assoc before h.front h.head)))
      ∙ refused
    where
      unended : (b : Bool) → (h.size == 0) ≡ false
          → (b && not (is_chunked (if h.size == 0 then last_chunk else chunked))) ≡ false
      unended true e = rw e refl
      unended false e = refl

  by_sized : (bytes payload : List ℕ) (all : Bool)
      → IsSizedPart (standing (stream x) before).situation bytes payload all → Shown payload all
      → Refuses (before ++ bytes)
  by_sized bytes payload all h shows = go payload refl where
    here : OpenPayload
    here = payload_begun x (standing (stream x) before).situation (length before) h.size sized

    reads : unit_in x (standing (stream x) before).situation.stage (standing (stream x) before).from
        h.head ≡ whole (frame (bare (frames.SizedEnvelope h.size))) (length h.head)
    reads =
        ap (λ (s : Stage). unit_in x s (standing (stream x) before).from h.head) h.is_due
        ∙ record_unit x dues.Messages h.head (standing (stream x) before).from
        (bare (frames.SizedEnvelope h.size)) refl h.is_head
        (envelope_comes (direction_of x.side) h.size) (omega arith)

    is : payload_begun x (standing (stream x) before).situation (length before) h.size sized
        ≡ payload_behind x (standing (stream x) before).situation
        (payload_begun x (standing (stream x) before).situation (length before) h.size sized) []
    is = behind_is x (standing (stream x) before).situation _ []
        (begun_behind x (standing (stream x) before).situation (length before) h.size sized)

    whole_is : (b : Bool) → (length payload == h.size) ≡ b
        → (h.size - length payload == 0) ≡ b
    whole_is true e =
        let same = eqb-true (length payload) h.size e in
        let none : h.size - length payload ≡ 0 = omega (arith, same) in ap (λ n. n == 0) none
    whole_is false e =
        let ne = eqb-false (length payload) h.size e in
        ne_eqb (h.size - length payload) 0
        (λ none. ne (let le = h.within in omega (arith, none, le)))

    shown : refusal_in x (standing (stream x) before).situation
        (payload_behind x (standing (stream x) before).situation
        (payload_begun x (standing (stream x) before).situation (length before) h.size sized)
        payload)
        ≡ Some r
    shown =
        (shown_by x (standing (stream x) before).situation here payload r all h.within
        (ap (λ (b : Bool). b && true)
        (whole_is (length payload == h.size) refl ∙ sym h.is_all) ∙ and_true all)).1 shows
      where
        and_true : (b : Bool) → (b && true) ≡ b
        and_true true = refl
        and_true false = refl

    -- nothing refuses no bytes, where there are some to come
    none_first : (n : ℕ) → h.size ≡ suc n → payload ≡ [] → ⊥
    none_first n size empty =
        let z' : Situation = (standing (stream x) before).situation in
        let fine = nothing_unrefused (payloads x z'.kind) z'.strings []
        (nothing_is_refused (payloads x z'.kind) z'.strings 0) in
        let so = sym (refusal_before x z' here [] (omega (arith, size)) ∙ fine)
        ∙ ap (λ b. refusal_in x z' (payload_behind x z' here b)) (sym empty) ∙ shown in cc

    empty_size : (n : ℕ) → h.size ≡ n → payload ≡ [] → h.size ≡ 0
    empty_size zero size empty = size
    empty_size (suc n) size empty = absurd (none_first n size empty)

    go : (c : List ℕ) → payload ≡ c → Refuses (before ++ bytes)
    go [] empty =
        let z' : Situation = (standing (stream x) before).situation in
        let none = empty_size h.size refl empty in
        let fine : too_large x h.size ≡ None =
        ap (λ (b : Bool). if b then Some MessageTooLarge else None)
        (le-ltb x.limits.payload h.size (omega (arith, none))) in
        ap (refusal_at (stream x)) (ap (λ b. before ++ b) (h.joined ∙ ap (λ b. h.head ++ b) empty
        ∙ append-nil h.head))
        ∙ made_refused x before h.head (bare (frames.SizedEnvelope h.size)) here [] units reads refl
        is r
        fine (ap (λ b. refusal_in x z' (payload_behind x z' here b)) (sym empty) ∙ shown)
    go (y ∷ c) one =
        let z' : Situation = (standing (stream x) before).situation in
        let some : 0 < h.size =
        let n = ap length one in let le = h.within in omega (arith, n, le) in
        ap (refusal_at (stream x)) (ap (λ b. before ++ b) (h.joined ∙ ap (λ b. h.head ++ b) one)
        ∙ sym (append_assoc before h.head (y ∷ c)))
        ∙ bytes_refused x (before ++ h.head) z' here []
        (made_within x before h.head (bare (frames.SizedEnvelope h.size)) here [] units reads refl
        is some)
        (y ∷ c) (omega arith) (let n = ap length one in let le = h.within in omega (arith, n, le)) r
        (ap (λ b. refusal_in x z' (payload_behind x z' here b)) (sym one) ∙ shown)

-- of any part of an envelope
pub for_in_payload : (x : Settings) (p : List ℕ) (number at : ℕ) (reason : Reason)
    → ShowsInPayload x p number at reason
    → refusal_at (stream x) p ≡ Some (offence_in number (refusal at reason))
for_in_payload x p number at reason (z, payload, all, has, is, shows) =
    ap (refusal_at (stream x)) has.joined
    ∙ by_part (subst (λ (w : Situation). IsPart x w has.bytes payload all) has.situation has.part)
    ∙ ap (λ (w : Situation). Some (offence_in w.messages (refusal at reason))) (sym has.situation)
    ∙ ap (λ n. Some (offence_in n (refusal at reason))) is
  where
    here : Situation
    here = (standing (stream x) has.before).situation

    shows_here : ShowsOf (payloads x (standing (stream x) has.before).situation.kind)
        (standing (stream x) has.before).situation.strings all payload at reason
    shows_here =
        subst (λ (w : Situation). ShowsOf (payloads x w.kind) w.strings all payload at reason)
        has.situation shows

    by_part : IsPart x (standing (stream x) has.before).situation has.bytes payload all
        → refusal_at (stream x) (has.before ++ has.bytes)
        ≡ Some (offence_in (standing (stream x) has.before).situation.messages (refusal at reason))
    by_part (inl h) =
        by_sized x has.before has.units (refusal at reason) has.bytes payload all h shows_here
    by_part (inr (inl h)) =
        by_resumed x has.before has.units (refusal at reason) has.bytes payload all h shows_here
    by_part (inr (inr (part, h))) =
        by_chunk x has.before has.units (refusal at reason) has.bytes payload h
        (subst (λ (b : Bool). ShowsOf (payloads x (standing (stream x) has.before).situation.kind)
        (standing (stream x) has.before).situation.strings b payload at reason) part shows_here)
