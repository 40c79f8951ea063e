-- An envelope of one part, and one of chunks, is whole units, which bring its document.
use Rattle.std.proofs.Common.{◌≡◌, ℕ, suc, ◌+◌, ◌-◌, ◌<◌, ◌≤◌, Bool, true, false, List, [], ◌∷◌}
use Rattle.std.proofs.Common.{◌++◌, length, take, if◌then◌else◌, ◌==◌, Some, None, Option}
use Rattle.std.proofs.Common.{option_map, option_to_list, sym, refl, ap, ◌∙◌, subst, append_assoc}
use Rattle.std.proofs.Common.{append-nil, arith, length-append, take_all, le-ltb, ne_eqb}
use Rattle.std.{proofs.lemmas.List.take-append-le, specs.Option.option_or}
use Rattle.unit_streams.proofs.Along.{Passes, passes_none, passes_then, passes_unit}
use Rattle.unit_streams.specs.{Front.whole, Grammar.standing, Judging.ending_at, Judging.refusal_at}
use Rattle.nbfx_values.specs.declared.refusals.Reason.{Reason, TheVariants.MessageTooLarge}
use Rattle.nmf_records.specs.{declared.script.Due.Due, Records.Read, Script.may_come}
use Rattle.nmf_records.specs.RecordFronts.{bare, MayCome}
use Rattle.stream_reader.specs.Sessions.{AreChunks, IsBare, joined}
use Rattle.stream_reader.specs.Stream.{after, after_bare, behind_payload, chunk_due, chunked}
use Rattle.stream_reader.specs.Stream.{completed, completed_bare, completed_payload, direction_of}
use Rattle.stream_reader.specs.Stream.{Form, frame, is_chunked, is_over_in, last_chunk, message}
use Rattle.stream_reader.specs.Stream.{offence_at, offence_in, on_payload, OpenPayload}
use Rattle.stream_reader.specs.Stream.{payload_begun, payload_by, payload_byte, payload_in}
use Rattle.stream_reader.specs.Stream.{payload_open, PayloadStanding, reason_in, record_due}
use Rattle.stream_reader.specs.Stream.{refusal_in, refused, refused_payload, refused_record}
use Rattle.stream_reader.specs.Stream.{Settings, Situation, sized, Stage, stream, StreamEvent}
use Rattle.stream_reader.specs.Stream.{too_large, unit_in, with_chunk}
use Rattle.stream_reader.proofs.DueRecords.{chunk_comes, envelope_comes, record_unit}
use Rattle.stream_reader.proofs.{Grammar.readable, Situations.begun_behind, Situations.IsBehind}
use Rattle.stream_reader.proofs.Outcomes.{behind_whole, chunk_behind, envelope_of, HasAll}
use Rattle.stream_reader.proofs.Outcomes.{more_behind, more_completed, whole_behind}
use Rattle.stream_reader.proofs.PayloadBytes.{behind_is, payload_behind, refusal_all}
use Rattle.stream_reader.proofs.PayloadBytes.{refusal_before, refusal_between, with_byte_is}
use Rattle.nmf_records.specs.declared.frame.Frame.TheVariants as frames
use Rattle.nmf_records.specs.declared.script.Due.TheVariants as dues

-- bytes of a payload, of which none is refused, and their end
pub record IsClean (x : Settings) (z : Situation) (payload : List ℕ) : Type 0 where
  pub along : (i : ℕ) → i ≤ length payload → refusal_at (payload_in x z) (take i payload) ≡ None
  pub at_end : ending_at (payload_in x z) payload ≡ None

module _ (x : Settings) (z : Situation) where
  abbrev within : OpenPayload → List ℕ → Situation
  within o q = record z { stage = payload_open (payload_behind x z o q) }

  -- where such a payload leads, and what it completes
  abbrev Leads : Situation → ℕ → List ℕ → OpenPayload → Type 0
  Leads s from b p =
      Passes (stream x) s from b (behind_payload x z p) (option_to_list (completed_payload x z p))

  module _ (o : OpenPayload) where
    abbrev behind : List ℕ → OpenPayload
    behind q = payload_behind x z o q

    byte_passes : (q : List ℕ) (y from : ℕ) → refusal_in x z (behind (q ++ y ∷ [])) ≡ None
        → Leads (within o q) from (y ∷ []) (behind (q ++ y ∷ []))
    unfolding after completed refused unit_in
    byte_passes q y from none =
        let more = with_byte_is x z o q y in
        subst (Leads (within o q) from (y ∷ [])) more
        (passes_unit (stream x) (readable x) (within o q) from (y ∷ []) (payload_byte y) refl
        (ap (refused_payload x z) more ∙ ap (option_map (offence_in z.messages)) none))

    -- a byte that more follow
    byte_between : (q : List ℕ) (y from : ℕ) → length (q ++ y ∷ []) < o.size
        → refusal_at (payload_in x z) (q ++ y ∷ []) ≡ None
        → Passes (stream x) (within o q) from (y ∷ []) (within o (q ++ y ∷ [])) []
    byte_between q y from lt clean =
        let r : List ℕ = q ++ y ∷ [] in
        let fine : refusal_in x z (behind r) ≡ None = refusal_before x z o r lt ∙ clean in
        subst (λ (w : Situation). Passes (stream x) (within o q) from (y ∷ []) w [])
        (more_behind x z (behind r) (omega arith))
        (subst (λ (v : Option StreamEvent). Passes (stream x) (within o q) from (y ∷ [])
        (behind_payload x z (behind r)) (option_to_list v))
        (more_completed x z (behind r) (omega arith)) (byte_passes q y from fine))

    -- bytes that more follow
    front_passes : (c q : List ℕ) (from : ℕ) → length q + length c < o.size
        → ((i : ℕ) → i ≤ length c → refusal_at (payload_in x z) (q ++ take i c) ≡ None)
        → Passes (stream x) (within o q) from c (within o (q ++ c)) []
    front_passes [] q from lt clean =
        subst (λ (b : List ℕ). Passes (stream x) (within o q) from [] (within o b) [])
        (sym (append-nil q)) (passes_none (stream x) (within o q) from)
    front_passes (y ∷ c) q from lt clean =
        let longer = length-append q (y ∷ []) in
        subst (λ (b : List ℕ). Passes (stream x) (within o q) from (y ∷ c) (within o b) [])
        (append_assoc q (y ∷ []) c)
        (passes_then (stream x) (within o q) from (y ∷ []) c (within o (q ++ y ∷ []))
        (within o ((q ++ y ∷ []) ++ c)) [] []
        (byte_between q y from (omega (arith, longer, lt)) (clean 1 (omega arith)))
        (front_passes c (q ++ y ∷ []) (from + 1) (omega (arith, longer, lt))
        (λ i less. ap (refusal_at (payload_in x z)) (append_assoc q (y ∷ []) (take i c))
        ∙ clean (suc i) (omega (arith, less)))))

    -- all that are left of its size
    payload_passes : (c q : List ℕ) (from : ℕ) → 0 < length c → length q + length c ≡ o.size
        → ((i : ℕ) → i < length c → refusal_at (payload_in x z) (q ++ take i c) ≡ None)
        → refusal_in x z (behind (q ++ c)) ≡ None → Leads (within o q) from c (behind (q ++ c))
    payload_passes [] q from some all clean none = absurd (omega arith)
    payload_passes (y ∷ []) q from some all clean none = byte_passes q y from none
    payload_passes (y ∷ d ∷ c) q from some all clean none =
        let longer = length-append q (y ∷ []) in
        let r : List ℕ = q ++ y ∷ [] in
        let first = byte_between q y from (omega (arith, longer, all)) (clean 1 (omega arith)) in
        let joined : r ++ d ∷ c ≡ q ++ y ∷ d ∷ c = append_assoc q (y ∷ []) (d ∷ c) in
        let rest = payload_passes (d ∷ c) r (from + 1) (omega arith) (omega (arith, longer, all))
        (λ i less. ap (refusal_at (payload_in x z)) (append_assoc q (y ∷ []) (take i (d ∷ c)))
        ∙ clean (suc i) (omega (arith, less)))
        (ap (λ b. refusal_in x z (behind b)) joined ∙ none) in
        subst (λ (b : List ℕ). Leads (within o q) from (y ∷ d ∷ c) (behind b)) joined
        (passes_then (stream x) (within o q) from (y ∷ []) (d ∷ c) (within o r)
        (behind_payload x z (behind (r ++ d ∷ c))) []
        (option_to_list (completed_payload x z (behind (r ++ d ∷ c)))) first rest)

  -- a record that makes or resumes a payload
  module _ (from : ℕ) (read : Read) (b : List ℕ) (o : OpenPayload) (reads : unit_in x z.stage from b
      ≡ whole (frame read) (length b)) (made : payload_by x z from read.frame ≡ Some o)
      (fine : reason_in x z.stage read.frame read.text ≡ None) where
    unrefused : refusal_in x z o ≡ None → refused_record x z from read.frame read.text ≡ None
    unrefused none =
        ap (λ (v : Option Reason). option_or (option_map (offence_at from) v)
        (on_payload (payload_by x z from read.frame) (refused_payload x z) None)) fine
        ∙ ap (λ (v : Option OpenPayload). on_payload v (refused_payload x z) None) made
        ∙ ap (option_map (offence_in z.messages)) none

    made_passes : refusal_in x z o ≡ None → Leads z from b o
    unfolding after completed refused
    made_passes none =
        subst (λ (v : Option OpenPayload). Passes (stream x) z from b
        (on_payload v (behind_payload x z) (after_bare x z read.frame read.text))
        (option_to_list (on_payload v (completed_payload x z)
        (completed_bare z (from + length b) read.frame read.text)))) made
        (passes_unit (stream x) (readable x) z from b (frame read) reads (unrefused none))

    -- the record alone, where bytes of its part are to come
    opened_passes : (q : List ℕ) → o ≡ payload_behind x z o q → length q < o.size
        → refusal_at (payload_in x z) q ≡ None → Passes (stream x) z from b (within o q) []
    opened_passes q is lt clean =
        let left : 0 < (payload_behind x z o q).left = omega (arith, lt) in
        let so : refusal_in x z o ≡ None =
        ap (refusal_in x z) is ∙ refusal_before x z o q lt ∙ clean in
        let opened : Leads z from b (payload_behind x z o q) =
        subst (Leads z from b) is (made_passes so) in
        subst (λ (w : Situation). Passes (stream x) z from b w [])
        (more_behind x z (payload_behind x z o q) left)
        (subst (λ (v : Option StreamEvent). Passes (stream x) z from b
        (behind_payload x z (payload_behind x z o q)) (option_to_list v))
        (more_completed x z (payload_behind x z o q) left) opened)

    -- and bytes of its part that more follow
    part_front : (q c : List ℕ) → o ≡ payload_behind x z o q → length q + length c < o.size
        → ((i : ℕ) → i ≤ length c → refusal_at (payload_in x z) (q ++ take i c) ≡ None)
        → Passes (stream x) z from (b ++ c) (within o (q ++ c)) []
    part_front q c is lt clean =
        passes_then (stream x) z from b c (within o q) (within o (q ++ c)) [] []
        (opened_passes q is (omega (arith, lt))
        (ap (refusal_at (payload_in x z)) (sym (append-nil q)) ∙ clean 0 (omega arith)))
        (front_passes o c q (from + length b) lt clean)

    -- and all bytes of its part
    part_passes : (q c : List ℕ) → o ≡ payload_behind x z o q → length q + length c ≡ o.size
        → ((i : ℕ) → i < length c → refusal_at (payload_in x z) (q ++ take i c) ≡ None)
        → refusal_in x z (payload_behind x z o (q ++ c)) ≡ None
        → Leads z from (b ++ c) (payload_behind x z o (q ++ c))
    part_passes q [] is all clean none =
        let same : o ≡ payload_behind x z o (q ++ []) =
        is ∙ ap (payload_behind x z o) (sym (append-nil q)) in
        subst (λ (bytes : List ℕ). Leads z from bytes (payload_behind x z o (q ++ [])))
        (sym (append-nil b))
        (subst (Leads z from b) same (made_passes (ap (refusal_in x z) same ∙ none)))
    part_passes q (y ∷ c) is all clean none =
        let first = opened_passes q is (omega (arith, all))
        (ap (refusal_at (payload_in x z)) (sym (append-nil q)) ∙ clean 0 (omega arith)) in
        passes_then (stream x) z from b (y ∷ c) (within o q)
        (behind_payload x z (payload_behind x z o (q ++ y ∷ c))) []
        (option_to_list (completed_payload x z (payload_behind x z o (q ++ y ∷ c)))) first
        (payload_passes o (y ∷ c) q (from + length b) (omega arith) all clean none)

  -- what a whole payload leads to
  whole_leads : (s : Situation) (from : ℕ) (b : List ℕ) (p : OpenPayload) → HasAll p
      → refusal_in x z p ≡ None → Leads s from b p
      → Passes (stream x) s from b (behind_whole z p (z.messages + 1))
      (message (envelope_of z p) ∷ [])
  whole_leads s from b p all none passes =
      let w = whole_behind x z p all none in
      subst (λ (t : Situation). Passes (stream x) s from b t (message (envelope_of z p) ∷ [])) w.0
      (subst (λ (v : Option StreamEvent). Passes (stream x) s from b (behind_payload x z p)
      (option_to_list v)) w.1 passes)

  -- a payload above no quota
  small : (n : ℕ) → n ≤ x.limits.payload → too_large x n ≡ None
  small n low =
      ap (λ (b : Bool). if b then Some MessageTooLarge else None) (le-ltb x.limits.payload n low)

  clean_last : (o : OpenPayload) (payload : List ℕ) → IsClean x z payload
      → length payload ≡ o.size → is_chunked o.form ≡ false
      → refusal_in x z (payload_behind x z o payload) ≡ None
  clean_last o payload clean all last =
      refusal_all x z o payload all last
      ∙ ap (λ v. option_or v (ending_at (payload_in x z) payload))
      (ap (refusal_at (payload_in x z)) (sym (take_all (length payload) payload (omega arith)))
      ∙ clean.along (length payload) (omega arith))
      ∙ clean.at_end

  sized_reads : (from : ℕ) (head : List ℕ) (size : ℕ) → z.stage ≡ record_due dues.Messages
      → IsBare (frames.SizedEnvelope size) head
      → unit_in x z.stage from head ≡ whole (frame (bare (frames.SizedEnvelope size))) (length head)
  sized_reads from head size at is =
      ap (λ (s : Stage). unit_in x s from head) at
      ∙ record_unit x dues.Messages head from (bare (frames.SizedEnvelope size)) refl is
      (envelope_comes (direction_of x.side) size) (omega arith)

  -- an envelope of one part
  pub sized_passes : (from : ℕ) (head payload : List ℕ) → z.stage ≡ record_due dues.Messages
      → IsBare (frames.SizedEnvelope (length payload)) head → length payload ≤ x.limits.payload
      → IsClean x z payload
      → Passes (stream x) z from (head ++ payload)
      (behind_whole z (payload_behind x z (payload_begun x z from (length payload) sized) payload)
      (z.messages + 1))
      (message (envelope_of z
      (payload_behind x z (payload_begun x z from (length payload) sized) payload)) ∷ [])
  sized_passes from head payload at is low clean =
      let o : OpenPayload = payload_begun x z from (length payload) sized in
      let none = clean_last o payload clean refl refl in
      whole_leads z from (head ++ payload) (payload_behind x z o payload)
      (record { none_left = omega arith; last = refl }) none
      (part_passes from (bare (frames.SizedEnvelope (length payload))) head o
      (sized_reads from head (length payload) at is) refl (small (length payload) low) [] payload
      (behind_is x z o [] (begun_behind x z from (length payload) sized)) (omega arith)
      (λ i less. clean.along i (omega (arith, less))) none)

  -- the same in two parts: up to the payload's last byte, and that byte
  module _ (from : ℕ) (head front : List ℕ) (last : ℕ) (at : z.stage ≡ record_due dues.Messages)
      (is : IsBare (frames.SizedEnvelope (length (front ++ last ∷ []))) head)
      (low : length (front ++ last ∷ []) ≤ x.limits.payload)
      (clean : IsClean x z (front ++ last ∷ [])) where
    abbrev sized_payload : OpenPayload
    sized_payload = payload_begun x z from (length (front ++ last ∷ [])) sized

    abbrev pub before_last : Situation
    before_last = within sized_payload front

    pub sized_front : Passes (stream x) z from (head ++ front) before_last []
    sized_front =
        let size = length-append front (last ∷ []) in
        part_front from (bare (frames.SizedEnvelope (length (front ++ last ∷ [])))) head
        sized_payload
        (sized_reads from head (length (front ++ last ∷ [])) at is) refl
        (small (length (front ++ last ∷ [])) low) [] front
        (behind_is x z sized_payload [] (begun_behind x z from (length (front ++ last ∷ [])) sized))
        (omega (arith, size))
        (λ i less. ap (refusal_at (payload_in x z)) (sym (take-append-le i front (last ∷ []) less))
        ∙ clean.along i (omega (arith, less, size)))

    -- the last byte leads behind the whole payload, and completes its document
    abbrev whole_payload : OpenPayload
    whole_payload = payload_behind x z sized_payload (front ++ last ∷ [])

    last_fine : refusal_in x z whole_payload ≡ None
    last_fine = clean_last sized_payload (front ++ last ∷ []) clean refl refl

    last_behind : (behind_payload x z whole_payload
        ≡ behind_whole z whole_payload (z.messages + 1))
        × (completed_payload x z whole_payload ≡ Some (message (envelope_of z whole_payload)))
    last_behind =
        whole_behind x z whole_payload (record { none_left = omega arith; last = refl }) last_fine

    pub last_reads : (to : ℕ) → unit_in x before_last.stage to (last ∷ [])
        ≡ whole (payload_byte last) 1
    unfolding unit_in
    last_reads to = refl

    pub last_unrefused : (to : ℕ) → refused x before_last to (payload_byte last) ≡ None
    unfolding refused
    last_unrefused to =
        ap (refused_payload x z) (with_byte_is x z sized_payload front last)
        ∙ ap (option_map (offence_in z.messages)) last_fine

    pub last_completes : (to end : ℕ) → completed x before_last to end (payload_byte last)
        ≡ Some (message (envelope_of z whole_payload))
    unfolding completed
    last_completes to end =
        ap (completed_payload x z) (with_byte_is x z sized_payload front last) ∙ last_behind.1

    pub last_leads : (to : ℕ) → after x before_last to (payload_byte last)
        ≡ behind_whole z whole_payload (z.messages + 1)
    unfolding after
    last_leads to =
        ap (behind_payload x z) (with_byte_is x z sized_payload front last) ∙ last_behind.0

-- a front of bytes behind others
pub fronts : (q c rest : List ℕ) (i : ℕ) → i ≤ length c
    → q ++ take i c ≡ take (length q + i) (q ++ (c ++ rest))
fronts [] c rest i le =
    sym (take-append-le i c rest le) ∙ ap (λ n. take n (c ++ rest))
    (let n : i ≡ 0 + i = omega arith in n)
fronts (y ∷ q) c rest i le =
    ap (λ b. y ∷ b) (fronts q c rest i le)
    ∙ ap (λ n. take n (y ∷ q ++ (c ++ rest)))
    (let n : suc (length q + i) ≡ suc (length q) + i = omega arith in n)

-- chunks of the envelope at this offset
module _ (x : Settings) (z : Situation) (start : ℕ) where
  -- the payload before its next chunk, and the situation there
  abbrev pub so_far : List ℕ → OpenPayload
  so_far q = record {
    from = start;
    size = length q;
    left = 0;
    form = chunked;
    standing = standing (payload_in x z) q;
  }

  abbrev pub between : List ℕ → Situation
  between q = record z { stage = chunk_due (so_far q) }

  pub chunk_reads : (q head : List ℕ) (from n : ℕ) → IsBare (frames.Chunk n) head
      → unit_in x (between q).stage from head ≡ whole (frame (bare (frames.Chunk n))) (length head)
  unfolding unit_in
  chunk_reads q head from n is =
      record_unit x dues.Chunk head from (bare (frames.Chunk n)) refl is
      (chunk_comes (direction_of x.side) n) (omega arith)

  chunk_passes : (q c head : List ℕ) (from : ℕ) → 0 < length c
      → IsBare (frames.Chunk (length c)) head → length q + length c ≤ x.limits.payload
      → ((i : ℕ) → i ≤ length c → refusal_at (payload_in x z) (q ++ take i c) ≡ None)
      → Passes (stream x) (between q) from (head ++ c) (between (q ++ c)) []
  chunk_passes q c head from some is low clean =
      let s : Situation = between q in
      let o : OpenPayload = with_chunk (so_far q) (length c) in
      let not_last : (length c == 0) ≡ false = ne_eqb (length c) 0 (λ e. omega arith) in
      let form_is : o.form ≡ chunked =
      ap (λ (b : Bool). if b then last_chunk else chunked) not_last in
      let more : is_chunked o.form ≡ true = ap is_chunked form_is in
      let longer = length-append q c in
      let all : length (q ++ c) ≡ o.size = longer in
      let none : refusal_in x s (payload_behind x s o (q ++ c)) ≡ None =
      refusal_between x s o (q ++ c) (omega (arith, longer)) more
      ∙ ap (λ b. refusal_at (payload_in x z) (q ++ b)) (sym (take_all (length c) c (omega arith)))
      ∙ clean (length c) (omega arith) in
      let passes = part_passes x s from (bare (frames.Chunk (length c))) head o
      (chunk_reads q head from (length c) is) refl (small x s (length q + length c) low) q c
      (behind_is x s o q (record { standing_is = refl; counted = refl })) refl
      (λ i less. clean i (omega (arith, less))) none in
      let left : (payload_behind x s o (q ++ c)).left ≡ 0 = omega (arith, longer) in
      let w = chunk_behind x s (payload_behind x s o (q ++ c)) left more in
      let same : payload_behind x s o (q ++ c) ≡ so_far (q ++ c) =
      ap (λ n. record (payload_behind x s o (q ++ c)) { left = n }) left
      ∙ ap (λ n. record (so_far (q ++ c)) { size = n; form = o.form }) (sym longer)
      ∙ ap (λ (f : Form). record (so_far (q ++ c)) { form = f }) form_is in
      subst (λ (p : OpenPayload). Passes (stream x) s from (head ++ c)
      (record z { stage = chunk_due p }) []) same
      (subst (λ (t : Situation). Passes (stream x) s from (head ++ c) t []) w.0
      (subst (λ (v : Option StreamEvent). Passes (stream x) s from (head ++ c)
      (behind_payload x s (payload_behind x s o (q ++ c))) (option_to_list v)) w.1 passes))

  -- what the whole payload is
  abbrev all_of : List ℕ → OpenPayload
  all_of q = record (so_far q) { form = last_chunk }

  abbrev told_of : List ℕ → List StreamEvent
  told_of q = message (envelope_of z (all_of q)) ∷ []

  abbrev ended_by : List ℕ → Situation
  ended_by q = behind_whole z (all_of q) (z.messages + 1)

  last_passes : (q head : List ℕ) (from : ℕ) → IsBare (frames.Chunk 0) head
      → length q ≤ x.limits.payload → IsClean x z q
      → Passes (stream x) (between q) from head (ended_by q) (told_of q)
  last_passes q head from is low clean =
      let s : Situation = between q in
      let o : OpenPayload = with_chunk (so_far q) 0 in
      let sum : length q + 0 ≡ length q = omega arith in
      let same : payload_behind x s o (q ++ []) ≡ all_of q =
      ap (payload_behind x s o) (append-nil q)
      ∙ ap (λ n. record (all_of q) { size = length q + 0; left = n })
      (let none : length q + 0 - length q ≡ 0 = omega arith in none)
      ∙ ap (λ n. record (all_of q) { size = n }) sum in
      let clean' : IsClean x s (q ++ []) = subst (IsClean x s) (sym (append-nil q))
      (record { along = clean.along; at_end = clean.at_end }) in
      let none : refusal_in x s (payload_behind x s o (q ++ [])) ≡ None =
      clean_last x s o (q ++ []) clean' (length-append q []) refl in
      let passes = part_passes x s from (bare (frames.Chunk 0)) head o
      (chunk_reads q head from 0 is) refl (small x s (length q + 0) (omega (arith, low))) q []
      (behind_is x s o q (record { standing_is = refl; counted = refl })) refl
      (λ i less. absurd (omega (arith, less))) none in
      let all : HasAll (payload_behind x s o (q ++ [])) =
      record { none_left = (let n = length-append q [] in omega (arith, n)); last = refl } in
      subst (λ (b : List ℕ). Passes (stream x) s from b (ended_by q) (told_of q)) (append-nil head)
      (subst (λ (p : OpenPayload). Passes (stream x) s from (head ++ [])
      (behind_whole z p (z.messages + 1)) (message (envelope_of z p) ∷ [])) same
      (whole_leads x s s from (head ++ []) (payload_behind x s o (q ++ [])) all none passes))

  -- all chunks
  chunks_pass : (chunks : List (List ℕ)) (q bytes : List ℕ) (from : ℕ) → AreChunks chunks bytes
      → length (q ++ joined chunks) ≤ x.limits.payload → IsClean x z (q ++ joined chunks)
      → Passes (stream x) (between q) from bytes (ended_by (q ++ joined chunks))
      (told_of (q ++ joined chunks))
  unfolding AreChunks joined
  chunks_pass [] q bytes from is low clean =
      let none = append-nil q in
      subst (λ (all : List ℕ). Passes (stream x) (between q) from bytes (ended_by all)
      (told_of all))
      (sym none)
      (last_passes q bytes from is (let n = ap length none in omega (arith, n, low))
      (subst (IsClean x z) none clean))
  chunks_pass (c ∷ chunks) q bytes from (head, rest, some, is, bytes_are, are) low clean =
      let all = append_assoc q c (joined chunks) in
      let front : (i : ℕ) → i ≤ length c
      → refusal_at (payload_in x z) (q ++ take i c) ≡ None = λ i le.
      ap (refusal_at (payload_in x z)) (fronts q c (joined chunks) i le)
      ∙ clean.along (length q + i)
      (let n = length-append q (c ++ joined chunks) in let m = length-append c (joined chunks) in
      omega (arith, n, m, le)) in
      let size : length q + length c ≤ x.limits.payload =
      let n = length-append q (c ++ joined chunks) in let m = length-append c (joined chunks) in
      omega (arith, n, m, low) in
      subst (λ (b : List ℕ). Passes (stream x) (between q) from b
      (ended_by (q ++ (c ++ joined chunks))) (told_of (q ++ (c ++ joined chunks)))) (sym bytes_are)
      (passes_then (stream x) (between q) from (head ++ c) rest (between (q ++ c)) _ [] _
      (chunk_passes q c head from some is size front)
      (subst (λ (b : List ℕ). Passes (stream x) (between (q ++ c)) (from + length (head ++ c)) rest
      (ended_by b) (told_of b)) all
      (chunks_pass chunks (q ++ c) rest (from + length (head ++ c)) are
      (let n = ap length all in omega (arith, n, low)) (subst (IsClean x z) (sym all) clean))))

-- an envelope of chunks, where it may come
pub unsized_passes : (x : Settings) (z : Situation) (due : Due) (from : ℕ) (head rest : List ℕ)
    (chunks : List (List ℕ)) → z.stage ≡ record_due due
    → MayCome (may_come (direction_of x.side) due) frames.UnsizedEnvelope
    → IsBare frames.UnsizedEnvelope head → AreChunks chunks rest
    → length (joined chunks) ≤ x.limits.payload → IsClean x z (joined chunks)
    → Passes (stream x) z from (head ++ rest) (ended_by x z from (joined chunks))
    (told_of x z from (joined chunks))
unsized_passes x z due from head rest chunks at may is are low clean =
    let o : OpenPayload = payload_begun x z from 0 chunked in
    let behind : IsBehind x z o [] = begun_behind x z from 0 chunked in
    let same : o ≡ so_far x z from [] =
    ap (λ (s : PayloadStanding). record o { standing = s }) behind.standing_is in
    let none : refusal_in x z o ≡ None =
    ap (refusal_in x z) (behind_is x z o [] behind) ∙ refusal_between x z o [] (omega arith) refl
    ∙ clean.along 0 (omega arith) in
    let reads : unit_in x z.stage from head
    ≡ whole (frame (bare frames.UnsizedEnvelope)) (length head) =
    ap (λ (s : Stage). unit_in x s from head) at
    ∙ record_unit x due head from (bare frames.UnsizedEnvelope) (due_going due may) is may
    (omega arith) in
    let w = chunk_behind x z o refl refl in
    let first : Passes (stream x) z from head (between x z from []) [] =
    subst (λ (p : OpenPayload). Passes (stream x) z from head (record z { stage = chunk_due p }) [])
    same
    (subst (λ (t : Situation). Passes (stream x) z from head t []) w.0
    (subst (λ (v : Option StreamEvent). Passes (stream x) z from head (behind_payload x z o)
    (option_to_list v)) w.1
    (made_passes x z from (bare frames.UnsizedEnvelope) head o reads refl refl none))) in
    passes_then (stream x) z from head rest (between x z from []) _ [] _ first
    (chunks_pass x z from chunks [] rest (from + length head) are low clean)
  where
    due_going : (due : Due) → MayCome (may_come (direction_of x.side) due) frames.UnsizedEnvelope
        → is_over_in (record_due due) ≡ false
    due_going dues.Over may = cc
    due_going _ may = refl
