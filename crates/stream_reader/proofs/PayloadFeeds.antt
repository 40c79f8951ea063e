-- A reader takes bytes of a payload.
use Rattle.stream_reader.specs.StreamReaderState.{awaited_at, left_of}
use Rattle.std.proofs.Common.{◌≡◌, ℕ, zero, suc, ◌+◌, ◌-◌, ◌^◌, ◌<◌, ◌≤◌, Bool, true, false, List}
use Rattle.std.proofs.Common.{[], ◌++◌, length, take, Some, None, Ok, Err, Option, option_map, sym}
use Rattle.std.proofs.Common.{refl, ap, ◌∙◌, subst, inl, inr, append-nil, arith, length-append}
use Rattle.std.proofs.{Common.length-take-le, Common.take-take, Math.Nat.eq-or-lt_of_le}
use Rattle.{std.specs.Option.option_or, unit_streams.proofs.Answers.answers_are_first}
use Rattle.unit_streams.specs.Going.{IsQuiet, IsQuietBefore}
use Rattle.unit_streams.specs.{Grammar.standing, Judging.refusal_at}
use Rattle.unit_streams.specs.Judging.{ending_at, event_at, goes_on, is_over_at, offends}
use Rattle.nmf_records.specs.declared.{frame.Expect.Expect, reader.FrameReader.FrameReader}
use Rattle.nmf_records.specs.declared.script.Direction.{Direction}
use Rattle.nmf_records.specs.Reader.{ShowsText as FramesShowText, StandsFor as FrameStandsFor}
use Rattle.nmf_records.specs.RecordFronts.{via_or_fault}
use Rattle.nbfx_decoder.specs.declared.faults.DecodeFault.{DecodeFault}
use Rattle.nbfx_decoder.specs.DecoderState.{FailedBehind as DecoderFailedBehind, FailedWithin}
use Rattle.nbfx_decoder.specs.DecoderState.{FeedAnswers, settings_of as decoder_settings}
use Rattle.nbfx_decoder.specs.DecoderState.{situation_of, StandsFor as DecoderStandsFor}
use Rattle.nbfx_decoder.specs.Payload.{payload, Refusal, refusal, Settings as PayloadSettings}
use Rattle.stream_reader.specs.declared.awaited.{PayloadLeft.PayloadLeft}
use Rattle.stream_reader.specs.declared.reader.{ReadRefusal.ReadRefusal, StreamStep.StreamStep}
use Rattle.stream_reader.specs.declared.reader.ReadRefusal.TheVariants.{Memory, Offence as Refused}
use Rattle.stream_reader.specs.declared.reader.StreamReader.{StreamReader}
use Rattle.stream_reader.specs.Stepping.{BehindAnswers, HasDecoded, more_shown, refusal_told}
use Rattle.stream_reader.specs.Stepping.{UnitAnswers}
use Rattle.stream_reader.specs.Stream.{behind_payload, chunk_due, completed_payload}
use Rattle.stream_reader.specs.Stream.{direction_of, is_chunked, is_over_in}
use Rattle.stream_reader.specs.Stream.{offence_in, OpenPayload, payload_in, payload_open}
use Rattle.stream_reader.specs.Stream.{payloads, PayloadStanding, record_due}
use Rattle.stream_reader.specs.Stream.{refusal_in, refused_payload, Settings, Situation, Stage}
use Rattle.stream_reader.specs.Stream.{stream, strings_at, strings_in}
use Rattle.stream_reader.specs.StreamReaderState.{awaited_at, DecideNothing, Failed, failure_of}
use Rattle.stream_reader.specs.StreamReaderState.{ShowsType}
use Rattle.stream_reader.specs.StreamReaderState.{HasBegun, HasPart, HasPayloads, IsIn}
use Rattle.stream_reader.specs.StreamReaderState.{messages_of, Reached, ReadsPayload, ShowsStrings}
use Rattle.stream_reader.specs.StreamReaderState.{ShowsTable, ShowsText, taken_of}
use Rattle.stream_reader.proofs.{Ending.payload_goes_on, FailedFeeds.unrefused_so}
use Rattle.stream_reader.proofs.FailedFeeds.{failed_with, same_grammar, some_refused, StaysWith}
use Rattle.stream_reader.proofs.Outcomes.{more_behind, refused_eventless, refused_messages}
use Rattle.stream_reader.proofs.Outcomes.{strings_behind, text_behind}
use Rattle.stream_reader.proofs.PayloadBytes.{between_refusal, bytes_event, bytes_going}
use Rattle.stream_reader.proofs.PayloadBytes.{bytes_refused, bytes_stand, IsWithin, last_refusal}
use Rattle.stream_reader.proofs.PayloadBytes.{more_refusal, payload_behind, payload_quiet}
use Rattle.stream_reader.proofs.PayloadBytes.{payload_quiet_before, stands_so, within_open}
use Rattle.nbfx_decoder.specs.declared.faults.DecodeFault.TheVariants as faults
use Rattle.stream_reader.specs.declared.awaited.Awaited.TheVariants as awaits

-- a reader of records that has begun none
pub none_begun : (direction : Direction) (stage : Stage) (frames : FrameReader)
    → ((next : Expect) → FrameStandsFor frames next []) → HasBegun direction stage frames []
none_begun direction (record_due due) frames fresh = fresh _
none_begun direction (chunk_due p) frames fresh = fresh _
none_begun direction (payload_open p) frames fresh = fresh

module _ (r : StreamReader) (x : Settings) (p : List ℕ) (h : Reached r x p) (left : PayloadLeft)
    (is : r.awaited ≡ awaits.Payload left) where
  abbrev z : Situation
  z = (standing (stream x) p).situation

  find_open : (stage : Stage) → awaits.Payload left ≡ awaited_at stage → (o : OpenPayload)
      × (stage ≡ payload_open o) × (left ≡ left_of o)
  find_open (record_due due) a = cc
  find_open (chunk_due o) a = cc
  find_open (payload_open o) a = let same : left ≡ left_of o = cc in (o, refl, same)

  pub found : (o : OpenPayload) × ((standing (stream x) p).situation.stage ≡ payload_open o)
      × (left ≡ left_of o)
  found = find_open (standing (stream x) p).situation.stage (sym is ∙ h.at.awaits)

  abbrev o : OpenPayload
  o = found.0

  read_so : (0 < o.left) × HasPart r.decoder x z o
  read_so = subst (ReadsPayload r.decoder x z) found.1 h.at.payload

  pub own : HasPart r.decoder x (standing (stream x) p).situation found.0
  own = read_so.1

  pub more_left : 0 < found.0.left
  more_left = read_so.0

  abbrev bytes : List ℕ
  bytes = own.bytes

  at : IsWithin x p z o bytes
  at = within_open x p o bytes found.1
      (record { standing_is = own.standing_is; counted = own.counted }) more_left

  left_is : left.left ≡ o.left
  left_is = ap (λ (n : PayloadLeft). n.left) found.2

  size_is : left.size ≡ o.size
  size_is = ap (λ (n : PayloadLeft). n.size) found.2

  pub has_payloads : HasPayloads (standing (stream x) p).situation.stage
  has_payloads = subst HasPayloads (sym found.1) tt

  no_record : (next : Expect) → FrameStandsFor r.frames next []
  no_record =
      subst (λ (s : Stage). HasBegun (direction_of x.side) s r.frames (standing (stream x) p).begun)
      found.1 h.frames

  -- some bytes of the piece, of those that are to come
  module _ (c : List ℕ) (n : ℕ) (within : n ≤ length c) (few : n ≤ left.left)
      (short : length p + n ≤ x.limits.session) where
    abbrev there : ℕ → OpenPayload
    there k = payload_behind x z o (bytes ++ take k c)

    in_size : length bytes + n ≤ o.size
    in_size = omega (arith, own.counted, left_is, few)

    taken : (k : ℕ) → k ≤ n → length (take k c) ≡ k
    taken k le = length-take-le k c (omega (arith, le, within))

    further : (k : ℕ) → k ≤ n → length (p ++ take k c) ≡ length p + k
    further k le = let m = taken k le in length-append p (take k c) ∙ omega (arith, m)

    -- the decoder that has taken them
    pub has_decoded : (mid : StreamReader) (now : PayloadLeft)
        → now ≡ record left { left = left.left - n } → mid.mode ≡ r.mode → mid.kind ≡ r.kind
        → mid.messages ≡ r.messages → decoder_settings mid.decoder ≡ decoder_settings r.decoder
        → DecoderStandsFor mid.decoder (standing (stream x) p).situation.strings
        (own.bytes ++ take n c) → (standing (stream x) p).situation.messages + 1 < 2 ^ 64
        → HasDecoded mid x (standing (stream x) p).situation now
        (payload_behind x (standing (stream x) p).situation found.0 (own.bytes ++ take n c))
    has_decoded mid now now_is mode kind messages same stands small =
        let m : length (bytes ++ take n c) ≡ length bytes + n = let k = taken n (omega arith) in
        length-append bytes (take n c) ∙ omega (arith, k) in
        record {
          here_is =
              now_is ∙ ap (λ (k : PayloadLeft). record k { left = k.left - n }) found.2
              ∙ ap (λ k. record (left_of o) { left = k }) (omega (arith, own.counted, m));
          mode = mode ∙ h.at.mode;
          kind = kind ∙ h.at.kind;
          messages = messages ∙ h.at.messages;
          few = small;
          decodes = same ∙ h.at.decodes;
          part = record {
            bytes = bytes ++ take n c;
            stands_for = stands;
            standing_is = refl;
            counted = omega (arith, m, in_size);
            within = own.within;
          };
        }

    -- of which none before so many is refused by the payload
    module _ (k : ℕ) (some : 0 < k) (le : k ≤ n)
        (none : (i : ℕ) → i < k → refusal_at (payload_in x (standing (stream x) p).situation)
        (own.bytes ++ take i c) ≡ None) where
      some_taken : 0 < length (take k c)
      some_taken = let m = taken k le in omega (arith, m, some)

      fits : length bytes + length (take k c) ≤ o.size
      fits = let m = taken k le in omega (arith, m, le, in_size)

      stands : standing (stream x) (p ++ take k c) ≡ stands_so x z (there k)
          (length (p ++ take k c))
      stands = bytes_stand x (take k c) p z o bytes at some_taken fits

      situation_there : (standing (stream x) (p ++ take k c)).situation ≡ behind_payload x z
          (there k)
      situation_there = ap (λ s. s.situation) stands

      text_there : (standing (stream x) (p ++ take k c)).situation.text ≡ z.text
      text_there = ap (λ (s : Situation). s.text) situation_there ∙ text_behind x z (there k)

      still_on : is_over_at (stream x) (p ++ take k c) ≡ false
      unfolding is_over_at
      still_on = ap (λ (s : Situation). is_over_in s.stage) situation_there ∙ payload_goes_on x z
          (there k)

      strings_there : strings_in (standing (stream x) (p ++ take k c)).situation
          ≡ (situation_of (payloads x z.kind) z.strings (bytes ++ take k c)).strings
      strings_there = ap strings_in situation_there ∙ strings_behind x z (there k)

      event_there : event_at (stream x) (p ++ take k c) ≡ completed_payload x z (there k)
      event_there = bytes_event x p z o bytes at (take k c) some_taken fits

      before_there : IsQuietBefore (stream x) p c k
      before_there = payload_quiet_before x p z o bytes at c k (omega (arith, le, within))
          (omega (arith, le, in_size)) (omega (arith, le, short)) h.going none

      quiet_there : event_at (stream x) (p ++ take k c) ≡ None → IsQuiet (stream x) p c k
      quiet_there = payload_quiet x p z o bytes at c k (omega (arith, le, within))
          (omega (arith, le, in_size)) (omega (arith, le, short)) h.going none

      -- where the payload refuses them
      refusal_is : (why : Refusal) → refusal_at (payload_in x (standing (stream x) p).situation)
          (own.bytes ++ take k c) ≡ Some why → refusal_in x z (there k) ≡ Some why
      refusal_is why e =
          let m = taken k le in
          elim (eq-or-lt_of_le fits) [
            | inl all ↦ at_last all (is_chunked o.form) refl
            | inr more ↦ more_refusal x p z o bytes at (take k c) some_taken fits more ∙ e
          ]
        where
          at_last : length bytes + length (take k c) ≡ o.size → (b : Bool) → is_chunked o.form ≡ b
              → refusal_in x z (there k) ≡ Some why
          at_last all true chunked =
              between_refusal x p z o bytes at (take k c) some_taken fits all chunked ∙ e
          at_last all false last =
              last_refusal x p z o bytes at (take k c) some_taken fits all last
              ∙ ap (λ v. option_or v (ending_at (payload_in x z) (bytes ++ take k c))) e

      -- they bring no document
      stays_by : (behind_payload x z (there k)).messages ≡ z.messages → StaysWith x p
          (p ++ take k c) (bytes ++ take k c)
      stays_by e = record {
        text = text_there;
        messages = ap (λ (s : Situation). s.messages)
            situation_there ∙ e;
        strings = strings_there;
      }

      -- they are refused
      refused_so : (new : StreamReader) (told : ReadRefusal) (why : Refusal)
          → refusal_in x z (there k) ≡ Some why → told ≡ Refused (offence_in z.messages why)
          → Failed new x told (length p + k) (p ++ take k c) → UnitAnswers x p c new (Err told)
      refused_so new told why refuses is failed =
          subst (λ (t : ReadRefusal). UnitAnswers x p c new (Err t)) (sym is) (
            k,
            quiet_there (event_there ∙ refused_eventless x z (there k) why refuses),
            bytes_refused x p z o bytes at (take k c) some_taken fits why refuses,
            subst (λ (t : ReadRefusal). Failed new x t (length p + k) (p ++ take k c)) is failed,
          )

      -- or not
      module _ (new : StreamReader) (refuses : refusal_in x z (there k) ≡ None)
          (is_in : IsIn new x (behind_payload x z (there k))) (frames : new.frames ≡ r.frames)
          (taken_is : new.taken ≡ r.taken + k) (unit_from : new.unit_from ≡ r.taken + k)
          (failure : new.failure ≡ r.failure) where
        reached : Reached new x (p ++ take k c)
        reached =
            let long = further k le in
            let begun_there : (standing (stream x) (p ++ take k c)).begun ≡ [] = ap (λ s. s.begun)
            stands in
            let from_there : (standing (stream x) (p ++ take k c)).from ≡ length (p ++ take k c) =
            ap (λ s. s.from) stands in
            record {
              at = subst (IsIn new x) (sym situation_there) is_in;
              frames = subst (HasBegun (direction_of x.side) _ new.frames)
                  (sym begun_there) (none_begun (direction_of x.side) _ new.frames
                  (λ next. subst (λ (f : FrameReader). FrameStandsFor f next []) (sym frames)
                  (no_record next)));
              text = subst (λ (f : FrameReader). FramesShowText via_or_fault f
                  (standing (stream x) (p ++ take k c)).situation.text) (sym frames)
                  (subst (FramesShowText via_or_fault r.frames) (sym text_there) h.text);
              type = subst ShowsType (sym frames) h.type;
              closing = λ over. let on = still_on in let bad = sym on ∙ over in cc;
              unit_from = omega (arith, unit_from, h.taken, from_there, long);
              taken = omega (arith, taken_is, h.taken, long);
              within = omega (arith, long, le, short);
              going = bytes_going x p z o bytes at (take k c) some_taken fits refuses;
              unfailed = failure ∙ h.unfailed;
            }

      -- by what a reader is behind them
      took_by : (v : Option Refusal) → refusal_in x z (there k) ≡ v → (new : StreamReader)
          (step : StreamStep) → BehindAnswers x (behind_payload x z (there k))
          (completed_payload x z (there k)) (option_map (offence_in z.messages) v) new (Ok step)
          → new.frames ≡ r.frames → new.taken ≡ r.taken + k → new.unit_from ≡ r.taken + k
          → new.failure ≡ r.failure → UnitAnswers x p c new (Ok (k, step))
      took_by None refuses new step a frames taken_is unit_from failure = rw a.1 (
        completed_payload x z (there k),
        some,
        before_there,
        event_there,
        refl,
        reached new refuses a.0 frames taken_is unit_from failure,
        λ none payloads. has_payloads,
      )
      took_by (Some why) refuses new step a frames taken_is unit_from failure = absurd a

      failed_by : (v : Option Refusal) → refusal_in x z (there k) ≡ v → (new : StreamReader)
          (told : ReadRefusal) → BehindAnswers x (behind_payload x z (there k))
          (completed_payload x z (there k)) (option_map (offence_in z.messages) v) new (Err told)
          → new.frames ≡ r.frames → new.taken ≡ r.taken + k → new.failure ≡ Some told
          → UnitAnswers x p c new (Err told)
      unfolding failure_of taken_of messages_of ShowsText ShowsStrings
      failed_by None refuses new (Refused offence) a frames taken_is failure = absurd a
      failed_by v refuses new Memory a frames taken_is failure = absurd a
      failed_by (Some why) refuses new (Refused offence) a frames taken_is failure =
          refused_so new (Refused offence) why refuses (ap Refused a.0) (record {
            failure = failure;
            taken_is = omega (arith, taken_is, h.taken);
            text = subst (λ (f : FrameReader). FramesShowText via_or_fault f
                (standing (stream x) (p ++ take k c)).situation.text) (sym frames)
                (subst (FramesShowText via_or_fault r.frames) (sym text_there) h.text);
            messages = subst (λ (s : Situation). new.messages ≡ s.messages) (sym situation_there)
                a.1.messages;
            strings = subst (λ (s : Situation). ShowsTable new.decoder (strings_in s))
                (sym situation_there) a.1.strings;
          })

    -- no byte more
    stays_none : StaysWith x p (p ++ take 0 c) (bytes ++ take 0 c)
    stays_none =
        let none : p ≡ p ++ take 0 c = sym (append-nil p) in
        let none_own : bytes ≡ bytes ++ take 0 c = sym (append-nil bytes) in
        subst (λ (q : List ℕ). StaysWith x p q (bytes ++ take 0 c)) none
        (subst (λ (b : List ℕ). StaysWith x p p b) none_own (record {
          text = refl;
          messages = refl;
          strings = ap (strings_at z) found.1 ∙ ap (λ (s : PayloadStanding). s.situation.strings)
              own.standing_is;
        }))

    -- fewer than are to come
    stays_below : (j : ℕ) → j ≤ n → length bytes + j < o.size
        → ((i : ℕ) → i < j → refusal_at (payload_in x (standing (stream x) p).situation)
        (own.bytes ++ take i c) ≡ None) → StaysWith x p (p ++ take j c) (bytes ++ take j c)
    stays_below zero le more none = stays_none
    stays_below (suc j) le more none =
        stays_by (suc j) (omega arith) le none
        (ap (λ (s : Situation). s.messages)
        (more_behind x z (there (suc j)) (let m = taken (suc j) le in let n = length-append bytes
        (take (suc j) c) in omega (arith, m, n, more))))

    -- what is read from the bytes that are fed
    same_bytes : (k : ℕ) → k ≤ n → take k (take n c) ≡ take k c
    same_bytes k le = take-take k n c le

    size_fed : length (take n c) ≡ n
    size_fed = taken n (omega arith)

    none_in : (g : PayloadSettings) → g ≡ decoder_settings r.decoder → (k : ℕ) → k ≤ n
        → ((i : ℕ) → i < k → refusal_at (payload g z.strings) (bytes ++ take i (take n c)) ≡ None)
        → (i : ℕ) → i < k
        → refusal_at (payload_in x (standing (stream x) p).situation) (own.bytes ++ take i c) ≡ None
    none_in g is k le none i lt =
        same_grammar r x p h bytes own.stands_for
        (λ s. refusal_at (payload s z.strings) (bytes ++ take i c) ≡ None)
        (subst (λ (s : PayloadSettings). refusal_at (payload s z.strings) (bytes ++ take i c)
        ≡ None) is (ap (λ d. refusal_at (payload g z.strings) (bytes ++ d))
        (sym (same_bytes i (omega (arith, lt, le)))) ∙ none i lt))

    -- all of them are taken
    all_unrefused : FeedAnswers (decoder_settings r.decoder)
        (standing (stream x) p).situation.strings own.bytes (take n c) (Ok tt) → (i : ℕ) → i < n
        → refusal_at (payload_in x (standing (stream x) p).situation) (own.bytes ++ take i c) ≡ None
    all_unrefused goes =
        let means = (answers_are_first (payload (decoder_settings r.decoder) z.strings) bytes
        (take n c) goes_on).0 goes in
        none_in (decoder_settings r.decoder) refl n (omega arith)
        (λ i lt. means.0.unrefused i (omega (arith, lt, size_fed)))

    module _ (some : 0 < n) (goes : FeedAnswers (decoder_settings r.decoder)
        (standing (stream x) p).situation.strings own.bytes (take n c) (Ok tt)) (new : StreamReader)
      where
        abbrev pub behind_fed : OpenPayload
        behind_fed = payload_behind x (standing (stream x) p).situation found.0
            (own.bytes ++ take n c)

        pub feed_took : (step : StreamStep) → BehindAnswers x
            (behind_payload x (standing (stream x) p).situation behind_fed)
            (completed_payload x (standing (stream x) p).situation behind_fed)
            (refused_payload x (standing (stream x) p).situation behind_fed) new (Ok step)
            → new.frames ≡ r.frames → new.taken ≡ r.taken + n → new.unit_from ≡ r.taken + n
            → new.failure ≡ r.failure → UnitAnswers x p c new (Ok (n, step))
        feed_took step = took_by n some (omega arith) (all_unrefused goes)
            (refusal_in x z (there n))
            refl new step

        pub feed_behind : (told : ReadRefusal) → BehindAnswers x
            (behind_payload x (standing (stream x) p).situation behind_fed)
            (completed_payload x (standing (stream x) p).situation behind_fed)
            (refused_payload x (standing (stream x) p).situation behind_fed) new (Err told)
            → new.frames ≡ r.frames → new.taken ≡ r.taken + n → new.failure ≡ Some told
            → UnitAnswers x p c new (Err told)
        feed_behind told = failed_by n some (omega arith) (all_unrefused goes)
            (refusal_in x z (there n)) refl new told

    module _ (new : StreamReader) (told : ReadRefusal) (same : decoder_settings new.decoder
        ≡ decoder_settings r.decoder) (failure : new.failure ≡ Some told)
        (frames : new.frames ≡ r.frames) (messages : new.messages ≡ r.messages) where
      pub feed_fails : (fault : DecodeFault) → FeedAnswers (decoder_settings r.decoder)
          (standing (stream x) p).situation.strings own.bytes (take n c) (Err fault)
          → FailedWithin new.decoder fault (standing (stream x) p).situation.strings own.bytes
          (take n c) → told ≡ refusal_told r.messages fault
          → new.taken ≡ r.taken + more_shown left fault → UnitAnswers x p c new (Err told)
      feed_fails (faults.Payload at reason shown_by) answers failed is taken_is =
          let g : PayloadSettings = decoder_settings r.decoder in
          let k : ℕ = answers.0 in
          let means = (answers_are_first (payload g z.strings) bytes (take n c)
          (offends k (refusal at reason))).0 answers.1 in
          let le : k ≤ n = let w = means.0.within in omega (arith, w, size_fed) in
          let same_count : failed.count ≡ k = let shown = failed.shown in omega
          (arith, shown, answers.2) in
          let some = some_refused g z.strings bytes (take n c)
          (unrefused_so r x p h bytes own.stands_for) k (refusal at reason) means.1 in
          let none = none_in g refl k le means.0.unrefused in
          let refused = same_grammar r x p h bytes own.stands_for
          (λ s. refusal_at (payload s z.strings) (bytes ++ take k c)
          ≡ Some (refusal at reason)) (ap (λ d. refusal_at (payload g z.strings) (bytes ++ d))
          (sym (same_bytes k le)) ∙ means.1) in
          let refuses = refusal_is k some le none (refusal at reason) refused in
          let behind = subst (λ (b : List ℕ). DecoderFailedBehind new.decoder
          (faults.Payload at reason shown_by) z.strings (bytes ++ b))
          (ap (λ m. take m (take n c)) same_count ∙ same_bytes k le) failed.behind in
          refused_so k some le none new told (refusal at reason) refuses
          (is ∙ ap (λ m. Refused (offence_in m (refusal at reason))) h.at.messages)
          (failed_with r x p h bytes own.stands_for new told same failure frames messages
          (faults.Payload at reason shown_by) (length p + k) (p ++ take k c)
          (bytes ++ take k c)
          (omega (arith, taken_is, h.taken, answers.2, own.counted, left_is, size_is))
          (stays_by k some le none (refused_messages x z (there k) (refusal at reason) refuses))
          behind)
      feed_fails faults.Memory answers failed is taken_is = subst
          (λ (t : ReadRefusal). UnitAnswers x p c new (Err t)) (sym is) lost
        where
          wanted : (failed.count < length (take n c))
              × (refusal_at (payload (decoder_settings new.decoder) z.strings)
              (bytes ++ take failed.count (take n c)) ≡ None)
          wanted = failed.wanted refl

          lt : failed.count < n
          lt = let less = wanted.0 in omega (arith, less, size_fed)

          up_to : (i : ℕ) → i < suc failed.count
              → refusal_at (payload (decoder_settings new.decoder) z.strings)
              (bytes ++ take i (take n c)) ≡ None
          up_to i le =
              elim (eq-or-lt_of_le (let few : i ≤ failed.count = omega (arith, le) in few)) [
                | inl all ↦ ap (λ k. refusal_at (payload (decoder_settings new.decoder) z.strings)
                    (bytes ++ take k (take n c))) all ∙ wanted.1
                | inr less ↦ failed.before i less
              ]

          none : (i : ℕ) → i < suc failed.count
              → refusal_at (payload_in x (standing (stream x) p).situation) (own.bytes ++ take i c)
              ≡ None
          none = none_in (decoder_settings new.decoder) same (suc failed.count) (omega (arith, lt))
              up_to

          -- one more of them decides nothing before its end
          quiet : IsQuietBefore (stream x) p c (suc failed.count)
          quiet = before_there (suc failed.count) (omega arith) (omega (arith, lt)) none

          nothing : DecideNothing x p c failed.count
          nothing = (
            record {
              within = omega (arith, lt, within);
              unrefused = λ i less. quiet.unrefused i (omega (arith, less));
              eventless = λ i some le. quiet.eventless i some (omega (arith, le));
            },
            quiet.unrefused failed.count (omega arith),
          )

          stays : StaysWith x p (p ++ take failed.count c) (bytes ++ take failed.count c)
          stays = stays_below failed.count (omega (arith, lt)) (omega (arith, lt, in_size))
              (λ i less. none i (omega (arith, less)))

          lost : UnitAnswers x p c new (Err Memory)
          lost = (
            failed.count,
            nothing,
            has_payloads,
            subst (λ (t : ReadRefusal). Failed new x t new.taken (p ++ take failed.count c)) is
                (failed_with r x p h bytes own.stands_for new told same failure frames messages
                faults.Memory new.taken (p ++ take failed.count c)
                (bytes ++ take failed.count c) refl stays
                (subst (λ (b : List ℕ). DecoderFailedBehind new.decoder faults.Memory z.strings
                (bytes ++ b)) (same_bytes failed.count (omega (arith, lt))) failed.behind)),
          )
