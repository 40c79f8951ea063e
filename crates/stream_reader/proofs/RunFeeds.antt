-- A reader takes short chunks at once.
use Rattle.std.proofs.Common.{◌≡◌, ℕ, zero, suc, ◌+◌, ◌<◌, ◌≤◌, true, false, List, [], ◌∷◌, ◌++◌}
use Rattle.std.proofs.Common.{length, take, Some, None, Ok, Err, Result, sym, refl, ap, ◌∙◌, subst}
use Rattle.std.proofs.Common.{inl, inr, append-nil, arith, length-append}
use Rattle.std.proofs.Math.{Nat.eq-or-lt_of_le, Seq.take-append-le, Seq.take-length}
use Rattle.{std.specs.List.concat, nbfx_decoder.specs.declared.faults.DecodeFault.DecodeFault}
use Rattle.unit_streams.proofs.{Answers.answers_are_first, Standing.standing_length}
use Rattle.unit_streams.proofs.Quiet.{quiet_before_behind, quiet_behind}
use Rattle.unit_streams.specs.{Going.IsQuiet, Grammar.standing}
use Rattle.unit_streams.specs.Judging.{event_at, goes_on, is_over_at, offends, refusal_at}
use Rattle.nmf_records.specs.{declared.reader.FrameReader.FrameReader, Script.may_come}
use Rattle.nmf_records.specs.Reader.{ShowsText as FramesShowText, StandsFor as FrameStandsFor}
use Rattle.nmf_records.specs.RecordFronts.{via_or_fault}
use Rattle.nbfx_decoder.specs.DecoderState.{FailedBehind as DecoderFailedBehind, FailedWithin}
use Rattle.nbfx_decoder.specs.DecoderState.{FeedAnswers, settings_of as decoder_settings}
use Rattle.nbfx_decoder.specs.DecoderState.{StandsFor as DecoderStandsFor}
use Rattle.nbfx_decoder.specs.Payload.{payload, Refusal, refusal, Settings as PayloadSettings}
use Rattle.stream_reader.specs.declared.awaited.{PayloadLeft.PayloadLeft}
use Rattle.stream_reader.specs.declared.reader.{ReadRefusal.ReadRefusal, StreamStep.StreamStep}
use Rattle.stream_reader.specs.declared.reader.ReadRefusal.TheVariants.{Memory, Offence as Refused}
use Rattle.stream_reader.specs.{declared.reader.StreamReader.StreamReader}
use Rattle.stream_reader.specs.Runs.{AreShort, chunks_of, place_in}
use Rattle.stream_reader.specs.Stepping.{more_shown, refusal_told, UnitAnswers}
use Rattle.stream_reader.specs.Stream.{chunk_due, chunked, direction_of, Form, is_chunked}
use Rattle.stream_reader.specs.Stream.{is_over_in, last_chunk, offence_in, OpenPayload, payload_in}
use Rattle.stream_reader.specs.Stream.{payload_open, PayloadStanding, record_due, Settings}
use Rattle.stream_reader.specs.Stream.{Situation, sized, Stage, stream, strings_at}
use Rattle.stream_reader.specs.StreamReaderState.{awaited_at, Failed, form_for, HasBegun, HasPart}
use Rattle.stream_reader.specs.StreamReaderState.{ShowsType}
use Rattle.stream_reader.specs.StreamReaderState.{HasPayloads, IsIn, left_of, Reached}
use Rattle.stream_reader.specs.StreamReaderState.{ReadsPayload}
use Rattle.stream_reader.proofs.{ChunkBytes.IsBetween, Envelopes.so_far, PayloadBytes.units_place}
use Rattle.stream_reader.proofs.FailedFeeds.{failed_with, same_grammar, some_refused, StaysWith}
use Rattle.stream_reader.proofs.{FailedFeeds.unrefused_so, Grammar.readable}
use Rattle.stream_reader.proofs.RunBytes.{IsAlong, run_along, run_between}
use Rattle.stream_reader.proofs.RunFacts.{place_all, place_none, place_rises}
use Rattle.stream_reader.proofs.Situations.{IsOpenAt, sound}
use Rattle.nmf_records.specs.declared.script.Due.TheVariants as dues
use Rattle.nbfx_decoder.specs.declared.faults.DecodeFault.TheVariants as faults
use Rattle.stream_reader.specs.declared.awaited.Awaited.TheVariants as awaits
use Rattle.stream_reader.specs.declared.reader.StreamStep.TheVariants as steps

-- bytes of a unit, or of several, are answered alike with more behind them
module _ (x : Settings) (p c more : List ℕ) (new : StreamReader) where
  same_front : (k : ℕ) → k ≤ length c → p ++ take k c ≡ p ++ take k (c ++ more)
  same_front k le = ap (λ d. p ++ d) (sym (take-append-le k c more le))

  pub answers_further : (result : Result (ℕ × StreamStep) ReadRefusal)
      → UnitAnswers x p c new result → UnitAnswers x p (c ++ more) new result
  answers_further (Ok (k, step)) (event, some, before, at, is, reached, payloads) =
      let same = same_front k before.within in (
        event,
        some,
        quiet_before_behind (stream x) p c more k before,
        ap (event_at (stream x)) (sym same) ∙ at,
        is,
        subst (Reached new x) same reached,
        λ none has. payloads none
            (subst (λ (q : List ℕ). HasPayloads (standing (stream x) q).situation.stage) (sym same)
            has),
      )
  answers_further (Err (Refused o)) u = (
    u.0,
    quiet_behind (stream x) p c more u.0 u.1,
    ap (refusal_at (stream x)) (sym (same_front u.0 u.1.within)) ∙ u.2,
    subst (Failed new x (Refused o) (length p + u.0)) (same_front u.0 u.1.within) u.3,
  )
  answers_further (Err Memory) u = (
    u.0,
    (
      quiet_behind (stream x) p c more u.0 u.1.0,
      ap (refusal_at (stream x)) (sym (same_front u.0 u.1.0.within)) ∙ u.1.1,
    ),
    u.2,
    subst (Failed new x Memory new.taken) (same_front u.0 u.1.0.within) u.3,
  )

chunked_form : (form : Form) → is_chunked form ≡ true → form ≡ chunked
chunked_form chunked e = refl
chunked_form sized e = cc
chunked_form last_chunk e = cc

-- where a reader is between two chunks
module _ (r : StreamReader) (x : Settings) (p : List ℕ) (h : Reached r x p) (left : PayloadLeft)
    (is : r.awaited ≡ awaits.Chunk left) (fresh : r.unit_from ≡ r.taken) where
  abbrev z : Situation
  z = (standing (stream x) p).situation

  find_chunk : (stage : Stage) → awaits.Chunk left ≡ awaited_at stage → (o : OpenPayload)
      × (stage ≡ chunk_due o) × (left ≡ left_of o)
  find_chunk (record_due due) a = cc
  find_chunk (chunk_due o) a = let same : left ≡ left_of o = cc in (o, refl, same)
  find_chunk (payload_open o) a = cc

  pub chunk_found : (o : OpenPayload)
      × ((standing (stream x) p).situation.stage ≡ chunk_due o) × (left ≡ left_of o)
  chunk_found = find_chunk z.stage (sym is ∙ h.at.awaits)

  abbrev o : OpenPayload
  o = chunk_found.0

  read_so : (o.left ≡ 0) × HasPart r.decoder x z o
  read_so = subst (ReadsPayload r.decoder x z) chunk_found.1 h.at.payload

  pub chunk_part : HasPart r.decoder x (standing (stream x) p).situation chunk_found.0
  chunk_part = read_so.1

  abbrev bytes : List ℕ
  bytes = chunk_part.bytes

  size_is : o.size ≡ length bytes
  size_is = let n = chunk_part.counted in let m = read_so.0 in omega (arith, n, m)

  pub chunk_size : left.size ≡ length chunk_part.bytes
  chunk_size = ap (λ (n : PayloadLeft). n.size) chunk_found.2 ∙ size_is

  form_is : o.form ≡ chunked
  form_is =
      let open_at : IsOpenAt x z (chunk_due o) =
      subst (IsOpenAt x z) chunk_found.1 (sound x p).payload in
      chunked_form o.form open_at.chunked

  payload_is : o ≡ so_far x z o.from bytes
  payload_is =
      ap (λ n. record {
        from = o.from;
        size = n;
        left = o.left;
        form = o.form;
        standing = o.standing;
      }) size_is
      ∙ ap (λ n. record {
        from = o.from;
        size = length bytes;
        left = n;
        form = o.form;
        standing = o.standing;
      }) read_so.0
      ∙ ap (λ (f : Form). record {
        from = o.from;
        size = length bytes;
        left = 0;
        form = f;
        standing = o.standing;
      }) form_is
      ∙ ap (λ (s : PayloadStanding). record {
        from = o.from;
        size = length bytes;
        left = 0;
        form = chunked;
        standing = s;
      }) chunk_part.standing_is

  none_begun_here : (standing (stream x) p).begun ≡ []
  none_begun_here =
      let n = standing_length (stream x) (readable x) p in
      let from = h.unit_from in let taken = h.taken in
      empty (standing (stream x) p).begun (omega (arith, n, from, taken, fresh))
    where
      empty : (b : List ℕ) → length b ≡ 0 → b ≡ []
      empty [] e = refl
      empty (y ∷ b) e = absurd (omega (arith, e))

  at : IsBetween x z o.from p bytes
  at = record {
    units = none_begun_here;
    situation =
        ap (λ (stage : Stage). record z { stage = stage })
        (chunk_found.1 ∙ ap chunk_due payload_is);
    going = h.going;
  }

  pub chunk_payloads : HasPayloads (standing (stream x) p).situation.stage
  chunk_payloads = subst HasPayloads (sym chunk_found.1) tt

  module _ (contents : List (List ℕ)) (short : AreShort contents)
      (fits : left.size + length (concat contents) ≤ x.limits.payload)
      (close : length p + length (chunks_of contents) ≤ x.limits.session) where
    abbrev content : List ℕ
    content = concat contents

    all_fits : length (bytes ++ concat contents) ≤ x.limits.payload
    all_fits =
        let n = length-append bytes content in let size = ap (λ (n : PayloadLeft). n.size) chunk_found.2 in
        omega (arith, n, size, size_is, fits)

    along : (j : ℕ) → j ≤ length (concat contents)
        → ((i : ℕ) → i < j → refusal_at (payload_in x z) (bytes ++ take i (concat contents))
        ≡ None) → IsAlong x z o.from p bytes contents j
    along = run_along x z o.from contents short p bytes at all_fits close

    none_in : (g : PayloadSettings) → g ≡ decoder_settings r.decoder → (k : ℕ)
        → ((i : ℕ) → i < k → refusal_at (payload g z.strings) (bytes ++ take i content) ≡ None)
        → (i : ℕ) → i < k
        → refusal_at (payload_in x z) (bytes ++ take i (concat contents)) ≡ None
    none_in g same k none i lt =
        same_grammar r x p h bytes chunk_part.stands_for
        (λ s. refusal_at (payload s z.strings) (bytes ++ take i content) ≡ None)
        (subst (λ (s : PayloadSettings). refusal_at (payload s z.strings)
        (bytes ++ take i content) ≡ None) same (none i lt))

    -- all of them are taken
    module _ (some : 0 < length (chunks_of contents))
        (goes : FeedAnswers (decoder_settings r.decoder)
        (standing (stream x) p).situation.strings chunk_part.bytes (concat contents) (Ok tt)) where
      none_refused : (i : ℕ) → i < suc (length (concat contents))
          → refusal_at (payload_in x z) (bytes ++ take i (concat contents)) ≡ None
      none_refused =
          let g : PayloadSettings = decoder_settings r.decoder in
          let means = (answers_are_first (payload g z.strings) bytes content goes_on).0 goes in
          none_in g refl (suc (length content)) (λ i lt.
          elim (eq-or-lt_of_le (let le : i ≤ length content = omega (arith, lt) in le)) [
            | inl all ↦ ap (λ d. refusal_at (payload g z.strings) (bytes ++ d))
                (ap (λ n. take n content) all ∙ take-length content) ∙ means.1
            | inr less ↦ means.0.unrefused i less
          ])

      behind : IsBetween x z o.from (p ++ chunks_of contents) (bytes ++ concat contents)
      behind = run_between x z o.from contents short p bytes at all_fits
          (λ i le. none_refused i (omega (arith, le)))

      module _ (new : StreamReader) (now : PayloadLeft) (awaited : new.awaited ≡ awaits.Chunk now)
          (now_is : now ≡ record left { size = left.size + length (concat contents) })
          (mode : new.mode ≡ r.mode) (kind : new.kind ≡ r.kind)
          (messages : new.messages ≡ r.messages) (frames : new.frames ≡ r.frames)
          (same : decoder_settings new.decoder ≡ decoder_settings r.decoder)
          (stands : DecoderStandsFor new.decoder (standing (stream x) p).situation.strings
          (chunk_part.bytes ++ concat contents))
          (taken : new.taken ≡ r.taken + length (chunks_of contents))
          (unit_from : new.unit_from ≡ r.taken + length (chunks_of contents))
          (failure : new.failure ≡ r.failure) where
        abbrev later : OpenPayload
        later = so_far x z o.from (bytes ++ concat contents)

        longer : length (bytes ++ concat contents) ≡ length bytes + length (concat contents)
        longer = length-append bytes content

        further : length (p ++ chunks_of contents) ≡ length p + length (chunks_of contents)
        further = length-append p (chunks_of contents)

        now_later : now ≡ left_of later
        now_later =
            now_is ∙ ap (λ (k : PayloadLeft). record k { size = k.size + length content })
            chunk_found.2
            ∙ ap (λ n. record (left_of o) { size = n }) (omega (arith, size_is, longer))
            ∙ ap (λ n. record (left_of o) { size = length (bytes ++ content); left = n }) read_so.0
            ∙ ap (λ (form : Form). record {
              from = o.from;
              size = length (bytes ++ content);
              left = 0;
              form = form_for form;
            }) form_is

        is_in : IsIn new x (record z { stage = chunk_due later })
        is_in = record {
          awaits = awaited ∙ ap awaits.Chunk now_later;
          mode = mode ∙ h.at.mode;
          kind = kind ∙ h.at.kind;
          messages = messages ∙ h.at.messages;
          decodes = same ∙ h.at.decodes;
          payload = (
            refl,
            record {
              bytes = bytes ++ concat contents;
              stands_for = stands;
              standing_is = refl;
              counted = omega arith;
              within = all_fits;
            },
          );
        }

        frames_none : FrameStandsFor new.frames (may_come (direction_of x.side) dues.Chunk) []
        frames_none =
            subst (λ (f : FrameReader). FrameStandsFor f
            (may_come (direction_of x.side) dues.Chunk) []) (sym frames)
            (subst (FrameStandsFor r.frames (may_come (direction_of x.side) dues.Chunk))
            none_begun_here
            (subst (λ (s : Stage). HasBegun (direction_of x.side) s r.frames
            (standing (stream x) p).begun) chunk_found.1 h.frames))

        over_not : is_over_at (stream x) (p ++ chunks_of contents) ≡ false
        unfolding is_over_at
        over_not = ap (λ (s : Situation). is_over_in s.stage) behind.situation

        reached : Reached new x (p ++ chunks_of contents)
        reached =
            let place = units_place x (p ++ chunks_of contents) behind.units in
            record {
              at = subst (IsIn new x) (sym behind.situation) is_in;
              frames =
                  subst (HasBegun (direction_of x.side) _ new.frames) (sym behind.units)
                  (subst (λ (s : Situation). HasBegun (direction_of x.side) s.stage new.frames [])
                  (sym behind.situation) frames_none);
              text =
                  subst (λ (f : FrameReader). FramesShowText via_or_fault f
                  (standing (stream x) (p ++ chunks_of contents)).situation.text) (sym frames)
                  (subst (FramesShowText via_or_fault r.frames)
                  (sym (ap (λ (s : Situation). s.text) behind.situation)) h.text);
              type = subst ShowsType (sym frames) h.type;
              closing = λ over. let none = over_not in let bad = sym none ∙ over in cc;
              unit_from = let before = h.taken in omega (arith, unit_from, before, place, further);
              taken = let before = h.taken in omega (arith, taken, before, further);
              within = omega (arith, further, close);
              going = behind.going;
              unfailed = failure ∙ h.unfailed;
            }

        took_all : UnitAnswers x p (chunks_of contents) new
            (Ok (length (chunks_of contents), steps.More))
        took_all =
            let whole : take (length (chunks_of contents)) (chunks_of contents)
            ≡ chunks_of contents = take-length (chunks_of contents) in
            let all = along (length content) (omega arith)
            (λ i lt. none_refused i (omega (arith, lt))) in
            let quiet = subst (λ (n : ℕ). IsQuiet (stream x) p (chunks_of contents) n)
            (place_all contents short) all.quiet in (
              None,
              some,
              record {
                within = quiet.within;
                unrefused = quiet.unrefused;
                eventless = λ i any lt. quiet.eventless i any (omega (arith, lt));
              },
              quiet.eventless (length (chunks_of contents)) some (omega arith),
              refl,
              subst (λ (d : List ℕ). Reached new x (p ++ d)) (sym whole) reached,
              λ none payloads. chunk_payloads,
            )

        pub run_took : (run : List ℕ) → run ≡ chunks_of contents
            → UnitAnswers x p run new (Ok (length run, steps.More))
        run_took run is =
            subst (λ (d : List ℕ). UnitAnswers x p d new (Ok (length d, steps.More))) (sym is)
            took_all

    -- some of them are refused, or memory runs out
    module _ (new : StreamReader) (told : ReadRefusal) (same : decoder_settings new.decoder
        ≡ decoder_settings r.decoder) (failure : new.failure ≡ Some told)
        (frames : new.frames ≡ r.frames) (messages : new.messages ≡ r.messages) where
      failed_so : (fault : DecodeFault) (count : ℕ) (q b : List ℕ) → new.taken ≡ count
          → StaysWith x p q b → DecoderFailedBehind new.decoder fault z.strings b
          → Failed new x told count q
      failed_so = failed_with r x p h bytes chunk_part.stands_for new told same failure frames
          messages

      stays_none : StaysWith x p (p ++ take 0 (chunks_of contents)) (bytes ++ take 0 content)
      stays_none =
          subst (λ (q : List ℕ). StaysWith x p q (bytes ++ take 0 content)) (sym (append-nil p))
          (subst (StaysWith x p p) (sym (append-nil bytes)) (record {
            text = refl;
            messages = refl;
            strings =
                ap (strings_at z) chunk_found.1
                ∙ ap (λ (s : PayloadStanding). s.situation.strings) chunk_part.standing_is;
          }))

      stays_along : (j : ℕ) → IsAlong x z o.from p bytes contents j
          → StaysWith x p (p ++ take (place_in contents j) (chunks_of contents))
          (bytes ++ take j content)
      stays_along j a = by_count j refl where
        by_count : (n : ℕ) → j ≡ n
            → StaysWith x p (p ++ take (place_in contents j) (chunks_of contents))
            (bytes ++ take j content)
        by_count zero e =
            rw (place_none contents j e, e) stays_none
        by_count (suc n) e =
            let shown = a.shows (omega (arith, e)) in
            record { text = shown.text; messages = shown.messages; strings = shown.strings }

      pub run_fails : (fault : DecodeFault) → FeedAnswers (decoder_settings r.decoder)
          (standing (stream x) p).situation.strings chunk_part.bytes (concat contents) (Err fault)
          → FailedWithin new.decoder fault (standing (stream x) p).situation.strings
          chunk_part.bytes (concat contents) → told ≡ refusal_told r.messages fault
          → (more_shown left fault ≤ length (concat contents)
          → place_in contents (more_shown left fault) ≤ length (chunks_of contents)
          → new.taken ≡ r.taken + place_in contents (more_shown left fault))
          → UnitAnswers x p (chunks_of contents) new (Err told)
      run_fails (faults.Payload at reason shown_by) answers failed is_told taken_is =
          let g : PayloadSettings = decoder_settings r.decoder in
          let k : ℕ = answers.0 in
          let why : Refusal = refusal at reason in
          let means = (answers_are_first (payload g z.strings) bytes content (offends k why)).0
          answers.1 in
          let le : k ≤ length content = means.0.within in
          let same_count : failed.count ≡ k =
          (let shown = failed.shown in omega (arith, shown, answers.2)) in
          let some = some_refused g z.strings bytes content
          (unrefused_so r x p h bytes chunk_part.stands_for) k why means.1 in
          let there = along k le (none_in g refl k means.0.unrefused) in
          let refused : refusal_at (payload_in x z) (bytes ++ take k content) ≡ Some why =
          same_grammar r x p h bytes chunk_part.stands_for
          (λ s. refusal_at (payload s z.strings) (bytes ++ take k content) ≡ Some why) means.1 in
          let shown : more_shown left (faults.Payload at reason shown_by) ≡ k =
          (let size = ap (λ (n : PayloadLeft). n.size) chunk_found.2 in
          let rest = ap (λ (n : PayloadLeft). n.left) chunk_found.2 in
          let none_left = read_so.0 in
          omega (arith, answers.2, size, rest, none_left, size_is)) in
          let count : new.taken ≡ length p + place_in contents k =
          taken_is (omega (arith, shown, le))
          (subst (λ n. place_in contents n ≤ length (chunks_of contents)) (sym shown)
          there.quiet.within)
          ∙ ap (λ n. r.taken + place_in contents n) shown
          ∙ ap (λ n. n + place_in contents k) h.taken in
          let offence_is : told ≡ Refused (offence_in z.messages why) =
          is_told ∙ ap (λ m. Refused (offence_in m why)) h.at.messages in
          let failed_at : Failed new x told (length p + place_in contents k)
          (p ++ take (place_in contents k) (chunks_of contents)) =
          failed_so (faults.Payload at reason shown_by) (length p + place_in contents k)
          (p ++ take (place_in contents k) (chunks_of contents)) (bytes ++ take k content) count
          (stays_along k there)
          (subst (λ (n : ℕ). DecoderFailedBehind new.decoder (faults.Payload at reason shown_by)
          z.strings (bytes ++ take n content)) same_count failed.behind) in
          subst (λ (t : ReadRefusal). UnitAnswers x p (chunks_of contents) new (Err t))
          (sym offence_is) (
            place_in contents k,
            there.quiet,
            (there.shows some).refused why refused,
            subst (λ (t : ReadRefusal). Failed new x t (length p + place_in contents k)
                (p ++ take (place_in contents k) (chunks_of contents))) offence_is failed_at,
          )
      run_fails faults.Memory answers failed is_told taken_is =
          let wanted = failed.wanted refl in
          let up_to = none_in (decoder_settings new.decoder) same (suc failed.count) (λ i lt.
          elim (eq-or-lt_of_le (let few : i ≤ failed.count = omega (arith, lt) in few)) [
            | inl all ↦ ap (λ k. refusal_at (payload (decoder_settings new.decoder) z.strings)
                (bytes ++ take k content)) all ∙ wanted.1
            | inr less ↦ failed.before i less
          ]) in
          let less = wanted.0 in
          let next = along (suc failed.count) (omega (arith, less)) up_to in
          let there = along failed.count (omega (arith, less))
          (λ i lt. up_to i (omega (arith, lt))) in
          subst (λ (t : ReadRefusal). UnitAnswers x p (chunks_of contents) new (Err t))
          (sym is_told) (
            place_in contents failed.count,
            (
              there.quiet,
              next.quiet.unrefused (place_in contents failed.count)
                  (place_rises contents failed.count (suc failed.count) (omega arith)),
            ),
            chunk_payloads,
            subst (λ (t : ReadRefusal). Failed new x t new.taken
                (p ++ take (place_in contents failed.count) (chunks_of contents))) is_told
                (failed_so faults.Memory new.taken
                (p ++ take (place_in contents failed.count) (chunks_of contents))
                (bytes ++ take failed.count content) refl (stays_along failed.count there)
                failed.behind),
          )
