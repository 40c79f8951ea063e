-- A short chunk in a stream: where it leads, what it completes and why it is refused is said by its
-- content, by the payload's own grammar.
use Rattle.std.proofs.Common.{◌≡◌, ℕ, ◌+◌, ◌-◌, ◌*◌, ◌%◌, ◌<◌, ◌≤◌, true, false, List, [], ◌∷◌}
use Rattle.std.proofs.Common.{◌++◌, length, take, if◌then◌else◌, nat_lt, nat_le, ◌==◌, Some, None}
use Rattle.std.proofs.Common.{option_map, sym, refl, ap, ◌∙◌, subst, append_assoc, append-nil}
use Rattle.std.proofs.Common.{arith, length-append, length-take-le, le-ltb, ne_eqb}
use Rattle.std.proofs.{Math.Seq.take-append_seam, lemmas.Bool.lt-leb}
use Rattle.unit_streams.proofs.Passing.{event_from, going_refusal, refusal_from}
use Rattle.unit_streams.proofs.Quiet.{quiet_behind, quiet_joined}
use Rattle.unit_streams.specs.{Front.whole, Parts.seen, Refusals.AreUnits}
use Rattle.unit_streams.specs.{Going.IsGoing, Going.IsQuiet, Grammar.Standing, Grammar.standing}
use Rattle.unit_streams.specs.Judging.{event_at, refusal_at}
use Rattle.multibyte_ints.specs.Integer.{int_at, int_ending_at, value_of}
use Rattle.{nbfx_values.specs.declared.refusals.Offence.Offence, nbfx_decoder.specs.Payload.Refusal}
use Rattle.nmf_records.specs.declared.frame.Frame.TheVariants.{Chunk}
use Rattle.nmf_records.specs.RecordFronts.{as_size, bare}
use Rattle.stream_reader.{specs.Runs.IsShort, proofs.PayloadBytes.refusal_between}
use Rattle.stream_reader.specs.Stream.{behind_payload, chunk_due, chunked, completed_payload, frame}
use Rattle.stream_reader.specs.Stream.{is_chunked, last_chunk, offence_at, offence_in, OpenPayload}
use Rattle.stream_reader.specs.Stream.{payload_by, payload_in, payload_open, reason_of, refusal_in}
use Rattle.stream_reader.specs.Stream.{refused_payload, refused_record, Settings, Situation, stream}
use Rattle.stream_reader.specs.Stream.{StreamEvent, strings_in, unit_in, with_chunk}
use Rattle.stream_reader.proofs.Envelopes.{between, so_far}
use Rattle.stream_reader.proofs.Grammar.{readable, short_enough}
use Rattle.stream_reader.proofs.Outcomes.{goes_on, is_refused, is_whole, more_behind, wants_chunk}
use Rattle.stream_reader.proofs.Outcomes.{more_completed, outcome, strings_behind, text_behind}
use Rattle.stream_reader.proofs.PayloadBytes.{behind_is, between_situation, bytes_event}
use Rattle.stream_reader.proofs.PayloadBytes.{bytes_going, bytes_refused, bytes_stand, bytes_units}
use Rattle.stream_reader.proofs.PayloadBytes.{bytes_unrefused, IsWithin, made_stands}
use Rattle.stream_reader.proofs.PayloadBytes.{payload_behind, payload_quiet, refusal_before}
use Rattle.nmf_records.specs.declared.script.Due.TheVariants as dues

-- a size of one byte
size_is : (n : ℕ) → n < 128 → int_at (n ∷ []) ≡ whole n 1
unfolding int_at int_ending_at value_of
size_is n few =
    let last : nat_le 128 n ≡ false = lt-leb 128 n few in
    let low : n % 128 + 128 * 0 ≡ n = omega (arith, few) in
    rw (last, low) refl

-- behind the bytes of a payload in chunks
chunked_messages : (x : Settings) (z : Situation) (o : OpenPayload) → is_chunked o.form ≡ true
    → ((behind_payload x z o).messages ≡ z.messages) × (completed_payload x z o ≡ None)
chunked_messages x z o is =
    elim (outcome x z o) [
      | goes_on more b c ↦ (ap (λ (s : Situation). s.messages) b, c)
      | wants_chunk none h b c ↦ (ap (λ (s : Situation). s.messages) b, c)
      | is_whole all none b c ↦ let bad = sym is ∙ all.last in cc
      | is_refused all r e b c ↦ let bad = sym is ∙ all.last in cc
    ]

-- behind q a stream shows of a payload what these bytes of it bring to the situation z, and is
-- refused where they are
pub record Shows (x : Settings) (z : Situation) (q bytes : List ℕ) : Type 0 where
  pub text : (standing (stream x) q).situation.text ≡ z.text
  pub messages : (standing (stream x) q).situation.messages ≡ z.messages
  pub strings : strings_in (standing (stream x) q).situation
      ≡ (standing (payload_in x z) bytes).situation.strings
  pub refused : (why : Refusal) → refusal_at (payload_in x z) bytes ≡ Some why
      → refusal_at (stream x) q ≡ Some (offence_in z.messages why)
  pub unrefused : refusal_at (payload_in x z) bytes ≡ None → length q < x.limits.session
      → refusal_at (stream x) q ≡ None

module _ (x : Settings) (z : Situation) (from : ℕ) where
  -- behind whole units, between two chunks
  pub record IsBetween (p bytes : List ℕ) : Type 0 where
    pub units : AreUnits (stream x) p
    pub situation : (standing (stream x) p).situation
        ≡ between x z from bytes
    pub going : IsGoing (stream x) (standing (stream x) p)

  -- one chunk more
  module _ (p bytes c : List ℕ) (at : IsBetween p bytes) (short : IsShort c)
      (fits : length (bytes ++ c) ≤ x.limits.payload) where
    abbrev size : List ℕ
    size = length c ∷ []

    -- the situation, and the payload behind the chunk's size
    abbrev here : Situation
    here = between x z from bytes

    abbrev sized : OpenPayload
    sized = record {
      from = from;
      size = length (bytes ++ c);
      left = length c;
      form = chunked;
      standing = standing (payload_in x z) bytes;
    }

    longer : length (bytes ++ c) ≡ length bytes + length c
    longer = length-append bytes c

    resumed : with_chunk (so_far x z from bytes) (length c) ≡ sized
    resumed =
        let some : (length c == 0) ≡ false =
        ne_eqb (length c) 0 (λ e. let n = short.some in omega (arith, n)) in
        ap (λ b. record {
          from = from;
          size = length bytes + length c;
          left = length c;
          form = if b then last_chunk else chunked;
          standing = standing (payload_in x z) bytes;
        }) some
        ∙ ap (λ n. record {
          from = from;
          size = n;
          left = length c;
          form = chunked;
          standing = standing (payload_in x z) bytes;
        }) (sym longer)

    made : payload_by x (standing (stream x) p).situation (length p) (Chunk (length c))
        ≡ Some sized
    made = ap (λ (s : Situation). payload_by x s (length p) (Chunk (length c))) at.situation
        ∙ ap Some resumed

    reads : unit_in x (standing (stream x) p).situation.stage (standing (stream x) p).from
        (length c ∷ []) ≡ whole (frame (bare (Chunk (length c)))) 1
    unfolding unit_in
    reads =
        ap (λ (s : Situation). unit_in x s.stage (standing (stream x) p).from size) at.situation
        ∙ ap (λ int. seen frame (λ fault. offence_at (standing (stream x) p).from
        (reason_of dues.Chunk fault)) (as_size 0 Chunk int)) (size_is (length c) short.few)

    by_size : standing (stream x) (p ++ length c ∷ []) ≡ record {
      situation = behind_payload x here sized;
      from = length (p ++ length c ∷ []);
      begun = [];
      event = completed_payload x here sized;
      refusal = refused_record x here (length p) (Chunk (length c)) [];
    }
    by_size =
        made_stands x p size (bare (Chunk (length c))) sized at.units reads made
        ∙ ap (λ (s : Situation). record {
          situation = behind_payload x s sized;
          from = length (p ++ size);
          begun = [];
          event = completed_payload x s sized;
          refusal = refused_record x s (length p) (Chunk (length c)) [];
        }) at.situation

    sized_is : sized ≡ payload_behind x z sized bytes
    sized_is = behind_is x z sized bytes (record { standing_is = refl; counted = sym longer })

    within : IsWithin x (p ++ length c ∷ []) z sized bytes
    within = record {
      units = ap (λ (t : Standing Situation StreamEvent Offence). t.begun) by_size;
      situation =
          ap (λ (t : Standing Situation StreamEvent Offence). t.situation) by_size
          ∙ more_behind x here sized short.some
          ∙ ap (λ (o : OpenPayload). record z { stage = payload_open o }) sized_is;
      more = let n = short.some in omega (arith, n, longer);
    }

    size_eventless : event_at (stream x) (p ++ length c ∷ []) ≡ None
    size_eventless =
        event_from (stream x) (p ++ size) _ by_size ∙ more_completed x here sized short.some

    size_refusal : refusal_at (payload_in x z) bytes ≡ None
        → refused_record x here (length p) (Chunk (length c)) [] ≡ None
    size_refusal none =
        let small : nat_lt x.limits.payload (length bytes + length c) ≡ false =
        le-ltb x.limits.payload (length bytes + length c) (omega (arith, longer, fits)) in
        let own : refusal_in x z sized ≡ None =
        ap (refusal_in x z) sized_is
        ∙ refusal_before x z sized bytes (let n = short.some in omega (arith, n, longer)) ∙ none in
        rw small (ap (refused_payload x here) resumed ∙ ap (option_map (offence_in z.messages)) own)

    size_going : refusal_at (payload_in x z) bytes ≡ None
        → IsGoing (stream x) (standing (stream x) (p ++ length c ∷ []))
    size_going none =
        subst (IsGoing (stream x)) (sym by_size) (record {
          next = (readable x).nothing (behind_payload x here sized) (length (p ++ size));
          last = size_refusal none;
        })

    refusal_here : length p < x.limits.session → refusal_at (stream x) p ≡ None
    refusal_here close =
        refusal_from (stream x) p (standing (stream x) p) refl
        ∙ going_refusal (stream x) (standing (stream x) p) (length p) at.going
        ∙ short_enough x (standing (stream x) p).situation.stage (standing (stream x) p).from
        (length p) close

    size_quiet : (more : List ℕ) → length p < x.limits.session
        → IsQuiet (stream x) p (length c ∷ more) 1
    size_quiet more close = record {
      within = omega arith;
      unrefused = λ i lt.
          let none : i ≡ 0 = omega (arith, lt) in
          rw none (ap (refusal_at (stream x)) (append-nil p) ∙ refusal_here close);
      eventless = λ i some le.
          let one : i ≡ 1 = omega (arith, some, le) in rw one size_eventless;
    }

    -- so many of its bytes
    module _ (j : ℕ) (some : 0 < j) (le : j ≤ length c) where
      abbrev there : OpenPayload
      there = payload_behind x z sized (bytes ++ take j c)

      taken : length (take j c) ≡ j
      taken = length-take-le j c le

      some_taken : 0 < length (take j c)
      some_taken = omega (arith, taken, some)

      few_taken : length bytes + length (take j c) ≤ sized.size
      few_taken = omega (arith, taken, le, longer)

      by_bytes : (standing (stream x) ((p ++ length c ∷ []) ++ take j c)).situation
          ≡ behind_payload x z there
      by_bytes =
          ap (λ (t : Standing Situation StreamEvent Offence). t.situation)
          (bytes_stand x (take j c) (p ++ size) z sized bytes within some_taken few_taken)

      own_refusal : refusal_in x z there ≡ refusal_at (payload_in x z) (bytes ++ take j c)
      own_refusal =
          refusal_between x z sized (bytes ++ take j c)
          (let n = length-append bytes (take j c) in omega (arith, n, few_taken)) refl

      eventless : event_at (stream x) ((p ++ length c ∷ []) ++ take j c) ≡ None
      eventless =
          bytes_event x (p ++ size) z sized bytes within (take j c) some_taken few_taken
          ∙ (chunked_messages x z there refl).1

      pub shows : Shows x z ((p ++ length c ∷ []) ++ take j c) (bytes ++ take j c)
      shows = record {
        text = ap (λ (s : Situation). s.text) by_bytes ∙ text_behind x z there;
        messages =
            ap (λ (s : Situation). s.messages) by_bytes ∙ (chunked_messages x z there refl).0;
        strings = ap strings_in by_bytes ∙ strings_behind x z there;
        refused = λ why e.
            bytes_refused x (p ++ size) z sized bytes within (take j c) some_taken few_taken why
            (own_refusal ∙ e);
        unrefused = λ e close.
            bytes_unrefused x (p ++ size) z sized bytes within (take j c) some_taken few_taken
            (own_refusal ∙ e) close;
      }

      -- decide nothing where fewer aren't refused
      content_quiet : length p + 1 + j ≤ x.limits.session
          → ((i : ℕ) → i < j → refusal_at (payload_in x z) (bytes ++ take i c) ≡ None)
          → IsQuiet (stream x) (p ++ length c ∷ []) c j
      content_quiet close none =
          let first : refusal_at (payload_in x z) bytes ≡ None =
          ap (refusal_at (payload_in x z)) (sym (append-nil bytes)) ∙ none 0 some in
          let n = length-append p size in
          payload_quiet x (p ++ size) z sized bytes within c j le (omega (arith, longer, le))
          (omega (arith, n, close)) (size_going first) none eventless

      pub chunk_quiet : (more : List ℕ) → length p + 1 + j ≤ x.limits.session
          → ((i : ℕ) → i < j → refusal_at (payload_in x z) (bytes ++ take i c) ≡ None)
          → IsQuiet (stream x) p (length c ∷ (c ++ more)) (1 + j)
      chunk_quiet more close none =
          quiet_joined (stream x) p (length c ∷ (c ++ more)) 1 j
          (size_quiet (c ++ more) (omega (arith, close)))
          (quiet_behind (stream x) (p ++ size) c more j (content_quiet close none))

    all_taken : take (length c) c ≡ c
    all_taken = ap (take (length c)) (sym (append-nil c)) ∙ take-append_seam c []

    -- all of its bytes
    pub between_again : ((i : ℕ) → i ≤ length c
        → refusal_at (payload_in x z) (bytes ++ take i c) ≡ None)
        → IsBetween (p ++ length c ∷ c) (bytes ++ c)
    between_again none =
        let some = short.some in
        let le : length bytes + length c ≤ sized.size = omega (arith, longer) in
        let all : length bytes + length c ≡ sized.size = sym longer in
        let own : refusal_in x z (payload_behind x z sized (bytes ++ c)) ≡ None =
        refusal_between x z sized (bytes ++ c) (omega arith) refl
        ∙ ap (λ d. refusal_at (payload_in x z) (bytes ++ d)) (sym all_taken)
        ∙ none (length c) (omega arith) in
        let none_left : payload_behind x z sized (bytes ++ c) ≡ so_far x z from (bytes ++ c) =
        (let zero_left : length (bytes ++ c) - length (bytes ++ c) ≡ 0 = omega arith in
        ap (λ n. record {
          from = from;
          size = length (bytes ++ c);
          left = n;
          form = chunked;
          standing = standing (payload_in x z) (bytes ++ c);
        }) zero_left) in
        subst (λ (q : List ℕ). IsBetween q (bytes ++ c)) (append_assoc p size c) (record {
          units = bytes_units x (p ++ size) z sized bytes within c some le;
          situation =
              between_situation x (p ++ size) z sized bytes within c some le all refl
              ∙ ap (λ (o : OpenPayload). record z { stage = chunk_due o }) none_left;
          going = bytes_going x (p ++ size) z sized bytes within c some le own;
        })
