-- A reader goes on behind bytes of a payload.
use Rattle.stream_reader.specs.Stream.{chunked, last_chunk, sized}
use Rattle.stream_reader.specs.StreamReaderState.{form_for}
use Rattle.stream_reader.specs.Stream.{Form}
use Rattle.std.proofs.Common.{◌≡◌, ℕ, ◌+◌, ◌<◌, ◌≤◌, true, false, List, [], length, Some, None, Ok}
use Rattle.std.proofs.Common.{Err, Option, Result, option_map, sym, refl, ap, ◌∙◌, subst, inr}
use Rattle.std.{proofs.Common.arith, specs.Option.option_or}
use Rattle.unit_streams.proofs.{Pending.pending_unrefused, Standing.standing_nothing}
use Rattle.unit_streams.specs.Judging.{ending_at, refusal_at}
use Rattle.string_tables.specs.SessionStrings.{used_cost}
use Rattle.nbfx_values.specs.declared.{content.Item.Item, refusals.Offence.Offence}
use Rattle.session_dictionary.specs.Strings.{LimitedStrings}
use Rattle.nbfx_decoder.proofs.{Readable.readable as payload_readable, StandsFacts.stands_as}
use Rattle.nbfx_decoder.specs.declared.{decoder.Decoder.Decoder, faults.DecodeFault.DecodeFault}
use Rattle.nbfx_decoder.specs.DecoderState.{FailedBehind as DecoderFailedBehind, FinishAnswers}
use Rattle.nbfx_decoder.specs.DecoderState.{settings_of as decoder_settings, situation_of}
use Rattle.nbfx_decoder.specs.DecoderState.{StandsFor as DecoderStandsFor, table_at}
use Rattle.nbfx_decoder.specs.Payload.{payload, Refusal, refusal, Settings as PayloadSettings}
use Rattle.stream_reader.specs.declared.awaited.{PayloadLeft.PayloadLeft}
use Rattle.stream_reader.specs.declared.reader.{ReadRefusal.ReadRefusal, StreamStep.StreamStep}
use Rattle.stream_reader.specs.{declared.reader.StreamReader.StreamReader, Stepping.refusal_told}
use Rattle.stream_reader.specs.Stepping.{BehindAnswers, due_after, HasDecoded, is_chunked_form}
use Rattle.stream_reader.specs.Stream.{behind_payload, chunk_due, completed_payload, due_behind}
use Rattle.stream_reader.specs.Stream.{is_chunked, is_over_in, message, offence_in, OpenPayload}
use Rattle.stream_reader.specs.Stream.{payload_in, payload_open, payloads, PayloadStanding}
use Rattle.stream_reader.specs.Stream.{record_due, refusal_in, refused_payload, Settings, Situation}
use Rattle.stream_reader.specs.Stream.{Stage, StreamEvent}
use Rattle.stream_reader.specs.StreamReaderState.{HasPart, Recalls}
use Rattle.stream_reader.proofs.{Ending.form_on, ReaderFacts.cost_within}
use Rattle.stream_reader.proofs.Outcomes.{behind_whole, chunk_behind, envelope_of, HasAll}
use Rattle.stream_reader.proofs.Outcomes.{more_behind, more_completed, refused_behind, whole_behind}
use Rattle.stream_reader.proofs.PayloadBytes.{behind_is, payload_behind, refusal_all}
use Rattle.stream_reader.proofs.PayloadBytes.{refusal_before, refusal_between}
use Rattle.nbfx_decoder.specs.declared.faults.DecodeFault.TheVariants as faults
use Rattle.stream_reader.specs.declared.awaited.Awaited.TheVariants as awaits
use Rattle.stream_reader.specs.declared.reader.StreamStep.TheVariants as steps

-- a message that says so much
message_as : (n n' size size' : ℕ) (doc doc' : List Item) (count count' cost cost' : ℕ) → n ≡ n'
    → size ≡ size' → doc ≡ doc' → count ≡ count' → cost ≡ cost'
    → steps.Message n size doc count cost ≡ steps.Message n' size' doc' count' cost'
message_as n n' size size' doc doc' count count' cost cost' a b c d e =
    ap (λ m. steps.Message m size doc count cost) a
    ∙ ap (λ m. steps.Message n' m doc count cost) b
    ∙ ap (λ m. steps.Message n' size' m count cost) c
    ∙ ap (λ m. steps.Message n' size' doc' m cost) d
    ∙ ap (steps.Message n' size' doc' count') e

-- before the first byte of a payload its strings are those before it
pub strings_first : (g : PayloadSettings) (strings : List (List ℕ))
    → (situation_of g strings []).strings ≡ strings
strings_first g strings =
    ap (λ (s : PayloadStanding). s.situation.strings)
    (standing_nothing (payload g strings) (payload_readable g strings))

-- the code's forms of a payload say what the stream's do
form_chunked : (form : Form) → is_chunked_form (form_for form) ≡ is_chunked form
form_chunked sized = refl
form_chunked chunked = refl
form_chunked last_chunk = refl

form_due : (form : Form) → due_after (form_for form) ≡ due_behind form
form_due sized = refl
form_due chunked = refl
form_due last_chunk = refl

-- a reader that is the same has decoded the same
pub decoded_as : {old new : StreamReader} {x : Settings} {z : Situation} {here : PayloadLeft}
    {o : OpenPayload} → new ≡ old → HasDecoded old x z here o → HasDecoded new x z here o
decoded_as {old} {new} {x} {z} {here} {o} same h =
    subst (λ (r : StreamReader). HasDecoded r x z here o) (sym same) h

module _ (r : StreamReader) (x : Settings) (z : Situation) (here : PayloadLeft) (o : OpenPayload)
    (h : HasDecoded r x z here o) where
  abbrev bytes : List ℕ
  bytes = h.part.bytes

  left_is : here.left ≡ o.left
  left_is = ap (λ (n : PayloadLeft). n.left) h.here_is

  -- its grammar is the decoder's
  grammar_is : (A : PayloadSettings → Type 0) → A (decoder_settings r.decoder)
      → A (payloads x z.kind)
  grammar_is A a = subst A h.decodes a

  unrefused : refusal_at (payload_in x z) bytes ≡ None
  unrefused =
      grammar_is (λ s. refusal_at (payload s z.strings) bytes ≡ None)
      (pending_unrefused (payload (decoder_settings r.decoder) z.strings) bytes
      (stands_as r.decoder z.strings bytes h.part.stands_for).pending)

  open_is : (v : Option Refusal) → refusal_in x z (payload_behind x z o bytes) ≡ v
      → refusal_in x z o ≡ v
  open_is v e =
      ap (refusal_in x z) (behind_is x z o bytes
      (record { standing_is = h.part.standing_is; counted = h.part.counted })) ∙ e

  refused_so : (v : Option Refusal) → refusal_in x z o ≡ v
      → refused_payload x z o ≡ option_map (offence_in z.messages) v
  refused_so v e = ap (option_map (offence_in z.messages)) e

  answered : (new : StreamReader) (result : Result StreamStep ReadRefusal) (v : Option Offence)
      (s : Situation) (event : Option StreamEvent) → refused_payload x z o ≡ v
      → behind_payload x z o ≡ s → completed_payload x z o ≡ event
      → BehindAnswers x s event v new result
      → BehindAnswers x (behind_payload x z o) (completed_payload x z o) (refused_payload x z o) new
      result
  answered new result v s event refused leads completes a =
      subst (λ (v : Option Offence).
      BehindAnswers x (behind_payload x z o) (completed_payload x z o) v new result) (sym refused)
      (subst (λ (s : Situation). BehindAnswers x s (completed_payload x z o) v new result)
      (sym leads)
      (subst (λ (e : Option StreamEvent). BehindAnswers x s e v new result) (sym completes) a))

  -- the part that the decoder has, whatever the stage
  part_at : (d : Decoder) (stage : Stage) → d ≡ r.decoder
      → HasPart d x (record z { stage = stage }) o
  part_at d stage same = record {
    bytes = bytes;
    stands_for = subst (λ (d : Decoder). DecoderStandsFor d z.strings bytes) (sym same)
        h.part.stands_for;
    standing_is = h.part.standing_is;
    counted = h.part.counted;
    within = h.part.within;
  }

  -- there are more to come
  pub behind_more : r.awaited ≡ awaits.Payload here → 0 < here.left
      → BehindAnswers x (behind_payload x z o) (completed_payload x z o) (refused_payload x z o) r
      (Ok steps.More)
  behind_more is some =
      let more : 0 < o.left = omega (arith, left_is, some) in
      let few : length bytes < o.size = let n = h.part.counted in omega (arith, n, more) in
      answered r (Ok steps.More) None (record z { stage = payload_open o }) None
      (refused_so None (open_is None (refusal_before x z o bytes few ∙ unrefused)))
      (more_behind x z o more) (more_completed x z o more) (
        record {
          awaits = is ∙ ap awaits.Payload h.here_is;
          mode = h.mode;
          kind = h.kind;
          messages = h.messages;
          decodes = h.decodes;
          payload = (more, part_at r.decoder (payload_open o) refl);
        },
        refl,
        λ over. cc,
      )

  module _ (none : here.left ≡ 0) where
    none_left : o.left ≡ 0
    none_left = sym left_is ∙ none

    all_there : length bytes ≡ o.size
    all_there = let n = h.part.counted in omega (arith, n, none_left)

    chunked_as : (b : _) → is_chunked_form here.form ≡ b → is_chunked o.form ≡ b
    chunked_as b e =
        sym (form_chunked o.form)
        ∙ ap (λ (n : PayloadLeft). is_chunked_form n.form) (sym h.here_is) ∙ e

    -- there are more chunks
    pub behind_chunk : (new : StreamReader) → is_chunked_form here.form ≡ true
        → new.awaited ≡ awaits.Chunk here → new.mode ≡ r.mode → new.kind ≡ r.kind
        → new.messages ≡ r.messages → new.decoder ≡ r.decoder
        → BehindAnswers x (behind_payload x z o) (completed_payload x z o) (refused_payload x z o)
        new (Ok steps.More)
    behind_chunk new more awaited mode kind messages decoder =
        let is = chunked_as true more in
        let w = chunk_behind x z o none_left is in
        answered new (Ok steps.More) None (record z { stage = chunk_due o }) None
        (refused_so None
        (open_is None (refusal_between x z o bytes (omega (arith, all_there)) is ∙ unrefused)))
        w.0 w.1 (
          record {
            awaits = awaited ∙ ap awaits.Chunk h.here_is;
            mode = mode ∙ h.mode;
            kind = kind ∙ h.kind;
            messages = messages ∙ h.messages;
            decodes = ap decoder_settings decoder ∙ h.decodes;
            payload = (none_left, part_at new.decoder (chunk_due o) decoder);
          },
          refl,
          λ over. cc,
        )

    module _ (last : is_chunked_form here.form ≡ false) (new : StreamReader)
        (same : decoder_settings new.decoder ≡ decoder_settings r.decoder) where
      last_form : is_chunked o.form ≡ false
      last_form = chunked_as false last

      has_all : HasAll o
      has_all = record { none_left = none_left; last = last_form }

      by_end : (v : Option Refusal)
          → ending_at (payload (decoder_settings r.decoder) z.strings) bytes ≡ v
          → refusal_in x z o ≡ v
      by_end v e =
          open_is v
          (refusal_all x z o bytes all_there last_form
          ∙ ap (λ w. option_or w (ending_at (payload_in x z) bytes)) unrefused
          ∙ grammar_is (λ s. ending_at (payload s z.strings) bytes ≡ v) e)

      standing_there : (situation_of (decoder_settings r.decoder) z.strings bytes)
          ≡ o.standing.situation
      standing_there =
          ap (λ (s : PayloadSettings). situation_of s z.strings bytes) h.decodes
          ∙ sym (ap (λ s. s.situation) h.part.standing_is)

      -- it isn't over then
      not_over : (closing : StreamReader) (v : Option StreamEvent)
          → is_over_in (record_due (due_behind o.form)) ≡ true → Recalls closing.closing v
      not_over closing v over = let on = form_on o.form in let bad = sym on ∙ over in cc

      -- they are a document
      pub behind_document : (doc : List Item) (table : LimitedStrings) (number count cost : ℕ)
          → FinishAnswers (decoder_settings r.decoder) z.strings bytes (Ok doc)
          → DecoderStandsFor new.decoder
          (situation_of (decoder_settings r.decoder) z.strings bytes).strings []
          → new.awaited ≡ awaits.Record (due_after here.form) → new.mode ≡ r.mode → new.kind
          ≡ r.kind
          → new.messages ≡ r.messages + 1 → number ≡ r.messages
          → table ≡ table_at new.decoder
          (situation_of (decoder_settings r.decoder) z.strings bytes).strings []
          → count ≡ length table.strings → cost ≡ used_cost table.strings
          → BehindAnswers x (behind_payload x z o) (completed_payload x z o) (refused_payload x z o)
          new (Ok (steps.Message number here.size doc count cost))
      behind_document doc table number count cost ends stands awaited mode kind messages numbered
          table_is counts costs =
          let w = whole_behind x z o has_all (by_end None ends.0) in
          let strings : table.strings ≡ o.standing.situation.strings =
          ap (λ (t : LimitedStrings). t.strings) table_is
          ∙ strings_first (decoder_settings new.decoder)
          (situation_of (decoder_settings r.decoder) z.strings bytes).strings
          ∙ ap (λ s. s.strings) standing_there in
          answered new (Ok (steps.Message number here.size doc count cost)) None
          (behind_whole z o (z.messages + 1)) (Some (message (envelope_of z o)))
          (refused_so None (by_end None ends.0)) w.0 w.1 (
            record {
              awaits =
                  awaited ∙ ap (λ (n : PayloadLeft). awaits.Record (due_after n.form)) h.here_is
                  ∙ ap awaits.Record (form_due o.form);
              mode = mode ∙ h.mode;
              kind = kind ∙ h.kind;
              messages = messages ∙ ap (λ n. n + 1) h.messages;
              decodes = same ∙ h.decodes;
              payload = subst (λ s. DecoderStandsFor new.decoder s.strings []) standing_there
                  stands;
            },
            message_as number z.messages here.size o.size doc o.standing.situation.items count _
                cost _
                (numbered ∙ h.messages) (ap (λ (n : PayloadLeft). n.size) h.here_is) (ends.1 ∙ ap (λ s. s.items) standing_there)
                (counts ∙ ap length strings) (costs ∙ ap used_cost strings),
            not_over new (Some (message (envelope_of z o))),
          )

      -- they are refused, all of them
      pub behind_refused : (fault : DecodeFault) (told : ReadRefusal)
          → FinishAnswers (decoder_settings r.decoder) z.strings bytes (Err fault)
          → DecoderFailedBehind new.decoder fault z.strings bytes
          → told ≡ refusal_told r.messages fault → new.messages ≡ r.messages
          → BehindAnswers x (behind_payload x z o) (completed_payload x z o) (refused_payload x z o)
          new (Err told)
      behind_refused faults.Memory told ends failed is messages = absurd ends
      behind_refused (faults.Payload at reason shown_by) told ends failed is messages =
          let refusal_is = by_end (Some (refusal at reason)) ends.0 in
          let w = refused_behind x z o has_all (refusal at reason) refusal_is in
          subst (λ (t : ReadRefusal).
          BehindAnswers x (behind_payload x z o) (completed_payload x z o) (refused_payload x z o)
          new
          (Err t)) (sym is)
          (answered new (Err (refusal_told r.messages (faults.Payload at reason shown_by)))
          (Some (offence_in z.messages (refusal at reason))) (behind_whole z o z.messages) None
          (refused_so (Some (refusal at reason)) refusal_is) w.0 w.1 (
            ap (λ n. offence_in n (refusal at reason)) h.messages,
            record {
              messages = messages ∙ h.messages;
              strings = record {
                before = z.strings;
                bytes = bytes;
                there = inr (faults.Payload at reason shown_by, failed);
                same =
                    ap (λ (s : PayloadSettings). (situation_of s z.strings bytes).strings) same
                    ∙ ap (λ s. s.strings) standing_there;
                within =
                    subst (λ (s : PayloadSettings).
                    used_cost o.standing.situation.strings ≤ s.limits.dictionary) (sym same)
                    (subst (λ s. used_cost s.strings
                    ≤ (decoder_settings r.decoder).limits.dictionary)
                    standing_there
                    (cost_within (decoder_settings r.decoder) z.strings bytes
                    (stands_as r.decoder z.strings bytes h.part.stands_for).before));
              };
            },
          ))
