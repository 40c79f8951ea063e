-- What a reader shows that has failed by its decoder.
use Rattle.std.proofs.Common.{◌≡◌, ℕ, zero, suc, ◌<◌, ◌≤◌, List, ◌++◌, take, Some, None, sym, ap}
use Rattle.std.proofs.Common.{◌∙◌, subst, inr, append-nil, arith}
use Rattle.unit_streams.proofs.Pending.{pending_unrefused}
use Rattle.unit_streams.specs.{Grammar.standing, Judging.refusal_at}
use Rattle.{string_tables.specs.SessionStrings.used_cost, nbfx_decoder.proofs.StandsFacts.stands_as}
use Rattle.nmf_records.specs.declared.reader.FrameReader.{FrameReader}
use Rattle.nmf_records.specs.Reader.{ShowsText as FramesShowText}
use Rattle.nmf_records.specs.RecordFronts.{via_or_fault}
use Rattle.nbfx_decoder.specs.declared.{decoder.Decoder.Decoder, faults.DecodeFault.DecodeFault}
use Rattle.nbfx_decoder.specs.DecoderState.{FailedBehind as DecoderFailedBehind}
use Rattle.nbfx_decoder.specs.DecoderState.{settings_of as decoder_settings, situation_of}
use Rattle.nbfx_decoder.specs.DecoderState.{StandsFor as DecoderStandsFor}
use Rattle.nbfx_decoder.specs.Payload.{payload, Refusal, Settings as PayloadSettings}
use Rattle.stream_reader.specs.declared.reader.{ReadRefusal.ReadRefusal, StreamReader.StreamReader}
use Rattle.stream_reader.specs.Stream.{payloads, Settings, Situation, stream, strings_in}
use Rattle.stream_reader.specs.StreamReaderState.{Failed, failure_of, messages_of, Reached}
use Rattle.stream_reader.specs.StreamReaderState.{ShowsStrings, ShowsTable, ShowsText, taken_of}
use Rattle.stream_reader.proofs.ReaderFacts.{cost_within}

-- q shows what p does, but for the strings of these bytes of its payload
pub record StaysWith (x : Settings) (p q bytes : List ℕ) : Type 0 where
  pub text : (standing (stream x) q).situation.text ≡ (standing (stream x) p).situation.text
  pub messages : (standing (stream x) q).situation.messages
      ≡ (standing (stream x) p).situation.messages
  pub strings : strings_in (standing (stream x) q).situation
      ≡ (situation_of (payloads x (standing (stream x) p).situation.kind)
      (standing (stream x) p).situation.strings bytes).strings

-- of bytes that a decoder stands for none is refused, so that one more is
pub some_refused : (g : PayloadSettings) (strings : List (List ℕ)) (bytes c : List ℕ)
    → refusal_at (payload g strings) bytes ≡ None → (k : ℕ) (why : Refusal)
    → refusal_at (payload g strings) (bytes ++ take k c) ≡ Some why → 0 < k
some_refused g strings bytes c none zero why e =
    let same = ap (refusal_at (payload g strings)) (append-nil bytes) in
    let bad = sym none ∙ sym same ∙ e in cc
some_refused g strings bytes c none (suc k) why e = omega arith

module _ (r : StreamReader) (x : Settings) (p : List ℕ) (h : Reached r x p) (bytes : List ℕ)
    (stands : DecoderStandsFor r.decoder (standing (stream x) p).situation.strings bytes) where
  abbrev z : Situation
  z = (standing (stream x) p).situation

  pub same_grammar : (A : PayloadSettings → Type 0) → A (decoder_settings r.decoder)
      → A (payloads x (standing (stream x) p).situation.kind)
  same_grammar A a = subst A h.at.decodes a

  pub unrefused_so : refusal_at (payload (decoder_settings r.decoder)
      (standing (stream x) p).situation.strings) bytes ≡ None
  unrefused_so =
      pending_unrefused (payload (decoder_settings r.decoder) z.strings) bytes
      (stands_as r.decoder z.strings bytes stands).pending

  -- what a decoder shows that has failed behind some
  shows_failed : (d : Decoder) (fault : DecodeFault) (b : List ℕ)
      → decoder_settings d ≡ decoder_settings r.decoder
      → DecoderFailedBehind d fault z.strings b
      → ShowsTable d (situation_of (payloads x z.kind) z.strings b).strings
  shows_failed d fault b same failed =
      let is_set : decoder_settings d ≡ payloads x z.kind = same ∙ h.at.decodes in
      record {
        before = z.strings;
        bytes = b;
        there = inr (fault, failed);
        same = ap (λ (s : PayloadSettings). (situation_of s z.strings b).strings) is_set;
        within =
            subst (λ (s : PayloadSettings). used_cost
            (situation_of (payloads x z.kind) z.strings b).strings ≤ s.limits.dictionary)
            (sym is_set)
            (cost_within (payloads x z.kind) z.strings b
            (same_grammar (λ s. used_cost z.strings ≤ s.limits.dictionary)
            (stands_as r.decoder z.strings bytes stands).before));
      }

  pub failed_with : (new : StreamReader) (told : ReadRefusal) → decoder_settings new.decoder
      ≡ decoder_settings r.decoder → new.failure ≡ Some told → new.frames ≡ r.frames
      → new.messages ≡ r.messages → (fault : DecodeFault) (count : ℕ) (q b : List ℕ)
      → new.taken ≡ count → StaysWith x p q b
      → DecoderFailedBehind new.decoder fault (standing (stream x) p).situation.strings b
      → Failed new x told count q
  unfolding failure_of taken_of messages_of ShowsText ShowsStrings
  failed_with new told same failure frames messages fault count q b taken stays failed = record {
    failure = failure;
    taken_is = taken;
    text = subst (λ (f : FrameReader). FramesShowText via_or_fault f (standing
        (stream x) q).situation.text)
        (sym frames) (subst (FramesShowText via_or_fault r.frames) (sym stays.text) h.text);
    messages = messages ∙ h.at.messages ∙ sym stays.messages;
    strings = subst (ShowsTable new.decoder) (sym stays.strings)
        (shows_failed new.decoder fault b same failed);
  }
