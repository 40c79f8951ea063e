use Rattle.std.proofs.Common.{◌≡◌, ℕ, ◌+◌, ◌≤◌, ◌⊎◌, List, length, ap, ◌∙◌, inl, inr, arith}
use Rattle.nbfx_values.specs.{declared.limits.Kept.Kept, Limits.Limits, Measures.content_of}
use Rattle.nmf_records.specs.declared.reader.TheConstants.{CONTENT_TYPE_LIMIT}
use Rattle.nmf_records.specs.{Reader.limits_of as text_limits_of, RecordFronts.TextLimits}
use Rattle.stream_reader.specs.declared.reader.StreamReader.{StreamReader}
use Rattle.nbfx_decoder.specs.declared.{decoder.Decoder.Decoder, faults.DecodeFault.DecodeFault}
use Rattle.nbfx_decoder.specs.DecoderState.{FailedBehind as DecoderFailedBehind}
use Rattle.nbfx_decoder.specs.DecoderState.{settings_of as decoder_settings}
use Rattle.nbfx_decoder.specs.DecoderState.{StandsFor as DecoderStandsFor}
use Rattle.nbfx_decoder.specs.DecoderState.{WhereItFailed as WhereDecoderFailed}
use Rattle.nbfx_decoder.specs.DecoderState.{WhereItStands as WhereDecoderStands}
use Rattle.stream_reader.specs.StreamReaderState.{FailedBehind, held_of, settings_of, ShowsStrings}
use Rattle.stream_reader.specs.StreamReaderState.{ShowsTable, StandsFor, texts_within}
use Rattle.stream_reader.proofs.ReaderFacts.{comes_in, shows_in}
use Rattle.stream_reader.proofs.reader.StreamReader.kept.Goals.{After-saturating_add}
use Rattle.stream_reader.proofs.reader.StreamReader.kept.Goals as goal

-- how long its texts may be
text_limit_is : (r : StreamReader) → (text_limits_of r.frames).text ≡ r.quotas.via
text_limit_is r = ap (λ (l : TextLimits). l.text) r.limits

type_limit_is : (r : StreamReader) → (text_limits_of r.frames).content_type ≡ CONTENT_TYPE_LIMIT
type_limit_is r = ap (λ (l : TextLimits). l.content_type) r.limits

pub returns-clause-raw : goal.returns-clause-raw
unfolding StandsFor settings_of
returns-clause-raw c = λ p h.
    let come = comes_in c.args.self.now _ _ h.at in
    let raw = c.kept-payload.ensures.raw come.before come.bytes come.stands_for in
    omega (
      arith,
      raw,
      ap length come.begun,
      c.saturating_add.ensures,
      c.held.ensures.within,
      text_limit_is c.args.self.now,
      type_limit_is c.args.self.now,
    )

pub returns-clause-content : goal.returns-clause-content
unfolding StandsFor
returns-clause-content c = λ p h.
    let come = comes_in c.args.self.now _ _ h.at in
    c.kept-payload.ensures.content come.before come.bytes come.stands_for ∙ ap content_of come.items

-- what a decoder keeps
kept_within : (d : Decoder) (kept : Kept) → WhereDecoderStands d
    (λ before bytes. (kept.raw ≤ (decoder_settings d).limits.payload)
    × (kept.content ≤ (decoder_settings d).limits.content))
    → WhereDecoderFailed d (λ fault before bytes. kept ≡ record { raw = 0; content = 0 })
    → (strings : List (List ℕ)) → ShowsTable d strings
    → (kept.raw ≤ (decoder_settings d).limits.payload)
    × (kept.content ≤ (decoder_settings d).limits.content)
kept_within d kept stands failed strings h = by_there h.there where
  by_there : DecoderStandsFor d h.before h.bytes
      ⊎ ((fault : DecodeFault) × DecoderFailedBehind d fault h.before h.bytes)
      → (kept.raw ≤ (decoder_settings d).limits.payload)
      × (kept.content ≤ (decoder_settings d).limits.content)
  by_there (inl s) = stands h.before h.bytes s
  by_there (inr f) =
      let none = failed f.0 h.before h.bytes f.1 in
      let raw = ap (λ (k : Kept). k.raw) none in
      let content = ap (λ (k : Kept). k.content) none in
      (omega (arith, raw), omega (arith, content))

module _ (c : After-saturating_add) where
  shown_within : (strings : List (List ℕ)) → ShowsStrings c.args.self.now strings
      → (c.saturating_add.result ≤ (settings_of c.args.self.now).limits.payload
      + texts_within (settings_of c.args.self.now).limits)
      × (c.kept-payload.result.content ≤ (settings_of c.args.self.now).limits.content)
  unfolding ShowsStrings settings_of
  shown_within strings h =
      let within = kept_within c.args.self.now.decoder c.kept-payload.result
      c.kept-payload.ensures.within c.kept-payload.ensures.failed strings h in (
        omega (
          arith,
          within.0,
          ap (λ (l : Limits). l.payload) c.args.self.now.decodes,
          c.saturating_add.ensures,
          c.held.ensures.within,
          text_limit_is c.args.self.now,
          type_limit_is c.args.self.now,
        ),
        omega (arith, within.1, ap (λ (l : Limits). l.content) c.args.self.now.decodes),
      )

pub returns-clause-within : goal.returns-clause-within
unfolding StandsFor ShowsStrings
returns-clause-within c = λ p h. shown_within c _ (shows_in c.args.self.now _ _ h.at)

pub returns-clause-failed : goal.returns-clause-failed
unfolding FailedBehind
returns-clause-failed c = λ refusal taken p h. shown_within c _ h.strings

pub returns-clause-held : goal.returns-clause-held
unfolding held_of
returns-clause-held c =
    let few = c.kept-payload.ensures.few in
    let payload = c.kept-payload.ensures.held in
    let text = c.held.ensures.counted in
    let within = c.held.ensures.within in
    omega (
      arith,
      few,
      payload,
      text,
      within,
      text_limit_is c.args.self.now,
      type_limit_is c.args.self.now,
      c.args.self.now.quotas.good.via_most,
      c.saturating_add.ensures,
    )
