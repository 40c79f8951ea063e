use Rattle.std.proofs.Common.{◌≡◌, ℕ, ◌+◌, List, ◌++◌, length, Ok, Err, sym, refl, ap, ◌∙◌}
use Rattle.std.proofs.{Common.subst, Common.arith}
use Rattle.unit_streams.specs.Grammar.{standing}
use Rattle.nbfx_decoder.specs.declared.decoder.Decoder.{Decoder}
use Rattle.nbfx_decoder.specs.DecoderState.{FailedWithin, FeedAnswers}
use Rattle.nbfx_decoder.specs.DecoderState.{settings_of as decoder_settings}
use Rattle.nbfx_decoder.specs.DecoderState.{StandsFor as DecoderStandsFor}
use Rattle.stream_reader.specs.{declared.reader.StreamReader.StreamReader, Stepping.UnitAnswers}
use Rattle.stream_reader.specs.{Runs.place_in as place_of, Stream.Settings, Stream.stream}
use Rattle.stream_reader.specs.StreamReaderState.{failure_of, settings_of, StandsFor}
use Rattle.nbfx_values.specs.Limits.{Limits}
use Rattle.stream_reader.proofs.{ReaderFacts.same_settings, RunFacts.some_run}
use Rattle.stream_reader.proofs.RunFeeds.{chunk_part, chunk_size, run_fails, run_took}
use Rattle.stream_reader.proofs.reader.StreamReader.joined_chunks.Goals as goal

pub feed-requires : goal.feed-requires
feed-requires c = λ none.
    let few = c.requires.room.few none in
    let most = ap (λ (l : Limits). l.payload) c.args.self.now.decodes in omega (arith, few, most)

pub returns-in-Err-clause-refused : goal.returns-in-Err-clause-refused
unfolding failure_of
returns-in-Err-clause-refused c = c.refuse_payload.ensures.failure

pub returns-in-Err-clause-settings : goal.returns-in-Err-clause-settings
unfolding settings_of
returns-in-Err-clause-settings c = same_settings c.args.self.now c.refuse_payload.new.self
    c.refuse_payload.ensures.shown.side c.refuse_payload.ensures.shown.statics
    c.refuse_payload.ensures.shown.quotas

pub returns-clause-settings : goal.returns-clause-settings
unfolding settings_of
returns-clause-settings c = refl

-- what its quotas are
session_is : (r : StreamReader) → (settings_of r).limits.session ≡ r.quotas.session
unfolding settings_of
session_is r = refl

payload_is : (r : StreamReader) → (settings_of r).limits.payload ≡ r.quotas.payload
unfolding settings_of
payload_is r = refl

pub returns-in-Err-clause-answers : goal.returns-in-Err-clause-answers
unfolding StandsFor
returns-in-Err-clause-answers c = λ p h.
    let r : StreamReader = c.args.self.now in
    let x : Settings = settings_of c.args.self.now in
    let run = c.requires.joined in
    let part = chunk_part r x p h c.args.payload c.requires.awaited c.requires.between in
    let decoder = sym c.refuse_payload.ensures.shown.decoder in
    let session = session_is r in
    let quota = payload_is r in
    let content_size = ap length run.content_is in
    let run_size = ap length run.run_is in
    let fits = c.requires.room.behind _ part.bytes part.stands_for in
    let sized = chunk_size r x p h c.args.payload c.requires.awaited c.requires.between in
    subst (λ (bytes : List ℕ). UnitAnswers x p bytes c.refuse_payload.new.self
    (Err c.refuse_payload.result)) (sym run.run_is)
    (run_fails r x p h c.args.payload c.requires.awaited c.requires.between run.contents run.short
    (omega (arith, fits, sized, quota, content_size))
    (omega (arith, c.requires.fits, h.taken, session, run_size)) c.refuse_payload.new.self
    c.refuse_payload.result
    (subst (λ (d : Decoder). decoder_settings d ≡ decoder_settings r.decoder) decoder
    c.in-Err.ensures.settings) c.refuse_payload.ensures.failure
    c.refuse_payload.ensures.shown.frames c.refuse_payload.ensures.shown.messages c.in-Err.fault
    (subst (λ (b : List ℕ). FeedAnswers (decoder_settings r.decoder)
    (standing (stream x) p).situation.strings part.bytes b (Err c.in-Err.fault)) run.content_is
    (c.in-Err.ensures.answers _ part.bytes part.stands_for))
    (subst (λ (b : List ℕ). FailedWithin c.refuse_payload.new.self.decoder c.in-Err.fault
    (standing (stream x) p).situation.strings part.bytes b) run.content_is
    (subst (λ (d : Decoder). FailedWithin d c.in-Err.fault (standing (stream x) p).situation.strings
    part.bytes c.args.content.now) decoder
    (c.in-Err.ensures.failed _ part.bytes part.stands_for))) c.refuse_payload.ensures.told
    (λ few place_few.
    let most = r.quotas.good.session_most in
    let place = c.place_in-shown.ensures run.contents run.run_is
    (omega (arith, few, c.more_shown.ensures)) in
    let shown = ap (λ n. place_of run.contents n) c.more_shown.ensures in
    omega (
      arith,
      c.refuse_payload.ensures.taken,
      c.saturating_add-self.ensures,
      place,
      shown,
      place_few,
      run_size,
      c.requires.fits,
      most,
    )))

pub returns-clause-answers : goal.returns-clause-answers
unfolding StandsFor
returns-clause-answers c = λ p h.
    let r : StreamReader = c.args.self.now in
    let x : Settings = settings_of c.args.self.now in
    let run = c.requires.joined in
    let part = chunk_part r x p h c.args.payload c.requires.awaited c.requires.between in
    let session = session_is r in
    let quota = payload_is r in
    let small = c.args.self.now.quotas.good.payload_most in
    let content_size = ap length run.content_is in
    let run_size = ap length run.run_is in
    let fits = c.requires.room.behind _ part.bytes part.stands_for in
    let sized = chunk_size r x p h c.args.payload c.requires.awaited c.requires.between in
    run_took r x p h c.args.payload c.requires.awaited c.requires.between run.contents run.short
    (omega (arith, fits, sized, quota, content_size))
    (omega (arith, c.requires.fits, h.taken, session, run_size))
    (some_run run.contents (omega (arith, c.requires.some, content_size)))
    (subst (λ (b : List ℕ). FeedAnswers (decoder_settings r.decoder)
    (standing (stream x) p).situation.strings part.bytes b (Ok tt)) run.content_is
    (c.in_default.ensures.answers _ part.bytes part.stands_for)) _ c.with_more.result refl
    (c.with_more.ensures (omega (arith, fits, sized, small))
    ∙ ap (λ n. record c.args.payload { size = c.args.payload.size + n }) content_size)
    refl refl refl refl c.in_default.ensures.settings
    (subst (λ (b : List ℕ). DecoderStandsFor c.feed.new.self
    (standing (stream x) p).situation.strings (part.bytes ++ b)) run.content_is
    (c.in_default.ensures.stands _ part.bytes part.stands_for))
    (ap (λ n. r.taken + n) run_size) (ap (λ n. r.taken + n) run_size) refl c.args.chunks.now
    run.run_is
