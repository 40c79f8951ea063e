use Rattle.std.proofs.Common.{◌≡◌, ℕ, ◌+◌, ◌^◌, ◌<◌, ◌≤◌, min, List, length, take, sym, refl, ap}
use Rattle.std.proofs.Common.{◌∙◌, subst, arith, length-take-le}
use Rattle.std.proofs.lemmas.Result.{err_from_is_err_and}
use Rattle.unit_streams.specs.Grammar.{standing}
use Rattle.nbfx_decoder.specs.declared.decoder.Decoder.{Decoder}
use Rattle.nbfx_decoder.specs.DecoderState.{FailedWithin, settings_of as decoder_settings}
use Rattle.nbfx_decoder.specs.DecoderState.{WhereItStands as WhereDecoderStands}
use Rattle.nbfx_values.specs.Limits.{Limits}
use Rattle.stream_reader.specs.declared.awaited.PayloadLeft.{PayloadLeft}
use Rattle.stream_reader.specs.declared.reader.StreamReader.{StreamReader}
use Rattle.stream_reader.specs.declared.reader.StreamStep.TheVariants.{More}
use Rattle.stream_reader.specs.Stream.{Settings, stream}
use Rattle.stream_reader.specs.StreamReaderState.{failure_of, Reached, settings_of, StandsFor}
use Rattle.stream_reader.proofs.PayloadFeeds.{feed_behind, feed_fails, feed_took, found}
use Rattle.stream_reader.proofs.PayloadFeeds.{has_decoded, more_left, own}
use Rattle.stream_reader.proofs.{PayloadSteps.decoded_as, Situations.messages_within}
use Rattle.stream_reader.proofs.ReaderFacts.{failure_as, same_settings}
use Rattle.stream_reader.specs.declared.awaited.Awaited.TheVariants as awaits
use Rattle.stream_reader.proofs.reader.StreamReader.payload.Goals as goal

-- so many bytes are taken, where there may be some
pub feed-requires : goal.feed-requires
feed-requires c = λ none.
    let n = length-take-le c.min-n.result c.args.bytes.now
    (omega (arith, c.min-n.ensures, c.min-most.ensures)) in
    let may = c.payload_room.ensures.may c.min-n.result (omega (arith, c.if-n-eq0.false))
    (omega (arith, c.min-n.ensures)) in
    let few = may.few none in
    let most = ap (λ (l : Limits). l.payload) c.args.self.now.decodes in omega (arith, n, few, most)

pub returns-in-Err-clause-refused : goal.returns-in-Err-clause-refused
unfolding failure_of
returns-in-Err-clause-refused c = c.refuse_payload.ensures.failure

pub returns-in-Err-clause-settings : goal.returns-in-Err-clause-settings
unfolding settings_of
returns-in-Err-clause-settings c = same_settings c.args.self.now c.refuse_payload.new.self
    c.refuse_payload.ensures.shown.side c.refuse_payload.ensures.shown.statics
    c.refuse_payload.ensures.shown.quotas

pub returns-then-awaits_more-clause-settings : goal.returns-then-awaits_more-clause-settings
returns-then-awaits_more-clause-settings c = same_settings c.args.self.now c.awaits_more.new.self
    c.awaits_more.ensures.keeps.side c.awaits_more.ensures.keeps.statics
    c.awaits_more.ensures.keeps.quotas

pub returns-in_err-step-clause-settings : goal.returns-in_err-step-clause-settings
returns-in_err-step-clause-settings c =
    let then = c.in_err-step.ensures.keeps in
    let first = c.awaits_more.ensures.keeps in
    same_settings c.args.self.now c.behind_last.new.self (then.side ∙ first.side)
    (then.statics ∙ first.statics) (then.quotas ∙ first.quotas)

pub returns-clause-settings : goal.returns-clause-settings
returns-clause-settings c =
    let then = c.in_ok-step.ensures.keeps in
    let first = c.awaits_more.ensures.keeps in
    same_settings c.args.self.now c.behind_last.new.self (then.side ∙ first.side)
    (then.statics ∙ first.statics) (then.quotas ∙ first.quotas)

-- what is known before the bytes are fed
session_is : (r : StreamReader) → (settings_of r).limits.session ≡ r.quotas.session
unfolding settings_of
session_is r = refl

payload_is : (r : StreamReader) → (settings_of r).limits.payload ≡ r.quotas.payload
unfolding settings_of
payload_is r = refl

few_messages : (r : StreamReader) (p : List ℕ) → Reached r (settings_of r) p
    → (standing (stream (settings_of r)) p).situation.messages + 1 < 2 ^ 64
few_messages r p h = let m = messages_within (settings_of r) p in let most =
    r.quotas.good.session_most in let session = session_is r in omega
    (arith, m, h.within, most, session)

pub returns-in-Err-clause-answers : goal.returns-in-Err-clause-answers
unfolding StandsFor
returns-in-Err-clause-answers c = λ p h.
    let r : StreamReader = c.args.self.now in
    let x : Settings = settings_of c.args.self.now in
    let n : ℕ = c.min-n.result in
    let own_is = own r x p h c.args.payload c.requires.awaited in
    let decoder = sym c.refuse_payload.ensures.shown.decoder in
    let session = session_is r in
    feed_fails r x p h c.args.payload c.requires.awaited c.args.bytes.now n
    (omega (arith, c.min-n.ensures, c.min-most.ensures))
    (omega (arith, c.min-n.ensures, c.min-most.ensures))
    (omega (arith, c.min-n.ensures, c.min-most.ensures, c.requires.fits, h.taken, session))
    c.refuse_payload.new.self
    c.refuse_payload.result
    (subst (λ (d : Decoder). decoder_settings d ≡ decoder_settings r.decoder) decoder
    c.in-Err.ensures.settings) c.refuse_payload.ensures.failure
    c.refuse_payload.ensures.shown.frames c.refuse_payload.ensures.shown.messages
    c.in-Err.fault (c.in-Err.ensures.answers _ own_is.bytes own_is.stands_for)
    (subst (λ (d : Decoder). FailedWithin d c.in-Err.fault (standing (stream x) p).situation.strings
    own_is.bytes (take n c.args.bytes.now)) decoder
    (c.in-Err.ensures.failed _ own_is.bytes own_is.stands_for)) c.refuse_payload.ensures.told
    (let most = r.quotas.good.session_most in omega (
      arith,
      c.refuse_payload.ensures.taken,
      c.saturating_add-self.ensures,
      c.more_shown.ensures,
      c.more_shown.type_inv,
      h.taken,
      h.within,
      session,
      most,
    ))

-- how many bytes are taken
module _ (r : StreamReader) (left : PayloadLeft) (is : r.awaited ≡ awaits.Payload left) (c : List ℕ)
    (most room n : ℕ) (up_to : most ≡ min (length c) left.left) (least : n ≡ min most room)
    (some : 0 < length c) (fits : r.taken + length c ≤ r.quotas.session) where
  some_read : WhereDecoderStands r.decoder (λ strings bytes. r.quotas.payload ≤ length bytes + room)
      → (p : List ℕ) → Reached r (settings_of r) p → 0 < n
  some_read all p h =
      let o = found r (settings_of r) p h left is in
      let more = more_left r (settings_of r) p h left is in
      let part = own r (settings_of r) p h left is in
      let same = ap (λ (n : PayloadLeft). n.left) o.2 in
      let low = part.within in
      let counted = part.counted in
      let enough = all _ part.bytes part.stands_for in
      let payload = payload_is r in
      omega (arith, least, up_to, some, same, more, low, counted, enough, payload)

  within : n ≤ length c
  within = omega (arith, least, up_to)

  few : n ≤ left.left
  few = omega (arith, least, up_to)

  short : (p : List ℕ) → Reached r (settings_of r) p → length p + n ≤ (settings_of r).limits.session
  short p h =
      let session = session_is r in omega (arith, least, up_to, fits, h.taken, session)

pub returns-then-n-eq0-clause-answers : goal.returns-then-n-eq0-clause-answers
unfolding StandsFor
returns-then-n-eq0-clause-answers c = λ p h.
    let some = some_read c.args.self.now c.args.payload c.requires.awaited c.args.bytes.now
    c.min-most.result c.payload_room.result c.min-n.result c.min-most.ensures c.min-n.ensures
    c.requires.some c.requires.fits c.payload_room.ensures.all p h in
    absurd (omega (arith, some, c.if-n-eq0.true))

pub returns-then-awaits_more-clause-answers : goal.returns-then-awaits_more-clause-answers
unfolding StandsFor
returns-then-awaits_more-clause-answers c = λ p h.
    let r : StreamReader = c.args.self.now in
    let x : Settings = settings_of c.args.self.now in
    let n : ℕ = c.min-n.result in
    let left : PayloadLeft = c.args.payload in
    let bytes : List ℕ = c.args.bytes.now in
    let own_is = own r x p h left c.requires.awaited in
    let few_bytes = few r left c.requires.awaited bytes _ _ n c.min-most.ensures c.min-n.ensures
    c.requires.some c.requires.fits in
    let within_bytes = within r left c.requires.awaited bytes _ _ n c.min-most.ensures
    c.min-n.ensures c.requires.some c.requires.fits in
    let short_of = short r left c.requires.awaited bytes _ _ n c.min-most.ensures c.min-n.ensures
    c.requires.some c.requires.fits p h in
    let some : 0 < n = omega (arith, c.if-n-eq0.false) in
    let decoded = has_decoded r x p h left c.requires.awaited bytes n within_bytes few_bytes
    short_of _ _ refl refl refl refl c.in_default.ensures.settings
    (c.in_default.ensures.stands _ own_is.bytes own_is.stands_for) (few_messages r p h) in
    feed_took r x p h left c.requires.awaited bytes n within_bytes few_bytes short_of some
    (c.in_default.ensures.answers _ own_is.bytes own_is.stands_for) c.awaits_more.new.self
    More (c.awaits_more.ensures.answers c.if-awaits_more.true x _ _ decoded)
    c.awaits_more.ensures.keeps.frames c.awaits_more.ensures.keeps.taken
    c.awaits_more.ensures.unit_from c.awaits_more.ensures.unfailed

pub returns-in_err-step-clause-answers : goal.returns-in_err-step-clause-answers
unfolding StandsFor
returns-in_err-step-clause-answers c = λ p h.
    let r : StreamReader = c.args.self.now in
    let x : Settings = settings_of c.args.self.now in
    let n : ℕ = c.min-n.result in
    let left : PayloadLeft = c.args.payload in
    let bytes : List ℕ = c.args.bytes.now in
    let own_is = own r x p h left c.requires.awaited in
    let few_bytes = few r left c.requires.awaited bytes _ _ n c.min-most.ensures c.min-n.ensures
    c.requires.some c.requires.fits in
    let within_bytes = within r left c.requires.awaited bytes _ _ n c.min-most.ensures
    c.min-n.ensures c.requires.some c.requires.fits in
    let short_of = short r left c.requires.awaited bytes _ _ n c.min-most.ensures c.min-n.ensures
    c.requires.some c.requires.fits p h in
    let some : 0 < n = omega (arith, c.if-n-eq0.false) in
    let decoded = has_decoded r x p h left c.requires.awaited bytes n within_bytes few_bytes
    short_of _ _ refl refl refl refl c.in_default.ensures.settings
    (c.in_default.ensures.stands _ own_is.bytes own_is.stands_for) (few_messages r p h) in
    let told = err_from_is_err_and c.from_residual.result c.from_residual.ensures.1 in
    let first = c.awaits_more.ensures.keeps in
    let then = c.in_err-step.ensures.keeps in
    let here = decoded_as (c.awaits_more.ensures.unchanged c.if-awaits_more.false) decoded in
    rw (told.1, told.2)
    (feed_behind r x p h left c.requires.awaited bytes n within_bytes few_bytes short_of some
    (c.in_default.ensures.answers _ own_is.bytes own_is.stands_for) c.behind_last.new.self
    c.in_err-step.field-0.0 (c.in_err-step.ensures.answers x _ _ here)
    (then.frames ∙ first.frames) (then.taken ∙ first.taken)
    (failure_as _ _ c.in_err-step.ensures.refused))

pub returns-clause-answers : goal.returns-clause-answers
unfolding StandsFor
returns-clause-answers c = λ p h.
    let r : StreamReader = c.args.self.now in
    let x : Settings = settings_of c.args.self.now in
    let n : ℕ = c.min-n.result in
    let left : PayloadLeft = c.args.payload in
    let bytes : List ℕ = c.args.bytes.now in
    let own_is = own r x p h left c.requires.awaited in
    let few_bytes = few r left c.requires.awaited bytes _ _ n c.min-most.ensures c.min-n.ensures
    c.requires.some c.requires.fits in
    let within_bytes = within r left c.requires.awaited bytes _ _ n c.min-most.ensures
    c.min-n.ensures c.requires.some c.requires.fits in
    let short_of = short r left c.requires.awaited bytes _ _ n c.min-most.ensures c.min-n.ensures
    c.requires.some c.requires.fits p h in
    let some : 0 < n = omega (arith, c.if-n-eq0.false) in
    let decoded = has_decoded r x p h left c.requires.awaited bytes n within_bytes few_bytes
    short_of _ _ refl refl refl refl c.in_default.ensures.settings
    (c.in_default.ensures.stands _ own_is.bytes own_is.stands_for) (few_messages r p h) in
    let first = c.awaits_more.ensures.keeps in
    let then = c.in_ok-step.ensures.keeps in
    let here = decoded_as (c.awaits_more.ensures.unchanged c.if-awaits_more.false) decoded in
    feed_took r x p h left c.requires.awaited bytes n within_bytes few_bytes short_of some
    (c.in_default.ensures.answers _ own_is.bytes own_is.stands_for) c.behind_last.new.self
    c.in_ok-step.step (c.in_ok-step.ensures.answers x _ _ here)
    (then.frames ∙ first.frames) (then.taken ∙ first.taken)
    (c.in_ok-step.ensures.unit_from ∙ c.awaits_more.ensures.unit_from)
    (c.in_ok-step.ensures.unfailed ∙ c.awaits_more.ensures.unfailed)
