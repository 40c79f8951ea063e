use Rattle.std.proofs.Common.{◌≡◌, ℕ, ◌^◌, ◌<◌, List, Some, None, Ok, Err, Option, Result}
use Rattle.std.proofs.Common.{sym}
use Rattle.std.proofs.{Common.refl, Common.◌∙◌, Common.subst, Common.arith}
use Rattle.nbfx_values.specs.declared.{refusals.Reason.Reason, session.Kind.Kind}
use Rattle.{nbfx_values.specs.QuotasOf.limits_of}
use Rattle.nmf_records.specs.{declared.frame.Frame.Frame}
use Rattle.stream_reader.specs.{declared.awaited.PayloadLeft.PayloadLeft, Sides.side_of}
use Rattle.stream_reader.specs.declared.reader.{ReadRefusal.ReadRefusal, StreamStep.StreamStep}
use Rattle.stream_reader.specs.{declared.reader.StreamReader.StreamReader}
use Rattle.stream_reader.specs.Stepping.{IsDue, MakesPayload, RecordAnswers}
use Rattle.stream_reader.specs.Stream.{payloads, Settings, Situation}
use Rattle.stream_reader.specs.StreamReaderState.{failure_of, settings_of}
use Rattle.stream_reader.proofs.Behind.{bare_answers, behind_refusal, made_answers, made_decoded}
use Rattle.stream_reader.proofs.Behind.{made_none, made_some, no_payload}
use Rattle.stream_reader.proofs.reader.StreamReader.behind.Goals as goal

-- what it is set to
side_is : (r : StreamReader) → side_of r.side ≡ (settings_of r).side
unfolding settings_of
side_is r = refl

payloads_are : (r : StreamReader) (kind : Kind)
    → record { statics = r.statics.now; kind = kind; limits = limits_of r.quotas }
    ≡ payloads (settings_of r) kind
unfolding settings_of
payloads_are r kind = refl

low : (r : StreamReader) → (settings_of r).limits.payload < 2 ^ 32
unfolding settings_of
low r = let most = r.quotas.good.payload_most in omega (arith, most)

-- whichever record it is
for_read : (r : StreamReader) (z : Situation) (text : List ℕ) (frame read : Frame)
    (new : StreamReader) (result : Result StreamStep ReadRefusal) → frame ≡ read
    → IsDue r (settings_of r) z read text
    → (IsDue r (settings_of r) z frame text → RecordAnswers r z frame text new result)
    → RecordAnswers r z read text new result
for_read r z text frame read new result same h answers =
    subst (λ (f : Frame). RecordAnswers r z f text new result) same
    (answers (subst (λ (f : Frame). IsDue r (settings_of r) z f text) (sym same) h))

pub returns-in-Some-clause-answers : goal.returns-in-Some-clause-answers
returns-in-Some-clause-answers c = λ read z text same here.
    for_read c.args.self.now z text c.args.frame read c.refuse.new.self
    (Err c.refuse.result) same here (λ h.
    let r : StreamReader = c.args.self.now in
    let x : Settings = settings_of c.args.self.now in
    let why = sym (c.reason_in.ensures z.stage text h.at.awaits h.shown) ∙ c.in-Some.is in
    behind_refusal r x z c.args.frame text h r.unit_from r.taken c.refuse.new.self c.refuse.result
    c.in-Some.reason why c.refuse.ensures.offence c.refuse.ensures.shown.messages
    c.refuse.ensures.shown.decoder)

-- where there is no reason
no_reason : (told : Option Reason) → ((reason : Reason) → told ≡ Some reason → ⊥) → told ≡ None
no_reason None never = refl
no_reason (Some reason) never = absurd (never reason refl)

no_made : (made : Option PayloadLeft) → ((q : PayloadLeft) → made ≡ Some q → ⊥) → made ≡ None
no_made None never = refl
no_made (Some q) never = absurd (never q refl)

pub returns-in-Some-made-clause-answers : goal.returns-in-Some-made-clause-answers
returns-in-Some-made-clause-answers c = λ read z text same here.
    for_read c.args.self.now z text c.args.frame read c.behind_payload.new.self
    c.behind_payload.result same here (λ h.
    let r : StreamReader = c.args.self.now in
    let x : Settings = settings_of c.args.self.now in
    let good = sym (c.reason_in.ensures z.stage text h.at.awaits h.shown)
    ∙ no_reason c.reason_in.result c.in_default.not-Some in
    let makes = subst (MakesPayload r.awaited r.unit_from c.args.frame) c.in-Some-made.is
    c.payload_by-made.ensures in
    let m = made_some r x z c.args.frame text h r.unit_from r.taken c.in-Some-made.payload makes
    good
    (low r) in
    made_answers r x z c.args.frame text h r.unit_from r.taken c.behind_payload.new.self
    c.in-Some-made.payload m c.behind_payload.result good
    (c.behind_payload.ensures.answers x z m.payload
    (made_decoded r x z c.args.frame text h r.unit_from r.taken _ c.in-Some-made.payload m
    refl refl refl refl)))

pub returns-clause-answers : goal.returns-clause-answers
returns-clause-answers c = λ read z text same here.
    for_read c.args.self.now z text c.args.frame read c.after_bare_record.new.self
    (Ok c.after_bare_record.result) same here (λ h.
    let r : StreamReader = c.args.self.now in
    let x : Settings = settings_of c.args.self.now in
    let good = sym (c.reason_in.ensures z.stage text h.at.awaits h.shown)
    ∙ no_reason c.reason_in.result c.in_default.not-Some in
    let makes = subst (MakesPayload r.awaited r.unit_from c.args.frame)
    (no_made c.payload_by-made.result c.in_default-made.not-Some) c.payload_by-made.ensures in
    let none = made_none r x z c.args.frame text h r.unit_from r.taken makes in
    bare_answers r x z c.args.frame text h r.unit_from r.taken _
    (record {
      side = refl;
      awaited = refl;
      mode = refl;
      kind = refl;
      messages = refl;
      taken = refl;
      frames = refl;
      decoder = refl;
    }) (side_is r) refl (payloads_are r)
    (no_payload r x z c.args.frame text h r.unit_from r.taken none) c.after_bare_record.new.self
    c.after_bare_record.result c.after_bare_record.ensures.moves good none)

pub returns-in-Some-clause-refused : goal.returns-in-Some-clause-refused
unfolding failure_of
returns-in-Some-clause-refused c = c.refuse.ensures.failure
