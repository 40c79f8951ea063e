use Rattle.std.proofs.Common.{◌≡◌, false, [], sym, refl, ap, ◌∙◌, arith}
use Rattle.unit_streams.specs.{Grammar.Standing, Judging.is_over_at}
use Rattle.nbfx_values.specs.{declared.refusals.Offence.Offence, QuotasOf.limits_of}
use Rattle.nmf_records.specs.{RecordFronts.content_type, RecordFronts.via_or_fault, Script.first}
use Rattle.stream_reader.specs.{Sides.side_of, Stream.stream, Stream.StreamEvent}
use Rattle.stream_reader.specs.Stream.{beginning, payloads, Settings, Situation}
use Rattle.stream_reader.specs.StreamReaderState.{settings_of, StandsFor}
use Rattle.stream_reader.proofs.{Ending.first_on}
use Rattle.stream_reader.proofs.{Grammar.readable, ReaderFacts.stands_first}
use Rattle.stream_reader.specs.declared.awaited.Awaited.TheVariants as awaits
use Rattle.stream_reader.proofs.reader.StreamReader.new.Goals as goal

-- no stream is over before its first byte
not_over : (x : Settings) → is_over_at (stream x) [] ≡ false
unfolding is_over_at
not_over x =
    ap (λ (s : Standing Situation StreamEvent Offence). (stream x).is_over s.situation)
    (stands_first x)
    ∙ first_on x.side

pub returns-clause-stands : goal.returns-clause-stands
unfolding StandsFor settings_of
returns-clause-stands c =
    let x : Settings = record {
      side = side_of c.args.side;
      statics = c.args.statics.now;
      limits = limits_of c.args.quotas;
    } in
    let e = stands_first x in
    let decoder = c.new-2.ensures in
    let due = c.first.ensures ∙ ap first c.direction.ensures in
    record {
      at = rw e (record {
        awaits = ap awaits.Record due;
        mode = c.mode.ensures;
        kind = c.kind-kind.ensures;
        messages = refl;
        decodes = decoder.settings ∙ ap (payloads x) c.kind-kind.ensures;
        payload = decoder.stands;
      });
      frames = rw e (c.in_ok-new.ensures.stands _);
      text = rw e (c.in_ok-new.ensures.text via_or_fault);
      type = ([], c.in_ok-new.ensures.text content_type);
      unit_from = sym (ap (λ (s : Standing Situation StreamEvent Offence). s.from) e);
      closing = λ over. let on = not_over x in let bad = sym on ∙ over in cc;
      taken = refl;
      within = omega arith;
      going = rw e (record { next = (readable x).nothing (beginning x) 0; last = refl });
      unfailed = refl;
    }

pub returns-clause-settings : goal.returns-clause-settings
unfolding settings_of
returns-clause-settings c = refl
