use Rattle.std.proofs.{Common.refl, Common.◌∙◌}
use Rattle.stream_reader.specs.StreamReaderState.{FailedBehind, failure_of, messages_of, taken_of}
use Rattle.stream_reader.specs.StreamReaderState.{settings_of, ShowsStrings, ShowsText, StandsFor}
use Rattle.stream_reader.proofs.ReaderFacts.{reads_too, shows_too}
use Rattle.stream_reader.proofs.reader.StreamReader.reuse.Goals as goal

pub returns-clause-stands : goal.returns-clause-stands
unfolding StandsFor settings_of
returns-clause-stands c = λ p h. record {
  at = record {
    awaits = h.at.awaits;
    mode = h.at.mode;
    kind = h.at.kind;
    messages = h.at.messages;
    decodes = c.reuse.ensures.settings ∙ h.at.decodes;
    payload = reads_too _ _ c.reuse.ensures.settings c.reuse.ensures.stands c.reuse.ensures.failed _
        _ _ h.at.payload;
  };
  frames = h.frames;
  text = h.text;
  type = h.type;
  closing = h.closing;
  unit_from = h.unit_from;
  taken = h.taken;
  within = h.within;
  going = h.going;
  unfailed = h.unfailed;
}

pub returns-clause-failed : goal.returns-clause-failed
unfolding FailedBehind settings_of failure_of taken_of messages_of ShowsText ShowsStrings
returns-clause-failed c = λ refusal taken p h. record {
  failure = h.failure;
  taken_is = h.taken_is;
  text = h.text;
  messages = h.messages;
  strings = shows_too _ _ c.reuse.ensures.settings c.reuse.ensures.stands c.reuse.ensures.failed _
      h.strings;
}

pub returns-clause-settings : goal.returns-clause-settings
unfolding settings_of
returns-clause-settings c = refl
