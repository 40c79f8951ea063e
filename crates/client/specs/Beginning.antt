-- What a call has written, read and reported up to the peer's Preamble Ack, for private calls.
use Rattle.std.specs.Prelude.{◌≡◌, ℕ, List, [], Ok}
use Rattle.io_edges.specs.{Puts.Puts, Views.SinkView}
use Rattle.nbfx_values.specs.declared.content.Item.{Item}
use Rattle.initiator_machine.specs.Opening.{opening_bytes}
use Rattle.stream_loop.specs.Edges.{Input}
use Rattle.client.specs.declared.answers.{AnswerReader.AnswerReader, Stage.TheVariants.Acked}
use Rattle.client.specs.declared.{outcome.CallOutcome.CallOutcome, settings.CallSettings.CallSettings}
use Rattle.client.specs.{Answering.HasComeSo, Answering.reads_by, Called.KnownCall, Sent.sending_by}

module _ (s : CallSettings) (via : List ℕ) (i i' : Input) (sink sink' output output' : SinkView)
  where
    -- the opening is written, and the Ack was read
    pub record HasBegun (r : AnswerReader) : Type 0 where
      pub acked : r.handler.stage ≡ Acked
      pub puts : Puts sink sink' (opening_bytes s.mode s.encoding via) (Ok tt)
      pub emptied : sink'.held ≡ []
      pub read : List ℕ
      pub come : HasComeSo (reads_by s) i output read r i' output'
      pub uncounted : i'.faults ≡ i.faults

    -- the call is over, and none of its documents was sent, whichever they are
    pub record IsUnsent (called : CallOutcome) : Type 0 where
      pub known : (documents : List (List Item))
          → KnownCall (sending_by s documents) via i i' sink sink' output output' called
      pub none : called.sent ≡ 0
