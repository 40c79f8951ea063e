-- What the service that is asked for is read from.
use Rattle.std.specs.Prelude.{◌≡◌, Result, Ok, Err}
use Rattle.io_edges.specs.declared.fault.FileFault.TheVariants.{Failed}
use Rattle.duplex_server.specs.declared.responding.Responder.{Responder}
use Rattle.dump_replay.specs.declared.responding.UnreadActions.{UnreadActions}

-- the file of actions isn't read since the fetch failed
abbrev pub HasFailed : Result Responder UnreadActions → Type 0
HasFailed (Ok responder) = ⊥
HasFailed (Err unread) = unread.fault ≡ Failed
