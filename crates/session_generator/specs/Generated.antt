-- The session that is generated of documents: an initiator's, in duplex mode, whose payloads bring
-- strings.
use Rattle.std.specs.Prelude.{ℕ, List, Ok, Err, codes, Result}
use Rattle.{string_tables.specs.StaticStrings.Entry, initiator_machine.specs.Opening.opening_bytes}
use Rattle.nbfx_values.specs.{declared.content.Item.Item, Limits.Limits}
use Rattle.nbfx_values.specs.declared.session.Encoding.TheVariants.{Known}
use Rattle.nbfx_values.specs.declared.session.{Kind.TheVariants.Session, Mode.TheVariants.Duplex}
use Rattle.nbfx_encoder.specs.{Envelopes.envelopes_from, Envelopes.UnfitAt, Placing.Placed}
use Rattle.session_ends.specs.Sent.{first_table, session_bytes}

-- the Via that it names
abbrev pub via : List ℕ
via = codes "net.tcp://h/e"

abbrev pub opening : List ℕ
opening = opening_bytes Duplex (Known Session) via

-- a session's bytes, and the table behind them
abbrev pub in_session : Result (Placed (List ℕ)) UnfitAt → Result (Placed (List ℕ)) UnfitAt
in_session (Ok sent) = Ok (session_bytes opening sent.0, sent.1)
in_session (Err unfit) = Err unfit

-- what a sender writes of these documents, from the opening to the End record
abbrev pub session_of : Limits → List Entry → List (List Item) → Result (Placed (List ℕ)) UnfitAt
session_of limits statics documents =
    in_session (envelopes_from limits Session Duplex (first_table statics) 0 documents)
