-- Streams of either side in each mode, by computation: their events, and their offence with its
-- place.
use Rattle.std.proofs.Common.{◌≡◌, ℕ, List, [], ◌∷◌, ◌++◌, map, length, Some, None, codes, Option}
use Rattle.{std.proofs.Common.refl, std.specs.Prelude.⊤, nbfx_decoder.specs.Payload.refusal}
use Rattle.unit_streams.specs.{Grammar.resumed, Judging.history, Judging.history_from}
use Rattle.multibyte_ints.specs.Text.{string_at, text_at, text_behind, text_ending_at}
use Rattle.nbfx_values.specs.declared.{refusals.Offence.Offence, session.Mode.Mode}
use Rattle.nbfx_values.specs.declared.session.Kind.{Kind, TheVariants.Plain, TheVariants.Session}
use Rattle.nbfx_values.specs.declared.session.Mode.TheVariants.{Duplex, Simplex, Singleton}
use Rattle.nbfx_values.specs.Limits.{Limits, limits, usual_limits}
use Rattle.nbfx_decoder.proofs.OnLiterals.{envelope_strings, payloads_on_literals}
use Rattle.stream_reader.specs.Stream.{accepted, after, completed, cut_off, ended, initiators}
use Rattle.stream_reader.specs.Stream.{message, offence_at, offence_in, opened, peer_fault}
use Rattle.stream_reader.specs.Stream.{receivers, refused, Settings, Side, stream, StreamEvent}
use Rattle.stream_reader.specs.Stream.{too_long, unit_in}
use Rattle.nbfx_values.specs.declared.refusals.Reason.TheVariants as reasons

-- what a proof unfolds to compute streams
unfoldable sides_on_literals : ⊤
unfolding payloads_on_literals string_at text_behind text_at text_ending_at resumed history
    history_from unit_in after completed refused too_long cut_off
sides_on_literals = tt

-- a reader of this side, with these quotas
abbrev reads : Limits → Side → Settings
reads quotas side = record { side = side; statics = envelope_strings; limits = quotas }

-- under the usual ones: any initiator, one to an endpoint, and a receiver
abbrev any : Settings
any = reads usual_limits (initiators None)

abbrev only : List ℕ → Settings
only endpoint = reads usual_limits (initiators (Some endpoint))

abbrev receiver : Mode → Settings
receiver mode = reads usual_limits (receivers mode Plain)

-- a payload of at most nine bytes
abbrev nine : Side → Settings
nine side = reads (limits 9 32 2048 262144 2048 1000) side

-- what is shown of an event: of a message its number, the size of its payload and how many items it
-- has
data Shown : Type 0 where
  preamble_of : Mode → Kind → Shown
  taken_on : Shown
  envelope_of : (number size items : ℕ) → Shown
  session_of : ℕ → Shown
  fault_of : ℕ → List ℕ → Shown

abbrev shown : StreamEvent → Shown
shown (opened mode kind via) = preamble_of mode kind
shown accepted = taken_on
shown (message e) = envelope_of e.number e.size (length e.items)
shown (ended n) = session_of n
shown (peer_fault n text) = fault_of n text

-- a stream, its events and its offence
abbrev Row : Type 0
Row = Settings × List ℕ × List Shown × Option Offence

abbrev AllTell : List Row → Type 0
AllTell rows =
    (map (λ (row : Row). map shown (history (stream row.0) row.1).events) rows
    ≡ map (λ (row : Row). row.2) rows)
    × (map (λ (row : Row). (history (stream row.0) row.1).offence) rows ≡ map (λ (row : Row). row.3)
    rows)

-- the records of a preamble, each behind those before it
abbrev version : List ℕ
version = 0 ∷ 1 ∷ 0 ∷ []

abbrev with_mode : ℕ → List ℕ
with_mode mode = version ++ 1 ∷ mode ∷ []

abbrev with_via : ℕ → List ℕ
with_via mode = with_mode mode ++ 2 ∷ 13 ∷ codes "net.tcp://h/e"

abbrev with_encoding : ℕ → ℕ → List ℕ
with_encoding mode encoding = with_via mode ++ 3 ∷ encoding ∷ []

-- 23 bytes
abbrev preamble : ℕ → ℕ → List ℕ
preamble mode encoding = with_encoding mode encoding ++ 12 ∷ []

-- a document of seven bytes and three items: sized, in one chunk, in two, and in chunks of a byte
abbrev sized : List ℕ
sized = 6 ∷ 7 ∷ 64 ∷ 1 ∷ 120 ∷ 153 ∷ 2 ∷ 104 ∷ 105 ∷ []

abbrev one_chunk : List ℕ
one_chunk = 5 ∷ 7 ∷ 64 ∷ 1 ∷ 120 ∷ 153 ∷ 2 ∷ 104 ∷ 105 ∷ 0 ∷ []

abbrev two_chunks : List ℕ
two_chunks = 5 ∷ 4 ∷ 64 ∷ 1 ∷ 120 ∷ 153 ∷ 3 ∷ 2 ∷ 104 ∷ 105 ∷ 0 ∷ []

abbrev seven_chunks : List ℕ
seven_chunks = 5 ∷ 1 ∷ 64 ∷ 1 ∷ 1 ∷ 1 ∷ 120 ∷ 1 ∷ 153 ∷ 1 ∷ 2 ∷ 1 ∷ 104 ∷ 1 ∷ 105 ∷ 0 ∷ []

-- an initiator's sessions
initiators_sessions : AllTell (
    (any, preamble 2 8 ++ 7 ∷ [], preamble_of Duplex Session ∷ session_of 24 ∷ [], None) ∷ (
      any,
      preamble 2 7 ++ sized ++ sized ++ 7 ∷ [],
      preamble_of Duplex Plain ∷ envelope_of 0 7 3
          ∷ envelope_of 1 7 3 ∷ session_of 42 ∷ [],
      None,
    ) ∷ (
      any,
      preamble 3 7 ++ sized ++ 7 ∷ [],
      preamble_of Simplex Plain ∷ envelope_of 0 7 3
          ∷ session_of 33 ∷ [],
      None,
    ) ∷ (
      any,
      preamble 1 7 ++ one_chunk ++ 7 ∷ [],
      preamble_of Singleton Plain ∷ envelope_of 0 7 3
          ∷ session_of 34 ∷ [],
      None,
    ) ∷ (
      any,
      preamble 1 7 ++ two_chunks ++ 7 ∷ [],
      preamble_of Singleton Plain ∷ envelope_of 0 7 3
          ∷ session_of 35 ∷ [],
      None,
    ) ∷ (
      any,
      preamble 1 7 ++ seven_chunks ++ 7 ∷ [],
      preamble_of Singleton Plain ∷ envelope_of 0 7 3
          ∷ session_of 40 ∷ [],
      None,
    ) ∷ (
      only (codes "net.tcp://h/e"),
      preamble 2 8 ++ 7 ∷ 99 ∷ [],
      preamble_of Duplex Session
          ∷ session_of 24 ∷ [],
      None,
    ) ∷
    [])
unfolding sides_on_literals
initiators_sessions = (refl, refl)

-- a receiver's, which a Fault may end in the place of any record
receivers_sessions : AllTell (
    (receiver Duplex, 11 ∷ sized ++ 7 ∷ [], taken_on ∷ envelope_of 0 7 3 ∷ session_of 11 ∷ [], None)
    ∷ (
      receiver Singleton,
      11 ∷ two_chunks ++ 7 ∷ [],
      taken_on ∷ envelope_of 0 7 3 ∷ session_of 13
          ∷ [],
      None,
    ) ∷
    (receiver Singleton, 11 ∷ 7 ∷ [], taken_on ∷ session_of 2 ∷ [], None) ∷
    (receiver Simplex, 11 ∷ 7 ∷ [], taken_on ∷ session_of 2 ∷ [], None) ∷
    (receiver Simplex, 11 ∷ [], taken_on ∷ [], None) ∷
    (receiver Duplex, 8 ∷ 2 ∷ codes "no", fault_of 4 (codes "no") ∷ [], None) ∷
    (receiver Duplex, 8 ∷ 130 ∷ 0 ∷ codes "no", fault_of 5 (codes "no") ∷ [], None) ∷ (
      receiver Duplex,
      11 ∷ sized ++ 8 ∷ 2 ∷ codes "no",
      taken_on ∷ envelope_of 0 7 3
          ∷ fault_of 14 (codes "no") ∷ [],
      None,
    ) ∷ (
      receiver Singleton,
      11 ∷ one_chunk ++ 8 ∷ 0 ∷ [],
      taken_on ∷ envelope_of 0 7 3 ∷ fault_of 13 []
          ∷ [],
      None,
    ) ∷
    (receiver Simplex, 11 ∷ 8 ∷ 2 ∷ codes "no", taken_on ∷ fault_of 5 (codes "no") ∷ [], None) ∷
    [])
unfolding sides_on_literals
receivers_sessions = (refl, refl)

-- each refusal in a record
refusals : AllTell ((
  any,
  version ++ 1 ∷ 2 ∷ 2 ∷ 255 ∷ 255 ∷ 255 ∷ 255 ∷ 8
      ∷ [],
  [],
  Some (offence_at 5 reasons.BadInt),
) ∷
    (any, 13 ∷ [], [], Some (offence_at 0 reasons.UnknownRecord)) ∷
    (any, 1 ∷ [], [], Some (offence_at 0 reasons.OutOfOrder)) ∷
    (any, 0 ∷ 1 ∷ 1 ∷ [], [], Some (offence_at 0 reasons.BadVersion)) ∷
    (any, with_mode 4, [], Some (offence_at 3 reasons.BadMode)) ∷
    (any, with_mode 2 ++ 2 ∷ 129 ∷ 16 ∷ [], [], Some (offence_at 5 reasons.TextTooLong)) ∷
    (any, with_mode 2 ++ 2 ∷ 1 ∷ 255 ∷ [], [], Some (offence_at 5 reasons.TextNotUtf8)) ∷
    (only (codes "net.tcp://h/x"), with_via 2, [], Some (offence_at 5 reasons.EndpointNotFound)) ∷
    (any, with_via 2 ++ 4 ∷ 2 ∷ 104 ∷ 105 ∷ [], [], Some (offence_at 20 reasons.BadEncoding)) ∷
    (any, with_via 2 ++ 4 ∷ 129 ∷ 2 ∷ [], [], Some (offence_at 20 reasons.ContentTypeTooLong)) ∷
    (any, with_via 2 ++ 4 ∷ 1 ∷ 255 ∷ [], [], Some (offence_at 20 reasons.TextNotUtf8)) ∷
    (any, with_encoding 2 9, [], Some (offence_at 20 reasons.BadEncoding)) ∷
    (any, with_encoding 2 8 ++ 9 ∷ [], [], Some (offence_at 22 reasons.UpgradeRefused)) ∷ (
      any,
      preamble 2 8 ++ 8 ∷ [],
      preamble_of Duplex Session
          ∷ [],
      Some (offence_at 23 reasons.OutOfOrder),
    ) ∷ (
      any,
      preamble 1 7 ++ 6 ∷ [],
      preamble_of Singleton Plain
          ∷ [],
      Some (offence_at 23 reasons.OutOfOrder),
    ) ∷ (
      any,
      preamble 2 7 ++ 5 ∷ [],
      preamble_of Duplex Plain
          ∷ [],
      Some (offence_at 23 reasons.OutOfOrder),
    ) ∷ (
      any,
      preamble 1 7 ++ 7 ∷ [],
      preamble_of Singleton Plain
          ∷ [],
      Some (offence_at 23 reasons.OutOfOrder),
    ) ∷ (
      any,
      preamble 1 7 ++ one_chunk ++ 5 ∷ [],
      preamble_of Singleton Plain ∷ envelope_of 0 7 3
          ∷ [],
      Some (offence_at 33 reasons.OutOfOrder),
    ) ∷
    (receiver Duplex, 7 ∷ [], [], Some (offence_at 0 reasons.OutOfOrder)) ∷
    (receiver Simplex, 11 ∷ 6 ∷ [], taken_on ∷ [], Some (offence_at 1 reasons.OutOfOrder)) ∷
    [])
unfolding sides_on_literals
refusals = (refl, refl)

-- sizes: of an envelope, and of chunks added up, at the last one's size
sizes : AllTell ((
  nine (initiators None),
  preamble 2 7 ++ 6 ∷ 10 ∷ [],
  preamble_of Duplex Plain
      ∷ [],
  Some (offence_at 23 reasons.MessageTooLarge),
) ∷ (
  nine (initiators None),
  preamble 1 7 ++ 5 ∷ 4 ∷ 64 ∷ 1 ∷ 120 ∷ 153 ∷ 6 ∷ [],
  preamble_of
      Singleton Plain ∷ [],
  Some (offence_at 29 reasons.MessageTooLarge),
) ∷ (
  any,
  preamble 1 7 ++ 5 ∷ 255 ∷ 255 ∷ 255 ∷ 255 ∷ 8 ∷ [],
  preamble_of Singleton Plain
      ∷ [],
  Some (offence_at 24 reasons.BadInt),
) ∷
    [])
unfolding sides_on_literals
sizes = (refl, refl)

-- in a payload of chunks: a record that isn't known at its byte, and a document that is cut by the
-- size 0
payload_refusals : AllTell ((
  any,
  preamble 1 7 ++ 5 ∷ 2 ∷ 64 ∷ 1 ∷ 2 ∷ 120 ∷ 127 ∷ [],
  preamble_of Singleton Plain
      ∷ [],
  Some (offence_in 0 (refusal 3 reasons.UnknownNode)),
) ∷ (
  any,
  preamble 1 7 ++ 5 ∷ 3 ∷ 64 ∷ 1 ∷ 120 ∷ 0 ∷ [],
  preamble_of Singleton Plain
      ∷ [],
  Some (offence_in 0 (refusal 3 reasons.DocumentCut)),
) ∷ (
  any,
  preamble 1 7 ++ 5 ∷ 0 ∷ [],
  preamble_of Singleton Plain
      ∷ [],
  Some (offence_in 0 (refusal 0 reasons.DocumentCut)),
) ∷
    [])
unfolding sides_on_literals
payload_refusals = (refl, refl)

-- the end of the input: at the open record, of an envelope its type byte; a Fault that has begun
-- behind
-- an Ack is cut off
ends_of_input : AllTell (
    (any, [], [], Some (offence_at 0 reasons.Truncated)) ∷
    (any, preamble 2 8, preamble_of Duplex Session ∷ [], Some (offence_at 23 reasons.Truncated)) ∷ (
      any,
      preamble 1 7 ++ 5 ∷ 4 ∷ 64 ∷ [],
      preamble_of Singleton Plain
          ∷ [],
      Some (offence_at 23 reasons.Truncated),
    ) ∷ (
      any,
      preamble 1 7 ++ 5 ∷ 1 ∷ 64 ∷ [],
      preamble_of Singleton Plain
          ∷ [],
      Some (offence_at 23 reasons.Truncated),
    ) ∷ (
      any,
      preamble 1 7 ++ 5 ∷ 1 ∷ 64 ∷ 129 ∷ [],
      preamble_of Singleton Plain
          ∷ [],
      Some (offence_at 23 reasons.Truncated),
    ) ∷
    (receiver Duplex, 11 ∷ [], taken_on ∷ [], Some (offence_at 1 reasons.Truncated)) ∷
    (receiver Singleton, 11 ∷ [], taken_on ∷ [], Some (offence_at 1 reasons.Truncated)) ∷
    (receiver Simplex, [], [], Some (offence_at 0 reasons.Truncated)) ∷
    (receiver Simplex, 11 ∷ 8 ∷ 5 ∷ 65 ∷ [], taken_on ∷ [], Some (offence_at 1 reasons.Truncated)) ∷
    [])
unfolding sides_on_literals
ends_of_input = (refl, refl)

-- the session quota, within the chunks at the envelope's type byte
quotas : AllTell ((
  reads (limits 65536 32 2048 262144 2048 26) (initiators None),
  preamble 1 7 ++ two_chunks ++ 7
      ∷ [],
  preamble_of Singleton Plain ∷ [],
  Some (offence_at 23 reasons.SessionTooLong),
) ∷ (
  reads (limits 65536 32 2048 262144 2048 35) (initiators None),
  preamble 1 7 ++ two_chunks ++ 7
      ∷ [],
  preamble_of Singleton Plain ∷ envelope_of 0 7 3 ∷ session_of 35 ∷ [],
  None,
) ∷ (
  reads (limits 65536 32 2048 262144 2048 1) (receivers Simplex Plain),
  11 ∷ [],
  taken_on
      ∷ [],
  Some (offence_at 1 reasons.SessionTooLong),
) ∷
    [])
unfolding sides_on_literals
quotas = (refl, refl)
