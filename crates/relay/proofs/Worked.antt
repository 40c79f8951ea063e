-- What is written to each side for literal streams of the other, by computation alone.
use Rattle.std.proofs.Common.{◌≡◌, ℕ, List, [], ◌∷◌, ◌++◌, None, codes, refl}
use Rattle.std.specs.{Prelude.⊤, Char.encode_utf8}
use Rattle.unit_streams.specs.{Judging.events_of, Tellers.state_behind, Tellers.told_along}
use Rattle.multibyte_ints.specs.{Integer.shortest, Integer.shortest_within, Text.string_bytes_of}
use Rattle.nbfx_values.specs.Limits.{usual_limits}
use Rattle.stream_reader.specs.Stream.{Settings, stream}
use Rattle.stream_reader.proofs.OnLiterals.{preamble, streams_on_literals}
use Rattle.session_report.specs.declared.reading.Event.{Event}
use Rattle.relay.specs.Carried.{carried_by, carries, Carrying, last_of, start}
use Rattle.relay.specs.Events.{has_begun, kind_in, mode_in, said}
use Rattle.relay.specs.Relayed.{back_of, backward_of, forward_of, front_of, Relay}
use Rattle.relay.specs.declared.outcome.PumpIn.TheVariants.{Ended}

unfoldable relays_on_literals : ⊤
unfolding streams_on_literals encode_utf8 shortest shortest_within string_bytes_of told_along
    state_behind has_begun mode_in kind_in
relays_on_literals = tt

-- a front with a static string, and a back with none; with this quota of what goes forward
abbrev joining : (payload : ℕ) → Relay
joining payload = record {
  front = (2, codes "Envelope") ∷ [];
  back = [];
  forward = record usual_limits { payload = payload };
  backward = usual_limits;
  endpoint = None;
  via = codes "net.tcp://h/b";
}

abbrev heard : Settings → List ℕ → List Event
heard x bytes = said (events_of (stream x) bytes)

-- all that is due for the events of a stream that ended well
abbrev due : Carrying → List Event → List ℕ
due x events = told_along (carries x) (start x) events ++ last_of Ended (carried_by x events)

-- to the back for the bytes of a front, and to the front for those of the back
abbrev forward : Relay → List ℕ → List ℕ
forward x bytes = due (forward_of x (heard (front_of x) bytes)) (heard (front_of x) bytes)

abbrev backward : Relay → (bytes answers : List ℕ) → List ℕ
backward x bytes answers = due (backward_of x (heard (front_of x) bytes))
    (heard (back_of x (heard (front_of x) bytes)) answers)

-- the preamble of the back
abbrev called : List ℕ
called = 0 ∷ 1 ∷ 0 ∷ 1 ∷ 2 ∷ 2 ∷ 13 ∷ (codes "net.tcp://h/b" ++ 3 ∷ 8 ∷ 12 ∷ [])

-- a document that is an element `Envelope`, named by the front's static string
abbrev document : List ℕ
document = 6 ∷ 4 ∷ 0 ∷ 0x42 ∷ 2 ∷ 1 ∷ []

-- the same, named by a string of the session that comes with it
abbrev told_first : List ℕ
told_first = 6 ∷ 13 ∷ 9 ∷ 8 ∷ (codes "Envelope" ++ 0x42 ∷ 1 ∷ 1 ∷ [])

-- a session without documents, each way
without_documents : forward (joining 65536) (preamble ++ 7 ∷ []) ≡ called ++ 7 ∷ []
unfolding relays_on_literals
without_documents = refl

without_answers : backward (joining 65536) preamble (11 ∷ 7 ∷ []) ≡ 11 ∷ 7 ∷ []
unfolding relays_on_literals
without_answers = refl

-- a name comes once, as a string of the back's session
documents_forward : forward (joining 65536) (preamble ++ document ++ document ++ 7 ∷ [])
    ≡ called ++ told_first ++ 6 ∷ 4 ∷ 0 ∷ 0x42 ∷ 1 ∷ 1 ∷ 7 ∷ []
unfolding relays_on_literals
documents_forward = refl

documents_backward : backward (joining 65536) preamble (11 ∷ (told_first ++ 7 ∷ []))
    ≡ 11 ∷ (document ++ 7 ∷ [])
unfolding relays_on_literals
documents_backward = refl

-- a document that fits the front's session and not the back's: nothing follows, and no End
unfit_forward : forward (joining 12) (preamble ++ document ++ document ++ 7 ∷ []) ≡ called
unfolding relays_on_literals
unfit_forward = refl
