-- How a session has ended by its events, and its report.
use Rattle.std.proofs.Common.{◌≡◌, ℕ, ◌+◌, Bool, true, false, List, [], ◌∷◌, ◌++◌, length, Some}
use Rattle.std.proofs.Common.{None, Option, flat_map, sym, refl, ap, ◌∙◌, append-nil}
use Rattle.unit_streams.{proofs.Pieces.told_flat, specs.Tellers.told_of_history}
use Rattle.unit_streams.specs.Judging.{events, History, history, offence as offence_by}
use Rattle.unit_streams.specs.Tellers.{report as report_by, state_behind, told_along}
use Rattle.nbfx_values.specs.{declared.refusals.Offence.Offence, Limits.IsGood}
use Rattle.stream_reader.proofs.{Closed.closed_or_refused, SessionEnds.sessions_are_told}
use Rattle.stream_reader.specs.Sessions.{answer, broken_off, Carried, conversation, HasParts}
use Rattle.stream_reader.specs.Sessions.{IsClosed, IsSession, lone_ack, MayFollow, message_events}
use Rattle.stream_reader.specs.Sessions.{Parts, session_events, turned_down}
use Rattle.stream_reader.specs.Stream.{ended, initiators, peer_fault, receivers, Settings, Side}
use Rattle.stream_reader.specs.Stream.{stream, StreamEvent}
use Rattle.{stream_loop.specs.Reported.IsJudged, command_words.specs.declared.task.Detail.Detail}
use Rattle.session_report.specs.{declared.reporter.Outcome.Outcome, Laws.closing_line}
use Rattle.session_report.specs.declared.reporter.Outcome.TheVariants.{Ended, Faulted, Open}
use Rattle.session_report.specs.Report.{ack_length, ended_line, last_line, lines_of, outcome}
use Rattle.session_report.specs.Report.{report, told_of}

-- by its parts
abbrev pub outcome_of : Parts → Outcome
outcome_of lone_ack = Open
outcome_of (broken_off carried text) = Faulted
outcome_of (turned_down text) = Faulted
outcome_of parts = Ended

module _ (d : Detail) where
  -- messages don't end it
  messages_keep : (carried : List Carried) (n : ℕ) (strings : List (List ℕ))
      (rest : List StreamEvent)
      (outcome : Outcome)
      → state_behind (lines_of d) outcome (message_events n strings carried ++ rest)
      ≡ state_behind (lines_of d) outcome rest
  unfolding state_behind message_events
  messages_keep [] n strings rest outcome = refl
  messages_keep (one ∷ more) n strings rest outcome =
      messages_keep more (n + 1) (strings ++ one.own) rest outcome

  session_outcome : (parts : Parts) (n : ℕ)
      → state_behind (lines_of d) Open (session_events parts n) ≡ outcome_of parts
  unfolding state_behind
  session_outcome (conversation mode kind via carried) n =
      messages_keep carried 0 [] (ended n ∷ []) Open
  session_outcome (answer carried) n = messages_keep carried 0 [] (ended n ∷ []) Open
  session_outcome lone_ack n = refl
  session_outcome (broken_off carried text) n =
      messages_keep carried 0 [] (peer_fault n text ∷ []) Open
  session_outcome (turned_down text) n = refl

  lines_flat : (events : List StreamEvent)
      → told_along (lines_of d) Open events ≡ flat_map (told_of d) events
  lines_flat events = told_flat (lines_of d) (told_of d) (λ outcome event. refl) events Open

  module _ (x : Settings) where
    pub reports_events : (bytes : List ℕ) → report d x bytes
        ≡ flat_map (told_of d) (events (stream x) bytes)
        ++ last_line (outcome d x bytes) (offence_by (stream x) bytes)
    unfolding events offence_by report_by
    reports_events bytes =
        ap (λ l. l ++ last_line (outcome d x bytes) (offence_by (stream x) bytes))
        (lines_flat (events (stream x) bytes))

    module _ (good : IsGood x.limits) where
      abbrev closed_history : (bytes : List ℕ) → IsClosed x bytes → History StreamEvent Offence
      closed_history bytes c =
          record { events = session_events c.parts (length c.session); offence = None }

      history_is : (bytes : List ℕ) (c : IsClosed x bytes)
          → history (stream x) bytes ≡ closed_history bytes c
      history_is bytes c =
          ap (history (stream x)) c.joined
          ∙ sessions_are_told x good c.parts c.session c.rest c.is_session c.may_follow

      pub closed_outcome : (bytes : List ℕ) (c : IsClosed x bytes)
          → outcome d x bytes ≡ outcome_of c.parts
      unfolding events
      closed_outcome bytes c =
          ap (λ (h : History StreamEvent Offence). state_behind (lines_of d) Open h.events)
          (history_is bytes c)
          ∙ session_outcome c.parts (length c.session)

      -- a stream without an offence
      pub unoffended : (bytes : List ℕ) (o : Outcome)
          → IsJudged (stream x) (lines_of d) None o bytes
          → (c : IsClosed x bytes) × (o ≡ outcome_of c.parts)
      unoffended bytes o h =
          let c = (closed_or_refused x good bytes).0 h.0 in
          (c, h.1 ∙ closed_outcome bytes c)

      -- a lone Ack is a byte
      ack_is_one : (side : Side) (bytes : List ℕ) → HasParts x side lone_ack bytes
          → ack_length ≡ length bytes
      ack_is_one (initiators endpoint) bytes h = absurd h
      ack_is_one (receivers mode kind) bytes h =
          let ack = h.1 in
          sym (ap length (ack.4 ∙ ap (λ l. l ++ ack.1) ack.2.1 ∙ ap (λ l. 11 ∷ l) ack.3))

      closing_is : (parts : Parts) (session : List ℕ) → IsSession x parts session
          → last_line (outcome_of parts) None ≡ closing_line parts (length session)
      closing_is (conversation mode kind via carried) session is = refl
      closing_is (answer carried) session is = refl
      closing_is lone_ack session is = ap ended_line (ack_is_one x.side session is.0)
      closing_is (broken_off carried text) session is = refl
      closing_is (turned_down text) session is = refl

      pub reports_sessions : (parts : Parts) (session rest : List ℕ) → IsSession x parts session
          → MayFollow parts rest
          → report d x (session ++ rest)
          ≡ flat_map (told_of d) (session_events parts (length session))
          ++ closing_line parts (length session)
      unfolding report_by
      reports_sessions parts session rest is follow =
          let all = session_events parts (length session) in
          ap (λ (h : History StreamEvent Offence). told_of_history (lines_of d) Open h)
          (sessions_are_told x good parts session rest is follow)
          ∙ ap (λ o. told_along (lines_of d) Open all ++ last_line o None)
          (session_outcome parts (length session))
          ∙ ap (λ l. l ++ last_line (outcome_of parts) None) (lines_flat all)
          ∙ ap (λ l. flat_map (told_of d) all ++ l) (closing_is parts session is)
