-- What is known of a connection whose bytes are known.
use Rattle.std.proofs.Common.{◌≡◌, ℕ, List, [], ◌++◌, map, Some, None, Option, sym, refl}
use Rattle.std.proofs.Common.{ap, ◌∙◌, subst, append-nil}
use Rattle.{io_edges.specs.Faults.CountsFaults, unit_streams.specs.Grammar.Grammar}
use Rattle.unit_streams.specs.Tellers.{told_along}
use Rattle.nbfx_values.specs.declared.refusals.Offence.{Offence}
use Rattle.stream_reader.specs.Stream.{Situation, stream, StreamEvent, StreamUnit}
use Rattle.stream_loop.proofs.Amounts.{first_told, whole_told, wrote_grew}
use Rattle.stream_loop.proofs.Knowing.{first_broken, first_starved, offence_of, whole_of}
use Rattle.stream_loop.proofs.Grown.{all_written, AllWritten, Grew, grew_more}
use Rattle.stream_loop.specs.{declared.outbound.Outbound.Outbound, Edges.Input, Writing.Wrote}
use Rattle.stream_loop.specs.Followed.{AreFirst, Decides, Follows, IsWhole}
use Rattle.receiver_machine.specs.Owed.{closing_bytes}
use Rattle.duplex_server.specs.declared.outcome.Inbound.{Inbound, TheVariants.ReadFault}
use Rattle.duplex_server.specs.declared.outcome.Inbound.TheVariants.{Ended, Memory, Offended}
use Rattle.duplex_server.specs.{declared.outcome.Outcome.Outcome, Requests.request_for}
use Rattle.duplex_server.specs.ServerStream.{Answering, owed, replies, requests_to, start}
use Rattle.duplex_server.specs.Serving.{ending_of, HasServed, Judges, Serves, WritesOwed}
use Rattle.io_edges.specs.Views.{SinkView}
use Rattle.stream_loop.specs.declared.outbound.Outbound.TheVariants as outbounds

module _ (x : Answering) (endpoint : Option (List ℕ)) (i i' : Input) (first now : SinkView)
    (bytes : List ℕ) (left : i.left ≡ Some bytes) where
  abbrev y : Grammar Situation StreamUnit StreamEvent Offence
  y = stream (requests_to x endpoint)

  abbrev Served : Outcome → List StreamEvent → Type 0
  Served outcome = HasServed x outcome first now

  abbrev FollowsBy : Outcome → Inbound → Type 0
  FollowsBy outcome inbound = Follows y (Served outcome) i i' (ending_of inbound)

  whole : (outcome : Outcome) (judged : Option Offence) (d : Decides y (Served outcome) i i' judged)
      → IsWhole y d.events judged bytes
  whole outcome judged d = whole_of y i i' bytes left (Served outcome) judged d

  -- what is owed for requests
  abbrev told_for : List StreamEvent → List ℕ
  told_for es = told_along (replies x) (start x.statics) (map request_for es)

  owed_is : (es : List StreamEvent) (judged : Option Offence) → IsWhole y es judged bytes
      → owed x endpoint bytes ≡ told_for es ++ closing_bytes judged
  owed_is es judged whole = whole_told y request_for (replies x) es judged bytes whole

  judges : (outcome : Outcome) → FollowsBy outcome outcome.inbound
      → Judges x endpoint bytes outcome.inbound
  judges outcome h = by outcome.inbound h where
    by : (inbound : Inbound) → FollowsBy outcome inbound → Judges x endpoint bytes inbound
    by Ended d = offence_of y d.events None bytes (whole outcome None d)
    by (Offended o) d = offence_of y d.events (Some o) bytes (whole outcome (Some o) d)
    by ReadFault d = tt
    by Memory d = tt

  -- what the outcome says of the writing, where some events were answered and others may follow
  abbrev Grew' : List ℕ → Type 0
  Grew' = Grew first now

  abbrev Wrote' : Outbound → List ℕ → List StreamEvent → ℕ → Type 0
  Wrote' outbound closing es answers = Wrote (replies x) outbound
      closing first (map request_for es) (λ s. answers ≡ s.answers) now

  abbrev Owes : Inbound → Outbound → Type 0
  Owes inbound outbound = (w : List ℕ) → first.written ≡ Some w → (w' : List ℕ)
      × (now.written ≡ Some w')
      × WritesOwed (owed x endpoint bytes) first.held w w' inbound outbound

  grew_owed : (outbound : Outbound) (closing : List ℕ) (es : List StreamEvent) (answers : ℕ)
      (behind : List ℕ) → owed x endpoint bytes ≡ (told_for es ++ closing) ++ behind
      → Wrote' outbound closing es answers → Grew' (owed x endpoint bytes)
  grew_owed outbound closing es answers behind is wrote =
      subst Grew' (sym is) (grew_more first now
      (told_for es ++ closing) behind (wrote_grew (replies x) outbound
      closing first (map request_for es) (λ s. answers ≡ s.answers) now wrote))

  all_owed : (closing : List ℕ) (es : List StreamEvent) (answers : ℕ)
      → owed x endpoint bytes ≡ told_for es ++ closing → Wrote' outbounds.Done closing es answers
      → AllWritten first now (owed x endpoint bytes)
  all_owed closing es answers is h =
      subst (AllWritten first now) (sym is)
      (all_written first now (told_for es ++ closing) h.puts h.emptied)

  -- a stream that was read to its end
  owes_judged : (judged : Option Offence) (inbound : Inbound)
      → (AllWritten first now (owed x endpoint bytes) → Owes inbound outbounds.Done)
      → (Grew' (owed x endpoint bytes) → Owes inbound outbounds.WriteFault)
      → (Grew' (owed x endpoint bytes) → Owes inbound outbounds.Memory)
      → (outbound : Outbound) (es : List StreamEvent) (answers : ℕ) → IsWhole y es judged bytes
      → Wrote' outbound (closing_bytes judged) es answers → Owes inbound outbound
  owes_judged judged inbound wholly failed starved outbounds.Done es answers whole wrote =
      wholly (all_owed (closing_bytes judged) es answers (owed_is es judged whole) wrote)
  owes_judged judged inbound wholly failed starved outbounds.WriteFault es answers whole wrote =
      failed (grew_owed outbounds.WriteFault (closing_bytes judged) es answers []
      (owed_is es judged whole ∙ sym (append-nil (told_for es ++ closing_bytes judged))) wrote)
  owes_judged judged inbound wholly failed starved outbounds.Memory es answers whole wrote =
      starved (grew_owed outbounds.Memory (closing_bytes judged) es answers []
      (owed_is es judged whole ∙ sym (append-nil (told_for es ++ closing_bytes judged))) wrote)

  -- one that wasn't
  first_owed : (outbound : Outbound) (es : List StreamEvent) (answers : ℕ)
      → AreFirst y es bytes → Wrote' outbound [] es answers
      → Grew' (owed x endpoint bytes)
  first_owed outbound es answers front wrote =
      let t = first_told y request_for (replies x) es bytes front in
      grew_owed outbound [] es answers t.0
      (t.1 ∙ ap (λ l. l ++ t.0) (sym (append-nil (told_for es)))) wrote

  owes : (outcome : Outcome) → FollowsBy outcome outcome.inbound
      → (w : List ℕ) → first.written ≡ Some w → (w' : List ℕ) × (now.written ≡ Some w')
      × WritesOwed (owed x endpoint bytes) first.held w w' outcome.inbound outcome.outbound
  owes outcome h = by outcome.inbound refl h where
    by : (inbound : Inbound) → outcome.inbound ≡ inbound → FollowsBy outcome inbound
        → Owes inbound outcome.outbound
    by Ended is d =
        owes_judged None Ended (λ all. all) (λ grew. grew) (λ grew. grew) outcome.outbound d.events
        outcome.answers (whole outcome None d) (rw is at d.handled.wrote)
    by (Offended o) is d =
        owes_judged (Some o) (Offended o) (λ all. all) (λ grew. grew) (λ grew. grew)
        outcome.outbound d.events outcome.answers (whole outcome (Some o) d)
        (rw is at d.handled.wrote)
    by ReadFault is d =
        first_owed outcome.outbound _ outcome.answers (first_broken y i i' bytes left
        (Served outcome) d) (rw is at d.handled.wrote)
    by Memory is d =
        first_owed outcome.outbound d.events outcome.answers (first_starved y i i' bytes left
        (Served outcome) d) (rw is at d.handled.wrote)

-- by what was read and answered, and what failed
pub serves_by : (x : Answering) (endpoint : Option (List ℕ)) (i i' : Input) (first now : SinkView)
    (outcome : Outcome) → Follows (stream (requests_to x endpoint)) (HasServed x outcome first now)
    i i' (ending_of outcome.inbound) → CountsFaults i.faults i'.faults (outcome.inbound ≡ ReadFault)
    → CountsFaults first.faults now.faults (outcome.outbound ≡ outbounds.WriteFault)
    → Serves x endpoint i i' first now outcome
serves_by x endpoint i i' first now outcome follows reads writes = record {
  judged = λ bytes left. judges x endpoint i i' first now bytes left outcome follows;
  written = λ bytes w left told. owes x endpoint i i' first now bytes left outcome follows w told;
  follows = follows;
  reads_counted = reads;
  writes_counted = writes;
}
