-- What is known of a connection that was served.
use Rattle.std.proofs.Common.{◌≡◌, ℕ, ◌-◌, ◌^◌, ◌<◌, List, [], map, Some, Option, refl}
use Rattle.std.proofs.Common.{subst, inl, inr, arith}
use Rattle.io_edges.specs.{Faults.Rose, Wires.added_up}
use Rattle.stream_reader.specs.Stream.{stream, StreamEvent}
use Rattle.stream_loop.proofs.{Amounts.wrote_grew, Counts.handled_some, Counts.took_some}
use Rattle.duplex_server.specs.{declared.outcome.Outcome.Outcome, Requests.request_for}
use Rattle.duplex_server.specs.ServerStream.{Answering, replies, requests_to}
use Rattle.duplex_server.specs.Served.{Connection, Ends, ends_at}
use Rattle.duplex_server.specs.Served.{IsServed, moved, told_pair}
use Rattle.duplex_server.specs.Serving.{closing_of, ending_of, HasServed, Serves}
use Rattle.duplex_server.proofs.Answered.{serves_empties}
use Rattle.io_edges.specs.Views.{SinkView}
use Rattle.stream_loop.specs.Edges.{AreNew}

-- a count with two others is greater where one of these is above 0, or at its last value
pub rose_by_reads : (count a b : ℕ) → Rose 0 a → Rose count (added_up count a b)
rose_by_reads count a b (inl some) = rises count a b some
  where
    rises : (count a b : ℕ) → 0 < a → Rose count (added_up count a b)
    rises count a b some = grind arith
rose_by_reads count a b (inr last) = ends count a b last
  where
    ends : (count a b : ℕ) → a ≡ 2 ^ 64 - 1 → Rose count (added_up count a b)
    ends count a b last = grind arith

pub rose_by_writes : (count a b : ℕ) → Rose 0 b → Rose count (added_up count a b)
rose_by_writes count a b (inl some) = rises count a b some
  where
    rises : (count a b : ℕ) → 0 < b → Rose count (added_up count a b)
    rises count a b some = grind arith
rose_by_writes count a b (inr last) = ends count a b last
  where
    ends : (count a b : ℕ) → b ≡ 2 ^ 64 - 1 → Rose count (added_up count a b)
    ends count a b last = grind arith

both_told : (t w : List ℕ) (taken written : Option (List ℕ)) → taken ≡ Some t
    → written ≡ Some w → told_pair (t, w) ≡ (taken, written)
both_told t w taken written is its = rw (is, its) refl

-- the ends of a connection when it was handed out and when it was closed, by what is seen of them
abbrev pub met : {R K : Type 0} → (seen : R × K → Ends) → (ends ends' : R × K) → Outcome
    → Connection
met seen ends ends' outcome =
    record { handed = seen ends; closed = seen ends'; outcome = outcome }

module _ (x : Answering) (endpoint : Option (List ℕ)) {R K : Type 0}
    (left taken : R → Option (List ℕ)) (reads empty_takes : R → ℕ) (view : K → SinkView) where
  abbrev ends_of : R × K → Ends
  ends_of = ends_at left taken reads empty_takes view

  -- a connection that was served
  module _ (ends ends' : R × K) (outcome : Outcome) (h : Serves x endpoint (ends_of ends).input
      (ends_of ends').input (view ends.1) (view ends'.1) outcome) where
    abbrev now_met : Connection
    now_met = met ends_of ends ends' outcome

    abbrev Served : List StreamEvent → Type 0
    Served = HasServed x outcome (view ends.1) (view ends'.1)

    pub is_served : (told : Option (List (List ℕ × List ℕ)))
        → AreNew told (ends_of ends).input (ends_of ends).sink
        → IsServed x endpoint told now_met
    is_served told new = record {
      begins = new;
      serves = h;
      read_fault = λ count failed. rose_by_reads count (reads ends'.0) (view ends'.1).faults
          (subst (λ (n : ℕ). Rose n (reads ends'.0)) new.unread (h.reads_counted.rose failed));
      write_fault = λ count failed. rose_by_writes count (reads ends'.0) (view ends'.1).faults
          (subst (λ (n : ℕ). Rose n (view ends'.1).faults) new.unwritten
          (h.writes_counted.rose failed));
      nothing_held = serves_empties x endpoint (ends_of ends).input (ends_of ends').input
          (view ends.1) (view ends'.1) outcome h;
    }

    -- what was taken and written is told, where the ends told it at first
    pub pair_told : taken ends.0 ≡ Some [] → (view ends.1).written ≡ Some []
        → (pair : List ℕ × List ℕ) × (told_pair pair ≡ moved now_met)
    pair_told was_taken was_written =
        let s = handled_some (stream (requests_to x endpoint)) Served (ends_of ends).input
        (ends_of ends').input (ending_of outcome.inbound) h.follows in
        let t = took_some (stream (requests_to x endpoint)) Served (ends_of ends).input
        (ends_of ends').input (ending_of outcome.inbound) h.follows [] was_taken in
        let w = wrote_grew (replies x) outcome.outbound
        (closing_of (ending_of outcome.inbound)) (view ends.1) (map request_for s.0)
        (λ s. outcome.answers ≡ s.answers) (view ends'.1) s.1.wrote [] was_written in
        ((t.0, w.0), both_told t.0 w.0 (taken ends'.0) (view ends'.1).written t.1 w.1)
