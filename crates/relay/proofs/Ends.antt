-- Connections as a wire hands them out and takes them back.
use Rattle.std.proofs.Common.{◌≡◌, ℕ, ◌+◌, List, [], ◌∷◌, ◌++◌, IfSome, Some, None, Option, refl}
use Rattle.std.proofs.Common.{inr, arith}
use Rattle.io_edges.specs.{Flow.Told, Faults.CountsFaults, Views.SinkView, Wires.added_up}
use Rattle.io_edges.specs.{Wires.Fresh, Wires.Network}
use Rattle.std.specs.Prelude.{⊤}
use Rattle.relay.specs.declared.outcome.RelayOutcome.{RelayOutcome}
use Rattle.relay.specs.{Connections.Connection, Connections.Ended}
use Rattle.relay.specs.Connections.{Ends, ends_at, Hands, HandsNone, RelaysOne, Side, WireFails}
use Rattle.relay.specs.{Relayed.IsRelayed, Relayed.Relay}

module _ (x : Relay) {R K : Type 0} (left taken : R → Option (List ℕ)) (reads empty_takes : R → ℕ)
    (view : K → SinkView) where
  abbrev seen_of : R × K → Ends
  seen_of = ends_at left taken reads empty_takes view

  abbrev side_of : (ends ends' : R × K) → Side
  side_of ends ends' = record { handed = seen_of ends; closed = seen_of ends' }

  handed_so : (side : Side) (ends : R × K) → seen_of ends ≡ side.handed
      → (u v : Option (List (R × K))) → Told u v (λ w w'. w ≡ ends ∷ w')
      → Told u v (λ before after. (ends : R × K) × (before ≡ ends ∷ after)
      × (seen_of ends ≡ side.handed))
  handed_so side ends is None v p = tt
  handed_so side ends is (Some u) None p = absurd p
  handed_so side ends is (Some u) (Some v) p = (ends, p, is)

  pub handed_over : (n n' : Network R K) (ends ends' : R × K)
      → Told n.waiting n'.waiting (λ w w'. w ≡ ends ∷ w')
      → (reads ends.0 ≡ 0) × Fresh n.closed (taken ends.0)
      → ((view ends.1).faults ≡ 0) × Fresh n.closed (view ends.1).written
      × ((view ends.1).held ≡ [])
      → (n'.closed ≡ n.closed) × (n'.end_faults ≡ n.end_faults) → n'.faults ≡ n.faults
      → Hands x seen_of (side_of ends ends') n n'
  handed_over n n' ends ends' handed reader writer ended still = record {
    handed = handed_so (side_of ends ends') ends refl n.waiting n'.waiting handed;
    begins = record {
      unread = reader.0;
      nothing_taken = reader.1;
      unwritten = writer.0;
      nothing_written = writer.1;
      nothing_held = writer.2;
    };
    closed = ended.0;
    end_faults = ended.1;
    faults = still;
  }

  pub taken_back : (n n' : Network R K) (ends ends' : R × K)
      → Told n.closed n'.closed (λ c c'. IfSome (taken ends'.0)
      (λ t. IfSome (view ends'.1).written (λ w. c' ≡ c ++ (t, w) ∷ [])))
      → n'.waiting ≡ n.waiting
      → n'.end_faults ≡ added_up n.end_faults (reads ends'.0) (view ends'.1).faults
      → n'.faults ≡ n.faults → Ended x seen_of (side_of ends ends') n n'
  taken_back n n' ends ends' closes waiting counted still =
      record { closed = closes; end_faults = counted; waiting = waiting; faults = still }

  pub relays_one : (n accepted connected front_closed n' : Network R K)
      (front front' back back' : R × K) (outcome : RelayOutcome)
      → Hands x seen_of (side_of front front') n accepted
      → Hands x seen_of (side_of back back') accepted connected
      → IsRelayed x (seen_of front).input (seen_of front').input (seen_of back).input
      (seen_of back').input (view front.1) (view front'.1) (view back.1) (view back'.1) outcome
      → Ended x seen_of (side_of front front') connected front_closed
      → Ended x seen_of (side_of back back') front_closed n'
      → accepted.out ≡ n.out + 1 → connected.out ≡ accepted.out + 1
      → connected.out ≡ front_closed.out + 1 → front_closed.out ≡ n'.out + 1
      → (c : Connection) × (c.outcome ≡ outcome) × RelaysOne x seen_of c n n'
  relays_one n accepted connected front_closed n' front front' back back' outcome accepts connects
      relayed ends_front ends_back one two three four = (
        record { front = side_of front front'; back = side_of back back'; outcome = outcome },
        refl,
        record {
          accepted = accepted;
          connected = connected;
          front_closed = front_closed;
          accepts = accepts;
          connects = connects;
          relayed = relayed;
          ends_front = ends_front;
          ends_back = ends_back;
          out = omega (arith, one, two, three, four);
        },
      )

  pub none_handed : (n n' : Network R K) {A : Type 0}
      → Told n.waiting n'.waiting (λ before after. after ≡ before)
      → (n'.closed ≡ n.closed) × (n'.end_faults ≡ n.end_faults) → n'.out ≡ n.out
      → CountsFaults n.faults n'.faults A → HandsNone x seen_of n n' A
  none_handed n n' waiting ended out counted = record {
    waiting = waiting;
    closed = ended.0;
    end_faults = ended.1;
    out = out;
    counted = counted;
  }

  pub connect_failed : (n accepted failed n' : Network R K) (front : R × K)
      → Hands x seen_of (side_of front front) n accepted → HandsNone x seen_of accepted failed ⊤
      → Ended x seen_of (side_of front front) failed n' → accepted.out ≡ n.out + 1
      → failed.out ≡ n'.out + 1 → WireFails x seen_of n n'
  connect_failed n accepted failed n' front accepts none ends one two = inr (record {
    front = side_of front front;
    accepted = accepted;
    failed = failed;
    accepts = accepts;
    connects = none;
    untouched = refl;
    ends_front = ends;
    out = let e = none.out in omega (arith, one, two, e);
  })
