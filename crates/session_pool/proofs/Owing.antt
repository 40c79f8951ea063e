-- What is written of the sessions of a connection whose bytes are known.
use Rattle.std.proofs.Common.{◌≡◌, ℕ, zero, suc, ◌+◌, ◌-◌, ◌<◌, ◌≤◌, ◌⊎◌, List, [], ◌∷◌, ◌++◌, drop}
use Rattle.std.proofs.Common.{length, take, Some, None, Option, sym, refl, ap, ◌∙◌, subst, inl, inr}
use Rattle.std.proofs.Common.{append_assoc, append-nil, arith, get_or, take_all}
use Rattle.std.proofs.lemmas.List.{take_more}
use Rattle.std.specs.Option.{option_map}
use Rattle.std.proofs.Math.Seq.{drop-append_seam, take-append-add, take-length}
use Rattle.io_edges.specs.Flow.{GrowsByPrefix, Told}
use Rattle.unit_streams.proofs.Ends.{not_over_first}
use Rattle.unit_streams.specs.Judging.{offence}
use Rattle.nbfx_values.specs.declared.refusals.Offence.{Offence}
use Rattle.stream_reader.{proofs.Closing.closes, specs.Stream.ends, specs.Stream.stream}
use Rattle.stream_loop.proofs.Writing.{grown_within}
use Rattle.stream_loop.specs.{Edges.Input, Followed.EndsWith}
use Rattle.stream_loop.specs.declared.outbound.Outbound.{Outbound}
use Rattle.stream_loop.specs.declared.outbound.Outbound.TheVariants as outbounds
use Rattle.duplex_server.specs.declared.outcome.{Inbound.Inbound, Outcome.Outcome}
use Rattle.duplex_server.specs.declared.outcome.Inbound.TheVariants as inbounds
use Rattle.duplex_server.specs.ServerStream.{Answering, owed, requests_to}
use Rattle.duplex_server.specs.Serving.{Judges, Serves, WritesOwed}
use Rattle.duplex_server.proofs.Answered.{serves_empties}
use Rattle.io_edges.specs.Views.{SinkView}
use Rattle.session_pool.specs.OwedTurns.{behind_end, on_rest, owed_turns}
use Rattle.session_pool.specs.declared.turns.{Turns.Turns, TurnsEnd.TurnsEnd}
use Rattle.session_pool.specs.Turns.{AreAnswered, behind_session, Ends, InTurn, IsWell, Rests}
use Rattle.session_pool.specs.Turns.{last_of, ServesTurns, Stops, WritesAll, WritesTurns}
use Rattle.session_pool.proofs.Ends.{behind_session as rest_behind, none_behind}
use Rattle.session_pool.specs.declared.turns.TurnsEnd.TheVariants as stops

none_more : (more : ℕ) → 0 + more ≡ more
none_more more = omega arith

one_more_of : (n more : ℕ) → suc n + more ≡ suc (n + more)
one_more_of n more = omega arith

-- the last of outcomes
pub last_snoc : (outcomes : List Outcome) (last : Outcome)
    → last_of (outcomes ++ last ∷ []) ≡ Some last
unfolding last_of
last_snoc [] last = refl
last_snoc (one ∷ []) last = refl
last_snoc (one ∷ other ∷ outcomes) last = last_snoc (other ∷ outcomes) last

pub last_none : (outcomes : List Outcome) → length outcomes < 1 → None ≡ last_of outcomes
unfolding last_of
last_none [] none = refl
last_none (one ∷ outcomes) none = absurd (omega (arith, none))

pub last_is : (outcomes : List Outcome) (other : Outcome) → 1 ≤ length outcomes
    → Some (get_or outcomes (length outcomes - 1) other) ≡ last_of outcomes
last_is outcomes other some =
    let i : ℕ = length outcomes - 1 in
    let last : Outcome = get_or outcomes i other in
    sym (ap last_of (sym (take_all (i + 1) outcomes (omega (arith, some)))
    ∙ take_more outcomes i other (omega (arith, some))) ∙ last_snoc (take i outcomes) last)

abbrev only : Outcome → Option Outcome → Outcome
only other None = other
only other (Some outcome) = outcome

writes_some : (owed held : List ℕ) (outcomes : List Outcome) (last : Outcome) (w w' : List ℕ)
    → w' ≡ w ++ held ++ owed → WritesAll owed held (outcomes ++ last ∷ []) w w'
writes_some owed held [] last w w' is = is
writes_some owed held (one ∷ outcomes) last w w' is = is

-- what is all written is written in part
grown_all : (owed held w w' : List ℕ) → w' ≡ w ++ held ++ owed → GrowsByPrefix w w' (held ++ owed)
grown_all owed held w w' is = record {
  kept = length (held ++ owed);
  grown = is ∙ append_assoc w held owed
      ∙ ap (λ l. w ++ l) (sym (take-length (held ++ owed)));
}

-- an input that tells that nothing is left
nothing_left : (left left' : Option (List ℕ)) (rest : List ℕ) → left ≡ Some rest
    → Told left left' (λ all _. all ≡ []) → rest ≡ []
nothing_left None left' rest is told = cc
nothing_left (Some all) None rest is told = absurd told
nothing_left (Some all) (Some all') rest is told = let same : all ≡ rest = cc in sym same ∙ told

module _ (x : Answering) (endpoint : Option (List ℕ)) where
  abbrev Owed : ℕ → List ℕ → List ℕ
  Owed = owed_turns x endpoint

  -- nothing is owed for no bytes, and for no sessions
  owed_none : (most : ℕ) → Owed most [] ≡ []
  unfolding owed_turns
  owed_none zero = refl
  owed_none (suc most) = refl

  owed_never : (bytes : List ℕ) → Owed 0 bytes ≡ []
  unfolding owed_turns
  owed_never bytes = refl

  -- for one more session, by what follows it
  owed_more : (most : ℕ) (bytes : List ℕ) → (bytes ≡ [] → ⊥) → Owed (suc most) bytes
      ≡ owed x endpoint bytes
      ++ on_rest (behind_end (stream (requests_to x endpoint)) [] bytes) (Owed most)
  unfolding owed_turns
  owed_more most [] some = absurd (some refl)
  owed_more most (b ∷ bytes) some = refl

  -- the bytes of a session are some
  session_some : (session rest : List ℕ) → EndsWith (stream (requests_to x endpoint)) session
      → session ++ rest ≡ [] → ⊥
  session_some [] rest e none =
      let over = e.over in
      let c = closes (requests_to x endpoint) in
      let on = not_over_first (stream (requests_to x endpoint)) c.readable ends c.tells in cc
  session_some (b ∷ session) rest e none = cc

  -- for a session that ends, and what follows it
  owed_behind : (most : ℕ) (session rest : List ℕ)
      → EndsWith (stream (requests_to x endpoint)) session
      → offence (stream (requests_to x endpoint)) (session ++ rest) ≡ None
      → Owed (suc most) (session ++ rest) ≡ owed x endpoint (session ++ rest) ++ Owed most rest
  owed_behind most session rest e clean =
      owed_more most (session ++ rest) (session_some session rest e)
      ∙ ap (λ (v : Option (List ℕ)). owed x endpoint (session ++ rest) ++ on_rest v (Owed most))
      (rest_behind (stream (requests_to x endpoint)) session rest e clean)

  -- What was written of sessions that were served in turn, of bytes of which these are left: what
  -- is owed for them, so that what is owed for all is that and then what is owed for those.
  record Owes (i : Input) (w : List ℕ) (sink : SinkView) (served : List Outcome)
      (bytes : List ℕ) (next : Input) (later : SinkView) : Type 0 where
    rest : List ℕ
    left : next.left ≡ Some rest
    before : List ℕ
    written : later.written ≡ Some before
    gained : List ℕ
    owed_so : (more : ℕ) → Owed (length served + more) bytes ≡ gained ++ Owed more rest
    split : ((served ≡ []) × (before ≡ w) × (later.held ≡ sink.held) × (gained ≡ []))
        ⊎ ((served ≡ [] → ⊥) × (later.held ≡ []) × (before ≡ w ++ sink.held ++ gained))

  -- one that was served well
  module _ (i mid : Input) (sink later : SinkView) (outcome : Outcome) (well : IsWell outcome)
      (serves : Serves x endpoint i mid sink later outcome) (bytes w : List ℕ)
      (left : i.left ≡ Some bytes) (written : sink.written ≡ Some w) where
    clean : offence (stream (requests_to x endpoint)) bytes ≡ None
    clean = by outcome.inbound well.inbound (serves.judged bytes left) where
      by : (inbound : Inbound) → inbound ≡ inbounds.Ended → Judges x endpoint bytes inbound
          → offence (stream (requests_to x endpoint)) bytes ≡ None
      by inbound is judged = rw is at judged

    all : later.written ≡ Some (w ++ sink.held ++ owed x endpoint bytes)
    all =
        let o = serves.written bytes w left written in
        o.1 ∙ ap Some (subst (λ (v : Inbound). WritesOwed (owed x endpoint bytes) sink.held w o.0 v
        outbounds.Done) well.inbound (subst (WritesOwed (owed x endpoint bytes) sink.held w o.0
        outcome.inbound) well.outbound o.2))

  -- all that were
  owe_along : (served : List Outcome) (i next : Input) (sink later : SinkView)
      → InTurn x endpoint i sink served next later → (bytes w : List ℕ) → i.left ≡ Some bytes
      → sink.written ≡ Some w → Owes i w sink served bytes next later
  unfolding InTurn
  owe_along [] i next sink later t bytes w left written = record {
    rest = bytes;
    left = ap (λ (n : Input). n.left) t.0 ∙ left;
    before = w;
    written = ap (λ (s : SinkView). s.written) t.1 ∙ written;
    gained = [];
    owed_so = λ more. ap (λ (n : ℕ). Owed n bytes) (none_more more);
    split = inl (refl, refl, ap (λ (s : SinkView). s.held) t.1, refl);
  }
  owe_along (outcome ∷ served) i next sink later t bytes w left written =
      let session = t.0 in
      let front = t.6 bytes left in
      let rest = front.0 in
      let empties = serves_empties x endpoint i t.1 sink t.2 outcome t.4 in
      let here = all i t.1 sink t.2 outcome t.3 t.4 bytes w left written in
      let o = owe_along served (behind_session session i t.1) next t.2 later t.7 rest
      (w ++ sink.held ++ owed x endpoint bytes)
      (ap (option_map (drop (length session))) left
      ∙ ap Some (ap (drop (length session)) front.1 ∙ drop-append_seam session rest)) here in
      record {
        rest = o.rest;
        left = o.left;
        before = o.before;
        written = o.written;
        gained = owed x endpoint bytes ++ o.gained;
        owed_so = λ more. ap (λ (n : ℕ). Owed n bytes) (one_more_of (length served) more) ∙
            subst (λ (b : List ℕ). Owed (suc (length served + more)) b
            ≡ (owed x endpoint b ++ o.gained) ++ Owed more o.rest) (sym front.1)
            (owed_behind (length served + more) session rest t.5
            (subst (λ (b : List ℕ). offence (stream (requests_to x endpoint)) b ≡ None) front.1
            (clean i t.1 sink t.2 outcome t.3 t.4 bytes w left written))
            ∙ ap (λ l. owed x endpoint (session ++ rest) ++ l) (o.owed_so more)
            ∙ sym (append_assoc (owed x endpoint (session ++ rest)) o.gained (Owed more o.rest)));
        split = inr (
          λ e. cc,
          elim o.split [
            | inl none ↦ none.2 ∙ empties
            | inr some ↦ some.1
          ],
          elim o.split [
            | inl none ↦ none.1
                ∙ ap (λ l. w ++ sink.held ++ l) (sym (append-nil (owed x endpoint bytes))
                ∙ ap (λ l. owed x endpoint bytes ++ l) (sym none.3))
            | inr some ↦ some.2
                ∙ ap (λ l. (w ++ sink.held ++ owed x endpoint bytes) ++ l ++ o.gained) empties
                ∙ ap (λ l. l ++ o.gained) (append-nil (w ++ sink.held ++ owed x endpoint bytes))
                ∙ append_assoc (w ++ sink.held) (owed x endpoint bytes) o.gained
          ],
        );
      }

  -- ---- why no more were served

  module _ (i next i' : Input) (sink later sink' : SinkView) (served : List Outcome)
      (bytes w : List ℕ) (o : Owes i w sink served bytes next later) where
    -- what was written, where what is owed for the bytes that are left isn't or nothing is
    front_of : (more : List ℕ) → GrowsByPrefix w o.before (sink.held ++ (o.gained ++ more))
    front_of more = elim o.split [
      | inl none ↦ record { kept = 0; grown = none.1 ∙ sym (append-nil w) }
      | inr some ↦ record {
        kept = length (sink.held ++ o.gained) + 0;
        grown = some.2 ∙ append_assoc w sink.held o.gained
            ∙ ap (λ l. w ++ l) (sym (append-nil (sink.held ++ o.gained))
            ∙ sym (take-append-add (sink.held ++ o.gained) more 0)
            ∙ ap (take (length (sink.held ++ o.gained) + 0))
            (append_assoc sink.held o.gained more));
      }
    ]

    -- and first bytes of it
    front_then : (w' owed_last more : List ℕ)
        → GrowsByPrefix o.before w' (later.held ++ owed_last)
        → GrowsByPrefix w w' (sink.held ++ (o.gained ++ (owed_last ++ more)))
    front_then w' owed_last more grew = elim o.split [
      | inl none ↦ longer w w' (sink.held ++ owed_last)
          (sink.held ++ (o.gained ++ (owed_last ++ more))) more
          (append_assoc sink.held owed_last more
          ∙ ap (λ l. sink.held ++ (l ++ (owed_last ++ more))) (sym none.3))
          (subst (λ (l : List ℕ). GrowsByPrefix w w' (l ++ owed_last)) none.2
          (subst (λ (l : List ℕ). GrowsByPrefix l w' (later.held ++ owed_last)) none.1 grew))
      | inr some ↦ longer w w' ((sink.held ++ o.gained) ++ owed_last)
          (sink.held ++ (o.gained ++ (owed_last ++ more))) more
          (append_assoc (sink.held ++ o.gained) owed_last more
          ∙ append_assoc sink.held o.gained (owed_last ++ more))
          (behind w w' (sink.held ++ o.gained) owed_last
          (subst (λ (l : List ℕ). GrowsByPrefix (w ++ (sink.held ++ o.gained)) w' (l ++ owed_last))
          some.1 (subst (λ (l : List ℕ). GrowsByPrefix l w' (later.held ++ owed_last))
          (some.2 ∙ append_assoc w sink.held o.gained) grew)))
    ] where
      -- a front of bytes is one of more
      longer : (w w' a b more : List ℕ) → a ++ more ≡ b → GrowsByPrefix w w' a
          → GrowsByPrefix w w' b
      longer w w' a b more is grew = subst (GrowsByPrefix w w') is
          (grown_within w w' a more grew)

      behind : (w w' a b : List ℕ) → GrowsByPrefix (w ++ a) w' b → GrowsByPrefix w w' (a ++ b)
      behind w w' a b grew = record {
        kept = length a + grew.kept;
        grown = grew.grown ∙ append_assoc w a (take grew.kept b)
            ∙ ap (λ l. w ++ l) (sym (take-append-add a b grew.kept));
      }

  -- what is owed is written, or first bytes of it
  owed_front : (owed held w w' : List ℕ) (inbound : Inbound) (outbound : Outbound)
      → WritesOwed owed held w w' inbound outbound → GrowsByPrefix w w' (held ++ owed)
  owed_front owed held w w' inbounds.Ended outbounds.Done h = grown_all owed held w w' h
  owed_front owed held w w' inbounds.Ended outbounds.WriteFault h = h
  owed_front owed held w w' inbounds.Ended outbounds.Memory h = h
  owed_front owed held w w' (inbounds.Offended o) outbounds.Done h = grown_all owed held w w' h
  owed_front owed held w w' (inbounds.Offended o) outbounds.WriteFault h = h
  owed_front owed held w w' (inbounds.Offended o) outbounds.Memory h = h
  owed_front owed held w w' inbounds.ReadFault outbounds.Done h = h
  owed_front owed held w w' inbounds.ReadFault outbounds.WriteFault h = h
  owed_front owed held w w' inbounds.ReadFault outbounds.Memory h = h
  owed_front owed held w w' inbounds.Memory outbounds.Done h = h
  owed_front owed held w w' inbounds.Memory outbounds.WriteFault h = h
  owed_front owed held w w' inbounds.Memory outbounds.Memory h = h

  module _ (most : ℕ) (i i' : Input) (sink sink' : SinkView) (turns : Turns)
      (h : ServesTurns x endpoint most i i' sink sink' turns) (bytes w : List ℕ)
      (left : i.left ≡ Some bytes) (written : sink.written ≡ Some w) where
    o : Owes i w sink h.served bytes h.next h.later
    o = owe_along h.served i h.next sink h.later h.in_turn bytes w left written

    abbrev Wrote : Type 0
    Wrote = (w' : List ℕ) × (sink'.written ≡ Some w')
        × WritesTurns (Owed most bytes) sink.held w w' turns

    -- for all, by how many more sessions might be served
    owed_all : (more : ℕ) → most ≡ length h.served + more
        → Owed most bytes ≡ o.gained ++ Owed more o.rest
    owed_all more is = ap (λ (n : ℕ). Owed n bytes) is ∙ o.owed_so more

    -- no more sessions were served, and this is owed beyond
    rests : Rests h.served h.next i' h.later sink' turns.outcomes → (more : List ℕ)
        → Owed most bytes ≡ o.gained ++ more → (AreAnswered turns → more ≡ []) → Wrote
    rests r more is none = (
      o.before,
      ap (λ (s : SinkView). s.written) r.same ∙ o.written,
      record {
        whole = λ answered. subst (λ (l : List Outcome). WritesAll (Owed most bytes) sink.held l w
            o.before) (sym r.joined) (whole h.served o.split (is
            ∙ ap (λ l. o.gained ++ l) (none answered) ∙ append-nil o.gained));
        front = subst (λ (l : List ℕ). GrowsByPrefix w o.before (sink.held ++ l)) (sym is)
            (front_of i h.next i' sink h.later sink' h.served bytes w o more);
      },
    ) where
      whole : (served : List Outcome) → ((served ≡ []) × (o.before ≡ w)
          × (h.later.held ≡ sink.held) × (o.gained ≡ []))
          ⊎ ((served ≡ [] → ⊥) × (h.later.held ≡ []) × (o.before ≡ w ++ sink.held ++ o.gained))
          → Owed most bytes ≡ o.gained → WritesAll (Owed most bytes) sink.held served w o.before
      whole [] (inl e) all = e.1
      whole [] (inr e) all = absurd (e.0 refl)
      whole (one ∷ served) (inl e) all = cc
      whole (one ∷ served) (inr e) all = e.2 ∙ ap (λ l. w ++ sink.held ++ l) (sym all)

    -- one more was served
    stopped : Stops x endpoint h.served h.next i' h.later sink' turns.outcomes
        → length h.served < most → turns.end ≡ stops.Stopped → Wrote
    stopped s few end = (
      out.0,
      out.1,
      record {
        whole = whole;
        front = subst (λ (l : List ℕ). GrowsByPrefix w out.0 (sink.held ++ l)) (sym all)
            (front_then i h.next i' sink h.later sink' h.served bytes w o out.0
            (owed x endpoint o.rest) beyond (owed_front (owed x endpoint o.rest) h.later.held
            o.before out.0 s.last.inbound s.last.outbound out.2));
      },
    ) where
      k : ℕ
      k = most - length h.served - 1

      some : o.rest ≡ [] → ⊥
      some none = s.some (o.left ∙ ap Some none)

      beyond : List ℕ
      beyond = on_rest (behind_end (stream (requests_to x endpoint)) [] o.rest) (Owed k)

      all : Owed most bytes ≡ o.gained ++ (owed x endpoint o.rest ++ beyond)
      all = owed_all (suc k) (omega (arith, few))
          ∙ ap (λ l. o.gained ++ l) (owed_more k o.rest some)

      out : (w' : List ℕ) × (sink'.written ≡ Some w') × WritesOwed (owed x endpoint o.rest)
          h.later.held o.before w' s.last.inbound s.last.outbound
      out = s.serves.written o.rest o.before o.left o.written

      -- where it was refused nothing is owed beyond
      refused : (offence : Offence) → s.last.inbound ≡ inbounds.Offended offence → beyond ≡ []
      refused offence is = ap (λ (v : Option (List ℕ)). on_rest v (Owed k))
          (none_behind (stream (requests_to x endpoint)) ends (closes (requests_to x endpoint))
          o.rest offence (subst (Judges x endpoint o.rest) is (s.serves.judged o.rest o.left)))

      joined : (w' : List ℕ) → w' ≡ o.before ++ h.later.held ++ owed x endpoint o.rest
          → w' ≡ w ++ sink.held ++ (o.gained ++ owed x endpoint o.rest)
      joined w' is = elim o.split [
        | inl e ↦ is ∙ ap (λ l. l ++ h.later.held ++ owed x endpoint o.rest) e.1
            ∙ ap (λ l. w ++ l ++ owed x endpoint o.rest) e.2
            ∙ ap (λ l. w ++ sink.held ++ (l ++ owed x endpoint o.rest)) (sym e.3)
        | inr e ↦ is ∙ ap (λ l. l ++ h.later.held ++ owed x endpoint o.rest) e.2
            ∙ ap (λ l. (w ++ sink.held ++ o.gained) ++ l ++ owed x endpoint o.rest) e.1
            ∙ ap (λ l. l ++ owed x endpoint o.rest) (append-nil (w ++ sink.held ++ o.gained))
            ∙ append_assoc (w ++ sink.held) o.gained (owed x endpoint o.rest)
      ]

      whole : AreAnswered turns → WritesAll (Owed most bytes) sink.held turns.outcomes w out.0
      whole (inl done) = cc
      whole (inr (inl most)) = cc
      whole (inr (inr e)) =
          let last_is : Some s.last ≡ Some e.0 = sym (last_snoc h.served s.last)
          ∙ ap last_of (sym s.joined) ∙ e.3 in
          let same : s.last ≡ e.0 = ap (only s.last) last_is in
          let inbound : s.last.inbound ≡ inbounds.Offended e.1 =
          ap (λ (c : Outcome). c.inbound) same ∙ e.4 in
          let outbound : s.last.outbound ≡ outbounds.Done =
          ap (λ (c : Outcome). c.outbound) same ∙ e.5 in
          let wrote : out.0 ≡ o.before ++ h.later.held ++ owed x endpoint o.rest =
          subst (λ (v : Inbound). WritesOwed (owed x endpoint o.rest) h.later.held o.before out.0 v
          outbounds.Done) inbound (subst (WritesOwed (owed x endpoint o.rest) h.later.held o.before
          out.0 s.last.inbound) outbound out.2) in
          let owed_is : Owed most bytes ≡ o.gained ++ owed x endpoint o.rest =
          all ∙ ap (λ l. o.gained ++ (owed x endpoint o.rest ++ l)) (refused e.1 inbound)
          ∙ ap (λ l. o.gained ++ l) (append-nil (owed x endpoint o.rest)) in
          subst (λ (l : List Outcome). WritesAll (Owed most bytes) sink.held l w out.0)
          (sym s.joined)
          (writes_some (Owed most bytes) sink.held h.served s.last w out.0 (joined out.0 wrote
          ∙ ap (λ l. w ++ sink.held ++ l) (sym owed_is)))

    -- what is written of the sessions of a connection
    pub turns_write : Wrote
    turns_write = by turns.end refl h.ended where
      read_fault : (more : List ℕ) → turns.end ≡ stops.ReadFault → AreAnswered turns → more ≡ []
      read_fault more is (inl e) = cc
      read_fault more is (inr (inl e)) = cc
      read_fault more is (inr (inr e)) = let end = e.2 in cc

      memory : (more : List ℕ) → turns.end ≡ stops.Memory → AreAnswered turns → more ≡ []
      memory more is (inl e) = cc
      memory more is (inr (inl e)) = cc
      memory more is (inr (inr e)) = let end = e.2 in cc

      by : (end : TurnsEnd) → turns.end ≡ end → Ends x endpoint end most h.served h.next i' h.later
          sink' turns.outcomes → Wrote
      by stops.Done is e =
          let k = most - length h.served in
          let few = e.0 in
          let none = nothing_left h.next.left i'.left o.rest o.left e.2 in
          rests e.1 [] (owed_all k (omega (arith, few))
          ∙ ap (λ l. o.gained ++ l) (ap (Owed k) none ∙ owed_none k)) (λ answered. refl)
      by stops.Most is e =
          let all = e.0 in
          rests e.1 [] (owed_all 0 (omega (arith, all))
          ∙ ap (λ l. o.gained ++ l) (owed_never o.rest)) (λ answered. refl)
      by stops.Stopped is e = stopped e.1 e.0 is
      by stops.ReadFault is e =
          let k = most - length h.served in
          let few = e.0 in
          rests e.1 (Owed k o.rest) (owed_all k (omega (arith, few)))
          (read_fault (Owed k o.rest) is)
      by stops.Memory is e =
          let none = ap length e.0 in
          rests e.1 (Owed most o.rest) (owed_all most (omega (arith, none)))
          (memory (Owed most o.rest) is)
