-- How many bytes of a call's session were written to the peer.
use Rattle.std.proofs.Common.{◌≡◌, ℕ, ◌+◌, ◌⊎◌, List, [], ◌∷◌, ◌++◌, length, take, Some, Ok}
use Rattle.std.proofs.Common.{Err, Result, sym, refl, ap, ◌∙◌, subst, inl, inr}
use Rattle.std.proofs.Common.{append_assoc, append-nil, arith}
use Rattle.{std.proofs.Math.Seq.take-append_seam, io_edges.specs.Flow.GrowsByPrefix}
use Rattle.{string_tables.specs.StringTable.StringTable, session_ends.specs.Sent.first_table}
use Rattle.nbfx_values.specs.declared.content.Item.{Item}
use Rattle.client.specs.Sent.{kind_of}
use Rattle.nmf_records.specs.{declared.frame.Frame.TheVariants.End, Writing.frame_bytes_of}
use Rattle.nbfx_encoder.proofs.LawFacts.{parted, sends_one_more}
use Rattle.nbfx_encoder.specs.Envelopes.{behind_bytes, envelope, envelope_then, envelopes_from}
use Rattle.nbfx_encoder.specs.{Placing.Placed, Spelling.encoded, Spelling.Unfit}
use Rattle.stream_loop.proofs.Grown.{all_written, AllWritten, cut_grew, Grew, grew_more}
use Rattle.stream_loop.{proofs.Writing.told_some, specs.declared.outbound.Outbound.Outbound}
use Rattle.stream_loop.specs.Writing.{IsCut}
use Rattle.initiator_machine.specs.Opening.{opening_bytes}
use Rattle.client.specs.Called.{Ack, Awaited, Read}
use Rattle.client.specs.declared.outcome.ClientOut.{ClientOut}
use Rattle.client.specs.Called.{BreaksOpening, Sends, WritesCall, WritesFirst, WritesNone}
use Rattle.client.specs.Sent.{bytes_of, due_next, due_of, envelopes, HasBroken, Sending}
use Rattle.client.specs.Sent.{sent_behind, sent_by, sent_of}
use Rattle.io_edges.specs.Views.{SinkView}
use Rattle.stream_loop.specs.declared.outbound.Outbound.TheVariants as outbounds
use Rattle.client.specs.declared.outcome.ClientOut.TheVariants as out

module _ (x : Sending) where
  -- behind documents that fit, one that doesn't is the first
  unfit_from : (done : List (List Item)) (table behind : StringTable) (number : ℕ) (bytes : List ℕ)
      (d : List Item) (rest : List (List Item)) (why : Unfit)
      → envelopes_from x.forward (kind_of x) x.mode table number done ≡ Ok (bytes, behind)
      → encoded x.forward (kind_of x) behind d ≡ Err why
      → envelopes_from x.forward (kind_of x) x.mode table number (done ++ d ∷ rest)
      ≡ Err (record { number = number + length done; why = why })
  unfit_from [] table behind number bytes d rest why is unfit =
      let pair : ([], table) ≡ (bytes, behind) = cc is in
      let same : table ≡ behind = ap (λ (p : Placed (List ℕ)). p.1) pair in
      let counted : number ≡ number + 0 = omega arith in
      ap (λ one. envelope_then x.mode number one
      (λ t. envelopes_from x.forward (kind_of x) x.mode t (number + 1) rest))
      (ap (λ t. encoded x.forward (kind_of x) t d) same ∙ unfit)
      ∙ ap (λ n. Err (record { number = n; why = why })) counted
  unfit_from (one ∷ done) table behind number bytes d rest why is unfit =
      let p = parted x.mode number (encoded x.forward (kind_of x) table one)
      (λ t. envelopes_from x.forward (kind_of x) x.mode t (number + 1) done) bytes behind is in
      let more = unfit_from done p.payload.1 behind (number + 1) p.others d rest why p.rest_is unfit
      in
      let counted : number + 1 + length done ≡ number + length (one ∷ done) = omega arith in
      ap (λ first. envelope_then x.mode number first
      (λ t. envelopes_from x.forward (kind_of x) x.mode t (number + 1) (done ++ d ∷ rest)))
      p.first_is
      ∙ ap (behind_bytes (envelope x.mode p.payload.0)) more
      ∙ ap (λ n. Err (record { number = n; why = why })) counted

  pub unfit_at : (done : List (List Item)) (table : StringTable) (bytes : List ℕ) (d : List Item)
      (rest : List (List Item)) (why : Unfit) → x.documents ≡ done ++ d ∷ rest
      → envelopes x done ≡ Ok (bytes, table) → encoded x.forward (kind_of x) table d ≡ Err why
      → envelopes x x.documents ≡ Err (record { number = length done; why = why })
  unfit_at done table bytes d rest why joined is unfit =
      let counted : 0 + length done ≡ length done = omega arith in
      ap (envelopes x) joined
      ∙ unfit_from done (first_table x.statics) table 0 bytes d rest why is unfit
      ∙ ap (λ n. Err (record { number = n; why = why })) counted

  -- then the envelopes before it are sent
  pub unfit_sent : (done : List (List Item)) (table : StringTable) (bytes : List ℕ) (d : List Item)
      (rest : List (List Item)) (why : Unfit) → x.documents ≡ done ++ d ∷ rest
      → envelopes x done ≡ Ok (bytes, table) → encoded x.forward (kind_of x) table d ≡ Err why
      → sent_behind x ≡ bytes
  unfit_sent done table bytes d rest why joined is unfit =
      ap (sent_of x) (unfit_at done table bytes d rest why joined is unfit)
      ∙ ap (λ l. bytes_of (envelopes x (take (length done) l))) joined
      ∙ ap (λ l. bytes_of (envelopes x l)) (take-append_seam done (d ∷ rest))
      ∙ ap bytes_of is

  pub all_sent : (table : StringTable) (bytes : List ℕ) → envelopes x x.documents
      ≡ Ok (bytes, table)
      → sent_behind x ≡ bytes ++ frame_bytes_of End []
  all_sent table bytes is = ap (sent_of x) is

  -- what is sent goes on with what is due behind the envelopes of documents
  abbrev GoesOn : (bytes due : List ℕ) → Type 0
  GoesOn bytes due = (more : List ℕ) × (sent_behind x ≡ (bytes ++ due) ++ more)

  module _ (d : List Item) (rest done : List (List Item)) (table : StringTable) (bytes : List ℕ)
      (joined : x.documents ≡ done ++ d ∷ rest) (is : envelopes x done ≡ Ok (bytes, table)) where
    -- with an envelope, behind which it goes on so
    goes_on_with : ((table' : StringTable) (bytes' : List ℕ)
        → envelopes x (done ++ d ∷ []) ≡ Ok (bytes', table')
        → GoesOn bytes' (due_next x table' rest))
        → (answer : Result (Placed (List ℕ)) Unfit) → encoded x.forward (kind_of x) table d ≡ answer
        → GoesOn bytes (due_of x.mode answer)
    goes_on_with next (Err why) unfit = (
      [],
      unfit_sent done table bytes d rest why joined is unfit ∙ sym (append-nil bytes)
          ∙ sym (append-nil (bytes ++ [])),
    )
    goes_on_with next (Ok payload) fits =
        let one : envelopes x (done ++ d ∷ [])
        ≡ Ok (bytes ++ envelope x.mode payload.0, payload.1) =
        sends_one_more x.forward (kind_of x) x.mode (first_table x.statics) table 0 done d bytes is
        ∙ ap (λ one. behind_bytes bytes (envelope_then x.mode (0 + length done) one
        (λ last. Ok ([], last)))) fits
        ∙ ap (λ b. Ok (bytes ++ b, payload.1)) (append-nil (envelope x.mode payload.0)) in
        let more = next payload.1 (bytes ++ envelope x.mode payload.0) one in (
          due_next x payload.1 rest ++ more.0,
          more.1 ∙ append_assoc (bytes ++ envelope x.mode payload.0) (due_next x payload.1 rest)
              more.0,
        )

  pub goes_on : (rest done : List (List Item)) (table : StringTable) (bytes : List ℕ)
      → x.documents ≡ done ++ rest → envelopes x done ≡ Ok (bytes, table)
      → GoesOn bytes (due_next x table rest)
  goes_on [] done table bytes joined is = (
    [],
    all_sent table bytes (ap (envelopes x) (joined ∙ append-nil done) ∙ is)
        ∙ sym (append-nil (bytes ++ frame_bytes_of End [])),
  )
  goes_on (d ∷ rest) done table bytes joined is =
      goes_on_with d rest done table bytes joined is
      (λ table' bytes' one. goes_on rest (done ++ d ∷ []) table' bytes'
      (joined ∙ sym (append_assoc done (d ∷ []) rest)) one)
      (encoded x.forward (kind_of x) table d) refl

  module _ (via : List ℕ) (first now : SinkView) where
    abbrev opening : List ℕ
    opening = opening_bytes x.mode x.encoding via

    abbrev Grew' : List ℕ → Type 0
    Grew' = Grew first now

    abbrev All' : List ℕ → Type 0
    All' = AllWritten first now

    -- the writing ended at the opening
    opening_grew : (o : Outbound) → IsCut o opening first now → Grew' opening
    opening_grew o cut = cut_grew o opening first now cut

    -- or behind envelopes
    broken_grew : (o : Outbound) (sent : ℕ)
        → HasBroken x opening first o sent now
        → Grew' (sent_by x via)
    broken_grew o sent h =
        let due : List ℕ = due_next x h.table h.rest in
        let on = goes_on h.rest h.done h.table h.bytes h.joined h.spelled in
        let same : (opening ++ (h.bytes ++ due)) ++ on.0 ≡ sent_by x via =
        append_assoc opening (h.bytes ++ due) on.0 ∙ ap (λ l. opening ++ l) (sym on.1) in
        subst Grew' same (grew_more first now
        (opening ++ (h.bytes ++ due)) on.0 (λ w is. told_some (λ w w'. GrowsByPrefix w w'
        (first.held ++ (opening ++ (h.bytes ++ due)))) first.written now.written w is h.grown))

    -- the envelopes of the first documents are written whole then
    first_written : (o : Outbound) (sent : ℕ)
        → HasBroken x opening first o sent now
        → (w : List ℕ) → first.written ≡ Some w → (w' : List ℕ) × (now.written ≡ Some w')
        × WritesFirst x via first w w' sent
    first_written o sent h w is =
        let due : List ℕ = due_next x h.table h.rest in
        let k = told_some (λ w w'. GrowsByPrefix w w'
        (first.held ++ (opening ++ (h.bytes ++ due)))) first.written now.written w is h.grown
        in (
          k.0,
          k.1,
          record {
            done = h.done;
            rest = h.rest;
            joined = h.joined;
            counted = h.counted;
            bytes = h.bytes;
            table = h.table;
            spelled = h.spelled;
            within = k.2;
            grown = λ plain.
                let l = told_some (λ w w'. GrowsByPrefix (w ++ first.held ++ (opening ++ h.bytes))
                w' due) first.written now.written w is (h.whole plain) in
                let same : l.0 ≡ k.0 = cc (l.1, k.1) in
                subst (λ v. GrowsByPrefix (w ++ first.held ++ (opening ++ h.bytes)) v due) same
                l.2;
          },
        )

    -- what is written of a call
    abbrev Writes : Ack → ClientOut → ℕ → Type 0
    Writes ack outbound sent = (w : List ℕ) → first.written ≡ Some w → (w' : List ℕ)
        × (now.written ≡ Some w') × WritesCall x via first w w' ack outbound sent

    -- with a fact more, and with two
    with_fact : (A : Type 0) (B : List ℕ → List ℕ → Type 0) → A
        → ((w : List ℕ) → first.written ≡ Some w → (w' : List ℕ) × (now.written ≡ Some w') × B w w')
        → (w : List ℕ) → first.written ≡ Some w → (w' : List ℕ) × (now.written ≡ Some w')
        × (A × B w w')
    with_fact A B a all w is = let k = all w is in (k.0, k.1, (a, k.2))

    with_facts : (A C : Type 0) (B : List ℕ → List ℕ → Type 0) → A → C
        → ((w : List ℕ) → first.written ≡ Some w → (w' : List ℕ) × (now.written ≡ Some w') × B w w')
        → (w : List ℕ) → first.written ≡ Some w → (w' : List ℕ) × (now.written ≡ Some w')
        × (A × C × B w w')
    with_facts A C B a c all w is = let k = all w is in (k.0, k.1, (a, c, k.2))

    -- two facts of what is written now
    both : (A B : List ℕ → List ℕ → Type 0)
        → ((w : List ℕ) → first.written ≡ Some w → (w' : List ℕ) × (now.written ≡ Some w') × A w w')
        → ((w : List ℕ) → first.written ≡ Some w → (w' : List ℕ) × (now.written ≡ Some w') × B w w')
        → (w : List ℕ) → first.written ≡ Some w → (w' : List ℕ) × (now.written ≡ Some w')
        × (A w w' × B w w')
    both A B all also w is =
        let k = all w is in
        let l = also w is in
        let same : l.0 ≡ k.0 = cc (l.1, k.1) in
        (k.0, k.1, (k.2, subst (B w) same l.2))

    -- the writing failed behind the Ack, at the opening or behind envelopes
    broken_opening : (o : Outbound) (sent : ℕ)
        → BreaksOpening x via o sent first now
        → (w : List ℕ) → first.written ≡ Some w → (w' : List ℕ) × (now.written ≡ Some w')
        × (GrowsByPrefix w w' (first.held ++ sent_by x via)
        × (WritesNone x via first w w' sent
        ⊎ WritesFirst x via first w w' sent))
    broken_opening o sent h = both (λ w w'. GrowsByPrefix w w' (first.held ++ sent_by x via))
        (λ w w'. WritesNone x via first w w' sent
        ⊎ WritesFirst x via first w w' sent)
        (grew_more first now opening (sent_behind x)
        (opening_grew o h.1))
        (λ w is. let k = opening_grew o h.1 w is in (k.0, k.1, inl (h.0, k.2)))

    broken_behind : (o : Outbound) (sent : ℕ)
        → HasBroken x opening first o sent now
        → (w : List ℕ) → first.written ≡ Some w → (w' : List ℕ) × (now.written ≡ Some w')
        × (GrowsByPrefix w w' (first.held ++ sent_by x via)
        × (WritesNone x via first w w' sent
        ⊎ WritesFirst x via first w w' sent))
    broken_behind o sent h = both (λ w w'. GrowsByPrefix w w' (first.held ++ sent_by x via))
        (λ w w'. WritesNone x via first w w' sent
        ⊎ WritesFirst x via first w w' sent)
        (broken_grew o sent h)
        (λ w is. let k = first_written o sent h w is in (k.0, k.1, inr k.2))

    pub sends_written : (ack : Ack) (outbound : ClientOut) (sent : ℕ)
        → Sends x via ack outbound sent first now
        → Writes ack outbound sent
    sends_written Awaited out.Done sent h =
        with_fact _ _ h.0 (all_written first now opening h.1 h.2)
    sends_written Awaited (out.Unfit number fault) sent h = absurd h
    sends_written Awaited out.WriteFault sent h =
        with_fact _ _ h.0 (opening_grew outbounds.WriteFault h.1)
    sends_written Awaited out.Memory sent h =
        with_fact _ _ h.0 (opening_grew outbounds.Memory h.1)
    sends_written Read out.Done sent h =
        with_facts _ _ _ h.counted ((h.bytes, h.table), h.spelled)
        (subst All' (ap (λ l. opening ++ l) (sym (all_sent h.table h.bytes h.spelled)))
        (all_written first now
        (opening ++ (h.bytes ++ frame_bytes_of End [])) h.puts h.emptied))
    sends_written Read (out.Unfit number fault) sent h =
        let unfit = unfit_at h.done h.table h.puts.bytes h.document h.rest h.why h.joined
        h.puts.spelled h.unfit in
        let same = unfit_sent h.done h.table h.puts.bytes h.document h.rest h.why h.joined
        h.puts.spelled h.unfit in
        with_facts _ _ _ (h.counted ∙ sym h.number_is)
        (record { number = length h.done; why = h.why }, unfit, h.number_is, h.fault_is)
        (subst All' (ap (λ l. opening ++ l) (sym same))
        (all_written first now (opening ++ h.puts.bytes) h.puts.puts
        h.emptied))
    sends_written Read out.WriteFault sent (inl h) = broken_opening outbounds.WriteFault sent h
    sends_written Read out.WriteFault sent (inr h) = broken_behind outbounds.WriteFault sent h
    sends_written Read out.Memory sent (inl h) = broken_opening outbounds.Memory sent h
    sends_written Read out.Memory sent (inr h) = broken_behind outbounds.Memory sent h
