-- What was sent of the documents of two lists, when no more comes.
use Rattle.std.proofs.Common.{◌≡◌, ℕ, ◌+◌, ◌<◌, ◌≤◌, ◌^◌, ◌⊎◌, List, [], ◌∷◌, ◌++◌}
use Rattle.std.proofs.Common.{length, take, Some, None, Ok, Option, IfSome, sym, refl, ap, ◌∙◌}
use Rattle.std.proofs.Common.{subst, inl, inr, arith, append_assoc, append-nil, length-append}
use Rattle.std.proofs.Math.Seq.{take-append-add}
use Rattle.io_edges.{proofs.Putting.Puts-then, specs.Faults.CountsFaults, specs.Flow.GrowsByPrefix}
use Rattle.io_edges.specs.Flow.{Told}
use Rattle.string_tables.specs.StringTable.{StringTable}
use Rattle.nbfx_values.specs.{declared.content.Item.Item}
use Rattle.nmf_records.specs.{declared.frame.Frame.TheVariants.End, Writing.frame_bytes_of}
use Rattle.nbfx_encoder.specs.declared.faults.EncodeFault.{EncodeFault}
use Rattle.session_ends.specs.Sent.{first_table}
use Rattle.unit_streams.specs.Tellers.{state_behind, told_along}
use Rattle.stream_loop.specs.declared.outbound.Outbound.{Outbound}
use Rattle.stream_loop.specs.declared.outbound.Outbound.TheVariants as outbounds
use Rattle.stream_loop.specs.Parts.{counting, Part}
use Rattle.io_edges.specs.{Puts.Puts, Views.SinkView}
use Rattle.stream_loop.specs.Writing.{HasStopped, HasWritten, Wrote}
use Rattle.stream_loop.specs.Writing.{due_next as due_part}
use Rattle.stream_loop.proofs.{Grown.all_written}
use Rattle.stream_loop.proofs.Writing.{grown_within, known_told, told_some}
use Rattle.client.specs.declared.{outcome.ClientOut.ClientOut, settings.CallSettings.CallSettings}
use Rattle.client.specs.LaneWriting.{AreEmpty, AreEnvelopes, envelope_part, IsUnfitNext, outbound_for}
use Rattle.client.specs.{Sent.sending_by, Sent.due_next, Sent.due_of, Sent.envelopes}
use Rattle.client.specs.Sent.{HasBroken, HasSentFitting, Sending, SendsAll}
use Rattle.client.proofs.Enveloped.{count_beside, cut_twice, empty_first, empty_last}
use Rattle.client.proofs.Enveloped.{envelopes_counted, envelopes_cut}
use Rattle.client.proofs.Enveloped.{envelopes_spelled, told_beside}

-- first bytes behind others are first bytes of both
grows_behind : (w a w' x : List ℕ) → GrowsByPrefix (w ++ a) w' x → GrowsByPrefix w w' (a ++ x)
grows_behind w a w' x g = record {
  kept = length a + g.kept;
  grown = g.grown ∙ append_assoc w a (take g.kept x)
      ∙ ap (λ l. w ++ l) (sym (take-append-add a x g.kept));
}

-- none or all of what is due
front_of : (w w' due short : List ℕ) → (short ≡ due) ⊎ (short ≡ []) → GrowsByPrefix w w' short
    → GrowsByPrefix w w' due
front_of w w' due short (inl same) g = subst (GrowsByPrefix w w') same g
front_of w w' due short (inr none) g =
    grown_within w w' [] due (subst (GrowsByPrefix w w') none g)

module _ (s : CallSettings) (made rest : List (List Item)) (parts others : List Part)
    (table : StringTable)
    (are : AreEnvelopes s (first_table s.statics.now) made parts table)
    (empty : AreEmpty others) (few : length made < 2 ^ 64) where
  abbrev x : Sending
  x = sending_by s (made ++ rest)

  abbrev t0 : StringTable
  t0 = first_table s.statics.now

  abbrev told : List Part → List ℕ
  told = told_along counting 0

  -- What was told of the first parts, as envelopes of documents; what is due behind them, as it is of
  -- the other documents, or nothing.
  record CutAt (done : List Part) (after : List Part) (closing : List ℕ) : Type 0 where
    documents : List (List Item)
    left : List (List Item)
    joined : made ++ rest ≡ documents ++ left
    mid : StringTable
    spelled : envelopes x documents ≡ Ok (told done, mid)
    counted : state_behind counting 0 done ≡ length documents
    within : length documents ≤ length made
    due : (count : ℕ) → (due_part counting count closing after ≡ due_next x mid left)
        ⊎ (due_part counting count closing after ≡ [])

  -- the last bytes: none, or End where no document is left
  abbrev Ends : List ℕ → Type 0
  Ends closing = (closing ≡ []) ⊎ ((rest ≡ []) × (closing ≡ frame_bytes_of End []))

  -- behind all envelopes
  closing_due : (after : List Part) → AreEmpty after
      → (closing : List ℕ) → Ends closing → (count : ℕ)
      → (due_part counting count closing after ≡ due_next x table rest)
      ⊎ (due_part counting count closing after ≡ [])
  closing_due [] none closing (inl nothing) count = inr nothing
  closing_due [] none closing (inr end) count =
      inl (end.1 ∙ ap (due_next x table) (sym end.0))
  closing_due (one ∷ after) none closing ends count = inr none.0

  -- before the next envelope
  next_due : (mid : StringTable) (left : List (List Item)) (next : Part) (after : List Part)
      → AreEnvelopes s mid left (next ∷ after) table
      → next.bytes ≡ due_next x mid (left ++ rest)
  next_due mid [] next after a = absurd (cc a.0)
  next_due mid (d ∷ left) next after a =
      let same : next ≡ envelope_part s a.0.0 = cc a.3 in
      ap (λ (p : Part). p.bytes) same ∙ ap (due_of s.mode) (sym a.1)

  behind_all : (m after : List Part) → AreEmpty m → AreEmpty after → (closing : List ℕ)
      → Ends closing → CutAt (parts ++ m) after closing
  behind_all m after none none' closing ends = record {
    documents = made;
    left = rest;
    joined = refl;
    mid = table;
    spelled = envelopes_spelled s made t0 table parts 0 0 are
        ∙ ap (λ l. Ok (l, table)) (sym (told_beside parts m 0 none));
    counted = count_beside parts m 0 none ∙ envelopes_counted s made t0 table parts are few;
    within = omega arith;
    due = closing_due after none' closing ends;
  }

  within_made : (done m : List Part) → parts ≡ done ++ m → (closing : List ℕ) → Ends closing
      → CutAt done (m ++ others) closing
  within_made done [] is closing ends =
      subst (λ (l : List Part). CutAt l others closing)
      (append-nil parts ∙ is ∙ append-nil done) (behind_all [] others tt empty closing ends)
  within_made done (next ∷ m) is closing ends =
      let c = envelopes_cut s made t0 table done (next ∷ m)
      (subst (λ (l : List Part). AreEnvelopes s t0 made l table) is are) in
      let shorter : length c.0 ≤ length made =
      (let n = ap length c.3 ∙ length-append c.0 c.1 in omega (arith, n)) in record {
        documents = c.0;
        left = c.1 ++ rest;
        joined = ap (λ l. l ++ rest) c.3 ∙ append_assoc c.0 c.1 rest;
        mid = c.2;
        spelled = envelopes_spelled s c.0 t0 c.2 done 0 0 c.5;
        counted = envelopes_counted s c.0 t0 c.2 done c.5 (omega (arith, shorter, few));
        within = shorter;
        due = λ count. inl (next_due c.2 c.1 next m c.6);
      }

  cut_at : (done after : List Part) → parts ++ others ≡ done ++ after → (closing : List ℕ)
      → Ends closing → CutAt done after closing
  cut_at done after is closing ends = elim (cut_twice parts others done after is) [
    | inl c ↦ subst (λ (l : List Part). CutAt done l closing) (sym c.2)
        (within_made done c.0 c.1 closing ends)
    | inr c ↦ subst (λ (l : List Part). CutAt l after closing) (sym c.1)
        (behind_all c.0 after (empty_first c.0 after (subst AreEmpty c.2 empty))
        (empty_last c.0 after (subst AreEmpty c.2 empty)) closing ends)
  ]

  -- ---- of sinks, by what they tell

  module _ (first : SinkView) where
    abbrev Stopped : Outbound → List ℕ → ℕ → SinkView → Type 0
    Stopped o closing whole now = HasStopped counting o closing first
        (parts ++ others) (λ count. whole ≡ count) now

    whole_is : (closing : List ℕ) (whole : ℕ) (now : SinkView)
        → HasWritten counting closing first (parts ++ others)
        (λ count. whole ≡ count) now → whole ≡ length made
    whole_is closing whole now h =
        h.left ∙ count_beside parts others 0 empty ∙ envelopes_counted s made t0 table parts are few

    few_stopped : (o : Outbound) (closing : List ℕ) (whole : ℕ) (now : SinkView) → Ends closing
        → Stopped o closing whole now → whole ≤ length made
    few_stopped o closing whole now ends h =
        let c = cut_at h.done h.rest h.joined closing ends in
        let same = h.left ∙ c.counted in
        let within = c.within in omega (arith, same, within)

    -- no more envelopes were put whole than were made
    pub few_whole : (o : Outbound) (closing : List ℕ) (whole : ℕ) (now : SinkView) → Ends closing
        → Wrote counting o closing first (parts ++ others)
        (λ count. whole ≡ count) now → whole ≤ length made
    few_whole outbounds.Done closing whole now ends h =
        let same = whole_is closing whole now h in omega (arith, same)
    few_whole outbounds.WriteFault closing whole now ends h =
        few_stopped outbounds.WriteFault closing whole now ends h
    few_whole outbounds.Memory closing whole now ends h =
        few_stopped outbounds.Memory closing whole now ends h

    -- behind bytes that were put before
    module _ (before : List ℕ) (start : SinkView)
        (puts : Puts start first before (Ok tt))
        (flushed : first.held ≡ []) where
      -- what is written behind the bytes before
      behind : (P Q : List ℕ → List ℕ → Type 0) (now : SinkView)
          → Told first.written now.written P
          → ((w w' : List ℕ) → P (w ++ start.held ++ before) w' → Q w w')
          → Told start.written now.written Q
      behind P Q now told then =
          known_told Q start.written now.written (λ w is.
          let k = all_written start first before puts flushed w is in
          let l = told_some P first.written now.written k.0 k.1 told in (
            l.0,
            l.1,
            then w l.0 (subst (λ (b : List ℕ). P b l.0) k.2 l.2),
          ))

      -- the writing ended before all was put
      broken : (o : Outbound) (closing : List ℕ) (whole : ℕ) (now : SinkView) → Ends closing
          → Stopped o closing whole now
          → HasBroken x before start o whole now
      broken o closing whole now ends h =
          let c = cut_at h.done h.rest h.joined closing ends in
          let count : ℕ = state_behind counting 0 h.done in
          let short : List ℕ = due_part counting count closing h.rest in
          let due : List ℕ = due_next x c.mid c.left in record {
            done = c.documents;
            rest = c.left;
            joined = c.joined;
            counted = h.left ∙ c.counted;
            bytes = told h.done;
            table = c.mid;
            spelled = c.spelled;
            grown = behind (λ w w'. GrowsByPrefix w w' (first.held ++ (told h.done ++ short)))
                (λ w w'. GrowsByPrefix w w' (start.held ++ (before ++ (told h.done ++ due)))) now
                h.grown (λ w w' g.
                grows_behind w (start.held) w' (before ++ (told h.done ++ due))
                (grows_behind (w ++ start.held) before w' (told h.done ++ due)
                (longer ((w ++ start.held) ++ before) (told h.done) short due w' (c.due count)
                (subst (GrowsByPrefix ((w ++ start.held) ++ before) w')
                (ap (λ l. l ++ (told h.done ++ short)) flushed) g))));
            whole = λ plain. behind
                (λ w w'. GrowsByPrefix (w ++ first.held ++ told h.done) w' short)
                (λ w w'. GrowsByPrefix (w ++ start.held ++ (before ++ told h.done)) w' due) now
                (h.whole (puts.same_holding ∙ plain.0, flushed)) (λ w w' g.
                front_of (w ++ start.held ++ (before ++ told h.done)) w' due short (c.due count)
                (subst (λ (b : List ℕ). GrowsByPrefix b w' short)
                (ap (λ l. (((w ++ start.held) ++ before) ++ l) ++ told h.done) flushed
                ∙ ap (λ l. l ++ told h.done) (append-nil ((w ++ start.held) ++ before))
                ∙ append_assoc (w ++ start.held) before (told h.done)) g));
            emptied = h.emptied;
            faults_counted = subst (λ n. CountsFaults n now.faults (o ≡ outbounds.WriteFault))
                (puts.counted.same (λ e. cc)) h.counted;
          }
        where
          -- behind bytes that are told, the first of what is due
          longer : (w told short due w' : List ℕ) → (short ≡ due) ⊎ (short ≡ [])
              → GrowsByPrefix w w' (told ++ short) → GrowsByPrefix w w' (told ++ due)
          longer w told short due w' (inl same) g =
              subst (λ l. GrowsByPrefix w w' (told ++ l)) same g
          longer w told short due w' (inr none) g =
              grown_within w w' told due
              (subst (GrowsByPrefix w w') (ap (λ l. told ++ l) none ∙ append-nil told) g)

      -- all was put and is written
      all_put : (closing : List ℕ) (whole : ℕ) (now : SinkView)
          → HasWritten counting closing first (parts ++ others)
          (λ count. whole ≡ count) now
          → Puts start now
          (before ++ (told parts ++ closing)) (Ok tt)
      all_put closing whole now h =
          Puts-then (Ok tt) puts
          (subst (λ l. Puts first now (l ++ closing) (Ok tt))
          (told_beside parts others 0 empty) h.puts)

      abbrev Sent : ClientOut → ℕ → SinkView → Type 0
      Sent = SendsAll x before start

      -- all documents were made, and End was due
      pub sent_to_end : (o : Outbound) (whole : ℕ) (now : SinkView) → rest ≡ []
          → Wrote counting o (frame_bytes_of End []) first
          (parts ++ others) (λ count. whole ≡ count) now
          → Sent (outbound_for o None whole) whole now
      sent_to_end outbounds.Done whole now none h = record {
        bytes = told parts;
        table = table;
        spelled = ap (envelopes x) (ap (λ l. made ++ l) none ∙ append-nil made)
            ∙ envelopes_spelled s made t0 table parts 0 0 are;
        counted = whole_is _ whole now h
            ∙ ap length (sym (ap (λ l. made ++ l) none ∙ append-nil made));
        puts = all_put (frame_bytes_of End []) whole now h;
        emptied = h.emptied;
      }
      sent_to_end outbounds.WriteFault whole now none h =
          broken outbounds.WriteFault _ whole now (inr (none, refl)) h
      sent_to_end outbounds.Memory whole now none h =
          broken outbounds.Memory _ whole now (inr (none, refl)) h

      fits_not : (fault : EncodeFault) (left : List (List Item)) → rest ≡ left
          → IsUnfitNext s table left fault → (whole : ℕ) (now : SinkView)
          → HasWritten counting [] first (parts ++ others)
          (λ count. whole ≡ count) now
          → HasSentFitting x before start whole fault whole now
      fits_not fault [] is unfit whole now h = absurd unfit
      fits_not fault (document ∷ left) is unfit whole now h = record {
        done = made;
        document = document;
        rest = left;
        joined = ap (λ l. made ++ l) is;
        counted = whole_is [] whole now h;
        number_is = whole_is [] whole now h;
        table = table;
        why = unfit.0;
        unfit = unfit.1;
        fault_is = unfit.2;
        puts = record {
          bytes = told parts;
          spelled = envelopes_spelled s made t0 table parts 0 0 are;
          puts = subst (λ l. Puts start now (before ++ l) (Ok tt))
              (append-nil (told parts)) (all_put [] whole now h);
        };
        emptied = h.emptied;
      }

      -- a document doesn't fit, or the writing had stopped before
      pub sent_before : (o : Outbound) (unfit : Option EncodeFault) (whole : ℕ) (now : SinkView)
          → (o ≡ outbounds.Done → unfit ≡ None → ⊥) → IfSome unfit (IsUnfitNext s table rest)
          → Wrote counting o [] first
          (parts ++ others) (λ count. whole ≡ count) now
          → Sent (outbound_for o unfit whole) whole now
      sent_before outbounds.Done None whole now either unfit h = absurd (either refl refl)
      sent_before outbounds.Done (Some fault) whole now either unfit h =
          fits_not fault rest refl unfit whole now h
      sent_before outbounds.WriteFault unfit whole now either next h =
          broken outbounds.WriteFault [] whole now (inl refl) h
      sent_before outbounds.Memory unfit whole now either next h =
          broken outbounds.Memory [] whole now (inl refl) h
