-- What a writer of documents has done when no more comes, and what was sent of two lists then.
use Rattle.std.proofs.Common.{◌≡◌, ℕ, zero, suc, ◌+◌, ◌<◌, ◌^◌, ◌⊎◌, List, [], ◌∷◌, ◌++◌, length, take, None, Some}
use Rattle.std.proofs.Common.{Ok, sym, refl, ap, ◌∙◌, subst, inl, inr, arith, length-append, append-nil}
use Rattle.std.proofs.lemmas.List.{length-take-le, map-append, take_more}
use Rattle.std.proofs.Common.{get_or, min, take_all}
use Rattle.std.proofs.lemmas.Bool.{cases_lt}
use Rattle.nbfx_values.specs.declared.{content.Item.Item, session.Mode.Mode}
use Rattle.nbfx_values.specs.declared.session.Mode.TheVariants.{Duplex, Simplex, Singleton}
use Rattle.nmf_records.specs.{declared.frame.Frame.TheVariants.End, Writing.frame_bytes_of}
use Rattle.session_ends.specs.Sent.{MayBeSent}
use Rattle.stream_loop.specs.declared.outbound.Outbound.{Outbound, TheVariants.Done}
use Rattle.stream_loop.specs.{Parts.counting, Parts.Part, PartsGiven.WasGiven}
use Rattle.io_edges.specs.{Puts.Puts, Views.SinkView}
use Rattle.stream_loop.specs.Writing.{Wrote}
use Rattle.two_lanes.specs.declared.jobs.{Lane.Lane, Lane.TheVariants.A, LaneJob.LaneJob}
use Rattle.std.specs.List.{slice_get}
use Rattle.two_lanes.specs.declared.jobs.LaneJob.TheVariants.{Send}
use Rattle.two_lanes.specs.Merges.{elements_of, named, of_lane, steps, tags_of}
use Rattle.two_lanes.specs.Numbers.{HasAll}
use Rattle.two_lanes.proofs.Naming.{names_merge, steps-append}
use Rattle.client.specs.declared.{lane_writer.LaneWriter.LaneWriter, settings.CallSettings.CallSettings}
use Rattle.client.specs.declared.{outcome.ClientOut.ClientOut, owned.OwnedWriter.OwnedWriter}
use Rattle.client.specs.{Sent.sending_by, Lanes.SendsLanes, Making.AreFew, Sent.SendsAll}
use Rattle.client.specs.LaneWriting.{HasDone, HasEnded, HasFinished, IsSetAs, IsWriting}
use Rattle.client.specs.LaneWriting.{IsWritingSome, of_list}
use Rattle.client.specs.LaneWriting.{named_by}
use Rattle.client.specs.LaneWriting.{outbound_for, Tagged, writer_out}
use Rattle.client.proofs.{LaneWriting.elements-append, LaneWriting.tags-append}
use Rattle.client.proofs.LaneSent.{few_whole, sent_before, sent_to_end}

-- of documents that may be sent in one session there are few enough
pub few_sent : (mode : Mode) (a b merged : List (List Item)) → MayBeSent mode (a ++ b)
    → length merged ≡ length a + length b → AreFew mode merged
few_sent Singleton a b merged may long single =
    let n = length-append a b in let one = may in omega (arith, n, one, long)
few_sent Duplex a b merged may long single = cc
few_sent Simplex a b merged may long single = cc

module _ (first : SinkView) (all : Tagged) (w : LaneWriter) (k : SinkView)
    (h : IsWritingSome first all w k) where
  -- how many envelopes were made
  made_are : length w.tags.items ≡ length (elements_of h.made)
  made_are = ap length h.tags_are ∙ same h.made
    where
      same : (l : Tagged) → length (tags_of l) ≡ length (elements_of l)
      same [] = refl
      same (x ∷ l) = ap suc (same l)

  -- the letters of the first envelopes are the first letters
  first_tags : (n : ℕ) → take n w.tags.items
      ≡ take (length (take n w.tags.items)) (tags_of all)
  first_tags n =
      let t : List Lane = tags_of h.made in
      let r : List Lane = tags_of h.rest in
      ap (take n) h.tags_are ∙ prefix n t r
      ∙ ap (λ l. take (length (take n t)) l) (sym (tags-append h.made h.rest) ∙ ap tags_of
      (sym h.joined))
      ∙ ap (λ l. take (length (take n l)) (tags_of all)) (sym h.tags_are)
    where
      prefix : (n : ℕ) (t r : List Lane) → take n t ≡ take (length (take n t)) (t ++ r)
      prefix zero t r = refl
      prefix (suc n) [] r = refl
      prefix (suc n) (x ∷ t) r = ap (λ l. x ∷ l) (prefix n t r)

  -- when no more comes
  module _ (short : length w.tags.items < 2 ^ 64) where
    docs_are : elements_of h.made ++ elements_of h.rest ≡ elements_of all
    docs_are = sym (elements-append h.made h.rest) ∙ ap elements_of (sym h.joined)

    few_made : length (elements_of h.made) < 2 ^ 64
    few_made = let n = made_are in omega (arith, n, short)

    abbrev Closed : Outbound → List ℕ → ℕ → SinkView → Type 0
    Closed o last whole now = (parts : List Part) → WasGiven first parts w.parts k
        → Wrote counting o last first parts (λ count. whole ≡ count)
        now

    -- as many letters stay as envelopes were put whole
    pub whole_tags : (o : Outbound) (last : List ℕ) (whole : ℕ) (now : SinkView)
        → (last ≡ []) ⊎ ((elements_of h.rest ≡ []) × (last ≡ frame_bytes_of End []))
        → Closed o last whole now → length (take whole w.tags.items) ≡ whole
    whole_tags o last whole now ends closed =
        let m = made_are in
        let few = few_whole w.settings (elements_of h.made) (elements_of h.rest) h.parts h.others
        h.table h.envelopes h.empty few_made first o last whole now ends
        (closed (h.parts ++ h.others) h.given) in
        length-take-le whole w.tags.items (omega (arith, m, few))

    module _ (start : SinkView) (before : List ℕ)
        (puts : Puts start first before (Ok tt))
        (flushed : first.held ≡ []) where
      abbrev Sent : ClientOut → ℕ → SinkView → Type 0
      Sent = SendsAll (sending_by w.settings (elements_of all)) before
          start

      pub to_end : (o : Outbound) (whole : ℕ) (now : SinkView) → w.parts.outbound ≡ Done
          → w.unfit ≡ None → Closed o (frame_bytes_of End []) whole now
          → Sent (outbound_for o None whole) whole now
      to_end o whole now going fits closed =
          subst (λ (d : List (List Item)). SendsAll (sending_by w.settings d) before start
          (outbound_for o None whole) whole now) docs_are
          (sent_to_end w.settings (elements_of h.made) (elements_of h.rest) h.parts h.others
          h.table h.envelopes h.empty few_made first before start puts
          flushed o whole now (ap elements_of (h.whole going fits))
          (closed (h.parts ++ h.others) h.given))

      pub to_stop : (o : Outbound) (whole : ℕ) (now : SinkView)
          → (o ≡ Done → w.unfit ≡ None → ⊥) → Closed o [] whole now
          → Sent (outbound_for o w.unfit whole) whole now
      to_stop o whole now either closed =
          subst (λ (d : List (List Item)). SendsAll (sending_by w.settings d) before start
          (outbound_for o w.unfit whole) whole now) docs_are
          (sent_before w.settings (elements_of h.made) (elements_of h.rest) h.parts h.others
          h.table h.envelopes h.empty few_made first before start puts
          flushed o w.unfit whole now either h.unfit (closed (h.parts ++ h.others) h.given))

-- ---- no document more

-- the last bytes are End where each document was made, and none where one wasn't
abbrev pub LastOf : LaneWriter → Outbound → (last : List ℕ) → Type 0
LastOf w o last = ((w.parts.outbound ≡ Done) × (w.unfit ≡ None)
    × (last ≡ frame_bytes_of End []))
    ⊎ ((o ≡ Done → w.unfit ≡ None → ⊥) × (last ≡ []))

module _ (first : SinkView) (all : Tagged) (w now : LaneWriter) (k : SinkView) (last : List ℕ)
    (mid : SinkView) (whole : ℕ) (h : IsWriting first all w k)
    (short : length w.tags.items < 2 ^ 64) (ends : LastOf w now.parts.outbound last)
    (closed : (parts : List Part) → WasGiven first parts w.parts k
    → Wrote counting now.parts.outbound last first parts (λ count. whole ≡ count) mid)
    (e_unfit : now.unfit ≡ w.unfit) (e_tags : now.tags.items ≡ take whole w.tags.items) where
  abbrev Few : Type 0
  Few = AreFew w.settings.mode (elements_of all)

  so_far : Few → IsWritingSome first all w k
  so_far few = h.1 few

  ends_so : (few : Few) → (last ≡ [])
      ⊎ ((elements_of (so_far few).rest ≡ []) × (last ≡ frame_bytes_of End []))
  ends_so few = elim ends [
    | inl each ↦ inr (ap elements_of ((so_far few).whole each.0 each.1), each.2)
    | inr none ↦ inl none.1
  ]

  count_is : Few → length now.tags.items ≡ whole
  count_is few = ap length e_tags ∙ whole_tags first all w k (so_far few) short
      now.parts.outbound last whole mid (ends_so few) closed

  module _ (few : Few) (start : SinkView) (before : List ℕ)
      (puts : Puts start first before (Ok tt))
      (flushed : first.held ≡ []) where
    abbrev SendsIt : CallSettings → ClientOut → Type 0
    SendsIt c out = SendsAll (sending_by c (elements_of all)) before start out whole mid

    sends_it : SendsIt w.settings (outbound_for now.parts.outbound w.unfit whole)
    sends_it = elim ends [
      | inl each ↦ subst (λ u. SendsIt w.settings (outbound_for now.parts.outbound u whole))
          (sym each.1) (to_end first all w k (so_far few) short start before puts
          flushed now.parts.outbound whole mid each.0 each.1
          (λ parts given. subst (λ l. Wrote counting now.parts.outbound l first parts
          (λ count. whole ≡ count) mid) each.2 (closed parts given)))
      | inr none ↦ to_stop first all w k (so_far few) short start before puts flushed
          now.parts.outbound whole mid none.0
          (λ parts given. subst (λ l. Wrote counting now.parts.outbound l first parts
          (λ count. whole ≡ count) mid) none.1 (closed parts given))
    ]

  pub finished : HasEnded w.settings first all now mid
  finished = record {
    sends = λ few start before puts flushed. rw (count_is few, e_unfit)
        (sends_it few start before puts flushed);
    tagged = λ few. e_tags ∙ first_tags first all w k (so_far few) whole
        ∙ ap (λ n. take n (tags_of all)) (sym (ap length e_tags));
  }

-- by what the last call of its parts leaves
pub ended_so : (first : SinkView) (all : Tagged) (w s now : LaneWriter) (k mid : SinkView)
    (last : List ℕ) (len whole : ℕ) → IsWriting first all w k → s.unfit ≡ w.unfit
    → s.tags.items ≡ w.tags.items → now.unfit ≡ s.unfit → now.parts ≡ s.parts
    → len ≡ length s.tags.items → len < 2 ^ 64 → whole ≡ min s.parts.whole len → now.tags.items
    ≡ take whole s.tags.items
    → LastOf w s.parts.outbound last
    → ((parts : List Part) → WasGiven first parts w.parts k
    → Wrote counting s.parts.outbound last first parts (λ count. s.parts.whole ≡ count) mid)
    → HasEnded w.settings first all now mid
ended_so first all w s now k mid last len whole h e_unfit e_tags n_unfit n_parts len_is short
    whole_is cut ends closed =
    let same : len ≡ length w.tags.items = len_is ∙ ap length e_tags in
    finished first all w now k last mid s.parts.whole h (omega (arith, same, short))
    (rw n_parts ends) (rw n_parts closed) (n_unfit ∙ e_unfit)
    (cut ∙ ap (λ n. take n s.tags.items) whole_is
    ∙ ap (λ n. take (min s.parts.whole n) s.tags.items) len_is
    ∙ take_least s.parts.whole s.tags.items ∙ ap (take s.parts.whole) e_tags)
  where
    take_least : {T : Type 0} (n : ℕ) (l : List T) → take (min n (length l)) l ≡ take n l
    take_least n l = elim (cases_lt n (length l)) [
      | inl lt ↦ let least : min n (length l) ≡ n = omega (arith, lt) in ap (λ m. take m l) least
      | inr ge ↦
          let least : min n (length l) ≡ length l = omega (arith, ge) in
          ap (λ m. take m l) least ∙ take_all (length l) l (omega arith)
          ∙ sym (take_all n l (omega (arith, ge)))
    ]

-- ---- of one list

list-elements : (l : List (List Item)) → elements_of (of_list l) ≡ l
list-elements [] = refl
list-elements (d ∷ l) = ap (λ m. d ∷ m) (list-elements l)

pub list-more : (l : List (List Item)) (d : List Item)
    → of_list (l ++ d ∷ []) ≡ of_list l ++ (A, d) ∷ []
list-more l d = map-append (λ (d : List Item). (A, d)) l (d ∷ [])

pub one_taken : {T : Type 0} (l : List T) (i : ℕ) (d : T) → i < length l → d ≡ get_or l i d
    → take i l ++ d ∷ [] ≡ take (i + 1) l
one_taken l i d below is = sym (take_more l i d below ∙ ap (λ y. take i l ++ (y ∷ [])) (sym is))

few_may : (mode : Mode) (l : List (List Item)) → MayBeSent mode l → AreFew mode l
few_may Singleton l may single = omega (arith, may)
few_may Duplex l may single = cc
few_may Simplex l may single = cc

pub sends_list : (s : CallSettings) (l : List (List Item)) (first now : SinkView) (w : LaneWriter)
    → MayBeSent s.mode l → HasEnded s first (of_list l) w now → (start : SinkView)
    (before : List ℕ) → Puts start first before (Ok tt) → first.held ≡ []
    → SendsAll (sending_by s l) before start (writer_out w) (length w.tags.items) now
sends_list s l first now w may ended start before puts flushed =
    subst (λ (d : List (List Item)). SendsAll (sending_by s d) before start (writer_out w)
    (length w.tags.items) now) (list-elements l)
    (ended.sends (subst (AreFew s.mode) (sym (list-elements l)) (few_may s.mode l may)) start before
    puts flushed)

-- ---- of jobs

module _ {K : Type 0} (view : K → SinkView) where
  -- ---- one job more

  module _ (first : OwnedWriter K) (jobs : List LaneJob) where
    -- that names nothing
    pub done_none : (x : LaneJob) (now : OwnedWriter K)
        → steps first.a.now first.b.now (x ∷ []) ≡ [] → HasDone view first jobs now
        → HasDone view first (jobs ++ x ∷ []) now
    done_none x now none h = record {
      settings = h.settings;
      first_is = h.first_is;
      second_is = h.second_is;
      writing = subst (λ (l : Tagged). IsWriting (view first.sink) l now.writer (view now.sink))
          (sym (append-nil (named_by first jobs))
          ∙ ap (λ l. named_by first jobs ++ l) (sym none)
          ∙ sym (steps-append first.a.now first.b.now jobs (x ∷ []))) h.writing;
    }

    -- or a document, which was asked for
    pub done_one : (lane : Lane) (n : ℕ) (d : List Item) (old new : OwnedWriter K)
        → slice_get (of_lane lane first.a.now first.b.now) n ≡ Some d
        → IsSetAs old.writer new.writer → new.a ≡ old.a → new.b ≡ old.b
        → ((all : Tagged) → IsWriting (view first.sink) all old.writer (view old.sink)
        → IsWriting (view first.sink) (all ++ (lane, d) ∷ []) new.writer (view new.sink))
        → HasDone view first jobs old → HasDone view first (jobs ++ Send lane n ∷ []) new
    done_one lane n d old new there set e_a e_b sends h = record {
      settings = set.settings ∙ h.settings;
      first_is = e_a ∙ h.first_is;
      second_is = e_b ∙ h.second_is;
      writing = subst (λ (l : Tagged). IsWriting (view first.sink) l new.writer (view new.sink))
          (ap (λ o. named_by first jobs ++ (named lane o ++ [])) (sym there)
          ∙ sym (steps-append first.a.now first.b.now jobs (Send lane n ∷ [])))
          (sends (named_by first jobs) h.writing);
    }

  -- of lists that were named whole
  pub sends_lanes : (s : CallSettings) (a b : List (List Item)) (n m : ℕ) (sink : SinkView)
      (writer now : OwnedWriter K) (jobs : List LaneJob) → writer.writer.settings ≡ s
      → writer.a.now ≡ a → writer.b.now ≡ b → view writer.sink ≡ sink → n ≡ length a → m ≡ length b
      → HasAll n m jobs
      → HasFinished view writer jobs now
      → SendsLanes s a b sink (view now.sink) now.writer.tags.items
      (writer_out now.writer)
  sends_lanes s a b n m sink writer now jobs e_s e_a e_b e_k na nb all done =
      let named : Tagged = steps a b jobs in
      let same : named_by writer jobs ≡ named = ap (λ l. steps l writer.b.now jobs) e_a
      ∙ ap (λ l. steps a l jobs) e_b in
      let merges = names_merge a b n m jobs na nb all in
      let few : MayBeSent s.mode (a ++ b) → AreFew writer.writer.settings.mode
      (elements_of (named_by writer jobs)) = λ may. rw (e_s, same)
      (few_sent s.mode a b (elements_of named) may merges.long) in record {
        order = tags_of named;
        all = merges.all_tagged;
        tags_are = λ may. subst (λ (l : Tagged). now.writer.tags.items
            ≡ take (length now.writer.tags.items) (tags_of l)) same (done.tagged (few may));
        sends = λ may start before puts flushed.
            subst (λ (d : List (List Item)). SendsAll (sending_by s d)
            before start (writer_out now.writer) (length now.writer.tags.items) (view now.sink))
            (ap elements_of same ∙ merges.merged)
            (subst (λ (c : CallSettings). SendsAll
            (sending_by c (elements_of (named_by writer jobs)))
            before start (writer_out now.writer) (length now.writer.tags.items) (view now.sink)) e_s
            (done.sends (few may) start before (rw e_k puts) (rw e_k flushed)));
      }
