-- What the end of a payload is answered with, and what it leaves.
use Rattle.std.proofs.Common.{◌≡◌, ℕ, suc, ◌+◌, ◌⊎◌, ◌↔◌, List, [], ◌∷◌, ◌++◌, length, take, Some}
use Rattle.std.proofs.Common.{None, Ok, Err, Option, Result, sym, refl, ap, ◌∙◌, subst, inl, inr}
use Rattle.{std.proofs.Common.arith, unit_streams.proofs.Standing.standing_keeps}
use Rattle.unit_streams.specs.Front.{begun, Front, whole, wrong}
use Rattle.unit_streams.specs.{Judging.ending_at, Parts.seen, Parts.◌>>=◌}
use Rattle.nbfx_values.proofs.Walks.{document-position, position_of-document}
use Rattle.nbfx_values.specs.declared.{content.Item.Item, position.Position.Position}
use Rattle.nbfx_values.specs.declared.refusals.Reason.TheVariants.{DocumentCut}
use Rattle.nbfx_values.specs.{Documents.IsDocument, Positions.position_of}
use Rattle.nbfx_records.specs.declared.nodes.{Node.Node, NodePlace.TheVariants.AfterRoot}
use Rattle.nbfx_records.specs.{declared.nodes.RecordFault.RecordFault, Shapes.shape_at}
use Rattle.nbfx_records.specs.RecordAtFront.{node_at}
use Rattle.nbfx_decoder.specs.declared.{decoder.Decoder.Decoder, faults.DecodeFault.DecodeFault}
use Rattle.nbfx_decoder.specs.declared.faults.UnitFault.TheVariants.{Memory, Refused}
use Rattle.nbfx_decoder.specs.{declared.section.Section.Section, Faults.reason_of}
use Rattle.nbfx_decoder.specs.declared.section.Section.TheVariants.{Nodes, Strings, TableSize}
use Rattle.nbfx_decoder.specs.{Answers.ShowsFault, Sections.first_section, Units.KeepsTable}
use Rattle.nbfx_decoder.specs.DecoderState.{begun_of, FailedBehind, FinishAnswers, from_of}
use Rattle.nbfx_decoder.specs.DecoderState.{IsPlacedAt, settings_of, situation_of, StandsFor}
use Rattle.nbfx_decoder.specs.Laws.{IsUnrefused, IsWholePayload, MayBegin}
use Rattle.nbfx_decoder.specs.Payload.{after, cut_at, node, payload, PayloadUnit, place_of, refusal}
use Rattle.nbfx_decoder.specs.Payload.{Settings, Situation, unit_in, unit_of}
use Rattle.nbfx_decoder.proofs.Keeping.{keeps_settings, strings_kept}
use Rattle.nbfx_decoder.proofs.PayloadAnswers.{finished_where_whole, strings_behind}
use Rattle.nbfx_decoder.proofs.{PayloadReasons.refused_where_shown, Readable.readable}
use Rattle.nbfx_decoder.proofs.{Sound.keeps_within, StandsFacts.stands_first}
use Rattle.nbfx_decoder.proofs.StandsFacts.{counts_taken, depth_some, failed_of, items_here}
use Rattle.nbfx_decoder.proofs.StandsFacts.{payload_small, reached_of, settings_kept, stands_as}
use Rattle.nbfx_decoder.proofs.UnitCases.{a_node, a_size, a_string, unit_case, UnitCase}
use Rattle.nbfx_values.specs.declared.position.Position.TheVariants as positions
use Rattle.nbfx_decoder.specs.declared.faults.DecodeFault.TheVariants as decode_faults

-- before the nodes there are no items
abbrev pub NodesOrNone : Situation → Type 0
NodesOrNone z = (z.section ≡ Nodes) ⊎ (z.items ≡ [])

pub not_nodes : (z : Situation) (section : Section) → z.section ≡ section → (section ≡ Nodes → ⊥)
    → NodesOrNone z → z.items ≡ []
not_nodes z section here not (inl e) = absurd (not (sym here ∙ e))
not_nodes z section here not (inr e) = e

keeps_none : (x : Settings) (z : Situation) (b : List ℕ) (u : PayloadUnit) (k : ℕ)
    → UnitCase x z b u k → NodesOrNone z → NodesOrNone (after x z u)
unfolding after
keeps_none x z b u k (a_size n is here e) h = rw is (inr (not_nodes z TableSize here (λ e. cc) h))
keeps_none x z b u k (a_string left s is here e) h = rw is
    (inr (not_nodes z (Strings (suc left)) here (λ e. cc) h))
keeps_none x z b u k (a_node n is here e) h = rw is (inl here)

pub nodes_or_none : (x : Settings) (strings : List (List ℕ)) (p : List ℕ)
    → NodesOrNone (situation_of x strings p)
nodes_or_none x strings p =
    standing_keeps (payload x strings) (readable x strings) (λ z from. NodesOrNone z) (inr refl)
    (λ z from b u k e some h. keeps_none x z b u k (unit_case x z b u k from e) h) p

-- no byte may come behind the root
nothing_after : (bytes : List ℕ) → node_at AfterRoot bytes ≡ begun → bytes ≡ []
unfolding node_at shape_at ◌>>=◌
nothing_after [] e = refl
nothing_after (byte ∷ bytes) e = cc

-- what has begun of a node
node_begun : (from : ℕ) (v : Front Node RecordFault) → seen (λ (unit : PayloadUnit). unit)
    (refusal from) (seen node reason_of v) ≡ begun → v ≡ begun
node_begun from begun e = refl
node_begun from (whole n k) e = cc
node_begun from (wrong r k) e = cc

-- where the next unit is a node
next_node : (x : Settings) (z : Situation) (from : ℕ) (b : List ℕ) → z.section ≡ Nodes
    → unit_in x z from b ≡ begun → node_at (place_of x.limits.depth (position_of z.items)) b ≡ begun
unfolding unit_in
next_node x z from b nodes e = node_begun from _
    (ap (λ s. seen (λ (unit : PayloadUnit). unit) (refusal from) (unit_of x z s b)) (sym nodes) ∙ e)

module _ (d : Decoder) (strings : List (List ℕ)) (p : List ℕ) (h : StandsFor d strings p) where
  ending_is : ending_at (payload (settings_of d) strings) p
      ≡ cut_at (position_of (situation_of (settings_of d) strings p).items)
      (from_of (settings_of d) strings p)
  unfolding ending_at
  ending_is = refl

  -- the root has ended
  module _ (document : IsDocument d.units.document) where
    ended : position_of (situation_of (settings_of d) strings p).items ≡ Some positions.After
    ended = ap position_of (sym (items_here d strings p h)) ∙ document-position d.units.document
        document

    pub nothing_cut : ending_at (payload (settings_of d) strings) p ≡ None
    nothing_cut = ending_is ∙ ap (λ o. cut_at o (from_of (settings_of d) strings p)) ended

    -- then no bytes are begun
    none_begun : d.begun ≡ []
    none_begun = elim (nodes_or_none (settings_of d) strings p) [
      | inr none ↦ absurd (let bad = sym ended ∙ ap position_of none in cc)
      | inl nodes ↦ (reached_of d strings p h).begun ∙ nothing_after
          (begun_of (settings_of d) strings p)
          (ap (λ o. node_at (place_of (settings_of d).limits.depth o)
          (begun_of (settings_of d) strings p)) (sym ended)
          ∙ next_node (settings_of d) (situation_of (settings_of d) strings p)
          (from_of (settings_of d) strings p) (begun_of (settings_of d) strings p) nodes
          (reached_of d strings p h).going.next)
    ]

    -- and the next payload may come
    pub stands_anew : (new : Decoder) → KeepsTable d.units new.units → new.units.document ≡ []
        → new.units.section ≡ first_section d.units.kind → new.units.from ≡ 0 → new.begun ≡ d.begun
        → new.failure ≡ d.failure
        → StandsFor new (situation_of (settings_of d) strings p).strings []
    stands_anew new same items section from bytes failure =
        let s = stands_as d strings p h in
        let set = s.reached.at.set in
        let left = (situation_of (settings_of d) strings p).strings in
        let bounds = (keeps_within (settings_of d) strings (readable (settings_of d) strings)
        p).dictionary in
        let before = s.before in
        stands_first new (settings_of d) left (settings_kept d new (keeps_settings same)) (record {
          set = strings_kept same set from;
          section = section ∙ ap first_section set.kind;
          items = items;
        }) (bytes ∙ none_begun) (failure ∙ s.reached.unfailed) (omega (arith, bounds, before))

  -- the root hasn't ended
  module _ (none : IsDocument d.units.document → ⊥) where
    cut_there : ending_at (payload (settings_of d) strings) p
        ≡ Some (refusal (from_of (settings_of d) strings p) DocumentCut)
    cut_there = ending_is ∙ by_position (position_of (situation_of (settings_of d) strings p).items)
        refl
      where
        by_position : (o : Option Position)
            → position_of (situation_of (settings_of d) strings p).items ≡ o
            → cut_at o (from_of (settings_of d) strings p)
            ≡ Some (refusal (from_of (settings_of d) strings p) DocumentCut)
        by_position (Some positions.After) e = absurd
            (none (position_of-document d.units.document
            (ap position_of (items_here d strings p h) ∙ e)))
        by_position None e = refl
        by_position (Some positions.Before) e = refl
        by_position (Some (positions.Within inner attributes)) e = refl

    -- it fails for good then
    pub finish_failed : (new : Decoder) (told : DecodeFault) → new.failure ≡ Some told → new.begun
        ≡ [] → new.units.document ≡ [] → KeepsTable d.units new.units
        → IsPlacedAt (from_of (settings_of d) strings p) told new.units.from
        → FailedBehind new told strings p
    finish_failed new told failure no_bytes no_items same place =
        let set = (reached_of d strings p h).at.set in
        failed_of new (settings_of d) told strings p (settings_kept d new (keeps_settings same))
        (record {
          failure = failure;
          place = place;
          strings_are = strings_kept same set refl;
          no_bytes = no_bytes;
          no_items = no_items;
        })

    pub finish_fault : (told : DecodeFault) (from len : ℕ) → from ≡ d.units.from → len
        ≡ length d.begun → ShowsFault from (Refused DocumentCut len) told
        → FinishAnswers (settings_of d) strings p (Err told)
    finish_fault told from len gone bytes shows =
        let size = counts_taken d strings p h in
        let le = (stands_as d strings p h).within in
        let most = payload_small d in
        let place = (reached_of d strings p h).at.set.from_is in
        rw (shows (omega (arith, size, le, most, gone, bytes))) (
          cut_there ∙ ap (λ n. Some (refusal n DocumentCut)) (sym (gone ∙ place)),
          omega
              (arith, size, gone, bytes),
        )

    pub finish_place : (told : DecodeFault) (from len new : ℕ) → from ≡ d.units.from → len
        ≡ length d.begun → new ≡ from → ShowsFault from (Refused DocumentCut len) told
        → IsPlacedAt (from_of (settings_of d) strings p) told new
    finish_place told from len new gone bytes same shows =
        let size = counts_taken d strings p h in
        let le = (stands_as d strings p h).within in
        let most = payload_small d in
        rw (shows (omega (arith, size, le, most, gone, bytes))) same

-- what the end of a payload is answered with: its document exactly where its bytes are its payload
module _ (d : Decoder) (strings : List (List ℕ)) (p : List ℕ) (h : StandsFor d strings p)
    (result : Result (List Item) DecodeFault) (answers : FinishAnswers (settings_of d) strings p
    result) where
  unrefused_here : IsUnrefused (settings_of d) strings p
  unrefused_here n from reason shows =
      let none = (stands_as d strings p h).pending.unrefused n in
      let bad = sym none ∙ (refused_where_shown (settings_of d) strings (take n p) from reason).1
      shows in
      cc

  may_begin : MayBegin (settings_of d) strings
  may_begin = record { depth = depth_some d; dictionary = (stands_as d strings p h).before }

  law : (items : List Item) → FinishAnswers (settings_of d) strings p (Ok items)
      ↔ ((own : List (List ℕ)) × IsWholePayload (settings_of d) strings own items p)
  law items = finished_where_whole (settings_of d) strings p items may_begin unrefused_here
      (stands_as d strings p h).within

  pub finishes_whole : (items : List Item) → (result ≡ Ok items)
      ↔ ((own : List (List ℕ)) × IsWholePayload (settings_of d) strings own items p)
  finishes_whole items = (
    λ e. (law items).0
        (subst (λ (r : Result (List Item) DecodeFault). FinishAnswers (settings_of d) strings p r) e
        answers),
    λ whole. by_result result answers ((law items).1 whole),
  )
    where
      by_result : (r : Result (List Item) DecodeFault) → FinishAnswers (settings_of d) strings p r
          → FinishAnswers (settings_of d) strings p (Ok items) → r ≡ Ok items
      by_result (Ok doc) a b = ap Ok (a.1 ∙ sym b.1)
      by_result (Err (decode_faults.Payload at reason shown_by)) a b = let bad = sym b.0 ∙ a.0 in cc
      by_result (Err decode_faults.Memory) a b = absurd a

  -- the strings that are carried on
  pub carries_on : (own : List (List ℕ)) (items : List Item) (new : Decoder)
      → IsWholePayload (settings_of d) strings own items p
      → StandsFor new (situation_of (settings_of d) strings p).strings []
      → StandsFor new (strings ++ own) []
  carries_on own items new is stands =
      subst (λ (s : List (List ℕ)). StandsFor new s [])
      (strings_behind (settings_of d) strings own items p may_begin is) stands
