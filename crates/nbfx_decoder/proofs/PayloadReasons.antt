-- Which bytes of a payload give each reason for refusing it.
use Rattle.std.proofs.Common.{◌≡◌, ℕ, zero, suc, Bool, true, false, List, ◌++◌, length, take}
use Rattle.std.proofs.Common.{if◌then◌else◌, nat_lt, Some, None, Option, sym, refl, ap, ◌∙◌, subst}
use Rattle.std.proofs.Common.{inl, inr, arith, ltb-true, lt-ltb}
use Rattle.{std.proofs.Math.Seq.take-length, unit_streams.proofs.Refusals.refusals_are_three}
use Rattle.unit_streams.proofs.{Offences.offences_are_first, Standing.standing_length}
use Rattle.unit_streams.specs.Front.{begun, Front, whole, wrong}
use Rattle.unit_streams.specs.{Judging.ending_at, Judging.refusal_at, Parts.seen}
use Rattle.unit_streams.specs.Refusals.{AreUnits, IsRefusedByBytes, IsRefusedByUnit}
use Rattle.nbfx_values.specs.declared.{content.Item.Item, position.Position.Position}
use Rattle.nbfx_values.specs.{declared.refusals.Reason.Reason, Measures.content_of}
use Rattle.nbfx_values.specs.Positions.{position_of}
use Rattle.nbfx_records.proofs.FaultCauses.{wrong_by_text, wrong_by_value}
use Rattle.nbfx_records.proofs.MeaningFacts.{meanings_are_found, nothing_without_names}
use Rattle.nbfx_records.proofs.NodeBytes.{read_of_all, records_are_read}
use Rattle.nbfx_records.specs.declared.nodes.{Node.Node, RecordFault.RecordFault}
use Rattle.nbfx_records.specs.{Meaning.items_of, Places.Stands}
use Rattle.nbfx_records.specs.{RecordAtFront.node_at, Records.IsNode}
use Rattle.nbfx_decoder.specs.{declared.section.Section.Section, Faults.reason_of}
use Rattle.nbfx_decoder.specs.declared.section.Section.TheVariants.{Nodes, Strings, TableSize}
use Rattle.nbfx_decoder.specs.DecoderState.{from_of, situation_of}
use Rattle.nbfx_decoder.specs.Laws.{CutWhereUnended, FirstReasonRefuses, RefusedWhereShown}
use Rattle.nbfx_decoder.specs.{Laws.ShowsNothing, Tables.table_integer, Tables.table_string_at}
use Rattle.nbfx_decoder.specs.Payload.{cut_at, node, payload, PayloadUnit, reason_in, Refusal}
use Rattle.nbfx_decoder.specs.Payload.{refusal, refusal_from, refused, room_for, Settings, unit_of}
use Rattle.nbfx_decoder.specs.Payload.{Situation, table_in, table_size, table_string, unit_in}
use Rattle.nbfx_decoder.specs.Reasons.{IsCutAt, node_place, Shows, ShowsAtNode, ShowsFrom}
use Rattle.nbfx_decoder.proofs.NodeReasons.{node_shows, part_wrong}
use Rattle.nbfx_decoder.proofs.{Readable.readable, TableReasons.string_shows}
use Rattle.nbfx_decoder.proofs.TableReasons.{integer_shows, shows_integer, shows_string}
use Rattle.nbfx_decoder.proofs.UnitCases.{a_node, a_size, a_string, unit_case, UnitCase}
use Rattle.nbfx_values.specs.declared.position.Position.TheVariants as positions
use Rattle.nbfx_values.specs.declared.refusals.Reason.TheVariants as reasons
use Rattle.nbfx_records.specs.declared.nodes.RecordFault.TheVariants as faults

seen_wrong : {A B R S : Type 0} (f : A → B) (h : R → S) (v : Front A R) (s : S) (k : ℕ) → seen f h v
    ≡ wrong s k → (r : R) × (v ≡ wrong r k) × (h r ≡ s)
seen_wrong f h begun s k e = cc
seen_wrong f h (whole a n) s k e = cc
seen_wrong f h (wrong r n) s k e = let same : h r ≡ s = cc in let size : n
    ≡ k = cc in (r, ap (wrong r) size, same)

module _ (x : Settings) (z : Situation) (bytes : List ℕ) where
  -- bytes that are no unit
  wrong_shows : (section : Section) (reason : Reason) (k : ℕ) → unit_of x z section bytes
      ≡ wrong reason k → Shows x z section bytes reason
  wrong_shows TableSize reason k e = let it = seen_wrong table_size (λ (r : Reason). r)
      (table_integer bytes) reason k e in integer_shows bytes reason k
      (it.1 ∙ ap (λ r. wrong r k) it.2)
  wrong_shows (Strings zero) reason k e = cc
  wrong_shows (Strings (suc more)) reason k e =
      let it = seen_wrong table_string (λ (r : Reason). r)
      (table_string_at (room_for x.limits.dictionary z.strings) (suc more) bytes) reason k e in
      string_shows (room_for x.limits.dictionary z.strings) (suc more) bytes reason k
      (it.1 ∙ ap (λ r. wrong r k) it.2)
  wrong_shows Nodes reason k e =
      let it = seen_wrong node reason_of (node_at (node_place x z) bytes) reason k e in
      subst (ShowsAtNode x z bytes) it.2
      (node_shows x z bytes it.0 k it.1)

  -- a unit that is refused by what it says
  module _ (n : Node) (is : IsNode n bytes) (stands : Stands (node_place x z) n) where
    by_content : (more : List Item) → items_of (table_in x z) n ≡ Some more → (above : Bool)
        → nat_lt x.limits.content (content_of (z.items ++ more)) ≡ above → (reason : Reason)
        → (if above then Some reasons.TooMuchContent else None) ≡ Some reason → Shows x z Nodes
        bytes reason
    by_content more e true t reason g =
        let same : reasons.TooMuchContent ≡ reason = cc in
        subst (Shows x z Nodes bytes) same (
          n,
          more,
          is,
          stands,
          (meanings_are_found (table_in x z) n more).0 e,
          ltb-true
              x.limits.content (content_of (z.items ++ more)) t,
        )
    by_content more e false t reason g = cc

    by_items : (o : Option (List Item)) → items_of (table_in x z) n ≡ o → (reason : Reason)
        → reason_in x.limits.content z.items o ≡ Some reason → Shows x z Nodes bytes reason
    by_items None e reason g = let same : reasons.UnknownString ≡ reason = cc in subst
        (Shows x z Nodes bytes) same (n, is, stands, (nothing_without_names (table_in x z) n).0 e)
    by_items (Some more) e reason g = by_content more e
        (nat_lt x.limits.content (content_of (z.items ++ more))) refl reason g

    refused_shows : (reason : Reason) → refused x z (node n) ≡ Some reason → Shows x z Nodes bytes
        reason
    unfolding refused
    refused_shows reason g = by_items (items_of (table_in x z) n) refl reason g

  unit_shows : (unit : PayloadUnit) (reason : Reason) → UnitCase x z bytes unit (length bytes)
      → refused x z unit ≡ Some reason → Shows x z z.section bytes reason
  unfolding refused
  unit_shows unit reason (a_size n is here e) g = absurd
      (let told = sym (ap (refused x z) is) ∙ g in cc)
  unit_shows unit reason (a_string left s is here e) g = absurd
      (let told = sym (ap (refused x z) is) ∙ g in cc)
  unit_shows unit reason (a_node n is here e) g =
      let it = (records_are_read (node_place x z) bytes n (length bytes)).0 e in
      subst (λ (s : Section). Shows x z s bytes reason) (sym here)
      (refused_shows n (subst (IsNode n) (take-length bytes) it.1) it.2 reason
      (sym (ap (refused x z) is) ∙ g))

  -- the other way round
  data Refuses (section : Section) (reason : Reason) : Type 0 where
    by_bytes : (k : ℕ) → unit_of x z section bytes ≡ wrong reason k → Refuses section reason
    by_unit : (n : Node) → unit_of x z section bytes ≡ whole (node n) (length bytes)
        → refused x z (node n) ≡ Some reason → Refuses section reason

  found : (fault : RecordFault) → (n : ℕ) × (node_at (node_place x z) bytes ≡ wrong fault n)
      → Refuses Nodes (reason_of fault)
  found fault h = by_bytes h.0 (ap (seen node reason_of) h.1)

  node_there : (n : Node) → IsNode n bytes → Stands (node_place x z) n → unit_of x z Nodes bytes
      ≡ whole (node n) (length bytes)
  node_there n is stands = ap (seen node reason_of) (read_of_all (node_place x z) n bytes is stands)

  node_refuses : (reason : Reason) → Shows x z Nodes bytes reason → Refuses Nodes reason
  unfolding refused
  node_refuses reasons.TrailingBytes h = found faults.TrailingBytes
      (part_wrong x z bytes faults.TrailingBytes (λ t. cc t) (λ t. cc t) h)
  node_refuses reasons.UnknownNode h = found faults.UnknownNode
      (part_wrong x z bytes faults.UnknownNode (λ t. cc t) (λ t. cc t) h)
  node_refuses reasons.NodeOutOfPlace h = found faults.OutOfPlace
      (part_wrong x z bytes faults.OutOfPlace (λ t. cc t) (λ t. cc t) h)
  node_refuses reasons.BadArray h = found faults.BadArray
      (part_wrong x z bytes faults.BadArray (λ t. cc t) (λ t. cc t) h)
  node_refuses reasons.TooDeep h = found faults.TooDeep
      (part_wrong x z bytes faults.TooDeep (λ t. cc t) (λ t. cc t) h)
  node_refuses reasons.BadInt h = found faults.BadInt
      (part_wrong x z bytes faults.BadInt (λ t. cc t) (λ t. cc t) h)
  node_refuses reasons.BadUtf8 h = found faults.BadUtf8
      (h.0, (wrong_by_text (node_place x z) bytes h.0).1 h.1)
  node_refuses reasons.BadValue h = found faults.BadValue
      (h.0, (wrong_by_value (node_place x z) bytes h.0).1 h.1)
  node_refuses reasons.UnknownString (n, is, stands, lacks) =
      by_unit n (node_there n is stands)
      (ap (reason_in x.limits.content z.items) ((nothing_without_names (table_in x z) n).1 lacks))
  node_refuses reasons.TooMuchContent (n, more, is, stands, means, above) =
      by_unit n (node_there n is stands)
      (ap (reason_in x.limits.content z.items) ((meanings_are_found (table_in x z) n more).1 means)
      ∙ ap (λ t. if t then Some reasons.TooMuchContent else None)
      (lt-ltb x.limits.content (content_of (z.items ++ more)) above))
  node_refuses _ h = absurd h

  size_refuses : (reason : Reason) → Shows x z TableSize bytes reason → Refuses TableSize reason
  size_refuses reasons.BadInt h = by_bytes 5
      (ap (seen table_size (λ (r : Reason). r)) (shows_integer bytes h))
  size_refuses _ h = absurd h

  section_refuses : (section : Section) (reason : Reason) → Shows x z section bytes reason
      → Refuses section reason
  section_refuses TableSize reason h = size_refuses reason h
  section_refuses (Strings zero) reason h = absurd h
  section_refuses (Strings (suc more)) reason h =
      let it = shows_string (room_for x.limits.dictionary z.strings) (suc more) bytes reason h in
      by_bytes it.0 (ap (seen table_string (λ (r : Reason). r)) it.1)
  section_refuses Nodes reason h = node_refuses reason h

refused_from : (from at : ℕ) (o : Option Reason) (reason : Reason) → refusal_from from o
    ≡ Some (refusal at reason) → (o ≡ Some reason) × (from ≡ at)
refused_from from at None reason e = cc
refused_from from at (Some other) reason e = let same : refusal from other ≡ refusal at reason = cc
    in (ap Some (ap (λ (r : Refusal). r.reason) same), ap (λ (r : Refusal). r.at) same)

module _ (x : Settings) (strings : List (List ℕ)) where
  -- behind whole units
  units_place : (before : List ℕ) → AreUnits (payload x strings) before → from_of x strings before
      ≡ length before
  units_place before units = let size = standing_length (payload x strings) (readable x strings)
      before in let none = ap length units in omega (arith, size, none)

  module _ (p : List ℕ) (from : ℕ) (reason : Reason) where
    from_unit : IsRefusedByUnit (payload x strings) p (refusal from reason) → ShowsFrom x strings p
        from reason
    from_unit h =
        let z = situation_of x strings h.before in
        let why = refused_from (from_of x strings h.before) from (refused x z h.unit) reason
        h.refused in
        record {
          before = h.before;
          bytes = h.bytes;
          joined = h.joined;
          place = sym why.1 ∙ units_place h.before h.units;
          units = h.units;
          shows = unit_shows x z h.bytes h.unit reason
              (unit_case x z h.bytes h.unit (length h.bytes) (from_of x strings h.before) h.reads)
              why.0;
        }

    from_bytes : IsRefusedByBytes (payload x strings) p (refusal from reason) → ShowsFrom x strings
        p from reason
    unfolding unit_in
    from_bytes h =
        let z = situation_of x strings h.before in
        let it = seen_wrong (λ (u : PayloadUnit). u) (refusal (from_of x strings h.before))
        (unit_of x z z.section h.bytes) (refusal from reason) h.size h.reads in
        let same : it.0 ≡ reason = ap (λ (r : Refusal). r.reason) it.2 in
        let at : from_of x strings h.before ≡ from = ap (λ (r : Refusal). r.at) it.2 in
        record {
          before = h.before;
          bytes = h.bytes;
          joined = h.joined;
          place = sym at ∙ units_place h.before h.units;
          units = h.units;
          shows = wrong_shows x z h.bytes z.section reason h.size
              (it.1 ∙ ap (λ r. wrong r h.size) same);
        }

    there : refusal_at (payload x strings) p ≡ Some (refusal from reason) → ShowsFrom x strings p
        from reason
    there e =
        elim ((refusals_are_three (payload x strings) (readable x strings) p
        (refusal from reason)).0 e) [
          | inl h ↦ from_unit h
          | inr (inl h) ↦ from_bytes h
          | inr (inr h) ↦ absurd (let told = h.refused in cc)
        ]

    back : ShowsFrom x strings p from reason → refusal_at (payload x strings) p
        ≡ Some (refusal from reason)
    unfolding unit_in
    back h = by (section_refuses x (situation_of x strings h.before) h.bytes
        (situation_of x strings h.before).section reason h.shows)
      where
        at : from_of x strings h.before ≡ from
        at = units_place h.before h.units ∙ sym h.place

        by : Refuses x (situation_of x strings h.before) h.bytes
            (situation_of x strings h.before).section reason → refusal_at (payload x strings) p
            ≡ Some (refusal from reason)
        by (by_bytes k e) = (refusals_are_three (payload x strings) (readable x strings) p
            (refusal from reason)).1 (inr (inl (record {
              before = h.before;
              bytes = h.bytes;
              size = k;
              joined = h.joined;
              units = h.units;
              reads = ap (seen (λ (u : PayloadUnit). u) (refusal (from_of x strings h.before))) e ∙
                  ap (λ n. wrong (refusal n reason) k) at;
            })))
        by (by_unit n e refuses) = (refusals_are_three (payload x strings) (readable x strings) p
            (refusal from reason)).1 (inl (record {
              before = h.before;
              bytes = h.bytes;
              unit = node n;
              joined = h.joined;
              units = h.units;
              reads = ap (seen (λ (u : PayloadUnit). u) (refusal (from_of x strings h.before))) e;
              refused = ap (refusal_from (from_of x strings h.before)) refuses ∙
                  ap (λ n. Some (refusal n reason)) at;
            }))

pub refused_where_shown : RefusedWhereShown
refused_where_shown x strings p from reason = (
  there x strings p from reason,
  back x strings p from
      reason,
)

-- the end
module _ (x : Settings) (strings : List (List ℕ)) (p : List ℕ) (from : ℕ) (reason : Reason) where
  cut_shows : (o : Option Position) → cut_at o (from_of x strings p) ≡ Some (refusal from reason)
      → (reason ≡ reasons.DocumentCut) × (from ≡ from_of x strings p)
      × (o ≡ Some positions.After → ⊥)
  cut_shows (Some positions.After) e = cc
  cut_shows None e = let same : refusal (from_of x strings p) reasons.DocumentCut
      ≡ refusal from reason = cc in
      (sym (ap (λ (r : Refusal). r.reason) same), sym (ap (λ (r : Refusal). r.at) same), λ h. cc h)
  cut_shows (Some positions.Before) e = let same : refusal (from_of x strings p) reasons.DocumentCut
      ≡ refusal from reason = cc in
      (sym (ap (λ (r : Refusal). r.reason) same), sym (ap (λ (r : Refusal). r.at) same), λ h. cc h)
  cut_shows (Some (positions.Within inner attributes)) e =
      let same : refusal (from_of x strings p) reasons.DocumentCut ≡ refusal from reason = cc in
      (sym (ap (λ (r : Refusal). r.reason) same), sym (ap (λ (r : Refusal). r.at) same), λ h. cc h)

  shows_cut : (o : Option Position) → (o ≡ Some positions.After → ⊥)
      → cut_at o (from_of x strings p) ≡ Some (refusal (from_of x strings p) reasons.DocumentCut)
  shows_cut (Some positions.After) h = absurd (h refl)
  shows_cut None h = refl
  shows_cut (Some positions.Before) h = refl
  shows_cut (Some (positions.Within inner attributes)) h = refl

  cut_there : ending_at (payload x strings) p ≡ Some (refusal from reason)
      → (reason ≡ reasons.DocumentCut) × IsCutAt x strings p from
  unfolding ending_at
  cut_there e = let it = cut_shows (position_of (situation_of x strings p).items) e in
      (it.0, record { place = it.1; unended = it.2 })

  cut_back : (reason ≡ reasons.DocumentCut) × IsCutAt x strings p from
      → ending_at (payload x strings) p ≡ Some (refusal from reason)
  unfolding ending_at
  cut_back h =
      shows_cut (position_of (situation_of x strings p).items) h.1.unended ∙
      ap (λ n. Some (refusal n reasons.DocumentCut)) (sym h.1.place) ∙
      ap (λ r. Some (refusal from r)) (sym h.0)

pub cut_where_unended : CutWhereUnended
cut_where_unended x strings p from reason = (
  cut_there x strings p from reason,
  cut_back x strings p
      from reason,
)

-- whole payloads
module _ (x : Settings) (strings : List (List ℕ)) (p : List ℕ) where
  pub unrefused_nothing : refusal_at (payload x strings) p ≡ None → ShowsNothing x strings p
  unrefused_nothing none at other h = let some = back x strings p at other h in cc

  pub nothing_unrefused : ShowsNothing x strings p → refusal_at (payload x strings) p ≡ None
  nothing_unrefused nothing = by (refusal_at (payload x strings) p) refl
    where
      by : (o : Option Refusal) → refusal_at (payload x strings) p ≡ o → o ≡ None
      by None e = refl
      by (Some r) e = absurd (nothing r.at r.reason (there x strings p r.at r.reason e))

pub first_reason_refuses : FirstReasonRefuses
first_reason_refuses x strings bytes from reason = (
  λ e. elim ((offences_are_first (payload x strings) bytes (refusal from reason)).0 e) [
    | inl h ↦ inl (record {
      place = h.place;
      within = h.within;
      before = λ i lt. unrefused_nothing x strings (take i bytes) (h.before i lt);
      shows = there x strings (take h.place bytes) from reason h.refused;
    })
    | inr h ↦ let cut = cut_there x strings bytes from reason h.ended in inr (
      cut.0,
      record {
        nothing = λ i le. unrefused_nothing x strings (take i bytes)
            (h.unrefused i le);
        cut = cut.1;
      },
    )
  ],
  λ shown. (offences_are_first (payload x strings) bytes (refusal from reason)).1 (elim shown [
    | inl h ↦ inl (record {
      place = h.place;
      within = h.within;
      before = λ i lt. nothing_unrefused x strings (take i bytes) (h.before i lt);
      refused = back x strings (take h.place bytes) from reason h.shows;
    })
    | inr h ↦ inr
        (record {
          unrefused = λ i le. nothing_unrefused x strings (take i bytes) (h.1.nothing i le);
          ended = cut_back x strings bytes from reason (h.0, h.1.cut);
        })
  ]),
)
