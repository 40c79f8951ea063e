-- A unit is read where all its bytes are there.
use Rattle.std.proofs.Common.{◌≡◌, ℕ, zero, suc, ◌+◌, ◌-◌, ◌^◌, ◌<◌, ◌≤◌, true, List, [], ◌∷◌, ◌++◌}
use Rattle.std.proofs.Common.{length, IsErrAnd, Some, None, Err, Option, Result, IsErrOf, sym, refl}
use Rattle.std.proofs.Common.{ap, ◌∙◌, subst, inl, append_assoc, arith, le-ltb, lt-ltb}
use Rattle.std.{proofs.lemmas.Result.err_from_is_err_and, specs.List.list_all}
use Rattle.unit_streams.proofs.{Fronts.whole_some, Peeling.peels_front}
use Rattle.unit_streams.specs.{Front.begun, Front.Front, Front.whole, Front.wrong, Parts.seen}
use Rattle.string_tables.specs.{SessionStrings.used_cost, StringTable.StringTable}
use Rattle.multibyte_ints.{proofs.IntegerBytes.int_peels, specs.Integer.int_at}
use Rattle.nbfx_values.proofs.Positions.{position_from-append, position_from-none}
use Rattle.nbfx_values.specs.declared.builder.PushFault.{PushFault, TheVariants.OutOfPlace}
use Rattle.nbfx_values.specs.declared.{content.Item.Item, position.Position.Position}
use Rattle.nbfx_values.specs.declared.refusals.Reason.{Reason, TheVariants.UnknownString}
use Rattle.nbfx_values.specs.declared.refusals.Reason.TheVariants.{BadInt, TooMuchContent}
use Rattle.nbfx_values.specs.{declared.scalars.Value.Value, Limits.Limits}
use Rattle.nbfx_values.specs.{Items.is_valid_item, QuotasOf.limits_of}
use Rattle.nbfx_values.specs.Measures.{capped, content_of}
use Rattle.nbfx_values.specs.Positions.{position_from, position_of}
use Rattle.session_dictionary.specs.Strings.{LimitedStrings}
use Rattle.nbfx_records.proofs.{MeaningFacts.meanings_are_found, NodeBytes.records_are_read}
use Rattle.nbfx_records.proofs.ShapeFronts.{node_fronts, node_of_nothing}
use Rattle.nbfx_records.specs.declared.nodes.{Node.Node, NodePlace.NodePlace}
use Rattle.nbfx_records.specs.{declared.nodes.RecordFault.RecordFault, Places.Stands}
use Rattle.nbfx_records.specs.{Answers.WaitsFor as NodeWaitsFor, Meaning.items_of}
use Rattle.nbfx_records.specs.RecordAtFront.{node_at}
use Rattle.nbfx_decoder.specs.declared.{faults.UnitFault.UnitFault, section.Section.Section}
use Rattle.nbfx_decoder.specs.declared.faults.UnitFault.TheVariants.{Memory, Refused}
use Rattle.nbfx_decoder.specs.declared.section.Section.TheVariants.{Nodes, Strings, TableSize}
use Rattle.nbfx_decoder.specs.declared.units.{UnitRead.UnitRead, UnitReader.UnitReader}
use Rattle.nbfx_decoder.specs.{Faults.reason_of, Tables.table_string_at, Tables.TableString}
use Rattle.nbfx_decoder.specs.Payload.{added, after, node, place_of, reason_in, refusal, refused}
use Rattle.nbfx_decoder.specs.Payload.{room_for, Settings, Situation, table_in, table_size}
use Rattle.nbfx_decoder.specs.Payload.{table_string, unit_in, unit_of}
use Rattle.nbfx_decoder.specs.Sections.{left_in, section_of}
use Rattle.nbfx_decoder.specs.Units.{AwaitsBytes, IsAt, KeepsTable, StringStands, UnitAnswers}
use Rattle.nbfx_decoder.proofs.{Keeping.strings_kept, Places.stands_behind, Waits.waits_one}
use Rattle.nbfx_decoder.proofs.Readable.{no_string, reads_string}
use Rattle.nbfx_values.specs.declared.content.Item.TheVariants as items
use Rattle.nbfx_values.specs.declared.position.Position.TheVariants as positions

-- an integer has some bytes
pub integer_size : (b : List ℕ) (n k : ℕ) → int_at b ≡ whole n k → (0 < k) × (k ≤ length b)
integer_size b n k e = whole_some int_at (peels_front int_at int_peels) int_peels.nothing b n k e

-- and so has a string
pub string_size : (room left : ℕ) (b : List ℕ) (s : TableString) (k : ℕ) → 0 < left
    → table_string_at room left b ≡ whole s k → (0 < k) × (k ≤ length b)
string_size room left b s k some e = whole_some (table_string_at room left)
    (reads_string room left some) (no_string room left some) b s k e

-- and a node
pub node_size : (place : NodePlace) (b : List ℕ) (n : Node) (k : ℕ) → node_at place b ≡ whole n k
    → (0 < k) × (k ≤ length b)
node_size place b n k e = whole_some (node_at place) (node_fronts place) (node_of_nothing place) b n
    k e

-- a table is refused by what its bytes are alone
pub size_unrefused : (x : Settings) (z : Situation) (n : ℕ) → refused x z (table_size n) ≡ None
unfolding refused
size_unrefused x z n = refl

pub string_unrefused : (x : Settings) (z : Situation) (s : TableString)
    → refused x z (table_string s) ≡ None
unfolding refused
string_unrefused x z s = refl

-- of an open table there are bytes to come
pub left_some : (r : UnitReader) (left : ℕ) → r.section ≡ Strings left → 0 < left
left_some r left here = subst (λ (s : Section). 0 < left_in s) here r.some

module _ (r : UnitReader) (x : Settings) (z : Situation) (from : ℕ) (at : IsAt r x z from) where
  pub quota_here : r.quotas.dictionary ≡ x.limits.dictionary
  quota_here = ap (λ (l : Limits). l.dictionary) at.set.limits

  pub depth_here : r.quotas.depth ≡ x.limits.depth
  depth_here = ap (λ (l : Limits). l.depth) at.set.limits

  pub content_here : r.quotas.content ≡ x.limits.content
  content_here = ap (λ (l : Limits). l.content) at.set.limits

  -- the unit at the front of bytes, by what comes next
  unit_here : (b : List ℕ) (section : Section) → r.section ≡ section → unit_in x z from b
      ≡ seen (λ unit. unit) (refusal from) (unit_of x z section b)
  unfolding unit_in
  unit_here b section is = ap (λ s. seen (λ unit. unit) (refusal from) (unit_of x z s b))
      (sym at.section ∙ is)

  -- a table's size
  module _ (here : r.section ≡ TableSize) (b : List ℕ) where
    size_here : (v : Front ℕ _) → int_at b ≡ v → unit_in x z from b ≡ seen (λ unit. unit)
        (refusal from) (seen table_size (λ reason. reason) (seen (λ n. n) (λ _. BadInt) v))
    size_here v e = unit_here b TableSize here ∙
        ap (λ w. seen (λ unit. unit) (refusal from)
        (seen table_size (λ reason. reason) (seen (λ n. n) (λ _. BadInt) w))) e

    pub size_whole : (n k : ℕ) → int_at b ≡ whole n k → unit_in x z from b ≡ whole (table_size n) k
    size_whole n k e = size_here (whole n k) e

    pub size_bad : int_at b ≡ wrong tt 5 → unit_in x z from b ≡ wrong (refusal from BadInt) 5
    size_bad e = size_here (wrong tt 5) e

    pub size_waits : int_at b ≡ begun → AwaitsBytes (unit_in x z from) b (length b + 1)
    size_waits e = waits_one (unit_in x z from) b (size_here begun e)

    pub behind_size : (new : UnitReader) (n k : ℕ) → KeepsTable r new → new.from ≡ r.from + k
        → new.section ≡ section_of n → new.document ≡ r.document
        → IsAt new x (after x z (table_size n)) (from + k)
    unfolding after
    behind_size new n k kept gone section items = record {
      set = strings_kept kept at.set (gone ∙ ap (λ m. m + k) at.set.from_is);
      section = section;
      items = items ∙ at.items;
    }

  -- a string of the table
  module _ (left : ℕ) (here : r.section ≡ Strings left) (some : 0 < left) (used room : ℕ)
      (paid : used ≡ used_cost r.table.strings) (is : room ≡ r.quotas.dictionary - used) where
    same_strings : r.table.strings ≡ z.strings
    same_strings = ap (λ (t : LimitedStrings). t.strings) at.set.table

    -- what its strings may still cost
    room_here : room ≡ room_for x.limits.dictionary z.strings
    room_here = is ∙ ap (λ n. n - used) quota_here ∙ ap (λ n. x.limits.dictionary - n)
        (paid ∙ ap used_cost same_strings)

    strings_here : (n : ℕ) (b : List ℕ) → left ≡ n → unit_in x z from b ≡ seen (λ unit. unit)
        (refusal from)
        (seen table_string (λ reason. reason)
        (table_string_at (room_for x.limits.dictionary z.strings) left b))
    strings_here zero b is = absurd (omega (arith, some, is))
    strings_here (suc more) b is =
        unit_here b (Strings (suc more)) (here ∙ ap Strings is)
        ∙ ap (λ n. seen (λ unit. unit) (refusal from)
        (seen table_string (λ reason. reason)
        (table_string_at (room_for x.limits.dictionary z.strings) n b))) (sym is)

    string_here : (b : List ℕ) (v : Front TableString Reason) → table_string_at room left b ≡ v
        → unit_in x z from b ≡ seen (λ unit. unit) (refusal from)
        (seen table_string (λ reason. reason) v)
    string_here b v e =
        strings_here left b refl
        ∙ ap (λ w. seen (λ unit. unit) (refusal from) (seen table_string (λ reason. reason) w))
        (ap (λ n. table_string_at n left b) (sym room_here) ∙ e)

    pub string_whole : (b : List ℕ) (s : TableString) (k : ℕ) → table_string_at room left b
        ≡ whole s k → unit_in x z from b ≡ whole (table_string s) k
    string_whole b s k e = string_here b (whole s k) e

    pub string_wrong : (b : List ℕ) (reason : Reason) (k : ℕ) → table_string_at room left b
        ≡ wrong reason k → unit_in x z from b ≡ wrong (refusal from reason) k
    string_wrong b reason k e = string_here b (wrong reason k) e

    pub string_waits : (b : List ℕ) (n : ℕ) → AwaitsBytes (table_string_at room left) b n
        → AwaitsBytes (unit_in x z from) b n
    string_waits b n w = record {
      more = w.more;
      begins = λ next lt. string_here (b ++ next) begun
          (w.begins next lt);
    }

    -- what a `?` hands on
    pub string_refused : (b : List ℕ) (fault : UnitFault) (res : Result UnitRead UnitFault)
        → IsErrAnd res (λ y. y ≡ fault) → StringStands room left b (Err fault) → UnitAnswers x z
        from b r res
    string_refused b fault res e stands =
        let p = err_from_is_err_and res e in
        subst (λ (q : Result UnitRead UnitFault). UnitAnswers x z from b r q)
        (ap Err (sym p.2) ∙ sym p.1) (by_fault fault stands)
      where
        by_fault : (fault : UnitFault) → StringStands room left b (Err fault) → UnitAnswers x z from
            b r (Err fault)
        by_fault (Refused reason k) h = (inl (string_wrong b reason k h), at.set)
        by_fault Memory h = absurd h

    pub behind_string : (new : UnitReader) (s : TableString) (k : ℕ) → new.statics ≡ r.statics
        → new.kind ≡ r.kind → new.quotas ≡ r.quotas
        → new.table ≡ record r.table { strings = r.table.strings ++ s.text ∷ [] } → new.from
        ≡ r.from + k → new.section ≡ section_of s.left → new.document ≡ r.document
        → IsAt new x (after x z (table_string s)) (from + k)
    unfolding after
    behind_string new s k statics kind quotas table gone section items = record {
      set = record {
        statics = ap (λ t. t.now) statics ∙ at.set.statics;
        kind = kind ∙ at.set.kind;
        limits = ap limits_of quotas ∙ at.set.limits;
        table = table ∙ ap (λ (t : LimitedStrings). record t { strings = t.strings ++ s.text ∷ [] })
            at.set.table;
        from_is = gone ∙ ap (λ m. m + k) at.set.from_is;
      };
      section = section;
      items = items ∙ at.items;
    }

  -- a node
  module _ (here : r.section ≡ Nodes) where
    same_place : place_of r.quotas.depth (position_of r.document) ≡ place_of x.limits.depth
        (position_of z.items)
    same_place = ap (λ d. place_of d (position_of r.document)) depth_here ∙
        ap (λ items. place_of x.limits.depth (position_of items)) at.items

    node_here : (b : List ℕ) (v : Front Node RecordFault)
        → node_at (place_of r.quotas.depth (position_of r.document)) b ≡ v
        → unit_in x z from b ≡ seen (λ unit. unit) (refusal from) (seen node reason_of v)
    node_here b v e =
        unit_here b Nodes here
        ∙ ap (λ w. seen (λ unit. unit) (refusal from) (seen node reason_of w))
        (ap (λ place. node_at place b) (sym same_place) ∙ e)

    pub node_whole : (b : List ℕ) (n : Node) (k : ℕ)
        → node_at (place_of r.quotas.depth (position_of r.document)) b ≡ whole n k
        → unit_in x z from b ≡ whole (node n) k
    node_whole b n k e = node_here b (whole n k) e

    pub node_wrong : (b : List ℕ) (fault : RecordFault) (k : ℕ)
        → node_at (place_of r.quotas.depth (position_of r.document)) b ≡ wrong fault k
        → unit_in x z from b ≡ wrong (refusal from (reason_of fault)) k
    node_wrong b fault k e = node_here b (wrong fault k) e

    -- a node that isn't read
    pub node_unread : (b : List ℕ) (fault : RecordFault) (shown_by : ℕ)
        → node_at (place_of r.quotas.depth (position_of r.document)) b ≡ wrong fault shown_by
        → UnitAnswers x z from b r (Err (Refused (reason_of fault) shown_by))
    node_unread b fault shown_by e = (inl (node_wrong b fault shown_by e), at.set)

    pub node_waits : (b : List ℕ) (n : ℕ)
        → NodeWaitsFor (place_of r.quotas.depth (position_of r.document)) b n
        → AwaitsBytes (unit_in x z from) b n
    node_waits b n w = record {
      more = w.more;
      begins = λ next lt. node_here (b ++ next) begun
          (w.begins next lt);
    }

  -- what a whole node is answered with, of which more items were found
  module _ (n : Node) (more : Option (List Item))
      (found : items_of (record { statics = r.statics.now; strings = r.table.strings }) n ≡ more)
    where
      same_table : record { statics = r.statics.now; strings = r.table.strings } ≡ table_in x z
      same_table = ap (λ statics. record { statics = statics; strings = r.table.strings })
          at.set.statics ∙
          ap (λ (t : LimitedStrings). record { statics = x.statics; strings = t.strings })
          at.set.table

      found_here : items_of (table_in x z) n ≡ more
      found_here = ap (λ t. items_of t n) (sym same_table) ∙ found

      refused_as : refused x z (node n) ≡ reason_in x.limits.content z.items more
      unfolding refused
      refused_as = ap (reason_in x.limits.content z.items) found_here

      leads_to : after x z (node n)
          ≡ record z { items = z.items ++ added (reason_in x.limits.content z.items more) more }
      unfolding after
      leads_to = ap (λ o. record z {
        items = z.items ++ added (reason_in x.limits.content z.items o) o;
      }) found_here

      pub unnamed : more ≡ None → refused x z (node n) ≡ Some UnknownString
      unnamed e = refused_as ∙ ap (reason_in x.limits.content z.items) e

      module _ (items : List Item) (some : more ≡ Some items) (document : List Item)
          (pushed : document ≡ r.document ++ items) (counted : ℕ)
          (counts : counted ≡ capped (content_of document)) where
        same_items : document ≡ z.items ++ items
        same_items = pushed ∙ ap (λ before. before ++ items) at.items

        same_content : content_of document ≡ content_of (z.items ++ items)
        same_content = ap content_of same_items

        pub too_much : r.quotas.content < counted → refused x z (node n) ≡ Some TooMuchContent
        too_much lt =
            let more_than : x.limits.content < content_of (z.items ++ items) =
            (let same = content_here in let size = same_content in omega
            (arith, lt, same, size, counts)) in
            refused_as ∙ ap (reason_in x.limits.content z.items) some ∙
            rw (lt-ltb x.limits.content (content_of (z.items ++ items)) more_than) refl

        few : counted ≤ r.quotas.content → r.quotas.content < 2 ^ 32 → reason_in x.limits.content
            z.items more ≡ None
        few le small =
            let at_most : content_of (z.items ++ items) ≤ x.limits.content =
            (let same = content_here in let size = same_content in omega
            (arith, le, same, size, counts, small)) in
            ap (reason_in x.limits.content z.items) some ∙
            rw (le-ltb x.limits.content (content_of (z.items ++ items)) at_most) refl

        pub unrefused : counted ≤ r.quotas.content → r.quotas.content < 2 ^ 32
            → refused x z (node n)
            ≡ None
        unrefused le small = refused_as ∙ few le small

        pub behind_node : counted ≤ r.quotas.content → r.quotas.content < 2 ^ 32
            → (new : UnitReader)
            → new.statics ≡ r.statics → new.kind ≡ r.kind → new.quotas ≡ r.quotas → new.table
            ≡ r.table
            → new.from ≡ r.from → new.section ≡ r.section → new.document ≡ document
            → IsAt new x (after x z (node n)) from
        behind_node le small new statics kind quotas table same section is =
            rw (leads_to, few le small, some) (record {
              set = strings_kept
                  (record { statics = statics; quotas = quotas; kind = kind; table = table }) at.set
                  (same ∙ at.set.from_is);
              section = section ∙ at.section;
              items = is ∙ same_items;
            })

-- what leads nowhere leads nowhere with more
pub stays_nowhere : (before more : List Item) → position_of before ≡ None
    → position_of (before ++ more) ≡ None
stays_nowhere before more e = position_from-append (Some positions.Before) before more ∙
    ap (λ o. position_from o more) e ∙ position_from-none more

-- a text that may not stand there, and an end behind it
pub text_nowhere : (before : List Item) (value : Value) (fault : PushFault)
    (r : Result (Unit {0}) PushFault) → IsErrAnd r (λ y. y ≡ fault) → IsErrOf r OutOfPlace
    → (IsErrOf {T = Unit {0}} (Err fault) OutOfPlace → position_of (before ++ items.Text value ∷ [])
    ≡ None) → position_of (before ++ items.Text value ∷ items.Close ∷ []) ≡ None
text_nowhere before value fault r e is nowhere =
    let p = err_from_is_err_and r e in
    let told : IsErrOf {T = Unit {0}} (Err fault) OutOfPlace = subst
    (λ (q : Result (Unit {0}) PushFault). IsErrOf q OutOfPlace) (p.1 ∙ ap Err p.2) is in
    ap position_of (sym (append_assoc before (items.Text value ∷ []) (items.Close ∷ []))) ∙
    stays_nowhere (before ++ items.Text value ∷ []) (items.Close ∷ []) (nowhere told)

-- a node that stands there leads somewhere
pub leads_somewhere : (table : StringTable) (depth : ℕ) (before : List Item) (n : Node)
    (more : List Item) → Stands (place_of depth (position_of before)) n → items_of table n
    ≡ Some more
    → list_all is_valid_item more ≡ true → position_of (before ++ more) ≡ None → ⊥
leads_somewhere table depth before n more stands found valid none = by_position (position_of before)
    refl
  where
    by_position : (o : Option Position) → position_of before ≡ o → ⊥
    by_position None is = absurd (let bad : Stands (place_of depth None) n = subst
        (λ (o : Option Position). Stands (place_of depth o) n) is stands in bad)
    by_position (Some q) is =
        let on = stands_behind table depth before q n more is stands
        ((meanings_are_found table n more).0 found) valid in
        let bad = sym on.1 ∙ none in
        cc

-- behind some bytes more it is in the same situation
pub passed : (r : UnitReader) (x : Settings) (z : Situation) (from k : ℕ) → IsAt r x z from
    → (new : UnitReader) → KeepsTable r new → new.from ≡ r.from + k → new.section ≡ r.section
    → new.document ≡ r.document → IsAt new x z (from + k)
passed r x z from k at new kept gone section items = record {
  set = strings_kept kept at.set (gone ∙ ap (λ m. m + k) at.set.from_is);
  section = section ∙ at.section;
  items = items ∙ at.items;
}

-- a node that is read stands where it is
pub node_stands : (place : NodePlace) (b : List ℕ) (n : Node) (k : ℕ) → node_at place b ≡ whole n k
    → Stands place n
node_stands place b n k e = ((records_are_read place b n k).0 e).2
