-- What a writer of two lists has made and put, with one document more.
use Rattle.std.proofs.Common.{◌≡◌, ℕ, true, false, List, [], ◌∷◌, ◌++◌, length}
use Rattle.std.proofs.Common.{is_some, Some, None, Ok, Err, Option, Result, IfSome, sym, refl, ap, ◌∙◌, subst}
use Rattle.std.proofs.Common.{append_assoc, append-nil, arith, length-append}
use Rattle.std.proofs.lemmas.List.{map-append}
use Rattle.string_tables.specs.StringTable.{StringTable}
use Rattle.nbfx_values.specs.{declared.content.Item.Item, QuotasOf.limits_of}
use Rattle.nbfx_values.specs.declared.session.Mode.{Mode, TheVariants.Singleton}
use Rattle.nbfx_values.specs.declared.session.Mode.TheVariants.{Duplex, Simplex}
use Rattle.client.specs.Sent.{kind_by}
use Rattle.nbfx_encoder.specs.declared.{faults.EncodeFault.EncodeFault, sender.SendState.SendState}
use Rattle.nbfx_encoder.specs.declared.sender.Sender.{Sender}
use Rattle.nbfx_encoder.specs.declared.sender.SendState.TheVariants.{Closed, Ready, Spent}
use Rattle.nbfx_encoder.specs.declared.sender.Side.TheVariants.{Initiator}
use Rattle.nbfx_encoder.specs.{EncoderState.Refuses, Placing.Placed, Refusals.told}
use Rattle.nbfx_encoder.specs.declared.sender.SendFault.TheVariants.{Refused, WrongMoment}
use Rattle.nbfx_encoder.specs.Envelopes.{envelope}
use Rattle.nbfx_encoder.specs.Sending.{behind_message, first_state, KeepsSettings, kind_in, limits_in, mode_in}
use Rattle.nbfx_encoder.specs.Sending.{names_in, RefusesMessage, Sends, state_in}
use Rattle.nbfx_encoder.specs.Spelling.{encoded, Unfit}
use Rattle.session_ends.specs.Sent.{first_table}
use Rattle.stream_loop.specs.declared.outbound.Outbound.{Outbound, TheVariants.Done}
use Rattle.stream_loop.specs.declared.outbound.Outbound.TheVariants.{Memory, WriteFault}
use Rattle.stream_loop.specs.declared.part_writer.PartWriter.{PartWriter}
use Rattle.stream_loop.specs.{Parts.Part, Parts.part, PartsGiven.WasGiven, PartsGiven.WasGivenMore}
use Rattle.io_edges.specs.Views.{SinkView}
use Rattle.stream_loop.proofs.Parts.{given_none}
use Rattle.two_lanes.specs.declared.jobs.Lane.{Lane}
use Rattle.two_lanes.specs.Merges.{elements_of, Step, tags_of}
use Rattle.client.specs.declared.{lane_writer.LaneWriter.LaneWriter, settings.CallSettings.CallSettings}
use Rattle.client.specs.LaneWriting.{AreEnvelopes, envelope_part, IsUnfitNext}
use Rattle.client.specs.LaneWriting.{IsUnwritten, IsWriting, IsWritingSome, Tagged}
use Rattle.client.specs.Making.{AreFew, IsSet, moment_behind}
use Rattle.client.proofs.Enveloped.{empty_more, envelopes_more}
use Rattle.nbfx_encoder.specs.declared.faults.EncodeFault.TheVariants as encode

-- an initiator may send at once
pub first_ready : (mode : Mode) → first_state mode Initiator ≡ Ready
first_ready Singleton = refl
first_ready Duplex = refl
first_ready Simplex = refl

-- a document that was refused for another reason than want of memory doesn't fit
refused_so : (answer : Result (Placed (List ℕ)) Unfit) (fault : EncodeFault)
    → Refuses answer fault → (fault ≡ encode.Memory → ⊥)
    → (why : Unfit) × (answer ≡ Err why) × (fault ≡ told why)
refused_so answer encode.Memory refuses other = absurd (other refl)
refused_so (Err why) (encode.TooDeep depth) refuses other = (why, refl, refuses)
refused_so (Err why) (encode.TooMuchContent size) refuses other = (why, refl, refuses)
refused_so (Err why) (encode.NoIdForQName item) refuses other = (why, refl, refuses)
refused_so (Err why) (encode.TooLarge size) refuses other = (why, refl, refuses)
refused_so (Ok payload) (encode.TooDeep depth) refuses other = absurd refuses
refused_so (Ok payload) (encode.TooMuchContent size) refuses other = absurd refuses
refused_so (Ok payload) (encode.NoIdForQName item) refuses other = absurd refuses
refused_so (Ok payload) (encode.TooLarge size) refuses other = absurd refuses

pub set_as : (s : CallSettings) (old new : Sender) → KeepsSettings old new → IsSet s old
    → IsSet s new
set_as s old new keeps set = record {
  limits = keeps.limits ∙ set.limits;
  kind = keeps.kind ∙ set.kind;
  mode = keeps.mode ∙ set.mode;
}

-- ---- with one document more

pub elements-append : (x y : Tagged) → elements_of (x ++ y) ≡ elements_of x ++ elements_of y
elements-append x y = map-append (λ (s : Step (List Item)). s.1) x y

pub tags-append : (x y : Tagged) → tags_of (x ++ y) ≡ tags_of x ++ tags_of y
tags-append x y = map-append (λ (s : Step (List Item)). s.0) x y

-- fewer documents are few too
few_first : (mode : Mode) (x y : List (List Item)) → AreFew mode (x ++ y) → AreFew mode x
few_first mode x y few single =
    let n = length-append x y in let all = few single in omega (arith, n, all)

pub few_tagged : (mode : Mode) (x y : Tagged) → AreFew mode (elements_of (x ++ y))
    → AreFew mode (elements_of x)
few_tagged mode x y few =
    few_first mode (elements_of x) (elements_of y) (subst (AreFew mode) (elements-append x y) few)

-- a document that doesn't fit is still the next one, with more behind it
unfit_still : (s : CallSettings) (table : StringTable) (rest more : List (List Item))
    (fault : EncodeFault) → IsUnfitNext s table rest fault
    → IsUnfitNext s table (rest ++ more) fault
unfit_still s table [] more fault unfit = absurd unfit
unfit_still s table (d ∷ rest) more fault unfit = unfit

unfits_still : (s : CallSettings) (table : StringTable) (rest more : Tagged)
    (unfit : Option EncodeFault) → IfSome unfit (IsUnfitNext s table (elements_of rest))
    → IfSome unfit (IsUnfitNext s table (elements_of (rest ++ more)))
unfits_still s table rest more None next = tt
unfits_still s table rest more (Some fault) next =
    subst (λ l. IsUnfitNext s table l fault) (sym (elements-append rest more))
    (unfit_still s table (elements_of rest) (elements_of more) fault next)

-- what a half that may send refuses it refuses by the document
pub refused_ready : (answer : Result (Placed (List ℕ)) Unfit) (state : SendState)
    (fault : EncodeFault)
    → RefusesMessage answer state (Refused fault) → Refuses answer fault
refused_ready answer Ready fault refuses = refuses
refused_ready answer Spent fault refuses = absurd refuses
refused_ready answer Closed fault refuses = absurd refuses

-- one that refused a document refuses it as before
pub refuses_same : (old new : Sender) (d : List Item) (fault : EncodeFault)
    → KeepsSettings old new → names_in new ≡ names_in old
    → RefusesMessage (encoded (limits_in old) (kind_in old) (names_in old) d) (state_in old)
    (Refused fault) → Refuses (encoded (limits_in new) (kind_in new) (names_in new) d) fault
refuses_same old new d fault keeps names refuses =
    subst (λ l. Refuses (encoded l (kind_in new) (names_in new) d) fault) (sym keeps.limits)
    (subst (λ k. Refuses (encoded (limits_in old) k (names_in new) d) fault) (sym keeps.kind)
    (subst (λ t. Refuses (encoded (limits_in old) (kind_in old) t d) fault) (sym names)
    (refused_ready (encoded (limits_in old) (kind_in old) (names_in old) d) (state_in old) fault
    refuses)))

pub late : (answer : Result (Placed (List ℕ)) Unfit) (state other : SendState)
    → RefusesMessage answer state (WrongMoment other) → state ≡ Ready → ⊥
late answer Ready other refuses is = refuses
late answer Spent other refuses is = cc
late answer Closed other refuses is = cc

pub none_is : {T : Type 0} (x : Option T) → is_some x ≡ false → x ≡ None
none_is None none = refl
none_is (Some y) none = cc

pub none_or : {T : Type 0} (x : Option T) → is_some x ≡ true → x ≡ None → ⊥
none_or None some none = cc
none_or (Some y) some none = cc

none_some : {T : Type 0} (x : T) → None ≡ Some x → ⊥
none_some x is = cc

-- in singleton mode a second document isn't sent
pub second_of_few : (mode : Mode) (state : SendState) (made more : List (List Item)) (d : List Item)
    → state ≡ moment_behind mode made → (state ≡ Ready → ⊥)
    → AreFew mode (made ++ d ∷ more) → ⊥
second_of_few mode state [] more d is never few = never is
second_of_few Singleton state (one ∷ made) more d is never few =
    let n = few refl in let m = length-append (one ∷ made) (d ∷ more) in
    absurd (omega (arith, n, m))
second_of_few Duplex state (one ∷ made) more d is never few = never is
second_of_few Simplex state (one ∷ made) more d is never few = never is

module _ (first : SinkView) where
  abbrev Some' : Tagged → LaneWriter → SinkView → Type 0
  Some' = IsWritingSome first

  abbrev Is' : Tagged → LaneWriter → SinkView → Type 0
  Is' = IsWriting first

  -- before the first document
  pub unwritten : (w : LaneWriter) → IsUnwritten w → Is' [] w first
  unwritten w fresh = (
    fresh.set,
    λ few. record {
      made = [];
      rest = [];
      joined = refl;
      parts = [];
      table = first_table w.settings.statics.now;
      envelopes = (refl, refl);
      tags_are = fresh.untagged;
      others = [];
      empty = tt;
      given = given_none first w.parts fresh.fresh;
      clear = λ going. refl;
      whole = λ going fits. refl;
      names = λ going fits. fresh.names;
      ready = λ going fits. fresh.ready;
      unfit = rw fresh.fits tt;
    },
  )

  -- where the writing has stopped, or the next document doesn't fit, more changes nothing
  pub writing_still : (w : LaneWriter) (k : SinkView) (all more : Tagged)
      → (w.parts.outbound ≡ Done → w.unfit ≡ None → ⊥) → Is' all w k → Is' (all ++ more) w k
  writing_still w k all more never h = (
    h.0,
    λ few.
        let so_far = h.1 (few_tagged w.settings.mode all more few) in record {
          made = so_far.made;
          rest = so_far.rest ++ more;
          joined = ap (λ l. l ++ more) so_far.joined ∙ append_assoc so_far.made so_far.rest more;
          parts = so_far.parts;
          table = so_far.table;
          envelopes = so_far.envelopes;
          tags_are = so_far.tags_are;
          others = so_far.others;
          empty = so_far.empty;
          given = so_far.given;
          clear = so_far.clear;
          whole = λ going fits. absurd (never going fits);
          names = λ going fits. absurd (never going fits);
          ready = λ going fits. absurd (never going fits);
          unfit = unfits_still w.settings so_far.table so_far.rest more w.unfit so_far.unfit;
        },
  )

  -- there was no memory for the next envelope
  module _ (old new : LaneWriter) (k k' : SinkView) (all more : Tagged)
      (e_settings : new.settings ≡ old.settings) (e_sender : new.sender ≡ old.sender)
      (e_unfit : new.unfit ≡ old.unfit) (e_tags : new.tags.items ≡ old.tags.items)
      (never : new.parts.outbound ≡ Done → ⊥)
      (gives : (parts : List Part) (next : Part) → WasGiven first parts old.parts k
      → WasGiven first (parts ++ next ∷ []) new.parts k') where
    out_some : Some' all old k → Some' (all ++ more) new k'
    out_some so_far = record {
      made = so_far.made;
      rest = so_far.rest ++ more;
      joined = ap (λ l. l ++ more) so_far.joined
          ∙ append_assoc so_far.made so_far.rest more;
      parts = so_far.parts;
      table = so_far.table;
      envelopes = rw e_settings so_far.envelopes;
      tags_are = e_tags ∙ so_far.tags_are;
      others = so_far.others ++ part [] false ∷ [];
      empty = empty_more so_far.others so_far.empty;
      given = subst (λ l. WasGiven first l new.parts k')
          (append_assoc so_far.parts so_far.others (part [] false ∷ []))
          (gives (so_far.parts ++ so_far.others) (part [] false) so_far.given);
      clear = λ going. absurd (never going);
      whole = λ going fits. absurd (never going);
      names = λ going fits. absurd (never going);
      ready = λ going fits. absurd (never going);
      unfit = rw (e_settings, e_unfit)
          (unfits_still old.settings so_far.table so_far.rest more old.unfit so_far.unfit);
    }

    pub writing_out : Is' all old k → Is' (all ++ more) new k'
    writing_out h = (
      rw (e_settings, e_sender) h.0,
      λ few. out_some (h.1 (few_tagged old.settings.mode all more
          (subst (λ s. AreFew s.mode (elements_of (all ++ more))) e_settings few))),
    )

  -- the envelope of the next document was made and given
  module _ (old new : LaneWriter) (k k' : SinkView) (mid : PartWriter) (all : Tagged) (lane : Lane)
      (d : List Item)
      (going : old.parts.outbound ≡ Done) (fits : old.unfit ≡ None)
      (e_settings : new.settings ≡ old.settings)
      (e_unfit : new.unfit ≡ old.unfit) (e_tags : new.tags.items ≡ old.tags.items ++ lane ∷ [])
      (e_outbound : mid.outbound ≡ old.parts.outbound) (e_whole : mid.whole ≡ old.parts.whole)
      (e_ends : mid.ends.items ≡ old.parts.ends.items)
      (sends : Sends (encoded (limits_in old.sender) (kind_in old.sender) (names_in old.sender) d)
      (mode_in old.sender) old.parts.gathered.items mid.gathered.items (names_in new.sender))
      (state : state_in new.sender ≡ behind_message (mode_in old.sender))
      (keeps : KeepsSettings old.sender new.sender)
      (gives : (parts : List Part) (next : Part)
      → WasGivenMore first parts next
      (length old.parts.gathered.items) mid k
      → WasGiven first (parts ++ next ∷ []) new.parts k')
    where
      abbrev s : CallSettings
      s = old.settings

      one_more : (elements : List (List Item)) → moment_behind s.mode (elements ++ d ∷ [])
          ≡ behind_message s.mode
      one_more [] = refl
      one_more (e ∷ elements) = refl

      writes_one : IsSet s old.sender → Some' all old k → Some' (all ++ (lane, d) ∷ []) new k'
      writes_one set so_far =
          let none = so_far.whole going fits in
          let made : Tagged = so_far.made ++ (lane, d) ∷ [] in
          let elements = elements-append so_far.made ((lane, d) ∷ []) in
          let fits_so : encoded (limits_of s.quotas.forward) (kind_by s) so_far.table d
          ≡ Ok sends.payload =
          ap (λ l. encoded l (kind_by s) so_far.table d) (sym set.limits)
          ∙ ap (λ k. encoded (limits_in old.sender) k so_far.table d) (sym set.kind)
          ∙ ap (λ t. encoded (limits_in old.sender) (kind_in old.sender) t d)
          (sym (so_far.names going fits)) ∙ sends.answer_is in
          let parts : List Part = so_far.parts ++ envelope_part s sends.payload.0 ∷ [] in
          let before = subst (λ (l : List Part). WasGiven first l
          old.parts k) (ap (λ l. so_far.parts ++ l) (so_far.clear going)
          ∙ append-nil so_far.parts) so_far.given in record {
            made = made;
            rest = [];
            joined = ap (λ l. l ++ (lane, d) ∷ []) (so_far.joined
                ∙ ap (λ l. so_far.made ++ l) none ∙ append-nil so_far.made)
                ∙ sym (append-nil made);
            parts = parts;
            table = sends.payload.1;
            envelopes = subst (λ (c : CallSettings). AreEnvelopes c
                (first_table c.statics.now) (elements_of made) parts sends.payload.1)
                (sym e_settings)
                (subst (λ l. AreEnvelopes s (first_table s.statics.now) l parts sends.payload.1)
                (sym elements) (envelopes_more s (elements_of so_far.made)
                (first_table s.statics.now) so_far.table so_far.parts d sends.payload
                so_far.envelopes fits_so));
            tags_are = e_tags ∙ ap (λ l. l ++ lane ∷ []) so_far.tags_are
                ∙ sym (tags-append so_far.made ((lane, d) ∷ []));
            others = [];
            empty = tt;
            given = subst (λ (l : List Part). WasGiven first l
                new.parts k') (sym (append-nil parts))
                (gives so_far.parts (envelope_part s sends.payload.0) (record {
                  earlier = old.parts.gathered.items;
                  length_is = refl;
                  taken = rw (e_outbound, e_whole, e_ends) before;
                  bytes = sends.written ∙ ap (λ m. old.parts.gathered.items
                      ++ envelope m sends.payload.0) set.mode;
                  counts = refl;
                }));
            clear = λ now. refl;
            whole = λ now fit. refl;
            names = λ now fit. sends.table;
            ready = λ now fit. state ∙ ap behind_message set.mode
                ∙ sym (one_more (elements_of so_far.made))
                ∙ ap (moment_behind s.mode) (sym elements)
                ∙ ap (λ (c : CallSettings). moment_behind c.mode (elements_of made))
                (sym e_settings);
            unfit = rw (e_unfit ∙ fits) tt;
          }

      pub writing_one : Is' all old k → Is' (all ++ (lane, d) ∷ []) new k'
      writing_one h = (
        subst (λ (c : CallSettings). IsSet c new.sender) (sym e_settings)
            (set_as s old.sender new.sender keeps h.0),
        λ few. writes_one h.0 (h.1 (few_tagged old.settings.mode all ((lane, d) ∷ [])
            (subst (λ (c : CallSettings). AreFew c.mode (elements_of (all ++ (lane, d) ∷ [])))
            e_settings few))),
      )

  -- the next document is refused, since it doesn't fit
  module _ (old new : LaneWriter) (k : SinkView) (all : Tagged) (lane : Lane) (d : List Item)
      (going : old.parts.outbound ≡ Done) (fits : old.unfit ≡ None)
      (e_settings : new.settings ≡ old.settings) (e_sender : new.sender ≡ old.sender)
      (e_tags : new.tags.items ≡ old.tags.items) (e_parts : new.parts ≡ old.parts)
      (fault : EncodeFault) (is : new.unfit ≡ Some fault)
      (other : fault ≡ encode.Memory → ⊥) where
    abbrev answer : Result (Placed (List ℕ)) Unfit
    answer = encoded (limits_in old.sender) (kind_in old.sender) (names_in old.sender) d

    few_old : AreFew new.settings.mode (elements_of (all ++ (lane, d) ∷ []))
        → AreFew old.settings.mode (elements_of (all ++ (lane, d) ∷ []))
    few_old few = subst (λ (c : CallSettings). AreFew c.mode (elements_of (all ++ (lane, d) ∷ [])))
        e_settings few

    refused_next : IsSet old.settings old.sender → (so_far : Some' all old k)
        → Refuses answer fault → IsUnfitNext old.settings so_far.table (d ∷ []) fault
    refused_next set so_far refuses =
        let why = refused_so answer fault refuses other in (
          why.0,
          ap (λ l. encoded l (kind_by old.settings) so_far.table d) (sym set.limits)
              ∙ ap (λ k. encoded (limits_in old.sender) k so_far.table d) (sym set.kind)
              ∙ ap (λ t. encoded (limits_in old.sender) (kind_in old.sender) t d)
              (sym (so_far.names going fits)) ∙ why.1,
          why.2,
        )

    refuses_one : IsSet old.settings old.sender → Some' all old k → Refuses answer fault
        → Some' (all ++ (lane, d) ∷ []) new k
    refuses_one set so_far refuses = record {
      made = so_far.made;
      rest = (lane, d) ∷ [];
      joined = ap (λ l. l ++ (lane, d) ∷ []) (so_far.joined
          ∙ ap (λ l. so_far.made ++ l) (so_far.whole going fits) ∙ append-nil so_far.made);
      parts = so_far.parts;
      table = so_far.table;
      envelopes = rw e_settings so_far.envelopes;
      tags_are = e_tags ∙ so_far.tags_are;
      others = so_far.others;
      empty = so_far.empty;
      given = rw e_parts so_far.given;
      clear = λ now. so_far.clear going;
      whole = λ now fit. absurd (none_some fault (sym fit ∙ is));
      names = λ now fit. absurd (none_some fault (sym fit ∙ is));
      ready = λ now fit. absurd (none_some fault (sym fit ∙ is));
      unfit = rw (e_settings, is) (refused_next set so_far refuses);
    }

    pub writing_unfit : Refuses answer fault → Is' all old k → Is' (all ++ (lane, d) ∷ []) new k
    writing_unfit refuses h = (
      rw (e_settings, e_sender) h.0,
      λ few. refuses_one h.0 (h.1 (few_tagged old.settings.mode all ((lane, d) ∷ [])
          (few_old few))) refuses,
    )

  -- or since no message may be sent any more, which a session that may carry it doesn't come to
  pub writing_late : (w : LaneWriter) (k : SinkView) (all : Tagged) (lane : Lane) (d : List Item)
      → w.parts.outbound ≡ Done → w.unfit ≡ None → (state_in w.sender ≡ Ready → ⊥)
      → Is' all w k → Is' (all ++ (lane, d) ∷ []) w k
  writing_late w k all lane d going fits never h = (
    h.0,
    λ few.
        let so_far = h.1 (few_tagged w.settings.mode all ((lane, d) ∷ []) few) in
        let whole : elements_of (all ++ (lane, d) ∷ []) ≡ elements_of so_far.made ++ d ∷ [] =
        elements-append all ((lane, d) ∷ [])
        ∙ ap (λ l. elements_of l ++ d ∷ []) (so_far.joined
        ∙ ap (λ l. so_far.made ++ l) (so_far.whole going fits) ∙ append-nil so_far.made) in
        absurd (second_of_few w.settings.mode (state_in w.sender) (elements_of so_far.made) [] d
        (so_far.ready going fits) never
        (subst (AreFew w.settings.mode) whole few)),
  )

-- a writing that goes on now went on before
pub still_going : (o o' : Outbound) → ((o ≡ Done → ⊥) → o' ≡ o) → o' ≡ Done → o ≡ Done
still_going Done o' stays going = refl
still_going WriteFault o' stays going = sym (stays (λ is. cc)) ∙ going
still_going Memory o' stays going = sym (stays (λ is. cc)) ∙ going

module _ (first : SinkView) (old new : LaneWriter) (k k' : SinkView) (all : Tagged)
    (e_settings : new.settings ≡ old.settings)
    (sets : IsSet old.settings old.sender → IsSet old.settings new.sender)
    (e_names : names_in new.sender ≡ names_in old.sender)
    (e_state : state_in new.sender ≡ state_in old.sender) (e_unfit : new.unfit ≡ old.unfit)
    (e_tags : new.tags.items ≡ old.tags.items)
    (stays : (old.parts.outbound ≡ Done → ⊥) → new.parts.outbound ≡ old.parts.outbound)
    (gives : (parts : List Part) → WasGiven first parts old.parts k
    → WasGiven first parts new.parts k') where
  before : new.parts.outbound ≡ Done → old.parts.outbound ≡ Done
  before = still_going old.parts.outbound new.parts.outbound stays

  some_on : IsWritingSome first all old k → IsWritingSome first all new k'
  some_on so_far = record {
    made = so_far.made;
    rest = so_far.rest;
    joined = so_far.joined;
    parts = so_far.parts;
    table = so_far.table;
    envelopes = rw e_settings so_far.envelopes;
    tags_are = e_tags ∙ so_far.tags_are;
    others = so_far.others;
    empty = so_far.empty;
    given = gives (so_far.parts ++ so_far.others) so_far.given;
    clear = λ going. so_far.clear (before going);
    whole = λ going fits. so_far.whole (before going) (sym e_unfit ∙ fits);
    names = λ going fits. e_names ∙ so_far.names (before going) (sym e_unfit ∙ fits);
    ready = λ going fits. rw e_settings
        (e_state ∙ so_far.ready (before going) (sym e_unfit ∙ fits));
    unfit = rw (e_settings, e_unfit) so_far.unfit;
  }

  -- what is gathered may have been put, and no document was asked for
  pub writing_on : IsWriting first all old k → IsWriting first all new k'
  writing_on h = (
    rw e_settings (sets h.0),
    λ few. some_on (h.1 (subst (λ (c : CallSettings). AreFew c.mode (elements_of all)) e_settings
        few)),
  )
