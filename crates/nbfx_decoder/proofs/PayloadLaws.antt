-- The bytes that have no offence are the payloads.
use Rattle.std.proofs.Common.{◌≡◌, ℕ, max, List, [], ◌++◌, length, Some, None, sym, refl, ap, ◌∙◌}
use Rattle.std.proofs.Common.{subst, append-nil, arith}
use Rattle.std.proofs.{Math.Seq.take-length, lemmas.List.append_cancel_left}
use Rattle.unit_streams.proofs.{Accepted.accepted_or_offended, Passing.going_at}
use Rattle.unit_streams.proofs.{Along.Passes, Along.passes_between, Offences.no_offence}
use Rattle.unit_streams.proofs.Units.{short_below, units_of}
use Rattle.unit_streams.specs.Judging.{ending_at, offence, refusal_at}
use Rattle.unit_streams.specs.Units.{IsAccepted as UnitsAccept, size_of, UnitsLead}
use Rattle.string_tables.specs.{SessionStrings.used_cost, StringTable.StringTable}
use Rattle.{nbfx_values.proofs.Walks.document-position, nbfx_decoder.specs.Laws.table_before}
use Rattle.nbfx_values.specs.declared.{content.Item.Item, session.Kind.Kind}
use Rattle.nbfx_values.specs.{Limits.limits, Positions.position_of}
use Rattle.nbfx_values.specs.Measures.{content_of, depth_of}
use Rattle.nbfx_records.specs.Payloads.{IsAdmitted, IsPayload}
use Rattle.nbfx_decoder.specs.DecoderState.{begun_of, from_of, situation_of}
use Rattle.nbfx_decoder.specs.Laws.{IsDecoded, MayBegin, PayloadsAreAccepted, SpellsOneDocument}
use Rattle.nbfx_decoder.specs.Payload.{beginning, cut_at, payload, Settings, Situation}
use Rattle.nbfx_decoder.proofs.AcceptedUnits.{AreAll, ends_after, nothing_begun, units_are_payload}
use Rattle.nbfx_decoder.proofs.PayloadPasses.{behind_payload, payload_passes}
use Rattle.nbfx_decoder.proofs.{Readable.readable, Sound.keeps_within}
use Rattle.nbfx_values.specs.declared.position.Position.TheVariants as positions

module _ (x : Settings) (strings : List (List ℕ)) (bytes : List ℕ) where
  -- bytes without an offence
  module _ (none : offence (payload x strings) bytes ≡ None) where
    ended : position_of (situation_of x strings bytes).items ≡ Some positions.After
    unfolding ending_at
    ended = ends_after x strings (situation_of x strings bytes) (from_of x strings bytes)
        (no_offence (payload x strings) bytes none).1

    all_units : AreAll x strings (beginning x strings) bytes (situation_of x strings bytes)
        (begun_of x strings bytes)
    all_units =
        let h = units_of (payload x strings) (readable x strings) bytes
        (no_offence (payload x strings) bytes none).0 in
        units_are_payload x strings h.units bytes (situation_of x strings bytes)
        (begun_of x strings bytes) ended h.lead

    nothing_left : begun_of x strings bytes ≡ []
    nothing_left =
        let fine : refusal_at (payload x strings) bytes ≡ None = ap (refusal_at (payload x strings))
        (sym (take-length bytes)) ∙ (no_offence (payload x strings) bytes none).0 (length bytes)
        (omega arith) in
        let going = going_at (payload x strings) (readable x strings) bytes fine in
        nothing_begun x strings (situation_of x strings bytes) (from_of x strings bytes)
        (begun_of x strings bytes) all_units.section ended going.next

    is_payload : IsPayload x.kind (table_before x strings) all_units.own
        (situation_of x strings bytes).items bytes
    is_payload =
        let joined : bytes ≡ all_units.front = all_units.joined ∙ ap (λ c. all_units.front ++ c)
        nothing_left ∙ append-nil all_units.front in
        subst (λ (c : List ℕ). IsPayload x.kind (table_before x strings) all_units.own
        (situation_of x strings bytes).items c) (sym joined) all_units.is_payload

  there : (items : List Item) (own : List (List ℕ)) → MayBegin x strings → IsDecoded x strings bytes
      items own → IsPayload x.kind (table_before x strings) own items bytes × IsAdmitted x.limits
      items (strings ++ own)
  there items own may h =
      let none = h.offenceless in
      let same : (all_units none).own ≡ own = append_cancel_left strings (all_units none).own own
      (sym (all_units none).strings_are ∙ h.strings_are) in
      let keeps = keeps_within x strings (readable x strings) bytes in
      let admitted : IsAdmitted x.limits (situation_of x strings bytes).items
      (situation_of x strings bytes).strings = record {
        depth = let d = keeps.depth in let root = may.depth in omega (arith, d, root);
        content =
            keeps.content;
        dictionary = let d = keeps.dictionary in let first = may.dictionary in omega
            (arith, d, first);
      } in (
        subst (λ (l : List Item). IsPayload x.kind (table_before x strings) own l bytes) h.items_are
            (subst (λ (o : List (List ℕ)). IsPayload x.kind (table_before x strings) o
            (situation_of x strings bytes).items bytes) same (is_payload none)),
        subst (λ (l : List Item). IsAdmitted x.limits l (strings ++ own)) h.items_are
            (subst (λ (s : List (List ℕ)). IsAdmitted x.limits (situation_of x strings bytes).items
            s) h.strings_are admitted),
      )

  -- a payload of what is admitted
  module _ (items : List Item) (own : List (List ℕ))
      (is : IsPayload x.kind (table_before x strings) own items bytes)
      (admitted : IsAdmitted x.limits items (strings ++ own)) where
    passes : Passes (payload x strings) (beginning x strings) 0 bytes
        (behind_payload x strings (readable x strings) items own) []
    passes = payload_passes x strings (readable x strings) bytes items own is admitted

    accepted : UnitsAccept (payload x strings) bytes
    accepted = record {
      units = passes.units;
      situation = behind_payload x strings (readable x strings) items own;
      rest = [];
      lead = subst (λ (c : List ℕ). UnitsLead (payload x strings) (beginning x strings) 0
          passes.units c (behind_payload x strings (readable x strings) items own) [])
          (append-nil bytes) (passes.lead []);
      units_short = short_below (payload x strings) (readable x strings) (size_of passes.units)
          (λ z from n lt. refl) passes.units (beginning x strings) 0 (omega arith);
      rest_begun = (readable x strings).nothing (behind_payload x strings (readable x strings) items
          own) (size_of passes.units);
      rest_short = λ n low high. refl;
      may_end = ap (λ o. cut_at o (size_of passes.units)) (document-position items is.document);
    }

    stands : situation_of x strings bytes ≡ behind_payload x strings (readable x strings) items own
    stands = (passes_between (payload x strings) (readable x strings) (length bytes)
        (λ z from n lt. refl) bytes [] (behind_payload x strings (readable x strings) items own) []
        passes (omega arith)).situation

    back : IsDecoded x strings bytes items own
    back = record {
      offenceless = (accepted_or_offended (payload x strings) (readable x strings) bytes).1
          accepted;
      items_are = ap (λ (z : Situation). z.items) stands;
      strings_are = ap (λ (z : Situation). z.strings) stands;
    }

pub accepted_strings : (x : Settings) (strings : List (List ℕ)) (bytes : List ℕ)
    → offence (payload x strings) bytes ≡ None → (own : List (List ℕ))
    × ((situation_of x strings bytes).strings ≡ strings ++ own)
accepted_strings x strings bytes none =
    ((all_units x strings bytes none).own, (all_units x strings bytes none).strings_are)

pub payloads_are_accepted : PayloadsAreAccepted
payloads_are_accepted x strings bytes items own may =
    (there x strings bytes items own may, λ h. back x strings bytes items own h.0 h.1)

-- what admits two payloads
wide : (table : StringTable) (kind : Kind) (own others : List (List ℕ)) (items more : List Item)
    → Settings
wide table kind own others items more = record {
  statics = table.statics;
  kind = kind;
  limits = limits 0 (max (depth_of items) (depth_of more))
      (max (used_cost (table.strings ++ own)) (used_cost (table.strings ++ others)))
      (max (content_of items) (content_of more)) 0 0;
}

pub spells_one_document : SpellsOneDocument
unfolding wide
spells_one_document kind table own others items more bytes one other =
    let x = wide table kind own others items more in
    let first = stands x table.strings bytes items own one
    (record { depth = omega arith; content = omega arith; dictionary = omega arith }) in
    let second = stands x table.strings bytes more others other
    (record { depth = omega arith; content = omega arith; dictionary = omega arith }) in
    let same = sym first ∙ second in (
      append_cancel_left table.strings own others (ap (λ (z : Situation). z.strings) same),
      ap (λ (z : Situation). z.items) same,
    )
