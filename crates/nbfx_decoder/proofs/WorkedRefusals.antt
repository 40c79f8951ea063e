-- Worked payloads that are refused, computed by the definitions: each reason, and where two hold at
-- one byte, the one that comes first.
use Rattle.std.proofs.Common.{◌≡◌, ℕ, List, [], ◌∷◌, map, Some, codes, Option, refl}
use Rattle.unit_streams.specs.Judging.{offence}
use Rattle.nbfx_values.specs.declared.refusals.Reason.TheVariants.{BadArray, BadInt, BadUtf8}
use Rattle.nbfx_values.specs.declared.refusals.Reason.TheVariants.{BadValue, DictionaryFull}
use Rattle.nbfx_values.specs.declared.refusals.Reason.TheVariants.{DocumentCut, NodeOutOfPlace}
use Rattle.nbfx_values.specs.declared.refusals.Reason.TheVariants.{TableCut, TooDeep}
use Rattle.nbfx_values.specs.declared.refusals.Reason.TheVariants.{TooMuchContent, TrailingBytes}
use Rattle.nbfx_values.specs.declared.refusals.Reason.TheVariants.{UnknownNode, UnknownString}
use Rattle.nbfx_values.specs.declared.session.Kind.{Kind, TheVariants.Plain, TheVariants.Session}
use Rattle.nbfx_decoder.specs.Payload.{payload, Refusal, refusal}
use Rattle.nbfx_decoder.proofs.OnLiterals.{narrow, payloads_on_literals, usual}

-- what refuses a payload with strings of its own, or without, where no other came before
abbrev offence_of : Kind → List ℕ → Option Refusal
offence_of kind bytes = offence (payload (narrow kind) []) bytes

abbrev Row : Type 0
Row = Kind × List ℕ × Refusal

abbrev AreRefused : List Row → Type 0
AreRefused rows = map (λ (r : Row). offence_of r.0 r.1) rows ≡ map (λ (r : Row). Some r.2) rows

-- the size of the table
sizes_of_tables : AreRefused (
    (Session, 0xff ∷ 0xff ∷ 0xff ∷ 0xff ∷ 0x08 ∷ [], refusal 0 BadInt) ∷
    (Session, 0x05 ∷ 0x01 ∷ 97 ∷ [], refusal 3 DocumentCut) ∷
    [])
unfolding payloads_on_literals
sizes_of_tables = refl

-- the strings of the table: a length that passes it, also one cut short, and what strings may cost
strings_of_tables : AreRefused (
    (Session, 0x03 ∷ 0x05 ∷ 97 ∷ 98 ∷ 0x40 ∷ 0x01 ∷ 120 ∷ 0x01 ∷ [], refusal 1 TableCut) ∷
    (Session, 0x01 ∷ 0x81 ∷ 0x00 ∷ [], refusal 1 TableCut) ∷
    (Session, 0x0a ∷ 0x09 ∷ 97 ∷ [], refusal 1 DictionaryFull) ∷
    (Session, 0x02 ∷ 0x01 ∷ 0xff ∷ [], refusal 1 BadUtf8) ∷
    [])
unfolding payloads_on_literals
strings_of_tables = refl

-- a fifth byte that is wrong, where the table ends too; a table that ends before it
lengths_at_the_end : AreRefused (
    (Session, 0x05 ∷ 0xff ∷ 0xff ∷ 0xff ∷ 0xff ∷ 0x08 ∷ [], refusal 1 BadInt) ∷
    (Session, 0x04 ∷ 0xff ∷ 0xff ∷ 0xff ∷ 0xff ∷ 0x08 ∷ [], refusal 1 TableCut) ∷
    [])
unfolding payloads_on_literals
lengths_at_the_end = refl

-- a length that passes the table and what strings may cost
lengths_beyond_it : AreRefused (
    (Session, 0x03 ∷ 0x09 ∷ 97 ∷ 97 ∷ [], refusal 1 TableCut) ∷
    [])
unfolding payloads_on_literals
lengths_beyond_it = refl

-- records
records : AreRefused (
    (Plain, 0x40 ∷ 0xff ∷ 0xff ∷ 0xff ∷ 0xff ∷ 0x08 ∷ [], refusal 0 BadInt) ∷
    (Session, 0x00 ∷ 0x40 ∷ 0x01 ∷ 120 ∷ 0x99 ∷ 0x01 ∷ 0xff ∷ [], refusal 4 BadUtf8) ∷
    (Session, 0x00 ∷ 0x40 ∷ 0x01 ∷ 120 ∷ 0xb7 ∷ 0x03 ∷ 97 ∷ 0x00 ∷ 98 ∷ [], refusal 4 BadValue) ∷
    (Session, 0x00 ∷ 0x40 ∷ 0x01 ∷ 120 ∷ 0xb7 ∷ 0x02 ∷ 0x00 ∷ 0xd8 ∷ [], refusal 4 BadValue) ∷
    (Session, 0x00 ∷ 0x40 ∷ 0x01 ∷ 120 ∷ 0xb5 ∷ 0x02 ∷ [], refusal 4 BadValue) ∷
    (Session, 0x00 ∷ 0x40 ∷ 0x01 ∷ 120 ∷ 0xbd ∷ 0x1a ∷ 0x02 ∷ [], refusal 4 BadValue) ∷
    (Session, 0x00 ∷ 0x40 ∷ 0x01 ∷ 120 ∷ 0xa5 ∷ [], refusal 4 UnknownNode) ∷
    (Session, 0x00 ∷ 0x40 ∷ 0x01 ∷ 120 ∷ 0x7f ∷ [], refusal 4 UnknownNode) ∷ (
      Session,
      0x00 ∷ 0x40 ∷ 0x01 ∷ 120 ∷ 0x98 ∷ 0x01 ∷ 97 ∷ 0x06 ∷ 0x00 ∷ 0x82 ∷ [],
      refusal 7 NodeOutOfPlace,
    ) ∷ (
      Session,
      0x00 ∷ 0x40 ∷ 0x01 ∷ 120 ∷ 0x03 ∷ 0x40 ∷ 0x01 ∷ 97 ∷ 0x01 ∷ 0x8d ∷ 0x00 ∷ [],
      refusal 4 BadArray,
    ) ∷ (
      Session,
      0x00 ∷ 0x40 ∷ 0x01 ∷ 120 ∷ 0x03 ∷ 0x40 ∷ 0x01 ∷ 97 ∷ 0x01 ∷ 0x89 ∷ 0x03 ∷ [],
      refusal 4 BadArray,
    ) ∷
    (Session, 0x02 ∷ 0x01 ∷ 120 ∷ 0x42 ∷ 0x05 ∷ 0x01 ∷ [], refusal 3 UnknownString) ∷
    (Session, 0x00 ∷ 0x42 ∷ 0x7c ∷ 0x01 ∷ [], refusal 1 UnknownString) ∷
    (Plain, 0x42 ∷ 0x02 ∷ 0x40 ∷ 0x00 ∷ 0x40 ∷ 0x00 ∷ 0x40 ∷ 0x00 ∷ 0x40 ∷ [], refusal 8 TooDeep) ∷
    (Plain, 0x42 ∷ 0x02 ∷ 0x42 ∷ 0x02 ∷ 0x42 ∷ 0x02 ∷ 0x01 ∷ [], refusal 4 TooMuchContent) ∷
    [])
unfolding payloads_on_literals
records = refl

-- where a payload ends: before its root has, before it has begun, and behind it
ends_of_payloads : AreRefused (
    (Session, 0x00 ∷ 0x40 ∷ 0x01 ∷ 120 ∷ [], refusal 4 DocumentCut) ∷
    (Session, 0x00 ∷ [], refusal 1 DocumentCut) ∷
    (Session, [], refusal 0 DocumentCut) ∷
    (Session, 0x00 ∷ 0x40 ∷ 0x01 ∷ 120 ∷ 0x01 ∷ 0x01 ∷ [], refusal 5 TrailingBytes) ∷
    [])
unfolding payloads_on_literals
ends_of_payloads = refl

-- behind the root nothing else is judged; what is no record is so wherever it stands
judged_first : AreRefused (
    (Session, 0x00 ∷ 0x40 ∷ 0x01 ∷ 120 ∷ 0x01 ∷ 0x7f ∷ [], refusal 5 TrailingBytes) ∷
    (Session, 0x00 ∷ 0x40 ∷ 0x01 ∷ 120 ∷ 0x01 ∷ 0xa6 ∷ [], refusal 5 TrailingBytes) ∷
    (Session, 0x00 ∷ 0x7f ∷ [], refusal 1 UnknownNode) ∷
    [])
unfolding payloads_on_literals
judged_first = refl

-- two reasons at the last byte of a record: text, value, identifier, content, and then the end of
-- the payload
two_reasons : AreRefused (
    (Session, 0x00 ∷ 0x40 ∷ 0x01 ∷ 120 ∷ 0x04 ∷ 0x01 ∷ 0xff ∷ 0xb4 ∷ 0x02 ∷ [], refusal 4 BadUtf8) ∷
    (Session, 0x00 ∷ 0x40 ∷ 0x01 ∷ 120 ∷ 0xbc ∷ 0x1a ∷ 0x7c ∷ [], refusal 4 BadValue) ∷ (
      Plain,
      0x42 ∷ 0x02 ∷ 0x42 ∷ 0x02 ∷ 0x06 ∷ 0x7c ∷ 0x98 ∷ 0x05 ∷ 97 ∷ 97 ∷ 97 ∷ 97 ∷ 97 ∷ [],
      refusal 4 UnknownString,
    ) ∷ (
      Plain,
      0x42 ∷ 0x02 ∷ 0x42 ∷ 0x02 ∷ 0x98 ∷ 0x05 ∷ 97 ∷ 97 ∷ 97 ∷ 97 ∷ 0xff ∷ [],
      refusal 4 BadUtf8,
    ) ∷
    (Plain, 0x42 ∷ 0x02 ∷ 0x42 ∷ 0x02 ∷ 0x42 ∷ 0x02 ∷ [], refusal 4 TooMuchContent) ∷
    [])
unfolding payloads_on_literals
two_reasons = refl

-- a string of no more than admitted, behind those of payloads before
strings_cost_too_much_behind_others : offence (payload (narrow Session) (codes "aaaaaaaa" ∷ []))
    (0x02 ∷ 0x01 ∷ 98 ∷ 0x40 ∷ 0x01 ∷ 120 ∷ 0x01 ∷ [])
    ≡ Some (refusal 1 DictionaryFull)
unfolding payloads_on_literals
strings_cost_too_much_behind_others = refl

-- one element more than the usual quota admits
too_deep_by_usual_quotas : offence (payload (usual Session) [])
    (0x00 ∷ 0x40 ∷ 0x01 ∷ 120 ∷ 0x40 ∷ 0x01 ∷ 120 ∷ 0x40 ∷ 0x01 ∷ 120 ∷ 0x40 ∷ 0x01 ∷ 120 ∷
    0x40 ∷ 0x01 ∷ 120 ∷ 0x40 ∷ 0x01 ∷ 120 ∷ 0x40 ∷ 0x01 ∷ 120 ∷ 0x40 ∷ 0x01 ∷ 120 ∷ 0x40 ∷
    0x01 ∷ 120 ∷ 0x40 ∷ 0x01 ∷ 120 ∷ 0x40 ∷ 0x01 ∷ 120 ∷ 0x40 ∷ 0x01 ∷ 120 ∷ 0x40 ∷ 0x01 ∷ 120 ∷
    0x40 ∷ 0x01 ∷ 120 ∷ 0x40 ∷ 0x01 ∷ 120 ∷ 0x40 ∷ 0x01 ∷ 120 ∷ 0x40 ∷ 0x01 ∷ 120 ∷ 0x40 ∷
    0x01 ∷ 120 ∷ 0x40 ∷ 0x01 ∷ 120 ∷ 0x40 ∷ 0x01 ∷ 120 ∷ 0x40 ∷ 0x01 ∷ 120 ∷ 0x40 ∷ 0x01 ∷ 120 ∷
    0x40 ∷ 0x01 ∷ 120 ∷ 0x40 ∷ 0x01 ∷ 120 ∷ 0x40 ∷ 0x01 ∷ 120 ∷ 0x40 ∷ 0x01 ∷ 120 ∷ 0x40 ∷
    0x01 ∷ 120 ∷ 0x40 ∷ 0x01 ∷ 120 ∷ 0x40 ∷ 0x01 ∷ 120 ∷ 0x40 ∷ 0x01 ∷ 120 ∷ 0x40 ∷ 0x01 ∷ 120 ∷
    0x40 ∷ 0x01 ∷ 120 ∷ 0x40 ∷ 0x01 ∷ 120 ∷ 0x01 ∷ 0x01 ∷ 0x01 ∷ 0x01 ∷ 0x01 ∷ 0x01 ∷ 0x01 ∷
    0x01 ∷ 0x01 ∷ 0x01 ∷ 0x01 ∷ 0x01 ∷ 0x01 ∷ 0x01 ∷ 0x01 ∷ 0x01 ∷ 0x01 ∷ 0x01 ∷ 0x01 ∷ 0x01 ∷
    0x01 ∷ 0x01 ∷ 0x01 ∷ 0x01 ∷ 0x01 ∷ 0x01 ∷ 0x01 ∷ 0x01 ∷ 0x01 ∷ 0x01 ∷ 0x01 ∷ 0x01 ∷ 0x01 ∷ [])
    ≡ Some (refusal 97 TooDeep)
unfolding payloads_on_literals
too_deep_by_usual_quotas = refl
