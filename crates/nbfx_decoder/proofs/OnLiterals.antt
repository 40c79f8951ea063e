-- What the worked payloads stand on: the definitions that they unfold, a static table, quotas.
use Rattle.std.proofs.Common.{ℕ, List, [], ◌∷◌, codes}
use Rattle.std.specs.{Prelude.⊤, Char.encode_utf8, Char.Utf16.utf16_chars, Str.chars, Str.is_utf8}
use Rattle.unit_streams.specs.Grammar.{peel, peeled, standing}
use Rattle.unit_streams.specs.Judging.{ending_at, event_at, history, history_from, offence}
use Rattle.unit_streams.specs.{Judging.refusal_at, Parts.many, Parts.repeated, Parts.◌>>=◌}
use Rattle.multibyte_ints.specs.Integer.{int_at, int_ending_at, value_of}
use Rattle.nbfx_values.specs.{declared.session.Kind.Kind, Limits.limits, Limits.usual_limits}
use Rattle.nbfx_records.specs.Contents.{contents, scalar_of}
use Rattle.nbfx_records.specs.{Kinds.record_kind, RecordAtFront.node_at}
use Rattle.nbfx_records.specs.Shapes.{array_at, record_at, shape_at}
use Rattle.nbfx_decoder.specs.Payload.{after, refused, Settings, unit_in}
use Rattle.nbfx_decoder.specs.Tables.{head_at, table_string_at}

-- what a proof unfolds to compute payloads
unfoldable pub payloads_on_literals : ⊤
unfolding encode_utf8 utf16_chars chars is_utf8 ◌>>=◌ many repeated int_at int_ending_at value_of
    record_kind array_at record_at shape_at scalar_of contents node_at head_at table_string_at
    unit_in after refused peeled peel standing event_at refusal_at ending_at history_from history
    offence
payloads_on_literals = tt

-- the first strings of the published dictionary that an addressed envelope uses
abbrev pub envelope_strings : List (ℕ × List ℕ)
envelope_strings = (0, codes "mustUnderstand") ∷ (2, codes "Envelope")
    ∷ (4, codes "http://www.w3.org/2003/05/soap-envelope")
    ∷ (6, codes "http://www.w3.org/2005/08/addressing")
    ∷ (8, codes "Header") ∷ (10, codes "Action") ∷ (12, codes "To") ∷ (14, codes "Body")
    ∷ (18, codes "RelatesTo") ∷ (20, codes "http://www.w3.org/2005/08/addressing/anonymous")
    ∷ (26, codes "MessageID") ∷ (42, codes "Address") ∷ (44, codes "ReplyTo") ∷ []

-- under the usual quotas
abbrev pub usual : Kind → Settings
usual kind = record { statics = envelope_strings; kind = kind; limits = usual_limits }

-- one static string, four elements in one another, strings of eight bytes, twenty bytes of content
abbrev pub narrow : Kind → Settings
narrow kind =
    record {
      statics = (2, codes "Envelope") ∷ [];
      kind = kind;
      limits = limits 4096 4 8 20 2048
          4096;
    }
