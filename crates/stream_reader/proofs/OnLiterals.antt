-- What the worked streams stand on: the definitions that they unfold, static strings, quotas, and a
-- preamble.
use Rattle.std.proofs.Common.{ℕ, List, [], ◌∷◌, ◌++◌, codes}
use Rattle.std.specs.Prelude.{⊤}
use Rattle.unit_streams.specs.{Grammar.resumed, Judging.is_over_at}
use Rattle.unit_streams.specs.Judging.{answer, answer_from, events, events_in, events_of}
use Rattle.multibyte_ints.specs.Text.{string_at, text_at, text_behind, text_ending_at}
use Rattle.nbfx_values.specs.Limits.{limits, usual_limits}
use Rattle.nbfx_decoder.proofs.OnLiterals.{envelope_strings, payloads_on_literals}
use Rattle.stream_reader.specs.Stream.{after, any_initiators, completed, cut_off, refused, Settings}
use Rattle.stream_reader.specs.Stream.{too_long, unit_in}

-- what a proof unfolds to compute streams
unfoldable pub streams_on_literals : ⊤
unfolding payloads_on_literals string_at text_behind text_at text_ending_at resumed events events_in
    events_of is_over_at answer_from answer unit_in after completed refused too_long cut_off
streams_on_literals = tt

-- under the usual quotas
abbrev pub usual : Settings
usual = any_initiators envelope_strings usual_limits

-- with these quotas
abbrev pub set_to : (payload via session : ℕ) → Settings
set_to payload via session = any_initiators envelope_strings
    (limits payload 32 2048 262144 via session)

-- with this session quota
abbrev pub of_session : ℕ → Settings
of_session session = set_to 65536 2048 session

-- one static string, four elements in one another, strings of eight bytes, twenty bytes of content;
-- with this session quota
abbrev pub narrow : ℕ → Settings
narrow session =
    any_initiators ((2, codes "Envelope") ∷ []) (limits 4096 4 8 20 2048 session)

-- a preamble's records, each behind those before it
abbrev pub version : List ℕ
version = 0 ∷ 1 ∷ 0 ∷ []

abbrev pub with_mode : List ℕ
with_mode = version ++ 1 ∷ 2 ∷ []

abbrev pub with_via : List ℕ
with_via = with_mode ++ 2 ∷ 13 ∷ codes "net.tcp://h/e"

abbrev pub with_encoding : ℕ → List ℕ
with_encoding encoding = with_via ++ 3 ∷ encoding ∷ []

abbrev pub preamble : List ℕ
preamble = with_encoding 8 ++ 12 ∷ []

abbrev pub plain_preamble : List ℕ
plain_preamble = with_encoding 7 ++ 12 ∷ []

-- with its encoding spelled out
abbrev pub spelled_preamble : List ℕ
spelled_preamble = with_via ++ 4 ∷ 30 ∷ codes "application/soap+msbinsession1" ++ 12 ∷ []

-- a document of one element, behind no strings
abbrev pub element : List ℕ
element = 0 ∷ 64 ∷ 1 ∷ 120 ∷ 1 ∷ []
