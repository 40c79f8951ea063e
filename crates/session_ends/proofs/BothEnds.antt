-- What a writer has written is read at the other end.
use Rattle.std.proofs.Common.{◌≡◌, ℕ, List, [], ◌++◌, Some, None, sym, refl, ap, ◌∙◌, subst, arith}
use Rattle.{unit_streams.proofs.Standing.standing_nothing, session_ends.specs.Level.AreLevel}
use Rattle.unit_streams.specs.{Going.history_by, Laws.HistoryIsAnswers}
use Rattle.unit_streams.specs.Judging.{Answer, answer, completes, goes_on, history, history_from}
use Rattle.unit_streams.specs.Judging.{offence, offends}
use Rattle.string_tables.{proofs.SessionFacts.used_cost-append, specs.StringTable.StringTable}
use Rattle.nbfx_values.specs.declared.{content.Item.Item, session.Kind.Kind}
use Rattle.nbfx_values.specs.Limits.{IsGood, Limits}
use Rattle.nbfx_records.specs.Payloads.{IsWithin}
use Rattle.nbfx_encoder.specs.declared.encoder.Encoder.{Encoder}
use Rattle.nbfx_encoder.specs.EncoderState.{KeepsSettings, kind_in, names_in}
use Rattle.nbfx_encoder.specs.ReadBack.{AppendsPayload, IsRead}
use Rattle.nbfx_decoder.{proofs.Readable.readable, specs.declared.decoder.Decoder.Decoder}
use Rattle.nbfx_decoder.specs.DecoderState.{settings_of, situation_of, StandsFor}
use Rattle.nbfx_decoder.specs.Laws.{IsWholePayload, MayBegin, PayloadsAreAccepted, table_before}
use Rattle.nbfx_decoder.specs.Payload.{NoEvent, payload, Refusal, Settings}

-- before the first byte of a payload its strings are those of before
pub no_strings : (x : Settings) (strings : List (List ℕ))
    → (situation_of x strings []).strings ≡ strings
no_strings x strings =
    ap (λ s. s.situation.strings) (standing_nothing (payload x strings) (readable x strings))

-- bytes without an offence are taken whole
pub all_taken : (x : Settings) (strings : List (List ℕ)) (bytes : List ℕ)
    → HistoryIsAnswers (payload x strings) → offence (payload x strings) bytes ≡ None
    → answer (payload x strings) [] bytes ≡ goes_on
unfolding offence history
all_taken x strings bytes answers none =
    by (answer (payload x strings) [] bytes) (answers [] bytes)
  where
    by : (a : Answer NoEvent Refusal)
        → history_from (payload x strings) [] bytes ≡ history_by (payload x strings) [] bytes a
        → a ≡ goes_on
    by goes_on h = refl
    by (completes n e) h = absurd (elim e [ ])
    by (offends n r) h =
        absurd (let e : None ≡ Some r = sym none ∙ ap (λ h. h.offence) h in cc)

-- what was appended to nothing is all that there is
pub written_read : (reader : Limits) (kind : Kind) (table : StringTable) (items : List Item)
    (cleared new bytes : List ℕ) (behind : StringTable)
    → AppendsPayload reader kind table items cleared new behind → cleared ≡ [] → bytes ≡ new
    → IsRead reader kind table items bytes behind
written_read reader kind table items cleared new bytes behind written none is =
    let same : written.payload ≡ bytes =
    sym (is ∙ written.written ∙ ap (λ l. l ++ written.payload) none) in
    subst (λ l. IsRead reader kind table items l behind) same written.is_read

module _ (e : Encoder) (d : Decoder) (level : AreLevel e d) (items : List Item) (bytes : List ℕ)
    (behind : StringTable)
    (read : IsRead (settings_of d).limits (kind_in e) (names_in e) items bytes behind) where
  abbrev strings : List (List ℕ)
  strings = (names_in e).strings

  pub behind-strings : behind.strings ≡ strings ++ read.own
  behind-strings = ap (λ (t : StringTable). t.strings) read.behind_is

  same-table : table_before (settings_of d) strings ≡ names_in e
  same-table = ap (λ s. record (names_in e) { statics = s }) level.statics

  pub whole : IsWholePayload (settings_of d) strings read.own items bytes
  whole = record {
    is_payload = rw (level.kind, same-table) read.is_payload;
    within = subst (IsWithin (settings_of d).limits items bytes) behind-strings read.within;
  }

  may : MayBegin (settings_of d) strings
  may = record {
    depth = omega (arith, level.good.depth_least);
    dictionary = omega (
      arith,
      whole.within.admitted.dictionary,
      used_cost-append strings read.own,
    );
  }

  pub taken : PayloadsAreAccepted → HistoryIsAnswers (payload (settings_of d) strings)
      → answer (payload (settings_of d) strings) [] bytes ≡ goes_on
  taken accepted answers =
      all_taken (settings_of d) strings bytes answers
      ((accepted (settings_of d) strings bytes items read.own may).1
      (whole.is_payload, whole.within.admitted)).offenceless

  -- set as the other end, which stands after the payload, another reader has it whole too
  pub whole-again : (other : Decoder) → settings_of other ≡ settings_of d
      → IsWholePayload (settings_of other) strings read.own items bytes
  whole-again other same =
      subst (λ x. IsWholePayload x strings read.own items bytes) (sym same) whole

  -- both ends are level again
  pub level-again : (w : Encoder) (other : Decoder) → KeepsSettings e w → names_in w ≡ behind
      → settings_of other ≡ settings_of d → StandsFor other (strings ++ read.own) []
      → AreLevel w other
  level-again w other kept is same stands = record {
    statics = ap (λ (x : Settings). x.statics) same ∙ level.statics ∙ sym kept.statics;
    kind = ap (λ (x : Settings). x.kind) same ∙ level.kind ∙ sym kept.kind;
    good = subst (λ (x : Settings). IsGood x.limits) (sym same) level.good;
    admits = rw (same, kept.limits) level.admits;
    stands = rw (is, behind-strings) stands;
  }
