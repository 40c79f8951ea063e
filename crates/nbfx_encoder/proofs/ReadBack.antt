-- A payload that was prepared is read back.
use Rattle.std.proofs.Common.{◌≡◌, ℕ, ◌≤◌, List, sym, ap, ◌∙◌}
use Rattle.string_tables.specs.{SessionStrings.used_cost, StringTable.StringTable}
use Rattle.string_tables.specs.StaticStrings.{IsStaticMap}
use Rattle.nbfx_values.specs.{declared.content.Item.Item, Documents.IsDocument}
use Rattle.nbfx_values.specs.{Limits.IsGood, Limits.Limits, Measures.content_of, Measures.depth_of}
use Rattle.nbfx_encoder.specs.declared.encoder.Encoder.{Encoder}
use Rattle.nbfx_encoder.specs.EncoderState.{kind_in, limits_in, names_in}
use Rattle.nbfx_encoder.specs.Inside.{names_of, SpelledPayload, writing_of}
use Rattle.nbfx_encoder.specs.ReadBack.{AdmitsAsMuch, IsRead}
use Rattle.nbfx_encoder.specs.Spelling.{chosen, Fits, within_payload, writing}
use Rattle.nbfx_encoder.proofs.{LawFacts.short_one, Payloads.chosen_is_payload}

-- a writer's quotas are good, and its strings are within them
good_limits : (e : Encoder) → IsGood (limits_in e)
unfolding limits_in
good_limits e = e.quotas.good

strings_within : (e : Encoder) → used_cost (names_in e).strings ≤ (limits_in e).dictionary
unfolding limits_in names_in
strings_within e = e.cost

-- it spells by its quotas
spells_so : (e : Encoder) → writing_of e.speller ≡ writing (limits_in e) (kind_in e)
unfolding limits_in kind_in
spells_so e = ap (λ d. record { kind = e.speller.kind; dictionary = d }) e.limit

pub spelled_reads : (e : Encoder) (items put : List Item) (size : ℕ) (bytes : List ℕ)
    (behind : StringTable) → put ≡ items → IsDocument items → IsStaticMap e.speller.statics.now
    → depth_of items ≤ (limits_in e).depth → content_of items ≤ (limits_in e).content
    → SpelledPayload (within_payload e.quotas.payload
    (chosen (writing_of e.speller) (names_of e.speller) put)) size bytes behind
    → (reader : Limits) → AdmitsAsMuch reader (limits_in e)
    → IsRead reader (kind_in e) (names_in e) items bytes behind
unfolding limits_in kind_in names_in
spelled_reads e items put size bytes behind same document statics depth content spelled reader
    admits =
    let short = short_one e.quotas.payload
    (chosen (writing_of e.speller) (names_of e.speller) put) spelled.payload spelled.answer_is in
    let fits : Fits (limits_in e) (kind_in e) (names_of e.speller) items =
    record {
      depth = depth;
      content = content;
      payload = spelled.payload;
      chosen_is = ap (λ w. chosen w (names_of e.speller) items) (sym (spells_so e))
          ∙ ap (chosen (writing_of e.speller) (names_of e.speller)) (sym same) ∙ short.is;
      within = short.within;
    } in
    rw (spelled.bytes_are, spelled.table)
    (chosen_is_payload (limits_in e) reader (kind_in e) (names_of e.speller) items (good_limits e)
    admits statics (strings_within e) document fits)
