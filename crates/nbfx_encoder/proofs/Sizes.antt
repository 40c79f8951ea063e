-- Payloads above the quota.
use Rattle.std.proofs.Common.{◌≡◌, ℕ, ◌<◌, List, length, Err, Result, refl, ap, ◌∙◌, lt-ltb}
use Rattle.string_tables.specs.StringTable.{StringTable}
use Rattle.nbfx_encoder.specs.{Inside.SpelledPayload, Placing.Placed, Refusals.told}
use Rattle.nbfx_encoder.specs.Spelling.{too_large, Unfit, within_payload}
use Rattle.nbfx_encoder.specs.declared.faults.EncodeFault.TheVariants as faults

pub large : (most : ℕ) (answer : Result (Placed (List ℕ)) ℕ) (size : ℕ) (bytes : List ℕ)
    (behind : StringTable) → SpelledPayload answer size bytes behind → most < size
    → (unfit : Unfit) × (within_payload most answer ≡ Err unfit)
    × (faults.TooLarge size ≡ told unfit)
large most answer size bytes behind spelled above =
    let same : size ≡ length spelled.payload.0 = spelled.counted ∙ ap length spelled.bytes_are in
    let over : most < length spelled.payload.0 = rw (← same) above in (
      too_large (length spelled.payload.0),
      rw
          (spelled.answer_is, lt-ltb most (length spelled.payload.0) over) refl,
      ap faults.TooLarge
          same,
    )
