-- What two tries of an envelope leave.
use Rattle.std.proofs.Common.{◌≡◌, ℕ, Bool, true, false, List, ◌++◌, Ok, Err, Result, sym, ap, ◌∙◌}
use Rattle.unit_streams.specs.declared.memory.Memory.{Memory}
use Rattle.string_tables.specs.StringTable.{StringTable}
use Rattle.nbfx_values.specs.declared.session.Mode.{Mode}
use Rattle.nbfx_encoder.specs.declared.sender.SendState.{SendState, TheVariants.Ready}
use Rattle.nbfx_encoder.specs.{Envelopes.envelope, Placing.Placed}
use Rattle.nbfx_encoder.specs.{Sending.behind_message, Spelling.Unfit}
use Rattle.duplex_server.specs.{Jobs.if_fits, ServerStream.first_fitting, ServerStream.when_ready}
use Rattle.duplex_server.specs.Spelling.{Spells, Tries}

-- where a first try wasn't enough, and there was a second one
module _ (mode again : Mode) (old mid new : List ℕ) (before between behind : StringTable)
    (was still moment : SendState) (encoded other other' : Result (Placed (List ℕ)) Unfit)
    (same_mode : again ≡ mode) (same : other' ≡ other) (ready : was ≡ Ready)
    (first : Tries mode old mid before between was still encoded (Ok false)) where
  fitting : (a : Result (Placed (List ℕ)) Unfit) → other' ≡ a
      → when_ready was (first_fitting encoded other) ≡ first_fitting (Err first.0) a
  fitting a is =
      ap (λ m. when_ready m (first_fitting encoded other)) ready
      ∙ ap (λ e. first_fitting e other) first.1
      ∙ ap (λ e. first_fitting (Err first.0) e) (sym same ∙ is)

  pub second_try : (result : Result Bool Memory)
      → Tries again mid new between behind still moment other' result
      → Spells mode old new before behind was moment (when_ready was (first_fitting encoded other))
      result
  second_try (Ok true) h = (
    h.0,
    fitting (Ok h.0) h.1,
    record {
      written = h.2.written ∙ ap (λ l. l ++ envelope again h.0.0) first.2.written
          ∙ ap (λ m. old ++ envelope m h.0.0) same_mode;
      table = h.2.table;
      moment_is = h.2.moment_is ∙ ap behind_message same_mode;
    },
  )
  second_try (Ok false) h = (
    fitting (Err h.0) h.1,
    record {
      written = h.2.written ∙ first.2.written;
      table = h.2.table ∙ first.2.table;
      moment_is = h.2.moment_is ∙ first.2.moment_is;
    },
  )
  second_try (Err memory) h = tt

-- where no first try was needed, since it can't be enough
module _ (mode : Mode) (old new : List ℕ) (before behind : StringTable) (was moment : SendState)
    (other other' : Result (Placed (List ℕ)) Unfit) (same : other' ≡ other) (ready : was ≡ Ready)
  where
    alone : (a : Result (Placed (List ℕ)) Unfit) → other' ≡ a
        → when_ready was (if_fits other) ≡ if_fits a
    alone a is = ap (λ m. when_ready m (if_fits other)) ready ∙ ap if_fits (sym same ∙ is)

    pub only_try : (result : Result Bool Memory)
        → Tries mode old new before behind was moment other' result
        → Spells mode old new before behind was moment (when_ready was (if_fits other)) result
    only_try (Ok true) h = (h.0, alone (Ok h.0) h.1, h.2)
    only_try (Ok false) h = (alone (Err h.0) h.1, h.2)
    only_try (Err memory) h = tt
