-- The loop over the documents of a seed: what each step may do, and what the end of it answers.
use Rattle.std.proofs.Common.{◌≡◌, ℕ, ◌^◌, ◌<◌, List, IfOk, IfErr, Ok, Err, Result, sym, subst}
use Rattle.{std.proofs.Common.arith, nbfx_encoder.specs.declared.sender.Side.TheVariants.Initiator}
use Rattle.string_tables.specs.StaticStrings.{Entry, IsStaticMap}
use Rattle.nbfx_values.specs.declared.{content.Item.Item, session.Mode.TheVariants.Duplex}
use Rattle.nbfx_values.specs.Limits.{IsGood, Limits}
use Rattle.nbfx_encoder.specs.Sending.{MayNotEnd, mode_in, side_in, state_in}
use Rattle.session_generator.specs.declared.ends.{Ends.Ends, GenFault.GenFault}
use Rattle.session_generator.specs.declared.session.Session.{Session}
use Rattle.session_generator.specs.Documents.{documents, drawn, stepped}
use Rattle.session_generator.specs.Ends.{AreLevel, HaveSession, IsWhyNone}
use Rattle.session_generator.specs.UnderWay.{IsUnderWay, WhereUnderWay}
use Rattle.session_generator.proofs.{Carrying.are_level, Looping.as_many, Looping.ended_with}

-- what is drawn has 32 bits
pub drawn_low : (y : ℕ) → drawn (stepped y) < 2 ^ 32
drawn_low y = omega arith

module _ (statics : List Entry) (l : Limits) (good : IsGood l) (is_map : IsStaticMap statics)
    (done : List (List Item)) (s : Session) (u : IsUnderWay l statics done s) where
  -- the session may end
  pub may_end : MayNotEnd (mode_in s.sender) (side_in s.sender) (state_in s.sender) → ⊥
  may_end h =
      subst (λ t. MayNotEnd Duplex Initiator t) u.state_is
      (subst (λ d. MayNotEnd Duplex d (state_in s.sender)) u.side_is
      (subst (λ m. MayNotEnd m (side_in s.sender) (state_in s.sender)) u.mode_is h))

  module _ (seed count : ℕ) (all : documents seed count ≡ done) where
    pub closes_ended : (result : Result Ends GenFault)
        → IfOk result (λ ends. WhereUnderWay s (λ l statics done. HaveSession l statics done ends))
        → IfOk result (HaveSession l statics (documents seed count))
    closes_ended (Ok ends) h =
        ended_with statics l seed count done ends all (h l statics done good is_map u)
    closes_ended (Err fault) h = tt

    pub closes_counted : (result : Result Ends GenFault)
        → IfOk result (HaveSession l statics (documents seed count))
        → IfOk result (λ ends. ends.documents ≡ count)
    closes_counted (Ok ends) h = as_many l statics seed count ends h
    closes_counted (Err fault) h = tt

    pub closes_level : (result : Result Ends GenFault)
        → IfOk result (HaveSession l statics (documents seed count)) → IfOk result AreLevel
    closes_level (Ok ends) h = are_level l statics (documents seed count) ends h
    closes_level (Err fault) h = tt

    pub closes_stopped : (result : Result Ends GenFault)
        → IfErr result (λ fault. WhereUnderWay s (λ l statics done.
        IsWhyNone l statics done fault))
        → IfErr result (IsWhyNone l statics (documents seed count))
    closes_stopped (Ok ends) h = tt
    closes_stopped (Err fault) h =
        subst (λ ds. IsWhyNone l statics ds fault) (sym all) (h l statics done good is_map u)
