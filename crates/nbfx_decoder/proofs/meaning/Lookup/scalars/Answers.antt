use Rattle.std.proofs.Common.{List, [], ◌∷◌, ◌++◌, length, sym, subst}
use Rattle.std.proofs.lemmas.Iterator.{Adapters.YieldsList-from_vec, Consumers.YieldsList-turn}
use Rattle.nbfx_values.specs.{declared.scalars.Scalar.Scalar, Scalars.is_valid_scalar}
use Rattle.nbfx_records.specs.{Contents.each, Meaning.meant_scalar, Valid.is_valid_raw}
use Rattle.nbfx_decoder.specs.Meant.{table_of}
use Rattle.nbfx_decoder.proofs.MeaningFacts.{AreFound, each_none, handed_on, one_more}
use Rattle.nbfx_decoder.proofs.meaning.Lookup.scalars.Goals as goal

pub returns-in_err-scalar-clause-found : goal.returns-in_err-scalar-clause-found
returns-in_err-scalar-clause-found c =
    let f = meant_scalar (table_of c.args.self.now) in
    let turn = YieldsList-turn (YieldsList-from_vec c.args.raw (cc) (cc)) c.loop-scalar.yielded
    c.loop-scalar.scalar-iterator c.loop-scalar.yielded_by c.next.result c.next.new.self
    c.in-Some.scalar c.in-Some.is c.next.ensures.steps in
    handed_on (each f c.args.raw) (f c.in-Some.scalar) c.in_err-scalar.field-0.0
    c.from_residual.result c.from_residual.ensures.1 c.in_err-scalar.ensures.found
    (each_none f c.args.raw (length c.loop-scalar.yielded) c.in-Some.scalar turn.0 turn.1)

pub loop-scalar-preserved : goal.loop-scalar-preserved
loop-scalar-preserved c =
    let f = meant_scalar (table_of c.args.self.now) in
    let more = one_more f is_valid_raw is_valid_scalar c.loop-scalar.yielded c.loop-scalar.values
    c.in-Some.scalar c.in_ok-scalar.field-0 c.loop-scalar.invariant c.in_ok-scalar.ensures.found
    c.in_ok-scalar.ensures.valid in
    subst (λ (ys : List Scalar). AreFound f is_valid_raw is_valid_scalar
    (c.loop-scalar.yielded ++ c.in-Some.scalar ∷ []) ys) (sym c.in_ok-push.ensures.pushed) more
