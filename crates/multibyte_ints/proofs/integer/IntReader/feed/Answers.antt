use Rattle.std.proofs.Common.{refl, arith}
use Rattle.multibyte_ints.proofs.ReaderSteps.{power_fits, sum_fits, failed_at_byte, fails_at_byte}
use Rattle.multibyte_ints.proofs.ReaderSteps.{ends_at_byte, goes_on_at_byte, stands_at_byte}
use Rattle.multibyte_ints.proofs.ReaderSteps.{stands_failed, done_by_answer}
use Rattle.multibyte_ints.specs.declared.integer.IntStep.TheVariants.{More, Done, Bad}
use Rattle.multibyte_ints.proofs.integer.IntReader.feed.Goals as goal

pub returns-in_default-clause-answers : goal.returns-in_default-clause-answers
returns-in_default-clause-answers c p s = failed_at_byte _ p c.args.b c.in_default.is s

pub returns-in_default-clause-done : goal.returns-in_default-clause-done
returns-in_default-clause-done c p n s = done_by_answer _ Bad n
    (failed_at_byte _ p c.args.b c.in_default.is s)

pub returns-in_default-clause-stands : goal.returns-in_default-clause-stands
returns-in_default-clause-stands c p s = stands_failed _ _
    (failed_at_byte _ p c.args.b c.in_default.is s) c.in_default.is

pub returns-then-b-gt-GREATEST_FIFTH-clause-answers :
    goal.returns-then-b-gt-GREATEST_FIFTH-clause-answers
returns-then-b-gt-GREATEST_FIFTH-clause-answers c p s =
    fails_at_byte _ p c.args.b _ _ c.in-Within.is c.if-count-eq4.true c.if-b-gt-GREATEST_FIFTH.true
    s

pub returns-then-b-gt-GREATEST_FIFTH-clause-done : goal.returns-then-b-gt-GREATEST_FIFTH-clause-done
returns-then-b-gt-GREATEST_FIFTH-clause-done c p n s =
    done_by_answer _ Bad n (fails_at_byte _ p c.args.b _ _ c.in-Within.is c.if-count-eq4.true
    c.if-b-gt-GREATEST_FIFTH.true s)

pub returns-then-b-gt-GREATEST_FIFTH-clause-stands :
    goal.returns-then-b-gt-GREATEST_FIFTH-clause-stands
returns-then-b-gt-GREATEST_FIFTH-clause-stands c p s =
    stands_failed _ _ (fails_at_byte _ p c.args.b _ _ c.in-Within.is c.if-count-eq4.true
    c.if-b-gt-GREATEST_FIFTH.true s) refl

pub pow-requires : goal.pow-requires
pow-requires c = power_fits c.args.self.now _ _ c.in-Within.is

pub overflow_mul-sum : goal.overflow_mul-sum
overflow_mul-sum c = let fits = sum_fits c.args.self.now c.args.b _ _ _ c.in-Within.is
    c.else-count-eq4.either c.pow.ensures in omega arith

pub overflow_add-sum : goal.overflow_add-sum
overflow_add-sum c = let fits = sum_fits c.args.self.now c.args.b _ _ _ c.in-Within.is
    c.else-count-eq4.either c.pow.ensures in omega arith

pub returns-then-b-lt128-clause-answers : goal.returns-then-b-lt128-clause-answers
returns-then-b-lt128-clause-answers c p s = ends_at_byte _ p c.args.b _ _ _ c.in-Within.is
    c.pow.ensures c.else-count-eq4.either s c.if-b-lt128.true

pub returns-then-b-lt128-clause-done : goal.returns-then-b-lt128-clause-done
returns-then-b-lt128-clause-done c p n s =
    done_by_answer _ (Done _) n (ends_at_byte _ p c.args.b _ _ _ c.in-Within.is c.pow.ensures
    c.else-count-eq4.either s c.if-b-lt128.true)

pub returns-clause-answers : goal.returns-clause-answers
returns-clause-answers c p s = goes_on_at_byte _ p c.args.b _ _ _ c.in-Within.is c.pow.ensures
    c.else-count-eq4.either s c.if-b-lt128.false

pub returns-clause-done : goal.returns-clause-done
returns-clause-done c p n s =
    done_by_answer _ More n (goes_on_at_byte _ p c.args.b _ _ _ c.in-Within.is c.pow.ensures
    c.else-count-eq4.either s c.if-b-lt128.false)

pub returns-clause-stands : goal.returns-clause-stands
returns-clause-stands c p s =
    stands_at_byte _ p c.args.b _ _ _ c.in-Within.is c.pow.ensures c.else-count-eq4.either s _
    c.if-b-lt128.false refl
