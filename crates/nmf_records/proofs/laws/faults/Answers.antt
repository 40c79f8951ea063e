use Rattle.nmf_records.proofs.{Causes.fault_cause, Faults.fault_comes}
use Rattle.nmf_records.specs.declared.frame.FrameFault.TheVariants as kinds
use Rattle.nmf_records.proofs.laws.faults.Goals as goal

pub returns-clause-unknown_record : goal.returns-clause-unknown_record
returns-clause-unknown_record c limits expect bytes n = (
  fault_cause limits expect bytes kinds.UnknownRecord n,
  fault_comes limits expect bytes
      kinds.UnknownRecord n,
)

pub returns-clause-unexpected : goal.returns-clause-unexpected
returns-clause-unexpected c limits expect bytes t n = (
  fault_cause limits expect bytes (kinds.Unexpected t) n,
  fault_comes limits expect bytes
      (kinds.Unexpected t) n,
)

pub returns-clause-bad_int : goal.returns-clause-bad_int
returns-clause-bad_int c limits expect bytes n =
    (fault_cause limits expect bytes kinds.BadInt n, fault_comes limits expect bytes kinds.BadInt n)

pub returns-clause-text_too_long : goal.returns-clause-text_too_long
returns-clause-text_too_long c limits expect bytes n = (
  fault_cause limits expect bytes kinds.TextTooLong n,
  fault_comes limits expect bytes
      kinds.TextTooLong n,
)

pub returns-clause-type_too_long : goal.returns-clause-type_too_long
returns-clause-type_too_long c limits expect bytes n = (
  fault_cause limits expect bytes kinds.TypeTooLong n,
  fault_comes limits expect bytes
      kinds.TypeTooLong n,
)

pub returns-clause-text_not_utf8 : goal.returns-clause-text_not_utf8
returns-clause-text_not_utf8 c limits expect bytes n = (
  fault_cause limits expect bytes kinds.TextNotUtf8 n,
  fault_comes limits expect bytes
      kinds.TextNotUtf8 n,
)
