use Rattle.multibyte_ints.proofs.TextLaws.{string_from_whole, whole_from_string, no_longer_string}
use Rattle.multibyte_ints.proofs.TextLaws.{string_bytes_are}
use Rattle.multibyte_ints.proofs.TextCauses.{bad_int_cause, bad_int_comes, too_long_cause}
use Rattle.multibyte_ints.proofs.TextCauses.{too_long_comes, bad_text_cause, bad_text_comes}
use Rattle.multibyte_ints.proofs.laws.string_spellings.Goals as goal

pub returns-clause-read : goal.returns-clause-read
returns-clause-read c limit b s k = (
  string_from_whole limit b s k,
  λ h. whole_from_string limit b s
      k h.0 h.1 h.2,
)

pub returns-clause-bad_int : goal.returns-clause-bad_int
returns-clause-bad_int c limit b k = (bad_int_cause limit b k, bad_int_comes limit b k)

pub returns-clause-too_long : goal.returns-clause-too_long
returns-clause-too_long c limit b k = (
  too_long_cause limit b k,
  λ h. too_long_comes limit b k h.0
      h.1 h.2,
)

pub returns-clause-bad_utf8 : goal.returns-clause-bad_utf8
returns-clause-bad_utf8 c limit b k = (bad_text_cause limit b k, bad_text_comes limit b k)

pub returns-clause-none_goes_on : goal.returns-clause-none_goes_on
returns-clause-none_goes_on c = no_longer_string

pub returns-clause-written : goal.returns-clause-written
returns-clause-written c = string_bytes_are
