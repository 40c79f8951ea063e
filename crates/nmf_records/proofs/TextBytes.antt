-- What the bytes that a reader of strings takes led to.
use Rattle.nmf_records.specs.RecordFronts.{limit_for, TextLimits}
use Rattle.std.proofs.Common.{ℕ, ◌≤◌, List, ◌++◌, length, take, refl, ap, ◌∙◌}
use Rattle.unit_streams.proofs.Taken.{all_taken, whole_of_taken, wrong_of_taken}
use Rattle.multibyte_ints.proofs.TextBytes.{string_reads_front}
use Rattle.multibyte_ints.specs.declared.text.{StringReader.StringReader, StringStep.StringStep}
use Rattle.multibyte_ints.specs.Text.{bad_int, bad_utf8, string_at, too_long}
use Rattle.multibyte_ints.specs.TextReader.{StringAnswersAt, StringStandsFor}
use Rattle.nmf_records.specs.{declared.stage.TextRecord.TextRecord, Steps.progress_of}
use Rattle.nmf_records.specs.Reader.{kind_of}
use Rattle.nmf_records.specs.Advancing.{TextAnswers}
use Rattle.multibyte_ints.specs.declared.text.StringStep.TheVariants as steps

-- what a reader of strings answers is what its bytes led to
pub text_answers : (limits : TextLimits) (text : TextRecord) (q piece : List ℕ) (n : ℕ)
    (step : StringStep) (new : StringReader) → n ≤ length piece
    → StringAnswersAt (limit_for (kind_of text) limits) q piece n step
    → StringStandsFor new (q ++ take n piece)
    → TextAnswers limits text (q ++ take n piece) new (progress_of text step)
text_answers limits text q piece n step new within e stands = by_step step e
  where
    limit : ℕ
    limit = limit_for (kind_of text) limits

    by_step : (step : StringStep) → StringAnswersAt limit q piece n step
        → TextAnswers limits text (q ++ take n piece) new (progress_of text step)
    by_step steps.More e = (refl, ap (string_at limit) (all_taken q piece n e.1) ∙ e.0, stands)
    by_step steps.Done e = (
      refl,
      e.0,
      whole_of_taken (string_at limit) (string_reads_front limit) q piece n within e.0 e.1,
    )
    by_step steps.BadInt e = (
      bad_int,
      refl,
      wrong_of_taken (string_at limit) (string_reads_front limit) q piece n within bad_int e,
    )
    by_step steps.TooLong e = (
      too_long,
      refl,
      wrong_of_taken (string_at limit) (string_reads_front limit) q piece n within too_long e,
    )
    by_step steps.BadUtf8 e = (
      bad_utf8,
      refl,
      wrong_of_taken (string_at limit) (string_reads_front limit) q piece n within bad_utf8 e,
    )
