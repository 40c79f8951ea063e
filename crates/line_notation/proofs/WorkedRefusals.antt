-- Worked cases: each refusal, and of two the one that goes first.
use Rattle.std.proofs.Common.{◌≡◌, ℕ, true, List, [], ◌∷◌, ◌++◌, map, Some, None, Ok, Err, codes}
use Rattle.std.proofs.Common.{Option, Result, refl}
use Rattle.nbfx_values.specs.declared.content.ArrayItem.{ArrayItem}
use Rattle.nbfx_values.specs.declared.content.Item.{Item, TheVariants.Start, TheVariants.Text}
use Rattle.nbfx_values.specs.declared.scalars.{Scalar.TheVariants.Truth, Value.TheVariants.One}
use Rattle.line_notation.specs.declared.reader.LineFault.{LineFault, TheVariants.Bad}
use Rattle.line_notation.specs.declared.reader.LineKind.{LineKind}
use Rattle.line_notation.specs.declared.reader.LineKind.TheVariants.{BadText, Cut, NotALine}
use Rattle.line_notation.specs.declared.reader.LineKind.TheVariants.{OutOfPlace, OutOfRange}
use Rattle.line_notation.specs.LineReaderState.{ending, failed, on, outcome, standing}
use Rattle.line_notation.proofs.OnLiterals.{lines_on_literals}
use Rattle.nbfx_values.specs.declared.content.ArrayKind.TheVariants as arrays

-- behind a root, behind a text in it, and within an array there
abbrev root : List Item
root = Start [] (codes "x") ∷ []

abbrev texted : List Item
texted = Start [] (codes "x") ∷ Text (One (Truth true)) ∷ []

abbrev numbers : ArrayItem
numbers = record { prefix = []; local = codes "a"; attrs = []; kind = arrays.Int16; values = [] }

-- the items so far, the array that is open, a line, and why it is refused there
abbrev Row : Type 0
Row = List Item × Option ArrayItem × List ℕ × LineKind

abbrev AllRefused : List Row → Type 0
AllRefused rows = map (λ (r : Row). outcome r.0 r.1 r.2) rows ≡ map (λ (r : Row). Err r.3) rows

-- lines of no form
no_forms : AllRefused (
    (root, None, [], NotALine) ∷
    (root, None, codes "txt truth true", NotALine) ∷
    (root, None, codes "Close", NotALine) ∷
    ([], None, codes "start \"\" x", NotALine) ∷
    (root, None, codes "text  truth true", NotALine) ∷
    (root, None, codes "close ", NotALine) ∷
    (root, None, codes "text number 05", NotALine) ∷
    (root, None, codes "text number -0", NotALine) ∷
    (root, None, codes "text number +1", NotALine) ∷
    (root, None, codes "text number -", NotALine) ∷
    (root, None, codes "text decimal 1 + -1", NotALine) ∷
    (root, None, codes "text float 3F800000", NotALine) ∷
    (root, None, codes "text float 3f80000", NotALine) ∷
    (root, None, codes "text bytes \"0\"", NotALine) ∷
    (root, None, codes "comment \"\\4\"", NotALine) ∷
    (root, None, codes "comment \"\\4A\"", NotALine) ∷
    (root, None, codes "text id 00112233-4455-6677-8899-AABBCCDDEEFF", NotALine) ∷
    (root, None, codes "text id {00112233-4455-6677-8899-aabbccddeeff}", NotALine) ∷
    (root, None, codes "text qname A \"n\"", NotALine) ∷
    (root, None, codes "text number 1 number 2", NotALine) ∷
    (root, Some numbers, codes "values", NotALine) ∷
    (root, None, codes "text list 2 number 1", NotALine) ∷
    (root, None, codes "text list 1 number 1 number 2", NotALine) ∷
    (root, None, codes "text list 01 number 1", NotALine) ∷
    (root, None, codes "text list 1 list 1", NotALine) ∷
    (root, None, codes "array int8 \"\" \"a\"", NotALine) ∷
    (root, None, codes "text truth True", NotALine) ∷
    (root, None, codes "text id 00112233445566778899aabbccddeeff", NotALine) ∷
    (root, None, codes "text id urn:uuid:00112233-4455-6677-8899-aabbccddeeff", NotALine) ∷
    (root, None, codes "text qname ab \"n\"", NotALine) ∷
    (root, None, codes "comment " ++ 34 ∷ 127 ∷ 34 ∷ [], NotALine) ∷
    [])
unfolding lines_on_literals
no_forms = refl

-- that goes before a text that isn't UTF-8, a value out of range and the place
no_forms_first : AllRefused (
    (root, None, codes "comment \"\\ff\" \"\"", NotALine) ∷
    (root, None, codes "text number 18446744073709551616 number 1", NotALine) ∷
    ([], None, codes "text number 05", NotALine) ∷
    [])
unfolding lines_on_literals
no_forms_first = refl

-- texts that aren't UTF-8
bad_texts : AllRefused (
    (root, None, codes "comment \"\\ff\"", BadText) ∷
    (root, None, codes "start \"\\c3\" \"x\"", BadText) ∷
    (root, None, codes "text string \"\\80\"", BadText) ∷
    (root, None, codes "text qname a \"\\ed\\a0\\80\"", BadText) ∷
    [])
unfolding lines_on_literals
bad_texts = refl

-- which go before a value out of range and the place
bad_texts_first : AllRefused (
    (root, None, codes "attr \"\" \"\\ff\" number 18446744073709551616", BadText) ∷
    (root, None, codes "text list 2 number 18446744073709551616 string \"\\ff\"", BadText) ∷
    (root, Some numbers, codes "values string \"\\ff\"", BadText) ∷
    ([], None, codes "comment \"\\ff\"", BadText) ∷
    [])
unfolding lines_on_literals
bad_texts_first = refl

-- values out of range
out_of_range : AllRefused (
    (root, None, codes "text number 18446744073709551616", OutOfRange) ∷
    (root, None, codes "text number -9223372036854775809", OutOfRange) ∷
    (root, None, codes "text timespan 9223372036854775808", OutOfRange) ∷
    (root, None, codes "text decimal 29 + 1", OutOfRange) ∷
    (root, None, codes "text decimal 0 - 79228162514264337593543950336", OutOfRange) ∷
    (root, None, codes "text list 1 list 0", OutOfRange) ∷
    (root, Some numbers, codes "values list 1 number 1", OutOfRange) ∷
    (root, Some numbers, codes "values truth true", OutOfRange) ∷
    (root, Some numbers, codes "values number 1 number 32768", OutOfRange) ∷
    [])
unfolding lines_on_literals
out_of_range = refl

-- which go before the place
out_of_range_first : AllRefused (
    ([], None, codes "text number 18446744073709551616", OutOfRange) ∷
    [])
unfolding lines_on_literals
out_of_range_first = refl

-- lines out of place
out_of_place : AllRefused (
    ([], None, codes "text number 1", OutOfPlace) ∷
    ([], None, codes "comment \"\"", OutOfPlace) ∷
    ([], None, codes "array bool \"\" \"a\"", OutOfPlace) ∷
    ([], None, codes "close", OutOfPlace) ∷
    (texted, None, codes "attr \"\" \"k\" truth true", OutOfPlace) ∷
    (texted, None, codes "ns \"\" \"urn:x\"", OutOfPlace) ∷
    (root, None, codes "values number 1", OutOfPlace) ∷
    (root, None, codes "values list 1 number 1", OutOfPlace) ∷
    (root, None, codes "values list 0", OutOfPlace) ∷
    (root, None, codes "values list 1 number 1 list 0 truth true", OutOfPlace) ∷
    (root, Some numbers, codes "start \"\" \"x\"", OutOfPlace) ∷
    (root, Some numbers, codes "text number 1", OutOfPlace) ∷
    (root, Some numbers, codes "array bool \"\" \"a\"", OutOfPlace) ∷
    (root, Some numbers, codes "close", OutOfPlace) ∷
    [])
unfolding lines_on_literals
out_of_place = refl

-- outside an array each value is judged by itself
values_judged_alone : AllRefused (
    (root, None, codes "values truth true list 1 list 0", OutOfRange) ∷
    (root, None, codes "values list 2 list 0 string \"\\ff\"", BadText) ∷
    (root, None, codes "values number 18446744073709551616", OutOfRange) ∷
    [])
unfolding lines_on_literals
values_judged_alone = refl

-- an empty line between documents is passed over
passed_over : outcome [] None [] ≡ Ok (on [] None)
passed_over = refl

-- lines, and how they end where no more come
abbrev Ending : Type 0
Ending = List (List ℕ) × Result (Unit {0}) LineFault

abbrev AllEnd : List Ending → Type 0
AllEnd rows = map (λ (r : Ending). ending (standing r.0)) rows ≡ map (λ (r : Ending). r.1) rows

endings : AllEnd (
    (codes "start \"\" \"x\"" ∷ [], Err (Bad 2 Cut)) ∷
    (codes "start \"\" \"x\"" ∷ codes "array bool \"\" \"a\"" ∷ [], Err (Bad 3 Cut)) ∷
    ([] ∷ codes "start \"\" \"x\"" ∷ codes "close" ∷ [] ∷ [], Ok tt) ∷
    (codes "close" ∷ [], Err (Bad 1 OutOfPlace)) ∷
    [])
unfolding lines_on_literals
endings = refl

-- lines, and the first refusal, which stays
abbrev Failed : Type 0
Failed = List (List ℕ) × LineFault

abbrev AllFailed : List Failed → Type 0
AllFailed rows = map (λ (r : Failed). standing r.0) rows ≡ map (λ (r : Failed). failed r.1) rows

failures : AllFailed (
    (codes "start \"\" x" ∷ codes "close" ∷ [], Bad 1 NotALine) ∷
    ([] ∷ codes "start \"\" \"x\"" ∷ codes "comment \"\\ff\"" ∷ [], Bad 3 BadText) ∷
    [])
unfolding lines_on_literals
failures = refl
