-- What a row that was read says of the file.
use Rattle.std.proofs.Common.{◌≡◌, ℕ, ◌+◌, List, ◌∷◌, Some, Ok, Err, Result, refl, ap}
use Rattle.{csv_rows.proofs.FieldFacts.text_of-is, action_dispatch.specs.Actions.with_row}
use Rattle.csv_rows.specs.Rows.{Row, text_of, two_of}
use Rattle.action_dispatch.specs.declared.fault.{ActionFault.ActionFault, ActionKind.ActionKind}
use Rattle.action_dispatch.specs.declared.fault.ActionFault.TheVariants.{Bad, Memory}
use Rattle.action_dispatch.specs.Actions.{and_then, entry_of, Explains, Fault, Texts, texts_from}

-- a row of two texts
pub entry_of-read : (row : Row) (first second action text : List ℕ)
    → Some (first, second) ≡ two_of row → Some action ≡ text_of first → Some text ≡ text_of second
    → entry_of row ≡ Ok (action, text)
entry_of-read row first second action text two first_text second_text =
    let a = text_of-is first action first_text in
    let t = text_of-is second text second_text in
    rw (← two, a.0, t.0, a.1, t.1) refl

-- what is wrong with a row is wrong with the file, whatever comes behind it
pub explains-file : (more : Texts → Result Texts Fault) (number : ℕ)
    (read : Result Texts ActionKind) (fault : ActionFault)
    → Explains (and_then (λ texts. Ok texts) number read) fault
    → Explains (and_then more number read) fault
explains-file more number (Err wrong) fault h = h
explains-file more number (Ok texts) Memory h = tt
explains-file more number (Ok texts) (Bad row kind) h = absurd cc

-- a row more
pub row_more : (number : ℕ) (row : Row) (rows : List Row) (texts next : Texts)
    → with_row texts row ≡ Ok next
    → texts_from number (row ∷ rows) texts ≡ texts_from (number + 1) rows next
row_more number row rows texts next h = ap (and_then (texts_from (number + 1) rows) number) h
