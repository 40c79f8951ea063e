-- What holds of words by their definitions alone.
use Rattle.std.specs.Prelude.{◌≡◌, List}
use Rattle.command_words.specs.{Options.Text, Requests.Asked, Requests.IsRequest}

-- words are one request at most
abbrev pub AskForOne : Type 0
AskForOne = (words : List Text) (one other : Asked) → IsRequest words one → IsRequest words other
    → one ≡ other
