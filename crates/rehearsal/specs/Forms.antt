-- The lines of a history: the form of each, and the event that it says.
use Rattle.std.specs.Prelude.{◌≡◌, ℕ, ◌<◌, Bool, true, false, List, [], ◌∷◌, ◌++◌, ◌==◌, Some}
use Rattle.std.specs.Prelude.{None, Ok, Err, codes, Option, Result, find, bytes_eq, if◌then◌else◌}
use Rattle.std.specs.Str.{is_utf8}
use Rattle.nbfx_values.specs.declared.content.Item.{Item, TheVariants.Text as TextItem}
use Rattle.nbfx_values.specs.declared.scalars.{Scalar.TheVariants.Text, Value.TheVariants.One}
use Rattle.line_notation.specs.declared.reader.LineKind.{LineKind, TheVariants.BadText}
use Rattle.line_notation.specs.declared.reader.LineKind.TheVariants.{NotALine}
use Rattle.line_notation.specs.{Arguments.number_up_to, Numerals.IsNatural, Options.◌>>=◌}
use Rattle.line_notation.specs.Quoted.{IsQuoted, quoted_in}
use Rattle.reliable_sequence.specs.declared.events.Event.{Event}
use Rattle.reliable_sequence.specs.declared.events.Event.TheVariants.{Ack, Data, Deliver, Send}
use Rattle.reliable_sequence.specs.declared.events.Event.TheVariants.{SendAck, Submit}
use Rattle.rehearsal.specs.declared.line.Keyword.{Keyword}
use Rattle.rehearsal.specs.declared.line.Keyword.TheVariants as keywords

-- what a line says, before it is judged
pub data Form : Type 0 where
  -- a text is submitted as a body, as the last one or not
  submits : (text : List ℕ) → (last : Bool) → Form
  sends : (number : ℕ) → Form
  arrives : (at : ℕ) → Form
  delivers : Form
  acknowledges : Form
  is_heard : (at : ℕ) → Form

abbrev pub keyword_word : Keyword → List ℕ
keyword_word keywords.Submit = codes "submit"
keyword_word keywords.Last = codes "last"
keyword_word keywords.Send = codes "send"
keyword_word keywords.Data = codes "data"
keyword_word keywords.Deliver = codes "deliver"
keyword_word keywords.Ack = codes "ack"
keyword_word keywords.Heard = codes "heard"

-- ---- how it is written

-- numbers have ten digits at most
abbrev pub most_number : ℕ
most_number = 9999999999

-- the line is a keyword and an argument behind a space
abbrev pub HasArgument : Keyword → (List ℕ → Type 0) → List ℕ → Type 0
HasArgument keyword Is line =
    (argument : List ℕ) × (line ≡ keyword_word keyword ++ 32 ∷ argument) × Is argument

-- decimal digits without a leading zero write the number
pub record IsWritten (n : ℕ) (digits : List ℕ) : Type 0 where
  pub natural : IsNatural n digits
  pub few : n < 10000000000

abbrev pub submit_keyword : Bool → Keyword
submit_keyword true = keywords.Last
submit_keyword false = keywords.Submit

-- numbers of bodies are counted from 1, places of what was sent from 0
abbrev pub IsLine : Form → List ℕ → Type 0
IsLine (submits text last) = HasArgument (submit_keyword last) (IsQuoted text)
IsLine (sends n) = HasArgument keywords.Send (λ digits. IsWritten n digits × (0 < n))
IsLine (arrives at) = HasArgument keywords.Data (IsWritten at)
IsLine delivers = λ line. line ≡ codes "deliver"
IsLine acknowledges = λ line. line ≡ codes "ack"
IsLine (is_heard at) = HasArgument keywords.Heard (IsWritten at)

-- ---- how it is read

abbrev pub keywords_of_lines : List Keyword
keywords_of_lines =
    keywords.Submit ∷ keywords.Last ∷ keywords.Send ∷ keywords.Data ∷ keywords.Deliver
    ∷ keywords.Ack ∷ keywords.Heard ∷ []

abbrev pub keyword_in : List ℕ → Option Keyword
keyword_in word = find (λ keyword. bytes_eq (keyword_word keyword) word) keywords_of_lines

-- a byte before the first word
abbrev pub onto_word : ℕ → List ℕ × Option (List ℕ) → List ℕ × Option (List ℕ)
onto_word b parts = (b ∷ parts.0, parts.1)

-- the bytes before the first space, and those behind it
abbrev pub parts_of : List ℕ → List ℕ × Option (List ℕ)
parts_of [] = ([], None)
parts_of (b ∷ line) = if b == 32 then ([], Some line) else onto_word b (parts_of line)

abbrev pub place_in : List ℕ → Option ℕ
place_in = number_up_to most_number

-- 0 is the number of no body
abbrev pub number_in : List ℕ → Option ℕ
number_in digits = place_in digits >>= λ n. if n == 0 then None else Some n

-- what a keyword says by itself, and with an argument
abbrev pub form_alone : Keyword → Option Form
form_alone keywords.Deliver = Some delivers
form_alone keywords.Ack = Some acknowledges
form_alone keyword = None

abbrev pub form_with : List ℕ → Keyword → Option Form
form_with argument keywords.Submit = quoted_in argument >>= λ text. Some (submits text false)
form_with argument keywords.Last = quoted_in argument >>= λ text. Some (submits text true)
form_with argument keywords.Send = number_in argument >>= λ n. Some (sends n)
form_with argument keywords.Data = place_in argument >>= λ at. Some (arrives at)
form_with argument keywords.Heard = place_in argument >>= λ at. Some (is_heard at)
form_with argument keyword = None

abbrev pub form_behind : Option (List ℕ) → Keyword → Option Form
form_behind None = form_alone
form_behind (Some argument) = form_with argument

-- what a line says, if it has a form
abbrev pub form_of : List ℕ → Option Form
form_of line = keyword_in (parts_of line).0 >>= form_behind (parts_of line).1

-- ---- what it means

-- a body of one text
abbrev pub body_of : List ℕ → List Item
body_of text = TextItem (One (Text text)) ∷ []

abbrev pub submission : List ℕ → Bool → Result Event LineKind
submission text last = if is_utf8 text then Ok (Submit (body_of text) last) else Err BadText

abbrev pub event_said : Option Form → Result Event LineKind
event_said None = Err NotALine
event_said (Some (submits text last)) = submission text last
event_said (Some (sends n)) = Ok (Send n)
event_said (Some (arrives at)) = Ok (Data at)
event_said (Some delivers) = Ok Deliver
event_said (Some acknowledges) = Ok SendAck
event_said (Some (is_heard at)) = Ok (Ack at)

-- the event that a line says, or why it is refused: it has no form, or else its text isn't UTF-8
abbrev pub event_of : List ℕ → Result Event LineKind
event_of line = event_said (form_of line)
