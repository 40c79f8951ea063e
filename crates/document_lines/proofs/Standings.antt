-- Where a line leads that a reader of lines answers.
use Rattle.std.proofs.Common.{◌≡◌, ℕ, ◌+◌, ◌≤◌, Bool, true, false, List, [], ◌∷◌, if◌then◌else◌}
use Rattle.std.proofs.Common.{Some, None, Ok, Err, Option, Result, ap, arith}
use Rattle.nbfx_values.specs.declared.content.Item.{Item, TheVariants.Text, TheVariants.Xmlns}
use Rattle.nbfx_values.specs.declared.content.Item.TheVariants.{Array, Attr, Close, Comment, Start}
use Rattle.nbfx_values.specs.{declared.position.Position.TheVariants.Before, Positions.moved}
use Rattle.nbfx_values.specs.Items.{is_valid_item}
use Rattle.line_notation.specs.declared.{line.Line.Line, reader.LineKind.LineKind}
use Rattle.line_notation.specs.declared.reader.LineStep.TheVariants.{Done, More}
use Rattle.line_notation.specs.Between.{is_between, IsUnrefused, next_line}
use Rattle.line_notation.specs.{Forms.Form, Forms.form_of, Judging.judged}
use Rattle.line_notation.specs.LineReaderState.{after, answer, answer_of, ends, failed, going}
use Rattle.line_notation.specs.LineReaderState.{HasReadFewer, led, on, outcome, outcome_of, Placed}
use Rattle.line_notation.specs.LineReaderState.{placed_at, Standing, standing_of}
use Rattle.line_notation.specs.declared.line.Line.TheVariants as says

-- no item is a document by itself
no_lone_item : (item : Item) (v : Bool) (items doc : List Item)
    → placed_at (if v then moved Before item else None) items ≡ Ok (ends doc) → ⊥
no_lone_item item false items doc e = cc
no_lone_item (Start prefix local) true items doc e = cc
no_lone_item (Xmlns prefix uri) true items doc e = cc
no_lone_item (Attr prefix local value) true items doc e = cc
no_lone_item (Text value) true items doc e = cc
no_lone_item (Comment bytes) true items doc e = cc
no_lone_item (Array a) true items doc e = cc
no_lone_item Close true items doc e = cc

no_lone_said : (said : Result Line LineKind) (doc : List Item) → led [] None said ≡ Ok (ends doc)
    → ⊥
no_lone_said (Err kind) doc e = cc
no_lone_said (Ok (says.Item item)) doc e = no_lone_item item (is_valid_item item) (item ∷ []) doc e
no_lone_said (Ok (says.Array a)) doc e = cc
no_lone_said (Ok (says.Values values)) doc e = cc

no_lone_form : (form : Option Form) (doc : List Item) → outcome_of [] None form ≡ Ok (ends doc) → ⊥
no_lone_form None doc e = cc
no_lone_form (Some form) doc e = no_lone_said (judged None form) doc e

no_lone_line : (line : List ℕ) (doc : List Item) → outcome [] None line ≡ Ok (ends doc) → ⊥
no_lone_line [] doc e = cc
no_lone_line (b ∷ line) doc e = no_lone_form (form_of (b ∷ line)) doc e

-- what an answer says of where the line led
done_of : (n : ℕ) (o : Result Placed LineKind) (doc : List Item) → answer_of n o ≡ Ok (Done doc)
    → o ≡ Ok (ends doc)
done_of n (Ok (on items array)) doc e = cc
done_of n (Ok (ends other)) doc e = let same : other ≡ doc = cc in ap (λ d. Ok (ends d)) same
done_of n (Err kind) doc e = cc

-- no line is a document by itself
pub no_lone : (z : Standing) (line : List ℕ) (doc : List Item) → is_between z ≡ true
    → answer z line ≡ Ok (Done doc) → ⊥
no_lone (failed fault) line doc between e = cc
no_lone (going n [] None) line doc between e =
    no_lone_line line doc (done_of (n + 1) (outcome [] None line) doc e)
no_lone (going n [] (Some a)) line doc between e = cc
no_lone (going n (item ∷ items) array) line doc between e = cc

-- behind the last line of a document no other has begun
pub done_leads : (z : Standing) (line : List ℕ) (doc : List Item) → answer z line ≡ Ok (Done doc)
    → (m : ℕ) × (after z line ≡ going m [] None)
done_leads (failed fault) line doc e = cc
done_leads (going n items array) line doc e =
    (n + 1, ap (standing_of (n + 1)) (done_of (n + 1) (outcome items array line) doc e))

-- a line that goes on isn't refused
more_of : (n : ℕ) (o : Result Placed LineKind) → answer_of n o ≡ Ok More
    → IsUnrefused (standing_of n o)
more_of n (Ok (on items array)) e = tt
more_of n (Ok (ends doc)) e = cc
more_of n (Err kind) e = cc

pub more_leads : (z : Standing) (line : List ℕ) → answer z line ≡ Ok More
    → IsUnrefused (after z line)
more_leads (failed fault) line e = cc
more_leads (going n items array) line e = more_of (n + 1) (outcome items array line) e

-- it is one line more, at most
next_of : (n : ℕ) (o : Result Placed LineKind) → next_line (standing_of n o) ≤ n + 1
next_of n (Ok (on items array)) = omega arith
next_of n (Ok (ends doc)) = omega arith
next_of n (Err kind) = omega arith

pub next_after : (z : Standing) (line : List ℕ) → next_line (after z line) ≤ next_line z + 1
next_after (failed fault) line = omega arith
next_after (going n items array) line = next_of (n + 1) (outcome items array line)

-- fewer lines than so many were read
pub few_lines : (most : ℕ) (z : Standing) → next_line z ≤ most → HasReadFewer most z
few_lines most (failed fault) le = tt
few_lines most (going n items array) le = omega (arith, le)
