-- The line of what was sent: how many documents, and of which of two lists each was.
use Rattle.std.specs.Prelude.{ℕ, List, [], ◌∷◌, length, map, codes, decimal}
use Rattle.session_report.specs.Report.{line}
use Rattle.two_lanes.specs.declared.jobs.Lane.{Lane, TheVariants.A, TheVariants.B}

-- the letter of a list: a or b
abbrev pub letter_of : Lane → ℕ
letter_of A = 97
letter_of B = 98

abbrev pub letters : List Lane → List ℕ
letters tags = map letter_of tags

-- as a word
abbrev pub tags_word : List ℕ → List ℕ
tags_word [] = codes "-"
tags_word (tag ∷ tags) = tag ∷ tags

abbrev pub sent_line : List Lane → List ℕ
sent_line tags = line (codes "sent")
    (decimal (length tags) ∷ codes "tags" ∷ tags_word (letters tags) ∷ [])
