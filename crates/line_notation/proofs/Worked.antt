-- Worked cases: the document of an envelope, line by line.
use Rattle.std.proofs.Common.{◌≡◌, ℕ, List, [], ◌∷◌, pos, None, codes, refl}
use Rattle.nbfx_values.specs.declared.{content.Item.Item, scalars.Value.TheVariants.One}
use Rattle.nbfx_values.specs.declared.content.Item.TheVariants.{Attr, Close, Start, Text, Xmlns}
use Rattle.nbfx_values.specs.declared.scalars.Scalar.TheVariants.{Number, Text as TextOf, UniqueId}
use Rattle.line_notation.specs.LineReaderState.{documents_of, going, standing}
use Rattle.line_notation.{specs.Lines.lines_of, proofs.OnLiterals.lines_on_literals}

identifier : List ℕ
identifier = 0x33 ∷ 0x22 ∷ 0x11 ∷ 0x00 ∷ 0x55 ∷ 0x44 ∷ 0x77 ∷ 0x66 ∷ 0x88 ∷ 0x99 ∷ 0xAA ∷ 0xBB
    ∷ 0xCC ∷ 0xDD ∷ 0xEE ∷ 0xFF ∷ []

words : List ℕ → Item
words bytes = Text (One (TextOf bytes))

envelope : List Item
envelope =
    Start (codes "s") (codes "Envelope") ∷ Xmlns (codes "s")
    (codes "http://www.w3.org/2003/05/soap-envelope")
    ∷ Xmlns (codes "a") (codes "http://www.w3.org/2005/08/addressing") ∷ Start (codes "s")
    (codes "Header")
    ∷ Start (codes "a") (codes "Action") ∷ Attr (codes "s") (codes "mustUnderstand")
    (One (Number (pos 1))) ∷ words (codes "urn:echo") ∷ Close
    ∷ Start (codes "a") (codes "MessageID") ∷ Text (One (UniqueId identifier)) ∷ Close ∷ Close
    ∷ Start (codes "s") (codes "Body") ∷ Start [] (codes "x") ∷ words (codes "hi") ∷ Close ∷ Close
    ∷ Close ∷ []

envelope_lines : List (List ℕ)
envelope_lines =
    codes "start \"s\" \"Envelope\"" ∷ codes "ns \"s\" \"http://www.w3.org/2003/05/soap-envelope\""
    ∷ codes "ns \"a\" \"http://www.w3.org/2005/08/addressing\"" ∷ codes "start \"s\" \"Header\""
    ∷ codes "start \"a\" \"Action\"" ∷ codes "attr \"s\" \"mustUnderstand\" number 1"
    ∷ codes "text string \"urn:echo\"" ∷ codes "close"
    ∷ codes "start \"a\" \"MessageID\"" ∷ codes "text id 00112233-4455-6677-8899-aabbccddeeff"
    ∷ codes "close" ∷ codes "close"
    ∷ codes "start \"s\" \"Body\"" ∷ codes "start \"\" \"x\"" ∷ codes "text string \"hi\""
    ∷ codes "close" ∷ codes "close" ∷ codes "close" ∷ []

envelope-lines : lines_of envelope ≡ envelope_lines
unfolding envelope envelope_lines identifier words lines_on_literals
envelope-lines = refl

envelope-read : documents_of envelope_lines ≡ envelope ∷ []
unfolding envelope envelope_lines identifier words lines_on_literals
envelope-read = refl

envelope-ends : standing envelope_lines ≡ going 18 [] None
unfolding envelope envelope_lines identifier words lines_on_literals
envelope-ends = refl
