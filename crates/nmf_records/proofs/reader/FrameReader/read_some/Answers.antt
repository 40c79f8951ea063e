use Rattle.std.proofs.Common.{◌≡◌, ℕ, List, [], ◌∷◌, ◌++◌, take, drop, sym, ap, ◌∙◌}
use Rattle.std.proofs.Common.{subst}
use Rattle.unit_streams.specs.Front.{begun}
use Rattle.multibyte_ints.specs.{Reader.StandsFor as IntStandsFor, TextReader.StringStandsFor}
use Rattle.nmf_records.specs.{declared.reader.FrameReader.FrameReader, RecordFronts.frame_at}
use Rattle.nmf_records.specs.Reader.{HasShape, HoldsText, kind_of, limits_of, reader_of, StandsFor}
use Rattle.nmf_records.specs.Reader.{type_of_text}
use Rattle.nmf_records.proofs.Showing.{text_begun, text_leads, text_shows}
use Rattle.nmf_records.specs.declared.stage.Stage.{Stage}
use Rattle.nmf_records.specs.declared.stage.Stage.TheVariants as stages
use Rattle.nmf_records.proofs.reader.FrameReader.read_some.Goals as goal

pub returns-in-Text-clause-progresses : goal.returns-in-Text-clause-progresses
unfolding StandsFor
returns-in-Text-clause-progresses c = λ p stands.
    let r = c.args.self.now in
    let shape : HasShape c.args.expect (stages.Text c.in-Text.text) p = rw c.in-Text.is at
    stands.shape in
    let int : IntStandsFor r.size [] = rw c.in-Text.is at stands.size in
    let text : StringStandsFor (reader_of (kind_of c.in-Text.text) r) (drop 1 p) =
    subst (λ (s : Stage). HoldsText s r p) c.in-Text.is stands.text in
    let size : c.read_text.new.self.size ≡ r.size = ap (λ (r : FrameReader). r.size)
    c.read_text.ensures.others in
    text_leads (limits_of r) c.args.expect c.in-Text.text p
    (take c.read_text.result.0 c.args.bytes.now) c.read_text.new.self c.read_text.result.1
    stands.begun shape (rw size int)
    (c.read_text.ensures.answers (drop 1 p) text
    (text_begun (limits_of r) c.args.expect c.in-Text.text p stands.begun shape))

pub returns-in-Text-clause-text : goal.returns-in-Text-clause-text
unfolding StandsFor
returns-in-Text-clause-text c = λ kind p s stands h.
    let r = c.args.self.now in
    let shape : HasShape c.args.expect (stages.Text c.in-Text.text) p = rw c.in-Text.is at
    stands.shape in
    let text : StringStandsFor (reader_of (kind_of c.in-Text.text) r) (drop 1 p) =
    subst (λ (s : Stage). HoldsText s r p) c.in-Text.is stands.text in
    let taken : List ℕ = take c.read_text.result.0 c.args.bytes.now in
    let more : p ++ taken ≡ type_of_text c.in-Text.text ∷ (drop 1 p ++ taken) =
    ap (λ (x : List ℕ). x ++ taken) shape in
    let h' : frame_at (limits_of r) c.args.expect (type_of_text c.in-Text.text ∷ drop 1 p)
    ≡ begun = ap (frame_at (limits_of r) c.args.expect) (sym shape) ∙ stands.begun in
    rw more (text_shows (limits_of r) r c.read_text.new.self kind s c.args.expect c.in-Text.text
    (drop 1 p) (drop 1 p ++ taken) c.read_text.ensures.limits h'
    (c.read_text.ensures.stands (drop 1 p) text) (c.read_text.ensures.unchanged kind) h)

pub returns-in-Failed-clause-progresses : goal.returns-in-Failed-clause-progresses
unfolding StandsFor
returns-in-Failed-clause-progresses c = λ p stands. let none : ⊥ = rw c.in-Failed.is at stands.shape
    in absurd none

pub returns-in-Failed-clause-text : goal.returns-in-Failed-clause-text
unfolding StandsFor
returns-in-Failed-clause-text c = λ kind p s stands h. let none : ⊥ = rw c.in-Failed.is at
    stands.shape
    in absurd none
