use Rattle.std.proofs.Common.{◌≡◌, [], ◌∷◌, ◌++◌, ap}
use Rattle.multibyte_ints.specs.Reader.{StandsFor as IntStandsFor}
use Rattle.nmf_records.specs.{declared.reader.FrameReader.FrameReader, RecordFronts.frame_at}
use Rattle.nmf_records.specs.Reader.{HasShape, limits_of, size_bytes, StandsFor}
use Rattle.nmf_records.proofs.Leading.{field_leads, only_type, size_byte_leads}
use Rattle.nmf_records.proofs.Showing.{field_head, plain_shows, shows_kept, size_head}
use Rattle.nmf_records.specs.declared.stage.Stage.TheVariants as stages
use Rattle.nmf_records.proofs.reader.FrameReader.read_byte.Goals as goal

pub returns-in-Field-clause-progresses : goal.returns-in-Field-clause-progresses
unfolding StandsFor
returns-in-Field-clause-progresses c = λ p stands reads.
    let r = c.args.self.now in
    let shape : HasShape c.args.expect (stages.Field c.in-Field.field) p = rw c.in-Field.is at
    stands.shape in
    let int : IntStandsFor r.size [] = rw c.in-Field.is at stands.size in
    field_leads (limits_of r) c.args.expect c.in-Field.field p c.args.byte r c.after_field.result
    shape (c.after_field.ensures.reads _ _ p shape stands.begun)
    (c.after_field.ensures.goes _ p shape) int

pub returns-in-Size-clause-progresses : goal.returns-in-Size-clause-progresses
unfolding StandsFor
returns-in-Size-clause-progresses c = λ p stands reads.
    let r = c.args.self.now in
    let shape : HasShape c.args.expect (stages.Size c.in-Size.size) p = rw c.in-Size.is at
    stands.shape in
    let int : IntStandsFor r.size (size_bytes (stages.Size c.in-Size.size) p) = rw c.in-Size.is at
    stands.size in
    size_byte_leads (limits_of r) c.args.expect c.in-Size.size p c.args.byte
    c.read_size_byte.new.self c.read_size_byte.result stands.begun shape
    (c.read_size_byte.ensures.answers _ int)

pub returns-in-Size-clause-limits : goal.returns-in-Size-clause-limits
unfolding limits_of
returns-in-Size-clause-limits c = ap limits_of c.read_size_byte.ensures.others

pub returns-in_default-clause-progresses : goal.returns-in_default-clause-progresses
unfolding StandsFor
returns-in_default-clause-progresses c = λ p stands reads.
    let r = c.args.self.now in
    let at_type = only_type r.stage reads c.in_default.not-Field c.in_default.not-Size in
    let none : p ≡ [] = rw at_type at stands.shape in
    rw none (c.read_first_byte.ensures.progresses (rw none at stands) at_type)

pub returns-in-Field-clause-text : goal.returns-in-Field-clause-text
unfolding StandsFor
returns-in-Field-clause-text c = λ kind p s stands reads h.
    let shape : HasShape c.args.expect (stages.Field c.in-Field.field) p = rw c.in-Field.is at
    stands.shape in
    plain_shows kind c.args.self.now s c.args.expect (p ++ c.args.byte ∷ [])
    (frame_at (limits_of c.args.self.now) c.args.expect (p ++ c.args.byte ∷ []))
    (field_head kind c.args.expect c.in-Field.field p (c.args.byte ∷ []) shape) h

pub returns-in-Size-clause-text : goal.returns-in-Size-clause-text
unfolding StandsFor
returns-in-Size-clause-text c = λ kind p s stands reads h.
    let shape : HasShape c.args.expect (stages.Size c.in-Size.size) p = rw c.in-Size.is at
    stands.shape in
    plain_shows kind c.read_size_byte.new.self s c.args.expect (p ++ c.args.byte ∷ [])
    (frame_at (limits_of c.args.self.now) c.args.expect (p ++ c.args.byte ∷ []))
    (size_head kind c.args.expect c.in-Size.size p (c.args.byte ∷ []) shape)
    (shows_kept kind c.args.self.now c.read_size_byte.new.self s
    (ap (λ (r : FrameReader). r.text) c.read_size_byte.ensures.others)
    (ap (λ (r : FrameReader). r.content_type) c.read_size_byte.ensures.others) h)

pub returns-in_default-clause-text : goal.returns-in_default-clause-text
unfolding StandsFor
returns-in_default-clause-text c = λ kind p s stands reads h.
    let r = c.args.self.now in
    let at_type = only_type r.stage reads c.in_default.not-Field c.in_default.not-Size in
    let none : p ≡ [] = rw at_type at stands.shape in
    rw none (c.read_first_byte.ensures.text kind s h)
