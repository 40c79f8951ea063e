use Rattle.std.proofs.Common.{◌≡◌, [], ◌∷◌, refl, ap}
use Rattle.multibyte_ints.{proofs.IntegerBytes.int_peels, specs.Reader.StandsFor as IntStandsFor}
use Rattle.nmf_records.specs.{declared.reader.FrameReader.FrameReader, Steps.starts_text}
use Rattle.nmf_records.specs.{Reader.limits_of, Reader.StandsFor, RecordFronts.frame_at}
use Rattle.nmf_records.specs.RecordFronts.{begins_text, content_type, TextKind, via_or_fault}
use Rattle.nmf_records.proofs.Leading.{fixed_leads, size_leads}
use Rattle.nmf_records.proofs.Showing.{first_shows, shows_kept}
use Rattle.nmf_records.specs.declared.frame.Expect.TheVariants as expects
use Rattle.nmf_records.specs.declared.stage.SizeRecord.TheVariants as sizes
use Rattle.nmf_records.proofs.reader.FrameReader.read_first_byte.Goals as goal

pub returns-in-Types-clause-progresses : goal.returns-in-Types-clause-progresses
unfolding StandsFor
returns-in-Types-clause-progresses c = λ stands at_type.
    let int : IntStandsFor c.args.self.now.size [] = rw at_type at stands.size in
    let size : c.begin_text.new.self.size ≡ c.args.self.now.size = ap (λ (r : FrameReader). r.size)
    c.begin_text.ensures.others in
    rw c.in-Types.is (fixed_leads (limits_of c.args.self.now) (expects.Types c.in-Types.types)
    (c.args.byte ∷ []) c.begin_text.new.self c.after_type-progress.result
    (c.after_type-progress.ensures.reads _) c.after_type-progress.ensures.goes (rw size int)
    c.begin_text.ensures.anew)

pub returns-in-Chunk-clause-progresses : goal.returns-in-Chunk-clause-progresses
unfolding StandsFor
returns-in-Chunk-clause-progresses c = λ stands at_type.
    let int : IntStandsFor c.args.self.now.size [] = rw at_type at stands.size in
    rw c.in-Chunk.is (size_leads (limits_of c.args.self.now) 0 expects.Chunk sizes.Chunk []
    c.args.byte (c.args.byte ∷ []) c.read_size_byte.new.self c.read_size_byte.result refl refl refl
    refl int_peels.nothing (c.read_size_byte.ensures.answers [] int))

pub returns-in-Chunk-clause-limits : goal.returns-in-Chunk-clause-limits
unfolding limits_of
returns-in-Chunk-clause-limits c = ap limits_of c.read_size_byte.ensures.others

-- each text begins where its record does
starts : (c : goal.After-begin_text) (kind : TextKind)
    → starts_text kind c.after_type-progress.result
    ≡ begins_text kind (expects.Types c.in-Types.types) (c.args.byte ∷ [])
starts c via_or_fault = c.after_type-progress.ensures.text
starts c content_type = c.after_type-progress.ensures.content_type

pub returns-in-Types-clause-text : goal.returns-in-Types-clause-text
returns-in-Types-clause-text c = λ kind s h.
    let types = c.in-Types.types in
    let limits = limits_of c.args.self.now in
    rw c.in-Types.is (first_shows kind c.args.self.now c.begin_text.new.self
    c.after_type-progress.result
    s types c.args.byte 1 (frame_at limits (expects.Types types) (c.args.byte ∷ []))
    (starts_text kind c.after_type-progress.result) refl (starts c kind)
    (c.after_type-progress.ensures.reads limits) c.begin_text.ensures.anew
    (c.begin_text.ensures.unchanged kind) h)

pub returns-in-Chunk-clause-text : goal.returns-in-Chunk-clause-text
returns-in-Chunk-clause-text c = λ kind s h. rw c.in-Chunk.is
    (shows_kept kind c.args.self.now c.read_size_byte.new.self s
    (ap (λ (r : FrameReader). r.text) c.read_size_byte.ensures.others)
    (ap (λ (r : FrameReader). r.content_type) c.read_size_byte.ensures.others) h)
