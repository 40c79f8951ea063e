use Rattle.std.proofs.{Common.IsTrue, Common.ap, Common.subst, lemmas.Bool.and_parts}
use Rattle.{std.specs.Str.is_utf8, nbfx_encoder.proofs.Writable.names_may}
use Rattle.nbfx_records.specs.{declared.nodes.NameRef.NameRef, Valid.fit_names}
use Rattle.nbfx_encoder.specs.{Inside.names_of, Inside.writing_of, Placing.Placed}
use Rattle.nbfx_encoder.proofs.speller.Speller.put_xmlns.Goals as goal

pub put_declaration-requires : goal.put_declaration-requires
put_declaration-requires c =
    let texts = and_parts (is_utf8 c.args.prefix.now) (is_utf8 c.args.uri.now) c.requires.valid in
    subst (λ (name : NameRef). IsTrue (fit_names c.args.prefix.now name))
    (ap (λ (p : Placed NameRef). p.0) c.in_ok-name.ensures.placed)
    (names_may (writing_of c.args.self.now) (names_of c.args.self.now) c.args.prefix.now
    c.args.uri.now c.requires.sound texts.0 texts.1 c.requires.few)
