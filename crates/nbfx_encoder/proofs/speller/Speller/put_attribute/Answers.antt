use Rattle.std.proofs.Common.{◌≡◌, ℕ, false, [], ◌++◌, IsTrue, Vec, option_map, sym, refl, ap, ◌∙◌}
use Rattle.std.proofs.{Common.subst, Common.append-nil, Common.arith, lemmas.Bool.and_parts}
use Rattle.std.specs.{Str.is_utf8, declared.alloc.Global.Global}
use Rattle.nbfx_values.specs.{Items.are_texts, Scalars.is_valid_value}
use Rattle.nbfx_records.specs.declared.nodes.{NameRef.NameRef, RawValue.RawValue}
use Rattle.nbfx_records.specs.Chosen.{attribute_start, part_bytes, value_bytes}
use Rattle.nbfx_records.specs.{Valid.fit_names, Views.name_seen}
use Rattle.nbfx_encoder.specs.declared.speller.Speller.{Speller}
use Rattle.nbfx_encoder.specs.Inside.{Answers, names_of, writing_of}
use Rattle.nbfx_encoder.specs.Placing.{Placed, spell_value, Writing}
use Rattle.nbfx_encoder.proofs.{InLists.keeps_writing, Parts.made_answers, Writable.names_may}
use Rattle.nbfx_records.specs.declared.nodes.AttrNode.TheVariants as attribute_nodes
use Rattle.nbfx_encoder.proofs.speller.Speller.put_attribute.Goals as goal

pub put_attribute_start-requires : goal.put_attribute_start-requires
put_attribute_start-requires c =
    let parts = and_parts (are_texts c.args.prefix.now c.args.local.now)
    (is_valid_value c.args.value.now) c.requires.valid in
    let texts = and_parts (is_utf8 c.args.prefix.now) (is_utf8 c.args.local.now) parts.0 in
    subst (λ (name : NameRef). IsTrue (fit_names c.args.prefix.now name))
    (ap (λ (p : Placed NameRef). p.0) c.in_ok-name.ensures.placed)
    (names_may (writing_of c.args.self.now) (names_of c.args.self.now) c.args.prefix.now
    c.args.local.now c.requires.sound texts.0 texts.1 (omega (arith, c.requires.few)))

pub returns-clause-spelled : goal.returns-clause-spelled
returns-clause-spelled c =
    let old = c.args.self.now in
    let placed = c.place.new.self in
    let named = name_seen c.in_ok-name.name in
    let mid : Speller = record placed { nodes = c.put_attribute_start.new.out } in
    let value = c.args.value.now in
    let w : writing_of placed ≡ writing_of old = keeps_writing old placed c.place.ensures.kept in
    let said = subst (λ (v : Writing). Answers (spell_value v (names_of placed) value)
    (value_bytes false) c.put_value.result mid c.put_value.new.self) w
    c.put_value.ensures.spelled in
    let front : mid.nodes.items ≡ old.nodes.items ++ attribute_start c.args.prefix.now named =
    c.in_ok-put_attribute_start.ensures.put
    ∙ ap (λ (v : Vec ℕ Global). v.items ++ attribute_start c.args.prefix.now named)
    c.place.ensures.nodes in
    subst (λ (p : Placed NameRef). Answers
    (option_map (λ (r : Placed RawValue). (
      attribute_nodes.Attribute c.args.prefix.now p.0 r.0,
      r.1,
    )) (spell_value (writing_of old) p.1 value)) part_bytes c.put_value.result old
    c.put_value.new.self) (sym c.in_ok-name.ensures.placed)
    (made_answers (λ (raw : RawValue). attribute_nodes.Attribute c.args.prefix.now named raw)
    (attribute_start c.args.prefix.now named) [] (value_bytes false) part_bytes
    (λ raw. ap (λ l. attribute_start c.args.prefix.now named ++ l)
    (append-nil (value_bytes false raw)))
    (spell_value (writing_of old) (names_of placed) value) c.put_value.result old mid
    c.put_value.new.self said front refl)
