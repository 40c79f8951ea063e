use Rattle.std.proofs.Common.{ℕ, ◌+◌, ◌^◌, ◌<◌, ◌&&◌, List, length, IsTrue, nat_lt, sym, ap, ◌∙◌}
use Rattle.std.proofs.{Common.subst, Common.arith, lemmas.Bool.and_parts}
use Rattle.std.specs.{List.list_all, Str.is_utf8}
use Rattle.nbfx_values.specs.Items.{are_texts, fits_kind, is_valid_attribute}
use Rattle.{nbfx_records.proofs.WritableFacts.cells_count, nbfx_encoder.proofs.Writable.names_may}
use Rattle.nbfx_records.specs.{declared.nodes.NameRef.NameRef, Valid.fit_names, Views.name_seen}
use Rattle.nbfx_encoder.specs.{Inside.names_of, Inside.writing_of, Placing.place, Placing.Placed}
use Rattle.nbfx_encoder.proofs.speller.Speller.put_array.Goals as goal

pub put_element-requires : goal.put_element-requires
put_element-requires c =
    let a = c.args.array.now in
    let old = c.args.self.now in
    let parts = and_parts (are_texts a.prefix a.local)
    (list_all is_valid_attribute a.attrs
    && (nat_lt 0 (length a.values) && list_all (fits_kind a.kind) a.values)) c.requires.valid in
    let texts = and_parts (is_utf8 a.prefix) (is_utf8 a.local) parts.0 in
    let few : length a.prefix + length a.local < 2 ^ 31 = omega (arith, c.requires.few) in
    let may = names_may (writing_of old) (names_of old) a.prefix a.local c.requires.sound texts.0
    texts.1 few in
    let placed = ap (λ text. place (writing_of old) (names_of old) text) (sym c.as_str.ensures.same)
    ∙ c.in_ok-name.ensures.placed in
    subst (λ (prefix : List ℕ). IsTrue (fit_names prefix (name_seen c.in_ok-name.name)))
    (sym c.as_str-2.ensures.same)
    (subst (λ (name : NameRef). IsTrue (fit_names a.prefix name))
    (ap (λ (p : Placed NameRef). p.0) placed) may)

pub put_array_values-requires-clause-fits : goal.put_array_values-requires-clause-fits
put_array_values-requires-clause-fits c =
    let a = c.args.array.now in
    let parts = and_parts (are_texts a.prefix a.local)
    (list_all is_valid_attribute a.attrs
    && (nat_lt 0 (length a.values) && list_all (fits_kind a.kind) a.values)) c.requires.valid in
    let inner = and_parts (list_all is_valid_attribute a.attrs)
    (nat_lt 0 (length a.values) && list_all (fits_kind a.kind) a.values) parts.1 in
    let values = and_parts (nat_lt 0 (length a.values)) (list_all (fits_kind a.kind) a.values)
    inner.1 in
    let most = cells_count a.kind a.values values.1 in
    omega (arith, most, c.requires.few, ap length c.as_slice-2.ensures)
