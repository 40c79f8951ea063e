use Rattle.std.proofs.Common.{◌≡◌, ℕ, Bool, true, false, cond, Some, None, string_bytes}
use Rattle.std.proofs.Common.{Option, bytes_eq, sym, refl, ap, ◌∙◌}
use Rattle.std.proofs.lemmas.Map.Text.{btree_map_updates_text, hash_map_updates_text}
use Rattle.std.proofs.lemmas.Result.{IfOk-at_ok}
use Rattle.std.specs.{Cmp.Lexicographic.bytes_decides, Option.option_or}
use Rattle.std.specs.BTreeMap as tree
use Rattle.std.specs.HashMap as hashed
use Rattle.static_dictionary.proofs.names.Names.put.Goals as goal

-- one of two look-ups finds another identifier where a test passes
set_first : (b : Bool) (id : ℕ) (before after second : Option ℕ)
    → after ≡ cond b (Some id) before
    → option_or after second ≡ cond b (Some id) (option_or before second)
set_first true id before after second e = rw e refl
set_first false id before after second e = rw e refl

set_second : (b : Bool) (id : ℕ) (first before after : Option ℕ) → (b ≡ true → first ≡ None)
    → after ≡ cond b (Some id) before
    → option_or first after ≡ cond b (Some id) (option_or first before)
set_second true id first before after none e = rw (none refl, e) refl
set_second false id first before after none e = rw e refl

pub returns-in_ok-insert-clause-set : goal.returns-in_ok-insert-clause-set
returns-in_ok-insert-clause-set c =
    let key = IfOk-at_ok (λ s. string_bytes s ≡ c.args.text.now) c.in_ok-key.was
    c.from_str.ensures.ok in
    let old = c.args.self.now in
    let sets = hash_map_updates_text (string_bytes c.in_ok-key.key) old.by_hash c.insert.new.self _
    c.in_ok-insert.ensures.updates in
    λ other. set_first (bytes_eq c.args.text.now other) c.args.id
    (hashed.get_by_text old.by_hash other) (hashed.get_by_text c.insert.new.self other)
    (tree.get_by_text old.by_order other) (rw key at (sets other))

pub returns-in_ok-insert-2-clause-set : goal.returns-in_ok-insert-2-clause-set
returns-in_ok-insert-2-clause-set c =
    let key = IfOk-at_ok (λ s. string_bytes s ≡ c.args.text.now) c.in_ok-key.was
    c.from_str.ensures.ok in
    let old = c.args.self.now in
    let text = c.args.text.now in
    let sets = btree_map_updates_text (string_bytes c.in_ok-key.key) old.by_order
    c.insert-else-goes_by_hash.new.self _ c.in_ok-insert-2.ensures.updates in
    let none = c.goes_by_hash.ensures c.if-goes_by_hash.false in
    λ other. set_second (bytes_eq text other) c.args.id (hashed.get_by_text old.by_hash other)
    (tree.get_by_text old.by_order other)
    (tree.get_by_text c.insert-else-goes_by_hash.new.self other)
    (λ same. ap (hashed.get_by_text old.by_hash) (sym ((bytes_decides text other).0 same)) ∙ none)
    (rw key at (sets other))
