use Rattle.std.proofs.Common.{◌≡◌, ℕ, ◌<◌, cond, List, length, max, Some, None, Option, bytes_eq}
use Rattle.std.proofs.Common.{string_bytes, sym, ap, ◌∙◌, inl, inr, arith}
use Rattle.{std.proofs.lemmas.Bool.cases_Bool, std.specs.Cmp.Lexicographic.bytes_decides}
use Rattle.{std.proofs.lemmas.Result.IfOk-at_ok, string_tables.proofs.EntryFacts.rises-with}
use Rattle.string_tables.specs.StaticStrings.{least_static_id, least_with, with_entry}
use Rattle.static_dictionary.specs.{Inside.entries_in, Names.identifier_in}
use Rattle.static_dictionary.proofs.MapFacts.{least_static_id-updated, shown, shown-insert}
use Rattle.static_dictionary.proofs.table.put_entry.Goals as goal

-- a text that is longer than the one that is set isn't it
longer_unset : (text q : List ℕ) (id : ℕ) (before : Option ℕ) → length text < length q
    → before ≡ None → cond (bytes_eq text q) (Some id) before ≡ None
longer_unset text q id before longer none =
    elim (cases_Bool (bytes_eq text q)) [
      | inl here ↦
          let same : length text ≡ length q = ap length ((bytes_decides text q).0 here) in
          absurd (omega arith)
      | inr other ↦ rw other none
    ]

pub returns-clause-entries : goal.returns-clause-entries
returns-clause-entries c =
    let copy = IfOk-at_ok (λ s. string_bytes s ≡ c.args.text.now) c.in_ok-from_str.was
    c.from_str.ensures.ok in
    ap shown c.in_ok-insert.ensures.entries
    ∙ shown-insert c.args.by_id.now.entries c.args.id c.in_ok-from_str.field-0
    ∙ ap (λ text. with_entry (entries_in c.args.by_id.now) (c.args.id, text)) copy

pub returns-clause-maps : goal.returns-clause-maps
returns-clause-maps c =
    let before = entries_in c.args.by_id.now in
    let entries : goal.returns-clause-entries = returns-clause-entries in
    let held = c.id.ensures ∙ c.requires.maps.least c.args.text.now in
    let least = c.least_with-least.ensures ∙ ap (least_with c.args.id) held in
    record {
      rises =
          rw (entries c)
          (rises-with c.args.id c.args.text.now 0 before c.requires.maps.rises (omega arith)
          c.requires.static_id);
      least = λ q. c.in_ok-put.ensures.set q
          ∙ least_static_id-updated before c.args.id c.least_with-least.result c.args.text.now q
          (identifier_in c.args.names.now q) c.requires.fresh (c.requires.maps.least q) least
          ∙ sym (ap (λ es. least_static_id es q) (entries c));
      longest = λ q long.
          let longer : max c.args.names.now.longest (length c.args.text.now) < length q =
          rw c.in_ok-put.ensures.longest at long in
          c.in_ok-put.ensures.set q
          ∙ longer_unset c.args.text.now q c.least_with-least.result
          (identifier_in c.args.names.now q) (omega arith)
          (c.requires.maps.longest q (omega arith));
    }
