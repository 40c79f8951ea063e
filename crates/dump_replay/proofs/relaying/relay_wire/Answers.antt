use Rattle.std.proofs.Common.{ℕ, List, IfOk, Ok, Option, Result, refl, ap, ◌∙◌, subst, inl}
use Rattle.{io_edges.specs.Store.Store, string_tables.specs.StaticStrings.Entry}
use Rattle.command_words.specs.Values.{text_behind}
use Rattle.dump_replay.specs.declared.relaying.UnreadStatics.{UnreadStatics}
use Rattle.dump_replay.specs.Relaying.{back_or, IsBack}
use Rattle.dump_replay.proofs.relaying.relay_wire.Goals as goal

-- the static strings that are found, beside any of the peers' sessions
abbrev Found : Option Store → Option (List ℕ) → Result (Option (List Entry)) UnreadStatics → Type 0
Found files named result =
    IfOk result (λ table. (front : List Entry) → IsBack files named front (back_or front table))

pub returns-in-Ok-Some-clause-relays : goal.returns-in-Ok-Some-clause-relays
returns-in-Ok-Some-clause-relays g c = λ i. inl (record {
  back = c.in-Ok-Some.back;
  back_is = subst (Found (g.F.Shelf.files c.args.shelf.now)
      (text_behind c.args.relaying.back_statics))
      (c.in-Ok-Some.is ∙ ap Ok c.in-Ok-Some.field-0-is) c.back_in.ensures.found c.args.statics.now;
  joined = c.relay_between.ensures.joins;
  unread = refl;
})

pub returns-in-Ok-None-clause-relays : goal.returns-in-Ok-None-clause-relays
returns-in-Ok-None-clause-relays g c = λ i. inl (record {
  back = c.args.statics.now;
  back_is = subst (Found (g.F.Shelf.files c.args.shelf.now)
      (text_behind c.args.relaying.back_statics))
      (c.in-Ok-None.is ∙ ap Ok c.in-Ok-None.field-0-is) c.back_in.ensures.found c.args.statics.now;
  joined = c.relay_between-in-Ok-None.ensures.joins;
  unread = refl;
})
