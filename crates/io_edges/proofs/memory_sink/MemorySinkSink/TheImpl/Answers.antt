use Rattle.std.proofs.{Common.refl, Common.arith, Common.rules, lemmas.Grind.common_steps}
use Rattle.io_edges.{proofs.Pieces.refused_front, specs.InMemory.kept_next, proofs.Putting.Puts-kept}
use Rattle.io_edges.proofs.memory_sink.MemorySinkSink.TheImpl.Goals as goal

pub put-tells : goal.put-tells
put-tells c = record {
  puts = record {
    written = search rules;
    refused = refused_front _ _ _ (kept_next c.args.self.now) c.result c.ensures.front
        c.ensures.memory;
    dropped = search rules;
    unheld = λ _. refl;
    counted = record {
      rose = grind (arith, common_steps);
      same = grind (arith, common_steps);
      grows = grind (arith, common_steps);
    };
    memory = λ _. refl;
    same_memory = refl;
    same_holding = refl;
  };
  same_end = c.ensures.same_end;
}

pub put_some-tells : goal.put_some-tells
put_some-tells c = record {
  within = c.ensures.within;
  some = c.ensures.some;
  puts = record {
    written = search rules;
    refused = search rules;
    dropped = search rules;
    unheld = λ _. refl;
    counted = record {
      rose = grind (arith, common_steps);
      same = grind (arith, common_steps);
      grows = grind (arith, common_steps);
    };
    memory = λ _. refl;
    same_memory = refl;
    same_holding = refl;
  };
  same_end = c.ensures.same_end;
}

pub flush-tells : goal.flush-tells
flush-tells c = record {
  puts = rw c.ensures.kept (Puts-kept _ c.result c.ensures.ok);
  emptied = refl;
  same_end = rw c.ensures.kept refl;
}
