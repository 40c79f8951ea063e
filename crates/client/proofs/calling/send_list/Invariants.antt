use Rattle.std.proofs.Common.{◌≡◌, take}
use Rattle.client.specs.LaneWriting.{IsWriting, of_list}
use Rattle.client.proofs.calling.send_list.Given as goal

abbrev pub invariant-loop-doc : goal.invariant-loop-doc
invariant-loop-doc g l = record {
  settings : l.writer.settings ≡ l.fn.settings;
  writing : IsWriting (g.K.Sink.view l.fn.sink) (of_list (take l.doc-index l.docs)) l.writer
      (g.K.Sink.view l.sink);
}
