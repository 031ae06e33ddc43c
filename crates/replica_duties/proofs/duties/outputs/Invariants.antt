use Rattle.std.proofs.Common.{◌≡◌, length, map, take}
use Rattle.graph.specs.declared.net.Plug.{Plug}
use Rattle.replica_duties.proofs.duties.outputs.Given as goal

abbrev pub invariant-loop-plug : goal.invariant-loop-plug
invariant-loop-plug l = record {
  count : length l.due.items ≡ l.plug-index;
  due : l.due.items ≡ map (λ (plug : Plug). plug.task) (take l.plug-index l.plug-items);
}
