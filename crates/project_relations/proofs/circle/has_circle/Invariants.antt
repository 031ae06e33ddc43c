use Rattle.std.proofs.Common.{vec_len}
use Rattle.project_relations.specs.Relations.{CanRank}
use Rattle.project_relations.proofs.circle.has_circle.Given as goal

abbrev pub invariant-rounds : goal.invariant-rounds
invariant-rounds l = record {
  back : CanRank l.left.items → CanRank l.fn.links.items;
  forth : CanRank l.fn.links.items → CanRank l.left.items;
}

abbrev pub decreases-rounds : goal.decreases-rounds
decreases-rounds l = vec_len l.left
