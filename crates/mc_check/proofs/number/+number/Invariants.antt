use Rattle.std.proofs.Common.{◌≡◌, ◌++◌, drop}
use Rattle.mc_tree.specs.Numbered.{numbered_bl}
use Rattle.mc_tree.specs.RawPlain.{plain_list}
use Rattle.mc_tree.specs.Sites.{bl_after}
use Rattle.mc_check.specs.View.{outside, sofar}
use Rattle.mc_check.proofs.number.+number.Given as goal

abbrev pub invariant-stmts-loop-s : goal.invariant-stmts-loop-s
invariant-stmts-loop-s l = record {
  numbered : l.all ++ numbered_bl (outside l.globals) l.counter l.most (sofar l.locals) (plain_list (drop l.s-index l.raws)) ≡ numbered_bl (outside l.globals) l.counter l.most (sofar l.initial.locals) (plain_list l.raws);
  after : bl_after (plain_list (drop l.s-index l.raws)) (sofar l.locals) ≡ bl_after (plain_list l.raws) (sofar l.initial.locals);
}
