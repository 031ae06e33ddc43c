use Rattle.std.proofs.Common.{◌≡◌, drop}
use Rattle.mc_tree.specs.Rules.{earliest}
use Rattle.mc_tree.specs.RawPlain.{plain_list}
use Rattle.mc_tree.specs.Rules.{first}
use Rattle.mc_tree.specs.Sites.{bl_sites, bl_after}
use Rattle.mc_check.specs.View.{outside, sofar, around}
use Rattle.mc_check.proofs.statement.+walk.Given as goal

abbrev pub invariant-block-loop-s : goal.invariant-block-loop-s
invariant-block-loop-s l = record {
  first : earliest l.best (first (bl_sites (outside l.globals) (around l.surroundings) (sofar l.locals) (plain_list (drop l.s-index l.stmts))))
      ≡ first (bl_sites (outside l.globals) (around l.surroundings) (sofar l.initial.locals) (plain_list l.stmts));
  after : bl_after (plain_list (drop l.s-index l.stmts)) (sofar l.locals) ≡ bl_after (plain_list l.stmts) (sofar l.initial.locals);
}
