use Rattle.std.proofs.Common.{refl}
use Rattle.graph.proofs.soundness.keeps_entry_rules.Goals as goal

pub returns : goal.returns
returns c = (
  λ _. record {
    shape = c.if-not-is_shape.ensures.0 refl;
    counts = c.if-not-has_counts.ensures.0 refl;
    entries = c.if-not-has_entries.ensures.0 refl;
    fed = (c.in_ok-is_fed_once.ensures {u = tt}).0 c.if-not-branch.false;
    names = (c.in_ok-has_names.ensures {u = tt}).0 c.if-not-branch-2.false;
  },
  λ _. refl,
)
