use Rattle.std.proofs.Common.{◌≡◌, ◌≤◌, ◌-◌, length, drop}
use Rattle.mc_reader.specs.Places.{decls}
use Rattle.mc_reader.specs.Answers.{after}
use Rattle.mc_reader.proofs.declaration.declarations.Given as goal

abbrev pub invariant-loop-role : goal.invariant-loop-role
invariant-loop-role l = record {
  within : l.cursor.at ≤ length l.tokens;
  reads : decls l.bytes l.fn.place (drop l.fn.cursor.at l.tokens) ≡ after l.items (decls l.bytes l.fn.place (drop l.cursor.at l.tokens));
}

abbrev pub decreases-loop-role : goal.decreases-loop-role
decreases-loop-role l = length l.tokens - l.cursor.at
