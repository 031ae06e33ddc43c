-- The numbers of the rules.
use Rattle.std.specs.Prelude.{ℕ}
use Rattle.tables.specs.declared.rule.TableRule.{TableRule}
use Rattle.tables.specs.declared.rule.TableRule.TheVariants as rule

abbrev pub number_of : TableRule → ℕ
number_of rule.Jobs = 1
number_of rule.Units = 2
number_of rule.Lengths = 3
number_of rule.Ticks = 4
number_of rule.Releases = 5
number_of rule.Deadlines = 6
number_of rule.Inputs = 7
number_of rule.Frames = 8
