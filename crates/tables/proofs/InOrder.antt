-- Rules one after another.
use Rattle.std.proofs.Common.{◌≡◌, ℕ, ◌+◌, ◌<◌, ◌≤◌, [], ◌∷◌, get_or, inl, inr, refl, sym, ap, ◌∙◌, subst, arith}
use Rattle.std.proofs.lemmas.Bool.{cases_lt}
use Rattle.graph.specs.declared.net.Net.{Net}
use Rattle.graph.specs.JobGraph.{JobGraph}
use Rattle.tables.specs.declared.rule.TableRule.{TableRule}
use Rattle.tables.specs.declared.rule.TableRule.TheVariants as rule
use Rattle.tables.specs.declared.table.Tables.{Tables}
use Rattle.tables.specs.Number.{number_of}
use Rattle.tables.specs.Progress.{KeepsBelow}
use Rattle.tables.specs.Valid.{Keeps, AreValid, IsFirstFault}

-- the rule of a number
rule_of : ℕ → TableRule
rule_of n = get_or (rule.Jobs ∷ rule.Jobs ∷ rule.Units ∷ rule.Lengths ∷ rule.Ticks ∷ rule.Releases ∷ rule.Deadlines ∷ rule.Inputs ∷ rule.Frames ∷ []) n rule.Jobs

back : (r : TableRule) → rule_of (number_of r) ≡ r
unfolding rule_of
back rule.Jobs = refl
back rule.Units = refl
back rule.Lengths = refl
back rule.Ticks = refl
back rule.Releases = refl
back rule.Deadlines = refl
back rule.Inputs = refl
back rule.Frames = refl

limits : (r : TableRule) → (1 ≤ number_of r) × (number_of r < 9)
limits rule.Jobs = (omega arith, omega arith)
limits rule.Units = (omega arith, omega arith)
limits rule.Lengths = (omega arith, omega arith)
limits rule.Ticks = (omega arith, omega arith)
limits rule.Releases = (omega arith, omega arith)
limits rule.Deadlines = (omega arith, omega arith)
limits rule.Inputs = (omega arith, omega arith)
limits rule.Frames = (omega arith, omega arith)

-- no rule stands before the first
pub first_below : (net : Net) (g : JobGraph) (t : Tables) → KeepsBelow net g t 1
first_below net g t r low = absurd (omega (arith, low, (limits r).0))

-- one rule more
pub next_below : (net : Net) (g : JobGraph) (t : Tables) (r : TableRule) → KeepsBelow net g t (number_of r) → Keeps net g t r → KeepsBelow net g t (number_of r + 1)
next_below net g t r before kept other low = elim (cases_lt (number_of other) (number_of r)) [
  | inl less ↦ before other less
  | inr last ↦ (let n : number_of other ≡ number_of r = omega (arith, low, last) in let same : r ≡ other = sym (back r) ∙ (ap rule_of (sym n) ∙ back other) in subst (Keeps net g t) same kept)
]

-- the rule fails after those below it
pub first_fault : (net : Net) (g : JobGraph) (t : Tables) (r : TableRule) → KeepsBelow net g t (number_of r) → (Keeps net g t r → ⊥) → IsFirstFault net g t r
first_fault net g t r before fails = record { fails = fails; before = before }

-- all rules
pub all_rules : (net : Net) (g : JobGraph) (t : Tables) → KeepsBelow net g t 9 → AreValid net g t
all_rules net g t below r = below r (limits r).1
