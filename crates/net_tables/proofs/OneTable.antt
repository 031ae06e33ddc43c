-- A search gives one answer.
use Rattle.std.proofs.Common.{◌≡◌, ℕ, List, length, Result, Err, sym, ap, ◌∙◌, arith}
use Rattle.decisions.specs.Choices.{rules_of}
use Rattle.decisions.specs.Decision.{Decision}
use Rattle.decisions.specs.ProblemOf.{problem_of}
use Rattle.decisions.specs.TablesOf.{tables_of}
use Rattle.graph.specs.declared.net.Net.{Net}
use Rattle.graph.specs.JobGraph.{JobGraph}
use Rattle.net_tables.proofs.OneFirst.{one_first}
use Rattle.net_tables.specs.Gives.{TablesGive, Found, Spent, NoTable, NeedsSteps, IsFirstList, HasNoList}
use Rattle.refusals.specs.declared.refusal.Refusal.{Refusal}
use Rattle.refusals.specs.declared.refusal.Refusal.TheVariants as refusal
use Rattle.stages.proofs.Relations.{OneAnswer}
use Rattle.stages.proofs.Turns.{passes}
use Rattle.stages.proofs.WithinFacts.{refuses_none, refuses_one}
use Rattle.tables.specs.declared.table.Tables.{Tables}
use Rattle.walks.proofs.Passes.{need_unique}

one_need : (net : Net) (g : JobGraph) (m n : ℕ) → NeedsSteps net g m → NeedsSteps net g n → m ≡ n
one_need net g m n h k = need_unique (rules_of (problem_of net g)) (length (problem_of net g).works) m n h k

-- a first list is a list
listed : (net : Net) (g : JobGraph) (list : List Decision) → IsFirstList net g list → HasNoList net g → ⊥
listed net g list first none = none first.ranks list first.is

pub tables_once : (net : Net) (g : JobGraph) (budget : ℕ) → OneAnswer (TablesGive net g budget)
tables_once net g budget r s (Found l m ok first need low) (Found k n fine too also under) =
    ok ∙ (ap (λ (x : List Decision). passes Tables (tables_of (problem_of net g) x)) (one_first (rules_of (problem_of net g)) (length (problem_of net g).works) l k first too) ∙ sym fine)
tables_once net g budget r s (Found l m ok first need low) (Spent n refused also past) = absurd (let same = one_need net g m n need also in omega (arith, same, low, past))
tables_once net g budget r s (Found l m ok first need low) (NoTable n refused none also under) = absurd (listed net g l first none)
tables_once net g budget r s (Spent m refused need past) (Found l n ok first also low) = absurd (let same = one_need net g m n need also in omega (arith, same, low, past))
tables_once net g budget r s (Spent m refused need past) (Spent n too also over) = refused ∙ sym too
tables_once net g budget r s (Spent m refused need past) (NoTable n too none also under) = absurd (let same = one_need net g m n need also in omega (arith, same, under, past))
tables_once net g budget r s (NoTable m refused none need low) (Found l n ok first also under) = absurd (listed net g l first none)
tables_once net g budget r s (NoTable m refused none need low) (Spent n too also past) = absurd (let same = one_need net g m n need also in omega (arith, same, low, past))
tables_once net g budget r s (NoTable m refused none need low) (NoTable n too nothing also under) = refused ∙ sym too

-- a search refuses a budget that is spent, and a net without a table
pub refuses_tables : (P : Refusal → Type 0) (net : Net) (g : JobGraph) (budget : ℕ) → P (refusal.Spent budget) → P refusal.NoTable → (r : Result Tables Refusal) (e : Refusal) → TablesGive net g budget r → r ≡ Err e → P e
refuses_tables P net g budget spent none r e (Found list need ok first needs low) is = refuses_none P (tables_of (problem_of net g) list) r e ok is
refuses_tables P net g budget spent none r e (Spent need refused needs past) is = refuses_one P (refusal.Spent budget) r e spent refused is
refuses_tables P net g budget spent none r e (NoTable need refused nothing needs low) is = refuses_one P refusal.NoTable r e none refused is
