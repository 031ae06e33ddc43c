-- What holds of every text that is shown, and of stages that end with one.
use Rattle.std.proofs.Common.{◌≡◌, ◌≢◌, ◌⊎◌, ◌<◌, inl, inr, ℕ, List, Result, Ok, Err, sym, ap, ◌∙◌, subst, arith}
use Rattle.mars_base.specs.Causes.{Rose}
use Rattle.refusals.specs.Causes.{Counts, Caused}
use Rattle.refusals.specs.Status.{status_of, status_of_result}
use Rattle.refusals.specs.declared.refusal.Refusal.{Refusal}
use Rattle.stages.specs.Stage.{Stage, Does, in_turn, judging, printing}
use Rattle.stages.specs.World.{Held}
use Rattle.stages.proofs.Relations.{Within, Refuses, KeepsFiles, KeepsOut, OneAnswer, Passes}
use Rattle.stages.proofs.SoundFacts.{passes_turn, passes_judging, passes_printing}
use Rattle.stages.proofs.Turns.{not_err}
use Rattle.stages.proofs.WithinFacts.{within_turn, within_judging, files_kept, files_printing, refuses_turn, refuses_none, refuses_printing}
use Rattle.tables_print.specs.Showing.{IsDone, showing}

abbrev print_it : List ℕ → Unit {0} → Stage (Unit {0})
print_it text u = printing text

is_done : OneAnswer IsDone
is_done r s one two = one ∙ sym two

-- a text that is shown is sound as a stage
pub passes_showing : (text : List ℕ) → Passes (showing text)
passes_showing text = passes_turn (judging IsDone) (print_it text) (passes_judging IsDone is_done) (λ u. passes_printing text)

-- it changes no file
pub files_showing : (text : List ℕ) → Within KeepsFiles (showing text)
files_showing text = within_turn KeepsFiles (judging IsDone) (print_it text) files_kept (within_judging KeepsFiles IsDone files_kept) (λ u. files_printing text)

-- and refuses nothing but for a cause
pub refuses_showing : (P : Refusal → Type 0) (text : List ℕ) → Refuses P (showing text)
refuses_showing P text = refuses_turn P (judging IsDone) (print_it text) (λ b n r e meant is. refuses_none P tt r e meant.1 is) (λ u. refuses_printing P text)

-- where stages that end with a text were refused, a put of the text failed, or the output is as it was
pub unput : {A : Type 0} (first : Stage A) (text : A → List ℕ) → Within KeepsOut first → (b n : Held) (c d : Counts) (r : Result (Unit {0}) Refusal) (status : ℕ)
    → Does (in_turn first (λ a. showing (text a))) b n c d r → status_of_result r ≡ status → (0 < status) → ((status ≡ 7) × Rose c.output d.output) ⊎ (n.out ≡ b.out)
unput {A} first text kept b n c d r status does is some = by does.how
  where
    by : (in_turn first (λ a. showing (text a))).meant b n r ⊎ ((e : Refusal) × (r ≡ Err e) × (in_turn first (λ a. showing (text a))).cut b n e × Caused c d e) → ((status ≡ 7) × Rose c.output d.output) ⊎ (n.out ≡ b.out)
    by (inl (inl stop)) = inr (kept.by_meant b n (Err stop.0) stop.1)
    by (inl (inr (a, m, meant, inl stop))) = not_err tt stop.0 stop.1.1
    by (inl (inr (a, m, meant, inr (u, k, taken, put)))) = absurd (let zero = ap status_of_result put.1 in omega (arith, zero, is, some))
    by (inr (e, refused, inl cut, caused)) = inr (kept.by_cut b n e cut)
    by (inr (e, refused, inr (a, m, meant, inl cut), caused)) = inr (ap (λ (h : Held). h.out) cut.0 ∙ kept.by_meant b m (Ok a) meant)
    by (inr (e, refused, inr (a, m, meant, inr (u, k, taken, put)), caused)) = inl (sym is ∙ (ap status_of_result refused ∙ ap status_of put.2), subst (Caused c d) put.2 caused)

-- a put failed, or nothing was put
pub unwritten : (status : ℕ) (b n : Held) (c d : Counts) → ((status ≡ 7) × Rose c.output d.output) ⊎ (n.out ≡ b.out) → Rose c.output d.output ⊎ (n.out ≡ b.out)
unwritten status b n c d (inl it) = inl it.1
unwritten status b n c d (inr stays) = inr stays

-- with another status than 7 nothing was put
pub nothing_put : (status : ℕ) (b n : Held) (c d : Counts) → status ≢ 7 → ((status ≡ 7) × Rose c.output d.output) ⊎ (n.out ≡ b.out) → n.out ≡ b.out
nothing_put status b n c d other (inl it) = absurd (other it.0)
nothing_put status b n c d other (inr stays) = stays
