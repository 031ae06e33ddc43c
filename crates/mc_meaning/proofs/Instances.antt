-- An instance, by what its body left.
use Rattle.std.proofs.Common.{◌≡◌, ℕ, ◌+◌, ℤ, pos, List, [], ◌∷◌, ◌++◌, length, take, map, reverse, replicate, Option, Some, None, true, false, refl, sym, ap, ◌∙◌, append_assoc}
use Rattle.std.specs.Prelude.{is_some}
use Rattle.std.proofs.lemmas.List.{length-map, replicate-append-replicate}
use Rattle.std.proofs.Math.Seq.{take-length}
use Rattle.mc_tree.specs.declared.tree.Cell.{Cell}
use Rattle.mc_tree.specs.declared.tree.Task.{Task}
use Rattle.mc_tree.specs.declared.tree.Stmt.{Stmt}
use Rattle.mc_tree.specs.Plain.{plain_func, plain_list, plain_task}
use Rattle.mc_tree.specs.Meaning.{all_do, run_all, params_at}
use Rattle.mc_tree.specs.Instance.{Gives, Breaks, is_state, is_out, ended, instance_of, words_at_start, words_of}
use Rattle.mc_meaning.specs.Run.{params_of, calls_of, after_of}

-- one more word of 0
pub one_zero : (now words before : List ℤ) (n : ℕ) → words ≡ before ++ replicate n (pos 0) → now ≡ words ++ pos 0 ∷ [] → now ≡ before ++ replicate (n + 1) (pos 0)
one_zero now words before n e en =
    en ∙ ap (λ l. l ++ pos 0 ∷ []) e ∙ append_assoc before (replicate n (pos 0)) (pos 0 ∷ []) ∙ ap (λ l. before ++ l) (replicate-append-replicate n 1 (pos 0))

-- all functions may be called in the body
all_known : (t : Task) → calls_of t (length t.funcs) ≡ run_all (params_at (map (plain_func t.cells) t.funcs)) (reverse (map (plain_func t.cells) t.funcs))
unfolding calls_of params_of
all_known t =
    let fs = map (plain_func t.cells) t.funcs in
    ap (λ n. run_all (params_at fs) (reverse (take n fs))) (sym (length-map t.funcs (plain_func t.cells))) ∙ ap (λ l. run_all (params_at fs) (reverse l)) (take-length fs)

pub instance_is : (t : Task) (state ins words : List ℤ) (cells1 : List Cell) → cells1 ≡ t.cells → words ≡ words_at_start cells1 state ins
    → ended t.cells (all_do (params_of t) (calls_of t (length t.funcs)) (plain_list t.cells t.body) words 0) ≡ instance_of (plain_task t) state ins
unfolding instance_of params_of
instance_is t state ins words cells1 ec ew =
    ap (λ r. ended t.cells (all_do (params_of t) r (plain_list t.cells t.body) words 0)) (all_known t)
    ∙ ap (λ ws. ended t.cells (all_do (params_of t) (run_all (params_of t) (reverse (map (plain_func t.cells) t.funcs))) (plain_list t.cells t.body) ws 0)) (ew ∙ ap (λ cs. words_at_start cs state ins) ec)

-- what the body left, over the task's own functions and statements
pub body_left : (t : Task) (words ds : List ℤ) (body1 : List Stmt) (o : Option ℕ) (known : ℕ) → known ≡ length t.funcs → body1 ≡ t.body
    → after_of ds o ≡ all_do (params_of t) (calls_of t known) (plain_list t.cells body1) words 0 → after_of ds o ≡ all_do (params_of t) (calls_of t (length t.funcs)) (plain_list t.cells t.body) words 0
body_left t words ds body1 o known ek eb h =
    h ∙ ap (λ k. all_do (params_of t) (calls_of t k) (plain_list t.cells body1) words 0) ek ∙ ap (λ b. all_do (params_of t) (calls_of t (length t.funcs)) (plain_list t.cells b) words 0) eb

-- the outcome of words that the body left, and of a break
pub gives : (t : Task) (ds state outs : List ℤ) (cells1 cells2 : List Cell) (o : Option ℕ) → cells1 ≡ t.cells → cells2 ≡ t.cells → state ≡ words_of is_state cells1 ds → outs ≡ words_of is_out cells2 ds
    → is_some o ≡ true → Gives state outs ≡ ended t.cells (after_of ds o)
gives t ds state outs cells1 cells2 None e1 e2 es eo h = absurd (let x : ⊥ = cc in x)
gives t ds state outs cells1 cells2 (Some m) e1 e2 es eo h =
    let s : state ≡ words_of is_state t.cells ds = es ∙ ap (λ cs. words_of is_state cs ds) e1 in
    let u : outs ≡ words_of is_out t.cells ds = eo ∙ ap (λ cs. words_of is_out cs ds) e2 in
    ap (λ l. Gives l outs) s ∙ ap (λ l. Gives (words_of is_state t.cells ds) l) u

pub breaks : (t : Task) (ds : List ℤ) (o : Option ℕ) → is_some o ≡ false → Breaks ≡ ended t.cells (after_of ds o)
breaks t ds None h = refl
breaks t ds (Some m) h = absurd (let x : ⊥ = cc in x)
