-- The laws of code's executions under growing limits.
use Rattle.std.proofs.Common.{◌≡◌, ℕ, ◌<◌, ◌≤◌, List, ℤ, refl, sym, ap, ◌∙◌, subst, arith}
use Rattle.word_code.specs.Cells.{start_of}
use Rattle.processor.specs.Ends.{End, Limited, Over, Cut, limited_map, cycles_in, IsOver}
use Rattle.word_code.specs.Execution.{exec_from, results_of, exec}
use Rattle.word_code.specs.Step.{machine_of}
use Rattle.word_code.specs.declared.code.Code.{Code}
use Rattle.word_code.proofs.Exec.{costed}
use Rattle.processor.proofs.Laws.{exec_within, exec_later, exec_agrees, exec_prefix}

-- what is left, seen otherwise, changes no cycles
map_cycles : {A B : Type 0} (f : A → B) (e : Limited A) → cycles_in (limited_map f e) ≡ cycles_in e
map_cycles f (Over how cycles) = refl
map_cycles f (Cut cycles) = refl

map_over : {A B : Type 0} (f : A → B) (e : Limited A) → IsOver (limited_map f e) → IsOver e
map_over f (Over how cycles) h = tt
map_over f (Cut cycles) h = absurd h

module _ (code : Code) (state ins : List ℤ) where
  abbrev under : ℕ → Limited (List ℤ)
  under limit = exec_from code.instrs limit (start_of code state ins) 0

  abbrev cycles_are : (limit : ℕ) → cycles_in (exec code limit state ins) ≡ cycles_in (under limit)
  cycles_are limit = map_cycles (results_of code) (under limit)

  -- the cycles never pass the limit
  pub ran_within : (limit : ℕ) → cycles_in (exec code limit state ins) ≤ limit
  ran_within limit = omega (arith, cycles_are limit, exec_within (machine_of code.instrs) (costed code.instrs) limit (start_of code state ins) 0 (omega arith))

  -- an execution that is over took a cycle
  pub ran_costs : (limit : ℕ) → IsOver (exec code limit state ins) → 1 ≤ cycles_in (exec code limit state ins)
  ran_costs limit over =
      omega (arith, cycles_are limit, exec_later (machine_of code.instrs) (costed code.instrs) limit (start_of code state ins) 0 (map_over (results_of code) (under limit) over))

  -- an execution that is over comes to the same under each limit that its cycles keep
  pub ran_agrees : (limit other : ℕ) → IsOver (exec code limit state ins) → cycles_in (exec code limit state ins) ≤ other
      → exec code other state ins ≡ exec code limit state ins
  ran_agrees limit other over fits =
      ap (limited_map (results_of code))
      (exec_agrees (machine_of code.instrs) (costed code.instrs) limit other (start_of code state ins) 0 (map_over (results_of code) (under limit) over)
      (omega (arith, cycles_are limit)))

  -- where the cycles under a limit keep a lesser one, they are the same under that
  pub ran_prefix : (high low : ℕ) → low ≤ high → cycles_in (exec code high state ins) ≤ low
      → cycles_in (exec code low state ins) ≡ cycles_in (exec code high state ins)
  ran_prefix high low le fits =
      cycles_are low
      ∙ exec_prefix (machine_of code.instrs) (costed code.instrs) high low (start_of code state ins) 0 (omega arith) le (omega (arith, cycles_are high))
      ∙ sym (cycles_are high)
