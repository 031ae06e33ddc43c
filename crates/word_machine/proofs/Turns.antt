-- Where a machine stands after a load, an instruction and an advance.
use Rattle.std.proofs.Common.{◌≡◌, ℕ, ◌+◌, ◌-◌, ◌<◌, ◌≤◌, max, List, [], length, ℤ, Option, Some, refl, sym, ap, ◌∙◌, subst, arith, inl, inr}
use Rattle.std.specs.Prelude.{slice_get, replicate}
use Rattle.std.specs.Option.{option_map}
use Rattle.processor.specs.Ends.{Halted, Broken, Goes, Ends, Over, Cut}
use Rattle.processor.specs.declared.cpu.Turn.{Turn}
use Rattle.processor.specs.declared.cpu.Turn.TheVariants as turn
use Rattle.word_code.specs.Action.{action_of}
use Rattle.word_code.specs.Cells.{start_of, words_at_start, width_of, is_in, is_state}
use Rattle.word_code.specs.Cost.{cost_of}
use Rattle.word_code.specs.Course.{IsOnCourse}
use Rattle.word_code.specs.Execution.{exec_from}
use Rattle.word_code.specs.Ready.{act_on}
use Rattle.word_code.specs.State.{State, at}
use Rattle.word_code.specs.Step.{cost_at, cost_or, step}
use Rattle.word_code.specs.Typing.{IsVerified, pops_of, pushes_of}
use Rattle.word_code.specs.declared.code.Code.{Code}
use Rattle.word_code.specs.declared.code.Slot.{Slot}
use Rattle.word_code.proofs.Course.{course_start, course_step, instr_here, ready, step_is}
use Rattle.word_code.proofs.Exec.{step_costs, exec_short, exec_goes, exec_ends}
use Rattle.word_machine.specs.Acts.{state_of, IsAble}
use Rattle.word_machine.specs.Machine.{or_none, height_of, standing_at, standing, IsSame, Stopped, Runs}
use Rattle.word_machine.specs.Stack.{operands}
use Rattle.word_machine.specs.declared.machine.Machine.{Machine}
use Rattle.word_machine.specs.declared.registers.Registers.{Registers}
use Rattle.word_machine.proofs.Stack.{operands_length}

-- the next instruction costs what it does
cost_here : (code : Code) (k : ℕ) (slot : Slot) → slice_get code.instrs k ≡ Some slot → cost_at code.instrs k ≡ cost_of slot.instr
cost_here code k slot e = ap cost_or (instr_here code k slot e)

-- its height is the one that the code says
pub height_here : (code : Code) (k : ℕ) (slot : Slot) → slice_get code.instrs k ≡ Some slot → height_of code k ≡ slot.height
height_here code k slot e = ap (λ (o : Option Slot). or_none (option_map (λ (s : Slot). s.height) o)) e

-- registers that are loaded
pub loaded : (code : Code) (m : Machine) (state ins : List ℤ) → IsVerified code → length state ≡ width_of is_state code.cells → length ins ≡ width_of is_in code.cells
    → m.registers.words ≡ words_at_start code state ins → m.registers.counters ≡ replicate code.counters 0 → m.registers.returns ≡ []
    → m.pc ≡ 0 → m.cycles ≡ 0 → m.turn ≡ turn.Short → m.limit ≡ 0 → Runs m code state ins 0
loaded code m state ins v hs hi words counters returns pc none going low =
    let course = course_start code state ins v hs hi in
    let flat : height_of code m.pc ≡ 0 = ap (height_of code) pc ∙ ap or_none course.height in
    let start : standing code m ≡ start_of code state ins =
    ap (λ n. at n (operands (height_of code m.pc) m.registers.stack) m.registers.words m.registers.counters m.registers.returns) pc
    ∙ ap (λ h. at 0 (operands h m.registers.stack) m.registers.words m.registers.counters m.registers.returns) flat
    ∙ ap (λ (ws : List ℤ). at 0 [] ws m.registers.counters m.registers.returns) words
    ∙ ap (λ (ks : List ℕ). at 0 [] (words_at_start code state ins) ks m.registers.returns) counters
    ∙ ap (λ (rs : List ℕ). at 0 [] (words_at_start code state ins) (replicate code.counters 0) rs) returns in
    inl (record {
      course = subst (λ (s : State). IsOnCourse code s) (sym start) course;
      going = going;
      below = omega (arith, none);
      kept = low;
      same = λ top le. ap (λ s. exec_from code.instrs top s 0) (sym start) ∙ ap (exec_from code.instrs top (standing code m)) (sym none);
      short = exec_short code.instrs 0 (standing code m) m.cycles (omega (arith, step_costs code.instrs m.pc));
    })

module _ (code : Code) (pc : ℕ) (r : Registers) (slot : Slot) (here : slice_get code.instrs pc ≡ Some slot) (height : ℕ) (height_is : height ≡ slot.height) (v : IsVerified code) (course : IsOnCourse code (standing_at code pc r)) where
  same_height : height_of code pc ≡ height
  same_height = height_here code pc slot here ∙ sym height_is

  -- the registers at the instruction's height
  at_slot : standing_at code pc r ≡ state_of pc height r
  at_slot = ap (λ h. state_of pc h r) same_height

  -- the instruction lacks nothing
  pub able : IsAble (action_of slot.instr) pc height r
  able =
      let is = ready code (standing_at code pc r) slot v course here in
      let len = operands_length (height_of code pc) r.stack in
      record {
        number = is.number;
        most = omega (arith, is.height, len, same_height);
        some = omega (arith, is.operands, len, same_height);
        room = omega (arith, is.room, len, same_height);
        place = is.place;
        counter = is.counter;
        calls = is.calls;
      }

  module _ (limit cycles cost : ℕ) (cost_is : cost ≡ cost_of slot.instr) where
    same_cost : cost_at code.instrs pc ≡ cost
    same_cost = cost_here code pc slot here ∙ sym cost_is

    -- the next instruction would pass the limit
    pub is_short : limit < cycles + cost → exec_from code.instrs limit (standing_at code pc r) cycles ≡ Cut cycles
    is_short past = exec_short code.instrs limit (standing_at code pc r) cycles (omega (arith, same_cost))

    -- the step, by the action on the registers at its height
    stepped : step code.instrs (standing_at code pc r) ≡ act_on (action_of slot.instr) (state_of pc height r)
    stepped = step_is code (standing_at code pc r) slot here ∙ ap (act_on (action_of slot.instr)) at_slot

    -- the instruction ended the execution
    pub is_halted : cycles + cost ≤ limit → act_on (action_of slot.instr) (state_of pc height r) ≡ Ends (Halted r.words)
        → (top : ℕ) → limit ≤ top → exec_from code.instrs top (standing_at code pc r) cycles ≡ Over (Halted r.words) (cycles + cost)
    is_halted fits e top le =
        exec_ends code.instrs top (standing_at code pc r) cycles (Halted r.words) (omega (arith, same_cost)) (stepped ∙ e)
        ∙ ap (λ n. Over (Halted r.words) (cycles + n)) same_cost

    -- the instruction broke the execution
    pub is_broken : cycles + cost ≤ limit → act_on (action_of slot.instr) (state_of pc height r) ≡ Ends Broken
        → (top : ℕ) → limit ≤ top → exec_from code.instrs top (standing_at code pc r) cycles ≡ Over Broken (cycles + cost)
    is_broken fits e top le =
        exec_ends code.instrs top (standing_at code pc r) cycles Broken (omega (arith, same_cost)) (stepped ∙ e)
        ∙ ap (λ n. Over Broken (cycles + n)) same_cost

    module _ (next : ℕ) (new : Registers) (e : act_on (action_of slot.instr) (state_of pc height r) ≡ Goes (state_of next (height - pops_of (action_of slot.instr) + pushes_of (action_of slot.instr)) new)) where
      abbrev after : ℕ
      after = height - pops_of (action_of slot.instr) + pushes_of (action_of slot.instr)

      kept_course : IsOnCourse code (state_of next after new)
      kept_course = course_step code (standing_at code pc r) (state_of next after new) v course (stepped ∙ e)

      -- the code says the height at the next instruction
      next_height : height_of code next ≡ after
      next_height = ap or_none kept_course.height ∙ operands_length after new.stack

      at_next : standing_at code next new ≡ state_of next after new
      at_next = ap (λ h. state_of next h new) next_height

      -- the instruction went on, on its course
      pub on_course : IsOnCourse code (standing_at code next new)
      on_course = subst (λ (s : State). IsOnCourse code s) (sym at_next) kept_course

      -- and the execution goes on from there
      pub goes_on : cycles + cost ≤ limit → IsSame code limit (standing_at code pc r) cycles (standing_at code next new) (cycles + cost)
      goes_on fits top le =
          exec_goes code.instrs top (standing_at code pc r) (state_of next after new) cycles (omega (arith, same_cost)) (stepped ∙ e)
          ∙ ap (λ n. exec_from code.instrs top (state_of next after new) (cycles + n)) same_cost
          ∙ ap (λ (s : State). exec_from code.instrs top s (cycles + cost)) (sym at_next)

    -- an instruction took at least a cycle
    pub later : cycles < cycles + cost
    later = omega (arith, same_cost, step_costs code.instrs pc)

-- the machine stands where the next instruction would pass the limit
pub stands_short : (code : Code) (limit : ℕ) (old new : Machine) (t : Turn) (pc cycles : ℕ) (r : Registers) → new.registers ≡ r → new.pc ≡ pc → new.cycles ≡ cycles → t ≡ turn.Short
    → IsOnCourse code (standing_at code pc r) → cycles ≤ limit → IsSame code limit (standing code old) old.cycles (standing_at code pc r) cycles
    → exec_from code.instrs limit (standing_at code pc r) cycles ≡ Cut cycles → Stopped code limit old new t
stands_short code limit old new t pc cycles r er ep ec et course below same short =
    let at : standing code new ≡ standing_at code pc r = ap (λ n. standing_at code n new.registers) ep ∙ ap (standing_at code pc) er in
    subst (λ (t : Turn). Stopped code limit old new t) (sym et) (record {
      course = subst (λ (s : State). IsOnCourse code s) (sym at) course;
      below = omega (arith, ec, below);
      same = λ top le. same top le ∙ ap (λ s. exec_from code.instrs top s cycles) (sym at) ∙ ap (exec_from code.instrs top (standing code new)) (sym ec);
      short = ap (exec_from code.instrs limit (standing code new)) ec ∙ ap (λ s. exec_from code.instrs limit s cycles) at ∙ short ∙ ap Cut (sym ec);
    })

-- the machine stands where the execution halted
pub stands_halted : (code : Code) (limit : ℕ) (old new : Machine) (t : Turn) (cycles : ℕ) (r : Registers) → new.registers ≡ r → new.cycles ≡ cycles → t ≡ turn.Halted
    → length r.words ≡ code.places → ((top : ℕ) → limit ≤ top → exec_from code.instrs top (standing code old) old.cycles ≡ Over (Halted r.words) cycles)
    → Stopped code limit old new t
stands_halted code limit old new t cycles r er ec et places done =
    subst (λ (t : Turn). Stopped code limit old new t) (sym et) (record {
      places = ap (λ (r : Registers). length r.words) er ∙ places;
      done = λ top le. done top le ∙ ap (λ (r : Registers). Over (Halted r.words) cycles) (sym er) ∙ ap (Over (Halted new.registers.words)) (sym ec);
    })

-- the machine stands where the execution broke
pub stands_broken : (code : Code) (limit : ℕ) (old new : Machine) (t : Turn) (cycles : ℕ) (r : Registers) → new.registers ≡ r → new.cycles ≡ cycles → t ≡ turn.Broken
    → length r.words ≡ code.places → ((top : ℕ) → limit ≤ top → exec_from code.instrs top (standing code old) old.cycles ≡ Over Broken cycles)
    → Stopped code limit old new t
stands_broken code limit old new t cycles r er ec et places done =
    subst (λ (t : Turn). Stopped code limit old new t) (sym et) (record {
      places = ap (λ (r : Registers). length r.words) er ∙ places;
      done = λ top le. done top le ∙ ap (Over Broken) (sym ec);
    })

-- the machine after its steps under a limit
pub advanced : (code : Code) (state ins : List ℤ) (low limit : ℕ) (old mid new : Machine) (t : Turn) → Runs old code state ins low → old.turn ≡ turn.Short → old.limit < limit
    → new ≡ record mid { limit = limit; turn = t } → Stopped code limit old mid t → Runs new code state ins (max low limit)
advanced code state ins low limit old mid new t (inr f) going up is s = absurd (f.over going)
advanced code state ins low limit old mid new turn.Short (inl r) going up is s =
    let high : max low limit ≡ limit = omega (arith, r.kept) in
    subst (λ (m : Machine). Runs m code state ins (max low limit)) (sym is)
    (subst (λ (n : ℕ). Runs (record mid { limit = limit; turn = turn.Short }) code state ins n) (sym high) (inl (record {
      course = s.course;
      going = refl;
      below = s.below;
      kept = refl;
      same = λ top le. r.same top (omega (arith, r.kept)) ∙ s.same top le;
      short = s.short;
    })))
advanced code state ins low limit old mid new turn.Halted (inl r) going up is s =
    let high : max low limit ≡ limit = omega (arith, r.kept) in
    subst (λ (m : Machine). Runs m code state ins (max low limit)) (sym is)
    (subst (λ (n : ℕ). Runs (record mid { limit = limit; turn = turn.Halted }) code state ins n) (sym high) (inr (record {
      over = λ e. cc;
      places = s.places;
      done = λ top le. r.same top (omega (arith, r.kept)) ∙ s.done top le;
    })))
advanced code state ins low limit old mid new turn.Broken (inl r) going up is s =
    let high : max low limit ≡ limit = omega (arith, r.kept) in
    subst (λ (m : Machine). Runs m code state ins (max low limit)) (sym is)
    (subst (λ (n : ℕ). Runs (record mid { limit = limit; turn = turn.Broken }) code state ins n) (sym high) (inr (record {
      over = λ e. cc;
      places = s.places;
      done = λ top le. r.same top (omega (arith, r.kept)) ∙ s.done top le;
    })))
