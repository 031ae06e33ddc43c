-- The code of a checked task meets the typing rules.
use Rattle.std.proofs.Common.{◌≡◌, ⊎_elim, ℕ, zero, suc, ◌+◌, ◌<◌, ◌≤◌, List, [], ◌∷◌, ◌++◌, length, Some, refl, sym, ap, ◌∙◌, subst, arith, append_assoc, length-append}
use Rattle.std.specs.Prelude.{◌||◌, slice_get, slice_index, All, Contains, count_by}
use Rattle.std.specs.List.Sorted.{IsStrictlyIncreasing}
use Rattle.std.proofs.lemmas.List.Elements.{Contains-append_cases}
use Rattle.std.proofs.lemmas.Option.{slice_get_within}
use Rattle.mc_tree.specs.declared.tree.Cell.{Cell}
use Rattle.mc_tree.specs.Tree.{Fn, Tree}
use Rattle.mc_tree.specs.Meaning.{params_at}
use Rattle.mc_tree.specs.Counters.{CountedB}
use Rattle.mc_tree.specs.Sound.{IsCell, SoundB, SoundTest}
use Rattle.mc_tree.specs.Checked.{IsChecked}
use Rattle.mc_tree.proofs.Checked.{checked_body, checked_fn, checked_cell, checked_counters, counted_up_b}
use Rattle.word_code.specs.Cells.{is_in, is_out, total_width}
use Rattle.word_code.specs.Typing.{routine_of, IsWhole, IsVerified, WidthFits}
use Rattle.word_code.specs.declared.code.CellShape.{CellShape}
use Rattle.word_code.specs.declared.code.Code.{Code}
use Rattle.mc_compile.specs.Whole.{code_len, translate}
use Rattle.mc_compile.specs.Coded.{CodedF, CodedFs, CodedTask}
use Rattle.mc_compile.proofs.Heights.{up_e, up_b, height_here, begins_e, begins_b}
use Rattle.mc_compile.proofs.Lengths.{code_length}
use Rattle.mc_compile.proofs.Placed.{placed_task}
use Rattle.mc_compile.proofs.Shapes.{shapes_fit, shapes_width, shapes_ports}
use Rattle.mc_compile.proofs.Starts.{EachBelow, below_more, below_push, contained_below, each_below, none_between, number_first, increasing, up_f, up_fs, from_fs, below_fs, rising_fs, length_fs, number_here, number_of}
use Rattle.mc_compile.proofs.TypedParts.{IsRoutine, IsCallable, TypedIn, typed_join, typed_none, typed_one}
use Rattle.mc_compile.proofs.TypedStatements.{test, typed_b}

-- what is known of a function of a checked task
pub record FnFacts (code : Code) (cells : List Cell) (params : ℕ → List ℕ) (g : ℕ) (f : Fn) : Type 0 where
  pub body : SoundB cells f.body
  pub answer : SoundTest cells f.answer
  pub from : ℕ
  pub upto : ℕ
  pub counted : CountedB params g 0 0 from f.body upto
  pub few : upto ≤ code.counters

module _ (code : Code) (cells : List Cell) (starts : ℕ → ℕ) (params : ℕ → List ℕ) (fits : (p n : ℕ) → IsCell cells p n → p + n ≤ code.places) where
  -- what a routine may call
  abbrev MayCall : (cur r : ℕ) → Type 0
  MayCall cur r = (g : ℕ) → g < cur → IsCallable code cells r (starts g) (params g)

  -- a function in its routine
  typed_f : (g : ℕ) (f : Fn) (p q : ℕ) → CodedF starts params code.instrs p f q → FnFacts code cells params g f → MayCall g (g + 1)
      → IsRoutine code p q (g + 1) → TypedIn code p q
  typed_f g f p q c facts calls routine =
      let u1 = up_b code.instrs starts params f.body p c.0 c.2 in
      let u2 = up_e code.instrs f.answer 0 c.0 c.1 c.3 in
      let j = c.4.next in
      typed_join code p c.0 q
      (typed_b code cells p q (g + 1) routine fits starts params g calls 0 0 facts.from facts.upto f.body p c.0 c.2 facts.body facts.counted facts.few (omega arith) (omega arith) (omega arith) (begins_e code.instrs f.answer 0 c.0 c.1 c.3))
      (typed_join code c.0 c.1 q
      (test code cells p q (g + 1) routine fits f.answer c.0 c.1 c.3 facts.answer (omega arith) (omega arith) (height_here code.instrs c.1 q _ c.4))
      (typed_one code c.1 q _ c.4 (record {
        first = λ x. absurd (routine.inner c.1 (omega arith) (omega arith) x);
        height_fits = omega arith;
        operands = omega arith;
        room = omega arith;
        next = λ x. absurd x;
        jump = tt;
        place = tt;
        counter = tt;
        call = tt;
        ends = (let n = routine.number c.1 (omega arith) (omega arith) in omega arith, refl);
        last = λ x. tt;
      })))

  -- the functions behind the starts `before`
  typed_fs : (before : List ℕ) (fs : List Fn) (firsts : List ℕ) (cur p q : ℕ) → CodedFs starts params code.instrs p fs firsts q → q ≡ length code.instrs
      → code.starts ≡ before ++ firsts → EachBelow p before → length before ≡ cur + 1
      → ((g : ℕ) (f : Fn) → slice_get fs g ≡ Some f → FnFacts code cells params (cur + g) f)
      → ((g : ℕ) → g < length fs → MayCall (cur + g) (cur + g + 1)) → TypedIn code p q
  typed_fs before [] firsts cur p q c whole is below count facts calls = typed_none code p q c.1
  typed_fs before (f ∷ fs) firsts cur p q c whole is below count facts calls =
      let here : cur + 0 ≡ cur = omega arith in
      let u = up_f code.instrs starts params f p c.1 c.3 in
      let v = up_fs code.instrs starts params fs c.0 c.1 q c.4 in
      let all = is ∙ ap (λ xs. before ++ xs) c.2 in
      let own = subst (λ n. FnFacts code cells params n f) here (facts 0 f refl) in
      let may = subst (λ n. MayCall n (n + 1)) here (calls 0 (omega arith)) in
      let more = below_push c.1 before p (below_more p c.1 before (omega arith) below) u in
      let one_more : length (before ++ p ∷ []) ≡ cur + 1 + 1 = omega (arith, length-append before (p ∷ [])) in
      let body = c.3 in
      typed_join code p c.1 q
      (typed_f cur f p c.1 body own may (record {
        within = omega arith;
        number = λ k above under. subst (λ xs. routine_of xs k ≡ cur + 1) (sym all) (number_here code.instrs starts params before f fs c.0 p c.1 q below c.4 k above under ∙ count);
        inner = λ k above under x. ⊎_elim
            (λ y. let z = contained_below p before k below y in omega arith)
            (λ y. none_between c.0 p c.1 k (from_fs code.instrs starts params fs c.0 c.1 q c.4) above under y)
            (Contains-append_cases before (p ∷ c.0) k (subst (λ xs. Contains xs k) all x));
        zero = begins_b code.instrs starts params cur 0 0 own.from own.upto f.body p body.0 body.2 own.counted (begins_e code.instrs f.answer 0 body.0 body.1 body.3);
      }))
      (typed_fs (before ++ p ∷ []) fs c.0 (cur + 1) c.1 q c.4 whole (all ∙ sym (append_assoc before (p ∷ []) c.0)) more one_more
      (λ g f' e. let n : cur + suc g ≡ cur + 1 + g = omega arith in subst (λ m. FnFacts code cells params m f') n (facts (suc g) f' e))
      (λ g lt. let n : cur + suc g ≡ cur + 1 + g = omega arith in subst (λ m. MayCall m (m + 1)) n (calls (suc g) (omega arith))))

pub fn_at : (fs : List Fn) (g : ℕ) → g < length fs → (f : Fn) × (slice_get fs g ≡ Some f)
fn_at [] g lt = absurd (let x : ⊥ = omega arith in x)
fn_at (f ∷ fs) zero lt = (f, refl)
fn_at (f ∷ fs) (suc g) lt = fn_at fs g (omega arith)

pub params_is : (fs : List Fn) (g : ℕ) (f : Fn) → slice_get fs g ≡ Some f → params_at fs g ≡ f.params
params_is [] g f e = absurd (let x : ⊥ = cc in x)
params_is (x ∷ fs) zero f e = let is : x ≡ f = cc in ap (λ (y : Fn). y.params) is
params_is (x ∷ fs) (suc g) f e = params_is fs g f e

module _ (t : Tree) (h : IsChecked t) (code : Code) (c : CodedTask t code) where
  abbrev start : ℕ → ℕ
  start = slice_index c.firsts

  cells_fit : (p n : ℕ) → IsCell t.cells p n → p + n ≤ code.places
  cells_fit p n is = omega (arith, checked_cell t h p n is, c.places)

  fn_facts : (g : ℕ) (f : Fn) → slice_get t.funcs g ≡ Some f → FnFacts code t.cells (params_at t.funcs) (0 + g) f
  fn_facts g f e =
      let s = checked_fn t h g f e in
      let k = checked_counters t h g f e in
      let same : g ≡ 0 + g = omega arith in
      let below = counted_up_b (params_at t.funcs) (length t.funcs) 0 0 h.first t.body t.counters h.body_counters in
      subst (λ n. FnFacts code t.cells (params_at t.funcs) n f) same (record { body = s.body; answer = s.answer; from = k.from; upto = k.upto; counted = k.counted; few = omega (arith, k.below, below, c.counters) })

  -- a function may be called from the body and from later functions
  callable : (g r : ℕ) → g < length t.funcs → (1 ≤ r → g + 1 < r) → IsCallable code t.cells r (start g) (params_at t.funcs g)
  callable g r lt later =
      let after_0 = c.stop.next in
      let x = number_of code.instrs start (params_at t.funcs) (0 ∷ []) t.funcs c.firsts c.functions (length code.instrs) (omega arith, tt) c.rest g lt in
      let number : routine_of code.starts (start g) ≡ 1 + g = subst (λ xs. routine_of xs (start g) ≡ 1 + g) (sym c.starts) x.1 in
      let f = fn_at t.funcs g lt in
      record {
        contained = subst (λ xs. Contains xs (start g)) (sym c.starts) x.0;
        not_first = omega (arith, number);
        earlier = λ y. omega (arith, number, later y);
        are_cells = subst (λ ps. All (λ (p : ℕ). IsCell t.cells p 1) ps) (sym (params_is t.funcs g f.0 f.1)) (checked_fn t h g f.0 f.1).params;
      }

  body_typed : TypedIn code 0 c.functions
  body_typed =
      let j = c.stop.next in
      let from = from_fs code.instrs start (params_at t.funcs) t.funcs c.firsts c.functions (length code.instrs) c.rest in
      let u = up_fs code.instrs start (params_at t.funcs) t.funcs c.firsts c.functions (length code.instrs) c.rest in
      let at_halt = height_here code.instrs c.halt c.functions _ c.stop in
      let number : (k : ℕ) → 0 ≤ k → k < c.functions → routine_of code.starts k ≡ 0 = λ k above under. subst (λ xs. routine_of xs k ≡ 0) (sym c.starts) (number_first c.firsts c.functions k from under) in
      let routine : IsRoutine code 0 c.functions 0 = record {
        within = u;
        number = number;
        inner = λ k above under x. none_between c.firsts 0 c.functions k from above under (subst (λ xs. Contains xs k) c.starts x);
        zero = begins_b code.instrs start (params_at t.funcs) (length t.funcs) 0 0 h.first t.counters t.body 0 c.halt c.body h.body_counters at_halt;
      } in
      typed_join code 0 c.halt c.functions
      (typed_b code t.cells 0 c.functions 0 routine cells_fit start (params_at t.funcs) (length t.funcs) (λ g lt. callable g 0 lt (λ x. absurd (let z : ⊥ = omega arith in z))) 0 0 h.first t.counters t.body 0 c.halt c.body (checked_body t h) h.body_counters (omega (arith, c.counters)) (omega arith) (omega arith) (omega arith) at_halt)
      (typed_one code c.halt c.functions _ c.stop (record {
        first = λ x. refl;
        height_fits = omega arith;
        operands = omega arith;
        room = omega arith;
        next = λ x. absurd x;
        jump = tt;
        place = tt;
        counter = tt;
        call = tt;
        ends = (number c.halt (omega arith) (omega arith), refl);
        last = λ x. tt;
      }))

  all_typed : TypedIn code 0 (length code.instrs)
  all_typed =
      typed_join code 0 c.functions (length code.instrs) body_typed
      (typed_fs code t.cells start (params_at t.funcs) cells_fit (0 ∷ []) t.funcs c.firsts 0 c.functions (length code.instrs) c.rest refl c.starts (let j = c.stop.next in omega arith, tt) refl fn_facts
      (λ g lt k less. callable k (0 + g + 1) (omega arith) (λ x. omega arith)))

  -- the rules on the whole, where the code isn't too long
  whole : length code.instrs ≤ 65535 → IsWhole code
  whole short =
      let j = c.stop.next in
      let u = up_fs code.instrs start (params_at t.funcs) t.funcs c.firsts c.functions (length code.instrs) c.rest in
      let below = below_fs code.instrs start (params_at t.funcs) t.funcs c.firsts c.functions (length code.instrs) c.rest in
      let n = length_fs code.instrs start (params_at t.funcs) t.funcs c.firsts c.functions (length code.instrs) c.rest in
      let rising = rising_fs code.instrs start (params_at t.funcs) t.funcs c.firsts 0 c.functions (length code.instrs) (omega arith) c.rest in
      record {
        some = omega arith;
        most = short;
        starts_at_0 = ap (λ xs. slice_get xs 0) c.starts;
        starts_most = omega (arith, ap length c.starts, n, h.functions);
        starts_rise = subst (λ xs. IsStrictlyIncreasing xs) (sym c.starts) (increasing 0 c.firsts rising);
        starts_within = subst (λ xs. All (λ start. start < length code.instrs) xs) (sym c.starts) (each_below (length code.instrs) (0 ∷ c.firsts) (omega arith, below));
        places_most = omega (arith, c.places, h.words);
        cells_within = subst (λ xs. total_width xs ≤ code.places) (sym c.cells) (omega (arith, shapes_width t.cells, c.places));
        counters_most = omega (arith, c.counters, h.counters);
        widths = subst (λ xs. All (λ (s : CellShape). WidthFits s.role s.width) xs) (sym c.cells) (shapes_fit t.cells h.widths);
        ports_most = subst (λ xs. count_by (λ (s : CellShape). is_in s.role || is_out s.role) xs ≤ 16) (sym c.cells) (omega (arith, shapes_ports t.cells, h.ports));
      }

pub typed_task : (t : Tree) → IsChecked t → code_len t ≤ 65535 → IsVerified (translate t)
typed_task t h short =
    let code = translate t in
    let placed = placed_task t in
    record {
      whole = whole t h code placed (omega (arith, code_length t));
      each = λ k s e. all_typed t h code placed k s (omega arith) (slice_get_within code.instrs k s e) e;
    }
