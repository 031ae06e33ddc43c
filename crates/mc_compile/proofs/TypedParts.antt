-- The code of each part of a checked task meets the rules on instructions.
use Rattle.std.proofs.Common.{◌≡◌, ℕ, suc, ◌+◌, ◌<◌, ◌≤◌, List, [], ◌∷◌, length, Some, refl, sym, ap, ◌∙◌, subst, arith, ⊎_elim}
use Rattle.std.specs.Prelude.{slice_get, All, Contains}
use Rattle.std.proofs.lemmas.Bool.{cases_lt}
use Rattle.std.specs.Option.{option_map}
use Rattle.mars_base.specs.declared.word.BinOp.{BinOp}
use Rattle.mars_base.specs.declared.word.BinOp.TheVariants as two
use Rattle.mars_base.specs.declared.word.UnOp.{UnOp}
use Rattle.mars_base.specs.declared.word.UnOp.TheVariants as one
use Rattle.mc_tree.specs.declared.tree.Cell.{Cell}
use Rattle.mc_tree.specs.Tree.{Ex, Num, Var, Elem, Un, Bin}
use Rattle.mc_tree.specs.Height.{height, args_height}
use Rattle.mc_tree.specs.Sound.{IsCell, SoundE}
use Rattle.word_code.specs.Action.{Action, Combines, Changes, action_of}
use Rattle.word_code.specs.Typing.{pops_of, pushes_of, height_at, height_after, routine_of, IsLast, FlowsOn, Lands, JumpFits, PlacesFit, CounterFits, CallFits, EndFits, IsTypedAt}
use Rattle.word_code.specs.declared.code.Code.{Code}
use Rattle.word_code.specs.declared.code.Slot.{Slot}
use Rattle.mc_compile.specs.Translate.{slot, unary_instr, between, joined}
use Rattle.mc_compile.specs.Coded.{Has, HasAll, CodedE, CodedA, CodedS}
use Rattle.mc_compile.proofs.Heights.{up_e, up_a, up_stores, height_here, begins_e, begins_a}
use Rattle.mc_compile.proofs.Placed.{all_end}

-- it takes operands and puts its result in their place, and nothing else
abbrev IsPlain : Action → Type 0
IsPlain (Combines op) = Unit {0}
IsPlain (Changes op) = Unit {0}
IsPlain _ = ⊥

plain_lowers : (a : Action) → IsPlain a → pushes_of a ≤ pops_of a
plain_lowers (Combines op) h = omega arith
plain_lowers (Changes op) h = omega arith
plain_lowers _ h = absurd h

-- plain instructions, of which each has the height that the one before leaves
abbrev Flows : ℕ → List Slot → ℕ → Type 0
Flows h [] end = h ≡ end
Flows h (s ∷ ss) end = (s.height ≡ h) × IsPlain (action_of s.instr) × (pops_of (action_of s.instr) ≤ h) × Flows (height_after s) ss end

between_flows : (op : BinOp) (h : ℕ) → Flows (h + 1) (between op h) (h + 1)
between_flows two.And h = (refl, tt, omega arith, omega arith)
between_flows _ h = refl

unary_flows : (op : UnOp) (h : ℕ) → Flows (h + 1) (slot (unary_instr op) (h + 1) ∷ []) (h + 1)
unary_flows one.Neg h = (refl, tt, omega arith, omega arith)
unary_flows one.Not h = (refl, tt, omega arith, omega arith)
unary_flows one.Inv h = (refl, tt, omega arith, omega arith)

joined_flows : (op : BinOp) (h : ℕ) → Flows (h + 2) (joined op h) (h + 1)
joined_flows two.Or h = (refl, tt, omega arith, (omega arith, tt, omega arith, (omega arith, tt, omega arith, omega arith)))
joined_flows two.And h = (refl, tt, omega arith, (omega arith, tt, omega arith, (omega arith, tt, omega arith, omega arith)))
joined_flows two.Ne h = (refl, tt, omega arith, (omega arith, tt, omega arith, omega arith))
joined_flows two.Gt h = (refl, tt, omega arith, (omega arith, tt, omega arith, omega arith))
joined_flows two.Ge h = (refl, tt, omega arith, (omega arith, tt, omega arith, omega arith))
joined_flows two.BitOr h = (refl, tt, omega arith, omega arith)
joined_flows two.BitXor h = (refl, tt, omega arith, omega arith)
joined_flows two.BitAnd h = (refl, tt, omega arith, omega arith)
joined_flows two.Eq h = (refl, tt, omega arith, omega arith)
joined_flows two.Lt h = (refl, tt, omega arith, omega arith)
joined_flows two.Le h = (refl, tt, omega arith, omega arith)
joined_flows two.Shl h = (refl, tt, omega arith, omega arith)
joined_flows two.Shr h = (refl, tt, omega arith, omega arith)
joined_flows two.Add h = (refl, tt, omega arith, omega arith)
joined_flows two.Sub h = (refl, tt, omega arith, omega arith)
joined_flows two.Mul h = (refl, tt, omega arith, omega arith)
joined_flows two.Div h = (refl, tt, omega arith, omega arith)
joined_flows two.Rem h = (refl, tt, omega arith, omega arith)

height_positive : (e : Ex) → 1 ≤ height e
height_positive (Num w) = omega arith
height_positive (Var a) = omega arith
height_positive (Elem a n i) = height_positive i
height_positive (Un op e) = height_positive e
height_positive (Bin op l r) = omega arith

-- each argument leaves a word
pub args_low : (es : List Ex) → length es ≤ args_height es
args_low [] = omega arith
args_low (e ∷ es) = omega (arith, args_low es)

-- a routine's instructions: from lo up to hi, and r is its number
pub record IsRoutine (code : Code) (lo hi r : ℕ) : Type 0 where
  pub within : hi ≤ length code.instrs
  pub number : (k : ℕ) → lo ≤ k → k < hi → routine_of code.starts k ≡ r
  pub inner : (k : ℕ) → lo < k → k < hi → Contains code.starts k → ⊥
  pub zero : height_at code.instrs lo ≡ Some 0

-- the function that begins there may be called from routine r, and its parameters are cells
pub record IsCallable (code : Code) (cells : List Cell) (r start : ℕ) (params : List ℕ) : Type 0 where
  pub contained : Contains code.starts start
  pub not_first : 1 ≤ routine_of code.starts start
  pub earlier : 1 ≤ r → routine_of code.starts start < r
  pub are_cells : All (λ (p : ℕ). IsCell cells p 1) params

-- the rules on an instruction that goes on in its routine
pub record Obeys (code : Code) (k : ℕ) (s : Slot) : Type 0 where
  pub height_fits : s.height ≤ 64
  pub operands : pops_of (action_of s.instr) ≤ s.height
  pub room : height_after s ≤ 64
  pub next : FlowsOn (action_of s.instr) → height_at code.instrs (k + 1) ≡ Some (height_after s)
  pub jump : JumpFits code k (height_after s) (action_of s.instr)
  pub place : PlacesFit code.places (action_of s.instr)
  pub counter : CounterFits code.counters (action_of s.instr)
  pub call : CallFits code k s.height (action_of s.instr)
  pub ends : EndFits (routine_of code.starts k) s.height (action_of s.instr)

-- each instruction from p up to q meets the rules
abbrev pub TypedIn : Code → ℕ → ℕ → Type 0
TypedIn code p q = (k : ℕ) (s : Slot) → p ≤ k → k < q → slice_get code.instrs k ≡ Some s → IsTypedAt code k s

pub typed_join : (code : Code) (p m q : ℕ) → TypedIn code p m → TypedIn code m q → TypedIn code p q
typed_join code p m q a b k s le lt here = ⊎_elim (λ x. a k s le x here) (λ x. b k s x lt here) (cases_lt k m)

pub typed_none : (code : Code) (p q : ℕ) → p ≡ q → TypedIn code p q
typed_none code p q e k s le lt here = absurd (let x : ⊥ = omega arith in x)

-- one instruction
pub typed_one : (code : Code) (p q : ℕ) (s : Slot) → Has code.instrs p s q → IsTypedAt code p s → TypedIn code p q
typed_one code p q s c t k s' le lt here =
    let at_p : p ≡ k = omega (arith, c.next) in
    let same : s ≡ s' = let there = subst (λ n. slice_get code.instrs n ≡ Some s') (sym at_p) here in let first = c.here in cc in
    subst (λ n. IsTypedAt code n s') at_p (subst (λ x. IsTypedAt code p x) same t)

module _ (code : Code) (cells : List Cell) (lo hi r : ℕ) (routine : IsRoutine code lo hi r) (fits : (p n : ℕ) → IsCell cells p n → p + n ≤ code.places) where
  -- at a start the height is 0
  first_height : (p : ℕ) (s : Slot) → slice_get code.instrs p ≡ Some s → lo ≤ p → p < hi → Contains code.starts p → s.height ≡ 0
  first_height p s here above below is =
      ⊎_elim (λ x. absurd (routine.inner p x below is))
      (λ x. let e : lo ≡ p = omega arith in
      let z = subst (λ n. height_at code.instrs n ≡ Some 0) e routine.zero in
      let y = ap (option_map (λ (x : Slot). x.height)) here in
      let w : Some s.height ≡ Some 0 = sym y ∙ z in cc)
      (cases_lt lo p)

  -- the last instruction of a routine is another one
  not_last : (p : ℕ) → lo ≤ p → p + 1 < hi → IsLast code p → ⊥
  not_last p above below is =
      let w = routine.within in
      ⊎_elim (λ x. routine.inner (p + 1) (omega arith) below x) (λ x. omega arith) is

  pub step_typed : (p q : ℕ) (s : Slot) → Has code.instrs p s q → lo ≤ p → q < hi → Obeys code p s → TypedIn code p q
  step_typed p q s c above below o =
      let n = c.next in
      typed_one code p q s c (record {
        first = first_height p s c.here above (omega arith);
        height_fits = o.height_fits;
        operands = o.operands;
        room = o.room;
        next = o.next;
        jump = o.jump;
        place = o.place;
        counter = o.counter;
        call = o.call;
        ends = o.ends;
        last = λ x. absurd (not_last p above (omega arith) x);
      })

  -- the height of the next instruction
  pub follows : (p q n m : ℕ) → p + 1 ≡ q → height_at code.instrs q ≡ Some n → n ≡ m → height_at code.instrs (p + 1) ≡ Some m
  follows p q n m e at same = subst (λ k. height_at code.instrs k ≡ Some n) (sym e) at ∙ ap Some same

  -- a jump within the routine
  pub lands : (p t : ℕ) → lo ≤ p → p < hi → lo ≤ t → t < hi → height_at code.instrs t ≡ Some 0 → Lands code p t 0
  lands p t a b c d at = record { routine = routine.number t c d ∙ sym (routine.number p a b); height_is = at }

  plain_obeys : (a : Action) → IsPlain a → (p h h' : ℕ) → JumpFits code p h' a × PlacesFit code.places a × CounterFits code.counters a × CallFits code p h a × EndFits (routine_of code.starts p) h a
  plain_obeys (Combines op) x p h h' = (tt, tt, tt, tt, tt)
  plain_obeys (Changes op) x p h h' = (tt, tt, tt, tt, tt)
  plain_obeys _ x p h h' = absurd x

  flow_begins : (ss : List Slot) (h end p q : ℕ) → HasAll code.instrs p ss q → Flows h ss end → height_at code.instrs q ≡ Some end → height_at code.instrs p ≡ Some h
  flow_begins [] h end p q c f at = subst (λ n. height_at code.instrs n ≡ Some h) (sym c) (at ∙ ap Some (sym f))
  flow_begins (s ∷ ss) h end p q c f at = height_here code.instrs p c.0 s c.1 ∙ ap Some f.0

  flow_typed : (ss : List Slot) (h end p q : ℕ) → HasAll code.instrs p ss q → Flows h ss end → h ≤ 64 → lo ≤ p → q < hi → height_at code.instrs q ≡ Some end → TypedIn code p q
  flow_typed [] h end p q c f le above below at = typed_none code p q c
  flow_typed (s ∷ ss) h end p q c f le above below at =
      let n = c.1.next in
      let e = all_end code.instrs ss c.0 q c.2 in
      let low = plain_lowers (action_of s.instr) f.1 in
      let level : s.height ≡ h = f.0 in
      let enough : pops_of (action_of s.instr) ≤ h = f.2 in
      let bound : height_after s ≤ 64 = omega arith in
      let o = plain_obeys (action_of s.instr) f.1 p s.height (height_after s) in
      typed_join code p c.0 q
      (step_typed p c.0 s c.1 above (omega arith) (record {
        height_fits = omega arith;
        operands = omega arith;
        room = bound;
        next = λ x. follows p c.0 (height_after s) (height_after s) n (flow_begins ss (height_after s) end c.0 q c.2 f.3 at) refl;
        jump = o.0;
        place = o.1;
        counter = o.2;
        call = o.3;
        ends = o.4;
      }))
      (flow_typed ss (height_after s) end c.0 q c.2 f.3 bound (omega arith) below at)

  pub typed_e : (e : Ex) (h p q : ℕ) → CodedE code.instrs h p e q → SoundE cells e → h + height e ≤ 64 → lo ≤ p → q < hi → height_at code.instrs q ≡ Some (h + 1) → TypedIn code p q
  typed_e (Num w) h p q c sound room above below at =
      step_typed p q _ c above below (record { height_fits = omega arith; operands = omega arith; room = omega arith; next = λ x. follows p q (h + 1) _ c.next at (omega arith); jump = tt; place = tt; counter = tt; call = tt; ends = tt })
  typed_e (Var a) h p q c sound room above below at =
      step_typed p q _ c above below (record { height_fits = omega arith; operands = omega arith; room = omega arith; next = λ x. follows p q (h + 1) _ c.next at (omega arith); jump = tt; place = omega (arith, fits a 1 sound); counter = tt; call = tt; ends = tt })
  typed_e (Elem a n i) h p q c sound room above below at =
      let u = up_e code.instrs i h p c.0 c.1 in
      let j = c.2.next in
      typed_join code p c.0 q
      (typed_e i h p c.0 c.1 sound.1 room above (omega arith) (height_here code.instrs c.0 q _ c.2))
      (step_typed c.0 q _ c.2 (omega arith) below (record { height_fits = omega (arith, height_positive i); operands = omega arith; room = omega (arith, height_positive i); next = λ x. follows c.0 q (h + 1) _ j at (omega arith); jump = tt; place = (omega (arith, sound.0.1), fits a n sound.0.0); counter = tt; call = tt; ends = tt }))
  typed_e (Un op e) h p q c sound room above below at =
      let u = up_e code.instrs e h p c.0 c.1 in
      let j = c.2.next in
      typed_join code p c.0 q
      (typed_e e h p c.0 c.1 sound room above (omega arith) (height_here code.instrs c.0 q _ c.2))
      (flow_typed (slot (unary_instr op) (h + 1) ∷ []) (h + 1) (h + 1) c.0 q (q, c.2, refl) (unary_flows op h) (omega (arith, height_positive e)) (omega arith) below at)
  typed_e (Bin op l r) h p q c sound room above below at =
      let u1 = up_e code.instrs l h p c.0 c.3 in
      let u2 = all_end code.instrs (between op h) c.0 c.1 c.4 in
      let u3 = up_e code.instrs r (h + 1) c.1 c.2 c.5 in
      let u4 = all_end code.instrs (joined op h) c.2 q c.6 in
      let pos = height_positive r in
      let two_up : h + 2 ≡ h + 1 + 1 = omega arith in
      let at1 = flow_begins (between op h) (h + 1) (h + 1) c.0 c.1 c.4 (between_flows op h) (begins_e code.instrs r (h + 1) c.1 c.2 c.5) in
      let at3 = flow_begins (joined op h) (h + 2) (h + 1) c.2 q c.6 (joined_flows op h) at in
      typed_join code p c.0 q (typed_e l h p c.0 c.3 sound.0 (omega arith) above (omega arith) at1)
      (typed_join code c.0 c.1 q (flow_typed (between op h) (h + 1) (h + 1) c.0 c.1 c.4 (between_flows op h) (omega arith) (omega arith) (omega arith) (begins_e code.instrs r (h + 1) c.1 c.2 c.5))
      (typed_join code c.1 c.2 q (typed_e r (h + 1) c.1 c.2 c.5 sound.1 (omega arith) (omega arith) (omega arith) (at3 ∙ ap Some two_up))
      (flow_typed (joined op h) (h + 2) (h + 1) c.2 q c.6 (joined_flows op h) (omega arith) (omega arith) below at)))

  pub typed_a : (es : List Ex) (h p q : ℕ) → CodedA code.instrs h p es q → All (SoundE cells) es → h + args_height es ≤ 64 → lo ≤ p → q < hi → height_at code.instrs q ≡ Some (h + length es) → TypedIn code p q
  typed_a [] h p q c sound room above below at = typed_none code p q c
  typed_a (e ∷ es) h p q c sound room above below at =
      let u1 = up_e code.instrs e h p c.0 c.1 in
      let u2 = up_a code.instrs es (h + 1) c.0 q c.2 in
      let more : h + length (e ∷ es) ≡ h + 1 + length es = omega arith in
      let at1 = begins_a code.instrs es (h + 1) c.0 q c.2 (at ∙ ap Some more) in
      typed_join code p c.0 q (typed_e e h p c.0 c.1 (sound 0 e (omega arith)) (omega arith) above (omega arith) at1)
      (typed_a es (h + 1) c.0 q c.2 (λ k d lt. sound (suc k) d (omega arith)) (omega arith) (omega arith) below (at ∙ ap Some more))

  pub typed_stores : (xs : List ℕ) (h p q : ℕ) → CodedS code.instrs h p xs q → All (λ (a : ℕ). IsCell cells a 1) xs → h + length xs ≤ 64 → lo ≤ p → q < hi → height_at code.instrs q ≡ Some h → TypedIn code p q
  typed_stores [] h p q c are room above below at = typed_none code p q c
  typed_stores (x ∷ xs) h p q c are room above below at =
      let u = up_stores code.instrs xs (h + 1) p c.0 c.1 in
      let j = c.2.next in
      typed_join code p c.0 q
      (typed_stores xs (h + 1) p c.0 c.1 (λ k d lt. are (suc k) d (omega arith)) (omega arith) above (omega arith) (height_here code.instrs c.0 q _ c.2))
      (step_typed c.0 q _ c.2 (omega arith) below (record { height_fits = omega arith; operands = omega arith; room = omega arith; next = λ y. follows c.0 q h _ j at (omega arith); jump = tt; place = omega (arith, fits x 1 (are 0 x (omega arith))); counter = tt; call = tt; ends = tt }))
