-- What every checked task keeps. A folded task keeps it too, so a number may be any word here.
-- This project's own.
use Rattle.std.specs.Prelude.{◌≡◌, ◌≢◌, ℕ, ◌+◌, ◌≤◌, List, [], ◌∷◌, ◌++◌, map, length, Bool, true, false, if◌then◌else◌}
use Rattle.std.specs.List.{All, AllPairs}
use Rattle.mars_base.specs.declared.word.Role.{Role}
use Rattle.mars_base.specs.declared.word.Role.TheVariants as role
use Rattle.mc_tree.specs.declared.tree.Cell.{Cell}
use Rattle.mc_tree.specs.Tree.{Bl, Fn, Tree}
use Rattle.mc_tree.specs.Meaning.{params_at}
use Rattle.mc_tree.specs.Counters.{CountedB, CountedF}
use Rattle.mc_tree.specs.Sound.{SoundB, SoundTest}

-- the places follow one another, from p on
abbrev pub Placed : ℕ → List Cell → Type 0
Placed p [] = Unit {0}
Placed p (c ∷ cells) = (c.place ≡ p) × Placed (p + c.width) cells

-- how many words the cells have
abbrev pub words_in : List Cell → ℕ
words_in [] = 0
words_in (c ∷ cells) = c.width + words_in cells

abbrev pub greatest_width : Role → ℕ
greatest_width role.In = 16
greatest_width role.Out = 16
greatest_width role.State = 4096
greatest_width role.Local = 4096

abbrev pub HasWidth : Cell → Type 0
HasWidth c = (1 ≤ c.width) × (c.width ≤ greatest_width c.role)

abbrev pub is_port : Role → Bool
is_port role.In = true
is_port role.Out = true
is_port role.State = false
is_port role.Local = false

-- how many of the cells are ports
abbrev pub ports_in : List Cell → ℕ
ports_in [] = 0
ports_in (c ∷ cells) = (if is_port c.role then 1 else 0) + ports_in cells

-- no two cells that are visible together have one name
abbrev pub DifferInName : List Cell → Type 0
DifferInName cells = AllPairs (λ a b. a.name ≢ b.name) cells

-- a function with these parameters and locals: each parameter has one word, and the function sees the globals and
-- its own cells alone
pub record FnChecked (globals params locals : List Cell) (f : Fn) : Type 0 where
  pub places : f.params ≡ map (λ (c : Cell). c.place) params
  pub words : All (λ (c : Cell). c.width ≡ 1) params
  pub names : DifferInName (globals ++ (params ++ locals))
  pub body : SoundB (globals ++ (params ++ locals)) f.body
  pub answer : SoundTest (globals ++ (params ++ locals)) f.answer

-- the functions in order, each with its own cells, and then the body with the rest
abbrev pub Routines : (globals cells : List Cell) → List Fn → Bl → Type 0
Routines globals cells [] body = DifferInName (globals ++ cells) × SoundB (globals ++ cells) body
Routines globals cells (f ∷ fs) body =
    (params : List Cell) × (locals : List Cell) × (rest : List Cell) × (cells ≡ (params ++ locals) ++ rest) × FnChecked globals params locals f × Routines globals rest fs body

pub record IsChecked (t : Tree) : Type 0 where
  -- the cells, and how many there may be
  pub placed : Placed 0 t.cells
  pub widths : All HasWidth t.cells
  pub words : words_in t.cells ≤ 4096
  pub ports : ports_in t.cells ≤ 16
  pub functions : length t.funcs ≤ 16
  -- ports and states stand before the parameters and locals
  pub globals : List Cell
  pub locals : List Cell
  pub declared : t.cells ≡ globals ++ locals
  pub global_roles : All (λ (c : Cell). c.role ≢ role.Local) globals
  pub local_roles : All (λ (c : Cell). c.role ≡ role.Local) locals
  pub routines : Routines globals locals t.funcs t.body
  -- the counters of the functions, and then those of the body
  pub first : ℕ
  pub fn_counters : CountedF (params_at t.funcs) 0 0 t.funcs first
  pub body_counters : CountedB (params_at t.funcs) (length t.funcs) 0 0 first t.body t.counters
  pub counters : t.counters ≤ 256
