-- The cells of the code of a checked task fit the rules on code.
use Rattle.std.proofs.Common.{◌≡◌, ℕ, suc, ◌+◌, ◌≤◌, Bool, true, false, cond, List, [], ◌∷◌, refl, arith}
use Rattle.std.specs.Prelude.{◌||◌, if◌then◌else◌, map, filter, All, count_by}
use Rattle.std.proofs.lemmas.List.Elements.{All-cons}
use Rattle.std.proofs.lemmas.List.Sums.{sum_by-cons}
use Rattle.mars_base.specs.declared.word.Role.{Role}
use Rattle.mars_base.specs.declared.word.Role.TheVariants as role
use Rattle.mc_tree.specs.declared.tree.Cell.{Cell}
use Rattle.mc_tree.specs.Checked.{words_in, greatest_width, HasWidth, is_port, ports_in}
use Rattle.word_code.specs.Cells.{is_in, is_out, total_width}
use Rattle.word_code.specs.Typing.{WidthFits}
use Rattle.word_code.specs.declared.code.CellShape.{CellShape}
use Rattle.mc_compile.specs.Whole.{is_outside, shape_of, shapes_of}

-- an in or out cell of the code
abbrev is_code_port : CellShape → Bool
is_code_port s = is_in s.role || is_out s.role

abbrev port_count : List CellShape → ℕ
port_count cells = count_by is_code_port cells

-- the width of a cell that is no local
width_fits : (r : Role) (n : ℕ) → 1 ≤ n → n ≤ greatest_width r → is_outside r ≡ true → WidthFits r n
width_fits role.In n a b e = (a, b)
width_fits role.Out n a b e = (a, b)
width_fits role.State n a b e = (a, b)
width_fits role.Local n a b e = absurd (let x : ⊥ = cc in x)

-- a port of the code is a port of the task
port_fits : (r : Role) → cond {A = ℕ} (is_in r || is_out r) 1 0 ≤ (if is_port r then 1 else 0)
port_fits role.In = omega arith
port_fits role.Out = omega arith
port_fits role.State = omega arith
port_fits role.Local = omega arith

-- the cells that the code has
abbrev outside : List Cell → List Cell
outside cells = filter (λ c. is_outside c.role) cells

-- each width fits its role
pub shapes_fit : (cells : List Cell) → All HasWidth cells → All (λ (s : CellShape). WidthFits s.role s.width) (shapes_of cells)
shapes_fit [] h = λ k d lt. absurd (let x : ⊥ = omega arith in x)
shapes_fit (c ∷ cells) h = go (shapes_fit cells (λ k d lt. h (suc k) d (omega arith))) (is_outside c.role) refl
  where
    go : All (λ (s : CellShape). WidthFits s.role s.width) (shapes_of cells) → (b : Bool) → is_outside c.role ≡ b → All (λ (s : CellShape). WidthFits s.role s.width) (map shape_of (cond b (c ∷ outside cells) (outside cells)))
    go rest true e =
        let w = h 0 c (omega arith) in
        All-cons (λ (s : CellShape). WidthFits s.role s.width) (shape_of c) (shapes_of cells) (width_fits c.role c.width w.0 w.1 e) rest
    go rest false e = rest

-- the cells of the code have no more words than all cells
pub shapes_width : (cells : List Cell) → total_width (shapes_of cells) ≤ words_in cells
shapes_width [] = omega arith
shapes_width (c ∷ cells) = go (shapes_width cells) (is_outside c.role)
  where
    go : total_width (shapes_of cells) ≤ words_in cells → (b : Bool) → total_width (map shape_of (cond b (c ∷ outside cells) (outside cells))) ≤ c.width + words_in cells
    go rest true = omega (arith, rest)
    go rest false = omega (arith, rest)

-- and there are no more ports
pub shapes_ports : (cells : List Cell) → port_count (shapes_of cells) ≤ ports_in cells
shapes_ports [] = omega arith
shapes_ports (c ∷ cells) = go (shapes_ports cells) (is_outside c.role)
  where
    go : port_count (shapes_of cells) ≤ ports_in cells → (b : Bool) → port_count (map shape_of (cond b (c ∷ outside cells) (outside cells))) ≤ (if is_port c.role then 1 else 0) + ports_in cells
    go rest true = omega (arith, rest, port_fits c.role, sum_by-cons (λ (s : CellShape). cond (is_code_port s) 1 0) (shape_of c) (shapes_of cells))
    go rest false = omega (arith, rest)
