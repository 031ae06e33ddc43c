-- How many words cells have.
use Rattle.std.proofs.Common.{◌≡◌, ℕ, ◌+◌, ◌≤◌, Bool, true, false, List, [], ◌∷◌, arith}
use Rattle.std.specs.Prelude.{if◌then◌else◌}
use Rattle.mars_base.specs.declared.word.Role.{Role}
use Rattle.word_code.specs.Cells.{width_of, total_width, is_state}
use Rattle.word_code.specs.Typing.{IsVerified}
use Rattle.word_code.specs.declared.code.CellShape.{CellShape}
use Rattle.word_code.specs.declared.code.Code.{Code}
use Rattle.image_sides.specs.Sides.{state_words}

at_most : (b : Bool) (n : ℕ) → (if b then n else 0) ≤ n
at_most true n = omega arith
at_most false n = omega arith

-- the cells of one role have at most the words of all cells
pub part_of_total : (p : Role → Bool) (cells : List CellShape) → width_of p cells ≤ total_width cells
part_of_total p [] = omega arith
part_of_total p (c ∷ cells) = omega (arith, at_most (p c.role) c.width, part_of_total p cells)

-- verified code has at most 4,096 state words
pub few_states : (code : Code) → IsVerified code → state_words code ≤ 4096
few_states code v = omega (arith, part_of_total is_state code.cells, v.whole.cells_within, v.whole.places_most)
