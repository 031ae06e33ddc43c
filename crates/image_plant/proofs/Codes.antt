-- Verified code fits its fields where its instructions do.
use Rattle.std.proofs.Common.{◌≡◌, ℕ, ◌<◌, ◌≤◌, List, [], ◌∷◌, length, All, Some, refl, arith}
use Rattle.std.specs.Prelude.{slice_get, slice_index_or}
use Rattle.std.proofs.lemmas.Option.{slice_get-get_or}
use Rattle.std.proofs.lemmas.List.Elements.{All-head, All-tail, All-weaker}
use Rattle.mars_base.specs.declared.word.Role.{Role}
use Rattle.mars_base.specs.declared.word.Role.TheVariants.{In, Out, State, Local}
use Rattle.std.specs.Int.{w8, w16}
use Rattle.formats.specs.Format.{Format, number, counted}
use Rattle.word_code.specs.Cells.{total_width}
use Rattle.word_code.specs.Typing.{IsVerified, WidthFits}
use Rattle.word_code.specs.declared.code.CellShape.{CellShape}
use Rattle.word_code.specs.declared.code.Code.{Code}
use Rattle.word_code.specs.declared.code.Slot.{Slot}
use Rattle.image_parts.specs.Records.{short, cell}
use Rattle.image_parts.specs.Slot.{slot}
use Rattle.image_tasks.specs.Task.{code}

-- a list fits where its count and each entry do
pub counted_fits : {A : Type 0} (count : Format ℕ) (f : Format A) (xs : List A) → count.fits (length xs) → All f.fits xs → (counted count f).fits xs
counted_fits count f xs c a = ((c, (refl, a)), refl)

-- the heights of verified code are at most 64
pub low_heights : (c : Code) → IsVerified c → All (λ (s : Slot). s.height ≤ 64) c.instrs
low_heights c is = λ k d low. (is.each k (slice_index_or c.instrs k d) (slice_get-get_or c.instrs k d low)).height_fits

fits_role : (role : Role) (n : ℕ) → WidthFits role n → cell.fits (record { role = role; width = n })
unfolding cell
fits_role In n h = (((omega arith, omega arith), (h.0, omega (arith, h.1))), refl)
fits_role Out n h = (((omega arith, omega arith), (h.0, omega (arith, h.1))), refl)
fits_role State n h = (((omega arith, omega arith), h), refl)
fits_role Local n h = absurd h

some_width : (role : Role) (n : ℕ) → WidthFits role n → 1 ≤ n
some_width In n h = h.0
some_width Out n h = h.0
some_width State n h = h.0
some_width Local n h = absurd h

few_cells : (cells : List CellShape) → All (λ (c : CellShape). WidthFits c.role c.width) cells → length cells ≤ total_width cells
few_cells [] all = omega arith
few_cells (c ∷ cells) all =
    omega (arith, some_width c.role c.width (All-head (λ (x : CellShape). WidthFits x.role x.width) c cells all), few_cells cells (All-tail (λ (x : CellShape). WidthFits x.role x.width) c cells all))

some_start : (xs : List ℕ) → slice_get xs 0 ≡ Some 0 → 1 ≤ length xs
some_start [] e = absurd cc
some_start (x ∷ xs) e = omega arith

pub code_fits : (c : Code) → IsVerified c → All slot.fits c.instrs → code.fits c
unfolding code
code_fits c is slots =
    let w = is.whole in (
      (
        (omega arith, w.places_most),
        (
          (omega arith, w.counters_most),
          (
            counted_fits (number w16 0 4096) cell c.cells (omega arith, omega (arith, few_cells c.cells w.widths, w.cells_within, w.places_most))
                (All-weaker (λ (x : CellShape). WidthFits x.role x.width) cell.fits (λ x h. fits_role x.role x.width h) c.cells w.widths),
            (
              counted_fits (number w8 1 17) short c.starts (some_start c.starts w.starts_at_0, w.starts_most)
                  (All-weaker (λ n. n < length c.instrs) short.fits (λ n h. (omega arith, omega (arith, h, w.most))) c.starts w.starts_within),
              counted_fits (number w16 1 65535) slot c.instrs (w.some, w.most) slots,
            ),
          ),
        ),
      ),
      refl,
    )
