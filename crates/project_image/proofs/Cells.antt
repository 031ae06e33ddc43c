-- The in cells and the out cells of the code of a task are its ports.
use Rattle.std.proofs.Common.{◌≡◌, ℕ, Bool, true, false, cond, List, [], ◌∷◌, ◌++◌, map, refl, ap, ◌∙◌}
use Rattle.std.specs.Prelude.{filter, if◌then◌else◌}
use Rattle.image_plant.specs.Image.{in_cells, out_cells}
use Rattle.image_sides.specs.Sides as sides
use Rattle.mars_base.specs.declared.word.Role.{Role}
use Rattle.mars_base.specs.declared.word.Role.TheVariants as role
use Rattle.mc_compile.specs.Whole.{is_outside, shape_of, shapes_of}
use Rattle.mc_tree.specs.Instance as tree
use Rattle.mc_tree.specs.declared.tree.Cell.{Cell}
use Rattle.mc_tree.specs.declared.tree.Task.{Task}
use Rattle.project_source.specs.Project.{widths_of}
use Rattle.task_source.specs.Bound.{code_of}
use Rattle.word_code.specs.Cells as machine

module _ (p p' : Role → Bool) (same : (r : Role) → p' r ≡ p r) (none : (r : Role) → is_outside r ≡ false → p r ≡ false) where
  same_cells : (cells : List Cell) → map (λ (c : Cell). c.width) (filter (λ (c : Cell). p c.role) cells) ≡ sides.widths_of p' (shapes_of cells)
  same_cells [] = refl
  same_cells (c ∷ cells) = go (is_outside c.role) refl (same_cells cells)
    where
      rest : List Cell
      rest = filter (λ (d : Cell). p d.role) cells

      outside : List Cell
      outside = filter (λ (d : Cell). is_outside d.role) cells

      pick : (s q : Bool) → s ≡ q → map (λ (d : Cell). d.width) rest ≡ sides.widths_of p' (map shape_of outside)
          → map (λ (d : Cell). d.width) (cond q (c ∷ rest) rest) ≡ (if s then c.width ∷ [] else []) ++ sides.widths_of p' (map shape_of outside)
      pick true true e ih = ap (λ (ws : List ℕ). c.width ∷ ws) ih
      pick true false e ih = absurd (let x : ⊥ = cc in x)
      pick false true e ih = absurd (let x : ⊥ = cc in x)
      pick false false e ih = ih

      go : (o : Bool) → is_outside c.role ≡ o → map (λ (d : Cell). d.width) rest ≡ sides.widths_of p' (map shape_of outside)
          → map (λ (d : Cell). d.width) (cond (p c.role) (c ∷ rest) rest) ≡ sides.widths_of p' (map shape_of (cond o (c ∷ outside) outside))
      go true e ih = pick (p' c.role) (p c.role) (same c.role) ih
      go false e ih = ap (λ b. map (λ (d : Cell). d.width) (cond b (c ∷ rest) rest)) (none c.role e) ∙ ih

same_in : (r : Role) → machine.is_in r ≡ tree.is_in r
same_in role.In = refl
same_in role.Out = refl
same_in role.State = refl
same_in role.Local = refl

same_out : (r : Role) → machine.is_out r ≡ tree.is_out r
same_out role.In = refl
same_out role.Out = refl
same_out role.State = refl
same_out role.Local = refl

none_in : (r : Role) → is_outside r ≡ false → tree.is_in r ≡ false
none_in role.In e = absurd (let x : ⊥ = cc in x)
none_in role.Out e = refl
none_in role.State e = refl
none_in role.Local e = refl

none_out : (r : Role) → is_outside r ≡ false → tree.is_out r ≡ false
none_out role.In e = refl
none_out role.Out e = absurd (let x : ⊥ = cc in x)
none_out role.State e = refl
none_out role.Local e = refl

-- the in ports and the out ports of a task
pub code_ins : (t : Task) → widths_of tree.is_in t ≡ in_cells (code_of t)
code_ins t = same_cells tree.is_in machine.is_in same_in none_in t.cells

pub code_outs : (t : Task) → widths_of tree.is_out t ≡ out_cells (code_of t)
code_outs t = same_cells tree.is_out machine.is_out same_out none_out t.cells
