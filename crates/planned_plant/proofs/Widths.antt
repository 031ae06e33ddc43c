-- The ports of a net's tasks are the cells of their sources.
use Rattle.std.proofs.Common.{◌≡◌, ◌≤◌, ◌<◌, ℕ, zero, suc, Bool, true, false, cond, List, [], ◌∷◌, length, map, Option, refl, ap₂, arith}
use Rattle.std.specs.Prelude.{filter, All}
use Rattle.std.proofs.lemmas.Bool.Decides.{nat_tests}
use Rattle.graph.specs.declared.net.NetTask.{NetTask}
use Rattle.mars_base.specs.declared.file.File.{File}
use Rattle.mars_base.specs.declared.word.Role.{Role}
use Rattle.mars_base.specs.declared.word.Role.TheVariants as role
use Rattle.mc_tree.specs.Checked.{greatest_width, HasWidth}
use Rattle.mc_tree.specs.Instance.{is_in, is_out}
use Rattle.mc_tree.specs.declared.tree.Cell.{Cell}
use Rattle.project_binder.specs.NetOf as net
use Rattle.project_graph.specs.Graphed.{ports_of_built}
use Rattle.project_plant.specs.Planned.{task_in, IsRunnable}
use Rattle.project_reader.specs.declared.project.TaskEntry.{TaskEntry}
use Rattle.project_source.specs.Project.{widths_of}
use Rattle.project_tasks.proofs.EntryFacts.{checked_source}
use Rattle.project_tasks.specs.Entries.{StandsIn, AreEntriesIn}
use Rattle.task_ports.specs.Ports.{byte_of, port_of}
use Rattle.task_source.specs.Built.{Built}

same_byte : (n : ℕ) → n ≤ 255 → byte_of n ≡ n
same_byte n le = grind (arith, nat_tests)

abbrev IsNarrow : (Role → Bool) → Type 0
IsNarrow test = (r : Role) (n : ℕ) → test r ≡ true → n ≤ greatest_width r → n ≤ 255

in_narrow : IsNarrow is_in
in_narrow role.In n e le = omega (arith, le)
in_narrow role.Out n e le = absurd (cc)
in_narrow role.State n e le = absurd (cc)
in_narrow role.Local n e le = absurd (cc)

out_narrow : IsNarrow is_out
out_narrow role.In n e le = absurd (cc)
out_narrow role.Out n e le = omega (arith, le)
out_narrow role.State n e le = absurd (cc)
out_narrow role.Local n e le = absurd (cc)

-- the widths of ports are those of their cells
same_widths : (test : Role → Bool) (cells : List Cell) → IsNarrow test → All HasWidth cells → net.widths_of (map port_of (filter (λ (c : Cell). test c.role) cells)) ≡ map (λ (c : Cell). c.width) (filter (λ (c : Cell). test c.role) cells)
same_widths test [] narrow widths = refl
same_widths test (c ∷ cells) narrow widths = go (test c.role) refl (same_widths test cells narrow (λ k d lt. widths (suc k) d (omega (arith, lt))))
  where
    rest : List Cell
    rest = filter (λ (d : Cell). test d.role) cells

    go : (b : Bool) → test c.role ≡ b → net.widths_of (map port_of rest) ≡ map (λ (d : Cell). d.width) rest
        → net.widths_of (map port_of (cond b (c ∷ rest) rest)) ≡ map (λ (d : Cell). d.width) (cond b (c ∷ rest) rest)
    go true e ih = ap₂ (λ (w : ℕ) (ws : List ℕ). w ∷ ws) (same_byte c.width (narrow c.role c.width e (widths 0 c (omega arith)).1)) ih
    go false e ih = ih

-- a task that stands in a file may be run
stands_runnable : (files : Option (List File)) (file : List ℕ) (b : Built) → StandsIn files file b → IsRunnable b
stands_runnable files file b s = record { checked = checked_source s.bytes b.task s.short s.source_is; fits = s.fits; bound = s.bound; low = s.low }

-- the tasks of a project's entries may be run
pub all_runnable : (files : Option (List File)) (tasks : List TaskEntry) (built : List Built) → AreEntriesIn files tasks built → All IsRunnable built
all_runnable files [] [] h k d lt = absurd (let x : ⊥ = omega arith in x)
all_runnable files [] (b ∷ bs) h k d lt = absurd h
all_runnable files (t ∷ ts) [] h k d lt = absurd h
all_runnable files (t ∷ ts) (b ∷ bs) h zero d lt = stands_runnable files t.file b h.0
all_runnable files (t ∷ ts) (b ∷ bs) h (suc k) d lt = all_runnable files ts bs h.1 k d (omega (arith, lt))

-- and have the ports of their places in the net
pub all_ins : (files : Option (List File)) (tasks : List TaskEntry) (built : List Built) → AreEntriesIn files tasks built
    → map (λ (t : NetTask). t.ins) (net.net_tasks tasks (map ports_of_built built)) ≡ map (widths_of is_in) (map task_in built)
all_ins files [] [] h = refl
all_ins files [] (b ∷ bs) h = absurd h
all_ins files (t ∷ ts) [] h = absurd h
all_ins files (t ∷ ts) (b ∷ bs) h =
    ap₂ (λ (ws : List ℕ) (all : List (List ℕ)). ws ∷ all) (same_widths is_in b.task.cells in_narrow (stands_runnable files t.file b h.0).checked.tree.widths) (all_ins files ts bs h.1)

pub all_outs : (files : Option (List File)) (tasks : List TaskEntry) (built : List Built) → AreEntriesIn files tasks built
    → map (λ (t : NetTask). t.outs) (net.net_tasks tasks (map ports_of_built built)) ≡ map (widths_of is_out) (map task_in built)
all_outs files [] [] h = refl
all_outs files [] (b ∷ bs) h = absurd h
all_outs files (t ∷ ts) [] h = absurd h
all_outs files (t ∷ ts) (b ∷ bs) h =
    ap₂ (λ (ws : List ℕ) (all : List (List ℕ)). ws ∷ all) (same_widths is_out b.task.cells out_narrow (stands_runnable files t.file b h.0).checked.tree.widths) (all_outs files ts bs h.1)
