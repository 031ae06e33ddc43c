-- The programs of a plant fit its tasks.
use Rattle.std.proofs.Common.{◌≡◌, ℕ, List, length, Option, Some, None, ℤ, refl, sym, ◌∙◌, slice_get}
use Rattle.std.specs.Prelude.{sum, slice_index}
use Rattle.processor.specs.Ends.{Halted, end_under}
use Rattle.processor.specs.Results.{Ran, AreWords}
use Rattle.graph.specs.Net.{ins_of, outs_of}
use Rattle.plant.specs.declared.system.Plant.{Plant}
use Rattle.plant.specs.Lengths.{lengths_of}
use Rattle.plant.specs.Programs.{ProgramsFit}
use Rattle.plant_run.specs.PlantRun.{end_at, plant_execution}
use Rattle.net_run.specs.Alike.{HasWords}
use Rattle.cluster_agreement.proofs.Along.{agreement_holds}
use Rattle.cluster_losses.specs.Plants.{HaveWords, PlantsAreSet, PlantsAgree}

module _ {P : Type 0} (takes gives has : P → ℕ) (execution : P → ℕ → List ℤ → List ℤ → Ran) (has_words : P → Type 0)
    (sized : (program : P) (limit : ℕ) (state ins left outs : List ℤ) → length state ≡ has program → length ins ≡ takes program
    → end_under (execution program limit state ins) ≡ Halted (left, outs) → (length left ≡ has program) × (length outs ≡ gives program))
    (words : (program : P) (limit : ℕ) (state ins left outs : List ℤ) → has_words program → AreWords state → AreWords ins
    → end_under (execution program limit state ins) ≡ Halted (left, outs) → AreWords left × AreWords outs)
  where
    leaves : (plant : Plant P) → ProgramsFit takes gives has plant → HaveWords has_words plant → (task : ℕ) (state ins left outs : List ℤ) → HasWords (slice_index plant.states task) state
        → HasWords (sum (ins_of plant.net task)) ins → (o : Option P) → slice_get plant.programs task ≡ o → end_at execution o (slice_index plant.maxts task) state ins ≡ Halted (left, outs)
        → HasWords (slice_index plant.states task) left × HasWords (sum (outs_of plant.net task)) outs
    leaves plant fit have task state ins left outs s i None is ended = absurd (cc (ended))
    leaves plant fit have task state ins left outs s i (Some program) is ended =
        let long = sized program (slice_index plant.maxts task) state ins left outs (s.count_is ∙ sym (fit.states task program is)) (i.count_is ∙ sym (fit.ins task program is)) ended in
        let are = words program (slice_index plant.maxts task) state ins left outs (have task program is) s.are_words i.are_words ended in (
          record { count_is = long.0 ∙ fit.states task program is; are_words = are.0 },
          record { count_is = long.1 ∙ fit.outs task program is; are_words = are.1 },
        )

    pub plant_set : PlantsAreSet takes gives has execution has_words
    plant_set plant order fit have = record {
      graph = record { lengths = lengths_of plant.maxts plant.net.shape.cycles_per_tick; is = order.graph };
      tables = order.tables;
      count = order.states;
      fits = λ task low. record {
        same = λ state ins s i. refl;
        left = λ state ins left outs s i ended. leaves plant fit have task state ins left outs s i (slice_get plant.programs task) refl ended;
      };
    }

    pub plant_agrees : PlantsAgree takes gives has execution has_words
    plant_agrees plant cost silences order fit have =
        agreement_holds plant.net plant.graph plant.tables plant.states (plant_execution execution plant) cost silences (plant_set plant order fit have)
