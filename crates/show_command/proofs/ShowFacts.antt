-- What holds of every run of the command `show`.
use Rattle.std.proofs.Common.{◌≡◌, ◌⊎◌, ◌<◌, ℕ, List, Option, Some, Result, refl, ap, ◌∙◌, subst, arith}
use Rattle.graph.specs.NetGraph.{IsNetGraph}
use Rattle.image_file.proofs.FileFacts.{passes_image, kept_image, refuses_image, missing_image}
use Rattle.image_file.specs.Gives.{image_stage}
use Rattle.image_plant.specs.Image.{IsImage}
use Rattle.lines.specs.Gathered.{Writes}
use Rattle.mars_base.specs.Causes.{Rose}
use Rattle.mars_base.specs.declared.outside.SinkFault.{SinkFault}
use Rattle.plant.specs.Lengths.{lengths_of}
use Rattle.plant.specs.declared.system.Plant.{Plant}
use Rattle.refusals.specs.Causes.{Counts}
use Rattle.refusals.specs.Status.{status_of_result}
use Rattle.refusals.specs.declared.refusal.ImageBad.{ImageBad}
use Rattle.refusals.specs.declared.refusal.Refusal.{Refusal}
use Rattle.refusals.specs.declared.refusal.Refusal.TheVariants as refusal
use Rattle.show_command.specs.Show.{showing_image, text_of, without_input, ShowPromises}
use Rattle.stages.specs.Stage.{Stage, Does}
use Rattle.stages.specs.World.{Held}
use Rattle.stages.proofs.ExactFacts.{exact}
use Rattle.stages.proofs.MissingFacts.{refused_turn, refused_does}
use Rattle.stages.proofs.Relations.{Within, Refuses, KeepsFiles, KeepsOut, Lasts}
use Rattle.stages.proofs.SoundFacts.{passes_turn, passes_lasts}
use Rattle.stages.proofs.WithinFacts.{within_turn, within_does, files_kept, out_kept, refuses_turn}
use Rattle.tables_print.proofs.ShowingFacts.{passes_showing, files_showing, refuses_showing, unput, unwritten, nothing_put}
use Rattle.tables_print.specs.Showing.{showing}
use Rattle.tables_text.specs.Text.{tables_text}
use Rattle.word_code.specs.declared.code.Code.{Code}

-- an image's net has its graph
pub net_graph : (plant : Plant Code) → IsImage plant → IsNetGraph plant.net plant.graph
net_graph plant is = record { lengths = lengths_of plant.maxts plant.net.shape.cycles_per_tick; is = is.in_order.graph }

-- the text of the same plant
pub same_text : (plant other : Plant Code) (maxts : List ℕ) → other ≡ plant → maxts ≡ other.maxts → tables_text other.net other.graph other.tables maxts ≡ text_of plant
same_text plant other maxts is bounds = ap (tables_text other.net other.graph other.tables) bounds ∙ ap text_of is

pub shows_same : (x y : List ℕ) {b n : Held} {c d : Counts} {r : Result (Unit {0}) Refusal} → x ≡ y → Does (showing x) b n c d r → Does (showing y) b n c d r
shows_same x y {b} {n} {c} {d} {r} is does = subst (λ (z : List ℕ). Does (showing z) b n c d r) is does

pub writes_same : (x y : List ℕ) (old new : Option (List ℕ)) (waiting left : List ℕ) (r : Result (Unit {0}) SinkFault) → x ≡ y → Writes old waiting x new left r → Writes old waiting y new left r
writes_same x y old new waiting left r is wrote = subst (λ (z : List ℕ). Writes old waiting z new left r) is wrote

abbrev pub show_it : Plant Code → Stage (Unit {0})
show_it plant = showing (text_of plant)

pub lasts_showing : (file : List ℕ) → Lasts (showing_image file)
lasts_showing file = passes_lasts (showing_image file) (passes_turn (image_stage file) show_it (passes_image file) (λ plant. passes_showing (text_of plant)))

-- what `show` refuses
pub refuses_show : (P : Refusal → Type 0) (file : List ℕ) → P (refusal.ReadFault (Some file)) → P (refusal.TooLong (Some file)) → ((b : ImageBad) → P (refusal.BadImage b)) → Refuses P (showing_image file)
refuses_show P file missing long each = refuses_turn P (image_stage file) show_it (refuses_image P file missing long each) (λ plant. refuses_showing P (text_of plant))

files_show : (file : List ℕ) → Within KeepsFiles (showing_image file)
files_show file = within_turn KeepsFiles (image_stage file) show_it files_kept (kept_image KeepsFiles file files_kept) (λ plant. files_showing (text_of plant))

-- where it was refused, a put failed, or the output is as it was
unput_show : (file : List ℕ) (b n : Held) (c d : Counts) (r : Result (Unit {0}) Refusal) → Does (showing_image file) b n c d r → 0 < status_of_result r → ((status_of_result r ≡ 7) × Rose c.output d.output) ⊎ (n.out ≡ b.out)
unput_show file b n c d r does some = unput (image_stage file) text_of (kept_image KeepsOut file out_kept) b n c d r (status_of_result r) does refl some

-- whatever the objects tell
pub promises : (file : List ℕ) (b n : Held) (c d : Counts) (r : Result (Unit {0}) Refusal) → d.writes ≡ c.writes → (n.left ≡ b.left) × (d.input ≡ c.input) → Does (showing_image file) b n c d r
    → Does (showing_image file) (without_input b) (without_input n) c d r → ShowPromises file b n c d r
promises file b n c d r writes input does blind = record {
  files_stay = within_does KeepsFiles (showing_image file) (files_show file) does;
  writes_stay = writes;
  input_stays = input;
  exact = exact (showing_image file) (lasts_showing file) (without_input b) (without_input n) c d r blind;
  missing = λ missing. refused_does (refusal.ReadFault (Some file)) (showing_image file) (refused_turn b (refusal.ReadFault (Some file)) (image_stage file) show_it (missing_image file b missing)) does;
  unwritten = λ seven. unwritten (status_of_result r) b n c d (unput_show file b n c d r does (omega (arith, seven)));
  refused = λ some other. nothing_put (status_of_result r) b n c d other (unput_show file b n c d r does some);
}
