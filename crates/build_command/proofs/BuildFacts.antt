-- What holds of every run of the command `build`.
use Rattle.std.proofs.Common.{◌≡◌, ◌⊎◌, inl, inr, ℕ, List, None, Some, Result, Ok, Err, refl, sym, ap, ◌∙◌, subst, arith}
use Rattle.build_command.proofs.Ends.{Ended, Early, Unwritten, Unput, Whole, ends}
use Rattle.build_command.specs.Build.{report_text, IsText, reporting, stored, stored_plan, building, without_input, IsStored, BuildPromises}
use Rattle.build_command.specs.Stored.{HasStored}
use Rattle.build_store.proofs.StoreFacts.{passes_storing}
use Rattle.build_store.specs.Store.{storing}
use Rattle.image_build.specs.Made.{HasMade}
use Rattle.mars_base.specs.Causes.{Rose}
use Rattle.planned_plant.specs.Plant.{plant_of}
use Rattle.plant.specs.declared.system.Plant.{Plant}
use Rattle.project_image.proofs.Within.{image_once, refuses_image}
use Rattle.project_image.specs.Gives.{ImageGives}
use Rattle.project_tables.proofs.PlannedFacts.{passes_planned, kept_planned, refuses_planned, missing_planned}
use Rattle.project_tables.specs.Planned.{planned}
use Rattle.refusals.specs.Causes.{Counts}
use Rattle.refusals.specs.Status.{status_of, status_of_result}
use Rattle.refusals.specs.declared.fault.Fault.{Fault}
use Rattle.refusals.specs.declared.refusal.Refusal.{Refusal}
use Rattle.refusals.specs.declared.refusal.Refusal.TheVariants as refusal
use Rattle.stages.specs.Files.{writing}
use Rattle.stages.specs.Stage.{Stage, Does, judging, printing}
use Rattle.stages.specs.World.{Held}
use Rattle.stages.proofs.ExactFacts.{exact}
use Rattle.stages.proofs.MissingFacts.{refused_turn, refused_does}
use Rattle.stages.proofs.Relations.{Within, Refuses, KeepsOthers, OneAnswer, Passes, Lasts}
use Rattle.stages.proofs.SoundFacts.{passes_turn, passes_judging, passes_lasts}
use Rattle.stages.proofs.Turns.{fails, not_err}
use Rattle.stages.proofs.WithinFacts.{within_turn, within_does, within_judging, others_kept, others_writing, others_of, files_printing, refuses_turn, refuses_none, refuses_writing, refuses_printing}
use Rattle.word_code.specs.declared.code.Code.{Code}

abbrev put_it : (image bytes : List ℕ) → List ℕ → Stage (Unit {0})
put_it image bytes text = storing image bytes text

is_text : (text : List ℕ) → OneAnswer (IsText text)
is_text text r s one two = one ∙ sym two

passes_stored : (image : List ℕ) (plant : Plant Code) → Passes (stored image plant)
passes_stored image plant =
    passes_turn (judging (ImageGives image plant)) (reporting image plant) (passes_judging (ImageGives image plant) (image_once image plant))
    (λ bytes. passes_turn (judging (IsText (report_text plant bytes))) (put_it image bytes) (passes_judging (IsText (report_text plant bytes)) (is_text (report_text plant bytes))) (λ text. passes_storing image bytes text))

pub lasts_building : (project : List ℕ) (budget : ℕ) (image : List ℕ) → Lasts (building project budget image)
lasts_building project budget image =
    passes_lasts (building project budget image) (passes_turn (planned project budget) (stored_plan image) (passes_planned project budget) (λ p. passes_stored image (plant_of p)))

-- what `build` refuses
refuses_stored : (P : Refusal → Type 0) (image : List ℕ) (plant : Plant Code) → P (refusal.TooLong (Some image)) → Refuses P (stored image plant)
refuses_stored P image plant long =
    refuses_turn P (judging (ImageGives image plant)) (reporting image plant) (λ b n r e meant is. refuses_image P image plant long r e meant.1 is)
    (λ bytes. refuses_turn P (judging (IsText (report_text plant bytes))) (put_it image bytes) (λ b n r e meant is. refuses_none P (report_text plant bytes) r e meant.1 is)
    (λ text. refuses_turn P (writing image bytes) (λ u. printing text) (refuses_writing P image bytes) (λ u. refuses_printing P text)))

pub refuses_building : (P : Refusal → Type 0) (project : List ℕ) (budget : ℕ) (image : List ℕ) → ((name : List ℕ) → P (refusal.ReadFault (Some name))) → ((name : List ℕ) → P (refusal.TooLong (Some name))) → ((f : Fault) → P (refusal.Fault f))
    → P (refusal.Spent budget) → P refusal.NoTable → Refuses P (building project budget image)
refuses_building P project budget image missing long fault spent none =
    refuses_turn P (planned project budget) (stored_plan image) (refuses_planned P project budget missing long fault spent none) (λ p. refuses_stored P image (plant_of p) (long image))

-- every file but the image's stays
others_stored : (image : List ℕ) (plant : Plant Code) → Within (KeepsOthers image) (stored image plant)
others_stored image plant =
    within_turn (KeepsOthers image) (judging (ImageGives image plant)) (reporting image plant) (others_kept image) (within_judging (KeepsOthers image) (ImageGives image plant) (others_kept image))
    (λ bytes. within_turn (KeepsOthers image) (judging (IsText (report_text plant bytes))) (put_it image bytes) (others_kept image) (within_judging (KeepsOthers image) (IsText (report_text plant bytes)) (others_kept image))
    (λ text. within_turn (KeepsOthers image) (writing image bytes) (λ u. printing text) (others_kept image) (others_writing image bytes) (λ u. others_of image (printing text) (files_printing text))))

others_building : (project : List ℕ) (budget : ℕ) (image : List ℕ) → Within (KeepsOthers image) (building project budget image)
others_building project budget image =
    within_turn (KeepsOthers image) (planned project budget) (stored_plan image) (others_kept image) (kept_planned (KeepsOthers image) project budget (others_kept image)) (λ p. others_stored image (plant_of p))

-- the status of a write that was refused
write_status : (image : List ℕ) (e : Refusal) → (e ≡ refusal.Memory) ⊎ (e ≡ refusal.WriteFault (Some image)) → (status_of e ≡ 1) ⊎ (status_of e ≡ 7)
write_status image e (inl is) = inl (ap status_of is)
write_status image e (inr is) = inr (ap status_of is)

neither : {A : Type 0} (k : ℕ) → (k ≡ 1) ⊎ (k ≡ 7) → (k ≡ 1 → ⊥) → (k ≡ 7 → ⊥) → A
neither k (inl one) not_one not_seven = absurd (not_one one)
neither k (inr seven) not_one not_seven = absurd (not_seven seven)

-- what was stored was made
was_made : {project image : List ℕ} {b n : Held} {r : Result (Unit {0}) Refusal} → (stored : HasStored project image b n r) → HasMade project b.files stored.bytes
was_made stored = record { net = stored.net; built = stored.built; source = stored.source; short = stored.short; carry = stored.carry }

module _ (project image : List ℕ) (b n : Held) (c d : Counts) (r : Result (Unit {0}) Refusal) where
  files_by : Ended project image b n c d r → (status_of_result r ≡ 0 → ⊥) → (status_of_result r ≡ 1 → ⊥) → (status_of_result r ≡ 7 → ⊥) → n.files ≡ b.files
  files_by (Early e is fine files out) zero one seven = files
  files_by (Unwritten e is how out bytes made) zero one seven = neither (status_of e) (write_status image e how) (λ h. one (ap status_of_result is ∙ h)) (λ h. seven (ap status_of_result is ∙ h))
  files_by (Unput is rose stored) zero one seven = absurd (seven (ap status_of_result is))
  files_by (Whole is stored) zero one seven = absurd (zero (ap status_of_result is))

  out_by : Ended project image b n c d r → (status_of_result r ≡ 0 → ⊥) → (status_of_result r ≡ 7 → ⊥) → n.out ≡ b.out
  out_by (Early e is fine files out) zero seven = out
  out_by (Unwritten e is how out bytes made) zero seven = out
  out_by (Unput is rose stored) zero seven = absurd (seven (ap status_of_result is))
  out_by (Whole is stored) zero seven = absurd (zero (ap status_of_result is))

  rose_by : Ended project image b n c d r → status_of_result r ≡ 7 → Rose c.output d.output ⊎ (n.out ≡ b.out)
  rose_by (Early e is fine files out) seven = inr out
  rose_by (Unwritten e is how out bytes made) seven = inr out
  rose_by (Unput is rose stored) seven = inl rose
  rose_by (Whole is stored) seven = absurd (let zero = ap status_of_result is in omega (arith, zero, seven))

  -- files that are touched were to hold the image
  untouched_by : Ended project image b n c d r → (n.files ≡ b.files) ⊎ ((bytes : List ℕ) × HasMade project b.files bytes)
  untouched_by (Early e is fine files out) = inl files
  untouched_by (Unwritten e is how out bytes made) = inr (bytes, made)
  untouched_by (Unput is rose stored) = inr (stored.bytes, was_made stored)
  untouched_by (Whole is stored) = inr (stored.bytes, was_made stored)

  -- nothing was refused, or only a put: the statuses 0 and 7
  not_early : (e : Refusal) → r ≡ Err e → (status_of e ≡ 7 → ⊥) → IsStored r → HasStored project image b n r
  not_early e is fine (inl ok) = not_err tt e (sym is ∙ ok)
  not_early e is fine (inr put) = absurd (fine (ap status_of_result (sym is ∙ put)))

  not_unwritten : (e : Refusal) → r ≡ Err e → (e ≡ refusal.Memory) ⊎ (e ≡ refusal.WriteFault (Some image)) → IsStored r → HasStored project image b n r
  not_unwritten e is how (inl ok) = not_err tt e (sym is ∙ ok)
  not_unwritten e is (inl memory) (inr put) = absurd (let h : status_of e ≡ 7 = ap status_of_result (sym is ∙ put) in let k : status_of e ≡ 1 = ap status_of memory in omega (arith, h, k))
  not_unwritten e is (inr write) (inr put) =
      let h : fails (Unit {0}) (refusal.WriteFault (Some image)) ≡ fails (Unit {0}) (refusal.WriteFault None) = ap (fails (Unit {0})) (sym write) ∙ (sym is ∙ put) in
      absurd (let x : ⊥ = cc in x)

  stored_by : Ended project image b n c d r → IsStored r → HasStored project image b n r
  stored_by (Early e is fine files out) so = not_early e is fine so
  stored_by (Unwritten e is how out bytes made) so = not_unwritten e is how so
  stored_by (Unput is rose stored) so = stored
  stored_by (Whole is stored) so = stored

-- whatever the objects tell
pub promises : (project : List ℕ) (budget : ℕ) (image : List ℕ) (b n : Held) (c d : Counts) (r : Result (Unit {0}) Refusal) → (n.left ≡ b.left) × (d.input ≡ c.input) → Does (building project budget image) b n c d r
    → Does (building project budget image) (without_input b) (without_input n) c d r → BuildPromises project budget image b n c d r
promises project budget image b n c d r input does blind =
    let end = ends project budget image b n c d r does in
    record {
      others_stay = within_does (KeepsOthers image) (building project budget image) (others_building project budget image) does;
      files_stay = files_by project image b n c d r end;
      untouched = untouched_by project image b n c d r end;
      input_stays = input;
      exact = exact (building project budget image) (lasts_building project budget image) (without_input b) (without_input n) c d r blind;
      missing = λ missing. refused_does (refusal.ReadFault (Some project)) (building project budget image) (refused_turn b (refusal.ReadFault (Some project)) (planned project budget) (stored_plan image) (missing_planned project budget b missing)) does;
      unput = out_by project image b n c d r end;
      unwritten = rose_by project image b n c d r end;
      carries = stored_by project image b n c d r end;
    }
