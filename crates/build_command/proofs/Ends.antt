-- How a build ends.
use Rattle.std.proofs.Common.{◌≡◌, ◌⊎◌, inl, inr, ℕ, List, map, Option, None, Some, Result, Ok, Err, refl, sym, ap, ◌∙◌, subst, arith}
use Rattle.std.specs.Io.KnownBytes.{append_known}
use Rattle.build_command.proofs.Cuts.{planned_cut}
use Rattle.build_command.specs.Build.{report_text, IsText, reporting, stored, stored_plan, building}
use Rattle.build_command.specs.Stored.{HasStored}
use Rattle.image_build.proofs.MadeFacts.{has_made}
use Rattle.image_build.specs.Made.{HasMade}
use Rattle.mars_base.specs.Causes.{Rose}
use Rattle.mars_base.specs.declared.file.File.{File}
use Rattle.mars_base.specs.Outside.{Wrote}
use Rattle.planned_plant.proofs.WasPlanned.{was_planned}
use Rattle.planned_plant.specs.Plant.{plant_of}
use Rattle.plant.specs.declared.system.Plant.{Plant}
use Rattle.project_image.proofs.Within.{refuses_image}
use Rattle.project_image.specs.Gives.{ImageGives}
use Rattle.project_tables.proofs.PlannedFacts.{kept_planned, refuses_planned}
use Rattle.project_tables.specs.Planned.{PlannedProject, planned}
use Rattle.refusals.specs.Causes.{Counts, Caused}
use Rattle.refusals.specs.Status.{status_of}
use Rattle.refusals.specs.declared.fault.Fault.{Fault}
use Rattle.refusals.specs.declared.refusal.Refusal.{Refusal}
use Rattle.refusals.specs.declared.refusal.Refusal.TheVariants as refusal
use Rattle.stages.specs.Files.{FileIs}
use Rattle.stages.specs.Stage.{Stage, Does}
use Rattle.stages.specs.World.{Held}
use Rattle.stages.proofs.Gives.{ok_once}
use Rattle.stages.proofs.Relations.{Within, Refuses, KeepsFiles, KeepsOut}
use Rattle.stages.proofs.Turns.{fails, not_err}
use Rattle.stages.proofs.WithinFacts.{files_kept, out_kept}
use Rattle.word_code.specs.declared.code.Code.{Code}

-- no write and no put was refused
abbrev pub NotWrites : Refusal → Type 0
NotWrites e = status_of e ≡ 7 → ⊥

-- a build was refused before its write; or the write was refused; or a put of the report; or nothing was
pub data Ended (project image : List ℕ) (b n : Held) (c d : Counts) (r : Result (Unit {0}) Refusal) : Type 0 where
  Early : (e : Refusal) → r ≡ Err e → NotWrites e → n.files ≡ b.files → n.out ≡ b.out → Ended project image b n c d r
  Unwritten : (e : Refusal) → r ≡ Err e → (e ≡ refusal.Memory) ⊎ (e ≡ refusal.WriteFault (Some image)) → n.out ≡ b.out → (bytes : List ℕ) → HasMade project b.files bytes → Ended project image b n c d r
  Unput : r ≡ Err (refusal.WriteFault None) → Rose c.output d.output → HasStored project image b n r → Ended project image b n c d r
  Whole : r ≡ Ok tt → HasStored project image b n r → Ended project image b n c d r

-- what was written stands
wrote_stands : (image bytes : List ℕ) (f g : Option (List File)) → Wrote f g image bytes → FileIs g image bytes
wrote_stands image bytes None None wrote = tt
wrote_stands image bytes None (Some g) wrote = absurd wrote
wrote_stands image bytes (Some f) None wrote = absurd wrote
wrote_stands image bytes (Some f) (Some g) wrote = wrote.0

module _ (project : List ℕ) (budget : ℕ) (image : List ℕ) where
  -- the image of a planned project was written
  has_stored : (b m n : Held) (p : PlannedProject) (bytes : List ℕ) (r : Result (Unit {0}) Refusal) → (planned project budget).meant b m (Ok p) → ImageGives image (plant_of p) (Ok bytes) → FileIs n.files image bytes
      → (r ≡ Ok tt → n.out ≡ append_known b.out (report_text (plant_of p) bytes)) → HasStored project image b n r
  has_stored b m n p bytes r planned gives stands report =
      let made = has_made project budget (Some image) b m p bytes planned gives in
      record {
        net = made.net;
        built = made.built;
        source = made.source;
        bytes = bytes;
        short = made.short;
        stands = stands;
        carry = made.carry;
        report = report;
      }

  plan_refuses : Refuses NotWrites (planned project budget)
  plan_refuses = refuses_planned NotWrites project budget (λ name e. omega (arith, e)) (λ name e. omega (arith, e)) (λ f e. omega (arith, e)) (λ e. omega (arith, e)) (λ e. omega (arith, e))

  plan_cut : (b n : Held) (e : Refusal) → (planned project budget).cut b n e → NotWrites e
  plan_cut = planned_cut NotWrites project budget (λ e. omega (arith, e)) (λ name e. omega (arith, e)) (λ name e. omega (arith, e))

  memory_not : (e : Refusal) → e ≡ refusal.Memory → NotWrites e
  memory_not e is = subst NotWrites (sym is) (λ h. omega (arith, h))

  keeps_files : Within KeepsFiles (planned project budget)
  keeps_files = kept_planned KeepsFiles project budget files_kept

  keeps_out : Within KeepsOut (planned project budget)
  keeps_out = kept_planned KeepsOut project budget out_kept

  -- each way to its end
  pub ends : (b n : Held) (c d : Counts) (r : Result (Unit {0}) Refusal) → Does (building project budget image) b n c d r → Ended project image b n c d r
  ends b n c d r does = by does.how
    where
      -- from what stood before on, the bytes were written
      after : (m k k2 : Held) (p : PlannedProject) → (planned project budget).meant b m (Ok p) → k ≡ m → k2 ≡ k → k2 ≡ b
      after m k k2 p first one two = two ∙ (one ∙ (was_planned project budget b m p first).stays)

      by : (building project budget image).meant b n r ⊎ ((e : Refusal) × (r ≡ Err e) × (building project budget image).cut b n e × Caused c d e) → Ended project image b n c d r
      by (inl (inl (e, meant, is))) = Early e is (plan_refuses b n (Err e) e meant refl) (keeps_files.by_meant b n (Err e) meant) (keeps_out.by_meant b n (Err e) meant)
      by (inl (inr (p, m, first, inl (e, judged, is)))) =
          Early e is (refuses_image NotWrites image (plant_of p) (λ h. omega (arith, h)) (Err e) e judged.1 refl) (ap (λ (h : Held). h.files) judged.0 ∙ keeps_files.by_meant b m (Ok p) first)
          (ap (λ (h : Held). h.out) judged.0 ∙ keeps_out.by_meant b m (Ok p) first)
      by (inl (inr (p, m, first, inr (bytes, k, judged, inl (e, kept, is))))) = not_err (report_text (plant_of p) bytes) e kept.1
      by (inl (inr (p, m, first, inr (bytes, k, judged, inr (text, k2, kept, inl (e, wrote, is)))))) = not_err tt e wrote.3
      by (inl (inr (p, m, first, inr (bytes, k, judged, inr (text, k2, kept, inr (u, k3, wrote, put)))))) =
          let same = after m k k2 p first judged.0 kept.0 in
          let is : text ≡ report_text (plant_of p) bytes = ok_once (List ℕ) text (report_text (plant_of p) bytes) kept.1 in
          Whole put.1
          (has_stored b m n p bytes r first judged.1
          (subst (λ (f : Option (List File)). FileIs f image bytes) (sym (ap (λ (h : Held). h.files) put.0)) (wrote_stands image bytes k2.files k3.files wrote.0))
          (λ done. ap (λ (h : Held). h.out) put.0 ∙ (ap (λ (o : Option (List ℕ)). append_known o text) (wrote.2 ∙ ap (λ (h : Held). h.out) same) ∙ ap (append_known b.out) is)))
      by (inr (e, is, inl cut, caused)) = Early e is (plan_cut b n e cut) (keeps_files.by_cut b n e cut) (keeps_out.by_cut b n e cut)
      by (inr (e, is, inr (p, m, first, inl cut), caused)) =
          Early e is (memory_not e cut.1) (ap (λ (h : Held). h.files) cut.0 ∙ keeps_files.by_meant b m (Ok p) first) (ap (λ (h : Held). h.out) cut.0 ∙ keeps_out.by_meant b m (Ok p) first)
      by (inr (e, is, inr (p, m, first, inr (bytes, k, judged, inl cut)), caused)) =
          let same = after m k n p first judged.0 cut.0 in
          Early e is (memory_not e cut.1) (ap (λ (h : Held). h.files) same) (ap (λ (h : Held). h.out) same)
      by (inr (e, is, inr (p, m, first, inr (bytes, k, judged, inr (text, k2, kept, inl cut))), caused)) =
          let same = after m k k2 p first judged.0 kept.0 in
          Unwritten e is cut.3 (cut.2 ∙ ap (λ (h : Held). h.out) same) bytes (has_made project budget (Some image) b m p bytes first judged.1)
      by (inr (e, is, inr (p, m, first, inr (bytes, k, judged, inr (text, k2, kept, inr (u, k3, wrote, put)))), caused)) =
          let failed : r ≡ Err (refusal.WriteFault None) = is ∙ ap (fails (Unit {0})) put.2 in
          Unput failed (subst (Caused c d) put.2 caused)
          (has_stored b m n p bytes r first judged.1
          (subst (λ (f : Option (List File)). FileIs f image bytes) (sym (ap (λ (h : Held). h.files) put.1)) (wrote_stands image bytes k2.files k3.files wrote.0))
          (λ done. not_err tt (refusal.WriteFault None) (sym failed ∙ done)))
