-- What `show` came to.
use Rattle.std.proofs.Common.{◌≡◌, ◌⊎◌, inl, inr, ℕ, List, None, Some, Result, Ok, Err, refl, sym, ap, ◌∙◌, subst, arith}
use Rattle.std.specs.Io.KnownBytes.{append_known}
use Rattle.image.specs.Faults.{IsFirstFaultOf}
use Rattle.image.specs.declared.decoding.ImageFault.{ImageFault}
use Rattle.image_file.proofs.FileFacts.{was_image}
use Rattle.image_file.proofs.Once.{told_bad}
use Rattle.image_file.specs.Gives.{ImageGives, Sound, Faulty, image_stage, refusal_of}
use Rattle.image_plant.specs.Fields.{image_bytes}
use Rattle.mars_base.specs.Outside.{file_at}
use Rattle.mars_base.specs.declared.file.File.{File}
use Rattle.plant.specs.declared.system.Plant.{Plant}
use Rattle.refusals.specs.Causes.{Counts, Caused}
use Rattle.refusals.specs.Status.{status_of, status_of_result}
use Rattle.refusals.specs.declared.refusal.Refusal.{Refusal}
use Rattle.refusals.specs.declared.refusal.Refusal.TheVariants as refusal
use Rattle.show_command.specs.Show.{showing_image, text_of}
use Rattle.show_command.specs.ShowRan.{IsShowStatus, ShowRan, Shown, Bad}
use Rattle.stages.specs.Files.{reading, FileIs}
use Rattle.stages.specs.Stage.{Does}
use Rattle.stages.specs.World.{Held}
use Rattle.stages.proofs.Gives.{was_read}
use Rattle.stages.proofs.Turns.{fails, err_once, not_err}
use Rattle.stages.proofs.WithinFacts.{refuses_reading}
use Rattle.word_code.specs.declared.code.Code.{Code}

-- the file wasn't judged
abbrev Unjudged : Refusal → Type 0
Unjudged e = IsShowStatus (status_of e) → ⊥

other : (n : ℕ) → (n ≡ 0 → ⊥) → (n ≡ 10 → ⊥) → IsShowStatus n → ⊥
other n zero ten (inl is) = zero is
other n zero ten (inr is) = ten is

-- no cause cuts a judgement's answer off
caused_unjudged : (c d : Counts) (e : Refusal) → Caused c d e → Unjudged e
caused_unjudged c d refusal.Memory is = other 1 (λ e. omega (arith, e)) (λ e. omega (arith, e))
caused_unjudged c d (refusal.ReadFault name) is = other 6 (λ e. omega (arith, e)) (λ e. omega (arith, e))
caused_unjudged c d (refusal.WriteFault name) is = other 7 (λ e. omega (arith, e)) (λ e. omega (arith, e))
caused_unjudged c d (refusal.TooLong name) is = other 13 (λ e. omega (arith, e)) (λ e. omega (arith, e))
caused_unjudged c d refusal.Usage is = absurd is
caused_unjudged c d (refusal.Fault fault) is = absurd is
caused_unjudged c d (refusal.Spent budget) is = absurd is
caused_unjudged c d refusal.NoTable is = absurd is
caused_unjudged c d (refusal.BadInput n) is = absurd is
caused_unjudged c d (refusal.BadScript n) is = absurd is
caused_unjudged c d (refusal.BadImage bad) is = absurd is
caused_unjudged c d refusal.Broken is = absurd is
caused_unjudged c d refusal.Lost is = absurd is

unread : (file : List ℕ) (b n : Held) (e : Refusal) → (reading file 4194304).meant b n (Err e) → Unjudged e
unread file b n e meant = refuses_reading Unjudged file 4194304 (other 6 (λ e. omega (arith, e)) (λ e. omega (arith, e))) (other 13 (λ e. omega (arith, e)) (λ e. omega (arith, e))) b n (Err e) e meant refl

-- the file of a shelf that tells
file_is : (b : Held) (file : List ℕ) (files : List File) (bytes : List ℕ) → b.files ≡ Some files → FileIs b.files file bytes → file_at file files ≡ Some bytes
file_is b file files bytes told is = subst (λ h. FileIs h file bytes) told is

-- a first fault is status 10
ten : (bytes : List ℕ) (e : ImageFault) → IsFirstFaultOf bytes e → status_of (refusal_of e) ≡ 10
ten bytes e first = told_bad (λ (z : Refusal). status_of z ≡ 10) bytes e (λ b. refl) first

-- what bytes that gave no image have
bad : (bytes : List ℕ) (e : Refusal) → ImageGives bytes (Err e) → (f : ImageFault) × (status_of e ≡ 10) × IsFirstFaultOf bytes f
bad bytes e (Sound plant ok is has) = not_err plant e ok
bad bytes e (Faulty f refused first) = (f, ap status_of (err_once (Plant Code) e (refusal_of f) refused) ∙ ten bytes f first, first)

-- whatever it came to, by the bytes of its file
pub show_ran : (file : List ℕ) (b n : Held) (c d : Counts) (r : Result (Unit {0}) Refusal) → Does (showing_image file) b n c d r → IsShowStatus (status_of_result r) → (files : List File) → b.files ≡ Some files
    → ShowRan file files b.out n.out (status_of_result r)
show_ran file b n c d r does ends files told = by does.how
  where
    stop : (e : Refusal) → (image_stage file).meant b n (Err e) → r ≡ Err e → ShowRan file files b.out n.out (status_of_result r)
    stop e (inl (f, meant, same)) is = absurd (unread file b n f meant (subst IsShowStatus (ap status_of_result is ∙ ap status_of (err_once (Plant Code) e f same)) ends))
    stop e (inr (bytes, m, meant, next)) is =
        let read = was_read file 4194304 b m bytes meant in
        let x = bad bytes e next.1 in
        Bad bytes x.0 (ap status_of_result is ∙ x.1) (file_is b file files bytes told read.file) x.2 (ap (λ (h : Held). h.out) (next.0 ∙ read.stays))

    by : (showing_image file).meant b n r ⊎ ((e : Refusal) × (r ≡ Err e) × (showing_image file).cut b n e × Caused c d e) → ShowRan file files b.out n.out (status_of_result r)
    by (inl (inl (e, meant, is))) = stop e meant is
    by (inl (inr (plant, m, meant, inl nothing))) = not_err tt nothing.0 nothing.1.1
    by (inl (inr (plant, m, meant, inr (u, k, taken, put)))) =
        let was = was_image file b m plant meant in
        Shown plant (ap status_of_result put.1) was.is_image
        (subst (λ (x : List ℕ). file_at file files ≡ Some x) was.has_bytes (file_is b file files was.bytes told was.file_is))
        (ap (λ (h : Held). h.out) put.0 ∙ ap (λ (h : Held). append_known h.out (text_of plant)) (taken.0 ∙ was.stays))
    by (inr (e, refused, cut, caused)) = absurd (caused_unjudged c d e caused (subst IsShowStatus (ap status_of_result refused) ends))
