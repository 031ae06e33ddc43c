-- A text that goes out by way of a buffer is printed.
use Rattle.std.proofs.Common.{◌≡◌, ◌≤◌, inl, inr, ℕ, List, [], ◌++◌, length, take, Option, None, Ok, Err, refl, sym, ap, ◌∙◌, subst, append-nil, arith}
use Rattle.std.proofs.Math.Seq.{take-append_seam}
use Rattle.std.specs.Io.KnownBytes.{append_known}
use Rattle.lines.specs.Gathered.{Gathered, HasFront}
use Rattle.lines.proofs.Gather.{nothing_gathered, gathered_sent, front_sent, all_gathered}
use Rattle.mars_base.specs.declared.file.File.{File}
use Rattle.mars_base.specs.Causes.{Rose}
use Rattle.refusals.specs.Causes.{counts, Later}
use Rattle.refusals.specs.declared.refusal.Refusal.TheVariants as refusal
use Rattle.stages.specs.Stage.{Does, printing}
use Rattle.stages.specs.World.{held}

-- only the output's count may have risen
only_output : (reads writes input f g : ℕ) → f ≤ g → Later (counts reads writes input f) (counts reads writes input g)
only_output reads writes input f g le = record { in_reads = omega arith; in_writes = omega arith; in_input = omega arith; in_output = le }

-- all of the text was put
pub printed : (files : Option (List File)) (left old new : Option (List ℕ)) (text : List ℕ) (reads writes input f g : ℕ) → new ≡ append_known old text → f ≤ g
    → Does (printing text) (held files left old) (held files left new) (counts reads writes input f) (counts reads writes input g) (Ok tt)
printed files left old new text reads writes input f g is le = record { later = only_output reads writes input f g le; how = inl (ap (λ o. held files left o) is, refl) }

-- a put failed: a front of the text was put
pub failed : (files : Option (List File)) (left old new : Option (List ℕ)) (text : List ℕ) (reads writes input f g : ℕ) → HasFront old text new → f ≤ g → Rose f g
    → Does (printing text) (held files left old) (held files left new) (counts reads writes input f) (counts reads writes input g) (Err (refusal.WriteFault None))
failed files left old new text reads writes input f g front le rose =
    let taken : take (length front.front) text ≡ front.front = ap (take (length front.front)) front.whole ∙ take-append_seam front.front front.rest in
    record {
      later = only_output reads writes input f g le;
      how = inr (refusal.WriteFault None, refl, (length front.front, ap (λ o. held files left o) (front.stands ∙ ap (append_known old) (sym taken)), refl), rose);
    }

-- nothing waits yet
begun : (old : Option (List ℕ)) (waiting : List ℕ) → waiting ≡ [] → Gathered old [] old waiting
begun old waiting is = subst (λ (w : List ℕ). Gathered old [] old w) (sym is) (nothing_gathered old)

-- the text was written behind an empty buffer, and a put of it failed
pub front_written : (old new : Option (List ℕ)) (waiting text : List ℕ) → waiting ≡ [] → ((base : Option (List ℕ)) (t : List ℕ) → Gathered base t old waiting → HasFront base (t ++ text) new) → HasFront old text new
front_written old new waiting text is wrote = wrote old [] (begun old waiting is)

-- it was written, and then the rest of it was put
pub all_written : (old mid new : Option (List ℕ)) (waiting text left : List ℕ) → waiting ≡ [] → ((base : Option (List ℕ)) (t : List ℕ) → Gathered base t old waiting → Gathered base (t ++ text) mid left)
    → new ≡ append_known mid left → new ≡ append_known old text
all_written old mid new waiting text left is wrote put = all_gathered old text new (gathered_sent old text mid new left put (wrote old [] (begun old waiting is)))

-- it was written, and then a front of the rest was put
pub rest_failed : (old mid new : Option (List ℕ)) (waiting text left : List ℕ) (n : ℕ) → waiting ≡ [] → ((base : Option (List ℕ)) (t : List ℕ) → Gathered base t old waiting → Gathered base (t ++ text) mid left)
    → new ≡ append_known mid (take n left) → HasFront old text new
rest_failed old mid new waiting text left n is wrote put =
    subst (λ (t : List ℕ). HasFront old t new) (append-nil text) (front_sent old text mid new left n [] put (wrote old [] (begun old waiting is)))
