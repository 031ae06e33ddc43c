-- What two writes in a row come to at the end of a run.
use Rattle.std.proofs.Common.{◌≡◌, inl, inr, ℕ, List, [], ◌++◌, Option, Result, Ok, Err, refl, subst}
use Rattle.std.proofs.lemmas.List.{append-nil}
use Rattle.mars_base.specs.Causes.{Rose}
use Rattle.mars_base.specs.declared.outside.SinkFault.{SinkFault}
use Rattle.lines.specs.Gathered.{Gathered, HasFront, Writes}
use Rattle.lines.proofs.Gather.{all_gathered}
use Rattle.cycle_runs.specs.Closing.{Closes}
use Rattle.cycle_runs.specs.declared.fault.RunFault.{RunFault}
use Rattle.cycle_runs.specs.declared.fault.RunFault.TheVariants as fault

abbrev Answer : Type 0
Answer = Result (Unit {0}) RunFault

nil_end : (text bytes : List ℕ) → (text ++ bytes) ++ [] ≡ text ++ bytes
nil_end text bytes = append-nil (text ++ bytes)

-- the bytes were written and all was sent
pub closes_ok : (out mid new : Option (List ℕ)) (waiting between left bytes : List ℕ) (before now : ℕ) (answer : Answer)
    → Writes {E = SinkFault} out waiting bytes mid between (Ok tt) → Writes {E = SinkFault} mid between [] new [] (Ok tt) → Closes out waiting bytes new before now answer answer
closes_ok out mid new waiting between left bytes before now answer first second = inl (record {
  answered = refl;
  whole = λ base text g. all_gathered base (text ++ bytes) new (subst (λ (t : List ℕ). Gathered base t new []) (nil_end text bytes) (second base (text ++ bytes) (first base text g)));
})

-- the bytes could not be written
pub closes_unwritten : (e : SinkFault) (out new : Option (List ℕ)) (waiting left bytes : List ℕ) (before now : ℕ) (answer : Answer)
    → Writes out waiting bytes new left (Err e) → Rose before now → Closes out waiting bytes new before now (Err fault.Write) answer
closes_unwritten e out new waiting left bytes before now answer first rose = inr (record { answered = refl; front = first; rose = rose })

-- they were written, and could not all be sent
pub closes_unsent : (e : SinkFault) (out mid new : Option (List ℕ)) (waiting between left bytes : List ℕ) (before now : ℕ) (answer : Answer)
    → Writes {E = SinkFault} out waiting bytes mid between (Ok tt) → Writes mid between [] new left (Err e) → Rose before now → Closes out waiting bytes new before now (Err fault.Write) answer
closes_unsent e out mid new waiting between left bytes before now answer first second rose = inr (record {
  answered = refl;
  front = λ base text g. subst (λ (t : List ℕ). HasFront base t new) (nil_end text bytes) (second base (text ++ bytes) (first base text g));
  rose = rose;
})
