-- How a cycle's text and a run's last text go out.
use Rattle.std.specs.Prelude.{◌≡◌, ◌⊎◌, ℕ, List, ◌++◌, Option, Result, Err, MatchResult}
use Rattle.std.specs.Io.KnownBytes.{append_known}
use Rattle.lines.specs.Gathered.{Gathered, HasFront}
use Rattle.mars_base.specs.Causes.{Rose}
use Rattle.cycle_runs.specs.declared.fault.RunFault.{RunFault}
use Rattle.cycle_runs.specs.declared.fault.RunFault.TheVariants as fault

-- the bytes were written behind whatever was gathered, or at an error a front of that and them was put; whatever the answer
abbrev pub WritesFor : {A E : Type 0} → Option (List ℕ) → List ℕ → List ℕ → Option (List ℕ) → List ℕ → Result A E → Type 0
WritesFor out waiting bytes new left result = MatchResult result
    (λ _. (base : Option (List ℕ)) (text : List ℕ) → Gathered base text out waiting → Gathered base (text ++ bytes) new left)
    (λ _. (base : Option (List ℕ)) (text : List ℕ) → Gathered base text out waiting → HasFront base (text ++ bytes) new)

-- all that was gathered and the last bytes went out, and the answer is this
pub record Closed (out : Option (List ℕ)) (waiting bytes : List ℕ) (new : Option (List ℕ)) (result answer : Result (Unit {0}) RunFault) : Type 0 where
  pub answered : result ≡ answer
  pub whole : (base : Option (List ℕ)) (text : List ℕ) → Gathered base text out waiting → new ≡ append_known base (text ++ bytes)

-- a put failed: a front of that went out
pub record Failed (out : Option (List ℕ)) (waiting bytes : List ℕ) (new : Option (List ℕ)) (before now : ℕ) (result : Result (Unit {0}) RunFault) : Type 0 where
  pub answered : result ≡ Err fault.Write
  pub front : (base : Option (List ℕ)) (text : List ℕ) → Gathered base text out waiting → HasFront base (text ++ bytes) new
  pub rose : Rose before now

abbrev pub Closes : Option (List ℕ) → List ℕ → List ℕ → Option (List ℕ) → ℕ → ℕ → Result (Unit {0}) RunFault → Result (Unit {0}) RunFault → Type 0
Closes out waiting bytes new before now result answer = Closed out waiting bytes new result answer ⊎ Failed out waiting bytes new before now result
