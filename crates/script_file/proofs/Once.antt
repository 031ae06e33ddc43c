-- Bytes give one answer.
use Rattle.std.proofs.Common.{◌≡◌, ◌⊎◌, inl, inr, ℕ, false, List, [], Result, Ok, Err, sym, ap, ◌∙◌}
use Rattle.refusals.specs.declared.refusal.Refusal.{Refusal}
use Rattle.refusals.specs.declared.refusal.Refusal.TheVariants as refusal
use Rattle.script_file.specs.Gives.{ScriptGives, Said, Faulty, refusal_of}
use Rattle.script_reader.specs.Reading.{Events, Reading, Good, Bad, reading as script_of, IsFaultOf}
use Rattle.script_reader.specs.declared.reader.ScriptFault.{ScriptFault}
use Rattle.script_reader.specs.declared.reader.ScriptFault.TheVariants as fault
use Rattle.stages.proofs.Relations.{OneAnswer}
use Rattle.stages.proofs.Turns.{fails}

abbrev no_events : Events
no_events = record { silences = []; paces = []; restarts = [] }

abbrev events_in : Reading → Events
events_in (Good events) = events
events_in (Bad n) = no_events

abbrev line_in : Reading → ℕ
line_in (Good events) = 0
line_in (Bad n) = n

one_events : (a b : Events) → Good a ≡ Good b → a ≡ b
one_events a b e = ap events_in e

one_line : (n m : ℕ) → Bad n ≡ Bad m → n ≡ m
one_line n m e = ap line_in e

good_bad : {A : Type 0} (a : Events) (n : ℕ) → Good a ≡ Bad n → A
good_bad a n e = absurd cc

pub gives_once : (units ticks : ℕ) (bytes : List ℕ) → OneAnswer (ScriptGives units ticks bytes)
gives_once units ticks bytes r s (Said a ok is) (Said b fine has) = ok ∙ (ap (λ z. Ok z) (one_events a b (sym is ∙ has)) ∙ sym fine)
gives_once units ticks bytes r s (Said a ok is) (Faulty n refused bad) = good_bad a n (sym is ∙ bad)
gives_once units ticks bytes r s (Faulty n refused bad) (Said a ok is) = good_bad a n (sym is ∙ bad)
gives_once units ticks bytes r s (Faulty n refused bad) (Faulty m also worse) =
    refused ∙ (ap (λ (z : ℕ). fails Events (refusal.BadScript z)) (one_line n m (sym bad ∙ worse)) ∙ sym also)

-- a fault that is answered is the first bad line, or there was no memory
pub told : (units ticks : ℕ) (bytes : List ℕ) (e : ScriptFault) (r : Refusal) → IsFaultOf (script_of false units ticks bytes) e → r ≡ refusal_of e
    → ScriptGives units ticks bytes (Err r) ⊎ (Err r ≡ fails Events refusal.Memory)
told units ticks bytes (fault.Bad n) r bad is = inl (Faulty n (ap (fails Events) is) bad)
told units ticks bytes fault.Memory r bad is = inr (ap (fails Events) is)
