use Rattle.std.proofs.Common.{◌≡◌, ℕ, ◌<◌, List, Bor, map, take}
use Rattle.distinct_names.specs.Repeats.{Repeats}
use Rattle.distinct_names.proofs.repeat.first_repeat.Given as goal

abbrev pub invariant-loop-place : goal.invariant-loop-place
invariant-loop-place g l = record {
  seen : map (λ (k : Bor (List ℕ)). k.now) l.names.keys ≡ take l.place (map g.T.Named.name_of l.entries);
  fresh : (i : ℕ) → i < l.place → Repeats (map g.T.Named.name_of l.entries) i → ⊥;
}
