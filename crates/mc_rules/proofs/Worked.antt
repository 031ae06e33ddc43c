-- Faults of small tasks, by computing.
use Rattle.std.proofs.Common.{◌≡◌, ℕ, ◌+◌, List, [], ◌∷◌, Option, Some, None, refl}
use Rattle.mars_base.specs.declared.text.Span.{Span}
use Rattle.mars_base.specs.declared.word.Role.TheVariants as role
use Rattle.mc_tree.specs.declared.kind.Kind.{Kind}
use Rattle.mc_tree.specs.declared.kind.Kind.TheVariants as kind
use Rattle.mc_tree.specs.declared.raw.Name.{Name}
use Rattle.mc_tree.specs.declared.raw.RawNumber.{RawNumber}
use Rattle.mc_tree.specs.declared.raw.RawDecl.{RawDecl}
use Rattle.mc_tree.specs.declared.kind.Fault.{Fault}
use Rattle.mc_tree.specs.Raw.{Ex, Num, Cell, St, Set, SetAt, While, Scope, Mark, Sequence, Bl, Nil, Then, Task}
use Rattle.mc_tree.specs.TaskSites.{first_fault}

abbrev span : ℕ → ℕ → Span
span a b = record { from = a; to = b }

abbrev name : ℕ → ℕ → Name
name c a = record { text = c ∷ []; span = span a (a + 1) }

abbrev out_y : RawDecl
out_y = record { role = role.Out; name = name 121 12; width = None }

abbrev with_body : List RawDecl → Bl → Task
with_body ds b = record { name = name 116 5; decls = out_y ∷ ds; funcs = []; body = Some (record { locals = []; body = b }); end = 60 }

abbrev fault_of : Kind → ℕ → ℕ → Option Fault
fault_of k a b = Some (record { kind = k; span = span a b })

abbrev number : ℕ → ℕ → ℕ → RawNumber
number v a b = record { value = v; span = span a b }

-- task t; out y; in y; body { }
twice : first_fault (with_body (record { role = role.In; name = name 121 18; width = None } ∷ []) Nil) ≡ fault_of kind.TwiceNamed 18 19
twice = refl

-- task t; out y; body { y = z; }
unknown : first_fault (with_body [] (Then (Set (name 121 22) (Cell (name 122 26)) (span 22 28)) Nil)) ≡ fault_of kind.UnknownName 26 27
unknown = refl

-- task t; out y; body { y[0] = 1; }
not_array : first_fault (with_body [] (Then (SetAt (name 121 22) (Num (number 0 24 25)) (Num (number 1 29 30)) (span 22 31)) Nil)) ≡ fault_of kind.NotAnArray 22 23
not_array = refl

-- task t; out y; body { while max 0 (y) { } }
zero_bound : first_fault (with_body [] (Then (While (number 0 32 33) (Cell (name 121 35)) Nil (span 22 41)) Nil)) ≡ fault_of kind.ZeroBound 32 33
zero_bound = refl

-- task t; out y; body { scope M max 1024 { } }
large_bound : first_fault (with_body [] (Then (Scope (name 77 28) (number 1024 34 38) Nil (span 22 42)) Nil)) ≡ fault_of kind.BoundTooLarge 34 38
large_bound = refl

-- task t; out y; body { sequence max 2 { y = 1; } }
not_loop : first_fault (with_body [] (Then (Sequence (number 2 35 36) (Then (Set (name 121 39) (Num (number 1 43 44)) (span 39 45)) Nil) (span 22 47)) Nil)) ≡ fault_of kind.NotALoop 39 45
not_loop = refl

-- a mark in a loop of a sequence inside its scope
crossing : first_fault (with_body [] (Then (Scope (name 77 28) (number 9 34 35) (Then (Sequence (number 2 40 41) (Then (While (number 3 44 45) (Cell (name 121 46)) (Then (Mark (name 77 50) (span 48 52)) Nil) (span 42 53)) Nil) (span 38 54)) Nil) (span 22 55)) Nil))
    ≡ fault_of kind.MarkOfAnOuterScope 50 51
crossing = refl

-- task t;
no_body : first_fault (record { name = name 116 5; decls = []; funcs = []; body = None; end = 7 }) ≡ fault_of kind.NoBody 7 7
no_body = refl

-- a good one
good : first_fault (with_body [] (Then (Set (name 121 22) (Cell (name 121 26)) (span 22 28)) Nil)) ≡ None
good = refl
