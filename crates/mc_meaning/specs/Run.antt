-- What the parts of a task of the code do.
use Rattle.std.specs.Prelude.{ℕ, ℤ, List, ◌++◌, map, take, reverse, Option, Some, None}
use Rattle.mc_tree.specs.declared.tree.Task.{Task}
use Rattle.mc_tree.specs.Plain.{plain_func}
use Rattle.mc_tree.specs.Meaning.{After, Done, Broken, Back, run_all, params_at}

-- the places of a function's parameters
unfoldable pub params_of : Task → ℕ → List ℕ
params_of t g = params_at (map (plain_func t.cells) t.funcs) g

-- what a call does where the first n functions may be called
unfoldable pub calls_of : Task → ℕ → ℕ → List ℤ → Back
calls_of t n = run_all (params_of t) (reverse (take n (map (plain_func t.cells) t.funcs)))

-- what a statement left: the words, and the count of the innermost scope where it didn't break
abbrev pub after_of : List ℤ → Option ℕ → After
after_of words None = Broken
after_of words (Some count) = Done words count

-- more words behind those of a list, where there are more
abbrev pub behind : List ℤ → Option (List ℤ) → Option (List ℤ)
behind vs None = None
behind vs (Some ws) = Some (vs ++ ws)
