-- What an input in memory shows.
use Rattle.std.specs.Prelude.{List, ℕ, Bool, drop, ◌==◌}
use Rattle.std.specs.List.{list_any}
use Rattle.mars_base.specs.declared.source.MemSource.{MemSource}

-- the bytes that are left
abbrev pub rest_of : MemSource → List ℕ
rest_of m = drop m.at m.bytes.items

-- the numbers of the calls that fail
abbrev pub failing_of : MemSource → List ℕ
failing_of m = m.failing.items

-- how many calls there were
abbrev pub calls_of : MemSource → ℕ
calls_of m = m.calls

-- the next call fails
abbrev pub fails_next : MemSource → Bool
fails_next m = list_any (λ k. k == calls_of m) (failing_of m)

-- how many calls failed
abbrev pub faults_of : MemSource → ℕ
faults_of m = m.faults
