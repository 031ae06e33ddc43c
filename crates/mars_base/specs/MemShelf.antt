-- What files in memory show.
use Rattle.std.specs.Prelude.{List, ℕ, Bool, ◌==◌}
use Rattle.std.specs.List.{list_any}
use Rattle.mars_base.specs.declared.file.File.{File}
use Rattle.mars_base.specs.declared.shelf.MemShelf.{MemShelf}

-- the files
abbrev pub files_of : MemShelf → List File
files_of m = m.files.items

-- the numbers of the calls that fail
abbrev pub failing_of : MemShelf → List ℕ
failing_of m = m.failing.items

-- how many calls there were, reads and writes together
abbrev pub calls_of : MemShelf → ℕ
calls_of m = m.calls

-- the next call fails
abbrev pub fails_next : MemShelf → Bool
fails_next m = list_any (λ k. k == calls_of m) (failing_of m)

-- how many reads failed, and how many writes
abbrev pub failed_reads_of : MemShelf → ℕ
failed_reads_of m = m.bad_reads

abbrev pub failed_writes_of : MemShelf → ℕ
failed_writes_of m = m.bad_writes
