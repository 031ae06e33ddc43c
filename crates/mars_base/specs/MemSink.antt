-- What an output in memory shows.
use Rattle.std.specs.Prelude.{List, ℕ, Bool, ◌-◌, ◌==◌, vec_len}
use Rattle.std.specs.List.{list_any}
use Rattle.mars_base.specs.declared.sink.MemSink.{MemSink}

-- the bytes that were put
abbrev pub bytes_of : MemSink → List ℕ
bytes_of m = m.bytes.items

-- how many more bytes fit
abbrev pub room_of : MemSink → ℕ
room_of m = m.room - vec_len m.bytes

-- the numbers of the calls that fail
abbrev pub failing_of : MemSink → List ℕ
failing_of m = m.failing.items

-- how many calls there were
abbrev pub calls_of : MemSink → ℕ
calls_of m = m.calls

-- the next call fails
abbrev pub fails_next : MemSink → Bool
fails_next m = list_any (λ k. k == calls_of m) (failing_of m)

-- how many calls failed
abbrev pub faults_of : MemSink → ℕ
faults_of m = m.faults
