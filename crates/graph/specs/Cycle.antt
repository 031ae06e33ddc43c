-- The length of a cycle, and how much a cycle holds.
use Rattle.std.specs.Prelude.{◌≡◌, ℕ, zero, suc, ◌*◌, ◌+◌, ◌<◌, ◌≤◌, ◌%◌, List, ◌∷◌, [], length, take, All, slice_index}
use Rattle.graph.specs.declared.net.Net.{Net}
use Rattle.graph.specs.declared.net.Plug.{Plug}
use Rattle.graph.specs.Net.{cycle_parts, instances, ins_of}

-- a number divides another
abbrev pub Divides : ℕ → ℕ → Type 0
Divides n multiple = multiple % n ≡ 0

-- the least common multiple: each number divides it, and it divides all that each number divides
pub record IsLeastMultiple (numbers : List ℕ) (multiple : ℕ) : Type 0 where
  pub common : All (λ n. Divides n multiple) numbers
  pub least : (other : ℕ) → All (λ n. Divides n other) numbers → Divides multiple other

-- a cycle of the net has so many ticks: the least common multiple of the round and the periods
abbrev pub IsCycle : Net → ℕ → Type 0
IsCycle net cycle = IsLeastMultiple (cycle_parts net) cycle

-- the first value past 65,536, where the round and then the periods are taken in order
pub record IsFirstPast (net : Net) (value : ℕ) : Type 0 where
  pub place : ℕ
  pub in_parts : place < length (cycle_parts net)
  pub multiple : IsLeastMultiple (take (place + 1) (cycle_parts net)) value
  pub past : 65536 < value
  pub first : (k before : ℕ) → k < place → IsLeastMultiple (take (k + 1) (cycle_parts net)) before → before ≤ 65536

-- the jobs of the tasks before a task, which is the number of its first job
abbrev pub first_job : Net → (cycle task : ℕ) → ℕ
first_job net cycle zero = 0
first_job net cycle (suc task) = first_job net cycle task + instances net cycle task

-- the jobs of a cycle
abbrev pub job_count : Net → (cycle : ℕ) → ℕ
job_count net cycle = first_job net cycle (length net.tasks)

-- the words of a sensor in a cycle: those of its port for each instance
abbrev pub words_of_sensor : Net → (cycle : ℕ) → Plug → ℕ
words_of_sensor net cycle s = slice_index (ins_of net s.task) s.port * instances net cycle s.task

-- the words of some sensors in a cycle
abbrev pub words_of_sensors : Net → (cycle : ℕ) → List Plug → ℕ
words_of_sensors net cycle [] = 0
words_of_sensors net cycle (s ∷ sensors) = words_of_sensor net cycle s + words_of_sensors net cycle sensors

-- the words of all sensors in a cycle
abbrev pub sensor_words : Net → (cycle : ℕ) → ℕ
sensor_words net cycle = words_of_sensors net cycle net.sensors

-- a cycle has at most 65,536 ticks, 512 jobs and 4,096 sensor words
pub record IsWithinLimits (net : Net) (cycle : ℕ) : Type 0 where
  pub is_cycle : IsCycle net cycle
  pub ticks : cycle ≤ 65536
  pub jobs : job_count net cycle ≤ 512
  pub words : sensor_words net cycle ≤ 4096
