-- When a plan is sound: what valid tables say of it.
use Rattle.std.specs.Prelude.{◌≡◌, ◌≢◌, ℕ, ◌+◌, ◌<◌, ◌≤◌, ◌⊎◌, List, length, ℤ, Option, Some}
use Rattle.mars_base.specs.declared.shape.Side.TheVariants.{A, B}
use Rattle.cluster_model.specs.Plan.{Plan, listed}
use Rattle.cluster_model.specs.State.{Status, given}
use Rattle.cluster_model.specs.Tick.{fed}

module _ (p : Plan) where
  -- the job that gives the words of an edge in an instance
  abbrev pub maker : (edge instance : ℕ) → ℕ
  maker edge instance = p.number (p.from edge) instance

  -- the job that gives the words of a message
  abbrev pub maker_of : (message : ℕ) → ℕ
  maker_of m = maker (p.edge_of m) (p.instance_of m)

  -- a message goes from its job's unit, in a round of the cycle, after the job
  pub record Crosses (m : ℕ) : Type 0 where
    pub round : p.round_of m < p.rounds
    pub made : maker_of m < p.jobs
    pub sender : p.sender m ≡ p.unit (maker_of m)
    pub early : p.ends (maker_of m) ≤ p.slot (p.round_of m) (p.sender m) A

  -- an edge's words come to a job of another unit by a message that it may use where it starts
  pub record ComesBy (job edge m : ℕ) : Type 0 where
    pub known : m < p.messages
    pub edge_is : p.edge_of m ≡ edge
    pub instance_is : p.instance_of m ≡ p.instance job
    pub receiver : p.receiver m ≡ p.unit job
    pub usable : p.usable (p.round_of m) (p.sender m) ≤ p.starts job

  -- an edge's words are there where the job starts
  pub record Serves (job edge : ℕ) : Type 0 where
    pub made : maker edge (p.instance job) < p.jobs
    pub way : ((p.unit (maker edge (p.instance job)) ≡ p.unit job) × (p.ends (maker edge (p.instance job)) ≤ p.starts job))
        ⊎ ((p.unit (maker edge (p.instance job)) ≢ p.unit job) × ComesBy job edge (p.message edge (p.instance job)))

  -- outputs that jobs have given are as long as those of these tasks
  abbrev pub AreGiven : (out_words : ℕ → ℕ) → (statuses : ℕ → Status) → Type 0
  AreGiven out_words statuses = (job : ℕ) (outs : List ℤ) → job < p.jobs → given (statuses job) ≡ Some outs → length outs ≡ out_words (p.task job)

  -- what a slot of a unit and a round lies between
  pub record IsSlot (round unit : ℕ) : Type 0 where
    pub a_first : p.slot round unit A ≤ p.slot round unit B
    pub a_usable : p.slot round unit A + p.words + p.skew ≤ p.usable round unit
    pub b_usable : p.slot round unit B + p.words + p.skew ≤ p.usable round unit
    pub inside : p.slot round unit B + p.words ≤ p.cycle

  pub record IsSoundPlan (out_words : ℕ → ℕ) : Type 0 where
    pub wide : 1 < p.words
    pub slots : (round unit : ℕ) → round < p.rounds → unit < p.units → IsSlot round unit
    -- a job has ticks, all in the cycle, and a unit of the cluster
    pub long : (job : ℕ) → job < p.jobs → p.starts job < p.ends job
    pub within : (job : ℕ) → job < p.jobs → p.ends job ≤ p.cycle
    pub placed : (job : ℕ) → job < p.jobs → p.unit job < p.units
    -- a job is that of its task and its instance
    pub task : (job : ℕ) → job < p.jobs → p.task job < p.tasks
    pub instance : (job : ℕ) → job < p.jobs → p.instance job < p.instances (p.task job)
    pub number : (job : ℕ) → job < p.jobs → p.number (p.task job) (p.instance job) ≡ job
    pub numbered : (task instance : ℕ) → task < p.tasks → instance < p.instances task →
        (p.number task instance < p.jobs) × (p.task (p.number task instance) ≡ task) × (p.instance (p.number task instance) ≡ instance)
    pub every : (task : ℕ) → task < p.tasks → 0 < p.instances task
    -- the jobs of a task are its unit's, and come one after another
    pub home : (job : ℕ) → job < p.jobs → p.home (p.task job) ≡ p.unit job
    pub later : (task i k : ℕ) → task < p.tasks → i < k → k < p.instances task → p.ends (p.number task i) ≤ p.starts (p.number task k)
    -- what a job takes depends on edges that serve it alone
    pub serves : (job : ℕ) (line : List ℤ) (look other : ℕ → Option (List ℤ)) → job < p.jobs
        → ((edge : ℕ) → Serves job edge → look edge ≡ other edge) → p.inputs line look job ≡ p.inputs line other job
    -- what an edge carries depends on the job that gives its words alone
    pub carries : (edge instance : ℕ) (one other : ℕ → Status) → one (maker edge instance) ≡ other (maker edge instance) → fed p one edge instance ≡ fed p other edge instance
    -- each message goes in time
    pub crosses : (m : ℕ) → m < p.messages → Crosses m
    -- a frame's words depend on its own messages alone, and say again what was put
    pub frame_same : (round unit : ℕ) (one other : ℕ → Option (List ℤ)) → ((m : ℕ) → m < p.messages → p.round_of m ≡ round → p.sender m ≡ unit → one m ≡ other m)
        → (word : ℕ) → p.frame_word round unit one word ≡ p.frame_word round unit other word
    pub frame_read : (m : ℕ) (statuses : ℕ → Status) → m < p.messages → AreGiven out_words statuses
        → p.read m (listed p.words (p.frame_word (p.round_of m) (p.sender m) (λ n. fed p statuses (p.edge_of n) (p.instance_of n)))) ≡ fed p statuses (p.edge_of m) (p.instance_of m)
