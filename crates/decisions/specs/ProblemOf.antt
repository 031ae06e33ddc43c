-- What is to be placed for a net and its graph.
use Rattle.std.specs.Prelude.{ℕ, zero, suc, ◌+◌, List, [], ◌∷◌, ◌++◌, length, map, slice_index}
use Rattle.graph.specs.declared.net.Net.{Net}
use Rattle.graph.specs.JobGraph.{JobGraph}
use Rattle.graph.specs.Jobs.{job_number}
use Rattle.graph.specs.Net.{units_of, width_of}
use Rattle.graph.specs.Feeders.{in_edges}
use Rattle.tables.specs.Named.{edge_at, job_at}
use Rattle.tables.specs.Valid.{bus_of}
use Rattle.decisions.specs.declared.problem.Feed.{Feed}
use Rattle.decisions.specs.declared.problem.Work.{Work}
use Rattle.decisions.specs.declared.problem.Problem.{Problem}

-- an edge as a feed of an instance: the same instance of its first task gives the words, behind a word of presence
abbrev pub feed_of : Net → JobGraph → (instance edge : ℕ) → Feed
feed_of net g instance edge = record { edge = edge; producer = job_number net g.cycle (edge_at net edge).from_task instance; words = 1 + width_of net (edge_at net edge) }

-- the job of a number
abbrev pub work_of : Net → JobGraph → (number : ℕ) → Work
work_of net g number =
    let job = job_at g number in record {
      task = job.task;
      instance = job.instance;
      release = job.release;
      deadline = job.deadline;
      length = job.length;
      remaining = slice_index g.remaining number;
      units = units_of net job.task;
      feeds = map (feed_of net g job.instance) (in_edges net job.task);
    }

-- the jobs below n
abbrev pub works_of : Net → JobGraph → (n : ℕ) → List Work
works_of net g zero = []
works_of net g (suc number) = works_of net g number ++ work_of net g number ∷ []

abbrev pub problem_of : Net → JobGraph → Problem
problem_of net g = record { round = bus_of net g; edges = length net.edges; works = works_of net g (length g.jobs) }
