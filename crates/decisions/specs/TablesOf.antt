-- The tables of a list of decisions.
use Rattle.std.specs.Prelude.{ℕ, zero, suc, ◌==◌, List, [], ◌∷◌, ◌++◌, length, map, filter, Option, Some, None}
use Rattle.tables.specs.declared.table.JobEntry.{JobEntry}
use Rattle.tables.specs.declared.table.Message.{Message}
use Rattle.tables.specs.declared.table.Tables.{Tables}
use Rattle.tables.specs.Named.{no_entry}
use Rattle.decisions.specs.declared.placed.Sent.{Sent}
use Rattle.decisions.specs.declared.problem.Problem.{Problem}
use Rattle.decisions.specs.Decision.{Decision, work_at, decision_on}

abbrev pub entry_of : Option Decision → JobEntry
entry_of None = no_entry
entry_of (Some d) = record { job = d.job; unit = d.unit; start = d.start; end = d.end }

-- the entries of the jobs below n
abbrev pub entries_of : List Decision → (n : ℕ) → List JobEntry
entries_of l zero = []
entries_of l (suc job) = entries_of l job ++ entry_of (decision_on l job) ∷ []

abbrev pub sent_of : Option Decision → List Sent
sent_of None = []
sent_of (Some d) = d.sent

abbrev pub message_of : (instance : ℕ) → Sent → Message
message_of instance m = record { edge = m.edge; instance = instance; unit = m.unit; round = m.round; offset = m.offset }

-- the messages over an edge to one job
abbrev pub messages_to : Problem → List Decision → (edge job : ℕ) → List Message
messages_to pr l edge job = map (message_of (work_at pr job).instance) (filter (λ (m : Sent). m.edge == edge) (sent_of (decision_on l job)))

-- the messages over an edge to the jobs below n, which stand by task and then by instance
abbrev pub messages_over : Problem → List Decision → (edge n : ℕ) → List Message
messages_over pr l edge zero = []
messages_over pr l edge (suc job) = messages_over pr l edge job ++ messages_to pr l edge job

-- the messages over the edges below n
abbrev pub messages_of : Problem → List Decision → (n : ℕ) → List Message
messages_of pr l zero = []
messages_of pr l (suc edge) = messages_of pr l edge ++ messages_over pr l edge (length pr.works)

-- the tables of a list: an entry for each job, and the messages by edge and then by instance
abbrev pub tables_of : Problem → List Decision → Tables
tables_of pr l = record { jobs = entries_of l (length pr.works); messages = messages_of pr l pr.edges }
