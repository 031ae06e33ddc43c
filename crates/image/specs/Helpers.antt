-- What the writers of a plant's fields ask for, and how far an image is judged. Only the contracts of private functions
-- cite this.
use Rattle.std.specs.Prelude.{◌≡◌, ℕ, ◌<◌, ◌^◌, List, [], All, length, get_or}
use Rattle.graph.specs.declared.net.NetTask.{NetTask}
use Rattle.graph.specs.JobGraph.{JobGraph}
use Rattle.graph.specs.Sound.{IsSound}
use Rattle.tables.specs.declared.table.JobEntry.{JobEntry}
use Rattle.tables.specs.declared.table.Message.{Message}
use Rattle.tables.specs.Named.{job_at}
use Rattle.word_code.specs.declared.code.Code.{Code}
use Rattle.plant.specs.declared.system.Plant.{Plant}
use Rattle.image_fields.specs.declared.parts.Parts.{Parts}
use Rattle.image_tasks.specs.declared.parts.TaskPart.{TaskPart}
use Rattle.image_plant.specs.Fields.{task_part}
use Rattle.image_plant.specs.Said.{net_of, codes_of, maxts_of}
use Rattle.word_code.specs.Typing.{IsVerified}
use Rattle.image_fields.specs.Image.{image}
use Rattle.image.specs.declared.judging.Checked.{Checked}
use Rattle.image.specs.declared.judging.Taken.{Taken}

-- the entry's job is there, and the number of its instance fits two bytes
pub record HasShortJob (g : JobGraph) (e : JobEntry) : Type 0 where
  pub there : e.job < length g.jobs
  pub short : (job_at g e.job).instance < 65536

-- the numbers of the message's instance and round fit two bytes
pub record HasShortNumbers (m : Message) : Type 0 where
  pub instance : m.instance < 65536
  pub round : m.round < 65536

-- each of the few tasks has a bound and code
pub record HasSides (plant : Plant Code) : Type 0 where
  pub maxts : length plant.maxts ≡ length plant.net.tasks
  pub programs : length plant.programs ≡ length plant.net.tasks
  pub few : length plant.net.tasks < 2 ^ 8

abbrev pub no_task : NetTask
no_task = record { name = []; transaction = 0; units = 0; ins = []; outs = [] }

abbrev pub no_code : Code
no_code = record { starts = []; instrs = []; places = 0; counters = 0; cells = [] }

-- the fields of the task at a place, with its bound and its code
abbrev pub part_in : List NetTask → List ℕ → List Code → (place : ℕ) → TaskPart
part_in ts ms cs place = task_part (get_or ts place no_task) (get_or ms place 0) (get_or cs place no_code)

-- the fields taken apart, with a sound net
pub record IsTaken (p : Parts) (taken : Taken) : Type 0 where
  pub net : taken.net ≡ net_of p
  pub sound : IsSound (net_of p)
  pub codes : taken.codes.items ≡ codes_of p
  pub maxts : taken.maxts ≡ maxts_of p
  pub jobs : taken.jobs ≡ p.jobs
  pub messages : taken.messages ≡ p.messages

-- the fields, which fit, taken apart, with a sound net and verified codes
pub record IsChecked (p : Parts) (checked : Checked) : Type 0 where
  pub fits : image.fits p
  pub net : checked.net ≡ net_of p
  pub sound : IsSound (net_of p)
  pub programs : checked.programs ≡ codes_of p
  pub verified : All IsVerified (codes_of p)
  pub maxts : checked.maxts ≡ maxts_of p
  pub jobs : checked.jobs ≡ p.jobs
  pub messages : checked.messages ≡ p.messages
