-- The tasks of a project, from their files.
use Rattle.std.specs.Prelude.{◌≡◌, ◌≤◌, ℕ, List, [], ◌∷◌, ◌++◌, length, Option, Ok}
use Rattle.mars_base.specs.declared.file.File.{File}
use Rattle.mc_tree.specs.CheckedTask.{IsCheckedTask}
use Rattle.project_reader.specs.declared.project.TaskEntry.{TaskEntry}
use Rattle.stages.specs.Files.{FileIs}
use Rattle.stages.specs.Stage.{Stage, in_turn, judging, all}
use Rattle.task_source.specs.Bound.{IsBound, instructions_of}
use Rattle.task_source.specs.Built.{Built, IsBuilt, built}
use Rattle.task_source.specs.Source.{SourceIs}
use Rattle.task_source.specs.declared.built.BuiltTask.{BuiltTask}

-- one more task behind those that were read; to keep it takes memory
abbrev pub entry : List Built → TaskEntry → Stage (List Built)
entry done task = in_turn (built task.file) (λ b. judging (λ r. r ≡ Ok (done ++ (b ∷ []))))

-- the tasks of a project, each read from its own file, in the project's order
abbrev pub entries : List TaskEntry → Stage (List Built)
entries tasks = all entry [] tasks

-- a task stands in a file: the file's text is its source, its code isn't too long, and its bound is that of its code
pub record StandsIn (files : Option (List File)) (file : List ℕ) (b : Built) : Type 0 where
  pub bytes : List ℕ
  pub file_is : FileIs files file bytes
  pub short : length bytes ≤ 65536
  pub source_is : SourceIs bytes b.task
  pub bound : IsBound b.task b.maxt
  pub fits : instructions_of b.task ≤ 65535
  pub low : b.maxt ≤ 2147483647

-- each task of a project stands in its file
abbrev pub AreEntriesIn : Option (List File) → List TaskEntry → List Built → Type 0
AreEntriesIn files [] [] = Unit {0}
AreEntriesIn files [] (b ∷ rest) = ⊥
AreEntriesIn files (task ∷ tasks) [] = ⊥
AreEntriesIn files (task ∷ tasks) (b ∷ rest) = StandsIn files task.file b × AreEntriesIn files tasks rest

-- a task that was read: it is checked, and its code and its bound are its own
pub record IsRead (b : BuiltTask) : Type 0 where
  pub checked : IsCheckedTask b.task
  pub built : IsBuilt b
