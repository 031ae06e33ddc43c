-- What stands after the image of a project was stored.
use Rattle.std.specs.Prelude.{◌≡◌, ◌≤◌, ℕ, List, length, map, Result, Ok}
use Rattle.std.specs.Io.KnownBytes.{append_known}
use Rattle.graph.specs.declared.net.Net.{Net}
use Rattle.image_carries.specs.Carry.{BytesCarry}
use Rattle.project_graph.specs.Source.{IsSourceOf}
use Rattle.project_plant.specs.Planned.{maxt_in, source_of}
use Rattle.refusals.specs.declared.refusal.Refusal.{Refusal}
use Rattle.report_text.specs.Report.{report_of}
use Rattle.stages.specs.Files.{FileIs}
use Rattle.stages.specs.World.{Held}
use Rattle.task_source.specs.Built.{Built}

-- The files before were a source project under PROJECT's name, and under IMAGE stand at most 4,194,304 bytes that carry
-- it. Where nothing was refused, the output has the report: the bound of each task and the number of bytes.
pub record HasStored (project image : List ℕ) (before now : Held) (answer : Result (Unit {0}) Refusal) : Type 0 where
  pub net : Net
  pub built : List Built
  pub source : IsSourceOf before.files project net built
  pub bytes : List ℕ
  pub short : length bytes ≤ 4194304
  pub stands : FileIs now.files image bytes
  pub carry : BytesCarry bytes (source_of net built)
  pub report : answer ≡ Ok tt → now.out ≡ append_known before.out (report_of net.tasks (map maxt_in built) (length bytes))
