-- That a unit is lost exactly where its replicas are silent at the last tick.
use Rattle.std.specs.Prelude.{◌≡◌, ℕ, ◌<◌, List, get_or, Option, None}
use Rattle.mars_base.specs.declared.shape.Side.{Side}
use Rattle.script.specs.declared.script.Silence.{Silence}
use Rattle.cluster_model.specs.State.{replica_number}
use Rattle.cycle_text.specs.Lines.{numbered}
use Rattle.first_silence.specs.Moments.{IsFirstSilence}
use Rattle.first_silence.specs.declared.moment.Moment.{Moment}
use Rattle.run_texts.specs.RunText.{lost_text}
use Rattle.run_texts.specs.Setting.{Setting, is_lost, some_lost}
use Rattle.lost_units.specs.Lost.{is_lost_by, some_lost_by, line_of_lost}

-- the first silence of each replica, by its number
abbrev pub AreFirsts : List Silence → (units : ℕ) → List (Option Moment) → Type 0
AreFirsts silences units firsts = (unit : ℕ) (side : Side) → unit < units → IsFirstSilence silences unit side (get_or firsts (replica_number unit side) None)

-- what first silences say of a cycle is what the run text says of it
pub record AreLosses (s : Setting) (firsts : List (Option Moment)) (cycle : ℕ) : Type 0 where
  pub one : (unit : ℕ) → unit < s.net.shape.units → is_lost_by firsts s.graph.cycle cycle unit ≡ is_lost s cycle unit
  pub some : some_lost_by firsts s.graph.cycle cycle s.net.shape.units ≡ some_lost s cycle
  pub text : numbered (line_of_lost firsts s.graph.cycle cycle) s.net.shape.units ≡ lost_text s cycle

abbrev pub LossesAreText : Type 0
LossesAreText = (s : Setting) (firsts : List (Option Moment)) (cycle : ℕ) → 0 < s.graph.cycle → AreFirsts s.silences s.net.shape.units firsts → AreLosses s firsts cycle
