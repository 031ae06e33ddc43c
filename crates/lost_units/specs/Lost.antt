-- Lost units by the first silences of their replicas. This project's own.
use Rattle.std.specs.Prelude.{ℕ, ◌+◌, ◌-◌, ◌*◌, ◌&&◌, Bool, if◌then◌else◌, List, [], get_or, Option, None}
use Rattle.std.specs.List.{range_with_len, list_any}
use Rattle.first_silence.specs.Moments.{is_reached}
use Rattle.first_silence.specs.declared.moment.Moment.{Moment}
use Rattle.run_texts.specs.Lines.{lost_line}

module _ (firsts : List (Option Moment)) (ticks cycle : ℕ) where
  -- both replicas of the unit are silent at the last tick of the cycle
  abbrev pub is_lost_by : (unit : ℕ) → Bool
  is_lost_by unit = is_reached (get_or firsts (2 * unit) None) cycle (ticks - 1) && is_reached (get_or firsts (2 * unit + 1) None) cycle (ticks - 1)

  abbrev pub some_lost_by : (units : ℕ) → Bool
  some_lost_by units = list_any is_lost_by (range_with_len 0 units)

  -- the line of a unit where it is lost
  abbrev pub line_of_lost : (unit : ℕ) → List ℕ
  line_of_lost unit = if is_lost_by unit then lost_line cycle unit else []
