use Rattle.std.proofs.Common.{◌≡◌, ◌++◌, drop}
use Rattle.report_text.specs.Report.{maxt_lines}
use Rattle.report_text.proofs.text.append_tasks.Given as goal

-- what is written, and the lines that are left, are what was there and all lines
abbrev pub invariant-loop-place : goal.invariant-loop-place
invariant-loop-place l = l.text.items ++ maxt_lines (drop l.place l.tasks) (drop l.place l.maxts) ≡ l.initial.text.items ++ maxt_lines l.tasks l.maxts
