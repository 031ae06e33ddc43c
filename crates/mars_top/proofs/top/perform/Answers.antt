use Rattle.mars_top.proofs.Asks.{acts_as}
use Rattle.mars_top.specs.declared.asked.Asked.TheVariants as asked
use Rattle.mars_top.proofs.top.perform.Goals as goal

pub returns-in-Task : goal.returns-in-Task
returns-in-Task g c = acts_as c.args.command (asked.Task c.in-Task.file) _ _ _ _ _ c.in-Task.is (c.run_task.ensures.answer, c.run_task.ensures.promises)

pub returns-in-Plan : goal.returns-in-Plan
returns-in-Plan g c = acts_as c.args.command (asked.Plan c.in-Plan.project c.in-Plan.budget) _ _ _ _ _ c.in-Plan.is (c.run_plan.ensures.answer _ _, c.run_plan.ensures.promises _ _)

pub returns-in-Show : goal.returns-in-Show
returns-in-Show g c = acts_as c.args.command (asked.Show c.in-Show.file) _ _ _ _ _ c.in-Show.is (c.run_show.ensures.answer _ _, c.run_show.ensures.promises _ _)

pub returns-in-Build : goal.returns-in-Build
returns-in-Build g c = acts_as c.args.command (asked.Build c.in-Build.project c.in-Build.budget c.in-Build.image) _ _ _ _ _ c.in-Build.is (c.run_build.ensures.answer _ _, c.run_build.ensures.promises _ _)
