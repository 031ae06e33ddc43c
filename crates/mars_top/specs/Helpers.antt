-- What the contracts of helpers cite; no public clause does.
use Rattle.std.specs.Prelude.{◌≡◌, Option, None, Some, Result, Err}
use Rattle.mars_top.specs.Command.{Command, stage_of}
use Rattle.mars_top.specs.Replies.{Promises}
use Rattle.refusals.specs.Causes.{Counts}
use Rattle.refusals.specs.declared.refusal.Refusal.{Refusal}
use Rattle.refusals.specs.declared.refusal.Refusal.TheVariants as refusal
use Rattle.stages.specs.Stage.{Does}
use Rattle.stages.specs.World.{Held}

-- words that are no command are refused as such, and nothing changes; a command does its stages
abbrev pub Acts : Option Command → Held → Held → Counts → Counts → Result (Unit {0}) Refusal → Type 0
Acts None before now counts counts' answer = (answer ≡ Err refusal.Usage) × (now ≡ before) × (counts' ≡ counts)
Acts (Some command) before now counts counts' answer = Does (stage_of command) before now counts counts' answer × Promises command before now counts counts' answer
