use Rattle.std.proofs.Common.{subst}
use Rattle.graph.specs.declared.job.GraphFault.TheVariants.{CycleTooLong, TooManyJobs, TooManySensorWords}
use Rattle.graph.specs.GraphOf.{IsFaultOf}
use Rattle.graph.proofs.Within.{not_within}
use Rattle.image.proofs.judging.no_graph.Goals as goal

pub unreachable-requires : goal.unreachable-requires
unreachable-requires c =
    not_within c.args.net.now (CycleTooLong c.in-CycleTooLong.field-0) c.requires.sound.rules.entry_rules (subst (IsFaultOf c.args.net.now) c.in-CycleTooLong.is c.requires.fault) c.requires.sound.cycle c.requires.sound.limits

pub unreachable-requires-in-TooManyJobs : goal.unreachable-requires-in-TooManyJobs
unreachable-requires-in-TooManyJobs c =
    not_within c.args.net.now (TooManyJobs c.in-TooManyJobs.field-0) c.requires.sound.rules.entry_rules (subst (IsFaultOf c.args.net.now) c.in-TooManyJobs.is c.requires.fault) c.requires.sound.cycle c.requires.sound.limits

pub unreachable-requires-in-TooManySensorWords : goal.unreachable-requires-in-TooManySensorWords
unreachable-requires-in-TooManySensorWords c =
    not_within c.args.net.now (TooManySensorWords c.in-TooManySensorWords.field-0) c.requires.sound.rules.entry_rules (subst (IsFaultOf c.args.net.now) c.in-TooManySensorWords.is c.requires.fault) c.requires.sound.cycle c.requires.sound.limits
