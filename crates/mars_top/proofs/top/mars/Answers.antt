use Rattle.mars_top.proofs.Asks.{performed, ran_as, usage_only, usage_always}
use Rattle.mars_top.proofs.top.mars.Goals as goal

pub returns-clause-replies : goal.returns-clause-replies
returns-clause-replies g c =
    performed _ _ _ _ c.status.result c.perform-answer.result c.read_words.ensures c.status.ensures c.perform-answer.ensures c.say.ensures

pub returns-clause-usage : goal.returns-clause-usage
returns-clause-usage g c = (usage_only _ _ _ c.status.result (returns-clause-replies g c), usage_always _ _ _ c.status.result (returns-clause-replies g c))

pub returns-clause-ran : goal.returns-clause-ran
returns-clause-ran g c = ran_as _ _ _ c.status.result (returns-clause-replies g c)
