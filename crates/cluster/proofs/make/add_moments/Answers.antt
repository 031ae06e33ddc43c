use Rattle.std.proofs.Common.{◌∙◌, ◌++◌, [], ◌∷◌, ap}
use Rattle.cluster.proofs.First.{firsts_more}
use Rattle.cluster.proofs.make.add_moments.Goals as goal

pub returns : goal.returns
returns c =
    firsts_more c.args.silences.now c.args.unit c.args.firsts.now.items c.push-2.new.self.items c.first_silence.result c.first_silence-2.result
    c.requires c.first_silence.ensures c.first_silence-2.ensures
    (c.in_ok-push-2.ensures.items ∙ ap (λ xs. xs ++ c.first_silence-2.result ∷ []) c.in_ok-push.ensures.items)
