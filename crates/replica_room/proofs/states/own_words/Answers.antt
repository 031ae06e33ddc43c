use Rattle.std.proofs.Common.{ℕ, List, ◌∷◌, [], ◌++◌, sym, ◌∙◌, ap, arith}
use Rattle.std.proofs.lemmas.List.FromFn.{map-range_with_len_more}
use Rattle.replica_room.specs.Fresh.{own_words}
use Rattle.replica_room.proofs.states.own_words.Goals as goal

pub loop-task-preserved : goal.loop-task-preserved
loop-task-preserved c =
    let own : ℕ → ℕ = own_words c.args.net.now c.args.graph.now c.args.tables.now c.args.words.now c.args.unit in
    let k = c.loop-task.task in
    record {
      counts = c.in_ok-push.ensures.items
          ∙ ap (λ (ns : List ℕ). ns ++ c.words_of.result ∷ []) c.loop-task.invariant.counts
          ∙ ap (λ n. Rattle.cluster_model.specs.Plan.listed k own ++ n ∷ []) c.words_of.ensures
          ∙ sym (map-range_with_len_more own 0 k k (omega arith));
    }
