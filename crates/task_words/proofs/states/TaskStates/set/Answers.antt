use Rattle.std.proofs.Common.{◌∙◌, List, map, set, ℤ, ap}
use Rattle.std.proofs.lemmas.List.{map-set}
use Rattle.task_words.specs.States.{words_in}
use Rattle.task_words.proofs.states.TaskStates.set.Goals as goal

pub returns : goal.returns
returns c =
    let xs = c.self.inside.states.items in
    let i = c.args.task in
    map-set words_in xs i c.copy.new.state
    ∙ ap (λ (words : List ℤ). set (map words_in xs) i words) c.copy.ensures
    ∙ ap (λ (states : List (List ℤ)). set states i c.args.words.now) c.self.view_is
