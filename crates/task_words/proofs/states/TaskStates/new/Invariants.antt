use Rattle.std.proofs.Common.{◌≡◌, map, take}
use Rattle.task_words.specs.States.{words_in, first_states}
use Rattle.task_words.proofs.states.TaskStates.new.Given as goal

abbrev pub invariant-loop-count : goal.invariant-loop-count
invariant-loop-count l = map words_in l.states.items ≡ first_states (take l.count-index l.words)
