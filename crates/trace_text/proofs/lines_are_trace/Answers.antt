use Rattle.trace_text.proofs.Laws.{lines_are_trace}
use Rattle.trace_text.proofs.lines_are_trace.Goals as goal

pub returns : goal.returns
returns c = lines_are_trace
