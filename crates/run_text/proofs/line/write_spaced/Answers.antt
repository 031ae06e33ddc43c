use Rattle.std.proofs.Common.{[], ◌++◌, sym, ap, List, ℕ}
use Rattle.std.proofs.lemmas.List.{append-nil}
use Rattle.lines.proofs.Gather.{front_of_front}
use Rattle.run_text.specs.Helpers.{out_tail}
use Rattle.run_text.proofs.line.write_spaced.Goals as goal

pub returns-in-Err-clause-bytes : goal.returns-in-Err-clause-bytes
returns-in-Err-clause-bytes g c base text gathered =
    let line = out_tail c.args.words.now in
    front_of_front base (text ++ []) line (text ++ line) (g.O.Sink.holds c.make_room.new.out) (ap (λ (t : List ℕ). t ++ line) (sym (append-nil text))) ((c.in-Err.ensures {u = tt}).bytes base text gathered)
