use Rattle.std.proofs.Common.{◌≡◌, ◌≤◌, ◌++◌, ℕ, List, drop}
use Rattle.std.specs.Io.KnownBytes.{append_known}
use Rattle.lines.specs.Gathered.{joined}
use Rattle.lines.proofs.pieces.put_pieces.Given as goal

abbrev pub invariant-loop-piece : goal.invariant-loop-piece
invariant-loop-piece g l = record {
  sent : List ℕ;
  whole : joined l.pieces ≡ sent ++ joined (drop l.piece-index l.pieces);
  stands : g.O.Sink.holds l.out ≡ append_known (g.O.Sink.holds l.fn.out) sent;
  later : g.O.Sink.faults l.fn.out ≤ g.O.Sink.faults l.out;
}
