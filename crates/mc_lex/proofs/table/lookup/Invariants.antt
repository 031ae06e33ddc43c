use Rattle.std.proofs.Common.{◌≡◌, drop, map}
use Rattle.mc_tree.specs.Lexeme.{in_table}
use Rattle.mc_lex.proofs.table.lookup.Given as goal

abbrev pub invariant-loop-row : goal.invariant-loop-row
invariant-loop-row g l = in_table (map (λ row. (row.0.now, row.1)) (drop l.row-index l.table)) l.word ≡ in_table (map (λ row. (row.0.now, row.1)) l.table) l.word
