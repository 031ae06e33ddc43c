use Rattle.std.proofs.Common.{◌≡◌, map, take, None}
use Rattle.std.specs.List.{All}
use Rattle.replica_parts.specs.Entries.{entry_words, entry_width}
use Rattle.replica_parts.proofs.inbox.Inbox.new.Given as goal

abbrev pub invariant-loop-width : goal.invariant-loop-width
invariant-loop-width l = record {
  widths : map entry_width l.entries.items ≡ take l.width-index l.widths;
  empty : All (λ e. entry_words e ≡ None) l.entries.items;
}
