-- An entry of an inbox as the program holds it.
use Rattle.std.specs.Prelude.{ℕ, List, length, ℤ, Option, None, Some, if◌then◌else◌}
use Rattle.replica_parts.specs.declared.inbox.Entry.{Entry}

abbrev pub entry_words : Entry → Option (List ℤ)
entry_words e = if e.is_there then Some e.words.items else None

abbrev pub entry_width : Entry → ℕ
entry_width e = length e.words.items
