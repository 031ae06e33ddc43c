-- What the code's state of a check is as plain data.
use Rattle.std.specs.Prelude.{ℕ, List, Option, Some, None, map}
use Rattle.std.specs.Borrow.{Bor}
use Rattle.mc_check.specs.declared.names.Globals.{Globals}
use Rattle.mc_check.specs.declared.names.Locals.{Locals}
use Rattle.mc_check.specs.declared.names.Surroundings.{Surroundings}
use Rattle.indexmap.specs.IndexMap.{IndexMap}
use Rattle.mc_rules.specs.View.{text_of}
use Rattle.mc_tree.specs.Symbols.{Table}
use Rattle.mc_tree.specs.Sites.{Outside, Sofar, Around}

-- a symbol table of the code
abbrev pub table : {V S : Type 0} → IndexMap (Bor (List ℕ)) V S → Table V
table m = map (λ e. (e.0.now, e.1)) m.entries

abbrev pub outside : Globals → Outside
outside g = record { globals = table g.names; callees = table g.callees; current = g.current }

abbrev pub sofar : Locals → Sofar
sofar l = record { locals = table l.names; cells = l.cells; words = l.words; ports = l.ports; counters = l.counters }

abbrev pub around : Surroundings → Around
around a = record { scope = text_of a.scope; closed = a.closed; direct = a.direct }
