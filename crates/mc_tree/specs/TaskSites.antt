-- The sites of declarations, functions and the task in the order of the text, and the task's first fault.
-- This project's own language.
use Rattle.std.specs.Prelude.{ℕ, ◌+◌, false, Option, Some, None, List, [], ◌∷◌, ◌++◌, min, length, map}
use Rattle.mars_base.specs.declared.word.Role.{Role}
use Rattle.mars_base.specs.declared.word.Role.TheVariants as role
use Rattle.mc_tree.specs.declared.kind.Fault.{Fault}
use Rattle.mc_tree.specs.declared.raw.Name.{Name}
use Rattle.mc_tree.specs.declared.raw.RawDecl.{RawDecl}
use Rattle.mc_tree.specs.declared.raw.RawNumber.{RawNumber}
use Rattle.mc_tree.specs.declared.symbol.Symbol.{Symbol}
use Rattle.mc_tree.specs.declared.symbol.Symbol.TheVariants as symbol
use Rattle.mc_tree.specs.declared.symbol.Callee.{Callee}
use Rattle.mc_tree.specs.Symbols.{Table, look, declare, is_some}
use Rattle.mc_tree.specs.Raw.{Func, Body, Task, span_of}
use Rattle.mc_tree.specs.Rules.{Site, Declares, Widths, Adds, Needs, Ends, first}
use Rattle.mc_tree.specs.Sites.{Outside, Sofar, Around, means, need, ex_sites, bl_sites, bl_after}

-- a declaration
abbrev pub width_of : Option RawNumber → ℕ
width_of None = 1
width_of (Some n) = n.value

abbrev pub ports_of : Role → ℕ
ports_of role.In = 1
ports_of role.Out = 1
ports_of role.State = 0
ports_of role.Local = 0

abbrev pub decl_sites : Outside → Sofar → RawDecl → List Site
decl_sites o f d =
    Declares d.name (is_some (means o f.locals d.name)) ∷ Widths d.role d.width ∷ Adds d.name 4096 f.words (width_of d.width) ∷ Adds d.name 16 f.ports (ports_of d.role) ∷ []

abbrev pub decl_after : RawDecl → Sofar → Sofar
decl_after d f = record {
  locals = declare d.name.text (symbol.Cell f.cells (width_of d.width)) f.locals;
  cells = min (f.cells + 1) 4097;
  words = min (f.words + width_of d.width) 4097;
  ports = min (f.ports + ports_of d.role) 17;
  counters = f.counters;
}

abbrev pub decls_sites : Outside → Sofar → List RawDecl → List Site
decls_sites o f [] = []
decls_sites o f (d ∷ ds) = decl_sites o f d ++ decls_sites o (decl_after d f) ds

abbrev pub decls_after : List RawDecl → Sofar → Sofar
decls_after [] f = f
decls_after (d ∷ ds) f = decls_after ds (decl_after d f)

-- a parameter is declared as a local of one word
abbrev pub param_of : Name → RawDecl
param_of n = record { role = role.Local; name = n; width = None }

-- nothing stands around a routine's statements
abbrev pub no_around : Around
no_around = record { scope = None; closed = false; direct = false }

abbrev pub enter : Sofar → Sofar
enter f = record { locals = []; cells = f.cells; words = f.words; ports = f.ports; counters = f.counters }

-- a function's own sites, in its own names
abbrev pub fn_sites : Outside → Sofar → Func → List Site
fn_sites o f g =
    decls_sites o f (map param_of g.params)
    ++ (decls_sites o (decls_after (map param_of g.params) f) g.locals
    ++ (bl_sites o no_around (decls_after g.locals (decls_after (map param_of g.params) f)) g.body
    ++ (Needs (span_of g.answer) (need g.answer) ∷ ex_sites o (bl_after g.body (decls_after g.locals (decls_after (map param_of g.params) f))).locals g.answer)))

abbrev pub fn_after : Func → Sofar → Sofar
fn_after g f = bl_after g.body (decls_after g.locals (decls_after (map param_of g.params) f))

-- the functions of a file, the first of a name counts
abbrev pub callees_from : ℕ → List Func → Table Callee → Table Callee
callees_from i [] t = t
callees_from i (g ∷ gs) t = callees_from (i + 1) gs (declare g.name.text (record { number = i; params = length g.params }) t)

-- a function sees itself
abbrev pub with_function : Table Callee → Table Symbol → ℕ → Func → Outside
with_function callees globals i g = record { globals = declare g.name.text symbol.Func globals; callees = callees; current = i }

abbrev pub named_fn_sites : Table Callee → Table Symbol → ℕ → Sofar → Func → List Site
named_fn_sites callees globals i f g =
    Declares g.name (is_some (look g.name.text globals)) ∷ Adds g.name 16 i 1 ∷ fn_sites (with_function callees globals i g) (enter f) g

abbrev pub fns_sites : Table Callee → Table Symbol → ℕ → Sofar → List Func → List Site
fns_sites callees globals i f [] = []
fns_sites callees globals i f (g ∷ gs) =
    named_fn_sites callees globals i f g
    ++ fns_sites callees (declare g.name.text symbol.Func globals) (i + 1) (fn_after g (enter f)) gs

abbrev pub fns_after : List Func → Sofar → Sofar
fns_after [] f = f
fns_after (g ∷ gs) f = fns_after gs (fn_after g (enter f))

abbrev pub with_functions : List Func → Table Symbol → Table Symbol
with_functions [] t = t
with_functions (g ∷ gs) t = with_functions gs (declare g.name.text symbol.Func t)

abbrev pub body_sites : Outside → Sofar → ℕ → Option Body → List Site
body_sites o f end None = Ends end ∷ []
body_sites o f end (Some b) = decls_sites o f b.locals ++ bl_sites o no_around (decls_after b.locals f) b.body

abbrev pub nothing : Outside
nothing = record { globals = []; callees = []; current = 0 }

abbrev pub at_first : Sofar
at_first = record { locals = []; cells = 0; words = 0; ports = 0; counters = 0 }

-- the functions and the body, after these globals
abbrev pub routine_sites : Table Callee → Table Symbol → Sofar → Task → List Site
routine_sites callees globals f t =
    fns_sites callees globals 0 f t.funcs
    ++ body_sites (record { globals = with_functions t.funcs globals; callees = callees; current = length t.funcs }) (enter (fns_after t.funcs f)) t.end t.body

abbrev pub sites_after : Sofar → Task → List Site
sites_after f t = routine_sites (callees_from 0 t.funcs []) f.locals (enter f) t

abbrev pub task_sites : Task → List Site
task_sites t = decls_sites nothing at_first t.decls ++ sites_after (decls_after t.decls at_first) t

-- the first fault of a task
abbrev pub first_fault : Task → Option Fault
first_fault t = first (task_sites t)
