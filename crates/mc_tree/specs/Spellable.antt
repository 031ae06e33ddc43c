-- What each tree that a text spells has, whatever its names and numbers are.
-- This project's own.
use Rattle.std.specs.Prelude.{◌≡◌, ◌≢◌, ◌<◌, List, [], ◌∷◌, Option, Some, None}
use Rattle.std.specs.List.{All}
use Rattle.mars_base.specs.declared.word.Role.TheVariants as role
use Rattle.mc_tree.specs.declared.raw.RawDecl.{RawDecl}
use Rattle.mc_tree.specs.Raw.{Func, Body, Task}
use Rattle.mc_tree.specs.RawSize.{raw_nodes}

-- these are declared as locals
abbrev pub AreLocals : List RawDecl → Type 0
AreLocals ds = All (λ (d : RawDecl). d.role ≡ role.Local) ds

abbrev pub FuncsHaveLocals : List Func → Type 0
FuncsHaveLocals [] = Unit {0}
FuncsHaveLocals (f ∷ fs) = AreLocals f.locals × FuncsHaveLocals fs

abbrev pub BodyHasLocals : Option Body → Type 0
BodyHasLocals None = Unit {0}
BodyHasLocals (Some b) = AreLocals b.locals

-- ports and states are declared by the task and locals by its routines, and the nodes are counted by 32 bits
pub record IsSpellable (t : Task) : Type 0 where
  pub globals : All (λ (d : RawDecl). d.role ≢ role.Local) t.decls
  pub funcs : FuncsHaveLocals t.funcs
  pub body : BodyHasLocals t.body
  pub size : raw_nodes t < 4294967296
