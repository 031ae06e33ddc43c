-- What declarations stand where.
use Rattle.std.specs.Prelude.{ℕ, List, Option}
use Rattle.mars_base.specs.declared.word.Role.{Role}
use Rattle.mc_tree.specs.declared.token.Token.{Token}
use Rattle.mc_tree.specs.declared.raw.RawDecl.{RawDecl}
use Rattle.mc_reader.specs.declared.declaration.Place.{Place}
use Rattle.mc_reader.specs.declared.declaration.Place.TheVariants as P
use Rattle.mc_reader.specs.Reading.{Got}
use Rattle.mc_reader.specs.Readers.{listed, at_port, at_local, decl}

abbrev pub at_role : Place → Token → Option Role
at_role P.Task t = at_port t
at_role P.Routine t = at_local t

abbrev pub decls : List ℕ → Place → List Token → Got (List RawDecl)
decls bytes place ts = listed (at_role place) (decl bytes) ts
