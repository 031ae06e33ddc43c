-- A name as a field: a byte of length, and so many bytes that have the form of a name.
use Rattle.std.specs.Prelude.{ℕ, List}
use Rattle.formats.specs.Format.{Format, short_text}
use Rattle.mars_base.specs.Name.{is_name}

abbrev pub name : Format (List ℕ)
name = short_text is_name
