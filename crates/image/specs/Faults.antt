-- The first fault of bytes that aren't an image's.
use Rattle.std.specs.Prelude.{◌≡◌, ℕ, List, All, Ok, Err}
use Rattle.formats.specs.Format.{whole}
use Rattle.graph.specs.JobGraph.{JobGraph, IsJobGraph}
use Rattle.graph.specs.NetGraph.{IsNetGraphFor}
use Rattle.graph.specs.Sound.{IsSound}
use Rattle.tables.specs.declared.rule.TableRule.{TableRule}
use Rattle.tables.specs.Number.{number_of}
use Rattle.tables.specs.Valid.{IsFirstFault}
use Rattle.word_code.specs.Typing.{IsVerified}
use Rattle.plant.specs.Lengths.{lengths_of}
use Rattle.image_fields.specs.declared.parts.Parts.{Parts}
use Rattle.image_fields.specs.Image.{image}
use Rattle.image_sides.specs.First.{IsFirstUnverified}
use Rattle.image_plant.specs.Said.{net_of, codes_of, maxts_of, tables_of}
use Rattle.image.specs.declared.decoding.ImageFault.{ImageFault}
use Rattle.image.specs.declared.decoding.ImageFault.TheVariants as fault

-- the net is sound, and the code of the task of this number is the first that isn't verified
pub record HasBadCode (p : Parts) (number : ℕ) : Type 0 where
  pub sound : IsSound (net_of p)
  pub first : IsFirstUnverified (codes_of p) number

-- the net is sound and all codes are verified, and this is the number of the first rule that the tables fail
pub record HasBadTable (p : Parts) (number : ℕ) : Type 0 where
  pub sound : IsSound (net_of p)
  pub codes : All IsVerified (codes_of p)
  pub graph : JobGraph
  pub whole : IsJobGraph graph
  pub is : IsNetGraphFor (net_of p) (lengths_of (maxts_of p) p.shape.cycles_per_tick) graph
  pub rule : TableRule
  pub number_is : number ≡ number_of rule
  pub first : IsFirstFault (net_of p) graph (tables_of (net_of p) graph.cycle p) rule

-- the fields are refused. That an in or out cell is wider than 16 words, or a task has more than 16 of them, are rules of
-- a sound net.
abbrev pub Refuses : Parts → ImageFault → Type 0
Refuses p (fault.Bytes offset) = ⊥
Refuses p fault.Net = IsSound (net_of p) → ⊥
Refuses p (fault.Code number) = HasBadCode p number
Refuses p (fault.Table number) = HasBadTable p number
Refuses p fault.Memory = ⊥

-- the bytes say fields, and these are refused
abbrev pub SayRefused : List ℕ → ImageFault → Type 0
SayRefused bytes e = (p : Parts) × (whole image bytes ≡ Ok p) × Refuses p e

-- the first fault of bytes: a field that isn't whole or is refused by itself, or a byte after the last field; the net; a
-- code; a rule of the tables
abbrev pub IsFirstFaultOf : List ℕ → ImageFault → Type 0
IsFirstFaultOf bytes (fault.Bytes offset) = whole image bytes ≡ Err offset
IsFirstFaultOf bytes fault.Net = SayRefused bytes fault.Net
IsFirstFaultOf bytes (fault.Code number) = SayRefused bytes (fault.Code number)
IsFirstFaultOf bytes (fault.Table number) = SayRefused bytes (fault.Table number)
IsFirstFaultOf bytes fault.Memory = ⊥
