-- What an instance that was run gives, as plain data.
use Rattle.std.specs.Prelude.{Bool, true, false}
use Rattle.mars_base.specs.declared.word.Role.{Role}
use Rattle.mars_base.specs.declared.word.Role.TheVariants as role
use Rattle.mc_tree.specs.Instance.{Gives, Breaks, is_in, is_out, is_state}
use Rattle.mc_tree.specs.Instance as instance
use Rattle.mc_meaning.specs.declared.instance.Outcome.{Outcome}
use Rattle.mc_meaning.specs.declared.instance.Outcome.TheVariants.{Done, Broken}

abbrev pub plain_outcome : Outcome → instance.Outcome
plain_outcome (Done state outs) = Gives state outs
plain_outcome Broken = Breaks

abbrev pub is_local : Role → Bool
is_local role.In = false
is_local role.Out = false
is_local role.State = false
is_local role.Local = true

-- whether a cell has a role
abbrev pub has_role : Role → Role → Bool
has_role role.In = is_in
has_role role.Out = is_out
has_role role.State = is_state
has_role role.Local = is_local
