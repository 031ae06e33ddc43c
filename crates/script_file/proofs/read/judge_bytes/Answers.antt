use Rattle.std.proofs.Common.{inl, refl}
use Rattle.script_file.proofs.Once.{told}
use Rattle.script_file.specs.Gives.{Said}
use Rattle.script_reader.specs.Reading.{events_of}
use Rattle.script_file.proofs.read.judge_bytes.Goals as goal

pub returns-in-Ok : goal.returns-in-Ok
returns-in-Ok c = let ok = c.in-Ok.ensures {u = tt} in inl (Said (events_of c.in-Ok.script) refl ok)

pub returns-in-Err : goal.returns-in-Err
returns-in-Err c = told c.args.units c.args.ticks c.args.bytes.now c.in-Err.fault c.refusal_of.result (c.in-Err.ensures {u = tt}) c.refusal_of.ensures
