use Rattle.std.proofs.Common.{take}
use Rattle.first_silence.specs.Moments.{IsFirstSilence}
use Rattle.first_silence.proofs.moment.first_silence.Given as goal

abbrev pub invariant-loop-silence : goal.invariant-loop-silence
invariant-loop-silence l = IsFirstSilence (take l.silence-index l.silences) l.unit l.side l.first
