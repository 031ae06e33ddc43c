use Rattle.std.proofs.Common.{◌≡◌, ◌-◌}
use Rattle.formats.specs.Format.{read_times}
use Rattle.image_parts.proofs.Loop.{with_front}
use Rattle.image_parts.proofs.reading.read_times.Given as goal

abbrev pub invariant-loop : goal.invariant-loop
invariant-loop g l = with_front l.entries.items (read_times (g.T.Readable.format).reads (l.count - l.counter) l.rest) ≡ read_times (g.T.Readable.format).reads l.count l.bytes
