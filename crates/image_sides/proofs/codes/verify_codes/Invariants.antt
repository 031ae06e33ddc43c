use Rattle.std.proofs.Common.{◌≡◌, ◌++◌, All}
use Rattle.word_code.specs.Typing.{IsVerified}
use Rattle.image_sides.proofs.codes.verify_codes.Given as goal

abbrev pub invariant-loop-code : goal.invariant-loop-code
invariant-loop-code l = record {
  same : l.verified ≡ l.yielded;
  each : All IsVerified l.yielded;
  parts : l.fn.codes.items ≡ l.yielded ++ l.code-iterator.rest.items;
}
