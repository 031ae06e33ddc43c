use Rattle.std.proofs.Common.{false, cond, ltb, length, get_or, ap, ◌∙◌, arith, w64}
use lib.Lanes.{zip2, sel_l}
use Rattle.std.proofs.lemmas.Simd.{tops_compared, length-zip2, length-sel_l, get_or-sel_l, get_or-zip2}
use Rattle.maxplus.proofs.Choices.{cond_max}
use Rattle.maxplus.proofs.kernel.lane_max.Goals as goal

pub returns : goal.returns
returns c =
    let a = c.args.a in
    let b = c.args.b in
    let long = length-zip2 ltb a b (omega arith) in
    let is = ap (λ ms. sel_l ms b a) (tops_compared w64 ltb a b) in
    record {
      four = ap length is ∙ omega (arith, length-sel_l (zip2 ltb a b) b a (omega arith) (omega arith));
      greater = λ k lt. ap (λ l. get_or l k 0) is ∙ get_or-sel_l (zip2 ltb a b) b a k 0 (omega arith) (omega arith) (omega arith)
          ∙ ap (λ t. cond t (get_or b k 0) (get_or a k 0)) (get_or-zip2 ltb a b k 0 0 false (omega arith) (omega arith))
          ∙ cond_max (get_or a k 0) (get_or b k 0);
    }
