use Rattle.std.proofs.Common.{◌≡◌, ◌+◌, ◌-◌, ◌%◌, ◌^◌, ◌≤◌, ℕ, List, false, cond, ltb, length, get_or, replicate, ap, ◌∙◌, arith, w64}
use lib.Lanes.{zip2, sel_l}
use Rattle.std.proofs.lemmas.Simd.{tops_compared, length-zip2, get_or-sel_l, get_or-zip2, get_or-replicate, Each1-get_or}
use Rattle.maxplus.specs.MaxPlus.{cap}
use Rattle.maxplus.proofs.Choices.{cond_product}
use Rattle.maxplus.proofs.kernel.lane_products.Goals as goal

pub returns-clause-products : goal.returns-clause-products
returns-clause-products c k lt =
    let x = c.args.x in
    let es = c.args.entries in
    let zeros : List ℕ = replicate 4 0 in
    let less : List ℕ = replicate 4 (x - 1) in
    let add = λ (a b : ℕ). (a + b) % 2 ^ 64 in
    let sums = zip2 add es less in
    let four : length es ≡ 4 = omega arith in
    let long = length-zip2 ltb zeros es (omega arith) in
    let long_sums = length-zip2 add es less (omega arith) in
    let y = get_or es k 0 in
    let sum : get_or sums k 0 ≡ (y + (x - 1)) % 2 ^ 64 = get_or-zip2 add es less k 0 0 0 (omega arith) (omega arith) ∙ ap (λ z. (y + z) % 2 ^ 64) (get_or-replicate 4 k (x - 1) 0 lt) in
    let nothing : get_or zeros k 0 ≡ 0 = get_or-replicate 4 k 0 0 lt in
    let test = get_or-zip2 ltb zeros es k 0 0 false (omega arith) (omega arith) ∙ ap (λ z. ltb z y) nothing in
    let low : y ≤ cap = Each1-get_or (λ (y : ℕ). y ≤ cap) es k 0 (omega arith) c.requires.entries in
    ap (λ ms. get_or (sel_l ms sums zeros) k 0) (tops_compared w64 ltb zeros es)
    ∙ get_or-sel_l (zip2 ltb zeros es) sums zeros k 0 (omega arith) (omega arith) (omega arith)
    ∙ ap (λ t. cond t (get_or sums k 0) (get_or zeros k 0)) test
    ∙ ap (λ s. cond (ltb 0 y) s (get_or zeros k 0)) sum
    ∙ ap (λ z. cond (ltb 0 y) ((y + (x - 1)) % 2 ^ 64) z) nothing
    ∙ cond_product x y c.requires.some c.requires.x low
