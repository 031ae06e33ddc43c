use Rattle.std.proofs.Common.{◌≡◌, ◌+◌, ◌-◌, ◌≤◌, ℕ, max, get_or, ap, ◌∙◌, arith}
use lib.Lanes.{chunk, put_chunk}
use Rattle.std.proofs.lemmas.Simd.{length-chunk, get_or-chunk, get_or-put_chunk_below, get_or-put_chunk_at, get_or-put_chunk_above, Each1-from_get_or}
use Rattle.maxplus.specs.MaxPlus.{product, cap}
use Rattle.maxplus.proofs.kernel.raise_lanes.Goals as goal

pub lane_products-products-requires-clause-entries : goal.lane_products-products-requires-clause-entries
lane_products-products-requires-clause-entries c =
    let b = c.args.b.now in
    let j = c.args.j in
    let long = length-chunk j 4 b c.requires.room in
    Each1-from_get_or (λ (y : ℕ). y ≤ cap) (chunk j 4 b) 0 (λ k lt.
    let at = get_or-chunk j 4 b k 0 (omega arith) in
    let low = c.requires.b (j + k) (omega arith) in
    omega (arith, at, low))

pub returns-clause-below : goal.returns-clause-below
returns-clause-below c k lt = get_or-put_chunk_below (c.args.start + c.args.j) c.args.out.now c.lane_max-raised.result k 0 lt

pub returns-clause-lanes : goal.returns-clause-lanes
returns-clause-lanes c k le lt =
    let out = c.args.out.now in
    let b = c.args.b.now in
    let at = c.args.start + c.args.j in
    let new = c.lane_max-raised.result in
    let m = k - at in
    let four = c.lane_max-raised.ensures.four in
    let back : at + m ≡ k = omega arith in
    let from : c.args.j + m ≡ k - c.args.start = omega arith in
    let a : get_or (put_chunk at out new) k 0 ≡ get_or new m 0 = ap (λ i. get_or (put_chunk at out new) i 0) (omega arith) ∙ get_or-put_chunk_at at out new m 0 (omega arith) (omega arith) in
    let d = c.lane_max-raised.ensures.greater m (omega arith) in
    let e : get_or (chunk at 4 out) m 0 ≡ get_or out k 0 = get_or-chunk at 4 out m 0 (omega arith) ∙ ap (λ i. get_or out i 0) back in
    let p = c.lane_products-products.ensures.products m (omega arith) in
    let q : get_or (chunk c.args.j 4 b) m 0 ≡ get_or b (k - c.args.start) 0 = get_or-chunk c.args.j 4 b m 0 (omega arith) ∙ ap (λ i. get_or b i 0) from in
    a ∙ d ∙ ap (λ x. max x (get_or c.lane_products-products.result m 0)) e ∙ ap (max (get_or out k 0)) (p ∙ ap (product c.args.x) q)

pub returns-clause-above : goal.returns-clause-above
returns-clause-above c k le = get_or-put_chunk_above (c.args.start + c.args.j) c.args.out.now c.lane_max-raised.result k 0 (omega (arith, c.lane_max-raised.ensures.four))
