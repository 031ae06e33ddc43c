-- The number of a slot is below the number of slots.
use Rattle.std.proofs.Common.{ℕ, ◌+◌, ◌*◌, ◌<◌, ◌≤◌, arith, mul-le-mul_right}
use Rattle.mars_base.specs.declared.shape.Side.{Side}
use Rattle.mars_base.specs.declared.shape.Side.TheVariants.{A, B}
use Rattle.tdma.specs.Layout.{Layout, side_number}
use Rattle.bus.specs.Numbers.{slot_count, slot_number}

side_below : (side : Side) → side_number side < 2
side_below A = omega arith
side_below B = omega arith

pub number_below : (l : Layout) (round unit : ℕ) (side : Side) → round < l.rounds → unit < l.units → slot_number l round unit side < slot_count l
number_below l round unit side r u =
    let more : (round + 1) * l.units ≤ l.rounds * l.units = mul-le-mul_right l.units (omega arith) in
    let two = side_below side in
    omega (arith, more, two)
