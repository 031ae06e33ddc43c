-- The format of instructions is lawful.
use Rattle.std.proofs.Common.{◌≡◌, ℕ, zero, suc, ◌<◌, ◌≤◌, ◌+◌, ◌*◌, ◌/◌, ◌%◌, ◌^◌, refl, ap, arith}
use Rattle.std.specs.Int.{w32, cast_signed, cast_unsigned}
use Rattle.std.proofs.lemmas.Int.{of_z-to_z}
use Rattle.formats.specs.Laws.{IsLawful}
use Rattle.formats.proofs.Fields.{number8, number32}
use Rattle.formats.proofs.Lawful.{lawful_then, lawful_shape, lawful_chain}
use Rattle.image_parts.specs.Slot.{instr_of, instrs_of, greatest_x, op_of, x_of, slot, to_slot, of_slot}

-- what holds below a number, one by one
abbrev AllBelow : ℕ → (ℕ → Type 0) → Type 0
AllBelow zero P = Unit {0}
AllBelow (suc n) P = P 0 × AllBelow n (λ k. P (suc k))

below : (n : ℕ) (P : ℕ → Type 0) → AllBelow n P → (k : ℕ) → k < n → P k
below zero P all k lt = absurd (omega arith)
below (suc n) P all zero lt = all.0
below (suc n) P all (suc k) lt = below n (λ j. P (suc j)) all.1 k (omega arith)

record Back (op : ℕ) : Type 0 where
  small : greatest_x op < 2 ^ 32
  back : (x : ℕ) → x ≤ greatest_x op → (op_of (instr_of op x) ≡ op) × (x_of (instr_of op x) ≡ x)

plain : (x : ℕ) → x ≤ 0 → 0 ≡ x
plain x le = omega arith

pairs : (x : ℕ) → x / 65536 * 65536 + x % 65536 ≡ x
pairs x = omega arith

all_back : AllBelow 28 Back
unfolding greatest_x instr_of op_of x_of
all_back = (
  record { small = omega arith; back = λ x le. (refl, of_z-to_z w32 x (omega arith)) },
  (
    record { small = omega arith; back = λ x le. (refl, refl) },
    (
      record { small = omega arith; back = λ x le. (refl, refl) },
      (
        record { small = omega arith; back = λ x le. (refl, pairs x) },
        (
          record { small = omega arith; back = λ x le. (refl, pairs x) },
          (
            record { small = omega arith; back = λ x le. (refl, plain x le) },
            (
              record { small = omega arith; back = λ x le. (refl, plain x le) },
              (
                record { small = omega arith; back = λ x le. (refl, plain x le) },
                (
                  record { small = omega arith; back = λ x le. (refl, plain x le) },
                  (
                    record { small = omega arith; back = λ x le. (refl, plain x le) },
                    (
                      record { small = omega arith; back = λ x le. (refl, plain x le) },
                      (
                        record { small = omega arith; back = λ x le. (refl, plain x le) },
                        (
                          record { small = omega arith; back = λ x le. (refl, plain x le) },
                          (
                            record { small = omega arith; back = λ x le. (refl, plain x le) },
                            (
                              record { small = omega arith; back = λ x le. (refl, plain x le) },
                              (
                                record { small = omega arith; back = λ x le. (refl, plain x le) },
                                (
                                  record { small = omega arith; back = λ x le. (refl, plain x le) },
                                  (
                                    record { small = omega arith; back = λ x le. (refl, plain x le) },
                                    (
                                      record { small = omega arith; back = λ x le. (refl, plain x le) },
                                      (
                                        record { small = omega arith; back = λ x le. (refl, plain x le) },
                                        (
                                          record { small = omega arith; back = λ x le. (refl, plain x le) },
                                          (
                                            record { small = omega arith; back = λ x le. (refl, refl) },
                                            (
                                              record { small = omega arith; back = λ x le. (refl, refl) },
                                              (
                                                record { small = omega arith; back = λ x le. (refl, refl) },
                                                (
                                                  record { small = omega arith; back = λ x le. (refl, pairs x) },
                                                  (
                                                    record { small = omega arith; back = λ x le. (refl, refl) },
                                                    (
                                                      record { small = omega arith; back = λ x le. (refl, plain x le) },
                                                      (
                                                        record { small = omega arith; back = λ x le. (refl, plain x le) },
                                                        tt,
                                                      ),
                                                    ),
                                                  ),
                                                ),
                                              ),
                                            ),
                                          ),
                                        ),
                                      ),
                                    ),
                                  ),
                                ),
                              ),
                            ),
                          ),
                        ),
                      ),
                    ),
                  ),
                ),
              ),
            ),
          ),
        ),
      ),
    ),
  ),
)

op_is : (op : ℕ) → op ≤ 27 → Back op
op_is op le = below 28 Back all_back op (omega arith)

pub slot_laws : IsLawful slot
unfolding slot
slot_laws = lawful_shape to_slot of_slot
    (lawful_chain _ _ (number8 0 27 (omega arith)) (λ op fits. lawful_then (number8 0 64 (omega arith)) (number32 0 (greatest_x op) (op_is op fits.1).small)))
    (λ p fits. let b = (op_is p.0 fits.0.1).back p.1.1 fits.1.1.1 in rw (b.0, b.1) refl)
