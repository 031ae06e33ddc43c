-- Numbers within their limits fit a byte.
use Rattle.std.proofs.Common.{◌≡◌, ℕ, ◌≤◌, nat_le, ℤ, pos, negsuc, Bool, true, false, not, ◌&&◌, ◌||◌, if◌then◌else◌, refl, arith}
use Rattle.std.proofs.lemmas.Bool.Decides.{nat_tests}
use Rattle.project_sheet.specs.declared.sheet.ClusterRow.{ClusterRow}
use Rattle.project_rows.specs.Rules.{is_within, cluster_out, maybe_out}
use Rattle.project_relations.specs.Relations.{byte_of}

either_false : (a b : Bool) → (a || b) ≡ false → (a ≡ false) × (b ≡ false)
either_false true b e = cc
either_false false b e = (refl, e)

not_false : (a : Bool) → not a ≡ false → a ≡ true
not_false true e = refl
not_false false e = cc

fits_byte : (low high n : ℕ) → high ≤ 255 → (nat_le low n && nat_le n high) ≡ true → (low ≤ (if nat_le n 255 then n else 0)) × ((if nat_le n 255 then n else 0) ≤ high)
fits_byte low high n h e = grind (arith, nat_tests)

-- a number within limits below 256 is kept
pub byte_within : (low high : ℕ) (z : ℤ) → high ≤ 255 → is_within low high z ≡ true → (low ≤ byte_of z) × (byte_of z ≤ high)
byte_within low high (pos n) h e = fits_byte low high n h e
byte_within low high (negsuc n) h e = cc

pub record IsSmall (c : ClusterRow) : Type 0 where
  pub units : is_within 1 8 c.units ≡ true
  pub slot_words : is_within 2 64 c.slot_words ≡ true
  pub precision : is_within 1 8 c.precision ≡ true

pub is_small : (c : ClusterRow) → cluster_out c ≡ false → IsSmall c
is_small c e =
    let (h1, h2) = either_false (not (is_within 1 8 c.units) || not (is_within 2 64 c.slot_words) || not (is_within 1 8 c.precision) || not (is_within 1 10000 c.cycles_per_tick)) (maybe_out 1 65536 c.round) e in
    let (h3, h4) = either_false (not (is_within 1 8 c.units) || not (is_within 2 64 c.slot_words) || not (is_within 1 8 c.precision)) (not (is_within 1 10000 c.cycles_per_tick)) h1 in
    let (h5, h6) = either_false (not (is_within 1 8 c.units) || not (is_within 2 64 c.slot_words)) (not (is_within 1 8 c.precision)) h3 in
    let (h7, h8) = either_false (not (is_within 1 8 c.units)) (not (is_within 2 64 c.slot_words)) h5 in
    record { units = not_false _ h7; slot_words = not_false _ h8; precision = not_false _ h6 }
