-- Reading the lists of a state.
use Rattle.std.proofs.Common.{◌≡◌, ℕ, ◌*◌, ◌<◌, inl, inr, List, length, get_or, set, map, refl, sym, ◌∙◌, ap, subst, arith}
use Rattle.std.proofs.lemmas.Bool.{cases_eq, cases_lt}
use Rattle.std.proofs.lemmas.List.{get_or-map, get_or_past, length-map, get_or-set_same, get_or-set_other}
use Rattle.std.proofs.lemmas.List.FromFn.{get_or-map-range_with_len}
use Rattle.mars_base.specs.declared.shape.Side.{Side}
use Rattle.mars_base.specs.declared.shape.Side.TheVariants.{A, B}
use Rattle.bus.specs.SlotState.{SlotState, Open, slot_at, cut}
use Rattle.cluster_model.specs.Plan.{listed}
use Rattle.cluster_model.specs.State.{Member, no_member, replica_number, member_of}

pub listed_at : {X : Type 0} (n : ℕ) (f : ℕ → X) (i : ℕ) (d : X) → i < n → get_or (listed n f) i d ≡ f i
listed_at n f i d low = get_or-map-range_with_len f 0 n i i d low (omega arith)

pub cut_at : (slots : List SlotState) (k : ℕ) → slot_at (map cut slots) k ≡ cut (slot_at slots k)
cut_at slots k = elim (cases_lt k (length slots)) [
  | inl low ↦ get_or-map cut slots k Open Open low
  | inr high ↦ get_or_past (map cut slots) k Open (omega (arith, length-map slots cut, high)) ∙ sym (ap cut (get_or_past slots k Open high))
]

-- two replicas of one number are one
pub one_replica : (u : ℕ) (x : Side) (v : ℕ) (y : Side) → replica_number v y ≡ replica_number u x → (v ≡ u) × (y ≡ x)
one_replica u A v A e = (omega (arith, e), refl)
one_replica u A v B e = absurd (omega (arith, e))
one_replica u B v A e = absurd (omega (arith, e))
one_replica u B v B e = (omega (arith, e), refl)

pub number_within : (units u : ℕ) (x : Side) → u < units → replica_number u x < 2 * units
number_within units u A low = omega (arith, low)
number_within units u B low = omega (arith, low)

pub put_here : (members : List Member) (u : ℕ) (x : Side) (n : Member) → replica_number u x < length members → member_of (set members (replica_number u x) n) u x ≡ n
put_here members u x n low = get_or-set_same members (replica_number u x) n no_member low

-- what holds of the new replica and of each old one holds of each
pub put_cases : (P : ℕ → Side → Member → Type 0) (members : List Member) (u : ℕ) (x : Side) (n : Member) → replica_number u x < length members → P u x n
    → ((v : ℕ) (y : Side) → P v y (member_of members v y)) → (v : ℕ) (y : Side) → P v y (member_of (set members (replica_number u x) n) v y)
put_cases P members u x n low a b v y = elim (cases_eq (replica_number v y) (replica_number u x)) [
  | inl e ↦
      let w = one_replica u x v y e in
      let s : member_of (set members (replica_number u x) n) v y ≡ n =
      ap (λ k. get_or (set members (replica_number u x) n) k no_member) e ∙ put_here members u x n low in
      subst (P v y) (sym s) (subst (λ z. P v z n) (sym w.1) (subst (λ z. P z x n) (sym w.0) a))
  | inr o ↦ subst (P v y) (sym (get_or-set_other members (replica_number u x) (replica_number v y) n no_member o)) (b v y)
]
