-- Names, shapes and the entries of a sound net fit their fields.
use Rattle.std.proofs.Common.{◌≡◌, ℕ, ◌+◌, ◌-◌, ◌*◌, ◌^◌, ◌<◌, ◌≤◌, inl, inr, Bool, true, false, List, [], ◌∷◌, length, All, None, refl, ap, arith, mul-le-mul_right}
use Rattle.std.specs.Prelude.{◌&&◌, ◌||◌, nat_le}
use Rattle.std.specs.List.{list_all}
use Rattle.std.specs.Int.{is_in_range}
use Rattle.std.proofs.lemmas.Bool.{le-leb, eq-eqb}
use Rattle.std.proofs.lemmas.Nat.{pow-add, pow_pos}
use Rattle.std.proofs.lemmas.List.Elements.{All-head, All-tail}
use Rattle.std.proofs.lemmas.Option.{slice_get_cases}
use Rattle.mars_base.specs.Name.{IsNameStart, IsNameByte, BeginsName, IsName, is_name_start, is_name_byte, begins_name, is_name}
use Rattle.mars_base.specs.Shape.{IsShape}
use Rattle.mars_base.specs.declared.shape.ClusterShape.{ClusterShape}
use Rattle.graph.specs.declared.net.Net.{Net}
use Rattle.graph.specs.declared.net.Edge.{Edge}
use Rattle.graph.specs.declared.net.Plug.{Plug}
use Rattle.graph.specs.declared.net.Transaction.{Transaction}
use Rattle.graph.specs.Net.{outs_of, task_outs}
use Rattle.graph.specs.Rules.{IsTask, IsTransaction, IsEdge, IsSensor, IsActuator}
use Rattle.graph.specs.Sound.{HasEntries}
use Rattle.graph.proofs.Entries.{All_at, few_ports}
use Rattle.image_parts.specs.Name.{name}
use Rattle.image_parts.specs.Records.{shape, transaction, edge, plug}
use Rattle.image_plant.proofs.Ranges.{round_some}

left : (b c : Bool) → b ≡ true → (b || c) ≡ true
left true c e = refl
left false c e = absurd cc

right : (b c : Bool) → c ≡ true → (b || c) ≡ true
right true c e = refl
right false c e = e

both : (b c : Bool) → b ≡ true → c ≡ true → (b && c) ≡ true
both true c e f = f
both false c e f = absurd cc

in_range : (low high b : ℕ) → low ≤ b → b ≤ high → is_in_range low high b ≡ true
in_range low high b from to = both (nat_le low b) (nat_le b high) (le-leb low b from) (le-leb b high to)

is_start : (b : ℕ) → IsNameStart b → is_name_start b ≡ true
is_start b (inl h) = left (is_in_range 65 90 b || is_in_range 97 122 b) _ (left (is_in_range 65 90 b) (is_in_range 97 122 b) (in_range 65 90 b h.0 h.1))
is_start b (inr (inl h)) = left (is_in_range 65 90 b || is_in_range 97 122 b) _ (right (is_in_range 65 90 b) (is_in_range 97 122 b) (in_range 97 122 b h.0 h.1))
is_start b (inr (inr h)) = right (is_in_range 65 90 b || is_in_range 97 122 b) _ (eq-eqb b 95 h)

is_byte : (b : ℕ) → IsNameByte b → is_name_byte b ≡ true
is_byte b (inl h) = left (is_name_start b) (is_in_range 48 57 b) (is_start b h)
is_byte b (inr h) = right (is_name_start b) (is_in_range 48 57 b) (in_range 48 57 b h.0 h.1)

all_bytes : (n : List ℕ) → All IsNameByte n → list_all is_name_byte n ≡ true
all_bytes [] all = refl
all_bytes (b ∷ n) all = both (is_name_byte b) (list_all is_name_byte n) (is_byte b (All-head IsNameByte b n all)) (all_bytes n (All-tail IsNameByte b n all))

begins : (n : List ℕ) → BeginsName n → begins_name n ≡ true
begins [] h = absurd h
begins (b ∷ n) h = is_start b h

-- a name fits its field
pub name_fits : (n : List ℕ) → IsName n → name.fits n
unfolding is_name
name_fits n h = (omega (arith, h.short), both (begins_name n && list_all is_name_byte n) (nat_le (length n) 31) (both (begins_name n) (list_all is_name_byte n) (begins n h.begins) (all_bytes n h.bytes)) (le-leb (length n) 31 h.short))

pub shape_fits : (s : ClusterShape) → IsShape s → shape.fits s
unfolding shape
shape_fits s is = ((is.units, (is.slot_words, (is.precision, (is.cycles_per_tick, (round_some s is, is.round))))), refl)

-- a mask of at most eight units fits a byte
pub mask_fits : (mask units : ℕ) → units ≤ 8 → mask < 2 ^ units → mask ≤ 255
mask_fits mask units few low =
    let more : 1 * 2 ^ units ≤ 2 ^ (8 - units) * 2 ^ units = mul-le-mul_right (2 ^ units) (omega (arith, pow_pos (8 - units))) in
    let split : 2 ^ (8 - units + units) ≡ 2 ^ (8 - units) * 2 ^ units = pow-add 2 (8 - units) units in
    let eight : 8 - units + units ≡ 8 = omega (arith, few) in
    let whole : 2 ^ (8 - units + units) ≡ 2 ^ 8 = ap (λ (k : ℕ). 2 ^ k) eight in
    omega (arith, low, more, split, whole)

pub transaction_fits : (t : Transaction) → IsName t.name → IsTransaction t → transaction.fits t
unfolding transaction
transaction_fits t named is = ((name_fits t.name named, ((is.some_period, is.period), (is.some_deadline, omega (arith, is.deadline, is.period)))), refl)

few_outs : (net : Net) → HasEntries net → (t : ℕ) → length (outs_of net t) ≤ 16
few_outs net h t = elim (slice_get_cases net.tasks t).1 [
  | inl w ↦ (let is : outs_of net t ≡ w.0.outs = ap task_outs w.2 in rw is (omega (arith, (All_at (IsTask net) net.tasks t w.0 h.tasks w.2).ports)))
  | inr w ↦ (let is : outs_of net t ≡ task_outs None = ap task_outs w.1 in rw is (omega arith))
]

pub edge_fits : (net : Net) → HasEntries net → length net.tasks ≤ 64 → (e : Edge) → IsEdge net e → edge.fits e
unfolding edge
edge_fits net h few e is =
    (((omega arith, omega (arith, is.from_task, few)), ((omega arith, omega (arith, is.from_port, few_outs net h e.from_task)), ((omega arith, omega (arith, is.to_task, few)), (omega arith, omega (arith, is.to_port, few_ports net h e.to_task))))), refl)

pub sensor_fits : (net : Net) → HasEntries net → length net.tasks ≤ 64 → (s : Plug) → IsName s.name → IsSensor net s → plug.fits s
unfolding plug
sensor_fits net h few s named is = ((name_fits s.name named, ((omega arith, omega (arith, is.task, few)), (omega arith, omega (arith, is.port, few_ports net h s.task)))), refl)

pub actuator_fits : (net : Net) → HasEntries net → length net.tasks ≤ 64 → (a : Plug) → IsName a.name → IsActuator net a → plug.fits a
unfolding plug
actuator_fits net h few a named is = ((name_fits a.name named, ((omega arith, omega (arith, is.task, few)), (omega arith, omega (arith, is.port, few_outs net h a.task)))), refl)
