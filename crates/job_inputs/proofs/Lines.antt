-- Where the words of a sensor stand in a line.
use Rattle.std.proofs.Common.{◌≡◌, inl, inr, ◌++◌, ℕ, zero, suc, ◌+◌, ◌-◌, ◌*◌, ◌<◌, ◌≤◌, List, [], ◌∷◌, length, take, drop, get_or, ℤ, Some, sym, ◌∙◌, ap, arith, length-drop}
use Rattle.std.proofs.lemmas.Bool.{cases_lt}
use Rattle.std.proofs.lemmas.List.{length-take-le, get_or_append_left, get_or_push}
use Rattle.std.proofs.lemmas.Grind.{rows}
use Rattle.graph.specs.Cycle.{words_of_sensor, words_of_sensors, sensor_words}
use Rattle.graph.specs.Net.{instances}
use Rattle.graph.specs.declared.net.Net.{Net}
use Rattle.graph.specs.declared.net.Plug.{Plug}
use Rattle.net_run.specs.Words.{part}
use Rattle.job_inputs.specs.Look.{width_at}

module _ (net : Net) (cycle : ℕ) where
  -- with one sensor more
  pub words_more : (sensors : List Plug) (i : ℕ) (d : Plug) → i < length sensors
      → words_of_sensors net cycle (take (i + 1) sensors) ≡ words_of_sensors net cycle (take i sensors) + words_of_sensor net cycle (get_or sensors i d)
  words_more [] i d low = absurd (omega (arith, low))
  words_more (s ∷ sensors) zero d low = omega arith
  words_more (s ∷ sensors) (suc i) d low =
      let z : suc i + 1 ≡ suc (i + 1) = omega arith in
      let more = words_more sensors i d (omega (arith, low)) in
      let rest : words_of_sensor net cycle s + words_of_sensors net cycle (take (i + 1) sensors)
      ≡ words_of_sensor net cycle s + words_of_sensors net cycle (take i sensors) + words_of_sensor net cycle (get_or sensors i d) = omega (arith, more) in
      ap (λ k. words_of_sensors net cycle (take k (s ∷ sensors))) z ∙ rest

  -- its words and those before it are within the line
  pub words_within : (sensors : List Plug) (i : ℕ) (d : Plug) → i < length sensors
      → words_of_sensors net cycle (take i sensors) + words_of_sensor net cycle (get_or sensors i d) ≤ words_of_sensors net cycle sensors
  words_within [] i d low = absurd (omega (arith, low))
  words_within (s ∷ sensors) zero d low = omega arith
  words_within (s ∷ sensors) (suc i) d low = omega (arith, words_within sensors i d (omega (arith, low)))

times_le : (a b c : ℕ) → a < b → a * c + c ≤ c * b
times_le a b c low = grind (arith, rows)

-- those of an instance are within the sensor's
pub instance_within : (net : Net) (cycle sensor instance : ℕ) (plug : Plug) → sensor < length net.sensors → plug ≡ get_or net.sensors sensor plug → instance < instances net cycle plug.task
    → words_of_sensors net cycle (take sensor net.sensors) + (instance * width_at net plug.task plug.port + width_at net plug.task plug.port) ≤ sensor_words net cycle
instance_within net cycle sensor instance plug low at run =
    let room = words_within net cycle net.sensors sensor plug low in
    let same : words_of_sensor net cycle (get_or net.sensors sensor plug) ≡ words_of_sensor net cycle plug = ap (words_of_sensor net cycle) (sym at) in
    let rest = times_le instance (instances net cycle plug.task) (width_at net plug.task plug.port) run in
    omega (arith, room, same, rest)

-- a part of a line by its two ends
pub cut_part : (start first instance width wide : ℕ) (line : List ℤ) → start ≡ first → width ≡ wide
    → take (start + instance * width + width - (start + instance * width)) (drop (start + instance * width) line) ≡ part (first + instance * wide) wide line
cut_part start first instance width wide line e w =
    let z : start + instance * width + width - (start + instance * width) ≡ width = omega arith in
    ap (λ n. take n (drop (start + instance * width) line)) z
    ∙ ap (λ x. part (x + instance * width) width line) e
    ∙ ap (λ k. part (first + instance * k) k line) w

pub part_width : (from width : ℕ) (line : List ℤ) → from + width ≤ length line → length (take (from + width - from) (drop from line)) ≡ width
part_width from width line within =
    let z : from + width - from ≡ width = omega arith in
    ap (λ n. length (take n (drop from line))) z ∙ length-take-le width (drop from line) (omega (arith, length-drop from line, within))

pub one_plug : (a b : Plug) → Some a ≡ Some b → a ≡ b
one_plug a b e = cc

-- what holds of each number of a list, and of one more
pub each_more : (xs : List ℕ) (y i : ℕ) (f : ℕ → ℕ) → length xs ≡ i → ((k : ℕ) → k < i → get_or xs k 0 ≡ f k) → y ≡ f i → (k : ℕ) → k < i + 1 → get_or (xs ++ y ∷ []) k 0 ≡ f k
each_more xs y i f count each last k low = elim (cases_lt k i) [
  | inl less ↦ get_or_append_left xs (y ∷ []) 0 k (omega (arith, less, count)) ∙ each k less
  | inr more ↦ (let e : k ≡ i = omega (arith, low, more) in get_or_push xs y 0 k (count ∙ sym e) ∙ last ∙ ap f (sym e))
]
