-- The round and the periods, taken one after another.
use Rattle.std.proofs.Common.{◌≡◌, ℕ, suc, ◌+◌, ◌<◌, ◌≤◌, List, [], ◌∷◌, ◌++◌, length, take, get_or, sym, ◌∙◌, ap, subst, arith}
use Rattle.std.specs.Prelude.{All, map}
use Rattle.std.proofs.Math.ListN.{get_or-map}
use Rattle.std.proofs.lemmas.List.{take_more, get_or-take, length-take, length-map, get_or_default}
use Rattle.graph.specs.declared.net.Net.{Net}
use Rattle.graph.specs.declared.net.Transaction.{Transaction}
use Rattle.graph.specs.Net.{cycle_parts}
use Rattle.graph.specs.Cycle.{Divides, IsLeastMultiple, IsFirstPast}
use Rattle.graph.proofs.Multiples.{multiple_more, front_multiple}

periods : List Transaction → List ℕ
periods ts = map (λ (t : Transaction). t.period) ts

-- one period more
parts_more : (round : ℕ) (ts : List Transaction) (i : ℕ) (t : Transaction) → t ≡ get_or ts i t → i < length ts →
    take (i + 1 + 1) (round ∷ periods ts) ≡ take (i + 1) (round ∷ periods ts) ++ t.period ∷ []
unfolding periods
parts_more round ts i t is low =
    let n : length (map (λ (t : Transaction). t.period) ts) ≡ length ts = length-map ts (λ (t : Transaction). t.period) in
    let there : i + 1 ≡ suc i = omega arith in
    let read : get_or (map (λ (t : Transaction). t.period) ts) i 0 ≡ t.period =
    get_or_default (map (λ (t : Transaction). t.period) ts) i 0 t.period (omega (arith, n, low))
    ∙ get_or-map (λ (t : Transaction). t.period) ts i t ∙ ap (λ (t : Transaction). t.period) (sym is) in
    take_more (round ∷ map (λ (t : Transaction). t.period) ts) (i + 1) 0 (omega (arith, n, low))
    ∙ ap (λ x. take (i + 1) (round ∷ map (λ (t : Transaction). t.period) ts) ++ x ∷ []) (ap (λ k. get_or (round ∷ map (λ (t : Transaction). t.period) ts) k 0) there ∙ read)

-- what holds of a front holds of a shorter one
All_shorter : (P : ℕ → Type 0) (xs : List ℕ) (k i : ℕ) → k ≤ i → All P (take i xs) → All P (take k xs)
All_shorter P xs k i low all j d inside =
    let n = length-take k xs in
    let m = length-take i xs in
    subst P (get_or-take i xs j d (omega (arith, low, inside, n)) ∙ sym (get_or-take k xs j d (omega (arith, inside, n)))) (all j d (omega (arith, low, inside, n, m)))

-- the least common multiple with one period more
pub cycle_more : (net : Net) (i h m : ℕ) (t : Transaction) → t ≡ get_or net.transactions i t → i < length net.transactions →
    IsLeastMultiple (take (i + 1) (cycle_parts net)) h → IsLeastMultiple (h ∷ t.period ∷ []) m → IsLeastMultiple (take (i + 1 + 1) (cycle_parts net)) m
unfolding periods
cycle_more net i h m t is low one two =
    subst (λ xs. IsLeastMultiple xs m) (sym (parts_more net.shape.round net.transactions i t is low)) (multiple_more (take (i + 1) (cycle_parts net)) h t.period m one two)

-- the first that passes 65,536
pub cycle_past : (net : Net) (i h m : ℕ) (t : Transaction) → t ≡ get_or net.transactions i t → i < length net.transactions → 1 ≤ h → h ≤ 65536 →
    IsLeastMultiple (take (i + 1) (cycle_parts net)) h → IsLeastMultiple (h ∷ t.period ∷ []) m → 65536 < m → IsFirstPast net m
cycle_past net i h m t is low some few one two past = record {
  place = i + 1;
  in_parts = (let n : length (map (λ (t : Transaction). t.period) net.transactions) ≡ length net.transactions = length-map net.transactions (λ (t : Transaction). t.period) in omega (arith, n, low));
  multiple = cycle_more net i h m t is low one two;
  past = past;
  first = λ k before less front.
      let all = All_shorter (λ n. Divides n h) (cycle_parts net) (k + 1) (i + 1) (omega (arith, less)) one.common in
      let le = front_multiple (take (k + 1) (cycle_parts net)) [] before h some front all in
      omega (arith, le, few);
}
