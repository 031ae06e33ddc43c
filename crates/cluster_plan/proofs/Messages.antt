-- Which messages there are: one for each edge and instance whose units differ.
use Rattle.std.proofs.Common.{◌≡◌, ℕ, zero, suc, ◌+◌, ◌<◌, ◌≤◌, inl, inr, ◌==◌, ◌&&◌, Bool, true, false, cond, [], ◌∷◌, length, get_or, refl, sym, ◌∙◌, ap, subst, arith}
use Rattle.std.specs.Prelude.{Contains}
use Rattle.std.specs.List.{position_or_len}
use Rattle.std.proofs.lemmas.Bool.{cases_lt, true≢false, eq-eqb, eqb-true, and_parts, and_from}
use Rattle.std.proofs.lemmas.List.{get_or-map, length-map}
use Rattle.std.proofs.lemmas.List.Elements.{Contains-append_left, Contains-append_right, Contains-append_cases}
use Rattle.std.proofs.lemmas.List.Sums.{fails_before_first, passes_at_first}
use Rattle.graph.specs.JobGraph.{JobGraph}
use Rattle.graph.specs.Net.{instances}
use Rattle.graph.specs.declared.net.Net.{Net}
use Rattle.tables.specs.Named.{no_message, edge_at, message_at}
use Rattle.tables.specs.Rules.{crosses, key_if, keys_of_edge, keys_of_edges, keys_of}
use Rattle.tables.specs.declared.table.Message.{Message}
use Rattle.tables.specs.declared.table.Tables.{Tables}

-- the key of an edge and an instance is the one key that an edge gives for it, or there is none
none_here : (k : ℕ × ℕ) → Contains [] k → ⊥
none_here k w = let low : w.0 < 0 = w.1 in omega (arith, low)

one_here : (a k : ℕ × ℕ) → Contains (a ∷ []) k → a ≡ k
one_here a k w = at w.0 w.1 w.2
  where
    at : (i : ℕ) → i < 1 → get_or (a ∷ []) i k ≡ k → a ≡ k
    at zero low e = e
    at (suc i) low e = absurd (omega (arith, low))

module _ (net : Net) (g : JobGraph) (t : Tables) where
  key_there : (edge instance : ℕ) → crosses net g t edge instance ≡ true → Contains (key_if net g t edge instance) (edge, instance)
  key_there edge instance c = subst (λ b. Contains {X = ℕ × ℕ} (cond b ((edge, instance) ∷ []) []) (edge, instance)) (sym c) (0, omega arith, refl)

  in_edge : (edge first left instance : ℕ) → first ≤ instance → instance < first + left → crosses net g t edge instance ≡ true → Contains (keys_of_edge net g t edge first left) (edge, instance)
  in_edge edge first zero instance from to c = absurd (omega (arith, from, to))
  in_edge edge first (suc left) instance from to c = elim (cases_lt first instance) [
    | inl less ↦ Contains-append_right (key_if net g t edge first) (keys_of_edge net g t edge (first + 1) left) (edge, instance) (in_edge edge (first + 1) left instance (omega (arith, less)) (omega (arith, to)) c)
    | inr last ↦
        let same : instance ≡ first = omega (arith, from, last) in
        Contains-append_left (key_if net g t edge first) (keys_of_edge net g t edge (first + 1) left) (edge, instance)
        (subst (λ i. Contains (key_if net g t edge i) (edge, instance)) same (key_there edge instance c))
  ]

  in_edges : (first left edge instance : ℕ) → first ≤ edge → edge < first + left → instance < instances net g.cycle (edge_at net edge).from_task → crosses net g t edge instance ≡ true
      → Contains (keys_of_edges net g t first left) (edge, instance)
  in_edges first zero edge instance from to run c = absurd (omega (arith, from, to))
  in_edges first (suc left) edge instance from to run c = elim (cases_lt first edge) [
    | inl less ↦ Contains-append_right (keys_of_edge net g t first 0 (instances net g.cycle (edge_at net first).from_task)) (keys_of_edges net g t (first + 1) left) (edge, instance)
        (in_edges (first + 1) left edge instance (omega (arith, less)) (omega (arith, to)) run c)
    | inr last ↦
        let same : edge ≡ first = omega (arith, from, last) in
        Contains-append_left (keys_of_edge net g t first 0 (instances net g.cycle (edge_at net first).from_task)) (keys_of_edges net g t (first + 1) left) (edge, instance)
        (subst (λ e. Contains (keys_of_edge net g t e 0 (instances net g.cycle (edge_at net e).from_task)) (edge, instance)) same
        (in_edge edge 0 (instances net g.cycle (edge_at net edge).from_task) instance (omega arith) (omega (arith, run)) c))
  ]

  -- a key is of an edge and one of its instances
  abbrev pub IsKey : (edges : ℕ) → ℕ × ℕ → Type 0
  IsKey edges k = (k.0 < edges) × (k.1 < instances net g.cycle (edge_at net k.0).from_task)

  of_key : (edge instance : ℕ) (k : ℕ × ℕ) → Contains (key_if net g t edge instance) k → (k.0 ≡ edge) × (k.1 ≡ instance)
  of_key edge instance k w = by (crosses net g t edge instance) w
    where
      by : (b : Bool) → Contains (cond b ((edge, instance) ∷ []) []) k → (k.0 ≡ edge) × (k.1 ≡ instance)
      by true h = let e = one_here (edge, instance) k h in (ap (λ (x : ℕ × ℕ). x.0) (sym e), ap (λ (x : ℕ × ℕ). x.1) (sym e))
      by false h = absurd (none_here k h)

  of_edge : (edge first left : ℕ) (k : ℕ × ℕ) → Contains (keys_of_edge net g t edge first left) k → (k.0 ≡ edge) × (k.1 < first + left)
  of_edge edge first zero k w = absurd (none_here k w)
  of_edge edge first (suc left) k w = elim (Contains-append_cases (key_if net g t edge first) (keys_of_edge net g t edge (first + 1) left) k w) [
    | inl here ↦ (let e = of_key edge first k here in (e.0, omega (arith, e.1)))
    | inr there ↦ (let e = of_edge edge (first + 1) left k there in (e.0, omega (arith, e.1)))
  ]

  of_edges : (first left : ℕ) (k : ℕ × ℕ) → Contains (keys_of_edges net g t first left) k → IsKey (first + left) k
  of_edges first zero k w = absurd (none_here k w)
  of_edges first (suc left) k w = elim (Contains-append_cases (keys_of_edge net g t first 0 (instances net g.cycle (edge_at net first).from_task)) (keys_of_edges net g t (first + 1) left) k w) [
    | inl here ↦ (let e = of_edge first 0 (instances net g.cycle (edge_at net first).from_task) k here in
        (omega (arith, e.0), subst (λ x. k.1 < instances net g.cycle (edge_at net x).from_task) (sym e.0) (omega (arith, e.1))))
    | inr there ↦ (let e = of_edges (first + 1) left k there in (omega (arith, e.0), e.1))
  ]

  module _ (messages : keys_of t.messages ≡ keys_of_edges net g t 0 (length net.edges)) where
    -- the key of the message at a place
    key_at : (m : ℕ) → m < length t.messages → (k : ℕ × ℕ) → get_or (keys_of t.messages) m k ≡ ((message_at t m).edge, (message_at t m).instance)
    key_at m low k = get_or-map (λ (m : Message). (m.edge, m.instance)) t.messages m no_message k low

    -- a message is of an edge and one of its instances
    pub of_message : (m : ℕ) → m < length t.messages → IsKey (length net.edges) ((message_at t m).edge, (message_at t m).instance)
    of_message m low =
        let z : 0 + length net.edges ≡ length net.edges = omega arith in
        subst (λ edges. IsKey edges ((message_at t m).edge, (message_at t m).instance)) z (of_edges 0 (length net.edges) ((message_at t m).edge, (message_at t m).instance)
        (subst (λ ks. Contains ks ((message_at t m).edge, (message_at t m).instance)) messages
        (m, omega (arith, low, length-map {B = ℕ × ℕ} t.messages (λ (m : Message). (m.edge, m.instance))), key_at m low ((message_at t m).edge, (message_at t m).instance))))

    abbrev fits : (edge instance : ℕ) → Message → Bool
    fits edge instance m = m.edge == edge && m.instance == instance

    -- the message of an edge and an instance whose units differ
    pub message_there : (edge instance : ℕ) → edge < length net.edges → instance < instances net g.cycle (edge_at net edge).from_task → crosses net g t edge instance ≡ true
        → let m = position_or_len (fits edge instance) t.messages in (m < length t.messages) × ((message_at t m).edge ≡ edge) × ((message_at t m).instance ≡ instance)
    message_there edge instance low run c =
        let w = subst (λ ks. Contains ks (edge, instance)) (sym messages) (in_edges 0 (length net.edges) edge instance (omega arith) (omega (arith, low)) run c) in
        let within : w.0 < length t.messages = omega (arith, w.1, length-map {B = ℕ × ℕ} t.messages (λ (m : Message). (m.edge, m.instance))) in
        let at : ((message_at t w.0).edge, (message_at t w.0).instance) ≡ (edge, instance) = sym (key_at w.0 within (edge, instance)) ∙ w.2 in
        let passes : fits edge instance (message_at t w.0) ≡ true =
        and_from ((message_at t w.0).edge == edge) ((message_at t w.0).instance == instance)
        (eq-eqb (message_at t w.0).edge edge (ap (λ (x : ℕ × ℕ). x.0) at)) (eq-eqb (message_at t w.0).instance instance (ap (λ (x : ℕ × ℕ). x.1) at)) in
        let first : position_or_len (fits edge instance) t.messages < length t.messages = elim (cases_lt w.0 (position_or_len (fits edge instance) t.messages)) [
          | inl less ↦ absurd (true≢false (sym passes ∙ fails_before_first (fits edge instance) t.messages w.0 no_message less))
          | inr more ↦ omega (arith, more, within)
        ] in
        let e = passes_at_first (fits edge instance) t.messages no_message first in
        let parts = and_parts ((message_at t (position_or_len (fits edge instance) t.messages)).edge == edge) ((message_at t (position_or_len (fits edge instance) t.messages)).instance == instance) e in
        (first, eqb-true (message_at t (position_or_len (fits edge instance) t.messages)).edge edge parts.0, eqb-true (message_at t (position_or_len (fits edge instance) t.messages)).instance instance parts.1)
