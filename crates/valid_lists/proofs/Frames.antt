-- Each message fits its frame, and no two share a word.
use Rattle.std.proofs.Common.{◌≡◌, ℕ, zero, suc, ◌+◌, ◌≤◌, ◌⊎◌, inl, inr, Bool, true, false, if◌then◌else◌, List, [], ◌∷◌, ◌++◌, length, Some, sym, ap, ap₂, ◌∙◌, subst, arith}
use Rattle.std.specs.Prelude.{slice_get, option_map}
use Rattle.std.proofs.lemmas.Bool.{cases_eq, cases_order}
use Rattle.std.proofs.lemmas.Option.{slice_get-get_or, slice_get-map, slice_get_within}
use Rattle.graph.specs.declared.net.Net.{Net}
use Rattle.graph.specs.JobGraph.{JobGraph}
use Rattle.graph.specs.Net.{instances}
use Rattle.graph.specs.NetGraph.{IsNetGraphFor}
use Rattle.tables.specs.declared.table.Message.{Message}
use Rattle.tables.specs.declared.table.Tables.{Tables}
use Rattle.tables.specs.Named.{no_message, edge_at, message_at, words_of, ShareAWord}
use Rattle.tables.specs.Rules.{crosses, key_if, keys_of_edge, keys_of_edges, FitsFrames}
use Rattle.tables.specs.Valid.{bus_of}
use Rattle.decisions.specs.declared.placed.Sent.{Sent}
use Rattle.decisions.specs.Decision.{Decision, work_at, decision_on}
use Rattle.decisions.specs.ProblemOf.{problem_of}
use Rattle.reached.proofs.Members.{In, in_cons, in_append, in_nothing}
use Rattle.reached.proofs.Good.{on_is, good}
use Rattle.valid_lists.proofs.Along.{IsFull}
use Rattle.valid_lists.proofs.Entries.{net_tables}
use Rattle.valid_lists.proofs.Keys.{all_keys}
use Rattle.valid_lists.proofs.Known.{IsSentIn, sent_in, known}
use Rattle.valid_lists.proofs.Stacking.{AreParted, HasFrames, frames}

-- each key stands at one place
abbrev AreDistinct : List (ℕ × ℕ) → Type 0
AreDistinct xs = (i k : ℕ) (x : ℕ × ℕ) → slice_get xs i ≡ Some x → slice_get xs k ≡ Some x → i ≡ k

-- a place in the second list
record IsBehind (xs ys : List (ℕ × ℕ)) (i : ℕ) (x : ℕ × ℕ) : Type 0 where
  place : ℕ
  is : i ≡ length xs + place
  stands : slice_get ys place ≡ Some x

place_in : (xs ys : List (ℕ × ℕ)) (i : ℕ) (x : ℕ × ℕ) → slice_get (xs ++ ys) i ≡ Some x → (slice_get xs i ≡ Some x) ⊎ IsBehind xs ys i x
place_in [] ys i x h = inr (record { place = i; is = omega arith; stands = h })
place_in (y ∷ xs) ys zero x h = inl h
place_in (y ∷ xs) ys (suc i) x h = elim (place_in xs ys i x h) [ inl g ↦ inl g | inr g ↦ inr (record { place = g.place; is = omega (arith, g.is); stands = g.stands }) ]

distinct_both : (xs ys : List (ℕ × ℕ)) → AreDistinct xs → AreDistinct ys → ((x : ℕ × ℕ) → In xs x → In ys x → ⊥) → AreDistinct (xs ++ ys)
distinct_both xs ys a b apart i k x h g = elim (place_in xs ys i x h) [
  | inl p ↦ elim (place_in xs ys k x g) [
    | inl q ↦ a i k x p q
    | inr q ↦ absurd (apart x (i, p) (q.place, q.stands))
  ]
  | inr p ↦ elim (place_in xs ys k x g) [
    | inl q ↦ absurd (apart x (k, q) (p.place, p.stands))
    | inr q ↦ (let e = b p.place q.place x p.stands q.stands in omega (arith, p.is, q.is))
  ]
]

distinct_none : AreDistinct []
distinct_none i k x h g = absurd (cc)

distinct_one : (y : ℕ × ℕ) → AreDistinct (y ∷ [])
distinct_one y i k x h g = let a = slice_get_within (y ∷ []) i x h in let b = slice_get_within (y ∷ []) k x g in omega arith

distinct_if : (y : ℕ × ℕ) (b : Bool) → AreDistinct (if b then y ∷ [] else [])
distinct_if y true = distinct_one y
distinct_if y false = distinct_none

in_if : (y x : ℕ × ℕ) (b : Bool) → In (if b then y ∷ [] else []) x → y ≡ x
in_if y x true i = elim (in_cons y [] x i) [ inl e ↦ e | inr j ↦ absurd (in_nothing x j) ]
in_if y x false i = absurd (in_nothing x i)

module _ (net : Net) (g : JobGraph) (t : Tables) where
  edge_in : (edge instance left : ℕ) (x : ℕ × ℕ) → In (keys_of_edge net g t edge instance left) x → (x.0 ≡ edge) × (instance ≤ x.1)
  edge_in edge instance zero x i = absurd (in_nothing x i)
  edge_in edge instance (suc left) x i = elim (in_append (key_if net g t edge instance) (keys_of_edge net g t edge (instance + 1) left) x i) [
    | inl a ↦ (let e : (edge, instance) ≡ x = in_if (edge, instance) x (crosses net g t edge instance) a in
        (sym (ap (λ (y : ℕ × ℕ). y.0) e), (let f : instance ≡ x.1 = ap (λ (y : ℕ × ℕ). y.1) e in omega arith)))
    | inr b ↦ (let r = edge_in edge (instance + 1) left x b in (r.0, omega (arith, r.1)))
  ]

  edges_in : (edge left : ℕ) (x : ℕ × ℕ) → In (keys_of_edges net g t edge left) x → edge ≤ x.0
  edges_in edge zero x i = absurd (in_nothing x i)
  edges_in edge (suc left) x i = elim (in_append (keys_of_edge net g t edge 0 (instances net g.cycle (edge_at net edge).from_task)) (keys_of_edges net g t (edge + 1) left) x i) [
    | inl a ↦ (let r = edge_in edge 0 (instances net g.cycle (edge_at net edge).from_task) x a in omega (arith, r.0))
    | inr b ↦ (let r = edges_in (edge + 1) left x b in omega arith)
  ]

  distinct_edge : (edge instance left : ℕ) → AreDistinct (keys_of_edge net g t edge instance left)
  distinct_edge edge instance zero = distinct_none
  distinct_edge edge instance (suc left) =
      distinct_both (key_if net g t edge instance) (keys_of_edge net g t edge (instance + 1) left) (distinct_if (edge, instance) (crosses net g t edge instance)) (distinct_edge edge (instance + 1) left)
      (λ x i j. (
      let e : (edge, instance) ≡ x = in_if (edge, instance) x (crosses net g t edge instance) i in
      let f : instance ≡ x.1 = ap (λ (y : ℕ × ℕ). y.1) e in
      let r = edge_in edge (instance + 1) left x j in
      omega (arith, r.1)))

  distinct_edges : (edge left : ℕ) → AreDistinct (keys_of_edges net g t edge left)
  distinct_edges edge zero = distinct_none
  distinct_edges edge (suc left) =
      distinct_both (keys_of_edge net g t edge 0 (instances net g.cycle (edge_at net edge).from_task)) (keys_of_edges net g t (edge + 1) left)
      (distinct_edge edge 0 (instances net g.cycle (edge_at net edge).from_task)) (distinct_edges (edge + 1) left)
      (λ x i j. (
      let a = edge_in edge 0 (instances net g.cycle (edge_at net edge).from_task) x i in
      let b = edges_in (edge + 1) left x j in
      omega (arith, a.0)))

-- messages at two places differ in edge or instance
differ : (net : Net) (lengths : List ℕ) (g : JobGraph) (l : List Decision) (i k : ℕ) (m n : Message) → IsNetGraphFor net lengths g → IsFull (problem_of net g) l → slice_get (net_tables net g l).messages i ≡ Some m → slice_get (net_tables net g l).messages k ≡ Some n
    → m.edge ≡ n.edge → m.instance ≡ n.instance → i ≡ k
differ net lengths g l i k m n h f a b edge instance =
    let same = all_keys net lengths g l h f in
    let at : (j : ℕ) (o : Message) → slice_get (net_tables net g l).messages j ≡ Some o → slice_get (keys_of_edges net g (net_tables net g l) 0 (length net.edges)) j ≡ Some (o.edge, o.instance) = λ j o e. (
    ap (λ (xs : List (ℕ × ℕ)). slice_get xs j) (sym same) ∙ (slice_get-map (λ (x : Message). (x.edge, x.instance)) (net_tables net g l).messages j ∙ ap (option_map (λ (x : Message). (x.edge, x.instance))) e)) in
    let one : (n.edge, n.instance) ≡ (m.edge, m.instance) = ap₂ (λ (x y : ℕ). (x, y)) (sym edge) (sym instance) in
    distinct_edges net g (net_tables net g l) 0 (length net.edges) i k (m.edge, m.instance) (at i m a) (at k n b ∙ ap Some one)

-- two messages of one decision over two edges
parted_within : (l : List Decision) (d : Decision) (m n : Sent) → HasFrames l → In l d → In d.sent m → In d.sent n → (m.edge ≡ n.edge → ⊥) → m.unit ≡ n.unit → m.round ≡ n.round → AreParted m n
parted_within l d m n h i p q ne u r = elim (cases_order p.0 q.0) [
  | inl e ↦ absurd (let s : Some m ≡ Some n = sym p.1 ∙ (ap (slice_get d.sent) e ∙ q.1) in let t : m ≡ n = cc in ne (ap (λ (x : Sent). x.edge) t))
  | inr c ↦ elim c [
    | inl low ↦ inl (h.within d i p.0 q.0 m n low p.1 q.1 u r)
    | inr high ↦ inr (h.within d i q.0 p.0 n m high q.1 p.1 (sym u) (sym r))
  ]
]

parted : (net : Net) (lengths : List ℕ) (g : JobGraph) (l : List Decision) (i k : ℕ) (m n : Message) → IsNetGraphFor net lengths g → IsFull (problem_of net g) l → slice_get (net_tables net g l).messages i ≡ Some m → slice_get (net_tables net g l).messages k ≡ Some n
    → (i ≡ k → ⊥) → (s : IsSentIn (problem_of net g) l m) → (t : IsSentIn (problem_of net g) l n) → s.sent.unit ≡ t.sent.unit → s.sent.round ≡ t.sent.round → AreParted s.sent t.sent
parted net lengths g l i k m n h f a b ne s t u r =
    let fr = frames (problem_of net g) l f.reached in
    let p = on_is l s.job s.decision s.on in
    let q = on_is l t.job t.decision t.on in
    elim (cases_eq s.job t.job) [
      | inl e ↦ (
          let same : Some s.decision ≡ Some t.decision = sym s.on ∙ (ap (decision_on l) e ∙ t.on) in
          let one : t.decision ≡ s.decision = cc in
          let instance : m.instance ≡ n.instance = sym (ap (λ (x : Message). x.instance) s.is) ∙ (ap (λ x. (work_at (problem_of net g) x).instance) e ∙ ap (λ (x : Message). x.instance) t.is) in
          parted_within l s.decision s.sent t.sent fr p.0 s.is_sent (subst (λ (x : Decision). In x.sent t.sent) one t.is_sent)
          (λ d. ne (differ net lengths g l i k m n h f a b (sym (ap (λ (x : Message). x.edge) s.is) ∙ (d ∙ ap (λ (x : Message). x.edge) t.is)) instance)) u r)
      | inr other ↦ fr.across s.decision t.decision p.0 q.0 (λ e. other (sym p.1 ∙ (e ∙ q.1))) s.sent t.sent s.is_sent t.is_sent u r
    ]

apart : (net : Net) (lengths : List ℕ) (g : JobGraph) (l : List Decision) (i k : ℕ) (m n : Message) → IsNetGraphFor net lengths g → IsFull (problem_of net g) l → slice_get (net_tables net g l).messages i ≡ Some m → slice_get (net_tables net g l).messages k ≡ Some n
    → (i ≡ k → ⊥) → ShareAWord net m n → ⊥
apart net lengths g l i k m n h f a b ne w =
    let s = sent_in (problem_of net g) l (problem_of net g).edges m (i, a) in
    let t = sent_in (problem_of net g) l (problem_of net g).edges n (k, b) in
    let v = known net lengths g l m h f s in
    let x = known net lengths g l n h f t in
    let unit : s.sent.unit ≡ t.sent.unit = ap (λ (y : Message). y.unit) s.is ∙ (w.unit ∙ sym (ap (λ (y : Message). y.unit) t.is)) in
    let round : s.sent.round ≡ t.sent.round = ap (λ (y : Message). y.round) s.is ∙ (w.round ∙ sym (ap (λ (y : Message). y.round) t.is)) in
    let first : s.sent.offset ≡ m.offset = ap (λ (y : Message). y.offset) s.is in
    let second : t.sent.offset ≡ n.offset = ap (λ (y : Message). y.offset) t.is in
    let c = w.shared in
    elim (parted net lengths g l i k m n h f a b ne s t unit round) [
      | inl low ↦ omega (arith, v.words, c.1.1, c.2.0)
      | inr high ↦ omega (arith, x.words, c.1.0, c.2.1)
    ]

fits : (net : Net) (lengths : List ℕ) (g : JobGraph) (l : List Decision) (m : Message) → IsNetGraphFor net lengths g → IsFull (problem_of net g) l → IsSentIn (problem_of net g) l m → m.offset + words_of net m ≤ (bus_of net g).slot_words
fits net lengths g l m h f s =
    let v = known net lengths g l m h f s in
    let p = on_is l s.job s.decision s.on in
    let k = (good (problem_of net g) l f.reached).framed s.decision p.0 s.sent s.is_sent in
    let first : s.sent.offset ≡ m.offset = ap (λ (y : Message). y.offset) s.is in
    omega (arith, v.words, k.fits)

-- Rule 8
pub frames_kept : (net : Net) (lengths : List ℕ) (g : JobGraph) (l : List Decision) → IsNetGraphFor net lengths g → IsFull (problem_of net g) l → FitsFrames net (bus_of net g) (net_tables net g l)
frames_kept net lengths g l h f = record {
  fits = λ i low. fits net lengths g l (message_at (net_tables net g l) i) h f
      (sent_in (problem_of net g) l (problem_of net g).edges (message_at (net_tables net g l) i) (i, slice_get-get_or (net_tables net g l).messages i no_message low));
  apart = λ i k low there ne w. apart net lengths g l i k (message_at (net_tables net g l) i) (message_at (net_tables net g l) k) h f
      (slice_get-get_or (net_tables net g l).messages i no_message low) (slice_get-get_or (net_tables net g l).messages k no_message there) ne w;
}
