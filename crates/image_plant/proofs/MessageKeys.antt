-- The messages of valid tables name edges, and instances of their tasks.
use Rattle.std.proofs.Common.{◌≡◌, ℕ, zero, suc, ◌+◌, ◌<◌, Bool, true, false, [], ◌∷◌, length, All, refl, sym, subst, arith}
use Rattle.std.specs.Prelude.{if◌then◌else◌}
use Rattle.std.proofs.lemmas.List.Elements.{All-append, All-cons, All-nil, All-same, All-weaker}
use Rattle.graph.specs.declared.net.Net.{Net}
use Rattle.graph.specs.JobGraph.{JobGraph}
use Rattle.graph.specs.Net.{instances}
use Rattle.tables.specs.declared.table.Message.{Message}
use Rattle.tables.specs.declared.table.Tables.{Tables}
use Rattle.tables.specs.Named.{edge_at}
use Rattle.tables.specs.Rules.{crosses, key_if, keys_of, keys_of_edge, keys_of_edges}
use Rattle.image_plant.proofs.Back.{All-unmap}

-- one key or none
one_key : (P : ℕ × ℕ → Type 0) (b : Bool) (k : ℕ × ℕ) → P k → All P (if b then k ∷ [] else [])
one_key P true k h = All-cons P k [] h (All-nil P)
one_key P false k h = All-nil P

-- an edge's key is of that edge, and of an instance below the last
abbrev OfEdge : (edge last : ℕ) → ℕ × ℕ → Type 0
OfEdge edge last k = (k.0 ≡ edge) × (k.1 < last)

of_edge : (net : Net) (g : JobGraph) (t : Tables) (edge instance left : ℕ) → All (OfEdge edge (instance + left)) (keys_of_edge net g t edge instance left)
of_edge net g t edge instance zero = All-nil (OfEdge edge (instance + zero))
of_edge net g t edge instance (suc left) =
    All-append (OfEdge edge (instance + suc left)) (key_if net g t edge instance) (keys_of_edge net g t edge (instance + 1) left)
    (one_key (OfEdge edge (instance + suc left)) (crosses net g t edge instance) (edge, instance) (refl, omega arith))
    (All-weaker (OfEdge edge (instance + 1 + left)) (OfEdge edge (instance + suc left)) (λ k h. (h.0, omega (arith, h.1))) (keys_of_edge net g t edge (instance + 1) left) (of_edge net g t edge (instance + 1) left))

-- a key names one of the first edges, and an instance of its task
abbrev pub IsKey : Net → JobGraph → (edges : ℕ) → ℕ × ℕ → Type 0
IsKey net g edges k = (k.0 < edges) × (k.1 < instances net g.cycle (edge_at net k.0).from_task)

is_key : (net : Net) (g : JobGraph) (edge edges : ℕ) → edge < edges → (k : ℕ × ℕ) → OfEdge edge (0 + instances net g.cycle (edge_at net edge).from_task) k → IsKey net g edges k
is_key net g edge edges low k h = (omega (arith, h.0, low), subst (λ e. k.1 < instances net g.cycle (edge_at net e).from_task) (sym h.0) (omega (arith, h.1)))

of_edges : (net : Net) (g : JobGraph) (t : Tables) (edge left edges : ℕ) → edge + left ≡ edges → All (IsKey net g edges) (keys_of_edges net g t edge left)
of_edges net g t edge zero edges e = All-nil (IsKey net g edges)
of_edges net g t edge (suc left) edges e =
    All-append (IsKey net g edges) (keys_of_edge net g t edge 0 (instances net g.cycle (edge_at net edge).from_task)) (keys_of_edges net g t (edge + 1) left)
    (All-weaker (OfEdge edge (0 + instances net g.cycle (edge_at net edge).from_task)) (IsKey net g edges) (is_key net g edge edges (omega (arith, e)))
    (keys_of_edge net g t edge 0 (instances net g.cycle (edge_at net edge).from_task)) (of_edge net g t edge 0 (instances net g.cycle (edge_at net edge).from_task)))
    (of_edges net g t (edge + 1) left edges (omega (arith, e)))

abbrev key_of : Message → ℕ × ℕ
key_of m = (m.edge, m.instance)

-- each message names an edge, and an instance of its task
pub keys_there : (net : Net) (g : JobGraph) (t : Tables) → keys_of t.messages ≡ keys_of_edges net g t 0 (length net.edges) → All (λ (m : Message). IsKey net g (length net.edges) (m.edge, m.instance)) t.messages
keys_there net g t e =
    All-unmap (IsKey net g (length net.edges)) key_of t.messages
    (All-same (IsKey net g (length net.edges)) (keys_of t.messages) (keys_of_edges net g t 0 (length net.edges)) e (of_edges net g t 0 (length net.edges) (length net.edges) (omega arith)))
