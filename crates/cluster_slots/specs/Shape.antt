-- What holds of clocks and slots at every moment of every cycle, whatever is lost.
use Rattle.std.specs.Prelude.{◌≡◌, ℕ, ◌+◌, ◌-◌, ◌*◌, ◌<◌, ◌≤◌, true, List, length, get_or, ℤ, pos}
use Rattle.mars_base.specs.declared.shape.Side.{Side}
use Rattle.bus.specs.SlotState.{Open, Whole, slot_at}
use Rattle.cluster_agreement.specs.Keeps.{partly, Falling}
use Rattle.cluster_model.specs.Plan.{Plan}
use Rattle.cluster_model.specs.State.{Running, Silent, Member, member_of}

module _ (p : Plan) (falling : Falling) (said : (unit : ℕ) → Side → (round number : ℕ) → ℤ → Type 0) where
  -- so many words, each put by the replica at its tick
  pub record AreSaid (unit : ℕ) (side : Side) (round count : ℕ) (words : List ℤ) : Type 0 where
    pub count_is : length words ≡ count
    pub each : (i : ℕ) → i < count → said unit side round i (get_or words i (pos 0))

  pub record Shape (unit : ℕ) (side : Side) (m : Member) : Type 0 where
    pub clock : m.held.clock ≤ p.cycle
    -- the clock of a replica that fell in this cycle stays at the tick of its silence
    pub fell : m.mode ≡ Silent → (falling unit side m.held.clock ≡ true) × (m.held.clock < p.cycle)
    -- a slot is open before its ticks, has a word for each of its ticks so far, and is whole after them
    pub ahead : (k : ℕ) → k < p.rounds → m.held.clock ≤ p.slot k unit side → slot_at m.slots k ≡ Open
    pub amid : (k : ℕ) → k < p.rounds → p.slot k unit side < m.held.clock → m.held.clock < p.slot k unit side + p.words
        → (words : List ℤ) × AreSaid unit side k (m.held.clock - p.slot k unit side) words × (slot_at m.slots k ≡ partly m.mode words)
    pub past : (k : ℕ) → k < p.rounds → p.slot k unit side + p.words ≤ m.held.clock → (words : List ℤ) × AreSaid unit side k p.words words × (slot_at m.slots k ≡ Whole words)

  pub record Shapes (members : List Member) : Type 0 where
    pub size : length members ≡ 2 * p.units
    pub each : (u : ℕ) (x : Side) → u < p.units → Shape u x (member_of members u x)
    -- the clocks of replicas that run differ by at most the greatest difference
    pub skew : (u : ℕ) (x : Side) (v : ℕ) (y : Side) → u < p.units → v < p.units → (member_of members u x).mode ≡ Running → (member_of members v y).mode ≡ Running
        → (member_of members u x).held.clock ≤ (member_of members v y).held.clock + p.skew
