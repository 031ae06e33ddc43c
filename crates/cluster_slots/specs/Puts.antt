-- Which word which replica put at which of its ticks, in a list of events.
use Rattle.std.specs.Prelude.{◌≡◌, ℕ, ◌+◌, ◌<◌, ◌⊎◌, false, List, [], ◌∷◌, ℤ}
use Rattle.mars_base.specs.declared.shape.Side.{Side}
use Rattle.script.specs.declared.script.Silence.{Silence}
use Rattle.cluster_agreement.specs.Runs.{Event}
use Rattle.cluster_model.specs.Cluster.{settled, step}
use Rattle.cluster_model.specs.Plan.{Plan}
use Rattle.cluster_model.specs.Silences.{falls}
use Rattle.cluster_model.specs.State.{status_in, member_of, State}
use Rattle.cluster_model.specs.Tick.{fed}

module _ (p : Plan) (silences : List Silence) where
  -- in this event the replica performs the tick of word `number` of its slot of the round, and puts this word there
  pub record PutsNow (s : State) (e : Event) (cycle unit : ℕ) (side : Side) (round number : ℕ) (word : ℤ) : Type 0 where
    pub cycle_is : (settled p s).cycle ≡ cycle
    pub unit_is : e.unit ≡ unit
    pub side_is : e.side ≡ side
    pub stays : falls silences unit side cycle (member_of (settled p s).members unit side).held.clock ≡ false
    pub within : number < p.words
    pub tick : (member_of (settled p s).members unit side).held.clock ≡ p.slot round unit side + number
    pub word_is : word ≡ p.frame_word round unit (λ m. fed p (status_in (member_of (settled p s).members unit side).held) (p.edge_of m) (p.instance_of m)) number

  -- in one of the events from this state on
  abbrev pub Puts : State → List Event → (cycle unit : ℕ) → Side → (round number : ℕ) → ℤ → Type 0
  Puts s [] cycle unit side round number word = ⊥
  Puts s (e ∷ events) cycle unit side round number word =
      PutsNow s e cycle unit side round number word ⊎ Puts (step p silences e.line e.unit e.side s) events cycle unit side round number word
