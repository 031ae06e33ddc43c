-- Each enabled event keeps what holds.
use Rattle.std.proofs.Common.{◌≡◌, ℕ, suc, ◌+◌, ◌-◌, ◌<◌, ◌≤◌, inl, inr, List, length, set, ℤ, true, false, cond, None, refl, sym, ◌∙◌, ap, arith}
use Rattle.std.proofs.lemmas.Bool.{cases_Bool}
use Rattle.std.proofs.lemmas.List.{length-set}
use Rattle.mars_base.specs.declared.shape.Side.{Side}
use Rattle.bus.specs.SlotState.{cut}
use Rattle.script.specs.declared.script.Silence.{Silence}
use Rattle.net_run.specs.NetRun.{JobResult}
use Rattle.cluster_model.specs.Plan.{Plan, listed}
use Rattle.cluster_model.specs.PlanRun.{AreResults}
use Rattle.cluster_model.specs.Silences.{falls}
use Rattle.cluster_model.specs.Sound.{IsSoundPlan, AreGiven}
use Rattle.cluster_model.specs.State.{told, Running, Silent, Member, replica_number, member_of, bus_in}
use Rattle.cluster_model.specs.Tick.{took}
use Rattle.cluster_model.specs.Cluster.{IsEnabled, fallen, after_tick, event}
use Rattle.cluster_agreement.specs.Keeps.{word, Keeps, Holds}
use Rattle.cluster_agreement.proofs.Frames.{takes_right}
use Rattle.cluster_agreement.proofs.Jobs.{still_waiting, still_busy, now_over}
use Rattle.cluster_agreement.proofs.Reading.{listed_at, cut_at, number_within, put_cases}
use Rattle.cluster_agreement.proofs.Slots.{next_ahead, next_amid, next_past, cut_partly}
use Rattle.cluster_agreement.proofs.States.{still_states}

pub not_silent : Silent ≡ Running → ⊥
not_silent e = cc

module _ (p : Plan) (silences : List Silence) (cycle : ℕ) (start : ℕ → List ℤ) (line : List ℤ) (res : ℕ → JobResult) where
  abbrev pub HoldsHere : List Member → Type 0
  HoldsHere members = Holds p start line res (λ u x t. falls silences u x cycle t) members

  abbrev pub KeepsHere : (u : ℕ) → Side → Member → Type 0
  KeepsHere u x m = Keeps p start line res (λ v y t. falls silences v y cycle t) u x m

  fall_keeps : (u : ℕ) (x : Side) (m : Member) → KeepsHere u x m → falls silences u x cycle m.held.clock ≡ true → m.held.clock < p.cycle → KeepsHere u x (fallen m)
  fall_keeps u x m k f l = record {
    clock = k.clock;
    fell = λ _. (f, l);
    states = λ e. absurd (not_silent e);
    waiting = k.waiting;
    busy = k.busy;
    over = k.over;
    taken = k.taken;
    ahead = λ n b c. cut_at m.slots n ∙ ap cut (k.ahead n b c);
    amid = λ n b c e. cut_at m.slots n ∙ ap cut (k.amid n b c e) ∙ cut_partly m.mode (listed (m.held.clock - p.slot n u x) (word p res n u));
    past = λ n b c. cut_at m.slots n ∙ ap cut (k.past n b c);
  }

  module _ (out_words : ℕ → ℕ) (d : IsSoundPlan p out_words) (c : AreResults p start line res) (fits : AreGiven p out_words (λ j. told (res j)))
      (runs : (u : ℕ) → u < p.units → (x : Side) × ((t : ℕ) → t < p.cycle → falls silences u x cycle t ≡ false)) where
    tick_keeps : (members : List Member) (u : ℕ) (x : Side) → HoldsHere members → IsEnabled p members u x → KeepsHere u x (after_tick p line members u x (member_of members u x))
    tick_keeps members u x h e =
        let k : KeepsHere u x (member_of members u x) = h.each u x e.unit_is in
        let q : (member_of members u x).mode ≡ Running = e.runs in
        let t = takes_right p start line res (λ v y t. falls silences v y cycle t) out_words members d h runs fits u x e in
        record {
          clock = omega (arith, e.below);
          fell = λ s. absurd (not_silent (sym s ∙ q));
          states = λ o. still_states p out_words start line res (λ v y t. falls silences v y cycle t) (bus_in members) u x (member_of members u x) d c k q t;
          waiting = still_waiting p out_words start line res (λ v y t. falls silences v y cycle t) (bus_in members) u x (member_of members u x) d c k q t;
          busy = still_busy p out_words start line res (λ v y t. falls silences v y cycle t) (bus_in members) u x (member_of members u x) d c k q t;
          over = now_over p out_words start line res (λ v y t. falls silences v y cycle t) (bus_in members) u x (member_of members u x) d c k q t;
          taken = λ n b a l. listed_at p.messages (took p (bus_in members) u (member_of members u x).held) n None b ∙ t n b a (omega (arith, l));
          ahead = next_ahead p out_words start line res (λ v y t. falls silences v y cycle t) u x (member_of members u x) d k q e.unit_is;
          amid = next_amid p out_words start line res (λ v y t. falls silences v y cycle t) u x (member_of members u x) d k q e.unit_is;
          past = next_past p out_words start line res (λ v y t. falls silences v y cycle t) u x (member_of members u x) d k q e.unit_is;
        }

    event_keeps : (members : List Member) (u : ℕ) (x : Side) → HoldsHere members → IsEnabled p members u x → KeepsHere u x (event p silences cycle line members u x (member_of members u x))
    event_keeps members u x h e = elim (cases_Bool (falls silences u x cycle (member_of members u x).held.clock)) [
      | inl f ↦ rw f (fall_keeps u x (member_of members u x) (h.each u x e.unit_is) f e.below)
      | inr n ↦ rw n (tick_keeps members u x h e)
    ]

    -- a replica that still runs after its event made a tick
    running_clock : (members : List Member) (u : ℕ) (x : Side) (m : Member) → (event p silences cycle line members u x m).mode ≡ Running → (event p silences cycle line members u x m).held.clock ≡ suc m.held.clock
    running_clock members u x m = elim (falls silences u x cycle m.held.clock) as (λ b. (cond b (fallen m) (after_tick p line members u x m)).mode ≡ Running → (cond b (fallen m) (after_tick p line members u x m)).held.clock ≡ suc m.held.clock) [
      | true ↦ λ e. absurd (not_silent e)
      | false ↦ λ e. refl
    ]

    pub step_keeps : (members : List Member) (u : ℕ) (x : Side) → HoldsHere members → IsEnabled p members u x
        → HoldsHere (set members (replica_number u x) (event p silences cycle line members u x (member_of members u x)))
    step_keeps members u x h e =
        let new : Member = event p silences cycle line members u x (member_of members u x) in
        let low : replica_number u x < length members = omega (arith, number_within p.units u x e.unit_is, h.size) in
        record {
          size = length-set members (replica_number u x) (event p silences cycle line members u x (member_of members u x)) ∙ h.size;
          each = put_cases (λ v y m. v < p.units → KeepsHere v y m) members u x new low (λ l. event_keeps members u x h e) h.each;
          skew = λ v y v2 y2. put_cases
              (λ v y m. v < p.units → v2 < p.units → m.mode ≡ Running → (member_of (set members (replica_number u x) new) v2 y2).mode ≡ Running
              → m.held.clock ≤ (member_of (set members (replica_number u x) new) v2 y2).held.clock + p.skew)
              members u x new low
              (put_cases (λ v2 y2 m2. u < p.units → v2 < p.units → new.mode ≡ Running → m2.mode ≡ Running → new.held.clock ≤ m2.held.clock + p.skew)
              members u x new low (λ l m s s2. omega arith)
              (λ v2 y2 l m s s2. let o = running_clock members u x (member_of members u x) s in let q = e.close v2 y2 m s2 in omega (arith, o, q)) v2 y2)
              (λ v y. put_cases (λ v2 y2 m2. v < p.units → v2 < p.units → (member_of members v y).mode ≡ Running → m2.mode ≡ Running → (member_of members v y).held.clock ≤ m2.held.clock + p.skew)
              members u x new low
              (λ l m s s2. let o = running_clock members u x (member_of members u x) s2 in let q = h.skew v y u x l e.unit_is s e.runs in omega (arith, o, q))
              (λ v2 y2 l m s s2. h.skew v y v2 y2 l m s s2) v2 y2)
              v y;
        }
