-- A replica's desk after the first three parts of a tick.
use Rattle.std.proofs.Common.{◌≡◌, ◌≢◌, ℕ, suc, ◌+◌, ◌<◌, ◌≤◌, inl, inr, List, [], ◌∷◌, length, get_or, set, map, ℤ, Option, None, Some, refl, sym, ◌∙◌, ap, subst, arith}
use Rattle.std.specs.Prelude.{⊤, sum}
use Rattle.std.proofs.Math.ListN.{get_or-map}
use Rattle.std.proofs.lemmas.Bool.{cases_eq}
use Rattle.std.proofs.lemmas.List.{get_or-set_same, get_or-set_other}
use Rattle.graph.specs.JobGraph.{JobGraph}
use Rattle.graph.specs.Net.{ins_of}
use Rattle.graph.specs.NetGraph.{IsNetGraph}
use Rattle.graph.specs.declared.net.Net.{Net}
use Rattle.tables.specs.Named.{job_at, entry_at}
use Rattle.tables.specs.Valid.{AreValid}
use Rattle.tables.specs.declared.rule.TableRule.TheVariants as rule
use Rattle.tables.specs.declared.table.Tables.{Tables}
use Rattle.job_book.specs.Known.{Known, Waiting, InHand, Gave, Broke, PassedOver, Book, known_in, given_by, status_of}
use Rattle.carried_words.specs.Says.{IsBookOf}
use Rattle.job_inputs.specs.Look.{IsInboxOf}
use Rattle.replica_parts.specs.Inbox.{Taken}
use Rattle.cluster_plan.proofs.Numbers.{ends_after}
use Rattle.cluster_model.specs.State as status
use Rattle.cluster_model.specs.State.{Status, given}
use Rattle.tick_parts.specs.Opens.{StartsAt}
use Rattle.tick_parts.specs.Takes.{AreWidths}
use Rattle.tick_parts.specs.Tells.{Tells}
use Rattle.replica_desk.specs.Desk.{state_in_hand, held_in, IsInHand, HasInHand, IsDesk}
use Rattle.replica_desk.specs.declared.desk.Desk.{Desk}

given_status : (s i : List ℤ) (known : Known) → given (status_of s i known) ≡ given_by known
given_status s i Waiting = refl
given_status s i InHand = refl
given_status s i (Gave outs) = refl
given_status s i Broke = refl
given_status s i PassedOver = refl

same_status : (s i s2 i2 : List ℤ) (known : Known) → known ≢ InHand → status_of s i known ≡ status_of s2 i2 known
same_status s i s2 i2 Waiting other = refl
same_status s i s2 i2 InHand other = absurd (other refl)
same_status s i s2 i2 (Gave outs) other = refl
same_status s i s2 i2 Broke other = refl
same_status s i s2 i2 PassedOver other = refl

-- where no job is in hand it doesn't matter from what one would run
pub none_runs : (s i s2 i2 : List ℤ) (jobs : List Known) → ((k : ℕ) → get_or jobs k Waiting ≢ InHand) → map (status_of s i) jobs ≡ map (status_of s2 i2) jobs
none_runs s i s2 i2 [] none = refl
none_runs s i s2 i2 (x ∷ xs) none =
    ap (λ (y : Status). y ∷ map (status_of s i) xs) (same_status s i s2 i2 x (none 0)) ∙ ap (λ ys. status_of s2 i2 x ∷ ys) (none_runs s i s2 i2 xs (λ k. none (suc k)))

-- the book tells what the model's replica holds
pub tells : (g : JobGraph) (d : Desk) → Tells d.book (held_in g d)
tells g d = λ job.
    ap given (get_or-map (status_of (state_in_hand g d.states d.hand) d.ins) d.book.jobs job Waiting) ∙ given_status (state_in_hand g d.states d.hand) d.ins (known_in d.book job)

module _ (net : Net) (g : JobGraph) (t : Tables) (n : IsNetGraph net g) (v : AreValid net g t) (unit : ℕ) (d : Desk) (h : IsDesk net g t unit 1 d) where
  hand_is : (k : ℕ) → known_in d.book k ≡ InHand → IsInHand net g t unit 1 d k
  hand_is k e = subst (HasInHand net g t unit 1 d) (h.only k e) h.hand

  -- a job that starts finds none in hand
  pub free : (job k : ℕ) → job < length g.jobs → StartsAt t unit d.clock job → known_in d.book k ≢ InHand
  free job k low starts e =
      let w = hand_is k e in
      let long = ends_after net g n t v job low in
      v rule.Ticks k job w.known low
      (λ same. omega (arith, w.begun, starts.start_is, ap (λ x. (entry_at t x).start) same))
      (record { unit = w.unit_is ∙ sym starts.unit_is; together = (d.clock, (omega (arith, w.begun), w.going), (omega (arith, starts.start_is), omega (arith, starts.start_is, long))) })

  module _ (book : Book) (inbox : Taken) (ins : List ℤ) (is_book : IsBookOf net g book) (is_inbox : IsInboxOf net t inbox) (widths : AreWidths net t inbox.widths) where
    -- a job has started
    pub started : (job : ℕ) → job < length g.jobs → StartsAt t unit d.clock job → length ins ≡ sum (ins_of net (job_at g job).task) → book.jobs ≡ set d.book.jobs job InHand
        → d.clock < g.cycle → IsDesk net g t unit 0 (record { clock = d.clock; hand = Some job; book = book; states = d.states; inbox = inbox; ins = ins })
    started job low starts count is before =
        let long = ends_after net g n t v job low in
        let size : job < length d.book.jobs = omega (arith, low, h.book.jobs) in
        record {
          clock = h.clock;
          book = is_book;
          inbox = is_inbox;
          widths = widths;
          states = h.states;
          hand = record {
            known = low;
            unit_is = starts.unit_is;
            begun = omega (arith, starts.start_is);
            going = omega (arith, starts.start_is, long);
            in_hand = ap (λ (ks : List Known). get_or ks job Waiting) is ∙ get_or-set_same d.book.jobs job InHand Waiting size;
            ins = count;
          };
          only = λ k e. elim (cases_eq k job) [
            | inl here ↦ ap (λ x. Some x) (sym here)
            | inr other ↦ absurd (free job k low starts (sym (get_or-set_other d.book.jobs job k InHand Waiting other) ∙ sym (ap (λ (ks : List Known). get_or ks k Waiting) is) ∙ e))
          ];
        }

    module _ (no_more : (k : ℕ) → known_in book k ≡ InHand → known_in d.book k ≡ InHand) (keeps : (k : ℕ) → known_in d.book k ≡ InHand → known_in book k ≡ InHand)
        (still : ((job : ℕ) → job < length g.jobs → StartsAt t unit d.clock job → ⊥) → ins ≡ d.ins) where
      same_ins : (job : ℕ) → known_in d.book job ≡ InHand → ins ≡ d.ins
      same_ins job e = still (λ other low starts. free other job low starts e)

      -- the job in hand keeps its inputs
      pub went_on : (job : ℕ) → d.hand ≡ Some job → ins ≡ d.ins
      went_on job e = same_ins job (let w : IsInHand net g t unit 1 d job = subst (HasInHand net g t unit 1 d) e h.hand in w.in_hand)

      goes_on : (o : Option ℕ) → HasInHand net g t unit 1 d o → HasInHand net g t unit 0 (record { clock = d.clock; hand = d.hand; book = book; states = d.states; inbox = inbox; ins = ins }) o
      goes_on None w = tt
      goes_on (Some job) w = record {
        known = w.known;
        unit_is = w.unit_is;
        begun = omega (arith, w.begun);
        going = w.going;
        in_hand = keeps job w.in_hand;
        ins = ap length (same_ins job w.in_hand) ∙ w.ins;
      }

      -- no job has started
      pub stays : IsDesk net g t unit 0 (record { clock = d.clock; hand = d.hand; book = book; states = d.states; inbox = inbox; ins = ins })
      stays = record {
        clock = h.clock;
        book = is_book;
        inbox = is_inbox;
        widths = widths;
        states = h.states;
        hand = goes_on d.hand h.hand;
        only = λ k e. h.only k (no_more k e);
      }

      one_or_none : (o : Option ℕ) → d.hand ≡ o → HasInHand net g t unit 1 d o → (s : List ℤ) → map (status_of s ins) book.jobs ≡ map (status_of s d.ins) book.jobs
      one_or_none None is w s = none_runs s ins s d.ins book.jobs (λ k e. no_hand k (sym is ∙ h.only k (no_more k e)))
        where
          no_hand : (k : ℕ) → None ≡ Some k → ⊥
          no_hand k e = cc
      one_or_none (Some job) is w s = ap (λ (xs : List ℤ). map (status_of s xs) book.jobs) (same_ins job w.in_hand)

      -- and what is seen of the jobs is the same with the inputs that are there
      pub seen_same : (s : List ℤ) → map (status_of s ins) book.jobs ≡ map (status_of s d.ins) book.jobs
      seen_same = one_or_none d.hand refl h.hand
