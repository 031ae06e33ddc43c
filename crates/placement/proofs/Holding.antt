-- All that is kept beside a list, with one decision more and with one less.
use Rattle.std.proofs.Common.{◌≡◌, ℕ, zero, suc, ◌+◌, ◌-◌, ◌<◌, ◌≤◌, ◌⊎◌, inl, inr, Bool, true, false, cond, not, ◌||◌, leb, List, [], ◌∷◌, ◌++◌, length, get_or, Option, Some, None, refl, sym, ap, ◌∙◌, subst, arith, length-append}
use Rattle.std.specs.Prelude.{slice_get, slice_set, slice_index_or, count_by, nat_lt, vec_capacity, replicate, is_some, min}
use Rattle.std.proofs.lemmas.List.{get_or-replicate, length-replicate}
use Rattle.std.proofs.lemmas.List.Sums.{sum_by-cons}
use Rattle.std.proofs.lemmas.Option.{slice_get-get_or, get_or_from_slice_get}
use Rattle.walks.proofs.Right.{reaches_on}
use Rattle.tdma.specs.Layout.{Layout}
use Rattle.tdma.specs.Load.{Load, taken_in}
use Rattle.decisions.specs.declared.placed.Sent.{Sent}
use Rattle.decisions.specs.declared.problem.Problem.{Problem}
use Rattle.decisions.specs.Decision.{Decision, work_at}
use Rattle.decisions.specs.Place.{words_sent}
use Rattle.decisions.specs.Choices.{choices, by_start, rules_of, IsReached}
use Rattle.decisions.specs.IsProblem.{IsProblem}
use Rattle.decisions.specs.Pruned.{pruned}
use Rattle.reached.proofs.Members.{In}
use Rattle.reached.proofs.Good.{good, IsGood, IsChoiceOf, choice_of, choice_sent, words_taken-append, AreSent, AreFramed, last_of}
use Rattle.reached.proofs.Late.{HasNoStart, hopeless_of, pruned_of}
use Rattle.reached.proofs.Prunes.{few_decisions}
use Rattle.unit_ticks.specs.Busy.{Busy}
use Rattle.placement.specs.declared.state.State.{State}
use Rattle.placement.specs.Feeding.{IsNext, flat, first_some, without, one_if}
use Rattle.placement.proofs.Fronts.{front_more, front_less}
use Rattle.placement.specs.Held.{place_of_job, place_of_task, is_past, is_hopeless, HasPlaces, HasWords, HasTicks, IsFront, Holds}
use Rattle.placement.specs.Loads.{IsInside, AreInside, IsLoaded}
use Rattle.placement.proofs.Finding.{places_more, job_more, job_new, job_old, task_more, task_new, task_old, count_append}

-- a choice of a reached list
pub record IsChosenNext (pr : Problem) (l : List Decision) (d : Decision) : Type 0 where
  pub is_good : IsGood pr l
  pub choice : IsChoiceOf pr l d
  pub sent : AreSent pr l d.sent
  pub room : length l < length pr.works

longer : (pr : Problem) (l : List Decision) (d : Decision) → IsReached pr l → In (choices pr l) d → IsReached pr (l ++ d ∷ [])
longer pr l d h c = (h.0 ++ c.0 ∷ [], reaches_on (rules_of pr) [] h.0 l c.0 d h.1 c.1)

pub chosen_next : (pr : Problem) (l : List Decision) (d : Decision) → IsReached pr l → In (choices pr l) d → IsChosenNext pr l d
chosen_next pr l d h c =
    let g = good pr l h in
    let i = choice_of pr l d c in
    let n = length-append l (d ∷ []) in
    record { is_good = g; choice = i; sent = choice_sent pr l d g i; room = omega (arith, few_decisions pr (l ++ d ∷ []) (longer pr l d h c)) }

pub next_reached : (pr : Problem) (l : List Decision) (d : Decision) → IsReached pr l → IsNext pr l d → IsReached pr (l ++ d ∷ [])
next_reached pr l d h n = longer pr l d h (n.rank, n.stands)

pub next_chosen : (pr : Problem) (l : List Decision) (d : Decision) → IsReached pr l → IsNext pr l d → IsChosenNext pr l d
next_chosen pr l d h n = chosen_next pr l d h (n.rank, n.stands)

pub last_chosen : (pr : Problem) (l : List Decision) (d : Decision) → IsReached pr (l ++ d ∷ []) → IsReached pr l × IsChosenNext pr l d
last_chosen pr l d h = let i = last_of pr l d h in (i.front, chosen_next pr l d i.front i.chosen)

-- the messages go in frames of the load
pub sent_inside : (pr : Problem) (ms : List Sent) (layout : Layout) → layout ≡ pr.round → AreFramed pr ms → AreInside layout ms
sent_inside pr ms layout e h = λ i d low. (
    let f = h (get_or ms i d) (i, slice_get-get_or ms i d low) in
    subst (λ x. IsInside x (get_or ms i d)) (sym e) (record { unit = f.unit; round = f.round }))

pub sent_fits : (pr : Problem) (l : List Decision) (ms : List Sent) (f : Load) → HasWords pr l f → AreSent pr l ms → (unit round : ℕ) → unit < f.layout.units → round < f.layout.rounds → taken_in f unit round + words_sent ms unit round ≤ f.layout.slot_words
sent_fits pr l ms f h a unit round u r =
    let units : f.layout.units ≡ pr.round.units = ap (λ (x : Layout). x.units) h.layout in
    let rounds : f.layout.rounds ≡ pr.round.rounds = ap (λ (x : Layout). x.rounds) h.layout in
    let words : f.layout.slot_words ≡ pr.round.slot_words = ap (λ (x : Layout). x.slot_words) h.layout in
    let t = h.taken unit round (omega arith) (omega arith) in
    omega (arith, a.words unit round)

pub words_more : (pr : Problem) (l : List Decision) (d : Decision) (f g : Load) → HasWords pr l f → IsLoaded f g d.sent → HasWords pr (l ++ d ∷ []) g
words_more pr l d f g h i = record {
  layout = i.layout ∙ h.layout;
  taken = λ unit round u r. (
      let units : f.layout.units ≡ pr.round.units = ap (λ (x : Layout). x.units) h.layout in
      let rounds : f.layout.rounds ≡ pr.round.rounds = ap (λ (x : Layout). x.rounds) h.layout in
      omega (arith, i.taken unit round (omega arith) (omega arith), h.taken unit round u r, words_taken-append l d unit round));
}

pub words_less : (pr : Problem) (l : List Decision) (d : Decision) (f g : Load) → HasWords pr (l ++ d ∷ []) f → IsLoaded g f d.sent → HasWords pr l g
words_less pr l d f g h i = record {
  layout = sym i.layout ∙ h.layout;
  taken = λ unit round u r. (
      let e : g.layout ≡ pr.round = sym i.layout ∙ h.layout in
      let units : g.layout.units ≡ pr.round.units = ap (λ (x : Layout). x.units) e in
      let rounds : g.layout.rounds ≡ pr.round.rounds = ap (λ (x : Layout). x.rounds) e in
      omega (arith, i.taken unit round (omega arith) (omega arith), h.taken unit round u r, words_taken-append l d unit round));
}

pub sent_taken : (pr : Problem) (l : List Decision) (d : Decision) (f : Load) → HasWords pr (l ++ d ∷ []) f → (unit round : ℕ) → unit < f.layout.units → round < f.layout.rounds → words_sent d.sent unit round ≤ taken_in f unit round
sent_taken pr l d f h unit round u r =
    let units : f.layout.units ≡ pr.round.units = ap (λ (x : Layout). x.units) h.layout in
    let rounds : f.layout.rounds ≡ pr.round.rounds = ap (λ (x : Layout). x.rounds) h.layout in
    omega (arith, h.taken unit round (omega arith) (omega arith), words_taken-append l d unit round)

-- the tables of places
pub jobs_more : (pr : Problem) (l : List Decision) (d : Decision) (table : List (Option ℕ)) (place : ℕ) → IsChosenNext pr l d → HasPlaces table (length pr.works) (place_of_job l) → place ≡ length l → HasPlaces (slice_set table d.job (Some place)) (length pr.works) (place_of_job (l ++ d ∷ []))
jobs_more pr l d table place c h e =
    places_more table (length pr.works) d.job (Some place) (place_of_job l) (place_of_job (l ++ d ∷ [])) h c.choice.is_job (ap Some e ∙ job_new l d c.choice.opens.new) (job_more l d)

pub jobs_less : (pr : Problem) (l : List Decision) (d : Decision) (table : List (Option ℕ)) → IsChosenNext pr l d → HasPlaces table (length pr.works) (place_of_job (l ++ d ∷ [])) → HasPlaces (slice_set table d.job None) (length pr.works) (place_of_job l)
jobs_less pr l d table c h =
    places_more table (length pr.works) d.job None (place_of_job (l ++ d ∷ [])) (place_of_job l) h c.choice.is_job (job_old l d c.choice.opens.new) (λ k ne. sym (job_more l d k ne))

read_table : (table : List (Option ℕ)) (n k : ℕ) (at : ℕ → Option ℕ) → HasPlaces table n at → k < n → slice_index_or table k None ≡ at k
read_table table n k at h low = get_or_from_slice_get table k (at k) None (h.each k low)

pub tasks_more : (pr : Problem) (l : List Decision) (d : Decision) (table : List (Option ℕ)) (place task : ℕ) → IsProblem pr → IsChosenNext pr l d → HasPlaces table 64 (place_of_task pr l) → place ≡ length l → task ≡ (work_at pr d.job).task
    → HasPlaces (slice_set table task (first_some (slice_index_or table task None) (Some place))) 64 (place_of_task pr (l ++ d ∷ []))
tasks_more pr l d table place task p c h e t =
    let low : task < 64 = omega (arith, (p.works d.job c.choice.is_job).task) in
    let now : first_some (slice_index_or table task None) (Some place) ≡ place_of_task pr (l ++ d ∷ []) task =
    ap (λ o. first_some o (Some place)) (read_table table 64 task (place_of_task pr l) h low) ∙ (ap (λ n. first_some (place_of_task pr l task) (Some n)) e
    ∙ subst (λ x. first_some (place_of_task pr l x) (Some (length l)) ≡ place_of_task pr (l ++ d ∷ []) x) (sym t) (sym (task_new pr l d))) in
    places_more table 64 task (first_some (slice_index_or table task None) (Some place)) (place_of_task pr l) (place_of_task pr (l ++ d ∷ [])) h low now
    (λ k ne. task_more pr l d k (λ x. ne (x ∙ sym t)))

pub tasks_less : (pr : Problem) (l : List Decision) (d : Decision) (table : List (Option ℕ)) (place task : ℕ) → IsProblem pr → IsChosenNext pr l d → HasPlaces table 64 (place_of_task pr (l ++ d ∷ [])) → place ≡ length l → task ≡ (work_at pr d.job).task
    → HasPlaces (slice_set table task (without (slice_index_or table task None) place)) 64 (place_of_task pr l)
tasks_less pr l d table place task p c h e t =
    let low : task < 64 = omega (arith, (p.works d.job c.choice.is_job).task) in
    let now : without (slice_index_or table task None) place ≡ place_of_task pr l task =
    ap (λ o. without o place) (read_table table 64 task (place_of_task pr (l ++ d ∷ [])) h low) ∙ (ap (λ n. without (place_of_task pr (l ++ d ∷ []) task) n) e
    ∙ subst (λ x. without (place_of_task pr (l ++ d ∷ []) x) (length l) ≡ place_of_task pr l x) (sym t) (task_old pr l d)) in
    places_more table 64 task (without (slice_index_or table task None) place) (place_of_task pr (l ++ d ∷ [])) (place_of_task pr l) h low now
    (λ k ne. sym (task_more pr l d k (λ x. ne (x ∙ sym t))))

-- late decisions are counted
pub late_more : (pr : Problem) (l : List Decision) (d : Decision) (late : ℕ) → late ≡ count_by (is_past pr) l → late + one_if (is_past pr d) ≡ count_by (is_past pr) (l ++ d ∷ [])
late_more pr l d late e = let c = count_append (is_past pr) l d in omega arith

pub late_less : (pr : Problem) (l : List Decision) (d : Decision) (late : ℕ) → late ≡ count_by (is_past pr) (l ++ d ∷ []) → (one_if (is_past pr d) ≤ late) × (late - one_if (is_past pr d) ≡ count_by (is_past pr) l)
late_less pr l d late e = let c = count_append (is_past pr) l d in (omega arith, omega arith)

-- some decision is counted
counted_by : (p : Decision → Bool) (x : Decision) (l : List Decision) (b : Bool) → p x ≡ b → 0 < cond b 1 0 + count_by p l → (0 < count_by p l → (d : Decision) × In l d × (p d ≡ true)) → (d : Decision) × In (x ∷ l) d × (p d ≡ true)
counted_by p x l true e h g = (x, (0, refl), e)
counted_by p x l false e h g = let r = g (omega arith) in (r.0, (suc r.1.0, r.1.1), r.2)

counted : (p : Decision → Bool) (l : List Decision) → 0 < count_by p l → (d : Decision) × In l d × (p d ≡ true)
counted p [] h = absurd (omega arith)
counted p (x ∷ l) h =
    let c : count_by p (x ∷ l) ≡ cond (p x) 1 0 + count_by p l = sum_by-cons (λ y. cond (p y) 1 0) x l in
    let n : 0 < cond (p x) 1 0 + count_by p l = subst (λ k. 0 < k) c h in
    counted_by p x l (p x) refl n (counted p l)

counts_first : (b : Bool) (n : ℕ) → b ≡ true → 0 < cond b 1 0 + n
counts_first b n h = rw h (omega arith)

counts : (p : Decision → Bool) (l : List Decision) (d : Decision) (i : ℕ) → slice_get l i ≡ Some d → p d ≡ true → 0 < count_by p l
counts p [] d i h e = absurd (cc)
counts p (x ∷ l) d zero h e =
    let c : count_by p (x ∷ l) ≡ cond (p x) 1 0 + count_by p l = sum_by-cons (λ y. cond (p y) 1 0) x l in
    let s : x ≡ d = cc in
    subst (λ k. 0 < k) (sym c) (counts_first (p x) (count_by p l) (subst (λ y. p y ≡ true) (sym s) e))
counts p (x ∷ l) d (suc i) h e =
    let c : count_by p (x ∷ l) ≡ cond (p x) 1 0 + count_by p l = sum_by-cons (λ y. cond (p y) 1 0) x l in
    let n = counts p l d i h e in
    subst (λ k. 0 < k) (sym c) (omega arith)

past_is : (a b : ℕ) → not (leb a b) ≡ true → b < a
past_is a b h = grind arith

is_past_of : (a b : ℕ) → b < a → not (leb a b) ≡ true
is_past_of a b h = grind arith

or_cases : (a b : Bool) → (a || b) ≡ true → (a ≡ true) ⊎ (b ≡ true)
or_cases true b h = inl refl
or_cases false b h = inr h

or_left : (a b : Bool) → a ≡ true → (a || b) ≡ true
or_left a b h = rw h refl

or_right : (a b : Bool) → b ≡ true → (a || b) ≡ true
or_right true b h = refl
or_right false b h = h

no_start : (pr : Problem) (n : ℕ) → n ≤ length pr.works → is_hopeless pr n ≡ true → (job : ℕ) × HasNoStart pr job
no_start pr zero le h = absurd (cc)
no_start pr (suc job) le h = elim (or_cases (not (leb ((work_at pr job).release + (work_at pr job).remaining) (work_at pr job).deadline)) (is_hopeless pr job) h) [
  | inl g ↦ (job, record { is_job = omega arith; past = past_is ((work_at pr job).release + (work_at pr job).remaining) (work_at pr job).deadline g })
  | inr g ↦ no_start pr job (omega arith) g
]

eq_or : (j n : ℕ) → j < suc n → (j ≡ n) ⊎ (j < n)
eq_or j n h = grind arith

starts_not : (pr : Problem) (n job : ℕ) → job < n → HasNoStart pr job → is_hopeless pr n ≡ true
starts_not pr zero job low h = absurd (omega arith)
starts_not pr (suc n) job low h = elim (eq_or job n low) [
  | inl e ↦ or_left (not (leb ((work_at pr n).release + (work_at pr n).remaining) (work_at pr n).deadline)) (is_hopeless pr n)
      (subst (λ x. not (leb ((work_at pr x).release + (work_at pr x).remaining) (work_at pr x).deadline) ≡ true) e (is_past_of ((work_at pr job).release + (work_at pr job).remaining) (work_at pr job).deadline h.past))
  | inr g ↦ or_right (not (leb ((work_at pr n).release + (work_at pr n).remaining) (work_at pr n).deadline)) (is_hopeless pr n) (starts_not pr n job g h)
]

-- a list that is given up, by what is kept beside it
pub hopeless_pruned : (pr : Problem) (l : List Decision) → IsProblem pr → IsReached pr l → is_hopeless pr (length pr.works) ≡ true → true ≡ pruned pr l
hopeless_pruned pr l p r h = let g = good pr l r in sym (pruned_of pr l p g (inl (no_start pr (length pr.works) (omega arith) h)))

late_not : (pr : Problem) (l : List Decision) (late : ℕ) (b : Bool) → not (leb late 0) ≡ b → IsProblem pr → IsReached pr l → late ≡ count_by (is_past pr) l → pruned pr l ≡ false → b ≡ false
late_not pr l late false i p r e q = refl
late_not pr l late true i p r e q =
    let c = counted (is_past pr) l (let n = past_is late 0 i in omega arith) in
    let t = pruned_of pr l p (good pr l r) (inr (c.0, record { in_list = c.1; past = past_is (c.0.start + (work_at pr c.0.job).remaining) (work_at pr c.0.job).deadline c.2 })) in
    absurd (let j : true ≡ false = sym t ∙ q in cc)

late_by : (pr : Problem) (l : List Decision) (late : ℕ) (b : Bool) → IsProblem pr → IsReached pr l → false ≡ is_hopeless pr (length pr.works) → late ≡ count_by (is_past pr) l → pruned pr l ≡ b → not (leb late 0) ≡ b
late_by pr l late true p r h e q = elim (hopeless_of pr l p (good pr l r) q) [
  | inl n ↦ absurd (let i : false ≡ true = h ∙ starts_not pr (length pr.works) n.0 n.1.is_job n.1 in cc)
  | inr d ↦ (let c = counts (is_past pr) l d.0 d.1.in_list.0 d.1.in_list.1 (is_past_of (d.0.start + (work_at pr d.0.job).remaining) (work_at pr d.0.job).deadline d.1.past) in is_past_of late 0 (omega arith))
]
late_by pr l late false p r h e q = late_not pr l late (not (leb late 0)) refl p r e q

pub late_pruned : (pr : Problem) (l : List Decision) (late : ℕ) → IsProblem pr → IsReached pr l → false ≡ is_hopeless pr (length pr.works) → late ≡ count_by (is_past pr) l → not (leb late 0) ≡ pruned pr l
late_pruned pr l late p r h e = late_by pr l late (pruned pr l) p r h e refl

pub test_same : (n : ℕ) → nat_lt 0 n ≡ not (leb n 0)
test_same zero = refl
test_same (suc n) = grind arith

-- what is kept, part by part
record Kept (pr : Problem) (l : List Decision) (room_for : ℕ) (places homes : List (Option ℕ)) (f : Load) (ticks : Busy) (order : List ℕ) (ranks : List ℕ) (first late : ℕ) (hopeless : Bool) : Type 0 where
  is_problem : IsProblem pr
  reached : IsReached pr l
  room : length pr.works ≤ room_for
  jobs : HasPlaces places (length pr.works) (place_of_job l)
  tasks : HasPlaces homes 64 (place_of_task pr l)
  words : HasWords pr l f
  on_units : HasTicks pr l ticks
  front : IsFront pr l ranks first
  order_is : order ≡ by_start pr (length pr.works)
  late_is : late ≡ count_by (is_past pr) l
  hopeless_is : hopeless ≡ is_hopeless pr (length pr.works)

kept_holds : (n : State) (pr : Problem) (l : List Decision) → n.problem ≡ pr → n.placed.items ≡ l → Kept pr l (vec_capacity n.placed) n.places.items n.homes.items n.frames n.ticks n.order.items n.ranks.items n.first n.late n.hopeless → Holds n
kept_holds n pr l p e k =
    let a = subst (λ x. Kept x l (vec_capacity n.placed) n.places.items n.homes.items n.frames n.ticks n.order.items n.ranks.items n.first n.late n.hopeless) (sym p) k in
    let b = subst (λ x. Kept n.problem x (vec_capacity n.placed) n.places.items n.homes.items n.frames n.ticks n.order.items n.ranks.items n.first n.late n.hopeless) (sym e) a in
    record { is_problem = b.is_problem; reached = b.reached; room = b.room; jobs = b.jobs; tasks = b.tasks; words = b.words; ticks = b.on_units; order_is = b.order_is; front = b.front; late_is = b.late_is; hopeless_is = b.hopeless_is }

none_placed : (n : ℕ) (at : ℕ → Option ℕ) → ((k : ℕ) → at k ≡ None) → HasPlaces (replicate n None) n at
none_placed n at h = record {
  size = length-replicate {A = Option ℕ} n None;
  each = λ k low. slice_get-get_or (replicate n None) k None (omega (arith, length-replicate {A = Option ℕ} n None)) ∙ ap Some (get_or-replicate n k None None low ∙ sym (h k));
}

-- all that is kept, with one decision more
pub push_holds : (s n : State) (d : Decision) (place job task : ℕ) → Holds s → IsNext s.problem s.placed.items d → n.problem ≡ s.problem → n.placed.items ≡ s.placed.items ++ d ∷ [] → vec_capacity s.placed ≤ vec_capacity n.placed
    → n.places.items ≡ slice_set s.places.items job (Some place) → n.homes.items ≡ slice_set s.homes.items task (first_some (slice_index_or s.homes.items task None) (Some place)) → IsLoaded s.frames n.frames d.sent → HasTicks s.problem (s.placed.items ++ d ∷ []) n.ticks → n.order.items ≡ s.order.items → n.ranks.items ≡ s.ranks.items
    → ((k j : ℕ) → slice_get s.order.items k ≡ Some j → s.first ≤ k → k < n.first → is_some (flat (slice_get n.places.items j)) ≡ true)
    → n.late ≡ s.late + one_if (is_past s.problem d) → n.hopeless ≡ s.hopeless → place ≡ length s.placed.items → job ≡ d.job → task ≡ (work_at s.problem d.job).task → Holds n
push_holds s n d place job task h x p l room j t w u o ranks far late hope e i k =
    let pr = s.problem in
    let c = next_chosen pr s.placed.items d h.reached x in
    let jobs : HasPlaces n.places.items (length pr.works) (place_of_job (s.placed.items ++ d ∷ [])) =
    subst (λ xs. HasPlaces xs (length pr.works) (place_of_job (s.placed.items ++ d ∷ []))) (sym (j ∙ ap (λ y. slice_set s.places.items y (Some place)) i)) (jobs_more pr s.placed.items d s.places.items place c h.jobs e) in
    let tasks : HasPlaces n.homes.items 64 (place_of_task pr (s.placed.items ++ d ∷ [])) =
    subst (λ xs. HasPlaces xs 64 (place_of_task pr (s.placed.items ++ d ∷ []))) (sym t) (tasks_more pr s.placed.items d s.homes.items place task h.is_problem c h.tasks e k) in
    let m : Kept pr (s.placed.items ++ d ∷ []) (vec_capacity n.placed) n.places.items n.homes.items n.frames n.ticks n.order.items n.ranks.items n.first n.late n.hopeless = record {
      is_problem = h.is_problem;
      reached = next_reached pr s.placed.items d h.reached x;
      room = omega (arith, h.room);
      jobs = jobs;
      tasks = tasks;
      words = words_more pr s.placed.items d s.frames n.frames h.words w;
      on_units = u;
      front = subst (λ xs. IsFront pr (s.placed.items ++ d ∷ []) xs n.first) (sym ranks)
          (front_more pr s.placed.items d s.ranks.items s.order.items n.places.items s.first n.first h.front (good pr (s.placed.items ++ d ∷ []) (next_reached pr s.placed.items d h.reached x)) jobs h.order_is far);
      order_is = o ∙ h.order_is;
      late_is = late ∙ late_more pr s.placed.items d s.late h.late_is;
      hopeless_is = hope ∙ h.hopeless_is;
    } in
    kept_holds n pr (s.placed.items ++ d ∷ []) p l m

-- the decision that is taken back
pub undone_chosen : (s : State) (l : List Decision) (d : Decision) → Holds s → s.placed.items ≡ l ++ d ∷ [] → IsReached s.problem l × IsChosenNext s.problem l d
undone_chosen s l d h e = last_chosen s.problem l d (subst (IsReached s.problem) e h.reached)

pub undone_taken : (s : State) (l : List Decision) (d : Decision) → Holds s → s.placed.items ≡ l ++ d ∷ [] → (unit round : ℕ) → unit < s.frames.layout.units → round < s.frames.layout.rounds → words_sent d.sent unit round ≤ taken_in s.frames unit round
undone_taken s l d h e = sent_taken s.problem l d s.frames (subst (λ xs. HasWords s.problem xs s.frames) e h.words)

pub undone_late : (s : State) (l : List Decision) (d : Decision) → Holds s → s.placed.items ≡ l ++ d ∷ [] → (one_if (is_past s.problem d) ≤ s.late) × (s.late - one_if (is_past s.problem d) ≡ count_by (is_past s.problem) l)
undone_late s l d h e = late_less s.problem l d s.late (h.late_is ∙ ap (count_by (is_past s.problem)) e)

-- all that is kept, with one decision less
pub undo_holds : (s n : State) (d : Decision) (place job task : ℕ) → Holds s → n.problem ≡ s.problem → s.placed.items ≡ n.placed.items ++ d ∷ [] → vec_capacity s.placed ≤ vec_capacity n.placed
    → n.places.items ≡ slice_set s.places.items job None → n.homes.items ≡ slice_set s.homes.items task (without (slice_index_or s.homes.items task None) place) → IsLoaded n.frames s.frames d.sent → HasTicks s.problem n.placed.items n.ticks → n.order.items ≡ s.order.items → n.ranks.items ≡ s.ranks.items → n.first ≡ min s.first (get_or s.ranks.items d.job 0)
    → n.late ≡ s.late - one_if (is_past s.problem d) → n.hopeless ≡ s.hopeless → place ≡ length n.placed.items → job ≡ d.job → task ≡ (work_at s.problem d.job).task → Holds n
undo_holds s n d place job task h p l room j t w u o ranks far late hope e i k =
    let pr = s.problem in
    let front = n.placed.items in
    let c = undone_chosen s front d h l in
    let jobs : HasPlaces n.places.items (length pr.works) (place_of_job front) =
    subst (λ xs. HasPlaces xs (length pr.works) (place_of_job front)) (sym (j ∙ ap (λ y. slice_set s.places.items y None) i)) (jobs_less pr front d s.places.items c.1 (subst (λ xs. HasPlaces s.places.items (length pr.works) (place_of_job xs)) l h.jobs)) in
    let tasks : HasPlaces n.homes.items 64 (place_of_task pr front) =
    subst (λ xs. HasPlaces xs 64 (place_of_task pr front)) (sym t) (tasks_less pr front d s.homes.items place task h.is_problem c.1 (subst (λ xs. HasPlaces s.homes.items 64 (place_of_task pr xs)) l h.tasks) e k) in
    let m : Kept pr front (vec_capacity n.placed) n.places.items n.homes.items n.frames n.ticks n.order.items n.ranks.items n.first n.late n.hopeless = record {
      is_problem = h.is_problem;
      reached = c.0;
      room = omega (arith, h.room);
      jobs = jobs;
      tasks = tasks;
      words = words_less pr front d s.frames n.frames (subst (λ xs. HasWords pr xs s.frames) l h.words) w;
      on_units = u;
      front = subst (λ xs. IsFront pr front xs n.first) (sym ranks) (front_less pr front d s.ranks.items s.first n.first (get_or s.ranks.items d.job 0) (subst (λ xs. IsFront pr xs s.ranks.items s.first) l h.front) c.1.choice.is_job refl far);
      order_is = o ∙ h.order_is;
      late_is = late ∙ (undone_late s front d h l).1;
      hopeless_is = hope ∙ h.hopeless_is;
    } in
    kept_holds n pr front p refl m

-- no decision yet
pub empty_holds : (n : State) (jobs : ℕ) → IsProblem n.problem → n.placed.items ≡ [] → jobs ≡ length n.problem.works → jobs ≤ vec_capacity n.placed → n.places.items ≡ replicate jobs None → n.homes.items ≡ replicate 64 None → n.frames.layout ≡ n.problem.round
    → ((unit k : ℕ) → taken_in n.frames unit k ≡ 0) → HasTicks n.problem [] n.ticks → IsFront n.problem [] n.ranks.items n.first → n.order.items ≡ by_start n.problem (length n.problem.works) → n.late ≡ 0 → n.hopeless ≡ is_hopeless n.problem (length n.problem.works) → Holds n
empty_holds n jobs i l j room p t f z u far o late hope =
    let m : Kept n.problem [] (vec_capacity n.placed) n.places.items n.homes.items n.frames n.ticks n.order.items n.ranks.items n.first n.late n.hopeless = record {
      is_problem = i;
      reached = ([], refl);
      room = omega arith;
      jobs = subst (λ xs. HasPlaces xs (length n.problem.works) (place_of_job [])) (sym (p ∙ ap (λ k. replicate k None) j)) (none_placed (length n.problem.works) (place_of_job []) (λ k. refl));
      tasks = subst (λ xs. HasPlaces xs 64 (place_of_task n.problem [])) (sym t) (none_placed 64 (place_of_task n.problem []) (λ k. refl));
      words = record { layout = f; taken = λ unit round v r. z unit round };
      on_units = u;
      front = far;
      order_is = o;
      late_is = late;
      hopeless_is = hope;
    } in
    kept_holds n n.problem [] refl l m
