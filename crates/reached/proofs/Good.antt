-- What holds of the decisions of a list that choices lead to.
use Rattle.std.proofs.Common.{◌≡◌, ℕ, suc, ◌+◌, ◌<◌, ◌≤◌, ◌⊎◌, inl, inr, Bool, true, false, not, ◌&&◌, if◌then◌else◌, List, [], ◌∷◌, ◌++◌, length, Option, Some, None, slice_get, refl, sym, ap, ◌∙◌, subst, arith, ap₂}
use Rattle.std.specs.Prelude.{◌==◌, is_some, find}
use Rattle.std.specs.List.{list_all}
use Rattle.std.specs.Option.{option_or}
use Rattle.std.proofs.lemmas.List.Folds.{find-append}
use Rattle.walks.specs.First.{Reaches}
use Rattle.tdma.specs.Load.{words_for}
use Rattle.decisions.specs.declared.placed.Sent.{Sent}
use Rattle.decisions.specs.declared.problem.Feed.{Feed}
use Rattle.decisions.specs.declared.problem.Problem.{Problem}
use Rattle.decisions.specs.Decision.{Decision, work_at, decision_on}
use Rattle.decisions.specs.Place.{words_sent, words_taken, taken_before, Waiting, fed}
use Rattle.decisions.specs.Choices.{is_placed, is_ready, choices, rules_of, IsReached}
use Rattle.reached.proofs.Members.{In, in_append, in_nothing, in_one, chosen}
use Rattle.reached.proofs.Decided.{IsDecided, decided_is, IsFirstRoom, IsFed, fed_first, fed_end, fed_ended, fed_later, HasEnded, first_wait, message_in}

-- the decision on a job, where one more is made
pub on_append : (l : List Decision) (d : Decision) (job : ℕ) → decision_on (l ++ d ∷ []) job ≡ option_or (decision_on l job) (if d.job == job then Some d else None)
on_append l d job = find-append (λ (x : Decision). x.job == job) l (d ∷ [])

or_some : (o p : Option Decision) (x : Decision) → o ≡ Some x → option_or o p ≡ Some x
or_some o p x e = rw e refl

or_none : (o p : Option Decision) → o ≡ None → option_or o p ≡ p
or_none o p e = rw e refl

pub on_old : (l : List Decision) (d : Decision) (job : ℕ) (x : Decision) → decision_on l job ≡ Some x → decision_on (l ++ d ∷ []) job ≡ Some x
on_old l d job x e = on_append l d job ∙ or_some (decision_on l job) (if d.job == job then Some d else None) x e

same_test : (n : ℕ) → (n == n) ≡ true
same_test n = grind arith

pub on_new : (l : List Decision) (d : Decision) → decision_on l d.job ≡ None → decision_on (l ++ d ∷ []) d.job ≡ Some d
on_new l d e = on_append l d d.job ∙ (or_none (decision_on l d.job) (if d.job == d.job then Some d else None) e ∙ (rw (same_test d.job) refl))

other_test : (a b : ℕ) → (a ≡ b → ⊥) → (a == b) ≡ false
other_test a b h = grind arith

or_nothing : (o : Option Decision) → option_or o None ≡ o
or_nothing None = refl
or_nothing (Some d) = refl

pub on_other : (l : List Decision) (d : Decision) (job : ℕ) → (d.job ≡ job → ⊥) → decision_on (l ++ d ∷ []) job ≡ decision_on l job
on_other l d job h = on_append l d job ∙ (rw (other_test d.job job h) (or_nothing (decision_on l job)))

pub some_cases : {A : Type 0} (o : Option A) → ((x : A) × (o ≡ Some x)) ⊎ (o ≡ None)
some_cases None = inr refl
some_cases (Some x) = inl (x, refl)

not_some : (o : Option Decision) (b : Bool) → (not (is_some o) && b) ≡ true → (o ≡ None) × (b ≡ true)
not_some None b h = (refl, h)
not_some (Some d) b h = absurd (cc)

pub placed_some : (o : Option Decision) → is_some o ≡ true → (d : Decision) × (o ≡ Some d)
placed_some None h = absurd (cc)
placed_some (Some d) h = (d, refl)

-- a job that is ready isn't placed, and its producers are
pub record IsOpen (pr : Problem) (l : List Decision) (job : ℕ) : Type 0 where
  pub new : decision_on l job ≡ None
  pub fed : list_all (λ (f : Feed). is_placed l f.producer) (work_at pr job).feeds ≡ true

pub open_of : (pr : Problem) (l : List Decision) (job : ℕ) → is_ready pr l job ≡ true → IsOpen pr l job
open_of pr l job h = let g = not_some (decision_on l job) (list_all (λ (f : Feed). is_placed l f.producer) (work_at pr job).feeds) h in record { new = g.0; fed = g.1 }

-- a choice as a decision
pub record IsChoiceOf (pr : Problem) (l : List Decision) (d : Decision) : Type 0 where
  pub is_job : d.job < length pr.works
  pub is_unit : d.unit < pr.round.units
  pub opens : IsOpen pr l d.job
  pub decided : IsDecided pr l d.job d.unit d

moved_choice : (pr : Problem) (l : List Decision) (d : Decision) (job unit : ℕ) → d.job ≡ job → d.unit ≡ unit → job < length pr.works → unit < pr.round.units → IsOpen pr l job → IsDecided pr l job unit d → IsChoiceOf pr l d
moved_choice pr l d job unit e f a b o i = record {
  is_job = omega arith;
  is_unit = omega arith;
  opens = subst (IsOpen pr l) (sym e) o;
  decided = subst (λ x. IsDecided pr l d.job x d) (sym f) (subst (λ x. IsDecided pr l x unit d) (sym e) i);
}

pub choice_of : (pr : Problem) (l : List Decision) (d : Decision) → In (choices pr l) d → IsChoiceOf pr l d
choice_of pr l d h =
    let c = chosen pr l d h in
    let i = decided_is pr l c.job c.row.unit d c.row.placed in
    moved_choice pr l d c.job c.row.unit i.job_is i.unit_is c.is_job c.row.below (open_of pr l c.job c.ready) i

-- a decision that keeps its job's limits, behind its producers' ends
pub record IsKept (pr : Problem) (l : List Decision) (d : Decision) : Type 0 where
  pub is_job : d.job < length pr.works
  pub is_unit : d.unit < pr.round.units
  pub span : d.end ≡ d.start + (work_at pr d.job).length
  pub after : (work_at pr d.job).release ≤ d.start
  pub due : d.end ≤ (work_at pr d.job).deadline
  pub fed : (i : ℕ) (feed : Feed) → slice_get (work_at pr d.job).feeds i ≡ Some feed → HasEnded l feed d.start

-- a frame of the cycle has a message
pub record IsFramed (pr : Problem) (m : Sent) : Type 0 where
  pub unit : m.unit < pr.round.units
  pub round : m.round < pr.round.rounds
  pub fits : m.offset + m.words ≤ pr.round.slot_words

abbrev pub AreFramed : Problem → List Sent → Type 0
AreFramed pr ms = (m : Sent) → In ms m → IsFramed pr m

pub record IsGood (pr : Problem) (l : List Decision) : Type 0 where
  pub own : (d : Decision) → In l d → decision_on l d.job ≡ Some d
  pub kept : (d : Decision) → In l d → IsKept pr l d
  pub framed : (d : Decision) → In l d → AreFramed pr d.sent
  pub words : (unit round : ℕ) → words_taken l unit round ≤ pr.round.slot_words

-- a decision on a job stands in the list, and is one on that job
find_in_by : (p : Decision → Bool) (x : Decision) (l : List Decision) (d : Decision) (b : Bool) → p x ≡ b → (if b then Some x else find p l) ≡ Some d → (find p l ≡ Some d → In l d × (p d ≡ true)) → In (x ∷ l) d × (p d ≡ true)
find_in_by p x l d true e h g = let i : x ≡ d = cc in ((0, h), subst (λ y. p y ≡ true) i e)
find_in_by p x l d false e h g = let r = g h in ((suc r.0.0, r.0.1), r.1)

both_tests : (a b : Bool) → (a && b) ≡ true → (a ≡ true) × (b ≡ true)
both_tests true b h = (refl, h)
both_tests false b h = absurd (cc)

equal_test : (a b : ℕ) → (a == b) ≡ true → a ≡ b
equal_test a b h = grind arith

both_same : (unit round u k : ℕ) → ((unit == u) && (round == k)) ≡ true → (unit ≡ u) × (round ≡ k)
both_same unit round u k h = let g = both_tests (unit == u) (round == k) h in (equal_test unit u g.0, equal_test round k g.1)

pub find_in : (p : Decision → Bool) (l : List Decision) (d : Decision) → find p l ≡ Some d → In l d × (p d ≡ true)
find_in p [] d h = absurd (cc)
find_in p (x ∷ l) d h = find_in_by p x l d (p x) refl h (find_in p l d)

pub on_is : (l : List Decision) (job : ℕ) (d : Decision) → decision_on l job ≡ Some d → In l d × (d.job ≡ job)
on_is l job d h = let g = find_in (λ (x : Decision). x.job == job) l d h in (g.0, equal_test d.job job g.1)

ended_later : (l : List Decision) (d : Decision) (feed : Feed) (tick : ℕ) → HasEnded l feed tick → HasEnded (l ++ d ∷ []) feed tick
ended_later l d feed tick h = record { producer = h.producer; placed = on_old l d feed.producer h.producer h.placed; ended = h.ended }

kept_old : (pr : Problem) (l : List Decision) (d x : Decision) → IsKept pr l x → IsKept pr (l ++ d ∷ []) x
kept_old pr l d x k = record { is_job = k.is_job; is_unit = k.is_unit; span = k.span; after = k.after; due = k.due; fed = λ i feed e. ended_later l d feed x.start (k.fed i feed e) }

ended_by : (l : List Decision) (feed : Feed) (a b : ℕ) → a ≤ b → HasEnded l feed a → HasEnded l feed b
ended_by l feed a b le h = record { producer = h.producer; placed = h.placed; ended = omega (arith, h.ended) }

kept_new : (pr : Problem) (l : List Decision) (d : Decision) → IsChoiceOf pr l d → IsKept pr (l ++ d ∷ []) d
kept_new pr l d c =
    let i = c.decided in record {
      is_job = c.is_job;
      is_unit = c.is_unit;
      span = i.span;
      after = let w = fed_later pr l d.unit (work_at pr d.job).feeds (first_wait pr d.job) i.waiting i.fed_is in omega (arith, i.after, w);
      due = i.due;
      fed = λ k feed e. ended_later l d feed d.start (ended_by l feed i.waiting.wait d.start i.after (fed_ended pr l d.unit (work_at pr d.job).feeds (first_wait pr d.job) i.waiting i.fed_is k feed e));
    }

-- words of one message more
pub words_sent-append : (ms : List Sent) (m : Sent) (u k : ℕ) → words_sent (ms ++ m ∷ []) u k ≡ words_sent ms u k + words_for m.unit m.round m.words u k
words_sent-append [] m u k = omega arith
words_sent-append (x ∷ ms) m u k = omega (arith, words_sent-append ms m u k)

pub words_taken-append : (l : List Decision) (d : Decision) (u k : ℕ) → words_taken (l ++ d ∷ []) u k ≡ words_taken l u k + words_sent d.sent u k
words_taken-append [] d u k = omega arith
words_taken-append (x ∷ l) d u k = omega (arith, words_taken-append l d u k)

-- the messages so far are in frames, and the frames aren't overfull
pub record AreSent (pr : Problem) (l : List Decision) (ms : List Sent) : Type 0 where
  pub framed : AreFramed pr ms
  pub words : (unit round : ℕ) → words_taken l unit round + words_sent ms unit round ≤ pr.round.slot_words

framed_more : (pr : Problem) (ms : List Sent) (m : Sent) → AreFramed pr ms → IsFramed pr m → AreFramed pr (ms ++ m ∷ [])
framed_more pr ms m f g x h = elim (in_append ms (m ∷ []) x h) [ inl i ↦ f x i | inr i ↦ subst (IsFramed pr) (in_one m x i) g ]

words_more_by : (a s w most : ℕ) (b : Bool) → a + s ≤ most → (b ≡ true → a + s + w ≤ most) → a + (s + (if b then w else 0)) ≤ most
words_more_by a s w most true h g = omega (arith, g refl)
words_more_by a s w most false h g = omega arith

words_more : (pr : Problem) (l : List Decision) (ms : List Sent) (unit round words : ℕ) → taken_before l ms unit round + words ≤ pr.round.slot_words → (u k : ℕ) → words_taken l u k + words_sent ms u k ≤ pr.round.slot_words
    → words_taken l u k + (words_sent ms u k + words_for unit round words u k) ≤ pr.round.slot_words
words_more pr l ms unit round words fits u k h =
    words_more_by (words_taken l u k) (words_sent ms u k) words pr.round.slot_words ((unit == u) && (round == k)) h
    (λ e. let g = both_same unit round u k e in subst (λ y. words_taken l u y + words_sent ms u y + words ≤ pr.round.slot_words) g.1 (subst (λ x. words_taken l x round + words_sent ms x round + words ≤ pr.round.slot_words) g.0 fits))

sent_new : (pr : Problem) (l : List Decision) (w : Waiting) (feed : Feed) (unit from round : ℕ) → unit < pr.round.units → IsFirstRoom pr l w.sent unit from feed.words 0 pr.round.rounds round → AreSent pr l w.sent → AreSent pr l (w.sent ++ message_in l w feed unit round ∷ [])
sent_new pr l w feed unit from round u r a = record {
  framed = framed_more pr w.sent (message_in l w feed unit round) a.framed (record { unit = u; round = omega (arith, r.below); fits = omega (arith, r.fits) });
  words = λ v k. let e = words_sent-append w.sent (message_in l w feed unit round) v k in let g = words_more pr l w.sent unit round feed.words r.fits v k (a.words v k) in omega arith;
}

sent_one : (pr : Problem) (l : List Decision) (unit : ℕ) (w : Waiting) (feed : Feed) (v : Waiting) → ((d : Decision) → In l d → IsKept pr l d) → IsFed pr l unit w feed v → AreSent pr l w.sent → AreSent pr l v.sent
sent_one pr l unit w feed v kept f a = elim f.way [
  | inl h ↦ subst (AreSent pr l) (sym h.1) a
  | inr h ↦ (
      let p = on_is l feed.producer f.producer f.placed in
      subst (AreSent pr l) (sym h.1.2) (sent_new pr l w feed f.producer.unit f.producer.end h.1.0 (kept f.producer p.0).is_unit h.1.1 a))
]

sent_all : (pr : Problem) (l : List Decision) (unit : ℕ) (feeds : List Feed) (w v : Waiting) → ((d : Decision) → In l d → IsKept pr l d) → fed pr l unit feeds (Some w) ≡ Some v → AreSent pr l w.sent → AreSent pr l v.sent
sent_all pr l unit [] w v kept h a = subst (AreSent pr l) (ap (λ (x : Waiting). x.sent) (fed_end pr l unit w v h)) a
sent_all pr l unit (feed ∷ feeds) w v kept h a = let f = fed_first pr l unit feed feeds w v h in sent_all pr l unit feeds f.next v kept f.rest (sent_one pr l unit w feed f.next kept f.one a)

-- the messages of a choice
pub choice_sent : (pr : Problem) (l : List Decision) (d : Decision) → IsGood pr l → IsChoiceOf pr l d → AreSent pr l d.sent
choice_sent pr l d g c =
    subst (AreSent pr l) (sym c.decided.sent_is)
    (sent_all pr l d.unit (work_at pr d.job).feeds (first_wait pr d.job) c.decided.waiting g.kept c.decided.fed_is
    (record { framed = λ m h. absurd (in_nothing m h); words = λ u k. omega (arith, g.words u k) }))

own_next : (pr : Problem) (l : List Decision) (d x : Decision) → IsGood pr l → IsChoiceOf pr l d → In (l ++ d ∷ []) x → decision_on (l ++ d ∷ []) x.job ≡ Some x
own_next pr l d x g c h = elim (in_append l (d ∷ []) x h) [
  | inl i ↦ on_old l d x.job x (g.own x i)
  | inr i ↦ subst (λ y. decision_on (l ++ d ∷ []) y.job ≡ Some y) (in_one d x i) (on_new l d c.opens.new)
]

kept_next : (pr : Problem) (l : List Decision) (d x : Decision) → IsGood pr l → IsChoiceOf pr l d → In (l ++ d ∷ []) x → IsKept pr (l ++ d ∷ []) x
kept_next pr l d x g c h = elim (in_append l (d ∷ []) x h) [
  | inl i ↦ kept_old pr l d x (g.kept x i)
  | inr i ↦ subst (IsKept pr (l ++ d ∷ [])) (in_one d x i) (kept_new pr l d c)
]

framed_next : (pr : Problem) (l : List Decision) (d x : Decision) → IsGood pr l → IsChoiceOf pr l d → In (l ++ d ∷ []) x → AreFramed pr x.sent
framed_next pr l d x g c h = elim (in_append l (d ∷ []) x h) [
  | inl i ↦ g.framed x i
  | inr i ↦ subst (λ (y : Decision). AreFramed pr y.sent) (in_one d x i) (choice_sent pr l d g c).framed
]

pub good_next : (pr : Problem) (l : List Decision) (d : Decision) → IsGood pr l → IsChoiceOf pr l d → IsGood pr (l ++ d ∷ [])
good_next pr l d g c = record {
  own = λ x h. own_next pr l d x g c h;
  kept = λ x h. kept_next pr l d x g c h;
  framed = λ x h. framed_next pr l d x g c h;
  words = λ u k. let e = words_taken-append l d u k in omega (arith, (choice_sent pr l d g c).words u k);
}

pub good_none : (pr : Problem) → IsGood pr []
good_none pr = record {
  own = λ d h. absurd (in_nothing d h);
  kept = λ d h. absurd (in_nothing d h);
  framed = λ d h. absurd (in_nothing d h);
  words = λ u k. omega arith;
}

pub good_along : (pr : Problem) (l : List Decision) (rs : List ℕ) (m : List Decision) → Reaches (rules_of pr) l rs m → IsGood pr l → IsGood pr m
good_along pr l [] m h g = subst (IsGood pr) h g
good_along pr l (r ∷ rs) m h g = good_along pr (l ++ h.0 ∷ []) rs m h.2 (good_next pr l h.0 g (choice_of pr l h.0 (r, h.1)))

-- every list that is reached is good
pub good : (pr : Problem) (l : List Decision) → IsReached pr l → IsGood pr l
good pr l h = good_along pr [] h.0 l h.1 (good_none pr)

-- the list before the last decision, and that decision among its choices
pub record IsLast (pr : Problem) (l : List Decision) (d : Decision) : Type 0 where
  pub front : IsReached pr l
  pub chosen : In (choices pr l) d

last_nothing : (l : List Decision) (d : Decision) → [] ≡ l ++ d ∷ [] → ⊥
last_nothing [] d h = cc
last_nothing (x ∷ l) d h = cc

last_same : (l m : List Decision) (d e : Decision) → l ++ d ∷ [] ≡ m ++ e ∷ [] → (l ≡ m) × (d ≡ e)
last_same [] [] d e h = (refl, cc)
last_same [] (y ∷ m) d e h = absurd (last_nothing m e (let g : [] ≡ m ++ e ∷ [] = cc in g))
last_same (x ∷ l) [] d e h = absurd (last_nothing l d (let g : [] ≡ l ++ d ∷ [] = cc in g))
last_same (x ∷ l) (y ∷ m) d e h = let a : x ≡ y = cc in let r : l ++ d ∷ [] ≡ m ++ e ∷ [] = cc in let g = last_same l m d e r in (ap₂ (λ u v. u ∷ v) a g.0, g.1)

record IsFront (pr : Problem) (s l : List Decision) (d : Decision) : Type 0 where
  ranks : List ℕ
  reached : Reaches (rules_of pr) s ranks l
  chosen : In (choices pr l) d

front_along : (pr : Problem) (s l : List Decision) (d : Decision) (rs : List ℕ) → Reaches (rules_of pr) s rs (l ++ d ∷ []) → (s ≡ l ++ d ∷ []) ⊎ IsFront pr s l d
front_along pr s l d [] h = inl h
front_along pr s l d (r ∷ rs) h = elim (front_along pr (s ++ h.0 ∷ []) l d rs h.2) [
  | inl e ↦ (let g = last_same s l h.0 d e in
      inr (record { ranks = []; reached = g.0; chosen = subst (λ x. In (choices pr x) d) g.0 (subst (λ x. In (choices pr s) x) g.1 (r, h.1)) }))
  | inr f ↦ inr (record { ranks = r ∷ f.ranks; reached = (h.0, h.1, f.reached); chosen = f.chosen })
]

pub last_of : (pr : Problem) (l : List Decision) (d : Decision) → IsReached pr (l ++ d ∷ []) → IsLast pr l d
last_of pr l d h = elim (front_along pr [] l d h.0 h.1) [
  | inl e ↦ absurd (last_nothing l d e)
  | inr f ↦ record { front = (f.ranks, f.reached); chosen = f.chosen }
]
