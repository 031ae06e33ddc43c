-- A list is given up exactly where a job's latest start is before its release, or where a job starts after its latest start.
use Rattle.std.proofs.Common.{◌≡◌, ℕ, zero, suc, ◌+◌, ◌-◌, ◌<◌, ◌≤◌, ◌⊎◌, inl, inr, Bool, true, false, ◌||◌, leb, max, List, [], ◌∷◌, length, Option, Some, None, slice_get, refl, sym, ap, ◌∙◌, subst, arith}
use Rattle.std.proofs.lemmas.Bool.{cases_eq, cases_lt}
use Rattle.decisions.specs.declared.problem.Feed.{Feed}
use Rattle.decisions.specs.declared.problem.Problem.{Problem}
use Rattle.decisions.specs.Decision.{Decision, work_at, decision_on}
use Rattle.decisions.specs.IsProblem.{IsFedBy, IsProblem}
use Rattle.decisions.specs.Pruned.{end_or, last_end, earliest_end, is_late, is_one_late, pruned}
use Rattle.reached.proofs.Members.{In}
use Rattle.reached.proofs.Good.{on_is, some_cases, IsGood}
use Rattle.reached.proofs.Prunes.{late_of}

-- a decision that starts after its job's latest start
pub record IsPast (pr : Problem) (l : List Decision) (d : Decision) : Type 0 where
  pub in_list : In l d
  pub past : (work_at pr d.job).deadline < d.start + (work_at pr d.job).remaining

-- a job whose latest start is before its release
pub record HasNoStart (pr : Problem) (job : ℕ) : Type 0 where
  pub is_job : job < length pr.works
  pub past : (work_at pr job).deadline < (work_at pr job).release + (work_at pr job).remaining

-- one or the other
abbrev pub IsHopeless : Problem → List Decision → Type 0
IsHopeless pr l = ((job : ℕ) × HasNoStart pr job) ⊎ ((d : Decision) × IsPast pr l d)

-- the producer whose end is the last
record IsLastEnd (l : List Decision) (f : ℕ → ℕ) (feeds : List Feed) : Type 0 where
  place : ℕ
  feed : Feed
  stands : slice_get feeds place ≡ Some feed
  is : last_end l f feeds ≡ end_or (f feed.producer) (decision_on l feed.producer)

later_end : (l : List Decision) (f : ℕ → ℕ) (feed : Feed) (feeds : List Feed) → IsLastEnd l f feeds → IsLastEnd l f (feed ∷ feeds)
    ⊎ (last_end l f (feed ∷ feeds) ≡ end_or (f feed.producer) (decision_on l feed.producer))
later_end l f feed feeds h = elim (cases_lt (end_or (f feed.producer) (decision_on l feed.producer)) (last_end l f feeds)) [
  | inl low ↦ inl (record { place = suc h.place; feed = h.feed; stands = h.stands; is = omega (arith, h.is) })
  | inr high ↦ inr (omega arith)
]

last_end_is : (l : List Decision) (f : ℕ → ℕ) (feeds : List Feed) → IsLastEnd l f feeds ⊎ (last_end l f feeds ≡ 0)
last_end_is l f [] = inr refl
last_end_is l f (feed ∷ feeds) = elim (last_end_is l f feeds) [
  | inl h ↦ elim (later_end l f feed feeds h) [ inl g ↦ inl g | inr g ↦ inl (record { place = 0; feed = feed; stands = refl; is = g }) ]
  | inr h ↦ inl (record { place = 0; feed = feed; stands = refl; is = omega (arith, h) })
]

fed_by_feed : (pr : Problem) (job place : ℕ) (feed : Feed) → slice_get (work_at pr job).feeds place ≡ Some feed → IsFedBy pr job feed.producer
fed_by_feed pr job place feed h = record { place = place; feed = feed; stands = h; is = refl }

by_release : (pr : Problem) (l : List Decision) (job : ℕ) → job < length pr.works → (work_at pr job).deadline < (work_at pr job).release + (work_at pr job).remaining → IsHopeless pr l
by_release pr l job low h = inl (job, record { is_job = low; past = h })

by_producer : (pr : Problem) (l : List Decision) (n job producer : ℕ) → IsProblem pr → IsGood pr l → job < length pr.works → IsFedBy pr job producer
    → (work_at pr job).deadline < end_or (earliest_end pr l n producer) (decision_on l producer) + (work_at pr job).remaining
    → (o : Option Decision) → decision_on l producer ≡ o → ((work_at pr producer).deadline + (work_at pr producer).length < earliest_end pr l n producer + (work_at pr producer).remaining → IsHopeless pr l) → IsHopeless pr l
by_producer pr l n job producer is g low fed h None e go =
    let s = is.sources job producer low fed in
    let r = is.remaining producer s.is_job in
    let a = r.above job low fed in
    let b : (work_at pr job).deadline < earliest_end pr l n producer + (work_at pr job).remaining = subst (λ x. (work_at pr job).deadline < end_or (earliest_end pr l n producer) x + (work_at pr job).remaining) e h in
    go (omega (arith, s.deadline, r.is))
by_producer pr l n job producer is g low fed h (Some d) e go =
    let s = is.sources job producer low fed in
    let r = is.remaining producer s.is_job in
    let a = r.above job low fed in
    let o = on_is l producer d e in
    let k = g.kept d o.0 in
    let b : (work_at pr job).deadline < d.end + (work_at pr job).remaining = subst (λ x. (work_at pr job).deadline < end_or (earliest_end pr l n producer) x + (work_at pr job).remaining) e h in
    let c : d.end ≡ d.start + (work_at pr producer).length = subst (λ x. d.end ≡ d.start + (work_at pr x).length) o.1 k.span in
    let p : (work_at pr producer).deadline < d.start + (work_at pr producer).remaining = omega (arith, s.deadline, r.is) in
    inr (d, record { in_list = o.0; past = subst (λ x. (work_at pr x).deadline < d.start + (work_at pr x).remaining) (sym o.1) p })

-- a job that comes too late has a cause
late_back : (pr : Problem) (l : List Decision) (n job : ℕ) → IsProblem pr → IsGood pr l → job < length pr.works → (work_at pr job).deadline + (work_at pr job).length < earliest_end pr l n job + (work_at pr job).remaining → IsHopeless pr l
late_back pr l zero job is g low h = by_release pr l job low (omega arith)
late_back pr l (suc n) job is g low h = elim (last_end_is l (earliest_end pr l n) (work_at pr job).feeds) [
  | inl e ↦ elim (cases_lt (work_at pr job).release (last_end l (earliest_end pr l n) (work_at pr job).feeds)) [
    | inl less ↦ by_producer pr l n job e.feed.producer is g low (fed_by_feed pr job e.place e.feed e.stands) (omega (arith, e.is)) (decision_on l e.feed.producer) refl
        (λ x. late_back pr l n e.feed.producer is g (is.sources job e.feed.producer low (fed_by_feed pr job e.place e.feed e.stands)).is_job x)
    | inr more ↦ by_release pr l job low (omega arith)
  ]
  | inr z ↦ by_release pr l job low (omega (arith, z))
]

pub hopeless_of : (pr : Problem) (l : List Decision) → IsProblem pr → IsGood pr l → pruned pr l ≡ true → IsHopeless pr l
hopeless_of pr l is g h =
    let t = late_of pr l h in
    let r = is.remaining t.0 t.1.is_job in
    late_back pr l (length pr.works) t.0 is g t.1.is_job (omega (arith, t.1.past, r.is))

-- more producers deep, no earlier
end_more : (a b : ℕ) (o : Option Decision) → a ≤ b → end_or a o ≤ end_or b o
end_more a b None h = h
end_more a b (Some d) h = omega arith

last_more : (l : List Decision) (f h : ℕ → ℕ) (feeds : List Feed) → ((job : ℕ) → f job ≤ h job) → last_end l f feeds ≤ last_end l h feeds
last_more l f h [] le = omega arith
last_more l f h (feed ∷ feeds) le = let a = end_more (f feed.producer) (h feed.producer) (decision_on l feed.producer) (le feed.producer) in let b = last_more l f h feeds le in omega arith

deeper : (pr : Problem) (l : List Decision) (n job : ℕ) → earliest_end pr l n job ≤ earliest_end pr l (suc n) job
deeper pr l zero job = omega arith
deeper pr l (suc n) job = let a = last_more l (earliest_end pr l n) (earliest_end pr l (suc n)) (work_at pr job).feeds (deeper pr l n) in omega arith

deep : (pr : Problem) (l : List Decision) (n more job : ℕ) → earliest_end pr l n job ≤ earliest_end pr l (more + n) job
deep pr l n zero job = let e : n ≡ 0 + n = omega arith in subst (λ x. earliest_end pr l n job ≤ earliest_end pr l x job) e (omega arith)
deep pr l n (suc more) job =
    let e : suc (more + n) ≡ suc more + n = omega arith in
    let a = deep pr l n more job in
    let b = deeper pr l (more + n) job in
    let c : earliest_end pr l n job ≤ earliest_end pr l (suc (more + n)) job = omega arith in
    subst (λ x. earliest_end pr l n job ≤ earliest_end pr l x job) e c

deepest : (pr : Problem) (l : List Decision) (n all job : ℕ) → n ≤ all → earliest_end pr l n job ≤ earliest_end pr l all job
deepest pr l n all job le = let e : (all - n) + n ≡ all = omega arith in subst (λ x. earliest_end pr l n job ≤ earliest_end pr l x job) e (deep pr l n (all - n) job)

-- a producer's end is before the earliest end of what it feeds
fed_end : (l : List Decision) (f : ℕ → ℕ) (feeds : List Feed) (place : ℕ) (feed : Feed) → slice_get feeds place ≡ Some feed → end_or (f feed.producer) (decision_on l feed.producer) ≤ last_end l f feeds
fed_end l f [] place feed h = absurd (cc)
fed_end l f (x ∷ feeds) zero feed h = let e : x ≡ feed = cc in subst (λ y. end_or (f y.producer) (decision_on l y.producer) ≤ max (end_or (f x.producer) (decision_on l x.producer)) (last_end l f feeds)) e (omega arith)
fed_end l f (x ∷ feeds) (suc place) feed h = let g = fed_end l f feeds place feed h in omega arith

ends_after : (pr : Problem) (l : List Decision) (n job producer : ℕ) → IsFedBy pr job producer → (work_at pr job).length + end_or (earliest_end pr l n producer) (decision_on l producer) ≤ earliest_end pr l (suc n) job
ends_after pr l n job producer f =
    let a = fed_end l (earliest_end pr l n) (work_at pr job).feeds f.place f.feed f.stands in
    let b : end_or (earliest_end pr l n producer) (decision_on l producer) ≤ last_end l (earliest_end pr l n) (work_at pr job).feeds = subst (λ x. end_or (earliest_end pr l n x) (decision_on l x) ≤ last_end l (earliest_end pr l n) (work_at pr job).feeds) f.is a in
    omega arith

or_right : (a b : Bool) → b ≡ true → (a || b) ≡ true
or_right true b h = refl
or_right false b h = h

or_left : (a b : Bool) → a ≡ true → (a || b) ≡ true
or_left a b h = rw h refl

late_below : (pr : Problem) (l : List Decision) (n job : ℕ) → job < n → is_late pr l job ≡ true → is_one_late pr l n ≡ true
late_below pr l zero job low h = absurd (omega arith)
late_below pr l (suc n) job low h = elim (cases_eq job n) [
  | inl e ↦ or_left (is_late pr l n) (is_one_late pr l n) (subst (λ x. is_late pr l x ≡ true) e h)
  | inr ne ↦ or_right (is_late pr l n) (is_one_late pr l n) (late_below pr l n job (omega arith) h)
]

past_test : (a b : ℕ) → b < a → leb a b ≡ false
past_test a b h = grind arith

pruned_by : (pr : Problem) (l : List Decision) (job : ℕ) → job < length pr.works → decision_on l job ≡ None → (work_at pr job).deadline < earliest_end pr l (length pr.works) job → pruned pr l ≡ true
unfolding pruned
pruned_by pr l job low new past = late_below pr l (length pr.works) job low (rw (new, past_test (earliest_end pr l (length pr.works) job) (work_at pr job).deadline past) refl)

-- what isn't placed feeds nothing that is
not_before : (pr : Problem) (l : List Decision) (job next : ℕ) (d : Decision) → IsGood pr l → IsFedBy pr next job → decision_on l job ≡ None → decision_on l next ≡ Some d → ⊥
not_before pr l job next d g f new e =
    let o = on_is l next d e in
    let k = (g.kept d o.0).fed f.place f.feed (subst (λ x. slice_get (work_at pr x).feeds f.place ≡ Some f.feed) (sym o.1) f.stands) in
    let p : decision_on l job ≡ Some k.producer = subst (λ x. decision_on l x ≡ Some k.producer) f.is k.placed in
    let q : None ≡ Some k.producer = sym new ∙ p in cc

none_end : (e : ℕ) (o : Option Decision) → o ≡ None → end_or e o ≡ e
none_end e o h = rw h refl

-- a job that isn't placed and comes too late: the last of those that it feeds, one after another, is late
unplaced_late : (pr : Problem) (l : List Decision) (m n job : ℕ) → (is : IsProblem pr) → IsGood pr l → job < length pr.works → decision_on l job ≡ None → n ≤ suc (is.place job) → length pr.works ≤ is.place job + m
    → (work_at pr job).deadline + (work_at pr job).length < earliest_end pr l n job + (work_at pr job).remaining → pruned pr l ≡ true
unplaced_late pr l zero n job is g low new fuel far h = absurd (omega (arith, is.placed job low))
unplaced_late pr l (suc m) n job is g low new fuel far h =
    let r = is.remaining job low in
    elim r.reached [
      | inl z ↦ (let a = deepest pr l n (length pr.works) job (omega (arith, is.placed job low)) in pruned_by pr l job low new (omega (arith, r.is)))
      | inr s ↦ (
          let next = s.0 in
          let f = s.2 in
          let b = is.before next job s.1 f in
          let src = is.sources next job s.1 f in
          let t = is.remaining next s.1 in
          let e = ends_after pr l n next job f in
          let v = none_end (earliest_end pr l n job) (decision_on l job) new in
          elim (some_cases (decision_on l next)) [
            | inl d ↦ absurd (not_before pr l job next d.0 g f new d.1)
            | inr new' ↦ unplaced_late pr l m (suc n) next is g s.1 new' (omega arith) (omega arith) (omega (arith, r.is, s.3, src.deadline, e, v))
          ])
    ]

some_end : (e : ℕ) (o : Option Decision) (d : Decision) → o ≡ Some d → end_or e o ≡ d.end
some_end e o d h = rw h refl

-- a job that starts after its latest start
placed_late : (pr : Problem) (l : List Decision) (m job : ℕ) (d : Decision) → (is : IsProblem pr) → IsGood pr l → job < length pr.works → decision_on l job ≡ Some d → length pr.works ≤ is.place job + m
    → (work_at pr job).deadline < d.start + (work_at pr job).remaining → pruned pr l ≡ true
placed_late pr l zero job d is g low old far h = absurd (omega (arith, is.placed job low))
placed_late pr l (suc m) job d is g low old far h =
    let r = is.remaining job low in
    let o = on_is l job d old in
    let k = g.kept d o.0 in
    let span : d.end ≡ d.start + (work_at pr job).length = subst (λ x. d.end ≡ d.start + (work_at pr x).length) o.1 k.span in
    let due : d.end ≤ (work_at pr job).deadline = subst (λ x. d.end ≤ (work_at pr x).deadline) o.1 k.due in
    elim r.reached [
      | inl z ↦ absurd (omega (arith, r.is))
      | inr s ↦ (
          let next = s.0 in
          let f = s.2 in
          let b = is.before next job s.1 f in
          let src = is.sources next job s.1 f in
          elim (some_cases (decision_on l next)) [
            | inl e ↦ (
                let q = on_is l next e.0 e.1 in
                let w = (g.kept e.0 q.0).fed f.place f.feed (subst (λ x. slice_get (work_at pr x).feeds f.place ≡ Some f.feed) (sym q.1) f.stands) in
                let p : decision_on l job ≡ Some w.producer = subst (λ x. decision_on l x ≡ Some w.producer) f.is w.placed in
                let i : Some w.producer ≡ Some d = sym p ∙ old in
                let j : w.producer ≡ d = cc in
                let end : w.producer.end ≡ d.end = ap (λ (x : Decision). x.end) j in
                placed_late pr l m next e.0 is g s.1 e.1 (omega arith) (omega (arith, r.is, s.3, src.deadline, w.ended)))
            | inr new ↦ (
                let t = is.remaining next s.1 in
                let e = ends_after pr l 0 next job f in
                let v = some_end (earliest_end pr l 0 job) (decision_on l job) d old in
                unplaced_late pr l (suc m) 1 next is g s.1 new (omega arith) (omega arith) (omega (arith, r.is, s.3, src.deadline, e, v)))
          ])
    ]

-- a job whose latest start is before its release
unstarted_late : (pr : Problem) (l : List Decision) (job : ℕ) → (is : IsProblem pr) → IsGood pr l → HasNoStart pr job → pruned pr l ≡ true
unstarted_late pr l job is g h = elim (some_cases (decision_on l job)) [
  | inl d ↦ (
      let o = on_is l job d.0 d.1 in
      let k = g.kept d.0 o.0 in
      let after : (work_at pr job).release ≤ d.0.start = subst (λ x. (work_at pr x).release ≤ d.0.start) o.1 k.after in
      placed_late pr l (length pr.works) job d.0 is g h.is_job d.1 (omega arith) (omega (arith, h.past)))
  | inr new ↦ unplaced_late pr l (length pr.works) 1 job is g h.is_job new (omega arith) (omega arith) (omega (arith, h.past))
]

pub pruned_of : (pr : Problem) (l : List Decision) → IsProblem pr → IsGood pr l → IsHopeless pr l → pruned pr l ≡ true
pruned_of pr l is g h = elim h [
  | inl n ↦ unstarted_late pr l n.0 is g n.1
  | inr p ↦ (
      let d = p.0 in
      let k = g.kept d p.1.in_list in
      placed_late pr l (length pr.works) d.job d is g k.is_job (g.own d p.1.in_list) (omega arith) p.1.past)
]
