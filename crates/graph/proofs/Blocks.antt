-- The job at a place of a block is the least that is ready.
use Rattle.std.proofs.Common.{◌≡◌, ℕ, zero, suc, ◌+◌, ◌/◌, ◌<◌, ◌≤◌, ◌↔◌, inl, inr, List, [], ◌∷◌, ◌++◌, length, take, get_or, refl, sym, ◌∙◌, ap, ap₂, subst, arith}
use Rattle.std.specs.Prelude.{Contains}
use Rattle.std.proofs.lemmas.Bool.{cases_lt, cases_eq}
use Rattle.std.proofs.lemmas.List.Elements.{Contains-push, Contains-push_cases, Contains-append_left}
use Rattle.graph.specs.declared.net.Net.{Net}
use Rattle.graph.specs.Net.{instances, Feeds}
use Rattle.graph.specs.Cycle.{first_job, job_count}
use Rattle.graph.specs.Order.{IsReady, IsNext, IsOrder}
use Rattle.graph.specs.Jobs.{job_number, IsProducer}
use Rattle.graph.specs.Sound.{HasEntries}
use Rattle.graph.specs.Blocks.{IsBlock, IsNamed, HasCome}
use Rattle.graph.proofs.Entries.{joined}
use Rattle.graph.proofs.Numbers.{less_number, one_job, is_job, job_at}
use Rattle.graph.proofs.Listed.{place_of, before_place, at_before, one_place, apart, in_order_push, size_from_whole}

module _ (net : Net) (entries : HasEntries net) (h : ℕ) (tasks : List ℕ) (order : IsOrder (Feeds net) (length net.tasks) tasks) where
  -- the task at a place
  at : ℕ → ℕ
  at k = get_or tasks k 0

  is_task : (k : ℕ) → k < length tasks → get_or tasks k 0 < length net.tasks
  is_task k low = (order.each k low).ready.is_one

  -- tasks that an edge joins have as many instances
  as_many : (p q : ℕ) → Feeds net p q → instances net h p ≡ instances net h q
  as_many p q f = ap (λ x. h / x) (joined net entries p q f).2

  -- the place of a task
  placed : (q : ℕ) → q < length net.tasks → (k : ℕ) × (k < length tasks) × (get_or tasks k 0 ≡ q)
  placed q low = place_of tasks q (order.whole q low)

  -- where the producers of a task stand before a place at which it doesn't stand yet, it is ready there
  ready_at : (c k q : ℕ) → c ≤ k → k < length tasks → get_or tasks k 0 ≡ q →
      ((p : ℕ) → Feeds net p q → (i : ℕ) × (i < c) × (get_or tasks i 0 ≡ p)) → IsReady (Feeds net) (length net.tasks) (take c tasks) q
  ready_at c k q low inside e before = record {
    is_one = subst (λ x. x < length net.tasks) e (is_task k inside);
    is_new = λ w. (let b = before_place tasks c q w in apart (Feeds net) (length net.tasks) tasks order.each b.0 k (omega (arith, b.1, low)) inside (b.3 ∙ sym e));
    all_before = λ p f. (let b = before p f in subst (Contains (take c tasks)) b.2 (at_before tasks c b.0 b.1 (omega (arith, low, inside))));
  }

  -- the tasks of a block have as many instances: each is ready only after one before it in the block
  block_many : (a b : ℕ) → IsBlock tasks a b → (n k : ℕ) → k < n → a ≤ k → k < b → instances net h (get_or tasks k 0) ≡ instances net h (get_or tasks a 0)
  block_many a b block zero k less low high = absurd (omega (arith, less))
  block_many a b block (suc n) k less low high = elim (cases_eq a k) [
    | inl e ↦ ap (λ x. instances net h (get_or tasks x 0)) (sym e)
    | inr e ↦ elim (cases_eq (instances net h (get_or tasks k 0)) (instances net h (get_or tasks a 0))) [
      | inl same ↦ same
      | inr other ↦ absurd (
          let inside : k < length tasks = omega (arith, high, block.inside) in
          let ready = ready_at a k (get_or tasks k 0) low inside refl (λ p f.
          let w = before_place tasks k p ((order.each k inside).ready.all_before p f) in
          elim (cases_lt w.0 a) [
            | inl early ↦ (w.0, early, w.3)
            | inr late ↦ absurd (other (sym (as_many p (get_or tasks k 0) f) ∙ ap (instances net h) (sym w.3) ∙ block_many a b block n w.0 (omega (arith, less, w.1)) late (omega (arith, w.1, high))))
          ]) in
          let least = (order.each a (omega (arith, low, inside))).least (get_or tasks k 0) ready in
          let below = block.below k (omega (arith, low, e)) high in
          omega (arith, least, below))
    ]
  ]

  pub block_task : (a b p : ℕ) → IsBlock tasks a b → p < b → get_or tasks p 0 < length net.tasks
  block_task a b p block high = is_task p (omega (arith, high, block.inside))

  pub block_fits : (a b p i : ℕ) → IsBlock tasks a b → a ≤ p → p < b → i < instances net h (get_or tasks a 0) → i < instances net h (get_or tasks p 0)
  block_fits a b p i block low high few = (let many = block_many a b block (suc p) p (omega arith) low high in omega (arith, few, many))

  -- the job of a block's place is the next one
  pub next_job : (jobs : List ℕ) (a b p i : ℕ) → IsBlock tasks a b → a ≤ p → p < b → i < instances net h (get_or tasks a 0) → HasCome net h tasks jobs a b p i →
      IsNext (IsProducer net h) (job_count net h) jobs (job_number net h (get_or tasks p 0) i)
  next_job jobs a b p i block low high few come =
      let inside : p < length tasks = omega (arith, high, block.inside) in
      let many = block_many a b block (suc p) p (omega arith) low high in
      let fits : i < instances net h (get_or tasks p 0) = omega (arith, few, many) in
      record {
        ready = record {
          is_one = is_job net h (length net.tasks) (get_or tasks p 0) i (is_task p inside) fits;
          is_new = λ w. elim ((come.named p i inside fits).0 w) [
            | inl early ↦ omega (arith, early, low)
            | inr late ↦ elim late [ inl now ↦ omega (arith, now.0) | inr now ↦ omega (arith, now.1) ]
          ];
          all_before = λ j w.
              let same = one_job net h (get_or tasks p 0) w.to i w.instance fits w.in_cycle w.to_is in
              let f : Feeds net w.from (get_or tasks p 0) = subst (Feeds net w.from) (sym same.0) w.edge in
              let k = before_place tasks p w.from ((order.each p inside).ready.all_before w.from f) in
              let enough : i < instances net h (get_or tasks k.0 0) = (let m = as_many w.from (get_or tasks p 0) f in let n : instances net h (get_or tasks k.0 0) ≡ instances net h w.from = ap (instances net h) k.3 in omega (arith, m, n, fits)) in
              let is : job_number net h (get_or tasks k.0 0) i ≡ j = ap₂ (λ x y. job_number net h x y) k.3 same.1 ∙ sym w.from_is in
              subst (Contains jobs) is ((come.named k.0 i k.2 enough).1 (inr (inl (k.1, omega arith))));
        };
        least = λ j ready. least_job jobs a b p i block low high fits come j ready;
      }
    where
      -- no ready job has a lesser number
      least_job : (jobs : List ℕ) (a b p i : ℕ) → IsBlock tasks a b → a ≤ p → p < b → i < instances net h (get_or tasks p 0) → HasCome net h tasks jobs a b p i →
          (j : ℕ) → IsReady (IsProducer net h) (job_count net h) jobs j → job_number net h (get_or tasks p 0) i ≤ j
      least_job jobs a b p i block low high fits come j ready =
          let w = job_at net h (length net.tasks) j ready.is_one in
          let place = placed w.0 w.2 in
          let k = place.0 in
          let q_is = place.2 in
          let enough : w.1 < instances net h (get_or tasks k 0) = subst (λ x. w.1 < instances net h x) (sym q_is) w.3 in
          let number : job_number net h (get_or tasks k 0) w.1 ≡ j = ap (λ x. job_number net h x w.1) q_is ∙ sym w.4 in
          let unnamed : IsNamed a b p i k w.1 → ⊥ = λ d. ready.is_new (subst (Contains jobs) number ((come.named k w.1 place.1 enough).1 d)) in
          let producers : (r : ℕ) → Feeds net r w.0 → (c : ℕ) × (get_or tasks c 0 ≡ r) × IsNamed a b p i c w.1 = λ r f.
          (let c = placed r (joined net entries r w.0 f).0 in
          let e : get_or tasks c.0 0 ≡ r = c.2 in
          let some : w.1 < instances net h (get_or tasks c.0 0) = (let m = as_many r w.0 f in let n : instances net h (get_or tasks c.0 0) ≡ instances net h r = ap (instances net h) e in omega (arith, m, n, w.3)) in
          let named : Contains jobs (job_number net h r w.1) = ready.all_before (job_number net h r w.1) (record { from = r; to = w.0; instance = w.1; edge = f; in_cycle = w.3; from_is = refl; to_is = w.4 }) in
          (c.0, e, (come.named c.0 w.1 c.1 some).0 (subst (Contains jobs) (ap (λ x. job_number net h x w.1) (sym e)) named))) in
          let lesser : get_or tasks p 0 < w.0 → job_number net h (get_or tasks p 0) i ≤ j = λ low. (let f = less_number net h (get_or tasks p 0) w.0 i w.1 low fits in omega (arith, f, w.4)) in
          elim (cases_lt k p) [
            | inl early ↦ elim (cases_lt k a) [
              | inl done ↦ absurd (unnamed (inl done))
              | inr here ↦ elim (cases_lt i w.1) [
                | inr few ↦ absurd (unnamed (inr (inl (early, few))))
                | inl many ↦
                    let head = ready_at a k w.0 here place.1 q_is (λ r f. let c = producers r f in elim c.2 [
                      | inl x ↦ (c.0, x, c.1)
                      | inr x ↦ elim x [ inl y ↦ absurd (omega (arith, y.1, many)) | inr y ↦ absurd (omega (arith, y.1, many)) ]
                    ]) in
                    let least = (order.each a (omega (arith, here, place.1))).least w.0 head in
                    elim (cases_eq a k) [
                      | inl same ↦ (let is : get_or tasks a 0 ≡ w.0 = ap (λ x. get_or tasks x 0) same ∙ q_is in let below = block.below p (omega (arith, same, early)) high in lesser (omega (arith, is, below)))
                      | inr other ↦ absurd (let below = block.below k (omega (arith, here, other)) (omega (arith, early, high)) in omega (arith, below, least, q_is))
                    ]
              ]
            ]
            | inr late ↦ elim (cases_lt k b) [
              | inl here ↦ elim (cases_lt w.1 i) [
                | inl few ↦ absurd (unnamed (inr (inr (here, few))))
                | inr many ↦
                    let next = ready_at p k w.0 late place.1 q_is (λ r f. let c = producers r f in elim c.2 [
                      | inl x ↦ (c.0, omega (arith, x, low), c.1)
                      | inr x ↦ elim x [ inl y ↦ (c.0, y.0, c.1) | inr y ↦ absurd (omega (arith, y.1, many)) ]
                    ]) in
                    let least = (order.each p (omega (arith, late, place.1))).least w.0 next in
                    elim (cases_eq (get_or tasks p 0) w.0) [
                      | inl same ↦ (let f : first_job net h (get_or tasks p 0) ≡ first_job net h w.0 = ap (first_job net h) same in omega (arith, f, many, w.4))
                      | inr other ↦ lesser (omega (arith, least, other))
                    ]
              ]
              | inr past ↦
                  let after = ready_at b k w.0 past place.1 q_is (λ r f. let c = producers r f in elim c.2 [
                    | inl x ↦ (c.0, omega (arith, x, low, high), c.1)
                    | inr x ↦ elim x [ inl y ↦ (c.0, omega (arith, y.0, high), c.1) | inr y ↦ (c.0, y.0, c.1) ]
                  ]) in
                  let inside : b < length tasks = omega (arith, past, place.1) in
                  let least = (order.each b inside).least w.0 after in
                  let next = block.next inside in
                  let other : get_or tasks a 0 ≡ get_or tasks b 0 → ⊥ = apart (Feeds net) (length net.tasks) tasks order.each a b block.some inside in
                  let head : get_or tasks p 0 ≤ get_or tasks a 0 = elim (cases_eq a p) [
                    | inl same ↦ (let f : get_or tasks a 0 ≡ get_or tasks p 0 = ap (λ x. get_or tasks x 0) same in omega (arith, f))
                    | inr less ↦ (let f = block.below p (omega (arith, low, less)) high in omega (arith, f))
                  ] in
                  lesser (omega (arith, least, next, other, head))
            ]
          ]

  -- the same jobs, said of another place
  pub come_as : (jobs : List ℕ) (a b p i a' b' p' i' : ℕ) →
      ((k m : ℕ) → k < length tasks → m < instances net h (get_or tasks k 0) → IsNamed a b p i k m ↔ IsNamed a' b' p' i' k m) →
      HasCome net h tasks jobs a b p i → HasCome net h tasks jobs a' b' p' i'
  come_as jobs a b p i a' b' p' i' same come = record {
    in_order = come.in_order;
    named = λ k m inside few. (λ w. (same k m inside few).0 ((come.named k m inside few).0 w), λ d. (come.named k m inside few).1 ((same k m inside few).1 d));
  }

  -- one place more
  pub come_place : (jobs : List ℕ) (a b p i : ℕ) → IsBlock tasks a b → a ≤ p → p < b → i < instances net h (get_or tasks a 0) → HasCome net h tasks jobs a b p i →
      HasCome net h tasks (jobs ++ job_number net h (get_or tasks p 0) i ∷ []) a b (p + 1) i
  come_place jobs a b p i block low high few come =
      let inside : p < length tasks = omega (arith, high, block.inside) in
      let fits : i < instances net h (get_or tasks p 0) = omega (arith, few, block_many a b block (suc p) p (omega arith) low high) in
      record {
        in_order = in_order_push (IsProducer net h) (job_count net h) jobs (job_number net h (get_or tasks p 0) i) come.in_order (next_job jobs a b p i block low high few come);
        named = λ k m within some. (
          λ w. elim (Contains-push_cases jobs (job_number net h (get_or tasks p 0) i) (job_number net h (get_or tasks k 0) m) w) [
            | inl old ↦ more k m ((come.named k m within some).0 old)
            | inr e ↦ (let same = one_job net h (get_or tasks p 0) (get_or tasks k 0) i m fits some e in
                let here = one_place (Feeds net) (length net.tasks) tasks order.each p k inside within same.0 in
                inr (inl (omega (arith, here), omega (arith, same.1))))
          ],
          λ d. elim d [
            | inl x ↦ old k m ((come.named k m within some).1 (inl x))
            | inr x ↦ elim x [
              | inl y ↦ elim (cases_lt k p) [
                | inl early ↦ old k m ((come.named k m within some).1 (inr (inl (early, y.1))))
                | inr late ↦ elim (cases_lt m i) [
                  | inl before ↦ old k m ((come.named k m within some).1 (inr (inr (omega (arith, y.0, high), before))))
                  | inr now ↦
                      let here : p ≡ k = omega (arith, late, y.0) in
                      let this : i ≡ m = omega (arith, now, y.1) in
                      subst (Contains (jobs ++ job_number net h (get_or tasks p 0) i ∷ [])) (ap₂ (λ u v. job_number net h (get_or tasks u 0) v) here this) (Contains-push jobs (job_number net h (get_or tasks p 0) i))
                ]
              ]
              | inr y ↦ old k m ((come.named k m within some).1 (inr (inr y)))
            ]
          ],
        );
      }
    where
      more : (k m : ℕ) → IsNamed a b p i k m → IsNamed a b (p + 1) i k m
      more k m d = elim d [ inl x ↦ inl x | inr x ↦ elim x [ inl y ↦ inr (inl (omega (arith, y.0), y.1)) | inr y ↦ inr (inr y) ] ]

      old : (k m : ℕ) → Contains jobs (job_number net h (get_or tasks k 0) m) → Contains (jobs ++ job_number net h (get_or tasks p 0) i ∷ []) (job_number net h (get_or tasks k 0) m)
      old k m w = Contains-append_left jobs (job_number net h (get_or tasks p 0) i ∷ []) (job_number net h (get_or tasks k 0) m) w

  -- no job yet
  pub come_start : HasCome net h tasks [] 0 0 0 0
  come_start = record {
    in_order = λ place low. absurd (omega (arith, low));
    named = λ k m within some. (λ w. absurd (omega (arith, w.1)), λ d. elim d [ inl x ↦ absurd (omega (arith, x)) | inr x ↦ elim x [ inl y ↦ absurd (omega (arith, y.0)) | inr y ↦ absurd (omega (arith, y.0)) ] ]);
  }

  -- a block begins
  pub come_block : (jobs : List ℕ) (a b : ℕ) → HasCome net h tasks jobs a a a 0 → HasCome net h tasks jobs a b a 0
  come_block jobs a b = come_as jobs a a a 0 a b a 0 (λ k m within some. (
    λ d. elim d [ inl x ↦ inl x | inr x ↦ elim x [ inl y ↦ inl y.0 | inr y ↦ inl y.0 ] ],
    λ d. elim d [ inl x ↦ inl x | inr x ↦ elim x [ inl y ↦ inl y.0 | inr y ↦ absurd (omega (arith, y.1)) ] ],
  ))

  -- the next instance of a block
  pub come_instance : (jobs : List ℕ) (a b i : ℕ) → HasCome net h tasks jobs a b b i → HasCome net h tasks jobs a b a (i + 1)
  come_instance jobs a b i = come_as jobs a b b i a b a (i + 1) (λ k m within some. (
    λ d. elim d [ inl x ↦ inl x | inr x ↦ elim x [ inl y ↦ inr (inr (y.0, omega (arith, y.1))) | inr y ↦ inr (inr (y.0, omega (arith, y.1))) ] ],
    λ d. elim d [ inl x ↦ inl x | inr x ↦ elim x [ inl y ↦ inl y.0 | inr y ↦ inr (inl (y.0, omega (arith, y.1))) ] ],
  ))

  -- a block is done
  pub come_done : (jobs : List ℕ) (a b : ℕ) → IsBlock tasks a b → HasCome net h tasks jobs a b a (instances net h (get_or tasks a 0)) → HasCome net h tasks jobs b b b 0
  come_done jobs a b block = come_as jobs a b a (instances net h (get_or tasks a 0)) b b b 0 (λ k m within some. (
    λ d. elim d [
      | inl x ↦ inl (omega (arith, x, block.some))
      | inr x ↦ elim x [ inl y ↦ inl (omega (arith, y.0, block.some)) | inr y ↦ inl y.0 ]
    ],
    λ d. elim (cases_lt k a) [
      | inl early ↦ inl early
      | inr late ↦ (let high : k < b = elim d [ inl x ↦ x | inr x ↦ elim x [ inl y ↦ y.0 | inr y ↦ y.0 ] ] in
          inr (inr (high, (let many = block_many a b block (suc k) k (omega arith) late high in omega (arith, some, many)))))
    ],
  ))

  -- where all blocks are done, the jobs are in order
  pub come_end : (jobs : List ℕ) (a : ℕ) → length tasks ≤ a → HasCome net h tasks jobs a a a 0 → IsOrder (IsProducer net h) (job_count net h) jobs
  come_end jobs a past come =
      let whole : (j : ℕ) → j < job_count net h → Contains jobs j = λ j low.
      (let w = job_at net h (length net.tasks) j low in
      let k = placed w.0 w.2 in
      let e : get_or tasks k.0 0 ≡ w.0 = k.2 in
      subst (Contains jobs) (ap (λ x. job_number net h x w.1) e ∙ sym w.4) ((come.named k.0 w.1 k.1 (subst (λ x. w.1 < instances net h x) (sym e) w.3)).1 (inl (omega (arith, k.1, past))))) in
      record { size = size_from_whole (IsProducer net h) (job_count net h) jobs come.in_order whole; whole = whole; each = come.in_order }
