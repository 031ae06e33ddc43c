-- Words taken in one frame, and words given back.
use Rattle.std.proofs.Common.{◌≡◌, ◌≢◌, ℕ, ◌+◌, ◌-◌, ◌*◌, ◌/◌, ◌%◌, ◌<◌, ◌≤◌, ◌⊎◌, inl, inr, List, length, get_or, set, refl, sym, ◌∙◌, ap, ap₂, subst, arith, get_or-set_other, get_or-set_same, mul-le-mul_right}
use Rattle.std.proofs.Math.Nat.{div-add-mod', mod-lt}
use Rattle.std.proofs.lemmas.Nat.{same_from_place, div_below}
use Rattle.std.proofs.lemmas.Bool.{cases_eq, eq-eqb, ne_eqb}
use Rattle.std.proofs.lemmas.List.{ext_get_or}
use Rattle.std.proofs.lemmas.Grind.{get_or_default_zero}
use Rattle.tdma.specs.Layout.{Layout}
use Rattle.tdma.specs.Load.{Load, IsLoad, Takes, taken_in, words_for}

-- the place of a frame is one of the list's
pub in_list : (f : Load) (u k : ℕ) → IsLoad f → u < f.layout.units → k < f.layout.rounds → u * f.layout.rounds + k < length f.words
in_list f u k is a b =
    let more : (u + 1) * f.layout.rounds ≤ f.layout.units * f.layout.rounds = mul-le-mul_right f.layout.rounds (omega (arith, a)) in
    omega (arith, is, more, b)

-- what a write of one frame leaves in each frame
written : (f g : Load) (u k y : ℕ) → IsLoad f → u < f.layout.units → k < f.layout.rounds → g.layout ≡ f.layout → g.words ≡ set f.words (u * f.layout.rounds + k) y →
    (v r : ℕ) → r < f.layout.rounds →
    ((taken_in g v r ≡ y) × (taken_in f v r ≡ taken_in f u k) × ((n : ℕ) → words_for u k n v r ≡ n)) ⊎ ((taken_in g v r ≡ taken_in f v r) × ((n : ℕ) → words_for u k n v r ≡ 0))
written f g u k y is a b lay e v r low =
    let reads : taken_in g v r ≡ get_or (set f.words (u * f.layout.rounds + k) y) (v * f.layout.rounds + r) 0 =
    ap₂ (λ (ws : List ℕ) (n : ℕ). get_or ws (v * n + r) 0) e (ap (λ (l : Layout). l.rounds) lay) in
    elim (cases_eq u v) [
      | inl p ↦ elim (cases_eq k r) [
        | inl q ↦
            let same : v * f.layout.rounds + r ≡ u * f.layout.rounds + k = ap₂ (λ x z. x * f.layout.rounds + z) (sym p) (sym q) in
            inl (
              reads ∙ ap (λ i. get_or (set f.words (u * f.layout.rounds + k) y) i 0) same ∙ get_or-set_same f.words (u * f.layout.rounds + k) y 0 (in_list f u k is a b),
              ap (λ i. get_or f.words i 0) same,
              λ n. rw (eq-eqb u v p, eq-eqb k r q) refl,
            )
        | inr q ↦
            let apart : v * f.layout.rounds + r ≢ u * f.layout.rounds + k = λ h. q (sym (same_from_place v r u k f.layout.rounds low b h).1) in
            inr (reads ∙ get_or-set_other f.words (u * f.layout.rounds + k) (v * f.layout.rounds + r) y 0 apart, λ n. rw (eq-eqb u v p, ne_eqb k r q) refl)
      ]
      | inr p ↦
          let apart : v * f.layout.rounds + r ≢ u * f.layout.rounds + k = λ h. p (sym (same_from_place v r u k f.layout.rounds low b h).0) in
          inr (reads ∙ get_or-set_other f.words (u * f.layout.rounds + k) (v * f.layout.rounds + r) y 0 apart, λ n. rw (ne_eqb u v p) refl)
    ]

-- a frame with n words more
pub more_taken : (f g : Load) (u k n : ℕ) → IsLoad f → u < f.layout.units → k < f.layout.rounds → g.layout ≡ f.layout → g.words ≡ set f.words (u * f.layout.rounds + k) (taken_in f u k + n) → Takes f g u k n
more_taken f g u k n is a b lay e = record {
  layout = lay;
  taken = λ v r _ low. elim (written f g u k (taken_in f u k + n) is a b lay e v r low) [
    | inl h ↦ omega (arith, h.0, h.1, h.2 n)
    | inr h ↦ omega (arith, h.0, h.1 n)
  ];
}

-- a frame with n words less: those n more are the frame as it was
pub less_taken : (f g : Load) (u k n : ℕ) → IsLoad f → u < f.layout.units → k < f.layout.rounds → n ≤ taken_in f u k → g.layout ≡ f.layout → g.words ≡ set f.words (u * f.layout.rounds + k) (taken_in f u k - n) → Takes g f u k n
less_taken f g u k n is a b enough lay e = record {
  layout = sym lay;
  taken = λ v r _ low. elim (written f g u k (taken_in f u k - n) is a b lay e v r (omega (arith, ap (λ (l : Layout). l.rounds) lay, low))) [
    | inl h ↦ omega (arith, h.0, h.1, h.2 n)
    | inr h ↦ omega (arith, h.0, h.1 n)
  ];
}

-- loads with the same words in each frame are one
pub same_load : (f g : Load) → IsLoad f → IsLoad g → f.layout ≡ g.layout → ((v k : ℕ) → v < f.layout.units → k < f.layout.rounds → taken_in f v k ≡ taken_in g v k) → f ≡ g
same_load f g is is' lay each =
    let units : f.layout.units ≡ g.layout.units = ap (λ (l : Layout). l.units) lay in
    let rounds : f.layout.rounds ≡ g.layout.rounds = ap (λ (l : Layout). l.rounds) lay in
    let sizes : length f.words ≡ length g.words = is ∙ ap₂ (λ x y. x * y) units rounds ∙ sym is' in
    let words : f.words ≡ g.words = ext_get_or 0 f.words g.words sizes (λ i low.
    let some : 0 < f.layout.rounds = some_rounds f.layout.units f.layout.rounds i (omega (arith, is, low)) in
    let whole = div-add-mod' i f.layout.rounds in
    let one = each (i / f.layout.rounds) (i % f.layout.rounds) (div_below i f.layout.rounds f.layout.units some (omega (arith, is, low))) (mod-lt i some) in
    let there : i / f.layout.rounds * g.layout.rounds + i % f.layout.rounds ≡ i = ap (λ x. i / f.layout.rounds * x + i % f.layout.rounds) (sym rounds) ∙ whole in
    ap (λ x. get_or f.words x 0) (sym whole) ∙ one ∙ ap (λ x. get_or g.words x 0) there) in
    ap₂ (λ (l : Layout) (ws : List ℕ). record { layout = l; words = ws }) lay words
  where
    some_rounds : (u r i : ℕ) → i < u * r → 0 < r
    some_rounds u r i h = elim (cases_eq r 0) [ inl e ↦ absurd (let z : u * r ≡ u * 0 = ap (λ x. u * x) e in omega (arith, h, z)) | inr e ↦ omega (arith, e) ]

-- the load before a take is the one that a give-back leaves
pub undone : (f old g : Load) (u k n : ℕ) → IsLoad f → IsLoad g → Takes f old u k n → Takes g old u k n → f ≡ g
undone f old g u k n is is' h h' = same_load f g is is' (sym h.layout ∙ h'.layout) (λ v r a b.
    let lay = sym h.layout ∙ h'.layout in
    let one = h.taken v r a b in
    let two = h'.taken v r (omega (arith, a, ap (λ (l : Layout). l.units) lay)) (omega (arith, b, ap (λ (l : Layout). l.rounds) lay)) in
    omega (arith, one, two))

-- the number that is read at a frame's place is what is taken in it
read : (lay : Layout) (ws : List ℕ) (u k i x : ℕ) → IsLoad (record { layout = lay; words = ws }) → u < lay.units → k < lay.rounds → i ≡ u * lay.rounds + k → x ≡ get_or ws i x →
    x ≡ taken_in (record { layout = lay; words = ws }) u k
read lay ws u k i x is a b place value = subst (λ j. x ≡ get_or ws j x) place value ∙ get_or_default_zero ws (u * lay.rounds + k) x (in_list (record { layout = lay; words = ws }) u k is a b)

-- a write of n words more
pub wrote_more : (lay : Layout) (ws : List ℕ) (now : Load) (u k n i x : ℕ) → IsLoad (record { layout = lay; words = ws }) → record { layout = lay; words = ws } ≡ now →
    u < now.layout.units → k < now.layout.rounds → i ≡ u * lay.rounds + k → x ≡ get_or ws i x → Takes now (record { layout = lay; words = set ws i (x + n) }) u k n
wrote_more lay ws now u k n i x is seen a b place value =
    let before : Load = record { layout = lay; words = ws } in
    let unit : u < lay.units = subst (λ (f : Load). u < f.layout.units) (sym seen) a in
    let round : k < lay.rounds = subst (λ (f : Load). k < f.layout.rounds) (sym seen) b in
    subst (λ (f : Load). Takes f (record { layout = lay; words = set ws i (x + n) }) u k n) seen
    (more_taken before (record { layout = lay; words = set ws i (x + n) }) u k n is unit round refl (ap₂ (λ j y. set ws j (y + n)) place (read lay ws u k i x is unit round place value)))

-- a write of n words less
pub wrote_less : (lay : Layout) (ws : List ℕ) (now : Load) (u k n i x : ℕ) → IsLoad (record { layout = lay; words = ws }) → record { layout = lay; words = ws } ≡ now →
    u < now.layout.units → k < now.layout.rounds → n ≤ taken_in now u k → i ≡ u * lay.rounds + k → x ≡ get_or ws i x → Takes (record { layout = lay; words = set ws i (x - n) }) now u k n
wrote_less lay ws now u k n i x is seen a b enough place value =
    let before : Load = record { layout = lay; words = ws } in
    let unit : u < lay.units = subst (λ (f : Load). u < f.layout.units) (sym seen) a in
    let round : k < lay.rounds = subst (λ (f : Load). k < f.layout.rounds) (sym seen) b in
    let some : n ≤ taken_in before u k = subst (λ (f : Load). n ≤ taken_in f u k) (sym seen) enough in
    subst (λ (f : Load). Takes (record { layout = lay; words = set ws i (x - n) }) f u k n) seen
    (less_taken before (record { layout = lay; words = set ws i (x - n) }) u k n is unit round some refl (ap₂ (λ j y. set ws j (y - n)) place (read lay ws u k i x is unit round place value)))
