-- Messages of one frame share no word.
use Rattle.std.proofs.Common.{◌≡◌, ℕ, zero, suc, ◌+◌, ◌<◌, ◌≤◌, ◌⊎◌, inl, inr, List, [], ◌∷◌, ◌++◌, length, Some, refl, sym, ap, ◌∙◌, subst, arith}
use Rattle.std.specs.Prelude.{slice_get}
use Rattle.std.proofs.lemmas.Option.{slice_get_within}
use Rattle.tdma.specs.Load.{words_for}
use Rattle.decisions.specs.declared.placed.Sent.{Sent}
use Rattle.decisions.specs.declared.problem.Feed.{Feed}
use Rattle.decisions.specs.declared.problem.Problem.{Problem}
use Rattle.decisions.specs.Decision.{Decision, work_at}
use Rattle.decisions.specs.Place.{words_sent, words_taken, taken_before, Waiting}
use Rattle.decisions.specs.Choices.{IsReached}
use Rattle.reached.proofs.Members.{In, in_append, in_nothing, in_one}
use Rattle.reached.proofs.Decided.{IsFed, first_wait, message_in}
use Rattle.reached.proofs.Good.{words_sent-append, words_taken-append, IsChoiceOf}
use Rattle.valid_lists.proofs.Along.{IsNew, along, fed_along}
use Rattle.valid_lists.proofs.Units.{same_test}

-- what stands in a longer list stands in its first part, or is the last
pub last_or : {X : Type 0} (xs : List X) (y x : X) (i : ℕ) → slice_get (xs ++ y ∷ []) i ≡ Some x → (slice_get xs i ≡ Some x) ⊎ ((i ≡ length xs) × (y ≡ x))
last_or [] y x zero h = inr (refl, cc)
last_or [] y x (suc i) h = absurd (cc)
last_or (z ∷ xs) y x zero h = inl h
last_or (z ∷ xs) y x (suc i) h = elim (last_or xs y x i h) [ inl g ↦ inl g | inr g ↦ inr (ap suc g.0, g.1) ]

-- the words of a frame below a message, and those up to its end
pub record IsAbove (l : List Decision) (ms : List Sent) (m : Sent) : Type 0 where
  pub low : words_taken l m.unit m.round ≤ m.offset
  pub high : m.offset + m.words ≤ words_taken l m.unit m.round + words_sent ms m.unit m.round

-- messages stand behind what is taken, one behind the other
pub record AreStacked (l : List Decision) (ms : List Sent) : Type 0 where
  pub above : (m : Sent) → In ms m → IsAbove l ms m
  pub behind : (i k : ℕ) (m n : Sent) → i < k → slice_get ms i ≡ Some m → slice_get ms k ≡ Some n → m.unit ≡ n.unit → m.round ≡ n.round → m.offset + m.words ≤ n.offset

frame_words : (unit round words : ℕ) → words_for unit round words unit round ≡ words
frame_words unit round words = rw (same_test unit unit refl, same_test round round refl) refl

above_old : (l : List Decision) (ms : List Sent) (m x : Sent) → IsAbove l ms x → IsAbove l (ms ++ m ∷ []) x
above_old l ms m x a = let e = words_sent-append ms m x.unit x.round in record { low = a.low; high = omega (arith, a.high) }

above_new : (l : List Decision) (ms : List Sent) (m : Sent) → m.offset ≡ taken_before l ms m.unit m.round → IsAbove l (ms ++ m ∷ []) m
above_new l ms m e =
    let a = words_sent-append ms m m.unit m.round in
    let w = frame_words m.unit m.round m.words in
    record { low = omega arith; high = omega arith }

stacked_more : (l : List Decision) (ms : List Sent) (m : Sent) → m.offset ≡ taken_before l ms m.unit m.round → AreStacked l ms → AreStacked l (ms ++ m ∷ [])
stacked_more l ms m e s = record {
  above = λ x i. elim (in_append ms (m ∷ []) x i) [
    | inl a ↦ above_old l ms m x (s.above x a)
    | inr a ↦ subst (IsAbove l (ms ++ m ∷ [])) (in_one m x a) (above_new l ms m e)
  ];
  behind = λ i k x y low f g u r. elim (last_or ms m x i f) [
    | inl a ↦ elim (last_or ms m y k g) [
      | inl b ↦ s.behind i k x y low a b u r
      | inr b ↦ subst (λ (z : Sent). x.offset + x.words ≤ z.offset) b.1 (
          let v : x.unit ≡ m.unit = u ∙ ap (λ (z : Sent). z.unit) (sym b.1) in
          let q : x.round ≡ m.round = r ∙ ap (λ (z : Sent). z.round) (sym b.1) in
          let high = (s.above x (i, a)).high in
          let there : x.offset + x.words ≤ words_taken l m.unit m.round + words_sent ms m.unit m.round =
          subst (λ k. x.offset + x.words ≤ words_taken l m.unit k + words_sent ms m.unit k) q (subst (λ n. x.offset + x.words ≤ words_taken l n x.round + words_sent ms n x.round) v high) in
          omega arith)
    ]
    | inr a ↦ absurd (elim (last_or ms m y k g) [
      | inl b ↦ (let w = slice_get_within ms k y b in omega (arith, a.0))
      | inr b ↦ omega (arith, a.0, b.0)
    ])
  ];
}

stacked_none : (l : List Decision) → AreStacked l []
stacked_none l = record { above = λ m i. absurd (in_nothing m i); behind = λ i k m n low f g u r. absurd (cc) }

stacked_one : (pr : Problem) (l : List Decision) (unit : ℕ) (w v : Waiting) (feed : Feed) → IsFed pr l unit w feed v → AreStacked l w.sent → AreStacked l v.sent
stacked_one pr l unit w v feed f s = elim f.way [
  | inl h ↦ subst (AreStacked l) (sym h.1) s
  | inr h ↦ subst (AreStacked l) (sym h.1.2) (stacked_more l w.sent (message_in l w feed f.producer.unit h.1.0) refl s)
]

-- the messages of a choice
stacked : (pr : Problem) (l : List Decision) (d : Decision) → IsChoiceOf pr l d → AreStacked l d.sent
stacked pr l d c =
    let k = c.decided in
    subst (AreStacked l) (sym k.sent_is)
    (fed_along pr l d.unit (work_at pr d.job).feeds (λ (w : Waiting). AreStacked l w.sent) (λ w v feed i f s. stacked_one pr l d.unit w v feed f s) (work_at pr d.job).feeds (λ feed j. j)
    (first_wait pr d.job) k.waiting k.fed_is (stacked_none l))

-- one ends before the other begins
abbrev pub AreParted : Sent → Sent → Type 0
AreParted m n = (m.offset + m.words ≤ n.offset) ⊎ (n.offset + n.words ≤ m.offset)

-- the messages of a list
pub record HasFrames (l : List Decision) : Type 0 where
  pub below : (d : Decision) → In l d → (m : Sent) → In d.sent m → m.offset + m.words ≤ words_taken l m.unit m.round
  pub across : (d e : Decision) → In l d → In l e → (d.job ≡ e.job → ⊥) → (m n : Sent) → In d.sent m → In e.sent n → m.unit ≡ n.unit → m.round ≡ n.round → AreParted m n
  pub within : (d : Decision) → In l d → (i k : ℕ) (m n : Sent) → i < k → slice_get d.sent i ≡ Some m → slice_get d.sent k ≡ Some n → m.unit ≡ n.unit → m.round ≡ n.round → m.offset + m.words ≤ n.offset

below_next : (l : List Decision) (d x : Decision) → AreStacked l d.sent → HasFrames l → In (l ++ d ∷ []) x → (m : Sent) → In x.sent m → m.offset + m.words ≤ words_taken (l ++ d ∷ []) m.unit m.round
below_next l d x s h i m j =
    let e = words_taken-append l d m.unit m.round in
    elim (in_append l (d ∷ []) x i) [
      | inl a ↦ omega (arith, h.below x a m j)
      | inr a ↦ (let f = s.above m (subst (λ (y : Decision). In y.sent m) (sym (in_one d x a)) j) in omega (arith, f.high))
    ]

-- an old message and a new one
parted : (l : List Decision) (d x : Decision) (m n : Sent) → AreStacked l d.sent → HasFrames l → In l x → In x.sent m → In d.sent n → m.unit ≡ n.unit → m.round ≡ n.round → m.offset + m.words ≤ n.offset
parted l d x m n s h i j k u r =
    let a = h.below x i m j in
    let b = (s.above n k).low in
    let c : m.offset + m.words ≤ words_taken l n.unit n.round = subst (λ q. m.offset + m.words ≤ words_taken l n.unit q) r (subst (λ v. m.offset + m.words ≤ words_taken l v m.round) u a) in
    omega arith

across_next : (l : List Decision) (d x y : Decision) → AreStacked l d.sent → HasFrames l → In (l ++ d ∷ []) x → In (l ++ d ∷ []) y → (x.job ≡ y.job → ⊥) → (m n : Sent) → In x.sent m → In y.sent n → m.unit ≡ n.unit → m.round ≡ n.round → AreParted m n
across_next l d x y s h i j ne m n p q u r = elim (in_append l (d ∷ []) x i) [
  | inl a ↦ elim (in_append l (d ∷ []) y j) [
    | inl b ↦ h.across x y a b ne m n p q u r
    | inr b ↦ inl (parted l d x m n s h a p (subst (λ (z : Decision). In z.sent n) (sym (in_one d y b)) q) u r)
  ]
  | inr a ↦ elim (in_append l (d ∷ []) y j) [
    | inl b ↦ inr (parted l d y n m s h b q (subst (λ (z : Decision). In z.sent m) (sym (in_one d x a)) p) (sym u) (sym r))
    | inr b ↦ absurd (ne (ap (λ (z : Decision). z.job) (sym (in_one d x a) ∙ in_one d y b)))
  ]
]

within_next : (l : List Decision) (d x : Decision) → AreStacked l d.sent → HasFrames l → In (l ++ d ∷ []) x → (i k : ℕ) (m n : Sent) → i < k → slice_get x.sent i ≡ Some m → slice_get x.sent k ≡ Some n → m.unit ≡ n.unit → m.round ≡ n.round → m.offset + m.words ≤ n.offset
within_next l d x s h j i k m n low f g u r = elim (in_append l (d ∷ []) x j) [
  | inl a ↦ h.within x a i k m n low f g u r
  | inr a ↦ (let e = sym (in_one d x a) in s.behind i k m n low (subst (λ (z : Decision). slice_get z.sent i ≡ Some m) e f) (subst (λ (z : Decision). slice_get z.sent k ≡ Some n) e g) u r)
]

frames_next : (pr : Problem) (l : List Decision) (d : Decision) → IsNew pr l d → HasFrames l → HasFrames (l ++ d ∷ [])
frames_next pr l d n h =
    let s = stacked pr l d n.choice in
    record {
      below = λ x i m j. below_next l d x s h i m j;
      across = λ x y i j ne m o p q u r. across_next l d x y s h i j ne m o p q u r;
      within = λ x j i k m o low f g u r. within_next l d x s h j i k m o low f g u r;
    }

pub frames : (pr : Problem) (l : List Decision) → IsReached pr l → HasFrames l
frames pr = along pr HasFrames (record { below = λ d i. absurd (in_nothing d i); across = λ d e i. absurd (in_nothing d i); within = λ d i. absurd (in_nothing d i) }) (λ l d n h. frames_next pr l d n h)
