-- The laws of formats that are made of others.
use Rattle.std.proofs.Common.{Bool, true, false, ◌≡◌, ℕ, zero, suc, ◌+◌, ◌-◌, ◌<◌, ◌≤◌, List, [], ◌∷◌, ◌++◌, length, get_or, Result, Ok, Err, refl, sym, ap, subst, ◌∙◌, append_assoc, arith, All}
use Rattle.std.specs.List.{flat_map}
use Rattle.std.proofs.lemmas.List.{length-append, get_or-append-add, append-nil}
use Rattle.std.proofs.lemmas.List.Elements.{All-nil, All-cons, All-head, All-tail}
use Rattle.std.proofs.lemmas.List.Concat.{flat_map-cons}
use Rattle.formats.specs.Format.{Reading, Format, read_then, chain, ◌then◌, shaped, read_times, times, counted, nothing, choose, ended, whole}
use Rattle.formats.specs.Laws.{IsBytes, Takes, IsLawful}

abbrev pub gives : {A : Type 0} → A → List ℕ → Reading A
gives a rest = Ok (a, rest)

-- a reading that went on
pub went : {A B : Type 0} (r : Reading A) (go : A → List ℕ → Reading B) (b : B) (more : List ℕ) → read_then r go ≡ Ok (b, more)
    → (a : A) × (rest : List ℕ) × (r ≡ Ok (a, rest)) × (go a rest ≡ Ok (b, more))
went (Ok x) go b more e = (x.0, x.1, refl, e)
went (Err left) go b more e = absurd cc

-- a reading that stopped
pub stopped : {A B : Type 0} (P : Type 0) (r : Reading A) (go : A → List ℕ → Reading B) (left : ℕ) → read_then r go ≡ Err left
    → (r ≡ Err left → P) → ((a : A) (rest : List ℕ) → r ≡ Ok (a, rest) → go a rest ≡ Err left → P) → P
stopped P (Ok x) go left e f g = g x.0 x.1 refl e
stopped P (Err n) go left e f g = f cc

abbrev given : {A : Type 0} → A × List ℕ → Reading A
given x = Ok x

ok_is : {A : Type 0} (x y : A × List ℕ) → given x ≡ given y → x ≡ y
ok_is x y e = cc

same_gives : {A : Type 0} (a b : A) (r s : List ℕ) → gives a r ≡ gives b s → (a ≡ b) × (r ≡ s)
same_gives {A = A} a b r s e =
    let both = ok_is (a, r) (b, s) e in
    (ap (λ (p : A × List ℕ). p.0) both, ap (λ (p : A × List ℕ). p.1) both)

pub rest_bytes : (front rest : List ℕ) → IsBytes (front ++ rest) → IsBytes rest
rest_bytes front rest h i = rw (← get_or-append-add front rest i 0) (h (length front + i))

chain_again : {A B : Type 0} (f : Format A) (g : A → Format B) → IsLawful f → ((a : A) → f.fits a → IsLawful (g a)) → (p : A × B) (rest : List ℕ) → (chain f g).fits p
    → (chain f g).reads ((chain f g).writes p ++ rest) ≡ Ok (p, rest)
chain_again f g lf lg p rest fits =
    rw (append_assoc (f.writes p.0) ((g p.0).writes p.1) rest, lf.again p.0 ((g p.0).writes p.1 ++ rest) fits.0, (lg p.0 fits.0).again p.1 rest fits.1) refl

chain_takes : {A B : Type 0} (f : Format A) (g : A → Format B) → IsLawful f → ((a : A) → f.fits a → IsLawful (g a)) → (bytes : List ℕ) (p : A × B) (rest : List ℕ) → IsBytes bytes
    → (chain f g).reads bytes ≡ Ok (p, rest) → Takes (chain f g) bytes p rest
chain_takes {A = A} {B = B} f g lf lg bytes p rest fits e =
    let one = went (f.reads bytes) (λ a r. read_then ((g a).reads r) (λ b more. Ok ((a, b), more))) p rest e in
    let a = one.0 in
    let r = one.1 in
    let t = lf.takes bytes a r fits one.2 in
    let r_fits : IsBytes r = rest_bytes (f.writes a) r (subst IsBytes t.parts fits) in
    let two = went ((g a).reads r) (λ b more. Ok ((a, b), more)) p rest one.3 in
    let b = two.0 in
    let u = (lg a t.fits).takes r b two.1 r_fits two.2 in
    let same = same_gives (a, b) p two.1 rest two.3 in
    let parts : bytes ≡ (chain f g).writes (a, b) ++ two.1 = t.parts ∙ ap (λ (x : List ℕ). f.writes a ++ x) u.parts ∙ sym (append_assoc (f.writes a) ((g a).writes b) two.1) in
    let made : Takes (chain f g) bytes (a, b) two.1 = record { fits = (t.fits, u.fits); parts = parts } in
    subst (λ (q : A × B). Takes (chain f g) bytes q rest) same.0 (subst (λ (x : List ℕ). Takes (chain f g) bytes (a, b) x) same.1 made)

chain_within : {A B : Type 0} (f : Format A) (g : A → Format B) → IsLawful f → ((a : A) → f.fits a → IsLawful (g a)) → (bytes : List ℕ) (left : ℕ) → IsBytes bytes
    → (chain f g).reads bytes ≡ Err left → left ≤ length bytes
chain_within f g lf lg bytes left fits e =
    stopped (left ≤ length bytes) (f.reads bytes) (λ a r. read_then ((g a).reads r) (λ b more. Ok ((a, b), more))) left e
    (λ first. lf.within bytes left fits first)
    (λ a r ok later.
    let t = lf.takes bytes a r fits ok in
    let r_fits : IsBytes r = rest_bytes (f.writes a) r (subst IsBytes t.parts fits) in
    let size : length bytes ≡ length (f.writes a) + length r = ap length t.parts ∙ length-append (f.writes a) r in
    stopped (left ≤ length bytes) ((g a).reads r) (λ b more. Ok ((a, b), more)) left later
    (λ second. let le = (lg a t.fits).within r left r_fits second in omega (arith, size, le))
    (λ b more h k. absurd cc))

pub lawful_chain : {A B : Type 0} (f : Format A) (g : A → Format B) → IsLawful f → ((a : A) → f.fits a → IsLawful (g a)) → IsLawful (chain f g)
lawful_chain f g lf lg = record {
  again = λ p rest fits. chain_again f g lf lg p rest fits;
  takes = λ bytes p rest fits e. chain_takes f g lf lg bytes p rest fits e;
  within = λ bytes left fits e. chain_within f g lf lg bytes left fits e;
}

shaped_again : {A B : Type 0} (to : A → B) (from : B → A) (f : Format A) → IsLawful f → (b : B) (rest : List ℕ) → (shaped to from f).fits b
    → (shaped to from f).reads ((shaped to from f).writes b ++ rest) ≡ Ok (b, rest)
shaped_again {B = B} to from f lf b rest fits = rw (lf.again (from b) rest fits.0) (ap (λ (x : B). gives x rest) fits.1)

shaped_takes : {A B : Type 0} (to : A → B) (from : B → A) (f : Format A) → IsLawful f → ((a : A) → f.fits a → from (to a) ≡ a) → (bytes : List ℕ) (b : B) (rest : List ℕ) → IsBytes bytes
    → (shaped to from f).reads bytes ≡ Ok (b, rest) → Takes (shaped to from f) bytes b rest
shaped_takes {B = B} to from f lf back bytes b rest fits e =
    let one = went (f.reads bytes) (λ a r. Ok (to a, r)) b rest e in
    let a = one.0 in
    let t = lf.takes bytes a one.1 fits one.2 in
    let same = same_gives (to a) b one.1 rest one.3 in
    let again : from (to a) ≡ a = back a t.fits in
    let made : Takes (shaped to from f) bytes (to a) one.1 = record { fits = (rw again t.fits, ap to again); parts = rw again t.parts } in
    subst (λ (q : B). Takes (shaped to from f) bytes q rest) same.0 (subst (λ (x : List ℕ). Takes (shaped to from f) bytes (to a) x) same.1 made)

shaped_within : {A B : Type 0} (to : A → B) (from : B → A) (f : Format A) → IsLawful f → (bytes : List ℕ) (left : ℕ) → IsBytes bytes
    → (shaped to from f).reads bytes ≡ Err left → left ≤ length bytes
shaped_within to from f lf bytes left fits e =
    stopped (left ≤ length bytes) (f.reads bytes) (λ a r. Ok (to a, r)) left e (λ first. lf.within bytes left fits first) (λ a r ok later. absurd cc)

-- the one condition of a shape: what fits comes back
pub lawful_shaped : {A B : Type 0} (to : A → B) (from : B → A) (f : Format A) → IsLawful f → ((a : A) → f.fits a → from (to a) ≡ a) → IsLawful (shaped to from f)
lawful_shaped to from f lf back = record {
  again = λ b rest fits. shaped_again to from f lf b rest fits;
  takes = λ bytes b rest fits e. shaped_takes to from f lf back bytes b rest fits e;
  within = λ bytes left fits e. shaped_within to from f lf bytes left fits e;
}

times_again : {A : Type 0} (f : Format A) → IsLawful f → (n : ℕ) (xs : List A) (rest : List ℕ) → length xs ≡ n → All f.fits xs → read_times f.reads n (flat_map f.writes xs ++ rest) ≡ Ok (xs, rest)
unfolding read_times
times_again f lf zero [] rest size all = refl
times_again f lf zero (x ∷ xs) rest size all = absurd (omega (arith, size))
times_again f lf (suc n) [] rest size all = absurd (omega (arith, size))
times_again f lf (suc n) (x ∷ xs) rest size all =
    let later = times_again f lf n xs rest (omega (arith, size)) (All-tail f.fits x xs all) in
    rw (flat_map-cons f.writes x xs, append_assoc (f.writes x) (flat_map f.writes xs) rest, lf.again x (flat_map f.writes xs ++ rest) (All-head f.fits x xs all), later) refl

times_takes : {A : Type 0} (f : Format A) → IsLawful f → (n : ℕ) (bytes : List ℕ) (xs : List A) (rest : List ℕ) → IsBytes bytes → read_times f.reads n bytes ≡ Ok (xs, rest) → Takes (times f n) bytes xs rest
unfolding read_times
times_takes {A = A} f lf zero bytes xs rest fits e =
    let same = same_gives [] xs bytes rest e in
    let made : Takes (times f 0) bytes [] bytes = record { fits = (refl, All-nil f.fits); parts = refl } in
    subst (λ (q : List A). Takes (times f 0) bytes q rest) same.0 (subst (λ (r : List ℕ). Takes (times f 0) bytes [] r) same.1 made)
times_takes {A = A} f lf (suc n) bytes xs rest fits e =
    let one = went (f.reads bytes) (λ a r. read_then (read_times f.reads n r) (λ others more. Ok (a ∷ others, more))) xs rest e in
    let t = lf.takes bytes one.0 one.1 fits one.2 in
    let r_fits : IsBytes one.1 = rest_bytes (f.writes one.0) one.1 (subst IsBytes t.parts fits) in
    let two = went (read_times f.reads n one.1) (λ others more. Ok (one.0 ∷ others, more)) xs rest one.3 in
    let u = times_takes f lf n one.1 two.0 two.1 r_fits two.2 in
    let same = same_gives (one.0 ∷ two.0) xs two.1 rest two.3 in
    let parts : bytes ≡ flat_map f.writes (one.0 ∷ two.0) ++ two.1 = rw (flat_map-cons f.writes one.0 two.0) (t.parts ∙ ap (λ (x : List ℕ). f.writes one.0 ++ x) u.parts ∙ sym (append_assoc (f.writes one.0) (flat_map f.writes two.0) two.1)) in
    let made : Takes (times f (suc n)) bytes (one.0 ∷ two.0) two.1 = record { fits = (omega (arith, u.fits.0), All-cons f.fits one.0 two.0 t.fits u.fits.1); parts = parts } in
    subst (λ (q : List A). Takes (times f (suc n)) bytes q rest) same.0 (subst (λ (r : List ℕ). Takes (times f (suc n)) bytes (one.0 ∷ two.0) r) same.1 made)

times_within : {A : Type 0} (f : Format A) → IsLawful f → (n : ℕ) (bytes : List ℕ) (left : ℕ) → IsBytes bytes → read_times f.reads n bytes ≡ Err left → left ≤ length bytes
unfolding read_times
times_within f lf zero bytes left fits e = absurd cc
times_within f lf (suc n) bytes left fits e =
    stopped (left ≤ length bytes) (f.reads bytes) (λ a r. read_then (read_times f.reads n r) (λ others more. Ok (a ∷ others, more))) left e
    (λ first. lf.within bytes left fits first)
    (λ a r ok later.
    let t = lf.takes bytes a r fits ok in
    let r_fits : IsBytes r = rest_bytes (f.writes a) r (subst IsBytes t.parts fits) in
    let size : length bytes ≡ length (f.writes a) + length r = ap length t.parts ∙ length-append (f.writes a) r in
    stopped (left ≤ length bytes) (read_times f.reads n r) (λ others more. Ok (a ∷ others, more)) left later
    (λ second. let le = times_within f lf n r left r_fits second in omega (arith, size, le))
    (λ b more h k. absurd cc))

pub lawful_times : {A : Type 0} (f : Format A) → IsLawful f → (n : ℕ) → IsLawful (times f n)
lawful_times f lf n = record {
  again = λ xs rest fits. times_again f lf n xs rest fits.0 fits.1;
  takes = λ bytes xs rest fits e. times_takes f lf n bytes xs rest fits e;
  within = λ bytes left fits e. times_within f lf n bytes left fits e;
}

pub lawful_counted : {A : Type 0} (count : Format ℕ) (f : Format A) → IsLawful count → IsLawful f → IsLawful (counted count f)
lawful_counted count f lc lf =
    lawful_shaped (λ p. p.1) (λ xs. (length xs, xs)) (chain count (times f)) (lawful_chain count (times f) lc (λ n _. lawful_times f lf n))
    (λ p fits. rw fits.1.0 refl)

pub lawful_then : {A B : Type 0} {f : Format A} {g : Format B} → IsLawful f → IsLawful g → IsLawful (f then g)
lawful_then {f = f} {g = g} lf lg = lawful_chain f (λ _. g) lf (λ _ _. lg)

pub lawful_list : {A : Type 0} {count : Format ℕ} {f : Format A} → IsLawful count → IsLawful f → IsLawful (counted count f)
lawful_list {count = count} {f = f} lc lf = lawful_counted count f lc lf

pub lawful_shape : {A B : Type 0} {f : Format A} (to : A → B) (from : B → A) → IsLawful f → ((a : A) → f.fits a → from (to a) ≡ a) → IsLawful (shaped to from f)
lawful_shape {f = f} to from lf back = lawful_shaped to from f lf back

whole_of : {A : Type 0} (f : Format A) → IsLawful f → (size : ℕ) (bytes : List ℕ) (a : A) (r : Reading A) → IsBytes bytes → f.reads bytes ≡ r → ended size r ≡ Ok a → f.fits a × (bytes ≡ f.writes a)
whole_of f lf size bytes a (Err left) fits is e = absurd cc
whole_of {A = A} f lf size bytes a (Ok x) fits is e = end_of x.0 x.1 is e where
  end_of : (b : A) (rest : List ℕ) → f.reads bytes ≡ Ok (b, rest) → ended size (Ok (b, rest)) ≡ Ok a → f.fits a × (bytes ≡ f.writes a)
  end_of b [] is e =
      let t = lf.takes bytes b [] fits is in
      let same : b ≡ a = cc in
      subst (λ (x : A). f.fits x × (bytes ≡ f.writes x)) same (t.fits, t.parts ∙ append-nil (f.writes b))
  end_of b (c ∷ rest) is e = absurd cc

-- what is read from all of the bytes fits, and the bytes are what it writes
pub whole_takes : {A : Type 0} (f : Format A) → IsLawful f → (bytes : List ℕ) (a : A) → IsBytes bytes → whole f bytes ≡ Ok a → f.fits a × (bytes ≡ f.writes a)
whole_takes f lf bytes a fits e = whole_of f lf (length bytes) bytes a (f.reads bytes) fits refl e

-- and what a value writes is read as that value
pub whole_again : {A : Type 0} (f : Format A) → IsLawful f → (a : A) → f.fits a → whole f (f.writes a) ≡ Ok a
whole_again {A = A} f lf a fits =
    let read : f.reads (f.writes a) ≡ Ok (a, []) = subst (λ (bytes : List ℕ). f.reads bytes ≡ Ok (a, [])) (append-nil (f.writes a)) (lf.again a [] fits) in
    ap (ended (length (f.writes a))) read

pub rest_within : {A : Type 0} (f : Format A) → IsLawful f → (bytes : List ℕ) (a : A) (rest : List ℕ) → IsBytes bytes → f.reads bytes ≡ Ok (a, rest) → length rest ≤ length bytes
rest_within f lf bytes a rest fits e =
    let t = lf.takes bytes a rest fits e in
    omega (arith, ap length t.parts, length-append (f.writes a) rest)

pub lawful_nothing : {A : Type 0} (a : A) → IsLawful (nothing a)
lawful_nothing {A = A} a = record {
  again = λ b rest fits. ap (λ (x : A). gives x rest) (sym fits);
  takes = λ bytes b rest fits e. let same = same_gives a b bytes rest e in record { fits = sym same.0; parts = same.1 };
  within = λ bytes left fits e. absurd cc;
}

pub lawful_choose : {A : Type 0} {f g : Format A} (b : Bool) → IsLawful f → IsLawful g → IsLawful (choose b f g)
lawful_choose true lf lg = lf
lawful_choose false lf lg = lg
