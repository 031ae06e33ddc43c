-- Gathered text grows, is sent, and is sent in part.
use Rattle.std.proofs.Common.{◌≡◌, ℕ, List, [], ◌++◌, take, drop, Option, None, Some, refl, sym, ap, ◌∙◌, subst, take-append-drop, Result, Ok, Err, length, ◌+◌, ◌≤◌, ◌<◌, min, get_or, add-one, arith}
use Rattle.mars_base.specs.Outside.{Puts}
use Rattle.std.specs.Io.KnownBytes.{append_known}
use Rattle.std.proofs.lemmas.List.{append_assoc, append-nil, take_min, take-append-le, drop_all}
use Rattle.std.proofs.Math.Seq.{take-append-add, drop-cons}
use Rattle.lines.specs.Gathered.{Gathered, HasFront, Writes, joined}
use Rattle.std.specs.Borrow.{Bor}

pub append_known-append : (o : Option (List ℕ)) (xs ys : List ℕ) → append_known (append_known o xs) ys ≡ append_known o (xs ++ ys)
append_known-append None xs ys = refl
append_known-append (Some zs) xs ys = ap Some (append_assoc zs xs ys)

pub append_known-nil : (o : Option (List ℕ)) → append_known o [] ≡ o
append_known-nil None = refl
append_known-nil (Some zs) = ap Some (append-nil zs)

-- nothing written yet
pub nothing_gathered : (out : Option (List ℕ)) → Gathered out [] out []
nothing_gathered out = record { sent = []; whole = refl; stands = sym (append_known-nil out) }

-- more text waits
pub gathered_more : (base : Option (List ℕ)) (text : List ℕ) (out : Option (List ℕ)) (waiting bytes new : List ℕ) → new ≡ waiting ++ bytes → Gathered base text out waiting → Gathered base (text ++ bytes) out new
gathered_more base text out waiting bytes new is g = record {
  sent = g.sent;
  whole = ap (λ (t : List ℕ). t ++ bytes) g.whole ∙ append_assoc g.sent waiting bytes ∙ ap (λ (t : List ℕ). g.sent ++ t) (sym is);
  stands = g.stands;
}

-- all that waited was put
pub gathered_sent : (base : Option (List ℕ)) (text : List ℕ) (out new : Option (List ℕ)) (waiting : List ℕ) → new ≡ append_known out waiting → Gathered base text out waiting → Gathered base text new []
gathered_sent base text out new waiting is g = record {
  sent = text;
  whole = sym (append-nil text);
  stands = is ∙ ap (λ (o : Option (List ℕ)). append_known o waiting) g.stands ∙ append_known-append base g.sent waiting ∙ ap (append_known base) (sym g.whole);
}

-- a front of what waited was put
pub front_sent : (base : Option (List ℕ)) (text : List ℕ) (out new : Option (List ℕ)) (waiting : List ℕ) (n : ℕ) (more : List ℕ) → new ≡ append_known out (take n waiting) → Gathered base text out waiting → HasFront base (text ++ more) new
front_sent base text out new waiting n more is g = record {
  front = g.sent ++ take n waiting;
  rest = drop n waiting ++ more;
  whole = ap (λ (t : List ℕ). t ++ more) (g.whole ∙ ap (λ (t : List ℕ). g.sent ++ t) (sym (take-append-drop n waiting)) ∙ sym (append_assoc g.sent (take n waiting) (drop n waiting)))
      ∙ append_assoc (g.sent ++ take n waiting) (drop n waiting) more;
  stands = is ∙ ap (λ (o : Option (List ℕ)). append_known o (take n waiting)) g.stands ∙ append_known-append base g.sent (take n waiting);
}

-- where nothing waits, all of it is there
pub all_gathered : (base : Option (List ℕ)) (text : List ℕ) (out : Option (List ℕ)) → Gathered base text out [] → out ≡ append_known base text
all_gathered base text out g = g.stands ∙ ap (append_known base) (sym (g.whole ∙ append-nil g.sent))

-- what was put is a front of any longer text
pub front_of_gathered : (base : Option (List ℕ)) (text more all : List ℕ) (out : Option (List ℕ)) (waiting : List ℕ) → all ≡ text ++ more → Gathered base text out waiting → HasFront base all out
front_of_gathered base text more all out waiting is g = record {
  front = g.sent;
  rest = waiting ++ more;
  whole = is ∙ ap (λ (t : List ℕ). t ++ more) g.whole ∙ append_assoc g.sent waiting more;
  stands = g.stands;
}

-- a front of a text is one of any longer text
pub front_of_front : (base : Option (List ℕ)) (text more all : List ℕ) (out : Option (List ℕ)) → all ≡ text ++ more → HasFront base text out → HasFront base all out
front_of_front base text more all out is f = record {
  front = f.front;
  rest = f.rest ++ more;
  whole = is ∙ ap (λ (t : List ℕ). t ++ more) f.whole ∙ append_assoc f.front f.rest more;
  stands = f.stands;
}

-- a front of the first of two lists
take_front : (a b : List ℕ) (n : ℕ) → take n a ≡ take (min n (length a)) (a ++ b)
take_front a b n = sym (take_min n a) ∙ sym (take-append-le (min n (length a)) a b (omega arith))

-- nothing more is written
pub writes_nothing : (out : Option (List ℕ)) (waiting : List ℕ) → Writes {E = Unit {0}} out waiting [] out waiting (Ok tt)
writes_nothing out waiting = λ base text g. subst (λ (t : List ℕ). Gathered base t out waiting) (sym (append-nil text)) g

-- bytes wait behind the others
pub writes_more : (out : Option (List ℕ)) (waiting bytes new : List ℕ) → new ≡ waiting ++ bytes → Writes {E = Unit {0}} out waiting bytes out new (Ok tt)
writes_more out waiting bytes new is = λ base text g. gathered_more base text out waiting bytes new is g

-- what waited was sent
pub writes_sent : {E : Type 0} (r : Result (Unit {0}) E) (out new : Option (List ℕ)) (waiting : List ℕ) → Puts out new r waiting → Writes out waiting [] new [] r
writes_sent (Ok u) out new waiting put = λ base text g. subst (λ (t : List ℕ). Gathered base t new []) (sym (append-nil text)) (gathered_sent base text out new waiting put g)
writes_sent (Err e) out new waiting put = λ base text g. front_sent base text out new waiting put.0 [] put.1 g

-- bytes were put where nothing waits
pub writes_put : {E : Type 0} (r : Result (Unit {0}) E) (out new : Option (List ℕ)) (bytes : List ℕ) → Puts out new r bytes → Writes out [] bytes new [] r
writes_put (Ok u) out new bytes put = λ base text g. gathered_sent base (text ++ bytes) out new bytes put (gathered_more base text out [] bytes bytes refl g)
writes_put (Err e) out new bytes put = λ base text g. subst (λ (t : List ℕ). HasFront base t new) (append-nil (text ++ bytes)) (front_sent base (text ++ bytes) out new bytes put.0 [] put.1 (gathered_more base text out [] bytes bytes refl g))

-- one after the other
pub writes_both : {E : Type 0} (r : Result (Unit {0}) E) (out mid new : Option (List ℕ)) (waiting between left a b : List ℕ)
    → Writes {E = Unit {0}} out waiting a mid between (Ok tt) → Writes mid between b new left r → Writes out waiting (a ++ b) new left r
writes_both (Ok u) out mid new waiting between left a b first second = λ base text g. subst (λ (t : List ℕ). Gathered base t new left) (append_assoc text a b) (second base (text ++ a) (first base text g))
writes_both (Err e) out mid new waiting between left a b first second = λ base text g. subst (λ (t : List ℕ). HasFront base t new) (append_assoc text a b) (second base (text ++ a) (first base text g))

-- where the first failed, the second was not tried
pub writes_failed : {E F : Type 0} (e : E) (f : F) (out new : Option (List ℕ)) (waiting left right a b : List ℕ) → Writes out waiting a new left (Err e) → Writes out waiting (a ++ b) new right (Err f)
writes_failed e f out new waiting left right a b first = λ base text g. front_of_front base (text ++ a) b (text ++ (a ++ b)) new (sym (append_assoc text a b)) (first base text g)

-- puts, one after the other
pub puts_both : {E : Type 0} (r : Result (Unit {0}) E) (old mid new : Option (List ℕ)) (a b : List ℕ) → Puts {E = Unit {0}} old mid (Ok tt) a → Puts mid new r b → Puts old new r (a ++ b)
puts_both (Ok u) old mid new a b first second = second ∙ ap (λ (o : Option (List ℕ)). append_known o b) first ∙ append_known-append old a b
puts_both (Err e) old mid new a b first second = (
  length a + second.0,
  second.1 ∙ ap (λ (o : Option (List ℕ)). append_known o (take second.0 b)) first ∙ append_known-append old a (take second.0 b) ∙ ap (append_known old) (sym (take-append-add a b second.0)),
)

pub puts_failed : {E F : Type 0} (e : E) (f : F) (old new : Option (List ℕ)) (a b : List ℕ) → Puts old new (Err e) a → Puts old new (Err f) (a ++ b)
puts_failed e f old new a b first = (min first.0 (length a), first.1 ∙ ap (append_known old) (take_front a b first.0))

-- the pieces from a place on
pub joined_drop : (pieces : List (Bor (List ℕ))) (i : ℕ) (d : Bor (List ℕ)) → i < length pieces → joined (drop i pieces) ≡ (get_or pieces i d).now ++ joined (drop (i + 1) pieces)
joined_drop pieces i d lt = ap joined (drop-cons pieces i d lt) ∙ ap (λ n. (get_or pieces i d).now ++ joined (drop n pieces)) (sym (add-one i))

-- the pieces so far, one more, and the others
pub joined_more : (pieces : List (Bor (List ℕ))) (i : ℕ) (d : Bor (List ℕ)) (sent : List ℕ) → i < length pieces → joined pieces ≡ sent ++ joined (drop i pieces)
    → joined pieces ≡ (sent ++ (get_or pieces i d).now) ++ joined (drop (i + 1) pieces)
joined_more pieces i d sent lt whole = whole ∙ ap (λ (t : List ℕ). sent ++ t) (joined_drop pieces i d lt) ∙ sym (append_assoc sent (get_or pieces i d).now (joined (drop (i + 1) pieces)))

pub joined_all : (pieces : List (Bor (List ℕ))) (i : ℕ) (sent : List ℕ) → length pieces ≤ i → joined pieces ≡ sent ++ joined (drop i pieces) → joined pieces ≡ sent
joined_all pieces i sent le whole = whole ∙ ap (λ (t : List (Bor (List ℕ))). sent ++ joined t) (drop_all i pieces le) ∙ append-nil sent

-- a put that stopped within a piece
pub puts_stopped : (old mid new : Option (List ℕ)) (pieces : List (Bor (List ℕ))) (i : ℕ) (d : Bor (List ℕ)) (sent : List ℕ) → i < length pieces → joined pieces ≡ sent ++ joined (drop i pieces)
    → mid ≡ append_known old sent → (n : ℕ) × (new ≡ append_known mid (take n (get_or pieces i d).now)) → (n : ℕ) × (new ≡ append_known old (take n (joined pieces)))
puts_stopped old mid new pieces i d sent lt whole stands put =
    let failed : Unit {0} = tt in
    let piece = (get_or pieces i d).now in
    let stopped = puts_failed failed failed old new (sent ++ piece) (joined (drop (i + 1) pieces)) (puts_both (Err failed) old mid new sent piece stands put) in
    (stopped.0, stopped.1 ∙ ap (λ (t : List ℕ). append_known old (take stopped.0 t)) (sym (joined_more pieces i d sent lt whole)))

-- a write that stopped within a piece
pub writes_stopped : (out mid new : Option (List ℕ)) (waiting between : List ℕ) (pieces : List (Bor (List ℕ))) (i : ℕ) (d : Bor (List ℕ)) (sent : List ℕ) → i < length pieces → joined pieces ≡ sent ++ joined (drop i pieces)
    → Writes {E = Unit {0}} out waiting sent mid between (Ok tt) → ((base : Option (List ℕ)) (text : List ℕ) → Gathered base text mid between → HasFront base (text ++ (get_or pieces i d).now) new)
    → (base : Option (List ℕ)) (text : List ℕ) → Gathered base text out waiting → HasFront base (text ++ joined pieces) new
writes_stopped out mid new waiting between pieces i d sent lt whole written stop base text g =
    let piece = (get_or pieces i d).now in
    let rest = joined (drop (i + 1) pieces) in
    let longer : text ++ joined pieces ≡ ((text ++ sent) ++ piece) ++ rest =
    ap (λ (t : List ℕ). text ++ t) (joined_more pieces i d sent lt whole) ∙ sym (append_assoc text (sent ++ piece) rest) ∙ ap (λ (t : List ℕ). t ++ rest) (sym (append_assoc text sent piece)) in
    front_of_front base ((text ++ sent) ++ piece) rest (text ++ joined pieces) new longer (stop base (text ++ sent) (written base text g))
