-- Ending operators closes no bracket.
use Rattle.std.proofs.Common.{◌≡◌, ℕ, List, [], ◌∷◌, Bool, true, false, cond, refl, ap, ◌∙◌, sym}
use Rattle.std.specs.Prelude.{nat_le}
use Rattle.mc_tree.specs.declared.raw.Name.{Name}
use Rattle.mc_tree.specs.Operators.{level}
use Rattle.mc_tree.specs.Raw.{Ex, At, Bin, Un, join, span_of}
use Rattle.mc_reader.specs.Machine.{Frame, Pending, Prefix, Paren, Index, opened, reduce, Top, top, close_at, Next, Have}
use Rattle.mars_base.specs.declared.text.Span.{Span}

pub reduce_opened : (k : ℕ) (F : List Frame) (v : Ex) → opened (reduce k F v).frames ≡ opened F
reduce_opened k [] v = refl
reduce_opened k (Paren ∷ F) v = refl
reduce_opened k (Index s ∷ F) v = refl
reduce_opened k (Prefix op p ∷ F) v = reduce_opened k F (Un op v (join p (span_of v)))
reduce_opened k (Pending op l ∷ F) v = either (nat_le k (level op)) (reduce k F (Bin op l v (join (span_of l) (span_of v)))) (reduce_opened k F (Bin op l v (join (span_of l) (span_of v))))
  where
    either : (b : Bool) (t : Top) → opened t.frames ≡ opened F → opened (cond b t (top v (Pending op l ∷ F))).frames ≡ opened F
    either true t h = h
    either false t h = refl

pub same_opened : (k : ℕ) (F G : List Frame) (v w : Ex) → reduce k F v ≡ top w G → opened G ≡ opened F
same_opened k F G v w e = sym (ap (λ (t : Top). opened t.frames) e) ∙ reduce_opened k F v

-- a bracket below the operators that end
pub one_less : (k : ℕ) (F G H : List Frame) (f : Frame) (v w : Ex) (n : ℕ) → reduce k F v ≡ top w G → G ≡ f ∷ H → n ≡ opened F → n ≡ opened (f ∷ H)
one_less k F G H f v w n e g is = is ∙ sym (same_opened k F G v w e) ∙ ap opened g

-- an index ends
pub index_ends : (u : ℕ) (F G H : List Frame) (v w : Ex) (n : Name) (p : Span) → reduce 0 F v ≡ top w G → G ≡ Index n ∷ H
    → Next (Have (At n w (join n.span p))) u H ≡ close_at (reduce 0 F v).frames (reduce 0 F v).value u p
index_ends u F G H v w n p e g = sym (ap (λ (t : Top). close_at t.frames t.value u p) (e ∙ ap (top w) g))
