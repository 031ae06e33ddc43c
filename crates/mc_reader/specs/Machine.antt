-- A reader of expressions, one token at a time.
use Rattle.std.specs.Prelude.{ℕ, suc, List, [], ◌∷◌, cond}
use Rattle.std.specs.Prelude.{nat_lt, nat_le}
use Rattle.mars_base.specs.declared.word.BinOp.{BinOp}
use Rattle.mars_base.specs.declared.word.UnOp.{UnOp}
use Rattle.mars_base.specs.declared.text.Span.{Span}
use Rattle.mc_tree.specs.declared.raw.Name.{Name}
use Rattle.mc_tree.specs.declared.token.Token.{Token}
use Rattle.mc_tree.specs.declared.token.TokenKind.{TokenKind}
use Rattle.mc_tree.specs.declared.token.TokenKind.TheVariants as T
use Rattle.mc_reader.specs.Reading.{Got, Good, Bad}
use Rattle.mc_tree.specs.Raw.{Ex, Cell, At, Un, Bin, span_of, join}
use Rattle.mc_reader.specs.Roles.{level, Lead, lead, Trail, trail, opens, unary, other, binary, closes, indexes, closes_at, ends, comma, other_trail}
use Rattle.mc_tree.specs.Expression.{name_at, number_at}

-- what waits for an operand
pub data Frame : Type 0 where
  Pending : (op : BinOp) (left : Ex) → Frame
  Prefix : (op : UnOp) (at : Span) → Frame
  Paren : Frame
  Index : (name : Name) → Frame

pub data Now : Type 0 where
  Want : Now
  Named : (name : Name) → Now
  Have : (value : Ex) → Now

pub data Step : Type 0 where
  Next : (now : Now) (used : ℕ) (frames : List Frame) → Step
  Done : (whole : Ex) → Step
  Dead : Step

abbrev pub opened : List Frame → ℕ
opened [] = 0
opened (Pending op l ∷ F) = opened F
opened (Prefix op p ∷ F) = opened F
opened (Paren ∷ F) = suc (opened F)
opened (Index s ∷ F) = suc (opened F)

pub record Top : Type 0 where
  pub value : Ex
  pub frames : List Frame

abbrev pub top : Ex → List Frame → Top
top v F = record { value = v; frames = F }

-- the operators of level k and above end
abbrev pub reduce : ℕ → List Frame → Ex → Top
reduce k [] v = record { value = v; frames = [] }
reduce k (Pending op l ∷ F) v = cond (nat_le k (level op)) (reduce k F (Bin op l v (join (span_of l) (span_of v)))) (record { value = v; frames = Pending op l ∷ F })
reduce k (Prefix op p ∷ F) v = reduce k F (Un op v (join p (span_of v)))
reduce k (Paren ∷ F) v = record { value = v; frames = Paren ∷ F }
reduce k (Index s ∷ F) v = record { value = v; frames = Index s ∷ F }

abbrev pub deeper : ℕ → List Frame → Frame → Step
deeper u F f = cond (nat_lt (opened F) 63) (Next Want u (f ∷ F)) Dead

abbrev pub leads : Lead → ℕ → List Frame → Span → Step
leads opens u F p = deeper u F Paren
leads (unary op) u F p = cond (nat_lt u 255) (Next Want (suc u) (Prefix op p ∷ F)) Dead
leads other u F p = Dead

abbrev pub close : List Frame → Ex → ℕ → Step
close [] v u = Done v
close (Paren ∷ F) v u = Next (Have v) u F
close F v u = Dead

abbrev pub close_at : List Frame → Ex → ℕ → Span → Step
close_at [] v u p = Done v
close_at (Index s ∷ F) v u p = Next (Have (At s v (join s.span p))) u F
close_at F v u p = Dead

abbrev pub finish : List Frame → Ex → Step
finish [] v = Done v
finish (f ∷ F) v = Dead

abbrev pub trails : Trail → Ex → ℕ → List Frame → Span → Step
trails (binary op) v u F p = cond (nat_lt u 255) (Next Want (suc u) (Pending op (reduce (level op) F v).value ∷ (reduce (level op) F v).frames)) Dead
trails closes v u F p = close (reduce 0 F v).frames (reduce 0 F v).value u
trails closes_at v u F p = close_at (reduce 0 F v).frames (reduce 0 F v).value u p
trails ends v u F p = finish (reduce 0 F v).frames (reduce 0 F v).value
trails comma v u F p = finish (reduce 0 F v).frames (reduce 0 F v).value
trails indexes v u F p = Dead
trails other_trail v u F p = Dead

abbrev pub names : Trail → Name → ℕ → List Frame → Span → Step
names indexes s u F p = deeper u F (Index s)
names t s u F p = trails t (Cell s) u F p

abbrev pub has : TokenKind → Ex → ℕ → List Frame → Span → Step
has (T.Sign s) v u F p = trails (trail s) v u F p
has k v u F p = Dead

abbrev pub named : TokenKind → Name → ℕ → List Frame → Span → Step
named (T.Sign s) n u F p = names (trail s) n u F p
named k n u F p = Dead

module _ (bytes : List ℕ) where
  abbrev pub wants : TokenKind → ℕ → List Frame → Span → Step
  wants (T.Number v) u F p = Next (Have (number_at v p)) u F
  wants T.Name u F p = Next (Named (name_at bytes p)) u F
  wants (T.Sign s) u F p = leads (lead s) u F p
  wants (T.Key k) u F p = Dead

  abbrev pub step : Now → ℕ → List Frame → Token → Step
  step Want u F t = wants t.kind u F t.span
  step (Named s) u F t = named t.kind s u F t.span
  step (Have v) u F t = has t.kind v u F t.span

  abbrev pub then : Step → List Token → List Token → (Now → ℕ → List Frame → Got Ex) → Got Ex
  then (Next n u F) here ts k = k n u F
  then (Done x) here ts k = Good x here
  then Dead here ts k = Bad here

  unfoldable pub run : List Token → Now → ℕ → List Frame → Got Ex
  run [] n u F = Bad []
  run (t ∷ ts) n u F = then (step n u F t) (t ∷ ts) ts (run ts)
