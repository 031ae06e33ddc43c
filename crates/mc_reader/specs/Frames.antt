-- What the reader of expressions holds, as plain data.
use Rattle.std.specs.Prelude.{◌≡◌, ℕ, ◌≤◌, List, [], ◌∷◌, Bool, true, false}
use Rattle.std.specs.List.{fold}
use Rattle.mars_base.specs.declared.text.Span.{Span}
use Rattle.mc_tree.specs.declared.token.Token.{Token}
use Rattle.mc_tree.specs.declared.token.TokenKind.{TokenKind}
use Rattle.mc_tree.specs.declared.token.TokenKind.TheVariants as T
use Rattle.mc_tree.specs.Raw.{Ex, Bin, Un, span_of, join}
use Rattle.mc_tree.specs.RawPlain.{plain_expr}
use Rattle.mc_reader.specs.declared.expression.Frame.{Frame}
use Rattle.mc_reader.specs.declared.expression.Frame.TheVariants as F
use Rattle.mc_reader.specs.declared.expression.Now.{Now}
use Rattle.mc_reader.specs.declared.expression.Now.TheVariants as W
use Rattle.mc_reader.specs.declared.expression.Step.{Step}
use Rattle.mc_reader.specs.declared.expression.Step.TheVariants as S
use Rattle.mc_reader.specs.declared.expression.Operator.{Operator}
use Rattle.mc_reader.specs.declared.expression.Operator.TheVariants as O
use Rattle.mc_reader.specs.declared.expression.Stack.{Stack}
use Rattle.mc_reader.specs.Roles.{Trail, trail, indexes}
use Rattle.mc_reader.specs.Machine as M

abbrev pub plain_frame : Frame → M.Frame
plain_frame (F.Pending op l) = M.Pending op (plain_expr l)
plain_frame (F.Prefix op p) = M.Prefix op p
plain_frame F.Paren = M.Paren
plain_frame (F.Index n) = M.Index n

-- the last frame is the innermost
abbrev pub stack : List Frame → List M.Frame
stack fs = fold (λ (below : List M.Frame) f. plain_frame f ∷ below) [] fs

abbrev pub frames_of : Stack → List M.Frame
frames_of s = stack s.frames.items

abbrev pub plain_now : Now → M.Now
plain_now W.Want = M.Want
plain_now (W.Named n) = M.Named n
plain_now (W.Have v) = M.Have (plain_expr v)

abbrev pub plain_step : Stack → Step → M.Step
plain_step s (S.Next n) = M.Next (plain_now n) s.used (frames_of s)
plain_step s (S.Done e) = M.Done (plain_expr e)
plain_step s S.Dead = M.Dead

-- an operator with its last operand
abbrev pub applied_to : Operator → Ex → Ex
applied_to (O.Binary op l) v = Bin op (plain_expr l) v (join (span_of (plain_expr l)) (span_of v))
applied_to (O.Unary op p) v = Un op v (join p (span_of v))

-- the counts fit the frames
pub record IsSized (s : Stack) : Type 0 where
  pub opened : s.opened ≡ M.opened (frames_of s)
  pub used : s.used ≤ 255

-- a fact, where the expression goes on
abbrev pub IfNext : Step → Type 0 → Type 0
IfNext (S.Next n) P = P
IfNext (S.Done e) P = Unit {0}
IfNext S.Dead P = Unit {0}

-- a span of a text of this length
abbrev pub IsInside : ℕ → Span → Type 0
IsInside end s = (s.from ≤ s.to) × (s.to ≤ end)

abbrev pub nowhere : Span
nowhere = record { from = 0; to = 0 }

abbrev is_indexes : Trail → Bool
is_indexes indexes = true
is_indexes t = false

abbrev indexes_kind : TokenKind → Bool
indexes_kind (T.Sign s) = is_indexes (trail s)
indexes_kind k = false

-- a token that opens an index
abbrev pub indexing : Token → Bool
indexing t = indexes_kind t.kind
