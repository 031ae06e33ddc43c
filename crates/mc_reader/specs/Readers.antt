-- Readers of the parts of a task.
use Rattle.std.specs.Prelude.{ℕ, zero, suc, List, [], ◌∷◌, length, Option, Some, None, Bool, true, false}
use Rattle.mars_base.specs.declared.text.Span.{Span}
use Rattle.mars_base.specs.declared.word.Role.{Role}
use Rattle.mars_base.specs.declared.word.Role.TheVariants as R
use Rattle.mc_tree.specs.declared.raw.Name.{Name}
use Rattle.mc_tree.specs.declared.raw.RawNumber.{RawNumber}
use Rattle.mc_tree.specs.declared.raw.RawDecl.{RawDecl}
use Rattle.mc_tree.specs.declared.token.Key.{Key}
use Rattle.mc_tree.specs.declared.token.Key.TheVariants as K
use Rattle.mc_tree.specs.declared.token.Sign.{Sign}
use Rattle.mc_tree.specs.declared.token.Sign.TheVariants as S
use Rattle.mc_tree.specs.declared.token.Token.{Token}
use Rattle.mc_tree.specs.declared.token.TokenKind.{TokenKind}
use Rattle.mc_tree.specs.declared.token.TokenKind.TheVariants as T
use Rattle.mc_tree.specs.Raw.{Ex, join, St, Set, SetAt, Call, If, While, Scope, Mark, Sequence, Bl, Nothing, Otherwise, Func, Body, Task}
use Rattle.mc_tree.specs.Expression.{name_at}
pub use Rattle.mc_tree.specs.RawPlain.{block_of}
use Rattle.mc_reader.specs.Reading.{Got, Good, next, token, choice, done, at_end, many}
use Rattle.mc_reader.specs.Machine as M

-- numbers of signs and keywords, for comparing them
abbrev pub same_sign : Sign → Sign → Bool
same_sign S.Semicolon S.Semicolon = true
same_sign S.Comma S.Comma = true
same_sign S.OpenParen S.OpenParen = true
same_sign S.CloseParen S.CloseParen = true
same_sign S.OpenBracket S.OpenBracket = true
same_sign S.CloseBracket S.CloseBracket = true
same_sign S.OpenBrace S.OpenBrace = true
same_sign S.CloseBrace S.CloseBrace = true
same_sign S.Assign S.Assign = true
same_sign a b = false

abbrev pub same_key : Key → Key → Bool
same_key K.Task K.Task = true
same_key K.Func K.Func = true
same_key K.Return K.Return = true
same_key K.Body K.Body = true
same_key K.Var K.Var = true
same_key K.Else K.Else = true
same_key K.Max K.Max = true
same_key a b = false

abbrev pub when : Bool → Span → Option Span
when true p = Some p
when false p = None

abbrev pub sign_of : Sign → TokenKind → Span → Option Span
sign_of s (T.Sign x) p = when (same_sign x s) p
sign_of s k p = None

abbrev pub key_of : Key → TokenKind → Span → Option Span
key_of s (T.Key x) p = when (same_key x s) p
key_of s k p = None

abbrev pub number_of : TokenKind → Span → Option RawNumber
number_of (T.Number v) p = Some (record { value = v; span = p })
number_of k p = None

abbrev pub at_sign : Sign → Token → Option Span
at_sign s t = sign_of s t.kind t.span

abbrev pub at_key : Key → Token → Option Span
at_key s t = key_of s t.kind t.span

abbrev pub at_number : Token → Option RawNumber
at_number t = number_of t.kind t.span

abbrev pub sign : Sign → List Token → Got Span
sign s ts = token (at_sign s) ts

abbrev pub key : Key → List Token → Got Span
key k ts = token (at_key k) ts

abbrev pub number : List Token → Got RawNumber
number ts = token at_number ts

abbrev pub some_of : {X : Type 0} → X → List Token → Got (Option X)
some_of x ts = Good (Some x) ts

-- a list, each of whose parts begins with a token of a kind
abbrev pub listed : {A X : Type 0} → (Token → Option A) → (A → List Token → Got X) → List Token → Got (List X)
listed f q ts = many (choice f (λ a us. next (q a us) some_of) None) ts

-- a written width
abbrev pub width : List Token → Got (Option RawNumber)
width ts = choice (at_sign S.OpenBracket) (λ p us. next (number us) (λ n vs. next (sign S.CloseBracket vs) (λ q. done (Some n)))) None ts

-- whether a token comes next; it is taken
abbrev pub next_is : (Token → Option Span) → List Token → Got Bool
next_is f ts = choice f (λ p. done true) false ts

-- parts with commas between them, and the parenthesis after them
abbrev pub commas : {X : Type 0} → (List Token → Got X) → List Token → Got (List X)
commas item ts = listed (at_sign S.Comma) (λ p. item) ts

abbrev pub enclosed_by : {X : Type 0} → (List Token → Got X) → Bool → List Token → Got (List X)
enclosed_by item true ts = Good [] ts
enclosed_by item false ts = next (item ts) (λ x us. next (commas item us) (λ xs vs. next (sign S.CloseParen vs) (λ q. done (x ∷ xs))))

abbrev pub enclosed : {X : Type 0} → (List Token → Got X) → List Token → Got (List X)
enclosed item ts = next (next_is (at_sign S.CloseParen) ts) (enclosed_by item)

-- a block, and the brace that closes it
pub record Block : Type 0 where
  pub items : Bl
  pub to : Span

-- what stands to the right of an equals sign
pub data Right : Type 0 where
  Value : (e : Ex) → Right
  Called : (func : Name) (args : List Ex) → Right

pub data First : Type 0 where
  Callee : (name : Name) → First
  Goes : (now : M.Now) (used : ℕ) (frames : List M.Frame) → First

abbrev pub first_by : M.Step → Option First
first_by (M.Next n u F) = Some (Goes n u F)
first_by (M.Done e) = None
first_by M.Dead = None

-- what stands after the name at the start of an assignment
pub data Wanted : Type 0 where
  ToAssign : Wanted
  ToIndex : Wanted

abbrev pub wanted_of : TokenKind → Option Wanted
wanted_of (T.Sign S.Assign) = Some ToAssign
wanted_of (T.Sign S.OpenBracket) = Some ToIndex
wanted_of k = None

abbrev pub at_wanted : Token → Option Wanted
at_wanted t = wanted_of t.kind

abbrev pub set_by : Name → Right → Span → St
set_by c (Value e) q = Set c e (join c.span q)
set_by c (Called f es) q = Call c f es (join c.span q)

abbrev pub if_by : Span → Ex → Block → Option Block → St
if_by f e b None = If e b.items Nothing (join f b.to)
if_by f e b (Some c) = If e b.items (Otherwise c.items) (join f c.to)

pub data Simple : Type 0 where
  AName : (cell : Name) → Simple
  AMark : (from : Span) → Simple

pub data Compound : Type 0 where
  AnIf : (from : Span) → Compound
  AWhile : (from : Span) → Compound
  AScope : (from : Span) → Compound
  ASequence : (from : Span) → Compound

pub data Begin : Type 0 where
  Simply : (s : Simple) → Begin
  Deeply : (c : Compound) → Begin

-- a block's braces
abbrev pub braces : (List Token → Got (List St)) → List Token → Got Block
braces inner ts = next (sign S.OpenBrace ts) (λ p us. next (inner us) (λ ss vs. next (sign S.CloseBrace vs) (λ q. done (record { items = block_of ss; to = q }))))

abbrev pub port_of : TokenKind → Option Role
port_of (T.Key K.In) = Some R.In
port_of (T.Key K.Out) = Some R.Out
port_of (T.Key K.State) = Some R.State
port_of k = None

abbrev pub local_of : TokenKind → Option Role
local_of (T.Key K.Var) = Some R.Local
local_of k = None

abbrev pub at_port : Token → Option Role
at_port t = port_of t.kind

abbrev pub at_local : Token → Option Role
at_local t = local_of t.kind

module _ (bytes : List ℕ) where
  abbrev pub name_of : TokenKind → Span → Option Name
  name_of T.Name p = Some (name_at bytes p)
  name_of k p = None

  abbrev pub at_name : Token → Option Name
  at_name t = name_of t.kind t.span

  abbrev pub name : List Token → Got Name
  name ts = token at_name ts

  -- a whole expression
  abbrev pub value : List Token → Got Ex
  value ts = M.run bytes ts M.Want 0 []

  abbrev pub first_of_ : TokenKind → Span → Token → Option First
  first_of_ T.Name p t = Some (Callee (name_at bytes p))
  first_of_ k p t = first_by (M.step bytes M.Want 0 [] t)

  abbrev pub at_first : Token → Option First
  at_first t = first_of_ t.kind t.span t

  abbrev pub called : Name → Bool → List Token → Got Right
  called f true ts = next (enclosed value ts) (λ es. done (Called f es))
  called f false ts = next (M.run bytes ts (M.Named f) 0 []) (λ e. done (Value e))

  abbrev pub rights : First → List Token → Got Right
  rights (Callee f) ts = next (next_is (at_sign S.OpenParen) ts) (called f)
  rights (Goes n u F) ts = next (M.run bytes ts n u F) (λ e. done (Value e))

  abbrev pub right : List Token → Got Right
  right ts = next (token at_first ts) rights

  abbrev pub assigned : Name → Wanted → List Token → Got St
  assigned c ToAssign ts = next (right ts) (λ r us. next (sign S.Semicolon us) (λ q. done (set_by c r q)))
  assigned c ToIndex ts = next (value ts) (λ i t1. next (sign S.CloseBracket t1) (λ p t2. next (sign S.Assign t2) (λ p t3. next (value t3) (λ e t4. next (sign S.Semicolon t4) (λ q. done (SetAt c i e (join c.span q)))))))

  abbrev pub simple : Simple → List Token → Got St
  simple (AName c) ts = next (token at_wanted ts) (assigned c)
  simple (AMark f) ts = next (name ts) (λ n us. next (sign S.Semicolon us) (λ q. done (Mark n (join f q))))

  abbrev pub simple_of : TokenKind → Span → Option Simple
  simple_of T.Name p = Some (AName (name_at bytes p))
  simple_of (T.Key K.Mark) p = Some (AMark p)
  simple_of k p = None

  abbrev pub at_simple : Token → Option Simple
  at_simple t = simple_of t.kind t.span

  abbrev pub begin_of : TokenKind → Span → Option Begin
  begin_of T.Name p = Some (Simply (AName (name_at bytes p)))
  begin_of (T.Key K.Mark) p = Some (Simply (AMark p))
  begin_of (T.Key K.If) p = Some (Deeply (AnIf p))
  begin_of (T.Key K.While) p = Some (Deeply (AWhile p))
  begin_of (T.Key K.Scope) p = Some (Deeply (AScope p))
  begin_of (T.Key K.Sequence) p = Some (Deeply (ASequence p))
  begin_of k p = None

  abbrev pub at_begin : Token → Option Begin
  at_begin t = begin_of t.kind t.span

  abbrev pub else_part : (List Token → Got Block) → List Token → Got (Option Block)
  else_part block ts = choice (at_key K.Else) (λ p us. next (block us) (λ b. done (Some b))) None ts

  abbrev pub compound : (List Token → Got Block) → Compound → List Token → Got St
  compound block (AnIf f) ts = next (sign S.OpenParen ts) (λ p t1. next (value t1) (λ e t2. next (sign S.CloseParen t2) (λ p t3. next (block t3) (λ b t4. next (else_part block t4) (λ o. done (if_by f e b o))))))
  compound block (AWhile f) ts = next (key K.Max ts) (λ p t1. next (number t1) (λ n t2. next (sign S.OpenParen t2) (λ p t3. next (value t3) (λ e t4. next (sign S.CloseParen t4) (λ p t5. next (block t5) (λ b. done (While n e b.items (join f b.to))))))))
  compound block (AScope f) ts = next (name ts) (λ n t1. next (key K.Max t1) (λ p t2. next (number t2) (λ k t3. next (block t3) (λ b. done (Scope n k b.items (join f b.to))))))
  compound block (ASequence f) ts = next (key K.Max ts) (λ p t1. next (number t1) (λ k t2. next (block t2) (λ b. done (Sequence k b.items (join f b.to)))))

  abbrev pub branch : (List Token → Got Block) → Begin → List Token → Got St
  branch block (Simply s) ts = simple s ts
  branch block (Deeply c) ts = compound block c ts

  -- statements that may hold n more levels of compound ones
  unfoldable pub statements : ℕ → List Token → Got (List St)
  statements zero ts = listed at_simple simple ts
  statements (suc n) ts = listed at_begin (branch (braces (statements n))) ts

  abbrev pub decl : Role → List Token → Got RawDecl
  decl r ts = next (name ts) (λ n t1. next (width t1) (λ w t2. next (sign S.Semicolon t2) (λ q. done (record { role = r; name = n; width = w }))))

  abbrev pub ports : List Token → Got (List RawDecl)
  ports ts = listed at_port decl ts

  abbrev pub locals : List Token → Got (List RawDecl)
  locals ts = listed at_local decl ts

  abbrev pub func : Span → List Token → Got Func
  func k ts = next (name ts) (λ n t1. next (sign S.OpenParen t1) (λ p t2. next (enclosed name t2) (λ ns t3. next (sign S.OpenBrace t3) (λ p t4. next (locals t4) (λ ls t5. next (statements 64 t5) (λ ss t6.
      next (key K.Return t6) (λ p t7. next (value t7) (λ e t8. next (sign S.Semicolon t8) (λ p t9. next (sign S.CloseBrace t9) (λ q.
      done (record { name = n; params = ns; locals = ls; body = block_of ss; answer = e; span = join k q })))))))))))

  abbrev pub funcs : List Token → Got (List Func)
  funcs ts = listed (at_key K.Func) func ts

  abbrev pub body : List Token → Got (Option Body)
  body ts = choice (at_key K.Body) (λ p t1. next (sign S.OpenBrace t1) (λ p t2. next (locals t2) (λ ls t3. next (statements 64 t3) (λ ss t4. next (sign S.CloseBrace t4) (λ q. done (Some (record { locals = ls; body = block_of ss }))))))) None ts

  abbrev pub task : List Token → Got Task
  task ts = next (key K.Task ts) (λ p t1. next (name t1) (λ n t2. next (sign S.Semicolon t2) (λ p t3. next (ports t3) (λ ds t4. next (funcs t4) (λ fs t5. next (body t5) (λ b.
      at_end (record { name = n; decls = ds; funcs = fs; body = b; end = length bytes })))))))
