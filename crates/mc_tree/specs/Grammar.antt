-- What tokens spell what task, by cases on the tree; the lists are the tokens from a place on.
-- This project's own language.
use Rattle.std.specs.Prelude.{◌≡◌, ℕ, zero, suc, ◌+◌, ◌<◌, ◌≤◌, List, [], ◌∷◌, ◌++◌, length, take, Option, Some, None}
use Rattle.mars_base.specs.declared.text.Span.{Span}
use Rattle.mars_base.specs.declared.word.Role.{Role}
use Rattle.mars_base.specs.declared.word.Role.TheVariants as R
use Rattle.mc_tree.specs.declared.raw.Name.{Name}
use Rattle.mc_tree.specs.declared.raw.RawNumber.{RawNumber}
use Rattle.mc_tree.specs.declared.raw.RawDecl.{RawDecl}
use Rattle.mc_tree.specs.declared.token.Key.{Key}
use Rattle.mc_tree.specs.declared.token.Key.TheVariants as K
use Rattle.mc_tree.specs.declared.token.Sign.{Sign}
use Rattle.mc_tree.specs.declared.token.Sign.TheVariants as S
use Rattle.mc_tree.specs.declared.token.Token.{Token}
use Rattle.mc_tree.specs.declared.token.TokenKind.TheVariants as T
use Rattle.mc_tree.specs.Tokens.{IsTokens}
use Rattle.mc_tree.specs.Raw.{Ex, join, St, Set, SetAt, Call, If, While, Scope, Mark, Sequence, Bl, Nil, Then, Else, Nothing, Otherwise, Func, Body, Task}
use Rattle.mc_tree.specs.Expression.{IsExpression, name_at, token_at}

-- the first token is this keyword, sign or number, and then rest
abbrev pub IsKey : Key → (ts : List Token) → Span → (rest : List Token) → Type 0
IsKey k ts p rest = ts ≡ token_at (T.Key k) p ∷ rest

abbrev pub IsSign : Sign → (ts : List Token) → Span → (rest : List Token) → Type 0
IsSign s ts p rest = ts ≡ token_at (T.Sign s) p ∷ rest

abbrev pub IsNumber : (ts : List Token) → RawNumber → (rest : List Token) → Type 0
IsNumber ts n rest = ts ≡ token_at (T.Number n.value) n.span ∷ rest

abbrev pub word_of : Role → Key
word_of R.In = K.In
word_of R.Out = K.Out
word_of R.State = K.State
word_of R.Local = K.Var

-- the width of a cell, if it is written
abbrev pub IsWidth : (ts : List Token) → Option RawNumber → (rest : List Token) → Type 0
IsWidth ts None rest = ts ≡ rest
IsWidth ts (Some n) rest = (p : Span) × (t1 : List Token) × (t2 : List Token) × (q : Span) × IsSign S.OpenBracket ts p t1 × IsNumber t1 n t2 × IsSign S.CloseBracket t2 q rest

-- parts with commas between them, and the parenthesis after them
abbrev pub MoreParts : {X : Type 0} → ((ts : List Token) → X → (rest : List Token) → Type 0) → (ts : List Token) → List X → (rest : List Token) → Type 0
MoreParts IsPart ts [] rest = (p : Span) × IsSign S.CloseParen ts p rest
MoreParts IsPart ts (x ∷ xs) rest = (p : Span) × (t1 : List Token) × (t2 : List Token) × IsSign S.Comma ts p t1 × IsPart t1 x t2 × MoreParts IsPart t2 xs rest

abbrev pub Parts : {X : Type 0} → ((ts : List Token) → X → (rest : List Token) → Type 0) → (ts : List Token) → List X → (rest : List Token) → Type 0
Parts IsPart ts [] rest = (p : Span) × IsSign S.CloseParen ts p rest
Parts IsPart ts (x ∷ xs) rest = (t1 : List Token) × IsPart ts x t1 × MoreParts IsPart t1 xs rest

module _ (bytes : List ℕ) where
  abbrev pub IsName : (ts : List Token) → Name → (rest : List Token) → Type 0
  IsName ts n rest = (ts ≡ token_at T.Name n.span ∷ rest) × (n ≡ name_at bytes n.span)

  -- statements inside d compound ones
  abbrev mutual
    pub IsStatement : (d : ℕ) (ts : List Token) (s : St) (rest : List Token) → Type 0
    IsStatement d ts (Set c e span) rest = (t1 : List Token) × (p : Span) × (t2 : List Token) × (t3 : List Token) × (q : Span)
        × IsName ts c t1 × IsSign S.Assign t1 p t2 × IsExpression bytes t2 e t3 × IsSign S.Semicolon t3 q rest × (span ≡ join c.span q)
    IsStatement d ts (SetAt c i e span) rest = (t1 : List Token) × (p1 : Span) × (t2 : List Token) × (t3 : List Token) × (p2 : Span) × (t4 : List Token) × (p3 : Span) × (t5 : List Token) × (t6 : List Token) × (q : Span)
        × IsName ts c t1 × IsSign S.OpenBracket t1 p1 t2 × IsExpression bytes t2 i t3 × IsSign S.CloseBracket t3 p2 t4 × IsSign S.Assign t4 p3 t5 × IsExpression bytes t5 e t6 × IsSign S.Semicolon t6 q rest × (span ≡ join c.span q)
    IsStatement d ts (Call c f args span) rest = (t1 : List Token) × (p1 : Span) × (t2 : List Token) × (t3 : List Token) × (p2 : Span) × (t4 : List Token) × (t5 : List Token) × (q : Span)
        × IsName ts c t1 × IsSign S.Assign t1 p1 t2 × IsName t2 f t3 × IsSign S.OpenParen t3 p2 t4 × Parts (IsExpression bytes) t4 args t5 × IsSign S.Semicolon t5 q rest × (span ≡ join c.span q)
    IsStatement d ts (If e b other span) rest = (f : Span) × (t1 : List Token) × (p1 : Span) × (t2 : List Token) × (t3 : List Token) × (p2 : Span) × (t4 : List Token) × (p3 : Span) × (t5 : List Token) × (t6 : List Token) × (p4 : Span) × (t7 : List Token)
        × (d < 64) × IsKey K.If ts f t1 × IsSign S.OpenParen t1 p1 t2 × IsExpression bytes t2 e t3 × IsSign S.CloseParen t3 p2 t4 × IsSign S.OpenBrace t4 p3 t5 × IsBlock (suc d) t5 b t6 × IsSign S.CloseBrace t6 p4 t7
        × IsElse d f p4 t7 other span rest
    IsStatement d ts (While n e b span) rest = (f : Span) × (t1 : List Token) × (p1 : Span) × (t2 : List Token) × (t3 : List Token) × (p2 : Span) × (t4 : List Token) × (t5 : List Token) × (p3 : Span) × (t6 : List Token) × (p4 : Span) × (t7 : List Token) × (t8 : List Token) × (q : Span)
        × (d < 64) × IsKey K.While ts f t1 × IsKey K.Max t1 p1 t2 × IsNumber t2 n t3 × IsSign S.OpenParen t3 p2 t4 × IsExpression bytes t4 e t5 × IsSign S.CloseParen t5 p3 t6 × IsSign S.OpenBrace t6 p4 t7 × IsBlock (suc d) t7 b t8
        × IsSign S.CloseBrace t8 q rest × (span ≡ join f q)
    IsStatement d ts (Scope n k b span) rest = (f : Span) × (t1 : List Token) × (t2 : List Token) × (p1 : Span) × (t3 : List Token) × (t4 : List Token) × (p2 : Span) × (t5 : List Token) × (t6 : List Token) × (q : Span)
        × (d < 64) × IsKey K.Scope ts f t1 × IsName t1 n t2 × IsKey K.Max t2 p1 t3 × IsNumber t3 k t4 × IsSign S.OpenBrace t4 p2 t5 × IsBlock (suc d) t5 b t6 × IsSign S.CloseBrace t6 q rest × (span ≡ join f q)
    IsStatement d ts (Mark n span) rest = (f : Span) × (t1 : List Token) × (t2 : List Token) × (q : Span) × IsKey K.Mark ts f t1 × IsName t1 n t2 × IsSign S.Semicolon t2 q rest × (span ≡ join f q)
    IsStatement d ts (Sequence k b span) rest = (f : Span) × (t1 : List Token) × (p1 : Span) × (t2 : List Token) × (t3 : List Token) × (p2 : Span) × (t4 : List Token) × (t5 : List Token) × (q : Span)
        × (d < 64) × IsKey K.Sequence ts f t1 × IsKey K.Max t1 p1 t2 × IsNumber t2 k t3 × IsSign S.OpenBrace t3 p2 t4 × IsBlock (suc d) t4 b t5 × IsSign S.CloseBrace t5 q rest × (span ≡ join f q)

    -- what stands after an if's first block, which ends at q; the if begins at f
    pub IsElse : (d : ℕ) (f q : Span) (ts : List Token) (o : Else) (span : Span) (rest : List Token) → Type 0
    IsElse d f q ts Nothing span rest = (ts ≡ rest) × (span ≡ join f q)
    IsElse d f q ts (Otherwise b) span rest = (p1 : Span) × (t1 : List Token) × (p2 : Span) × (t2 : List Token) × (t3 : List Token) × (z : Span)
        × IsKey K.Else ts p1 t1 × IsSign S.OpenBrace t1 p2 t2 × IsBlock (suc d) t2 b t3 × IsSign S.CloseBrace t3 z rest × (span ≡ join f z)

    pub IsBlock : (d : ℕ) (ts : List Token) (b : Bl) (rest : List Token) → Type 0
    IsBlock d ts Nil rest = ts ≡ rest
    IsBlock d ts (Then s b) rest = (mid : List Token) × IsStatement d ts s mid × IsBlock d mid b rest

  -- a declaration
  abbrev pub IsDecl : (ts : List Token) (d : RawDecl) (rest : List Token) → Type 0
  IsDecl ts d rest = (p : Span) × (t1 : List Token) × (t2 : List Token) × (t3 : List Token) × (q : Span) × IsKey (word_of d.role) ts p t1 × IsName t1 d.name t2 × IsWidth t2 d.width t3 × IsSign S.Semicolon t3 q rest

  -- ports and states, or locals
  abbrev pub IsLocal : Role → Type 0
  IsLocal r = r ≡ R.Local

  abbrev pub Declares : (Role → Type 0) → (ts : List Token) (ds : List RawDecl) (rest : List Token) → Type 0
  Declares ok ts [] rest = ts ≡ rest
  Declares ok ts (d ∷ ds) rest = (mid : List Token) × ok d.role × IsDecl ts d mid × Declares ok mid ds rest

  abbrev pub Ports : (ts : List Token) (ds : List RawDecl) (rest : List Token) → Type 0
  Ports ts ds rest = Declares (λ r. IsLocal r → ⊥) ts ds rest

  abbrev pub Locals : (ts : List Token) (ds : List RawDecl) (rest : List Token) → Type 0
  Locals ts ds rest = Declares IsLocal ts ds rest

  -- a function
  abbrev pub IsFunc : (ts : List Token) (f : Func) (rest : List Token) → Type 0
  IsFunc ts f rest = (k : Span) × (t1 : List Token) × (t2 : List Token) × (p1 : Span) × (t3 : List Token) × (t4 : List Token) × (p2 : Span) × (t5 : List Token) × (t6 : List Token) × (t7 : List Token) × (p3 : Span) × (t8 : List Token) × (t9 : List Token)
      × (p4 : Span) × (t10 : List Token) × (q : Span)
      × IsKey K.Func ts k t1 × IsName t1 f.name t2 × IsSign S.OpenParen t2 p1 t3 × Parts IsName t3 f.params t4 × IsSign S.OpenBrace t4 p2 t5 × Locals t5 f.locals t6 × IsBlock 0 t6 f.body t7 × IsKey K.Return t7 p3 t8
      × IsExpression bytes t8 f.answer t9 × IsSign S.Semicolon t9 p4 t10 × IsSign S.CloseBrace t10 q rest × (f.span ≡ join k q)

  abbrev pub Funcs : (ts : List Token) (fs : List Func) (rest : List Token) → Type 0
  Funcs ts [] rest = ts ≡ rest
  Funcs ts (f ∷ fs) rest = (mid : List Token) × IsFunc ts f mid × Funcs mid fs rest

  -- the body, if there is one
  abbrev pub IsBody : (ts : List Token) (b : Option Body) (rest : List Token) → Type 0
  IsBody ts None rest = ts ≡ rest
  IsBody ts (Some b) rest = (p1 : Span) × (t1 : List Token) × (p2 : Span) × (t2 : List Token) × (t3 : List Token) × (t4 : List Token) × (q : Span)
      × IsKey K.Body ts p1 t1 × IsSign S.OpenBrace t1 p2 t2 × Locals t2 b.locals t3 × IsBlock 0 t3 b.body t4 × IsSign S.CloseBrace t4 q rest

  -- The tokens spell the task.
  abbrev pub IsTask : (ts : List Token) (t : Task) → Type 0
  IsTask ts t = (p1 : Span) × (t1 : List Token) × (t2 : List Token) × (p2 : Span) × (t3 : List Token) × (t4 : List Token) × (t5 : List Token)
      × IsKey K.Task ts p1 t1 × IsName t1 t.name t2 × IsSign S.Semicolon t2 p2 t3 × Ports t3 t.decls t4 × Funcs t4 t.funcs t5 × IsBody t5 t.body [] × (t.end ≡ length bytes)

-- Some task begins with these tokens, whatever its text.
abbrev pub IsPrefixOfTask : List Token → Type 0
IsPrefixOfTask ts = (bytes : List ℕ) × (more : List Token) × (t : Task) × IsTask bytes (ts ++ more) t

-- The tokens are no task, and n is the first token with which they begin none, or their number where all of them begin one.
pub record IsHopelessAt (ts : List Token) (n : ℕ) : Type 0 where
  pub within : n ≤ length ts
  pub begins : IsPrefixOfTask (take n ts)
  pub fails : n < length ts → IsPrefixOfTask (take (suc n) ts) → ⊥
  pub unspelled : (bytes : List ℕ) (t : Task) → IsTask bytes ts t → ⊥

-- The text has these tokens, and they spell the task.
abbrev pub Spells : List ℕ → List Token → Task → Type 0
Spells bytes ts t = IsTokens bytes ts × IsTask bytes ts t
