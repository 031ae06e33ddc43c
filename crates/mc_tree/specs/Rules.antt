-- The 17 rules: the sites of a tree at which one can fail, the fault at a site, and the first fault of several.
-- This project's own language.
use Rattle.std.specs.Prelude.{◌≡◌, ℕ, ◌+◌, Bool, true, false, cond, Option, Some, None, List, [], ◌∷◌, nat_eq, nat_lt, nat_le, ◌&&◌, ◌||◌, not, bytes_eq, ◌⊎◌}
use Rattle.mars_base.specs.declared.text.Span.{Span}
use Rattle.mars_base.specs.declared.word.Role.{Role}
use Rattle.mc_tree.specs.declared.kind.Kind.{Kind}
use Rattle.mc_tree.specs.declared.kind.Kind.TheVariants as kind
use Rattle.mc_tree.specs.declared.kind.Fault.{Fault}
use Rattle.mc_tree.specs.declared.raw.Name.{Name}
use Rattle.mc_tree.specs.declared.raw.RawNumber.{RawNumber}
use Rattle.mc_tree.specs.declared.symbol.Symbol.{Symbol}
use Rattle.mc_tree.specs.declared.symbol.Symbol.TheVariants as symbol
use Rattle.mc_tree.specs.declared.symbol.Callee.{Callee}
use Rattle.mc_tree.specs.Kinds.{rank_of}
use Rattle.mc_tree.specs.Checked.{greatest_width}

-- A place of the tree with what its rules look at. A name stands with what it means there.
pub data Site : Type 0 where
  -- a declared name, and whether it is visible already
  Declares : (name : Name) (taken : Bool) → Site
  -- the width of a declaration
  Widths : (role : Role) (width : Option RawNumber) → Site
  -- a declaration that adds to what may pass a limit
  Adds : (name : Name) (limit before more : ℕ) → Site
  -- a name used as a cell without an index, and with one
  Plain : (name : Name) (found : Option Symbol) → Site
  Indexed : (name : Name) (found : Option Symbol) → Site
  -- a number in an expression
  Constant : (number : RawNumber) → Site
  -- a call in the function of the number `current`
  Calls : (name : Name) (args current : ℕ) (found : Option Callee) → Site
  -- a mark, with the innermost scope's name, and whether a sequence stands between the two
  Marks : (name : Name) (scope : Option (List ℕ)) → Site
  Crosses : (name : Name) (scope : Option (List ℕ)) (closed : Bool) → Site
  -- a statement other than a while, and whether it stands directly in a sequence
  Stands : (span : Span) (direct : Bool) → Site
  -- a bound, and what it may be
  Bound : (bound : RawNumber) (least greatest : ℕ) → Site
  -- a statement with a counter, of which so many stand before it
  Counts : (span : Span) (before : ℕ) → Site
  -- a statement or an answer that needs so many operand words
  Needs : (span : Span) (words : ℕ) → Site
  -- the text's end, where there is no body
  Ends : (end : ℕ) → Site

abbrev pub fault : Bool → Kind → Span → Option Fault
fault true k s = Some (record { kind = k; span = s })
fault false k s = None

-- a name used as a cell names a visible cell: one of width 1 without an index, and one of another width with one
abbrev pub plain_use : Option Symbol → Span → Option Fault
plain_use None s = Some (record { kind = kind.UnknownName; span = s })
plain_use (Some symbol.Func) s = Some (record { kind = kind.UnknownName; span = s })
plain_use (Some symbol.Scope) s = Some (record { kind = kind.UnknownName; span = s })
plain_use (Some (symbol.Cell number width)) s = fault (nat_le 2 width) kind.IsAnArray s

abbrev pub indexed_use : Option Symbol → Span → Option Fault
indexed_use None s = Some (record { kind = kind.UnknownName; span = s })
indexed_use (Some symbol.Func) s = Some (record { kind = kind.UnknownName; span = s })
indexed_use (Some symbol.Scope) s = Some (record { kind = kind.UnknownName; span = s })
indexed_use (Some (symbol.Cell number width)) s = fault (nat_eq width 1) kind.NotAnArray s

-- a called name names an earlier function of the file, which has as many parameters as the call has arguments
abbrev pub call_use : Option Callee → (args current : ℕ) → Span → Option Fault
call_use None args current s = Some (record { kind = kind.UnknownName; span = s })
call_use (Some f) args current s = cond (nat_le current f.number) (Some (record { kind = kind.Recursion; span = s })) (fault (not (nat_eq args f.params)) kind.WrongArgumentCount s)

abbrev pub is_scope : Option (List ℕ) → List ℕ → Bool
is_scope None x = false
is_scope (Some y) x = bytes_eq x y

abbrev pub has_scope : Option (List ℕ) → Bool
has_scope None = false
has_scope (Some y) = true

abbrev pub width_fault : Role → Option RawNumber → Option Fault
width_fault role None = None
width_fault role (Some w) = fault (nat_lt w.value 1 || nat_lt (greatest_width role) w.value) kind.WrongWidth w.span

-- the fault at a site, where there is one
abbrev pub rule : Site → Option Fault
rule (Declares n taken) = fault taken kind.TwiceNamed n.span
rule (Widths role w) = width_fault role w
rule (Adds n limit before more) = fault (nat_le before limit && nat_lt limit (before + more)) kind.TooMany n.span
rule (Plain n found) = plain_use found n.span
rule (Indexed n found) = indexed_use found n.span
rule (Constant n) = fault (nat_lt 2147483647 n.value) kind.ConstantOutOfRange n.span
rule (Calls n args current found) = call_use found args current n.span
rule (Marks n scope) = fault (not (is_scope scope n.text)) kind.MarkOutsideItsScope n.span
rule (Crosses n scope closed) = fault (has_scope scope && closed) kind.MarkOfAnOuterScope n.span
rule (Stands span direct) = fault direct kind.NotALoop span
rule (Bound b least greatest) = cond (nat_lt b.value least) (Some (record { kind = kind.ZeroBound; span = b.span })) (fault (nat_lt greatest b.value) kind.BoundTooLarge b.span)
rule (Counts span before) = fault (nat_eq before 256) kind.TooManyCounters span
rule (Needs span words) = fault (nat_lt 64 words) kind.ExpressionTooDeep span
rule (Ends end) = Some (record { kind = kind.NoBody; span = record { from = end; to = end } })

-- a starts before b, or where b does and its kind is less
abbrev pub sooner : Fault → Fault → Bool
sooner a b = nat_lt a.span.from b.span.from || (nat_eq a.span.from b.span.from && nat_lt (rank_of a.kind) (rank_of b.kind))

-- the sooner of two, and the one on the left where neither is
abbrev pub earliest : Option Fault → Option Fault → Option Fault
earliest None b = b
earliest (Some f) None = Some f
earliest (Some f) (Some g) = cond (sooner g f) (Some g) (Some f)

-- the first fault of a list of sites
abbrev pub first : List Site → Option Fault
first [] = None
first (s ∷ ss) = earliest (rule s) (first ss)

-- some site has this fault
abbrev pub Fails : List Site → Fault → Type 0
Fails [] f = ⊥
Fails (s ∷ ss) f = (rule s ≡ Some f) ⊎ Fails ss f

-- what the first fault is, with no order of the sites: it is one of them, and none is sooner; and None where there is none
abbrev pub IsFirst : List Site → Option Fault → Type 0
IsFirst ss None = (f : Fault) → Fails ss f → ⊥
IsFirst ss (Some f) = Fails ss f × ((g : Fault) → Fails ss g → sooner g f ≡ false)
