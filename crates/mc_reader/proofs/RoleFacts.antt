-- What signs are to the reader is what they are in the grammar.
use Rattle.std.proofs.Common.{◌≡◌, Option, Some, None, refl, ap, ◌∙◌, sym}
use Rattle.mars_base.specs.declared.word.BinOp.{BinOp}
use Rattle.mars_base.specs.declared.word.UnOp.{UnOp}
use Rattle.mc_tree.specs.declared.token.Sign.{Sign}
use Rattle.mc_tree.specs.declared.token.Sign.TheVariants as S
use Rattle.mc_tree.specs.Operators.{binary_of, unary_of}
use Rattle.mc_reader.specs.Roles.{Lead, lead, Trail, trail, opens, unary, other, binary, closes, indexes, closes_at, ends, comma, other_trail}

pub opens_is : (s : Sign) → lead s ≡ opens → s ≡ S.OpenParen
opens_is S.OpenParen h = refl
opens_is s h = absurd cc

pub closes_is : (s : Sign) → trail s ≡ closes → s ≡ S.CloseParen
closes_is S.CloseParen h = refl
closes_is s h = absurd cc

pub indexes_is : (s : Sign) → trail s ≡ indexes → s ≡ S.OpenBracket
indexes_is S.OpenBracket h = refl
indexes_is s h = absurd cc

pub closes_at_is : (s : Sign) → trail s ≡ closes_at → s ≡ S.CloseBracket
closes_at_is S.CloseBracket h = refl
closes_at_is s h = absurd cc

abbrev unary_part : Lead → Option UnOp
unary_part (unary op) = Some op
unary_part l = None

abbrev binary_part : Trail → Option BinOp
binary_part (binary op) = Some op
binary_part t = None

same_unary : (s : Sign) → unary_part (lead s) ≡ unary_of s
same_unary S.Semicolon = refl
same_unary s = refl

same_binary : (s : Sign) → binary_part (trail s) ≡ binary_of s
same_binary S.Semicolon = refl
same_binary s = refl

pub unary_is : (s : Sign) (op : UnOp) → lead s ≡ unary op → unary_of s ≡ Some op
unary_is s op h = sym (same_unary s) ∙ ap unary_part h

pub binary_is : (s : Sign) (op : BinOp) → trail s ≡ binary op → binary_of s ≡ Some op
binary_is s op h = sym (same_binary s) ∙ ap binary_part h

pub lead_unary : (s : Sign) (op : UnOp) → unary_of s ≡ Some op → lead s ≡ unary op
lead_unary s op h = by (lead s) (same_unary s ∙ h)
  where
    by : (l : Lead) → unary_part l ≡ Some op → l ≡ unary op
    by (unary x) e = let c : x ≡ op = cc in ap unary c
    by opens e = absurd cc
    by other e = absurd cc

pub trail_binary : (s : Sign) (op : BinOp) → binary_of s ≡ Some op → trail s ≡ binary op
trail_binary s op h = by (trail s) (same_binary s ∙ h)
  where
    by : (t : Trail) → binary_part t ≡ Some op → t ≡ binary op
    by (binary x) e = let c : x ≡ op = cc in ap binary c
    by closes e = absurd cc
    by indexes e = absurd cc
    by closes_at e = absurd cc
    by ends e = absurd cc
    by comma e = absurd cc
    by other_trail e = absurd cc
