-- What a function answers that reads as a reader does.
use Rattle.std.specs.Prelude.{◌≡◌, ℕ, ◌≤◌, List, [], ◌∷◌, ◌++◌, length, drop, Result, Ok, Err}
use Rattle.mc_tree.specs.declared.token.Token.{Token}
use Rattle.mc_reader.specs.declared.ReadFault.{ReadFault}
use Rattle.mc_reader.specs.declared.ReadFault.TheVariants.{Syntax, Memory}
use Rattle.mc_reader.specs.Reading.{Got, Good, Bad, next, done}
use Rattle.mc_reader.specs.Readers.{sign, commas}
use Rattle.mc_tree.specs.declared.token.Sign.TheVariants as S

-- the reader's value and the place after it, or the place where it dies
abbrev pub Answers : {X Y : Type 0} → (List Token → Got Y) → (X → Y) → (ts : List Token) → (old new : ℕ) → Result X ReadFault → Type 0
Answers P plain ts old new (Ok x) = (P (drop old ts) ≡ Good (plain x) (drop new ts)) × (new ≤ length ts)
Answers P plain ts old new (Err (Syntax n)) = (P (drop old ts) ≡ Bad (drop n ts)) × (n ≤ length ts)
Answers P plain ts old new (Err Memory) = Unit {0}

abbrev pub itself : {X : Type 0} → X → X
itself x = x

-- parts that were read before
abbrev pub after : {X : Type 0} → List X → Got (List X) → Got (List X)
after xs (Good ys rest) = Good (xs ++ ys) rest
after xs (Bad rest) = Bad rest

-- parts with commas between them, up to the parenthesis
abbrev pub closing : {X : Type 0} → Got (List X) → Got (List X)
closing g = next g (λ xs vs. next (sign S.CloseParen vs) (λ q. done xs))

-- parts after the first
abbrev pub after_first : {X : Type 0} → (List Token → Got X) → X → List Token → Got (List X)
after_first item x ts = closing (after (x ∷ []) (commas item ts))
