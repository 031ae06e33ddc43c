-- The line of an output is its head and its tail.
use Rattle.std.proofs.Common.{◌≡◌, ℕ, List, ◌++◌, sym, ap, ◌∙◌}
use Rattle.std.specs.Prelude.{codes, decimal, ℤ}
use Rattle.std.proofs.lemmas.List.{append_assoc}
use Rattle.run_texts.specs.Lines.{spaced, out_line}
use Rattle.run_text.specs.Helpers.{out_head, out_tail}

nest : (a r tail q : List ℕ) → r ++ tail ≡ q → (a ++ r) ++ tail ≡ a ++ q
nest a r tail q e = append_assoc a r tail ∙ ap (λ x. a ++ x) e

parts : (h c s n i t tail : List ℕ) → (h ++ (c ++ (s ++ (n ++ (s ++ (i ++ (s ++ t))))))) ++ tail ≡ h ++ (c ++ (s ++ (n ++ (s ++ (i ++ (s ++ (t ++ tail)))))))
parts h c s n i t tail =
    nest h (c ++ (s ++ (n ++ (s ++ (i ++ (s ++ t)))))) tail (c ++ (s ++ (n ++ (s ++ (i ++ (s ++ (t ++ tail)))))))
    (nest c (s ++ (n ++ (s ++ (i ++ (s ++ t))))) tail (s ++ (n ++ (s ++ (i ++ (s ++ (t ++ tail))))))
    (nest s (n ++ (s ++ (i ++ (s ++ t)))) tail (n ++ (s ++ (i ++ (s ++ (t ++ tail)))))
    (nest n (s ++ (i ++ (s ++ t))) tail (s ++ (i ++ (s ++ (t ++ tail))))
    (nest s (i ++ (s ++ t)) tail (i ++ (s ++ (t ++ tail)))
    (nest i (s ++ t) tail (s ++ (t ++ tail)) (append_assoc s t tail))))))

pub out_parts : (cycle : ℕ) (name : List ℕ) (instance tick : ℕ) (words : List ℤ) → out_head cycle name instance tick ++ out_tail words ≡ out_line cycle name instance tick words
out_parts cycle name instance tick words = parts (codes "out ") (decimal cycle) (codes " ") name (decimal instance) (decimal tick) (out_tail words)
