-- A replica's line is its head and what stands behind it.
use Rattle.std.proofs.Common.{◌≡◌, ℕ, List, ◌++◌, ap, ◌∙◌}
use Rattle.std.specs.Prelude.{codes, decimal}
use Rattle.std.proofs.lemmas.List.{append_assoc}
use Rattle.run_agreement.specs.Trace.{side_text}
use Rattle.trace_text.specs.declared.place.Place.{Place}
use Rattle.trace_text.specs.Helpers.{own_head, own_text}

nest : (a r rest q : List ℕ) → r ++ rest ≡ q → (a ++ r) ++ rest ≡ a ++ q
nest a r rest q e = append_assoc a r rest ∙ ap (λ x. a ++ x) e

parts : (w s c t m u d rest : List ℕ) → (w ++ (s ++ (c ++ (s ++ (t ++ (m ++ (u ++ (s ++ d)))))))) ++ rest ≡ w ++ (s ++ (c ++ (s ++ (t ++ (m ++ (u ++ (s ++ (d ++ rest))))))))
parts w s c t m u d rest =
    nest w (s ++ (c ++ (s ++ (t ++ (m ++ (u ++ (s ++ d))))))) rest (s ++ (c ++ (s ++ (t ++ (m ++ (u ++ (s ++ (d ++ rest))))))))
    (nest s (c ++ (s ++ (t ++ (m ++ (u ++ (s ++ d)))))) rest (c ++ (s ++ (t ++ (m ++ (u ++ (s ++ (d ++ rest)))))))
    (nest c (s ++ (t ++ (m ++ (u ++ (s ++ d))))) rest (s ++ (t ++ (m ++ (u ++ (s ++ (d ++ rest))))))
    (nest s (t ++ (m ++ (u ++ (s ++ d)))) rest (t ++ (m ++ (u ++ (s ++ (d ++ rest)))))
    (nest t (m ++ (u ++ (s ++ d))) rest (m ++ (u ++ (s ++ (d ++ rest))))
    (nest m (u ++ (s ++ d)) rest (u ++ (s ++ (d ++ rest)))
    (nest u (s ++ d) rest (s ++ (d ++ rest)) (append_assoc s d rest)))))))

pub own_parts : (place : Place) (word : List ℕ) (at : ℕ) (rest : List ℕ) → own_head place word at ++ rest ≡ own_text place word at rest
own_parts place word at rest = parts word (codes " ") (decimal place.cycle) (decimal at) (codes " u") (decimal place.unit) (side_text place.side) rest
