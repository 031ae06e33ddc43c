-- The formats of the records are lawful.
use Rattle.std.proofs.Common.{◌≡◌, ℕ, ◌<◌, ◌≤◌, zero, suc, refl, ap, arith}
use Rattle.formats.specs.Laws.{IsLawful}
use Rattle.formats.proofs.Fields.{number8, number16, number32, lawful_text}
use Rattle.formats.proofs.Lawful.{lawful_then, lawful_shape, lawful_list, lawful_chain}
use Rattle.mars_base.specs.declared.word.Role.TheVariants.{In, Out, State, Local}
use Rattle.mars_base.specs.Name.{is_name}
use Rattle.image_parts.specs.Name.{name}
use Rattle.image_parts.specs.Records.{byte, short, long, shape, to_shape, of_shape, transaction, to_transaction, of_transaction, edge, to_edge, of_edge, plug, to_plug, of_plug, cell, to_cell, of_cell, role_of, number_of_role}

pub lawful_name : IsLawful name
lawful_name = lawful_text is_name

pub lawful_byte : IsLawful byte
lawful_byte = number8 0 255 (omega arith)

pub lawful_short : IsLawful short
lawful_short = number16 0 65535 (omega arith)

pub lawful_long : IsLawful long
lawful_long = number32 0 4294967295 (omega arith)

pub shape_laws : IsLawful shape
unfolding shape
shape_laws = lawful_shape to_shape of_shape (lawful_then (number8 1 8 (omega arith)) (lawful_then (number8 2 64 (omega arith)) (lawful_then (number8 1 8 (omega arith)) (lawful_then (number16 1 10000 (omega arith)) (number32 1 65536 (omega arith)))))) (λ p fits. refl)

pub transaction_laws : IsLawful transaction
unfolding transaction
transaction_laws = lawful_shape to_transaction of_transaction (lawful_then lawful_name (lawful_then (number32 1 65536 (omega arith)) (number32 1 65536 (omega arith)))) (λ p fits. refl)

pub edge_laws : IsLawful edge
unfolding edge
edge_laws = lawful_shape to_edge of_edge (lawful_then lawful_byte (lawful_then lawful_byte (lawful_then lawful_byte lawful_byte))) (λ p fits. refl)

pub plug_laws : IsLawful plug
unfolding plug
plug_laws = lawful_shape to_plug of_plug (lawful_then lawful_name (lawful_then lawful_byte lawful_byte)) (λ p fits. refl)

role_back : (n : ℕ) → n ≤ 2 → number_of_role (role_of n) ≡ n
role_back zero le = refl
role_back (suc zero) le = refl
role_back (suc (suc zero)) le = refl
role_back (suc (suc (suc n))) le = absurd (omega arith)

pub cell_laws : IsLawful cell
unfolding cell
cell_laws = lawful_shape to_cell of_cell (lawful_then (number8 0 2 (omega arith)) (number16 1 4096 (omega arith))) (λ p fits. ap (λ (n : ℕ). (n, p.1)) (role_back p.0 fits.0.1))
