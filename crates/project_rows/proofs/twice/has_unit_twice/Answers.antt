use Rattle.project_rows.proofs.twice.has_unit_twice.Goals as goal

pub returns-in-Some : goal.returns-in-Some
returns-in-Some c = rw (c.in-Some.is, ← c.as_slice.ensures) c.has_twice.ensures
