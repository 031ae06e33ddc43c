use Rattle.std.proofs.Common.{◌≡◌, Some, None, ap, ◌∙◌, ap₂}
use Rattle.placement.specs.Feeding.{place_in, spot_of, unit_at}
use Rattle.reached.proofs.Good.{good}
use Rattle.placement.proofs.Finding.{task_found}
use Rattle.placement.proofs.fits.home_of.Goals as goal

pub returns-in-Some : goal.returns-in-Some
returns-in-Some c =
    let s = c.args.state.now in
    let f = task_found s.problem s.placed.items s.homes.items c.requires.is_problem (good s.problem s.placed.items c.requires.reached) c.requires.tasks c.args.task in
    let h : Some c.in-Some.spot ≡ spot_of (place_in s.placed.items s.homes.items c.args.task) = c.in-Some.ensures ∙ (ap₂ (λ l t. spot_of (place_in l t c.from.result)) c.as_slice.ensures.value c.as_slice-2.ensures.value ∙ ap (λ n. spot_of (place_in s.placed.items s.homes.items n)) c.from.ensures) in
    ap unit_at (h ∙ ap spot_of f)

pub returns-in-None : goal.returns-in-None
returns-in-None c =
    let s = c.args.state.now in
    let f = task_found s.problem s.placed.items s.homes.items c.requires.is_problem (good s.problem s.placed.items c.requires.reached) c.requires.tasks c.args.task in
    let h : None ≡ spot_of (place_in s.placed.items s.homes.items c.args.task) = c.in-None.ensures ∙ (ap₂ (λ l t. spot_of (place_in l t c.from.result)) c.as_slice.ensures.value c.as_slice-2.ensures.value ∙ ap (λ n. spot_of (place_in s.placed.items s.homes.items n)) c.from.ensures) in
    ap unit_at (h ∙ ap spot_of f)
