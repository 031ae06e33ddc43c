use Rattle.std.proofs.Common.{◌≡◌, ◌<◌, ◌≤◌, length, ◌∙◌, ap, sym, subst, arith}
use Rattle.project_relations.specs.declared.circle.Link.{Link}
use Rattle.project_relations.specs.Relations.{CanRank}
use Rattle.project_relations.proofs.Ranks.{rest_of, fed_in, rest_ranked, all_ranked, none_left, no_ranks, fewer}
use Rattle.project_relations.proofs.circle.has_circle.Goals as goal

pub returns-then-len-clause-circle : goal.returns-then-len-clause-circle
returns-then-len-clause-circle c _ h =
    let links = c.rounds.left.items in
    let e : c.in_ok-rest.rest.items ≡ rest_of links = c.in_ok-rest.ensures ∙ ap rest_of c.as_slice.ensures.value in
    let same : length (rest_of links) ≡ length links = omega (arith, ap length e, c.in_ok-rest.rest.ok.0, c.rounds.left.ok.0) in
    let some : 0 < length links = omega (arith, c.rounds.left.ok.0) in
    no_ranks links same some (c.rounds.invariant.forth h)

pub rounds-smaller : goal.rounds-smaller
rounds-smaller c =
    let links = c.rounds.left.items in
    let e : c.in_ok-rest.rest.items ≡ rest_of links = c.in_ok-rest.ensures ∙ ap rest_of c.as_slice.ensures.value in
    let low : length (rest_of links) ≤ length links = fewer (λ (l : Link). fed_in links l.from) links in
    omega (arith, ap length e, low, c.in_ok-rest.rest.ok.0, c.rounds.left.ok.0)

pub rounds-preserved : goal.rounds-preserved
rounds-preserved c =
    let links = c.rounds.left.items in
    let e : c.in_ok-rest.rest.items ≡ rest_of links = c.in_ok-rest.ensures ∙ ap rest_of c.as_slice.ensures.value in
    record {
      back = λ h. c.rounds.invariant.back (all_ranked links (subst CanRank e h));
      forth = λ h. subst CanRank (sym e) (rest_ranked links (c.rounds.invariant.forth h));
    }

pub returns-clause-ranked : goal.returns-clause-ranked
returns-clause-ranked c _ =
    let none : length c.rounds.left.items ≡ 0 = omega (arith, c.rounds.left.ok.0) in
    c.rounds.invariant.back (none_left c.rounds.left.items none)
