use Rattle.std.proofs.Common.{ℕ, List, ◌++◌, get_or, set, map, ℤ, Option, sym, ◌∙◌, ap, subst, arith, append-nil}
use Rattle.agenda.specs.Due.{FirstFrom}
use Rattle.graph.proofs.NetGraphs.{graph_size}
use Rattle.tables.specs.Named.{job_at}
use Rattle.job_book.specs.Known.{Known, Waiting, InHand, PassedOver, status_of}
use Rattle.cluster_model.specs.Effects.{starting}
use Rattle.cluster_model.specs.PlanOf.{plan_of}
use Rattle.cluster_model.specs.State.{state_in}
use Rattle.cluster_model.specs.Tick.{begun}
use Rattle.cluster_model.specs.declared.effect.Effect.{Effect}
use Rattle.tick_parts.proofs.Opening.{first_starts, none_starts, starts_none, starts_one, all_stay, one_opens, none_taken}
use Rattle.tick_parts.proofs.start.open_job.Goals as goal

pub returns-in_default-clause-jobs : goal.returns-in_default-clause-jobs
returns-in_default-clause-jobs c =
    let net = c.args.net.now in let g = c.args.graph.now in let t = c.args.tables.now in let a = c.args.starts.now in let n = c.requires.net in let v = c.requires.valid in let unit = c.args.unit in let tick = c.args.tick in
    let none = none_starts net g t n v unit tick a c.requires.starts c.requires.tick (subst (λ (o : Option ℕ). FirstFrom a.due 0 tick o) c.in_default.is c.first.ensures) in
    λ words exec cost bus h state before clock tells takes held. all_stay net g t n v unit tick words exec cost bus c.args.line.now h clock c.args.book.now tells c.args.inbox.now takes state before held c.requires.book.jobs none

pub returns-in_default-clause-effects : goal.returns-in_default-clause-effects
returns-in_default-clause-effects c =
    let net = c.args.net.now in let g = c.args.graph.now in let t = c.args.tables.now in let a = c.args.starts.now in let n = c.requires.net in let v = c.requires.valid in let unit = c.args.unit in let tick = c.args.tick in
    let none = none_starts net g t n v unit tick a c.requires.starts c.requires.tick (subst (λ (o : Option ℕ). FirstFrom a.due 0 tick o) c.in_default.is c.first.ensures) in
    λ words exec cost bus h clock tells takes. sym (append-nil c.args.seen.now) ∙ ap (λ (xs : List Effect). c.args.seen.now ++ xs) (sym (starts_none net g t n v unit tick words exec cost bus c.args.line.now h clock c.args.book.now tells c.args.inbox.now takes none))

pub overflow_cast-job : goal.overflow_cast-job
overflow_cast-job c =
    let net = c.args.net.now in let g = c.args.graph.now in let t = c.args.tables.now in let a = c.args.starts.now in let n = c.requires.net in let v = c.requires.valid in let unit = c.args.unit in let tick = c.args.tick in
    let w = first_starts net g t n v unit tick a c.requires.starts c.requires.tick c.first.result c.in-Some.first c.in-Some.is c.first.ensures in
    let low = w.0 in omega (arith, low, graph_size net n.lengths g n.is.graph, n.is.graph.limits.jobs)

pub gather-requires-clause-job : goal.gather-requires-clause-job
gather-requires-clause-job c =
    let net = c.args.net.now in let g = c.args.graph.now in let t = c.args.tables.now in let a = c.args.starts.now in let n = c.requires.net in let v = c.requires.valid in let unit = c.args.unit in let tick = c.args.tick in
    let w = first_starts net g t n v unit tick a c.requires.starts c.requires.tick c.first.result c.in-Some.first c.in-Some.is c.first.ensures in
    w.0

pub start-requires : goal.start-requires
start-requires c =
    let net = c.args.net.now in let g = c.args.graph.now in let t = c.args.tables.now in let a = c.args.starts.now in let n = c.requires.net in let v = c.requires.valid in let unit = c.args.unit in let tick = c.args.tick in
    let w = first_starts net g t n v unit tick a c.requires.starts c.requires.tick c.first.result c.in-Some.first c.in-Some.is c.first.ensures in
    let low = w.0 in omega (arith, low, c.from.ensures, c.requires.book.jobs)

pub skip-requires : goal.skip-requires
skip-requires c =
    let net = c.args.net.now in let g = c.args.graph.now in let t = c.args.tables.now in let a = c.args.starts.now in let n = c.requires.net in let v = c.requires.valid in let unit = c.args.unit in let tick = c.args.tick in
    let w = first_starts net g t n v unit tick a c.requires.starts c.requires.tick c.first.result c.in-Some.first c.in-Some.is c.first.ensures in
    let low = w.0 in omega (arith, low, c.from-else-gather.ensures, c.requires.book.jobs)

pub returns-then-gather-clause-known : goal.returns-then-gather-clause-known
returns-then-gather-clause-known c =
    let net = c.args.net.now in let g = c.args.graph.now in let t = c.args.tables.now in let a = c.args.starts.now in let n = c.requires.net in let v = c.requires.valid in let unit = c.args.unit in let tick = c.args.tick in
    let w = first_starts net g t n v unit tick a c.requires.starts c.requires.tick c.first.result c.in-Some.first c.in-Some.is c.first.ensures in
    w.0

pub returns-then-gather-clause-jobs : goal.returns-then-gather-clause-jobs
returns-then-gather-clause-jobs c =
    let net = c.args.net.now in let g = c.args.graph.now in let t = c.args.tables.now in let a = c.args.starts.now in let n = c.requires.net in let v = c.requires.valid in let unit = c.args.unit in let tick = c.args.tick in
    let w = first_starts net g t n v unit tick a c.requires.starts c.requires.tick c.first.result c.in-Some.first c.in-Some.is c.first.ensures in
    λ words exec cost bus h state before clock tells takes held.
    let job = c.in-Some.first in
    let s = state_in h (job_at g job).task in
    ap (map (status_of s c.gather.new.ins)) (c.start.ensures.jobs ∙ ap (λ k. set c.args.book.now.jobs k InHand) c.from.ensures)
    ∙ one_opens net g t n v unit tick words exec cost bus c.args.line.now h clock c.args.book.now tells c.args.inbox.now takes state before held c.requires.book.jobs job w.0 w.1 (λ k. c.requires.free job k w.0 w.1) s c.gather.new.ins InHand (ap (begun (state_in h (job_at g c.in-Some.first).task)) (sym c.if-gather.ensures.words))

pub returns-then-gather-clause-effects : goal.returns-then-gather-clause-effects
returns-then-gather-clause-effects c =
    let net = c.args.net.now in let g = c.args.graph.now in let t = c.args.tables.now in let a = c.args.starts.now in let n = c.requires.net in let v = c.requires.valid in let unit = c.args.unit in let tick = c.args.tick in
    let w = first_starts net g t n v unit tick a c.requires.starts c.requires.tick c.first.result c.in-Some.first c.in-Some.is c.first.ensures in
    λ words exec cost bus h clock tells takes.
    let job = c.in-Some.first in
    c.push.ensures
    ∙ ap (λ (xs : List Effect). c.args.seen.now ++ xs)
    (sym (starts_one net g t n v unit tick words exec cost bus c.args.line.now h clock c.args.book.now tells c.args.inbox.now takes job w.0 w.1 ∙ ap (λ (o : Option (List ℤ)). starting (plan_of net g t words exec cost) job (begun (state_in h (job_at g job).task) o)) c.if-gather.ensures.words))

pub returns-else-gather-clause-jobs : goal.returns-else-gather-clause-jobs
returns-else-gather-clause-jobs c =
    let net = c.args.net.now in let g = c.args.graph.now in let t = c.args.tables.now in let a = c.args.starts.now in let n = c.requires.net in let v = c.requires.valid in let unit = c.args.unit in let tick = c.args.tick in
    let w = first_starts net g t n v unit tick a c.requires.starts c.requires.tick c.first.result c.in-Some.first c.in-Some.is c.first.ensures in
    λ words exec cost bus h state before clock tells takes held.
    let job = c.in-Some.first in
    ap (map (status_of state before)) (c.skip.ensures.jobs ∙ ap (λ k. set c.args.book.now.jobs k PassedOver) c.from-else-gather.ensures)
    ∙ one_opens net g t n v unit tick words exec cost bus c.args.line.now h clock c.args.book.now tells c.args.inbox.now takes state before held c.requires.book.jobs job w.0 w.1 (λ k. c.requires.free job k w.0 w.1) state before PassedOver (ap (begun (state_in h (job_at g c.in-Some.first).task)) (sym c.if-gather.ensures.words))

pub returns-else-gather-clause-effects : goal.returns-else-gather-clause-effects
returns-else-gather-clause-effects c =
    let net = c.args.net.now in let g = c.args.graph.now in let t = c.args.tables.now in let a = c.args.starts.now in let n = c.requires.net in let v = c.requires.valid in let unit = c.args.unit in let tick = c.args.tick in
    let w = first_starts net g t n v unit tick a c.requires.starts c.requires.tick c.first.result c.in-Some.first c.in-Some.is c.first.ensures in
    λ words exec cost bus h clock tells takes.
    let job = c.in-Some.first in
    c.push-else-gather.ensures
    ∙ ap (λ (xs : List Effect). c.args.seen.now ++ xs)
    (sym (starts_one net g t n v unit tick words exec cost bus c.args.line.now h clock c.args.book.now tells c.args.inbox.now takes job w.0 w.1 ∙ ap (λ (o : Option (List ℤ)). starting (plan_of net g t words exec cost) job (begun (state_in h (job_at g job).task) o)) c.if-gather.ensures.words))

pub returns-then-gather-clause-in_hand : goal.returns-then-gather-clause-in_hand
returns-then-gather-clause-in_hand c = c.start.ensures.jobs ∙ ap (λ k. set c.args.book.now.jobs k InHand) c.from.ensures

pub returns-then-gather-clause-still : goal.returns-then-gather-clause-still
returns-then-gather-clause-still c =
    let net = c.args.net.now in let g = c.args.graph.now in let t = c.args.tables.now in let a = c.args.starts.now in let n = c.requires.net in let v = c.requires.valid in let unit = c.args.unit in let tick = c.args.tick in
    let w = first_starts net g t n v unit tick a c.requires.starts c.requires.tick c.first.result c.in-Some.first c.in-Some.is c.first.ensures in
    λ none. absurd (none c.in-Some.first w.0 w.1)

pub returns-else-gather-clause-no_more : goal.returns-else-gather-clause-no_more
returns-else-gather-clause-no_more c =
    let net = c.args.net.now in let g = c.args.graph.now in let t = c.args.tables.now in let a = c.args.starts.now in let n = c.requires.net in let v = c.requires.valid in let unit = c.args.unit in let tick = c.args.tick in
    let w = first_starts net g t n v unit tick a c.requires.starts c.requires.tick c.first.result c.in-Some.first c.in-Some.is c.first.ensures in
    let low = w.0 in
    λ none k e. none_taken c.args.book.now.jobs c.from-else-gather.result k (omega (arith, low, c.from-else-gather.ensures, c.requires.book.jobs))
    (sym (ap (λ (ks : List Known). get_or ks k Waiting) c.skip.ensures.jobs) ∙ e)

pub returns-else-gather-clause-still : goal.returns-else-gather-clause-still
returns-else-gather-clause-still c =
    let net = c.args.net.now in let g = c.args.graph.now in let t = c.args.tables.now in let a = c.args.starts.now in let n = c.requires.net in let v = c.requires.valid in let unit = c.args.unit in let tick = c.args.tick in
    let w = first_starts net g t n v unit tick a c.requires.starts c.requires.tick c.first.result c.in-Some.first c.in-Some.is c.first.ensures in
    λ none. absurd (none c.in-Some.first w.0 w.1)

pub returns-then-gather-clause-keeps : goal.returns-then-gather-clause-keeps
returns-then-gather-clause-keeps c =
    let net = c.args.net.now in let g = c.args.graph.now in let t = c.args.tables.now in let a = c.args.starts.now in let n = c.requires.net in let v = c.requires.valid in let unit = c.args.unit in let tick = c.args.tick in
    let w = first_starts net g t n v unit tick a c.requires.starts c.requires.tick c.first.result c.in-Some.first c.in-Some.is c.first.ensures in
    λ k e. absurd (c.requires.free c.in-Some.first k w.0 w.1 e)

pub returns-else-gather-clause-keeps : goal.returns-else-gather-clause-keeps
returns-else-gather-clause-keeps c =
    let net = c.args.net.now in let g = c.args.graph.now in let t = c.args.tables.now in let a = c.args.starts.now in let n = c.requires.net in let v = c.requires.valid in let unit = c.args.unit in let tick = c.args.tick in
    let w = first_starts net g t n v unit tick a c.requires.starts c.requires.tick c.first.result c.in-Some.first c.in-Some.is c.first.ensures in
    λ k e. absurd (c.requires.free c.in-Some.first k w.0 w.1 e)
