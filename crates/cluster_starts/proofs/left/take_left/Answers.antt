use Rattle.std.proofs.Common.{◌≡◌, ◌<◌, ◌*◌, ◌+◌, ℕ, List, ℤ, length, map, set, [], get_or, refl, sym, ◌∙◌, ap, subst, arith, rules}
use Rattle.std.proofs.lemmas.List.{get_or-map, length-map}
use Rattle.cluster_model.specs.State.{state_in}
use Rattle.cluster_seats.specs.Seats.{Seated, no_seat, seat_at}
use Rattle.cluster_starts.specs.Left.{left_of, home_of}
use Rattle.cluster_starts.proofs.Taking.{AreTaken, left_at, a_low, b_low, a_room, b_room, one_more, all_taken}
use Rattle.cluster_starts.proofs.left.take_left.Goals as goal

-- what stands in a seat is seen there
seen_at : {S : Type 0} (seat : S → Seated) (xs : List S) (n : ℕ) (s : S) → n < length xs → s ≡ get_or xs n s → seat s ≡ seat_at (map seat xs) n
seen_at seat xs n s low is = ap seat is ∙ sym (get_or-map seat xs n s no_seat low)

pub offset_bounds-seats-number : goal.offset_bounds-seats-number
offset_bounds-seats-number g c =
    let task : c.tasks.task < length c.args.plant.now.net.tasks = omega arith in
    omega (
      arith,
      c.home_of.ensures,
      c.from-number.ensures,
      length-map c.args.seats.now g.S.Seat.seat,
      a_low c.args.plant.now (map g.S.Seat.seat c.args.seats.now) c.requires.net c.requires.valid c.requires.seats c.args.starts.now c.requires.room c.tasks.task task,
    )

pub bounds-seats-number : goal.bounds-seats-number
bounds-seats-number g c =
    let task : c.tasks.task < length c.args.plant.now.net.tasks = omega arith in
    omega (
      arith,
      c.home_of.ensures,
      c.from-number.ensures,
      length-map c.args.seats.now g.S.Seat.seat,
      a_low c.args.plant.now (map g.S.Seat.seat c.args.seats.now) c.requires.net c.requires.valid c.requires.seats c.args.starts.now c.requires.room c.tasks.task task,
    )

pub offset_bounds-seats-number-in-tasks : goal.offset_bounds-seats-number-in-tasks
offset_bounds-seats-number-in-tasks g c =
    let task : c.tasks.task < length c.args.plant.now.net.tasks = omega arith in
    omega (
      arith,
      c.home_of.ensures,
      c.from-number.ensures,
      length-map c.args.seats.now g.S.Seat.seat,
      b_low c.args.plant.now (map g.S.Seat.seat c.args.seats.now) c.requires.net c.requires.valid c.requires.seats c.args.starts.now c.requires.room c.tasks.task task,
    )

pub bounds-seats-number-in-tasks : goal.bounds-seats-number-in-tasks
bounds-seats-number-in-tasks g c =
    let task : c.tasks.task < length c.args.plant.now.net.tasks = omega arith in
    omega (
      arith,
      c.home_of.ensures,
      c.from-number.ensures,
      length-map c.args.seats.now g.S.Seat.seat,
      b_low c.args.plant.now (map g.S.Seat.seat c.args.seats.now) c.requires.net c.requires.valid c.requires.seats c.args.starts.now c.requires.room c.tasks.task task,
    )

pub take_one-requires-clause-a_states : goal.take_one-requires-clause-a_states
take_one-requires-clause-a_states g c =
    let seats = map g.S.Seat.seat c.args.seats.now in
    let task : c.tasks.task < length c.args.plant.now.net.tasks = omega arith in
    let home = home_of c.args.plant.now.graph c.args.plant.now.tables c.tasks.task in
    let low = a_low c.args.plant.now seats c.requires.net c.requires.valid c.requires.seats c.args.starts.now c.requires.room c.tasks.task task in
    let n : 2 * c.from-number.result ≡ 2 * home = omega (arith, c.home_of.ensures, c.from-number.ensures) in
    let s = c.index-seats-number.result in
    let here : g.S.Seat.seat s ≡ seat_at seats (2 * home) =
    seen_at g.S.Seat.seat c.args.seats.now (2 * c.from-number.result) s (omega (arith, n, low, length-map c.args.seats.now g.S.Seat.seat)) c.index-seats-number.is ∙ ap (seat_at seats) n in
    omega (arith, task, ap (λ (x : Seated). length x.held.states) here, c.requires.room.lists (2 * home) low)

pub take_one-requires-clause-a_room : goal.take_one-requires-clause-a_room
take_one-requires-clause-a_room g c =
    let seats = map g.S.Seat.seat c.args.seats.now in
    let task : c.tasks.task < length c.args.plant.now.net.tasks = omega arith in
    let home = home_of c.args.plant.now.graph c.args.plant.now.tables c.tasks.task in
    let low = a_low c.args.plant.now seats c.requires.net c.requires.valid c.requires.seats c.args.starts.now c.requires.room c.tasks.task task in
    let n : 2 * c.from-number.result ≡ 2 * home = omega (arith, c.home_of.ensures, c.from-number.ensures) in
    let s = c.index-seats-number.result in
    let here : g.S.Seat.seat s ≡ seat_at seats (2 * home) =
    seen_at g.S.Seat.seat c.args.seats.now (2 * c.from-number.result) s (omega (arith, n, low, length-map c.args.seats.now g.S.Seat.seat)) c.index-seats-number.is ∙ ap (seat_at seats) n in
    ap (λ (x : Seated). length (state_in x.held c.tasks.task)) here
    ∙ a_room c.args.plant.now seats c.requires.net c.requires.valid c.requires.seats c.args.starts.now c.requires.room c.tasks.task task
    ∙ sym (ap length (c.tasks.invariant.rest c.tasks.task (omega arith)))

pub take_one-requires-clause-b_states : goal.take_one-requires-clause-b_states
take_one-requires-clause-b_states g c =
    let seats = map g.S.Seat.seat c.args.seats.now in
    let task : c.tasks.task < length c.args.plant.now.net.tasks = omega arith in
    let home = home_of c.args.plant.now.graph c.args.plant.now.tables c.tasks.task in
    let low = b_low c.args.plant.now seats c.requires.net c.requires.valid c.requires.seats c.args.starts.now c.requires.room c.tasks.task task in
    let n : 2 * c.from-number.result + 1 ≡ 2 * home + 1 = omega (arith, c.home_of.ensures, c.from-number.ensures) in
    let s = c.index-seats-number-in-tasks.result in
    let here : g.S.Seat.seat s ≡ seat_at seats (2 * home + 1) =
    seen_at g.S.Seat.seat c.args.seats.now (2 * c.from-number.result + 1) s (omega (arith, n, low, length-map c.args.seats.now g.S.Seat.seat)) c.index-seats-number-in-tasks.is ∙ ap (seat_at seats) n in
    omega (arith, task, ap (λ (x : Seated). length x.held.states) here, c.requires.room.lists (2 * home + 1) low)

pub take_one-requires-clause-b_room : goal.take_one-requires-clause-b_room
take_one-requires-clause-b_room g c =
    let seats = map g.S.Seat.seat c.args.seats.now in
    let task : c.tasks.task < length c.args.plant.now.net.tasks = omega arith in
    let home = home_of c.args.plant.now.graph c.args.plant.now.tables c.tasks.task in
    let low = b_low c.args.plant.now seats c.requires.net c.requires.valid c.requires.seats c.args.starts.now c.requires.room c.tasks.task task in
    let n : 2 * c.from-number.result + 1 ≡ 2 * home + 1 = omega (arith, c.home_of.ensures, c.from-number.ensures) in
    let s = c.index-seats-number-in-tasks.result in
    let here : g.S.Seat.seat s ≡ seat_at seats (2 * home + 1) =
    seen_at g.S.Seat.seat c.args.seats.now (2 * c.from-number.result + 1) s (omega (arith, n, low, length-map c.args.seats.now g.S.Seat.seat)) c.index-seats-number-in-tasks.is ∙ ap (seat_at seats) n in
    ap (λ (x : Seated). length (state_in x.held c.tasks.task)) here
    ∙ b_room c.args.plant.now seats c.requires.net c.requires.valid c.requires.seats c.args.starts.now c.requires.room c.tasks.task task
    ∙ sym (ap length (c.tasks.invariant.rest c.tasks.task (omega arith)))

pub tasks-preserved : goal.tasks-preserved
tasks-preserved g c =
    let seats = map g.S.Seat.seat c.args.seats.now in
    let task : c.tasks.task < length c.args.plant.now.net.tasks = omega arith in
    let home = home_of c.args.plant.now.graph c.args.plant.now.tables c.tasks.task in
    let low_a = a_low c.args.plant.now seats c.requires.net c.requires.valid c.requires.seats c.args.starts.now c.requires.room c.tasks.task task in
    let n_a : 2 * c.from-number.result ≡ 2 * home = omega (arith, c.home_of.ensures, c.from-number.ensures) in
    let here_a : g.S.Seat.seat c.index-seats-number.result ≡ seat_at seats (2 * home) =
    seen_at g.S.Seat.seat c.args.seats.now (2 * c.from-number.result) c.index-seats-number.result (omega (arith, n_a, low_a, length-map c.args.seats.now g.S.Seat.seat)) c.index-seats-number.is ∙ ap (seat_at seats) n_a in
    let low_b = b_low c.args.plant.now seats c.requires.net c.requires.valid c.requires.seats c.args.starts.now c.requires.room c.tasks.task task in
    let n_b : 2 * c.from-number.result + 1 ≡ 2 * home + 1 = omega (arith, c.home_of.ensures, c.from-number.ensures) in
    let here_b : g.S.Seat.seat c.index-seats-number-in-tasks.result ≡ seat_at seats (2 * home + 1) =
    seen_at g.S.Seat.seat c.args.seats.now (2 * c.from-number.result + 1) c.index-seats-number-in-tasks.result (omega (arith, n_b, low_b, length-map c.args.seats.now g.S.Seat.seat)) c.index-seats-number-in-tasks.is ∙ ap (seat_at seats) n_b in
    let old : List ℤ = get_or c.tasks.starts c.tasks.task [] in
    let left : left_of (g.S.Seat.seat c.index-seats-number.result) (g.S.Seat.seat c.index-seats-number-in-tasks.result) c.tasks.task old ≡ left_at c.args.plant.now seats c.tasks.task old =
    ap (λ (s : Seated). left_of s (g.S.Seat.seat c.index-seats-number-in-tasks.result) c.tasks.task old) here_a
    ∙ ap (λ (s : Seated). left_of (seat_at seats (2 * home)) s c.tasks.task old) here_b in
    subst (AreTaken c.args.plant.now seats (c.tasks.task + 1) c.args.starts.now) (sym (c.take_one.ensures ∙ ap (set c.tasks.starts c.tasks.task) left))
    (one_more c.args.plant.now seats c.requires.net c.requires.valid c.requires.seats c.args.starts.now c.requires.room c.tasks.task c.tasks.starts task c.tasks.invariant)

pub returns-clause-left : goal.returns-clause-left
returns-clause-left g c =
    let seats = map g.S.Seat.seat c.args.seats.now in
    let e : c.tasks.task ≡ length c.args.plant.now.net.tasks = omega arith in
    all_taken c.args.plant.now seats c.requires.net c.requires.valid c.requires.seats c.args.starts.now c.requires.room g.S.Seat.exec g.S.Seat.cost c.tasks.starts
    (subst (λ k. AreTaken c.args.plant.now seats k c.args.starts.now c.tasks.starts) e c.tasks.invariant)
