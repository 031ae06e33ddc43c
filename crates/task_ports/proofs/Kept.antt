-- What the ports of a checked task keep.
use Rattle.std.proofs.Common.{◌≡◌, ◌≢◌, ℕ, zero, suc, ◌+◌, ◌<◌, ◌≤◌, nat_le, if◌then◌else◌, Bool, true, false, cond, List, [], ◌∷◌, ◌++◌, length, map, get_or, Some, option_map, refl, sym, ap, ◌∙◌, subst, arith}
use Rattle.std.specs.Prelude.{filter, slice_get, Any}
use Rattle.std.specs.List.{All, AllPairs}
use Rattle.std.proofs.lemmas.Bool.Decides.{nat_tests}
use Rattle.std.proofs.lemmas.List.{length-map, length-append, append-nil, get_or_append_left}
use Rattle.std.proofs.lemmas.List.Elements.{All-map, All-filter, filter-append, filter_passes}
use Rattle.std.proofs.lemmas.List.Kept.{AllPairs-filter}
use Rattle.std.proofs.lemmas.Option.{slice_get-get_or, slice_get-map}
use Rattle.mars_base.specs.declared.shape.Port.{Port}
use Rattle.mars_base.specs.declared.word.Role.{Role}
use Rattle.mars_base.specs.declared.word.Role.TheVariants as role
use Rattle.mc_tree.specs.declared.tree.Cell.{Cell}
use Rattle.mc_tree.specs.declared.tree.Task.{Task}
use Rattle.mc_tree.specs.Tree.{Fn, Bl}
use Rattle.mc_tree.specs.Instance.{is_in, is_out}
use Rattle.mc_tree.specs.Checked as checked
use Rattle.mc_tree.specs.CheckedTask.{IsCheckedTask}
use Rattle.graph.specs.Name.{Differ}
use Rattle.graph.specs.Rules.{IsWidth}
use Rattle.task_ports.specs.declared.ports.TaskPorts.{TaskPorts}
use Rattle.task_ports.specs.Ports.{byte_of, port_of, ports_in, ports_of, PortsDiffer, HasPortWidth, IsTaskPorts}

-- each port is an in cell or an out cell
counted : (cells : List Cell) → length (ports_in cells).ins + length (ports_in cells).outs ≡ checked.ports_in cells
counted [] = refl
counted (c ∷ cells) = one c.role (filter (λ (d : Cell). is_in d.role) cells) (filter (λ (d : Cell). is_out d.role) cells) ∙ ap (λ n. (if checked.is_port c.role then 1 else 0) + n) (counted cells)
  where
    one : (r : Role) (ins outs : List Cell) → length (map port_of (cond (is_in r) (c ∷ ins) ins)) + length (map port_of (cond (is_out r) (c ∷ outs) outs))
        ≡ (if checked.is_port r then 1 else 0) + (length (map port_of ins) + length (map port_of outs))
    one role.In ins outs = omega arith
    one role.Out ins outs = omega arith
    one role.State ins outs = omega arith
    one role.Local ins outs = omega arith

kept_byte : (n : ℕ) → (1 ≤ n) × (n ≤ 16) → IsWidth (byte_of n)
kept_byte n h = let same : byte_of n ≡ n = grind (arith, nat_tests) in (omega (arith, same), omega (arith, same))

in_width : (r : Role) (n : ℕ) → is_in r ≡ true → (1 ≤ n) × (n ≤ checked.greatest_width r) → IsWidth (byte_of n)
in_width role.In n e h = kept_byte n h
in_width role.Out n e h = cc
in_width role.State n e h = cc
in_width role.Local n e h = cc

out_width : (r : Role) (n : ℕ) → is_out r ≡ true → (1 ≤ n) × (n ≤ checked.greatest_width r) → IsWidth (byte_of n)
out_width role.In n e h = cc
out_width role.Out n e h = kept_byte n h
out_width role.State n e h = cc
out_width role.Local n e h = cc

kept_widths : (test : Role → Bool) (cells : List Cell) → ((r : Role) (n : ℕ) → test r ≡ true → (1 ≤ n) × (n ≤ checked.greatest_width r) → IsWidth (byte_of n))
    → All checked.HasWidth cells → All HasPortWidth (map port_of (filter (λ (c : Cell). test c.role) cells))
kept_widths test cells each widths =
    let some = λ (c : Cell). test c.role in
    let wide = All-filter some checked.HasWidth cells widths in
    let pass = filter_passes some cells in
    All-map HasPortWidth port_of (filter some cells) (λ k d lt. each (get_or (filter some cells) k d).role (get_or (filter some cells) k d).width (pass k d lt) (wide k d lt))

abbrev Apart : Cell → Cell → Type 0
Apart a b = a.name ≢ b.name

-- cells whose names differ give ports whose names differ
differ : (cells : List Cell) → AllPairs Apart cells → PortsDiffer (map port_of cells)
differ [] h = tt
differ (c ∷ cells) h = (none, differ cells (λ i j d lt low. h (suc i) (suc j) d (omega arith) (omega arith)))
  where
    none : Any (λ (p : Port). p.name ≡ c.name) (map port_of cells) → ⊥
    none (k, p, lt, at, same) =
        let low : k < length cells = omega (arith, lt, length-map cells port_of) in
        let there : slice_get (map port_of cells) k ≡ Some p = slice_get-get_or (map port_of cells) k p lt ∙ ap (λ (q : Port). Some q) at in
        let made : slice_get (map port_of cells) k ≡ Some (port_of (get_or cells k c)) = slice_get-map port_of cells k ∙ ap (option_map port_of) (slice_get-get_or cells k c low) in
        let both : Some (port_of (get_or cells k c)) ≡ Some p = sym made ∙ there in
        let one : port_of (get_or cells k c) ≡ p = cc in
        h 0 (suc k) c (omega arith) (omega (arith, low)) (sym (ap (λ (q : Port). q.name) one ∙ same))

front_differs : (xs ys : List Cell) → AllPairs Apart (xs ++ ys) → AllPairs Apart xs
front_differs xs ys h = λ i j d lt low.
    subst (λ (b : Cell). Apart (get_or xs i d) b) (get_or_append_left xs ys d j low)
    (subst (λ (a : Cell). Apart a (get_or (xs ++ ys) j d)) (get_or_append_left xs ys d i (omega (arith, lt, low))) (h i j d lt (omega (arith, low, length-append xs ys))))

-- the globals differ in name
globals_differ : (globals cells : List Cell) (fs : List Fn) (body : Bl) → checked.Routines globals cells fs body → AllPairs Apart globals
globals_differ globals cells [] body r = front_differs globals cells r.0
globals_differ globals cells (f ∷ fs) body (params, locals, rest, is, routine, more) = front_differs globals (params ++ locals) routine.names

no_ports : (test : Role → Bool) (cells : List Cell) → test role.Local ≡ false → All (λ (c : Cell). c.role ≡ role.Local) cells → filter (λ (c : Cell). test c.role) cells ≡ []
no_ports test [] e locals = refl
no_ports test (c ∷ cells) e locals =
    let rest = filter (λ (d : Cell). test d.role) cells in
    let is : test c.role ≡ false = ap test (locals 0 c (omega arith)) ∙ e in
    ap (λ b. cond b (c ∷ rest) rest) is ∙ no_ports test cells e (λ k d lt. locals (suc k) d (omega (arith, lt)))

ports_differ : (test : Role → Bool) (cells globals locals : List Cell) → test role.Local ≡ false → cells ≡ globals ++ locals → All (λ (c : Cell). c.role ≡ role.Local) locals → AllPairs Apart globals
    → PortsDiffer (map port_of (filter (λ (c : Cell). test c.role) cells))
ports_differ test cells globals locals e is all h =
    let some = λ (c : Cell). test c.role in
    let same : filter some cells ≡ filter some globals =
    ap (filter some) is ∙ filter-append some globals locals ∙ ap (λ (l : List Cell). filter some globals ++ l) (no_ports test locals e all) ∙ append-nil (filter some globals) in
    subst (λ (l : List Cell). PortsDiffer (map port_of l)) (sym same) (differ (filter some globals) (AllPairs-filter Apart some globals h))

pub ports_kept : (t : Task) → IsCheckedTask t → IsTaskPorts (ports_of t)
ports_kept t h =
    let tree = h.tree in
    let apart = globals_differ tree.globals tree.locals _ _ tree.routines in
    record {
      few = omega (arith, counted t.cells, tree.ports);
      in_widths = kept_widths is_in t.cells in_width tree.widths;
      out_widths = kept_widths is_out t.cells out_width tree.widths;
      ins_differ = ports_differ is_in t.cells tree.globals tree.locals refl tree.declared tree.local_roles apart;
      outs_differ = ports_differ is_out t.cells tree.globals tree.locals refl tree.declared tree.local_roles apart;
    }
