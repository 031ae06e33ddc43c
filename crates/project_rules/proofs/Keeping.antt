-- A project of a document without a fault keeps the rules.
use Rattle.std.proofs.Common.{◌≡◌, ℕ, zero, suc, ◌<◌, ◌≤◌, ◌⊎◌, inl, inr, nat_le, ℤ, pos, Bool, true, false, not, ◌&&◌, List, length, map, Some, refl, sym, ap, ◌∙◌, subst, arith}
use Rattle.std.specs.Prelude.{slice_get, Any}
use Rattle.std.specs.List.{list_any}
use Rattle.std.proofs.lemmas.Bool.Decides.{nat_tests}
use Rattle.std.proofs.lemmas.List.{length-map}
use Rattle.std.proofs.lemmas.List.Elements.{All-map}
use Rattle.std.proofs.lemmas.Option.{slice_get_within, slice_get-get_or, get_or_from_slice_get}
use Rattle.toml.specs.Data.{Members}
use Rattle.mars_base.specs.Name.{IsName, is_name}
use Rattle.distinct_names.specs.Repeats.{Repeats}
use Rattle.graph.specs.declared.net.Transaction.{Transaction}
use Rattle.graph.specs.Name.{AreNames}
use Rattle.graph.specs.Order.{HasNoCircle}
use Rattle.graph.specs.Rules.{IsTransaction}
use Rattle.project_sheet.specs.declared.place.Section.TheVariants.{Cluster, Task, Transaction as Transactions, Edge, Sensor, Actuator}
use Rattle.project_sheet.specs.declared.place.Place.{Place}
use Rattle.project_sheet.specs.declared.kind.Kind.{Kind}
use Rattle.project_sheet.specs.declared.kind.Kind.TheVariants as kind
use Rattle.project_sheet.specs.declared.sheet.TaskRow.{TaskRow}
use Rattle.project_sheet.specs.declared.sheet.TransactionRow.{TransactionRow}
use Rattle.project_sheet.specs.declared.sheet.EdgeRow.{EdgeRow}
use Rattle.project_sheet.specs.declared.sheet.OutletRow.{OutletRow}
use Rattle.project_sheet.specs.Sheet.{PlainSheet, sheet_of}
use Rattle.project_sheet.proofs.Firsts.{place_at}
use Rattle.project_rows.specs.Rules.{is_within, cluster_out, task_out, transaction_out, units_out, task_half, is_reference, task_misnamed, transaction_misnamed, outlet_misnamed, Crowded, has_no_task}
use Rattle.project_relations.specs.declared.circle.Link.{Link}
use Rattle.project_relations.specs.Relations.{byte_of, round_short, is_late, is_elsewhere, maybe_past, is_task, transaction_strays, edge_strays, outlet_strays, lists, is_outside, is_shared, is_across, same_number, transaction_of, task_number, link_of, links_of, CanRank}
use Rattle.project_relations.proofs.Ranks.{rest_of, fed_in, rest_ranked, all_ranked, none_left, no_ranks, fewer, goes_up}
use Rattle.project_reader.specs.declared.project.Project.{Project}
use Rattle.project_reader.specs.declared.project.TaskEntry.{TaskEntry}
use Rattle.project_reader.specs.declared.project.Wire.{Wire}
use Rattle.project_reader.specs.declared.project.Outlet.{Outlet}
use Rattle.project_reader.specs.ProjectOf.{small_of, small_or_zero, task_entry, transaction_entry, wire_of, outlet_of, project_of}
use Rattle.project_reader.specs.Faults.{Fails, IsProjectOf}
use Rattle.project_rules.specs.Kept.{entry_transaction, transaction_at, IsEntry, IsJoin, IsAtTask, HasFewEntries, HasProjectNames, Joins, KeepsProject}
use Rattle.project_rules.proofs.Clusters.{fine_cluster, byte_in, shape_is, transaction_is}
use Rattle.project_rules.proofs.Forms.{name_is, are_names}
use Rattle.project_rules.proofs.Known.{IsKnown, known, inside, inside_as, only_inside, some_task, same_option}
use Rattle.project_rules.proofs.Lists.{all_standing, standing, mapped, map_twice, from_map}
use Rattle.project_rules.proofs.Masked.{some_unit, known_units}
use Rattle.project_rules.proofs.Tests.{either_false, not_false, both_true, by_test, nowhere, number_in, keeps}
use Rattle.project_rules.proofs.Together.{AreJoined, all_joined}

-- edges can be ranked, or they can't
abbrev Decided : List Link → Type 0
Decided links = CanRank links ⊎ (CanRank links → ⊥)

parts : (n m : ℕ) → m ≤ n → (n ≡ 0) ⊎ (((m ≡ n) × (0 < n)) ⊎ (m < n))
parts n m le = grind arith

choose : (links : List Link) (n : ℕ) → length links ≤ suc n → (length (rest_of links) ≤ n → Decided (rest_of links)) → Decided links
choose links n low next = by (parts (length links) (length (rest_of links)) (fewer (λ (l : Link). fed_in links l.from) links))
  where
    on : Decided (rest_of links) → Decided links
    on (inl ranked) = inl (all_ranked links ranked)
    on (inr circle) = inr (λ ranked. circle (rest_ranked links ranked))

    by : (length links ≡ 0) ⊎ (((length (rest_of links) ≡ length links) × (0 < length links)) ⊎ (length (rest_of links) < length links)) → Decided links
    by (inl none) = inl (none_left links none)
    by (inr (inl same)) = inr (no_ranks links same.0 same.1)
    by (inr (inr less)) = on (next (omega (arith, less, low)))

decided : (n : ℕ) (links : List Link) → length links ≤ n → Decided links
decided zero links low = inl (none_left links (omega arith))
decided (suc n) links low = choose links n low (decided n (rest_of links))

ranked : (links : List Link) → ((CanRank links → ⊥) → ⊥) → CanRank links
ranked links h = by (decided (length links) links (omega arith))
  where
    by : Decided links → CanRank links
    by (inl ranks) = ranks
    by (inr circle) = absurd (h circle)

-- how many entries there are
counted : (least most n : ℕ) → (Crowded least most n 0 → ⊥) → (least ≤ n) × (n ≤ most)
counted least most n h = by (nat_le least n && nat_le n most) refl
  where
    by : (b : Bool) → (nat_le least n && nat_le n most) ≡ b → (least ≤ n) × (n ≤ most)
    by true e = let w = both_true (nat_le least n) (nat_le n most) e in (grind (arith, nat_tests), grind (arith, nat_tests))
    by false e = absurd (h (refl, e))

-- names of rows are those of the entries made from them
names_of_rows : {A B : Type 0} (f : A → B) (name_of : A → List ℕ) (name : B → List ℕ) (xs : List A) → ((x : A) → name (f x) ≡ name_of x)
    → ((i : ℕ) (x : A) → slice_get xs i ≡ Some x → IsName (name_of x)) → map (λ x. name (f x)) xs ≡ map name_of xs → ((i : ℕ) → Repeats (map name_of xs) i → ⊥) → AreNames name (map f xs)
names_of_rows {A} {B} f name_of name xs same form all none =
    are_names name (map f xs)
    (All-map (λ (y : B). IsName (name y)) f xs (all_standing (λ (x : A). IsName (name (f x))) xs (λ i x at. subst IsName (sym (same x)) (form i x at))))
    (λ i r. none i (subst (λ (l : List (List ℕ)). Repeats l i) (map_twice f name xs ∙ all) r))

module _ (doc : Members) (none : (k : Kind) (p : Place) → Fails doc k p → ⊥) where
  abbrev s : PlainSheet
  s = sheet_of doc

  abbrev p : Project
  p = project_of (sheet_of doc)

  out_cluster : cluster_out s.cluster ≡ false
  out_cluster = by_test (cluster_out s.cluster) (λ bad. none kind.OutOfRange (place_at Cluster 0) (record { it = s.cluster; stands = refl; passes = bad }))

  short : round_short s.cluster ≡ false
  short = by_test (round_short s.cluster) (λ bad. none kind.RoundTooShort (place_at Cluster 0) (record { it = s.cluster; stands = refl; passes = bad }))

  counts : HasFewEntries p
  counts =
      let tasks = counted 1 64 (length s.tasks) (λ h. none kind.TooMany (place_at Task 0) h) in
      let transactions = counted 1 32 (length s.transactions) (λ h. none kind.TooMany (place_at Transactions 0) (inl h)) in
      let edges = counted 0 1024 (length s.edges) (λ h. none kind.TooMany (place_at Edge 0) h) in
      let sensors = counted 0 1024 (length s.sensors) (λ h. none kind.TooMany (place_at Sensor 0) h) in
      let actuators = counted 0 1024 (length s.actuators) (λ h. none kind.TooMany (place_at Actuator 0) h) in
      record {
        some_task = omega (arith, length-map s.tasks (task_entry s), tasks.0);
        tasks = omega (arith, length-map s.tasks (task_entry s), tasks.1);
        some_transaction = omega (arith, length-map s.transactions transaction_entry, transactions.0);
        transactions = omega (arith, length-map s.transactions transaction_entry, transactions.1);
        edges = omega (arith, length-map s.edges (wire_of s), edges.1);
        sensors = omega (arith, length-map s.sensors (outlet_of s), sensors.1);
        actuators = omega (arith, length-map s.actuators (outlet_of s), actuators.1);
      }

  few_tasks : length s.tasks ≤ 64
  few_tasks = omega (arith, length-map s.tasks (task_entry s), counts.tasks)

  few_transactions : length s.transactions ≤ 32
  few_transactions = omega (arith, length-map s.transactions transaction_entry, counts.transactions)

  outside : (i : ℕ) (t : TaskRow) → slice_get s.tasks i ≡ Some t → is_outside s.transactions t ≡ false
  outside = nowhere (is_outside s.transactions) s.tasks (λ i a. none kind.TaskNotInTransaction (place_at Task i) a)

  -- the number of a task's transaction is kept
  entry_number : (t : TaskRow) (n : ℕ) → transaction_of s.transactions t.name ≡ Some n → n < length s.transactions → (task_entry s t).transaction ≡ n
  entry_number t n e lt = ap small_or_zero e ∙ keeps 255 n (omega (arith, lt, few_transactions))

  -- the number of a task is kept
  task_kept : (name : List ℕ) → IsKnown s.tasks name → small_of (task_number s.tasks name) ≡ task_number s.tasks name
  task_kept name k = keeps 255 (task_number s.tasks name) (omega (arith, slice_get_within s.tasks (task_number s.tasks name) k.task k.stands, few_tasks))

  task_low : (name : List ℕ) → IsKnown s.tasks name → small_of (task_number s.tasks name) < length p.tasks
  task_low name k = omega (arith, task_kept name k, slice_get_within s.tasks (task_number s.tasks name) k.task k.stands, length-map s.tasks (task_entry s))

  entry_is : (i : ℕ) (t : TaskRow) → slice_get s.tasks i ≡ Some t → IsEntry p (task_entry s t)
  entry_is i t at =
      let fine = fine_cluster s.cluster out_cluster in
      let units = byte_in 1 8 s.cluster.units (omega arith) fine.units in
      let out = nowhere task_out s.tasks (λ i a. none kind.OutOfRange (place_at Task i) a) i t at in
      let away = nowhere (is_elsewhere s.cluster.units) s.tasks (λ i a. none kind.UnknownUnit (place_at Task i) a) i t at in
      let listed = either_false (not (nat_le 1 (length t.file) && nat_le (length t.file) 255)) (units_out t.units) out in
      let w = inside s.transactions t (outside i t at) in
      let low = slice_get_within s.transactions w.number w.first.it w.first.stands in
      record {
        some_unit = some_unit (byte_of s.cluster.units) t.units units.0 listed.1;
        known_units = known_units (byte_of s.cluster.units) t.units units.1 (ap (λ (z : ℤ). maybe_past z t.units) (same_number_of s.cluster.units fine.units) ∙ away);
        transaction = omega (arith, entry_number t w.number w.is low, low, length-map s.transactions transaction_entry);
      }
    where
      same_number_of : (z : ℤ) → is_within 1 8 z ≡ true → pos (byte_of z) ≡ z
      same_number_of z e =
          let (n, is, least, most) = number_in 1 8 z e in
          ap (λ (y : ℤ). pos (byte_of y)) is ∙ ap (λ (m : ℕ). pos m) (keeps 255 n (omega (arith, most))) ∙ sym is

  timed : (i : ℕ) (t : TransactionRow) → slice_get s.transactions i ≡ Some t → IsTransaction (transaction_entry t)
  timed i t at =
      transaction_is t
      (nowhere transaction_out s.transactions (λ i a. none kind.OutOfRange (place_at Transactions i) a) i t at)
      (nowhere is_late s.transactions (λ i a. none kind.DeadlineAbovePeriod (place_at Transactions i) a) i t at)

  used : (t : ℕ) → t < length p.transactions → Any (λ (e : TaskEntry). e.transaction ≡ t) p.tasks
  used t lt =
      let low : t < length s.transactions = omega (arith, lt, length-map s.transactions transaction_entry) in
      let (row, at) = standing s.transactions t low in
      let some = nowhere has_no_task s.transactions (λ i a. none kind.TooMany (place_at Transactions i) (inr a)) t row at in
      let strays = nowhere (transaction_strays s.tasks) s.transactions (λ i a. none kind.UnknownTask (place_at Transactions i) a) t row at in
      let (name, there, listed) = some_task s.tasks row some strays in
      let k = known s.tasks name there in
      let n = task_number s.tasks name in
      let w = inside s.transactions k.task (outside n k.task k.stands) in
      let once = nowhere (is_shared s.transactions) s.tasks (λ i a. none kind.TaskInTwoTransactions (place_at Task i) a) n k.task k.stands in
      let is = only_inside s.transactions k.task t row w once at (ap (λ (x : List ℕ). lists x row) k.named ∙ listed) in
      let entry = task_entry s k.task in
      let stands : slice_get p.tasks n ≡ Some entry = mapped (task_entry s) s.tasks n k.task k.stands in
      (n, entry, slice_get_within p.tasks n entry stands, get_or_from_slice_get p.tasks n entry entry stands, entry_number k.task t is low)

  transaction_by_name : (name : List ℕ) → IsKnown s.tasks name → transaction_at p (small_of (task_number s.tasks name)) ≡ small_or_zero (transaction_of s.transactions name)
  transaction_by_name name k =
      ap (transaction_at p) (task_kept name k) ∙ ap entry_transaction (mapped (task_entry s) s.tasks (task_number s.tasks name) k.task k.stands)
      ∙ ap (λ (x : List ℕ). small_or_zero (transaction_of s.transactions x)) k.named

  ends_known : (i : ℕ) (e : EdgeRow) → slice_get s.edges i ≡ Some e → (is_task s.tasks (task_half e.from) ≡ true) × (is_task s.tasks (task_half e.to) ≡ true)
  ends_known i e at =
      let strays = nowhere (edge_strays s.tasks) s.edges (λ i a. none kind.UnknownTask (place_at Edge i) a) i e at in
      let w = either_false (not (is_task s.tasks (task_half e.from))) (not (is_task s.tasks (task_half e.to))) strays in
      (not_false (is_task s.tasks (task_half e.from)) w.0, not_false (is_task s.tasks (task_half e.to)) w.1)

  one_transaction : (i : ℕ) (e : EdgeRow) → slice_get s.edges i ≡ Some e → transaction_of s.transactions (task_half e.from) ≡ transaction_of s.transactions (task_half e.to)
  one_transaction i e at =
      let across = nowhere (is_across s.transactions) s.edges (λ i a. none kind.EdgeBetweenTransactions (place_at Edge i) a) i e at in
      same_option (transaction_of s.transactions (task_half e.from)) (transaction_of s.transactions (task_half e.to)) (not_false (same_number (transaction_of s.transactions (task_half e.from)) (transaction_of s.transactions (task_half e.to))) across)

  join_is : (i : ℕ) (e : EdgeRow) → slice_get s.edges i ≡ Some e → IsJoin p (wire_of s e)
  join_is i e at =
      let ends = ends_known i e at in
      let from = known s.tasks (task_half e.from) ends.0 in
      let to = known s.tasks (task_half e.to) ends.1 in
      record {
        from_task = task_low (task_half e.from) from;
        to_task = task_low (task_half e.to) to;
        transaction = transaction_by_name (task_half e.from) from ∙ ap small_or_zero (one_transaction i e at) ∙ sym (transaction_by_name (task_half e.to) to);
      }

  at_task : (o : OutletRow) → outlet_strays s.tasks o ≡ false → IsAtTask p (outlet_of s o)
  at_task o strays = task_low (task_half o.port) (known s.tasks (task_half o.port) (not_false (is_task s.tasks (task_half o.port)) strays))

  joined : AreJoined s
  joined = record {
    known_tasks = ends_known;
    inside = in_one;
    ranks = λ t lt. ranked (links_of s t) (λ circle. none kind.EdgesInCircle (place_at Transactions t) (lt, circle));
  }
    where
      in_one : (i : ℕ) (e : EdgeRow) → slice_get s.edges i ≡ Some e → (t : ℕ) × (t < length s.transactions) × (transaction_of s.transactions (task_half e.from) ≡ Some t) × (transaction_of s.transactions (task_half e.to) ≡ Some t)
      in_one i e at =
          let k = known s.tasks (task_half e.from) (ends_known i e at).0 in
          let w = inside_as s.transactions k.task.name (task_half e.from) k.named (inside s.transactions k.task (outside (task_number s.tasks (task_half e.from)) k.task k.stands)) in
          (w.number, slice_get_within s.transactions w.number w.first.it w.first.stands, w.is, sym (one_transaction i e at) ∙ w.is)

  no_circle : HasNoCircle (Joins p)
  no_circle =
      let ranks = all_joined s joined in
      (ranks.0, λ a b j. up ranks.0 (λ i e at. goes_up ranks.0 (map (link_of s) s.edges) i (link_of s e) ranks.1 (mapped (link_of s) s.edges i e at)) a b j)
    where
      up : (rank : ℕ → ℕ) → ((i : ℕ) (e : EdgeRow) → slice_get s.edges i ≡ Some e → rank (link_of s e).from < rank (link_of s e).to) → (a b : ℕ) → Joins p a b → rank a < rank b
      up rank rises a b (k, w, lt, same, ends) =
          let there : slice_get p.edges k ≡ Some w = slice_get-get_or p.edges k w lt ∙ ap (λ (x : Wire). Some x) same in
          let (e, at, is) = from_map (wire_of s) s.edges k w there in
          let known_ends = ends_known k e at in
          let from : (link_of s e).from ≡ a = sym (task_kept (task_half e.from) (known s.tasks (task_half e.from) known_ends.0)) ∙ ap (λ (x : Wire). x.from.task) is ∙ ends.0 in
          let to : (link_of s e).to ≡ b = sym (task_kept (task_half e.to) (known s.tasks (task_half e.to) known_ends.1)) ∙ ap (λ (x : Wire). x.to.task) is ∙ ends.1 in
          subst (λ x. rank x < rank b) from (subst (λ x. rank (link_of s e).from < rank x) to (rises k e at))

  task_name : (i : ℕ) (t : TaskRow) → slice_get s.tasks i ≡ Some t → IsName t.name
  task_name i t at = name_is t.name (not_false (is_name t.name) (nowhere task_misnamed s.tasks (λ i a. none kind.BadName (place_at Task i) a) i t at))

  transaction_name : (i : ℕ) (t : TransactionRow) → slice_get s.transactions i ≡ Some t → IsName t.name
  transaction_name i t at =
      let w = either_false (not (is_name t.name)) (list_any (λ name. not (is_name name)) t.tasks) (nowhere transaction_misnamed s.transactions (λ i a. none kind.BadName (place_at Transactions i) a) i t at) in
      name_is t.name (not_false (is_name t.name) w.0)

  outlet_name : (o : OutletRow) → outlet_misnamed o ≡ false → IsName o.name
  outlet_name o e = name_is o.name (not_false (is_name o.name) (either_false (not (is_name o.name)) (not (is_reference o.port)) e).0)

  named : HasProjectNames p
  named = record {
    tasks = names_of_rows (task_entry s) (λ (t : TaskRow). t.name) (λ (t : TaskEntry). t.name) s.tasks (λ t. refl) task_name refl (λ i r. none kind.TwiceNamed (place_at Task i) (inl r));
    transactions = names_of_rows transaction_entry (λ (t : TransactionRow). t.name) (λ (t : Transaction). t.name) s.transactions (λ t. refl) transaction_name refl (λ i r. none kind.TwiceNamed (place_at Transactions i) r);
    sensors = names_of_rows (outlet_of s) (λ (o : OutletRow). o.name) (λ (o : Outlet). o.name) s.sensors (λ o. refl)
        (λ i o at. outlet_name o (nowhere outlet_misnamed s.sensors (λ i a. none kind.BadName (place_at Sensor i) a) i o at)) refl (λ i r. none kind.TwiceNamed (place_at Sensor i) r);
    actuators = names_of_rows (outlet_of s) (λ (o : OutletRow). o.name) (λ (o : Outlet). o.name) s.actuators (λ o. refl)
        (λ i o at. outlet_name o (nowhere outlet_misnamed s.actuators (λ i a. none kind.BadName (place_at Actuator i) a) i o at)) refl (λ i r. none kind.TwiceNamed (place_at Actuator i) r);
  }

  pub rows_keep : KeepsProject p
  rows_keep = record {
    shape = shape_is s.cluster out_cluster short;
    counts = counts;
    tasks = All-map (IsEntry p) (task_entry s) s.tasks (all_standing (λ (t : TaskRow). IsEntry p (task_entry s t)) s.tasks entry_is);
    transactions = All-map IsTransaction transaction_entry s.transactions (all_standing (λ (t : TransactionRow). IsTransaction (transaction_entry t)) s.transactions timed);
    used = used;
    edges = All-map (IsJoin p) (wire_of s) s.edges (all_standing (λ (e : EdgeRow). IsJoin p (wire_of s e)) s.edges join_is);
    sensors = All-map (IsAtTask p) (outlet_of s) s.sensors (all_standing (λ (o : OutletRow). IsAtTask p (outlet_of s o)) s.sensors
        (λ i o at. at_task o (nowhere (outlet_strays s.tasks) s.sensors (λ i a. none kind.UnknownTask (place_at Sensor i) a) i o at)));
    actuators = All-map (IsAtTask p) (outlet_of s) s.actuators (all_standing (λ (o : OutletRow). IsAtTask p (outlet_of s o)) s.actuators
        (λ i o at. at_task o (nowhere (outlet_strays s.tasks) s.actuators (λ i a. none kind.UnknownTask (place_at Actuator i) a) i o at)));
    names = named;
    no_circle = no_circle;
  }

-- the project of a text without a fault keeps the rules
pub keeps_project : (bytes : List ℕ) (p : Project) → IsProjectOf bytes p → KeepsProject p
keeps_project bytes p h = subst KeepsProject (sym h.is) (rows_keep h.doc h.no_fault)
