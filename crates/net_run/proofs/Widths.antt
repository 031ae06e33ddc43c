-- What a job takes has its task's words, where what the edges and the sensors bring has those of its port.
use Rattle.std.proofs.Common.{◌≡◌, ℕ, zero, suc, ◌+◌, ◌*◌, ◌<◌, ◌≤◌, List, [], ◌∷◌, ◌++◌, length, take, drop, ℤ, Option, Some, None, refl, sym, ◌∙◌, ap, subst, arith, length-append, length-drop}
use Rattle.std.specs.Prelude.{slice_get, slice_index, sum}
use Rattle.std.proofs.lemmas.List.{length-take-le, take_all}
use Rattle.std.proofs.lemmas.List.Elements.{All-append, All-take, All-drop, All-nil}
use Rattle.std.proofs.lemmas.List.Sums.{sum_by_more, sum_by_more_le}
use Rattle.std.proofs.lemmas.Grind.{rows}
use Rattle.processor.specs.Results.{IsWord}
use Rattle.graph.specs.Cycle.{words_of_sensor, words_of_sensors, sensor_words}
use Rattle.graph.specs.Feeders.{feeder_of, EdgeFeeds, SensorFeeds}
use Rattle.graph.specs.Net.{ins_of, outs_of, instances}
use Rattle.graph.specs.Sound.{KeepsEntryRules}
use Rattle.graph.specs.declared.feeder.Feeder.{Feeder}
use Rattle.graph.specs.declared.feeder.Feeder.TheVariants as feeder
use Rattle.graph.specs.declared.net.Net.{Net}
use Rattle.graph.specs.declared.net.Plug.{Plug}
use Rattle.graph.specs.Rules.{IsEdge}
use Rattle.graph.proofs.Entries.{All_at}
use Rattle.graph.proofs.Nets.{feeder_feeds, only_feeder}
use Rattle.net_run.specs.Alike.{HasWords, IsLine}
use Rattle.net_run.specs.Words.{part, port_words, plug_words, sensor_at, with_words, carried, brought, ports_to, job_inputs}
use Rattle.net_run.proofs.Ports.{carried_at}

-- where there are words, they are so many
abbrev pub FitsIn : ℕ → Option (List ℤ) → Type 0
FitsIn count None = Unit {0}
FitsIn count (Some words) = HasWords count words

-- a part of words is so many words
pub part_fits : (from count all : ℕ) (words : List ℤ) → HasWords all words → from + count ≤ all → HasWords count (part from count words)
part_fits from count all words h low = record {
  count_is = length-take-le count (drop from words) (omega (arith, length-drop from words, h.count_is, low));
  are_words = All-take IsWord count (drop from words) (All-drop IsWord from words h.are_words);
}

pub both_fit : (m n : ℕ) (xs ys : List ℤ) → HasWords m xs → HasWords n ys → HasWords (m + n) (xs ++ ys)
both_fit m n xs ys h k = record {
  count_is = omega (arith, length-append xs ys, h.count_is, k.count_is);
  are_words = All-append IsWord xs ys h.are_words k.are_words;
}

sums : (widths : List ℕ) (n : ℕ) → n < length widths → sum (take (suc n) widths) ≡ sum (take n widths) + slice_index widths n
sums widths n low =
    let e : suc n ≡ n + 1 = omega arith in
    ap (λ k. sum (take k widths)) e ∙ sum_by_more (λ (x : ℕ). x) widths n 0 low

-- the words of one port fit it
pub port_fits : (widths : List ℕ) (port : ℕ) (words : List ℤ) → port < length widths → HasWords (sum widths) words → HasWords (slice_index widths port) (port_words widths port words)
port_fits widths port words low h = part_fits (sum (take port widths)) (slice_index widths port) (sum widths) words h (sum_by_more_le (λ (x : ℕ). x) widths port 0 low)

-- a sensor's words, with those before them, are within the line
sensor_room : (net : Net) (cycle : ℕ) (sensors : List Plug) (i : ℕ) (plug : Plug) → slice_get sensors i ≡ Some plug
    → words_of_sensors net cycle (take i sensors) + words_of_sensor net cycle plug ≤ words_of_sensors net cycle sensors
sensor_room net cycle [] i plug e = absurd (let h : None ≡ Some plug = e in cc)
sensor_room net cycle (s ∷ sensors) zero plug e = let same : s ≡ plug = (let h : Some s ≡ Some plug = e in cc) in rw same (omega arith)
sensor_room net cycle (s ∷ sensors) (suc i) plug e = omega (arith, sensor_room net cycle sensors i plug e)

times_le : (a b c : ℕ) → a < b → a * c + c ≤ c * b
times_le a b c low = grind (arith, rows)

module _ (net : Net) (cycle : ℕ) (line : List ℤ) (is_line : IsLine net cycle line) (rules : KeepsEntryRules net) where
  sensor_fits : (task port sensor instance : ℕ) → SensorFeeds net task port sensor → instance < instances net cycle task → HasWords (slice_index (ins_of net task) port) (sensor_at net cycle sensor instance line)
  sensor_fits task port sensor instance f low =
      let at : sensor_at net cycle sensor instance line ≡ plug_words net cycle sensor instance line (Some f.sensor) = ap (plug_words net cycle sensor instance line) f.stands in
      let width : slice_index (ins_of net f.sensor.task) f.sensor.port ≡ slice_index (ins_of net task) port =
      ap (λ t. slice_index (ins_of net t) f.sensor.port) f.to_task ∙ ap (slice_index (ins_of net task)) f.to_port in
      let many : instances net cycle f.sensor.task ≡ instances net cycle task = ap (instances net cycle) f.to_task in
      let room = sensor_room net cycle net.sensors sensor f.sensor f.stands in
      let rest = times_le instance (instances net cycle f.sensor.task) (slice_index (ins_of net f.sensor.task) f.sensor.port) (omega (arith, low, many)) in
      let here = part_fits
      (words_of_sensors net cycle (take sensor net.sensors) + instance * slice_index (ins_of net f.sensor.task) f.sensor.port)
      (slice_index (ins_of net f.sensor.task) f.sensor.port) (sensor_words net cycle) line is_line (omega (arith, room, rest)) in
      subst (λ n. HasWords n (sensor_at net cycle sensor instance line)) width
      (subst (HasWords (slice_index (ins_of net f.sensor.task) f.sensor.port)) (sym at) here)

  pub edge_fits : (given : ℕ → Option (List ℤ)) (task port edge : ℕ) (f : EdgeFeeds net task port edge)
      → FitsIn (sum (outs_of net f.edge.from_task)) (given f.edge.from_task) → FitsIn (slice_index (ins_of net task) port) (carried net given edge)
  edge_fits given task port edge f h =
      let is : IsEdge net f.edge = All_at (IsEdge net) net.edges edge f.edge rules.entries.edges f.stands in
      let width : slice_index (outs_of net f.edge.from_task) f.edge.from_port ≡ slice_index (ins_of net task) port =
      is.width ∙ ap (λ t. slice_index (ins_of net t) f.edge.to_port) f.to_task ∙ ap (slice_index (ins_of net task)) f.to_port in
      subst (λ n. FitsIn n (carried net given edge)) width
      (subst (FitsIn (slice_index (outs_of net f.edge.from_task) f.edge.from_port)) (sym (carried_at net given task port edge f)) (by is.from_port (given f.edge.from_task) h))
    where
      by : f.edge.from_port < length (outs_of net f.edge.from_task) → (o : Option (List ℤ)) → FitsIn (sum (outs_of net f.edge.from_task)) o
          → FitsIn (slice_index (outs_of net f.edge.from_task) f.edge.from_port) (with_words o (λ outs. Some (port_words (outs_of net f.edge.from_task) f.edge.from_port outs)))
      by inside None h = tt
      by inside (Some outs) h = port_fits (outs_of net f.edge.from_task) f.edge.from_port outs inside h

  -- each feeder brings its port's words, where the edges do
  brought_fits : (look : ℕ → Option (List ℤ)) (task port instance : ℕ) → port < length (ins_of net task) → instance < instances net cycle task
      → ((edge : ℕ) → feeder_of net task port ≡ Some (feeder.Edge edge) → FitsIn (slice_index (ins_of net task) port) (look edge))
      → FitsIn (slice_index (ins_of net task) port) (brought net cycle line look instance (feeder_of net task port))
  brought_fits look task port instance inside low h = by (feeder_of net task port) refl
    where
      by : (o : Option Feeder) → feeder_of net task port ≡ o → FitsIn (slice_index (ins_of net task) port) (brought net cycle line look instance o)
      by None e = let w = rules.fed task port inside in absurd (let is : None ≡ Some w.0 = sym e ∙ only_feeder net task port w.0 w.1 in cc)
      by (Some (feeder.Edge edge)) e = h edge e
      by (Some (feeder.Sensor sensor)) e = sensor_fits task port sensor instance (feeder_feeds net task port (feeder.Sensor sensor) e) low

  ports_fit : (look : ℕ → Option (List ℤ)) (task instance n : ℕ) → n ≤ length (ins_of net task) → instance < instances net cycle task
      → ((port edge : ℕ) → port < n → feeder_of net task port ≡ Some (feeder.Edge edge) → FitsIn (slice_index (ins_of net task) port) (look edge))
      → FitsIn (sum (take n (ins_of net task))) (ports_to net cycle line look instance task n)
  ports_fit look task instance zero low run h = record { count_is = refl; are_words = All-nil IsWord }
  ports_fit look task instance (suc n) low run h =
      subst (λ k. FitsIn k (ports_to net cycle line look instance task (suc n))) (sym (sums (ins_of net task) n (omega (arith, low))))
      (by (ports_to net cycle line look instance task n) (ports_fit look task instance n (omega (arith, low)) run (λ port edge less e. h port edge (omega (arith, less)) e))
      (brought net cycle line look instance (feeder_of net task n)) (brought_fits look task n instance (omega (arith, low)) run (λ edge e. h n edge (omega arith) e)))
    where
      by : (o : Option (List ℤ)) → FitsIn (sum (take n (ins_of net task))) o → (p : Option (List ℤ)) → FitsIn (slice_index (ins_of net task) n) p
          → FitsIn (sum (take n (ins_of net task)) + slice_index (ins_of net task) n) (with_words o (λ before. with_words p (λ words. Some (before ++ words))))
      by None a p b = tt
      by (Some before) a None b = tt
      by (Some before) a (Some words) b = both_fit (sum (take n (ins_of net task))) (slice_index (ins_of net task) n) before words a b

  -- what a job takes fits its task
  pub inputs_fit : (look : ℕ → Option (List ℤ)) (task instance : ℕ) → instance < instances net cycle task
      → ((port edge : ℕ) → port < length (ins_of net task) → feeder_of net task port ≡ Some (feeder.Edge edge) → FitsIn (slice_index (ins_of net task) port) (look edge))
      → FitsIn (sum (ins_of net task)) (job_inputs net cycle line look instance task)
  inputs_fit look task instance run h =
      subst (λ (widths : List ℕ). FitsIn (sum widths) (job_inputs net cycle line look instance task)) (take_all (length (ins_of net task)) (ins_of net task) (omega arith))
      (ports_fit look task instance (length (ins_of net task)) (omega arith) run h)
