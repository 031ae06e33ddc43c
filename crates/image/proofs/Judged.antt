-- What the steps of judging say of the fields.
use Rattle.std.proofs.Common.{◌≡◌, ℕ, List, length, map, All, sym, ◌∙◌, ap, subst}
use Rattle.std.proofs.lemmas.List.{length-map}
use Rattle.graph.specs.declared.net.Net.{Net}
use Rattle.graph.specs.JobGraph.{JobGraph, IsJobGraph}
use Rattle.graph.specs.NetGraph.{IsNetGraphFor}
use Rattle.graph.specs.Sound.{IsSound}
use Rattle.tables.specs.declared.table.Tables.{Tables}
use Rattle.tables.specs.declared.table.JobEntry.{JobEntry}
use Rattle.tables.specs.declared.table.Message.{Message}
use Rattle.tables.specs.declared.rule.TableRule.{TableRule}
use Rattle.tables.specs.Number.{number_of}
use Rattle.tables.specs.Valid.{IsFirstFault}
use Rattle.word_code.specs.Typing.{IsVerified}
use Rattle.word_code.specs.declared.code.Code.{Code}
use Rattle.plant.specs.Lengths.{lengths_of}
use Rattle.image_fields.specs.declared.parts.Parts.{Parts}
use Rattle.image_fields.specs.Image.{image}
use Rattle.image_sides.specs.Sides.{net_task, maxt_of, state_words}
use Rattle.image_plant.specs.Said.{net_of, entry_of, message_of, tables_of, IsSaid}
use Rattle.image_sides.specs.First.{IsFirstUnverified}
use Rattle.image.specs.declared.decoding.ImageFault.{ImageFault}
use Rattle.image.specs.declared.decoding.ImageFault.TheVariants as fault
use Rattle.image.specs.declared.judging.Checked.{Checked}
use Rattle.image.specs.declared.judging.Taken.{Taken}
use Rattle.image.specs.Decoded.{IsBadCode, MayRefuse}
use Rattle.image.specs.Faults.{HasBadTable}
use Rattle.image.specs.Helpers.{IsChecked, IsTaken}

-- there are as many bounds as tasks
pub bounds_are : (p : Parts) (checked : Checked) → IsChecked p checked → length checked.maxts ≡ length checked.net.tasks
bounds_are p checked is = ap length is.maxts ∙ length-map p.tasks maxt_of ∙ sym (length-map p.tasks net_task) ∙ sym (ap (λ (n : Net). length n.tasks) is.net)

pub sound_net : (p : Parts) (checked : Checked) → IsChecked p checked → IsSound checked.net
sound_net p checked is = subst IsSound (sym is.net) is.sound

abbrev with_lists : List JobEntry → List Message → Tables
with_lists jobs messages = record { jobs = jobs; messages = messages }

-- the tables are those of the fields
pub tables_are : (p : Parts) (checked : Checked) → IsChecked p checked → (c : ℕ) (t : Tables) → t.jobs ≡ map (entry_of checked.net c) checked.jobs → t.messages ≡ map message_of checked.messages → t ≡ tables_of (net_of p) c p
tables_are p checked is c t jobs messages =
    ap (λ (js : List JobEntry). with_lists js t.messages) (jobs ∙ ap (λ (n : Net). map (entry_of n c) checked.jobs) is.net ∙ ap (map (entry_of (net_of p) c)) is.jobs)
    ∙ ap (with_lists (map (entry_of (net_of p) c) p.jobs)) (messages ∙ ap (map message_of) is.messages)

-- the plant that is put together is the one that the fields say
pub is_said : (p : Parts) (checked : Checked) → IsChecked p checked → (states : List ℕ) (g : JobGraph) (t : Tables)
    → states ≡ map state_words checked.programs → IsNetGraphFor checked.net (lengths_of checked.maxts checked.net.shape.cycles_per_tick) g → IsJobGraph g
    → t.jobs ≡ map (entry_of checked.net g.cycle) checked.jobs → t.messages ≡ map message_of checked.messages
    → IsSaid p (record { net = checked.net; graph = g; tables = t; programs = checked.programs; maxts = checked.maxts; states = states })
is_said p checked is states g t e graph whole jobs messages = record {
  net = is.net;
  programs = is.programs;
  maxts = is.maxts;
  states = e ∙ ap (map state_words) is.programs;
  graph = subst (λ (ms : List ℕ). IsNetGraphFor (net_of p) (lengths_of ms p.shape.cycles_per_tick) g) is.maxts
      (subst (λ (n : Net). IsNetGraphFor n (lengths_of checked.maxts n.shape.cycles_per_tick) g) is.net graph);
  whole = whole;
  tables = tables_are p checked is g.cycle t jobs messages;
}

-- the first rule that fails is that of the fields
pub bad_table : (p : Parts) (checked : Checked) → IsChecked p checked → (g : JobGraph) (t : Tables) (r : TableRule) (k : ℕ)
    → IsNetGraphFor checked.net (lengths_of checked.maxts checked.net.shape.cycles_per_tick) g → IsJobGraph g
    → t.jobs ≡ map (entry_of checked.net g.cycle) checked.jobs → t.messages ≡ map message_of checked.messages
    → IsFirstFault checked.net g t r → k ≡ number_of r → HasBadTable p k
bad_table p checked is g t r k graph whole jobs messages first number = record {
  sound = is.sound;
  codes = is.verified;
  graph = g;
  whole = whole;
  is = subst (λ (ms : List ℕ). IsNetGraphFor (net_of p) (lengths_of ms p.shape.cycles_per_tick) g) is.maxts
      (subst (λ (n : Net). IsNetGraphFor n (lengths_of checked.maxts n.shape.cycles_per_tick) g) is.net graph);
  rule = r;
  number_is = number;
  first = subst (λ (x : Tables). IsFirstFault (net_of p) g x r) (tables_are p checked is g.cycle t jobs messages) (subst (λ (n : Net). IsFirstFault n g t r) is.net first);
}

-- the code that isn't verified is that of the fields
pub bad_code : (p : Parts) (taken : Taken) → IsTaken p taken → (e : ImageFault) → IsBadCode taken.codes.items e → MayRefuse p e
bad_code p taken is (fault.Bytes offset) b = b
bad_code p taken is fault.Net b = absurd b
bad_code p taken is (fault.Code number) b = record { sound = is.sound; first = subst (λ (cs : List Code). IsFirstUnverified cs number) is.codes b }
bad_code p taken is (fault.Table number) b = absurd b
bad_code p taken is fault.Memory b = tt

-- the fields taken apart, with codes that were verified
pub is_checked : (p : Parts) (taken : Taken) (programs : List Code) → image.fits p → IsTaken p taken → programs ≡ taken.codes.items → All IsVerified taken.codes.items
    → IsChecked p (record { net = taken.net; programs = programs; maxts = taken.maxts; jobs = taken.jobs; messages = taken.messages })
is_checked p taken programs fits is same verified = record {
  fits = fits;
  net = is.net;
  sound = is.sound;
  programs = same ∙ is.codes;
  verified = subst (All IsVerified) is.codes verified;
  maxts = is.maxts;
  jobs = is.jobs;
  messages = is.messages;
}
