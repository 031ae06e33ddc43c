-- The first fault of a net's ports.
use Rattle.std.proofs.Common.{◌≡◌, ℕ, ◌<◌, nat_le, length, Option, Some, None, arith}
use Rattle.graph.specs.declared.net.Net.{Net}
use Rattle.graph.specs.declared.net.Edge.{Edge}
use Rattle.graph.specs.declared.net.Plug.{Plug}
use Rattle.graph.specs.Net.{ins_of, outs_of}
use Rattle.project_sheet.specs.declared.place.Section.TheVariants.{Edge as Edges, Sensor}
use Rattle.project_sheet.specs.declared.place.Place.{Place}
use Rattle.project_sheet.specs.declared.kind.Kind.{Kind}
use Rattle.project_sheet.specs.declared.kind.Kind.TheVariants.{UnknownKey, MissingKey, WrongType, OutOfRange, BadName, TwiceNamed, TooMany, RoundTooShort, DeadlineAbovePeriod, UnknownUnit, UnknownTask, TaskNotInTransaction, TaskInTwoTransactions, EdgeBetweenTransactions, EdgesInCircle, UnknownPort, PortNeverFed, PortFedTwice, WidthDiffers}
use Rattle.project_sheet.specs.declared.kind.Fault.{Fault}
use Rattle.project_sheet.specs.First.{IsFirstPlace, IsLeast}
use Rattle.project_sheet.specs.Kind.{number_of_kind, IsFirstIn, IsFirst}
use Rattle.project_sheet.proofs.Firsts.{place_at}
use Rattle.project_sheet.proofs.Numbered.{later, first_of_all, none_of_all, first_is}
use Rattle.port_feeds.specs.Feeds.{IsLeastTask}
use Rattle.port_feeds.specs.Placed.{HasFewPorts, HasPlaces}
use Rattle.project_rules.proofs.Lists.{all_standing}
use Rattle.project_rules.proofs.Tests.{either_false, nowhere, below}
use Rattle.project_binder.specs.PortFaults.{is_edge_loose, is_sensor_loose, IsUnknownPort, BindFails}

-- the least task is a least entry
pub as_entry : (P : ℕ → Type 0) (r : Option ℕ) → IsLeastTask P r → IsLeast P r
as_entry P None h = record { least = h }
as_entry P (Some t) h = record { least = h }

-- where no port is unknown each edge and each sensor has a place
pub places : (net : Net) → HasFewPorts net → (r : Option Place) → r ≡ None → IsFirstPlace (IsUnknownPort net) r → HasPlaces net
places net few None e none = record {
  few = few;
  edges = all_standing (λ (e : Edge). e.to_port < length (ins_of net e.to_task)) net.edges
      (λ i e at. below (length (ins_of net e.to_task)) e.to_port (either_false (nat_le (length (outs_of net e.from_task)) e.from_port) (nat_le (length (ins_of net e.to_task)) e.to_port) (nowhere (is_edge_loose net) net.edges (λ i a. none (place_at Edges i) a) i e at)).1);
  sensors = all_standing (λ (s : Plug). s.port < length (ins_of net s.task)) net.sensors
      (λ i s at. below (length (ins_of net s.task)) s.port (nowhere (is_sensor_loose net) net.sensors (λ i a. none (place_at Sensor i) a) i s at));
}
places net few (Some p) e none = cc

-- no kind below 17 has a fault
early : (net : Net) (k : Kind) (p : Place) → number_of_kind k < 17 → BindFails net k p → ⊥
early net UnknownKey p a x = x
early net MissingKey p a x = x
early net WrongType p a x = x
early net OutOfRange p a x = x
early net BadName p a x = x
early net TwiceNamed p a x = x
early net TooMany p a x = x
early net RoundTooShort p a x = x
early net DeadlineAbovePeriod p a x = x
early net UnknownUnit p a x = x
early net UnknownTask p a x = x
early net TaskNotInTransaction p a x = x
early net TaskInTwoTransactions p a x = x
early net EdgeBetweenTransactions p a x = x
early net EdgesInCircle p a x = x
early net UnknownPort p a x = omega arith
early net PortNeverFed p a x = omega arith
early net PortFedTwice p a x = omega arith
early net WidthDiffers p a x = omega arith

all_kinds : (net : Net) (r : Option Fault) → IsFirstIn (BindFails net) 17 21 r → IsFirstIn (BindFails net) 2 21 r
all_kinds net r h = later (BindFails net) 2 17 21 r (λ kind place a b x. early net kind place b x) h

-- the first of the kinds from 17 on is the first of all
pub bad : (net : Net) (r : Option Fault) (f : Fault) → r ≡ Some f → IsFirstIn (BindFails net) 17 21 r → IsFirst (BindFails net) f
bad net r f e h = first_of_all (BindFails net) 21 f (first_is (BindFails net) 2 21 r (Some f) e (all_kinds net r h))

pub good : (net : Net) (r : Option Fault) → r ≡ None → IsFirstIn (BindFails net) 17 21 r → (kind : Kind) (place : Place) → BindFails net kind place → ⊥
good net r e h = none_of_all (BindFails net) (first_is (BindFails net) 2 21 r None e (all_kinds net r h))
