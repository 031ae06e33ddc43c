-- The replica in a seat is the model's member.
use Rattle.std.proofs.Common.{◌≡◌, ℕ, ◌<◌, List, length, map, get_or, sym, ◌∙◌, ap, arith}
use Rattle.std.proofs.lemmas.List.{get_or-map, length-map}
use Rattle.mars_base.specs.declared.shape.Side.{Side}
use Rattle.bus.specs.Numbers.{BusState}
use Rattle.cluster_agreement.proofs.Reading.{number_within}
use Rattle.cluster_model.specs.State.{Held, Member, replica_number, member_of}
use Rattle.cluster_seats.specs.Seats.{Seated, no_seat, seat_at, members_on, AreSeated}
use Rattle.cluster_seats.proofs.Members.{member_at}

module _ {S : Type 0} (seat : S → Seated) (units : ℕ) (bus : BusState) (items : List S) (seated : AreSeated units (map seat items)) (unit : ℕ) (side : Side) (low : unit < units) where
  pub seat_within : replica_number unit side < length items
  seat_within = omega (arith, number_within units unit side low, seated.count, length-map items seat)

  pub held_there : (item : S) → item ≡ get_or items (replica_number unit side) item → (seat item).held ≡ (member_of (members_on bus (map seat items)) unit side).held
  held_there item is =
      ap (λ (x : S). (seat x).held) is
      ∙ ap (λ (s : Seated). s.held) (sym (get_or-map seat items (replica_number unit side) item no_seat seat_within))
      ∙ ap (λ (m : Member). m.held) (sym (member_at units bus (map seat items) seated unit side low))
