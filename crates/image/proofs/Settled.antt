-- An image's bytes say one image and no fault, and bytes have one first fault.
use Rattle.std.proofs.Common.{◌≡◌, ℕ, ◌<◌, ◌⊎◌, inl, inr, List, length, take, get_or, Result, Ok, Err, All, refl, sym, ◌∙◌, ap, subst, arith}
use Rattle.std.specs.Prelude.{IfOk, IfErr}
use Rattle.std.proofs.lemmas.Bool.{cases_lt}
use Rattle.std.proofs.lemmas.List.{get_or-take, length-take-le}
use Rattle.std.proofs.lemmas.Option.{get_or_from_slice_get, slice_get_within}
use Rattle.formats.specs.Format.{whole}
use Rattle.graph.specs.declared.net.Net.{Net}
use Rattle.graph.specs.JobGraph.{JobGraph}
use Rattle.graph.specs.Sound.{IsSound}
use Rattle.graph.proofs.Entries.{All_at}
use Rattle.tables.specs.declared.table.Tables.{Tables}
use Rattle.tables.specs.declared.rule.TableRule.{TableRule}
use Rattle.tables.specs.Number.{number_of}
use Rattle.tables.specs.Valid.{AreValid, IsFirstFault}
use Rattle.word_code.specs.Typing.{IsVerified}
use Rattle.word_code.specs.declared.code.Code.{Code}
use Rattle.plant.specs.declared.system.Plant.{Plant}
use Rattle.plant.specs.Lengths.{lengths_of}
use Rattle.one_graph.proofs.Whole.{one_graph}
use Rattle.image_fields.specs.declared.parts.Parts.{Parts}
use Rattle.image_fields.specs.Image.{image}
use Rattle.image_fields.proofs.Reading.{again}
use Rattle.image_sides.specs.First.{IsFirstUnverified}
use Rattle.image_plant.specs.Fields.{parts_of, image_bytes}
use Rattle.image_plant.specs.Image.{IsImage}
use Rattle.image_plant.specs.Said.{net_of, codes_of, maxts_of, tables_of, IsSaid}
use Rattle.image_plant.proofs.Once.{image_said, one_plant, parts_said}
use Rattle.image.specs.declared.decoding.ImageFault.{ImageFault}
use Rattle.image.specs.declared.decoding.ImageFault.TheVariants as fault
use Rattle.image.specs.Decoded.{IsDecoded, MayFault}
use Rattle.image.specs.Faults.{HasBadTable, Refuses, SayRefused, IsFirstFaultOf}

-- an image's bytes are read as its fields
reads : (bytes : List ℕ) (plant : Plant Code) → IsImage plant → bytes ≡ image_bytes plant → whole image bytes ≡ Ok (parts_of plant)
reads bytes plant is e = again bytes (parts_of plant) is.fits e

-- what is decoded has the bytes
pub has_bytes : (bytes : List ℕ) (plant : Plant Code) → IsDecoded bytes plant → bytes ≡ image_bytes plant
has_bytes bytes plant d = d.bytes_are ∙ ap image.writes (sym (parts_said d.parts plant d.said d.is_image.in_order.tables))

-- two images with the same bytes are one
pub one_image : (bytes : List ℕ) (a b : Plant Code) → IsImage a → IsImage b → bytes ≡ image_bytes a → bytes ≡ image_bytes b → a ≡ b
one_image bytes a b one two e f =
    let ra = reads bytes a one e in
    let rb = reads bytes b two f in
    let same : parts_of a ≡ parts_of b = cc in
    one_plant (parts_of b) a b (subst (λ (p : Parts). IsSaid p a) same (image_said a one)) (image_said b two)

no_bad_code : (codes : List Code) (k : ℕ) → All IsVerified codes → IsFirstUnverified codes k → ⊥
no_bad_code codes k all first = first.breaks (All_at IsVerified codes k first.code all first.stands)

-- one graph, whichever is taken
same_graph : (p : Parts) (a b : ℕ) (h : HasBadTable p a) (k : HasBadTable p b) → h.graph ≡ k.graph
same_graph p a b h k = one_graph (net_of p) (lengths_of (maxts_of p) p.shape.cycles_per_tick) h.graph k.graph h.whole k.whole h.is.graph k.is.graph

no_bad_table : (p : Parts) (plant : Plant Code) (k : ℕ) → IsImage plant → IsSaid p plant → HasBadTable p k → ⊥
no_bad_table p plant k is said h =
    let same : plant.graph ≡ h.graph = one_graph (net_of p) (lengths_of (maxts_of p) p.shape.cycles_per_tick) plant.graph h.graph said.whole h.whole said.graph.graph h.is.graph in
    let a : AreValid (net_of p) plant.graph plant.tables = subst (λ (n : Net). AreValid n plant.graph plant.tables) said.net is.in_order.tables in
    let b : AreValid (net_of p) plant.graph (tables_of (net_of p) plant.graph.cycle p) = subst (λ (t : Tables). AreValid (net_of p) plant.graph t) said.tables a in
    let c : AreValid (net_of p) h.graph (tables_of (net_of p) h.graph.cycle p) = subst (λ (g : JobGraph). AreValid (net_of p) g (tables_of (net_of p) g.cycle p)) same b in
    h.first.fails (c h.rule)

sound_net : (plant : Plant Code) → IsImage plant → IsSound (net_of (parts_of plant))
sound_net plant is = subst IsSound (image_said plant is).net is.in_order.sound

verified_codes : (plant : Plant Code) → IsImage plant → All IsVerified (codes_of (parts_of plant))
verified_codes plant is = subst (All IsVerified) (image_said plant is).programs is.codes

refuses_none : (plant : Plant Code) (e : ImageFault) → IsImage plant → Refuses (parts_of plant) e → ⊥
refuses_none plant (fault.Bytes offset) is r = r
refuses_none plant fault.Net is r = r (sound_net plant is)
refuses_none plant (fault.Code k) is r = no_bad_code (codes_of (parts_of plant)) k (verified_codes plant is) r.first
refuses_none plant (fault.Table k) is r = no_bad_table (parts_of plant) plant k is (image_said plant is) r
refuses_none plant fault.Memory is r = r

say_none : (bytes : List ℕ) (plant : Plant Code) (e : ImageFault) → IsImage plant → bytes ≡ image_bytes plant → SayRefused bytes e → ⊥
say_none bytes plant e is b f =
    let r = reads bytes plant is b in
    let s = f.1 in
    let same : f.0 ≡ parts_of plant = cc in
    refuses_none plant e is (subst (λ (p : Parts). Refuses p e) same f.2)

-- an image's bytes have no fault
pub no_fault : (bytes : List ℕ) (plant : Plant Code) (e : ImageFault) → IsImage plant → bytes ≡ image_bytes plant → IsFirstFaultOf bytes e → ⊥
no_fault bytes plant (fault.Bytes offset) is b f = let r = reads bytes plant is b in absurd cc
no_fault bytes plant fault.Net is b f = say_none bytes plant fault.Net is b f
no_fault bytes plant (fault.Code k) is b f = say_none bytes plant (fault.Code k) is b f
no_fault bytes plant (fault.Table k) is b f = say_none bytes plant (fault.Table k) is b f
no_fault bytes plant fault.Memory is b f = f

-- the fault that is told is the first, or memory ran out
pub told : (bytes : List ℕ) (e : ImageFault) → MayFault bytes e → (e ≡ fault.Memory) ⊎ IsFirstFaultOf bytes e
told bytes (fault.Bytes offset) f = inr f
told bytes fault.Net f = inr f
told bytes (fault.Code k) f = inr f
told bytes (fault.Table k) f = inr f
told bytes fault.Memory f = inl refl

-- an image's bytes are read as that image
pub only : (bytes : List ℕ) (plant : Plant Code) (r : Result (Plant Code) ImageFault) → IsImage plant → bytes ≡ image_bytes plant
    → IfOk r (IsDecoded bytes) → IfErr r (MayFault bytes) → (r ≡ Ok plant) ⊎ (r ≡ Err fault.Memory)
only bytes plant (Ok x) is b ok err = inl (ap Ok (one_image bytes x plant ok.is_image is (has_bytes bytes x ok) b))
only bytes plant (Err e) is b ok err = elim (told bytes e err) [
  | inl memory ↦ inr (ap Err memory)
  | inr first ↦ absurd (no_fault bytes plant e is b first)
]

-- a bad code isn't among the verified ones before another
one_number : (codes : List Code) (j k : ℕ) → IsFirstUnverified codes j → IsFirstUnverified codes k → j < k → ⊥
one_number codes j k one two low =
    let size : length (take k codes) ≡ k = length-take-le k codes (omega (arith, slice_get_within codes k two.code two.stands)) in
    let is : get_or (take k codes) j one.code ≡ one.code = get_or-take k codes j one.code low ∙ get_or_from_slice_get codes j one.code one.code one.stands in
    one.breaks (subst IsVerified is (two.before j one.code (omega (arith, size, low))))

same_code : (codes : List Code) (j k : ℕ) → IsFirstUnverified codes j → IsFirstUnverified codes k → j ≡ k
same_code codes j k one two = elim (cases_lt j k) [
  | inl low ↦ absurd (one_number codes j k one two low)
  | inr up ↦ elim (cases_lt k j) [
    | inl low ↦ absurd (one_number codes k j two one low)
    | inr down ↦ omega (arith, up, down)
  ]
]

rule_below : (net : Net) (g : JobGraph) (t : Tables) (a b : TableRule) → IsFirstFault net g t a → IsFirstFault net g t b → number_of a < number_of b → ⊥
rule_below net g t a b one two low = one.fails (two.before a low)

same_rule : (net : Net) (g : JobGraph) (t : Tables) (a b : TableRule) → IsFirstFault net g t a → IsFirstFault net g t b → number_of a ≡ number_of b
same_rule net g t a b one two = elim (cases_lt (number_of a) (number_of b)) [
  | inl low ↦ absurd (rule_below net g t a b one two low)
  | inr up ↦ elim (cases_lt (number_of b) (number_of a)) [
    | inl low ↦ absurd (rule_below net g t b a two one low)
    | inr down ↦ omega (arith, up, down)
  ]
]

same_table : (p : Parts) (j k : ℕ) → HasBadTable p j → HasBadTable p k → j ≡ k
same_table p j k h i =
    let same = same_graph p j k h i in
    let first : IsFirstFault (net_of p) i.graph (tables_of (net_of p) i.graph.cycle p) h.rule = subst (λ (g : JobGraph). IsFirstFault (net_of p) g (tables_of (net_of p) g.cycle p) h.rule) same h.first in
    h.number_is ∙ same_rule (net_of p) i.graph (tables_of (net_of p) i.graph.cycle p) h.rule i.rule first i.first ∙ sym i.number_is

one_refusal : (p : Parts) (e f : ImageFault) → Refuses p e → Refuses p f → e ≡ f
one_refusal p (fault.Bytes m) f a b = absurd a
one_refusal p fault.Memory f a b = absurd a
one_refusal p fault.Net (fault.Bytes m) a b = absurd b
one_refusal p fault.Net fault.Net a b = refl
one_refusal p fault.Net (fault.Code k) a b = absurd (a b.sound)
one_refusal p fault.Net (fault.Table k) a b = absurd (a b.sound)
one_refusal p fault.Net fault.Memory a b = absurd b
one_refusal p (fault.Code j) (fault.Bytes m) a b = absurd b
one_refusal p (fault.Code j) fault.Net a b = absurd (b a.sound)
one_refusal p (fault.Code j) (fault.Code k) a b = ap fault.Code (same_code (codes_of p) j k a.first b.first)
one_refusal p (fault.Code j) (fault.Table k) a b = absurd (no_bad_code (codes_of p) j b.codes a.first)
one_refusal p (fault.Code j) fault.Memory a b = absurd b
one_refusal p (fault.Table j) (fault.Bytes m) a b = absurd b
one_refusal p (fault.Table j) fault.Net a b = absurd (b a.sound)
one_refusal p (fault.Table j) (fault.Code k) a b = absurd (no_bad_code (codes_of p) k a.codes b.first)
one_refusal p (fault.Table j) (fault.Table k) a b = ap fault.Table (same_table p j k a b)
one_refusal p (fault.Table j) fault.Memory a b = absurd b

-- what a fault says of the bytes: an offset, or fields that are refused
pub data Said (bytes : List ℕ) (e : ImageFault) : Type 0 where
  at : (offset : ℕ) → e ≡ fault.Bytes offset → whole image bytes ≡ Err offset → Said bytes e
  refused : SayRefused bytes e → Said bytes e

said : (bytes : List ℕ) (e : ImageFault) → IsFirstFaultOf bytes e → Said bytes e
said bytes (fault.Bytes offset) f = at offset refl f
said bytes fault.Net f = refused f
said bytes (fault.Code k) f = refused f
said bytes (fault.Table k) f = refused f
said bytes fault.Memory f = absurd f

join : (bytes : List ℕ) (e f : ImageFault) → Said bytes e → Said bytes f → e ≡ f
join bytes e f (at m p a) (at n q b) = let same : m ≡ n = cc in p ∙ ap fault.Bytes same ∙ sym q
join bytes e f (at m p a) (refused b) = let r = b.1 in absurd cc
join bytes e f (refused a) (at n q b) = let r = a.1 in absurd cc
join bytes e f (refused a) (refused b) =
    let x = a.1 in
    let y = b.1 in
    let same : a.0 ≡ b.0 = cc in
    one_refusal b.0 e f (subst (λ (p : Parts). Refuses p e) same a.2) b.2

-- bytes have one first fault
pub one_fault : (bytes : List ℕ) (e f : ImageFault) → IsFirstFaultOf bytes e → IsFirstFaultOf bytes f → e ≡ f
one_fault bytes e f a b = join bytes e f (said bytes e a) (said bytes f b)

-- the first fault is answered
pub only_fault : (bytes : List ℕ) (e : ImageFault) (r : Result (Plant Code) ImageFault) → IsFirstFaultOf bytes e
    → IfOk r (IsDecoded bytes) → IfErr r (MayFault bytes) → (r ≡ Err e) ⊎ (r ≡ Err fault.Memory)
only_fault bytes e (Ok x) f ok err = absurd (no_fault bytes x e ok.is_image (has_bytes bytes x ok) f)
only_fault bytes e (Err x) f ok err = elim (told bytes x err) [
  | inl memory ↦ inr (ap Err memory)
  | inr first ↦ inl (ap Err (one_fault bytes x e first f))
]

-- what is decoded is an image with these bytes
pub has_image : (bytes : List ℕ) (r : Result (Plant Code) ImageFault) → IfOk r (IsDecoded bytes) → IfOk r (λ x. IsImage x × (bytes ≡ image_bytes x))
has_image bytes (Ok x) d = (d.is_image, has_bytes bytes x d)
has_image bytes (Err e) d = tt
