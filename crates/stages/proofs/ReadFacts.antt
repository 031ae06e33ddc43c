-- What a read, a write and a put of the outside mean as stages.
use Rattle.std.proofs.Common.{◌≡◌, ◌⊎◌, inl, inr, ℕ, ◌≤◌, List, length, Option, Some, None, Ok, Err, refl, sym, subst}
use Rattle.mars_base.specs.Causes.{Rose}
use Rattle.mars_base.specs.declared.file.File.{File}
use Rattle.mars_base.specs.declared.outside.ShelfFault.{ShelfFault}
use Rattle.mars_base.specs.declared.outside.ShelfFault.TheVariants as fault
use Rattle.mars_base.specs.Outside.{Reads}
use Rattle.refusals.specs.declared.refusal.Refusal.{Refusal}
use Rattle.refusals.specs.declared.refusal.Refusal.TheVariants as refusal
use Rattle.stages.specs.Files.{FileIs, Whole, Missing, Long, reading}
use Rattle.stages.specs.Helpers.{refused_read}
use Rattle.stages.specs.Stage.{Does}
use Rattle.stages.specs.World.{Held}
use Rattle.refusals.specs.Causes.{Counts, Later, Caused}

-- a file that was read
pub file_is : {V : Type 0} (bytes_of : V → List ℕ) (held : Option (List File)) (name : List ℕ) (limit : ℕ) (value : V) (b n : ℕ) → Reads bytes_of held name limit (Ok value) b n → FileIs held name (bytes_of value)
file_is bytes_of None name limit value b n reads = tt
file_is bytes_of (Some files) name limit value b n reads = reads

pub read_whole : (held : Held) (c d : Counts) (name : List ℕ) (limit : ℕ) (bytes : List ℕ) → Later c d → FileIs held.files name bytes → length bytes ≤ limit → Does (reading name limit) held held c d (Ok bytes)
read_whole held c d name limit bytes later is short = record { later = later; how = inl (refl, Whole bytes refl is short) }

-- a read that was refused
abbrev pub Refuses : Held → Counts → Counts → List ℕ → ℕ → Refusal → Type 0
Refuses held c d name limit e = (reading name limit).meant held held (Err e) ⊎ ((reading name limit).cut held held e × Caused c d e)

pub by_fault : {V : Type 0} (bytes_of : V → List ℕ) (files : Option (List File)) (left out : Option (List ℕ)) (c d : Counts) (name : List ℕ) (limit : ℕ) (f : ShelfFault)
    → Reads bytes_of files name limit (Err f) c.reads d.reads → (f ≡ fault.Failed → Rose c.reads d.reads) → Refuses (record { files = files; left = left; out = out }) c d name limit (refused_read name f)
by_fault bytes_of None left out c d name limit fault.Failed reads rose = inr ((refl, inr (inl refl)), rose refl)
by_fault bytes_of None left out c d name limit fault.Missing reads rose = inr ((refl, inr (inl refl)), reads.0 refl)
by_fault bytes_of None left out c d name limit fault.TooLong reads rose = inr ((refl, inr (inr (refl, refl))), reads.1 refl)
by_fault bytes_of None left out c d name limit fault.Memory reads rose = inr ((refl, inl refl), tt)
by_fault bytes_of (Some files) left out c d name limit fault.Failed reads rose = inr ((refl, inr (inl refl)), rose refl)
by_fault bytes_of (Some files) left out c d name limit fault.Missing reads rose = inl (refl, Missing refl (reads.0 refl).0)
by_fault bytes_of (Some files) left out c d name limit fault.TooLong reads rose = inl (refl, Long refl (reads.1 refl))
by_fault bytes_of (Some files) left out c d name limit fault.Memory reads rose = inr ((refl, inl refl), tt)

does_refuse : (held : Held) (c d : Counts) (name : List ℕ) (limit : ℕ) (e : Refusal) → Later c d → Refuses held c d name limit e → Does (reading name limit) held held c d (Err e)
does_refuse held c d name limit e later (inl meant) = record { later = later; how = inl meant }
does_refuse held c d name limit e later (inr cut) = record { later = later; how = inr (e, refl, cut.0, cut.1) }

pub read_refused : {V : Type 0} (bytes_of : V → List ℕ) (files : Option (List File)) (left out : Option (List ℕ)) (c d : Counts) (name : List ℕ) (limit : ℕ) (f : ShelfFault) (e : Refusal)
    → Later c d → Reads bytes_of files name limit (Err f) c.reads d.reads → (f ≡ fault.Failed → Rose c.reads d.reads) → (e ≡ refusal.Memory) ⊎ (e ≡ refused_read name f)
    → Does (reading name limit) (record { files = files; left = left; out = out }) (record { files = files; left = left; out = out }) c d (Err e)
read_refused bytes_of files left out c d name limit f e later reads rose (inl memory) =
    let held : Held = record { files = files; left = left; out = out } in
    does_refuse held c d name limit e later (inr ((refl, inl memory), subst (Caused c d) (sym memory) tt))
read_refused bytes_of files left out c d name limit f e later reads rose (inr is) =
    let held : Held = record { files = files; left = left; out = out } in
    does_refuse held c d name limit e later (subst (Refuses held c d name limit) (sym is) (by_fault bytes_of files left out c d name limit f reads rose))
