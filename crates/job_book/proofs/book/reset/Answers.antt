use Rattle.std.proofs.Common.{◌+◌, ◌<◌, length, inl, inr, refl, ap, ◌∙◌, arith}
use Rattle.std.proofs.lemmas.Bool.{cases_lt}
use Rattle.std.proofs.lemmas.List.{length-set, get_or-set_other}
use Rattle.std.proofs.lemmas.Grind.{get_or-set_at}
use Rattle.job_book.specs.declared.book.Entry.{Entry}
use Rattle.job_book.specs.declared.book.Stage.TheVariants as stage
use Rattle.job_book.specs.Entries.{known_of}
use Rattle.job_book.proofs.Jobs.{room_kept}
use Rattle.job_book.proofs.book.reset.Goals as goal

pub loop-i-preserved : goal.loop-i-preserved
loop-i-preserved c =
    let xs = c.loop-i.entries.items in
    let i = c.loop-i.i in
    let old = c.index_mut.result.now in
    let new : Entry = record { stage = stage.Waiting; outs = old.outs } in
    let within : i < length xs = omega arith in
    record {
      count = simp length-set c.loop-i.invariant.count;
      rooms = room_kept xs i old new c.index_mut.ensures.value refl ∙ c.loop-i.invariant.rooms;
      waiting = λ k d lt. elim (cases_lt k i) [
        | inl low ↦ ap known_of (get_or-set_other xs i k new d (λ e. absurd (omega (arith, low, e)))) ∙ c.loop-i.invariant.waiting k d low
        | inr high ↦ ap known_of (get_or-set_at xs i k new d (omega arith) within)
      ];
    }
