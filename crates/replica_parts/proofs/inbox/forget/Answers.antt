use Rattle.std.proofs.Common.{◌+◌, ◌<◌, length, inl, inr, false, refl, ap, sym, ◌∙◌, arith}
use Rattle.std.proofs.lemmas.Bool.{cases_lt}
use Rattle.std.proofs.lemmas.List.{length-set, get_or-set_other}
use Rattle.std.proofs.lemmas.Grind.{get_or-set_at}
use Rattle.replica_parts.specs.declared.inbox.Entry.{Entry}
use Rattle.replica_parts.specs.Entries.{entry_words}
use Rattle.replica_parts.proofs.Entries.{width_kept}
use Rattle.replica_parts.proofs.inbox.forget.Goals as goal

pub loop-i-preserved : goal.loop-i-preserved
loop-i-preserved c =
    let xs = c.loop-i.entries.items in
    let i = c.loop-i.i in
    let old = c.index_mut.result.now in
    let new : Entry = record { is_there = false; words = old.words } in
    let within : i < length xs = omega arith in
    record {
      count = simp length-set c.loop-i.invariant.count;
      widths = width_kept xs i old new c.index_mut.ensures.value refl ∙ c.loop-i.invariant.widths;
      empty = λ k d lt. elim (cases_lt k i) [
        | inl low ↦ ap entry_words (get_or-set_other xs i k new d (λ e. absurd (omega (arith, low, e)))) ∙ c.loop-i.invariant.empty k d low
        | inr high ↦ ap entry_words (get_or-set_at xs i k new d (omega arith) within)
      ];
    }
