use Rattle.std.proofs.Common.{◌≡◌, ◌<◌, ◌∙◌, ap, length, get_or, set, map, ℕ, List, ℤ, Option, arith}
use Rattle.std.specs.Prelude.{option_copied}
use Rattle.std.proofs.lemmas.List.{map-set, length-map}
use Rattle.net_run.specs.Words.{with_words}
use Rattle.cluster_model.specs.Frame.{message_in}
use Rattle.replica_parts.specs.Entries.{entry_words, entry_width}
use Rattle.replica_parts.specs.Inbox.{Taken}
use Rattle.replica_parts.proofs.Entries.{width_kept, width_at}
use Rattle.replica_parts.proofs.inbox.Inbox.take.Goals as goal

pub returns-clause-widths : goal.returns-clause-widths
returns-clause-widths c =
    width_kept c.self.inside.entries.items c.args.place c.index_mut.result.now c.fill.new.entry c.index_mut.ensures.value c.fill.ensures.width
    ∙ ap (λ (t : Taken). t.widths) c.self.view_is

pub returns-clause-words : goal.returns-clause-words
returns-clause-words c =
    let xs = c.self.inside.entries.items in
    let within : c.args.place < length xs = omega (arith, length-map xs entry_words, ap (λ (t : Taken). length t.words) c.self.view_is, c.requires.place) in
    let width : entry_width c.index_mut.result.now ≡ get_or c.args.self.now.widths c.args.place 0 =
    width_at xs c.args.place c.index_mut.result.now within c.index_mut.ensures.value ∙ ap (λ (t : Taken). get_or t.widths c.args.place 0) c.self.view_is in
    map-set entry_words xs c.args.place c.fill.new.entry
    ∙ ap (set (map entry_words xs) c.args.place) (c.fill.ensures.words ∙ ap (λ (w : ℕ). with_words (option_copied c.args.frame) (λ words. message_in c.args.offset w words)) width)
    ∙ ap (λ (t : Taken). set t.words c.args.place (with_words (option_copied c.args.frame) (λ words. message_in c.args.offset (get_or c.args.self.now.widths c.args.place 0) words))) c.self.view_is
