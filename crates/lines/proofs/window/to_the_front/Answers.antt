use Rattle.std.proofs.Common.{◌≡◌, ◌-◌, length, take, rules}
use Rattle.lines.proofs.Room.{moved}
use Rattle.lines.proofs.window.to_the_front.Goals as goal

pub returns-clause-same : goal.returns-clause-same
returns-clause-same c =
    let split = c.split_at_mut-front in
    let count = c.args.end - c.args.start in
    let all = split.ensures.back_len in
    let same = c.copy_from_slice.ensures in
    let long : length c.copy_from_slice.new.self ≡ count = search rules in
    let copied : c.copy_from_slice.new.self ≡ take count split.result.1.now = search rules in
    moved c.args.start c.args.end c.args.bytes.now split.result.0.now split.result.1.now c.copy_from_slice.new.self _ c.requires.order c.requires.within split.ensures.value split.ensures.front_len long copied
