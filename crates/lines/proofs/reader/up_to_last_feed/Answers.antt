use Rattle.std.proofs.Common.{drop, subst, List, ℕ, Some, None}
use Rattle.std.proofs.lemmas.List.{take_rest}
use Rattle.memchr.specs.Find.{IsLastByte, is_byte}
use Rattle.lines.proofs.Feeds.{last_says}
use Rattle.lines.proofs.reader.up_to_last_feed.Goals as goal

pub returns-in-Some : goal.returns-in-Some
returns-in-Some c =
    let kept = c.args.kept.now in
    let says = subst (λ (t : List ℕ). IsLastByte (is_byte 10) t c.memrchr.result) (take_rest kept c.args.searched) c.memrchr.ensures in
    last_says c.args.searched kept (Some c.in-Some.place) c.requires.within c.requires.none (subst (IsLastByte (is_byte 10) (drop c.args.searched kept)) c.in-Some.is says)

pub returns-in-None : goal.returns-in-None
returns-in-None c =
    let kept = c.args.kept.now in
    let says = subst (λ (t : List ℕ). IsLastByte (is_byte 10) t c.memrchr.result) (take_rest kept c.args.searched) c.memrchr.ensures in
    last_says c.args.searched kept None c.requires.within c.requires.none (subst (IsLastByte (is_byte 10) (drop c.args.searched kept)) c.in-None.is says)
