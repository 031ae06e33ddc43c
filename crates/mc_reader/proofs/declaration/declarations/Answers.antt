use Rattle.std.proofs.Common.{drop, arith, ap, ◌∙◌, sym}
use Rattle.mc_reader.specs.Readers.{decl}
use Rattle.mc_reader.specs.Places.{decls}
use Rattle.mc_reader.specs.Reading.{Good}
use Rattle.mc_reader.specs.Answers.{itself, after}
use Rattle.mc_reader.proofs.DeclarationLoop.{fault, decl_more, decl_bad, decl_end, decl_later}
use Rattle.mc_reader.proofs.declaration.declarations.Goals as goal

pub returns-in-Err : goal.returns-in-Err
returns-in-Err c =
    let w = c.in-Some.ensures in
    fault (decl c.args.bytes.now c.in-Some.role) (decls c.args.bytes.now c.args.place) itself itself c.args.tokens.now c.takes_role.new.cursor.at c.args.cursor.now.at c.declaration.new.cursor.at c.declaration.new.cursor.at c.in-Err.fault
    (λ rest h. c.loop-role.invariant.reads ∙ ap (λ l. after c.loop-role.items (decls c.args.bytes.now c.args.place l)) w.1 ∙ decl_bad c.args.bytes.now c.args.place c.loop-role.items w.0 c.in-Some.role (drop c.takes_role.new.cursor.at c.args.tokens.now) rest w.2 h) c.in-Err.ensures

pub loop-role-smaller : goal.loop-role-smaller
loop-role-smaller c =
    let w = c.in-Some.ensures in
    omega (arith, decl_later c.args.bytes.now c.in-Some.role c.args.tokens.now c.takes_role.new.cursor.at c.declaration.new.cursor.at c.in-Ok.decl w.3 c.in-Ok.ensures.1 c.in-Ok.ensures.0, w.3, w.4, c.in-Ok.ensures.1)

pub loop-role-preserved : goal.loop-role-preserved
loop-role-preserved c =
    let w = c.in-Some.ensures in
    record {
      within = c.in-Ok.ensures.1;
      reads = c.loop-role.invariant.reads ∙ ap (λ l. after c.loop-role.items (decls c.args.bytes.now c.args.place l)) w.1
          ∙ decl_more c.args.bytes.now c.args.place c.loop-role.items w.0 c.in-Some.role (drop c.takes_role.new.cursor.at c.args.tokens.now) c.in-Ok.decl (drop c.declaration.new.cursor.at c.args.tokens.now) w.2 c.in-Ok.ensures.0
          ∙ ap (λ xs. after xs (decls c.args.bytes.now c.args.place (drop c.declaration.new.cursor.at c.args.tokens.now))) (sym c.in_ok-keep-in-Ok.ensures);
    }

pub returns : goal.returns
returns c =
    let w = c.in_default.ensures in
    (c.loop-role.invariant.reads ∙ decl_end c.args.bytes.now c.args.place c.loop-role.items (drop c.loop-role.cursor.at c.args.tokens.now) w.0 ∙ ap (λ n. Good c.loop-role.items (drop n c.args.tokens.now)) (sym w.1), omega (arith, w.1, c.loop-role.invariant.within))
