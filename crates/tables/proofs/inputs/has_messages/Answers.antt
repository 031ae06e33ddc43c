use Rattle.std.proofs.Common.{◌≡◌, ◌∙◌, length, Some, None, List, ap}
use Rattle.graph.proofs.Answering.{no}
use Rattle.tables.specs.declared.table.Message.{Message}
use Rattle.tables.specs.Keys.{strip}
use Rattle.tables.specs.Rules.{keys_of, keys_of_edges}
use Rattle.tables.proofs.Stripping.{all_there, one_lacks}
use Rattle.tables.proofs.inputs.has_messages.Goals as goal

pub returns-in-Some : goal.returns-in-Some
returns-in-Some c =
    let e : Some (keys_of c.in-Some.rest.now) ≡ strip (keys_of_edges c.args.net.now c.args.graph.now c.args.tables.now 0 (length c.args.net.now.edges)) (keys_of c.args.tables.now.messages) = c.in-Some.ensures {u = tt} ∙ ap (λ (ms : List Message). strip (keys_of_edges c.args.net.now c.args.graph.now c.args.tables.now 0 (length c.args.net.now.edges)) (keys_of ms)) c.as_slice.ensures in
    let there = all_there (keys_of_edges c.args.net.now c.args.graph.now c.args.tables.now 0 (length c.args.net.now.edges)) c.args.tables.now.messages c.in-Some.rest.now e in
    (λ yes. there.0 (c.are_none.ensures.0 yes), λ same. c.are_none.ensures.1 (there.1 same))

pub returns-in-None : goal.returns-in-None
returns-in-None c = no _ (λ same.
    let e : None ≡ strip (keys_of_edges c.args.net.now c.args.graph.now c.args.tables.now 0 (length c.args.net.now.edges)) (keys_of c.args.tables.now.messages) = c.in-None.ensures {u = tt} ∙ ap (λ (ms : List Message). strip (keys_of_edges c.args.net.now c.args.graph.now c.args.tables.now 0 (length c.args.net.now.edges)) (keys_of ms)) c.as_slice.ensures in
    one_lacks (keys_of_edges c.args.net.now c.args.graph.now c.args.tables.now 0 (length c.args.net.now.edges)) c.args.tables.now.messages e same)
