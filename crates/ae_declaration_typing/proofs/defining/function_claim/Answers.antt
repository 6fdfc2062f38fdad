use Rattle.std.proofs.Common.{◌≡◌, ◌∙◌, ◌++◌, ◌∷◌, [], map, ap}
use Rattle.ae_declaration_typing.specs.Definitions.{applied, function_axiom}
use Rattle.ae_declaration_typing.specs.Inner.Additions.{AddsTree}
use Rattle.ae_elab.specs.Environments.{entries}
use Rattle.ae_elab.specs.Nodes.{a_claim, tree_at}
use Rattle.ae_elab.specs.Trees as tree
use Rattle.ae_elab.specs.Typings.{bound_in}
use Rattle.ae_declaration_typing.proofs.AdditionLaws.{adds_one, application_of, claim_on}
use Rattle.ae_elab.proofs.NodeLaws.{later_tree, tree_is}
use Rattle.ae_declaration_typing.proofs.defining.function_claim.Goals as goal

pub returns : goal.returns
returns c text t a =
    let old = c.args.environment.now in
    let one = c.application.new.environment in
    let two = c.push.new.self in
    let new = c.for_all.new.environment in
    let i = c.in_ok-head.head in
    let j = c.in_ok-equation.equation in
    let v = c.args.value in
    let bs = map (bound_in text) c.args.bounds.now in
    let head : AddsTree old one (applied c.args.symbol c.args.vars bs) i = application_of text old one c.args.bounds.now i c.args.symbol c.args.vars c.in_ok-head.ensures in
    let u = applied c.args.symbol c.args.vars bs in
    let later = later_tree (entries old) (entries one) head.adds.kept v t a in
    let nodes : entries two ≡ entries one ++ a_claim (tree.relation tree.equal u t) ∷ [] =
    c.in_ok-equation.ensures.nodes ∙ ap (λ z. entries one ++ a_claim (tree.relation tree.equal z (tree_at (entries one) v)) ∷ []) (tree_is (entries one) i u head.stands)
    ∙ ap (λ z. entries one ++ a_claim (tree.relation tree.equal u z) ∷ []) (tree_is (entries one) v t later) in
    let last = adds_one one two (a_claim (tree.relation tree.equal u t)) j c.in_ok-equation.ensures.place nodes c.push.ensures.locals in
    claim_on old one two new i j c.in_ok-whole.whole (function_axiom bs c.args.place c.args.symbol c.args.vars t) head.adds (tree.relation tree.equal u t) c.in_ok-equation.ensures.place nodes c.push.ensures.locals
    (λ stands. c.in_ok-whole.ensures text u (tree.relation tree.equal u t) (later_tree (entries one) (entries two) last.kept i u head.stands) stands)
