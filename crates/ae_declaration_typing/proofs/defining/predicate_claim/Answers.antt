use Rattle.std.proofs.Common.{◌≡◌, ◌∙◌, ◌++◌, ◌∷◌, [], map, ap}
use Rattle.ae_declaration_typing.specs.Definitions.{applied, predicate_axiom}
use Rattle.ae_declaration_typing.specs.Inner.Additions.{AddsTree, AddsClaim}
use Rattle.ae_elab.specs.Declarations.{formal_args, rigids}
use Rattle.ae_elab.specs.Environments.{entries}
use Rattle.ae_elab.specs.Nodes.{a_claim, claim_at}
use Rattle.ae_elab.specs.Trees as tree
use Rattle.ae_elab.specs.Typings.{bound_in}
use Rattle.ae_declaration_typing.proofs.AdditionLaws.{adds_on, adds_one, application_of, atom_of, claim_on}
use Rattle.ae_elab.proofs.NodeLaws.{later_claim, later_tree, claim_is}
use Rattle.ae_declaration_typing.proofs.defining.predicate_claim.Goals as goal

pub returns : goal.returns
returns c text f a =
    let old = c.args.environment.now in
    let one = c.application.new.environment in
    let two = c.atom.new.environment in
    let three = c.push.new.self in
    let new = c.for_all.new.environment in
    let i = c.in_ok-head.head in
    let l = c.in_ok-left.left in
    let j = c.in_ok-equivalence.equivalence in
    let v = c.args.body in
    let bs = map (bound_in text) c.args.bounds.now in
    let u = applied c.args.symbol c.args.vars bs in
    let p = tree.predicate c.args.symbol (rigids 0 c.args.vars) (formal_args bs) in
    let head : AddsTree old one u i = application_of text old one c.args.bounds.now i c.args.symbol c.args.vars c.in_ok-head.ensures in
    let left : AddsClaim one two p l = atom_of text one two c.args.bounds.now l c.args.symbol c.args.vars c.in_ok-left.ensures in
    let both = adds_on old one two head.adds left.adds in
    let later = later_claim (entries old) (entries two) both.kept v f a in
    let nodes : entries three ≡ entries two ++ a_claim (tree.equivalence p f) ∷ [] =
    c.in_ok-equivalence.ensures.nodes ∙ ap (λ z. entries two ++ a_claim (tree.equivalence z (claim_at (entries two) v)) ∷ []) (claim_is (entries two) l p left.stands)
    ∙ ap (λ z. entries two ++ a_claim (tree.equivalence p z) ∷ []) (claim_is (entries two) v f later) in
    let last = adds_on one two three left.adds (adds_one two three (a_claim (tree.equivalence p f)) j c.in_ok-equivalence.ensures.place nodes c.push.ensures.locals) in
    claim_on old two three new i j c.in_ok-whole.whole (predicate_axiom bs c.args.place c.args.symbol c.args.vars f) both (tree.equivalence p f) c.in_ok-equivalence.ensures.place nodes c.push.ensures.locals
    (λ stands. c.in_ok-whole.ensures text u (tree.equivalence p f) (later_tree (entries one) (entries three) last.kept i u head.stands) stands)
