use Rattle.ae_store.specs.Shapes.{shapes}
use Rattle.ae_store.specs.Terms.{terms}
use Rattle.ae_store.proofs.EnterLaws.{front_same}
use Rattle.ae_just.specs.declared.steps.Step.{Step}
use Rattle.ae_multiset_steps.proofs.Allowances.{sides_allowed, sides_of_names}
use Rattle.ae_multiset_steps.proofs.Fronts.{front_of, many_added}
use Rattle.ae_multiset_steps.proofs.Resting.{rests_added}
use Rattle.ae_multiset_steps.proofs.adding.add_many.Goals as goal

pub add-requires-clause-allowed : goal.add-requires-clause-allowed
add-requires-clause-allowed c =
    sides_allowed c.args.store.now.signature (terms (shapes c.args.store.now.nodes)) c.args.justs.now c.args.symbol.now c.args.left.now c.args.right.now c.args.rule c.in_ok-sides.sides.left c.in_ok-sides.sides.right
    c.in_ok-sides.ensures.left c.in_ok-sides.ensures.right c.requires.allowed

pub add-requires-clause-built : goal.add-requires-clause-built
add-requires-clause-built c =
    sides_of_names c.args.store.now.signature (terms (shapes c.args.store.now.nodes)) c.args.symbol.now c.args.left.now c.args.right.now c.args.rule c.in_ok-sides.sides.left c.in_ok-sides.sides.right c.in_ok-sides.ensures.left c.in_ok-sides.ensures.right
    c.requires.built

pub returns-in_err-sides-clause-kept : goal.returns-in_err-sides-clause-kept
returns-in_err-sides-clause-kept c = front_same c.args.justs.now

pub returns-clause-states : goal.returns-clause-states
returns-clause-states c =
    many_added c.args.justs.now c.add.new.self c.args.symbol.now c.args.left.now c.args.right.now c.args.rule c.in_ok-sides.sides.left c.in_ok-sides.sides.right c.in_ok-sides.ensures.left c.in_ok-sides.ensures.right
    c.add.result c.add.ensures.ok c.add.ensures.number

pub returns-clause-rests : goal.returns-clause-rests
returns-clause-rests c =
    let s : Step = record { left = c.in_ok-sides.sides.left; right = c.in_ok-sides.sides.right; rule = c.args.rule } in
    rests_added c.args.store.now.signature (terms (shapes c.args.store.now.nodes)) c.args.justs.now c.add.new.self s c.add.result c.add.ensures.ok c.add.ensures.number c.add.ensures.fits c.requires.assumes

pub returns-clause-kept : goal.returns-clause-kept
returns-clause-kept c =
    let s : Step = record { left = c.in_ok-sides.sides.left; right = c.in_ok-sides.sides.right; rule = c.args.rule } in
    front_of c.args.justs.now c.add.new.self s c.add.result c.add.ensures.ok c.add.ensures.err

pub add-requires-clause-factors : goal.add-requires-clause-factors
add-requires-clause-factors c = c.requires.factors
