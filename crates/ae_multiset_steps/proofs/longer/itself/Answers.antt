use Rattle.std.proofs.Common.{refl}
use Rattle.ae_store.specs.Shapes.{shapes}
use Rattle.ae_store.specs.Terms.{terms}
use Rattle.ae_just.specs.declared.steps.Side.TheVariants as side
use Rattle.ae_just.specs.declared.steps.Rule.TheVariants as rule
use Rattle.ae_just.specs.declared.steps.Step.{Step}
use Rattle.ae_multiset_steps.proofs.Allowances.{itself_step}
use Rattle.ae_multiset_steps.proofs.Fronts.{front_of, names_added}
use Rattle.ae_multiset_steps.proofs.Resting.{rests_added}
use Rattle.ae_multiset_steps.proofs.longer.itself.Goals as goal

pub add-requires-clause-allowed : goal.add-requires-clause-allowed
add-requires-clause-allowed c = itself_step c.args.store.now.signature (terms (shapes c.args.store.now.nodes)) c.args.justs.now c.args.name c.requires.sorted

pub returns-clause-states : goal.returns-clause-states
returns-clause-states c = names_added c.args.justs.now c.add.new.self c.args.name c.args.name rule.Refl c.add.result c.add.ensures.ok c.add.ensures.number

pub returns-clause-rests : goal.returns-clause-rests
returns-clause-rests c =
    let s : Step = record { left = side.Name c.args.name; right = side.Name c.args.name; rule = rule.Refl } in
    rests_added c.args.store.now.signature (terms (shapes c.args.store.now.nodes)) c.args.justs.now c.add.new.self s c.add.result c.add.ensures.ok c.add.ensures.number c.add.ensures.fits refl

pub returns-clause-kept : goal.returns-clause-kept
returns-clause-kept c =
    let s : Step = record { left = side.Name c.args.name; right = side.Name c.args.name; rule = rule.Refl } in
    front_of c.args.justs.now c.add.new.self s c.add.result c.add.ensures.ok c.add.ensures.err

pub add-requires-clause-built : goal.add-requires-clause-built
add-requires-clause-built c = (tt, tt)

pub add-requires-clause-factors : goal.add-requires-clause-factors
add-requires-clause-factors c = tt
