use Rattle.std.specs.Prelude.{[], ◌∷◌}
use Rattle.std.proofs.Common.{refl}
use Rattle.ae_just.specs.declared.steps.Rule.TheVariants as rule
use Rattle.ae_just.specs.declared.steps.Side.TheVariants as side
use Rattle.ae_just.specs.declared.steps.Step.{Step}
use Rattle.ae_multiset_steps.proofs.Fronts.{front_of, names_added}
use Rattle.ae_multiset_steps.proofs.Resting.{rests_added}
use Rattle.ae_store.specs.Shapes.{shapes}
use Rattle.ae_store.specs.Terms.{terms}
use Rattle.ae_store.proofs.EnterLaws.{front_then}
use Rattle.ae_orienting.proofs.NameSteps.{names_allowed, names_equal, names_rest}
use Rattle.ae_orienting.proofs.naming.state_names.Goals as goal

pub add-requires-clause-allowed : goal.add-requires-clause-allowed
add-requires-clause-allowed c =
    names_allowed c.args.store.now.signature (terms (shapes c.args.store.now.nodes)) c.turned.new.justs c.turned.ensures.fits c.args.symbol.now c.args.left c.args.right c.in_ok-back.back c.in_ok-back.ensures.states

pub returns-clause-states : goal.returns-clause-states
returns-clause-states c =
    names_equal c.add.new.self c.args.left c.args.right c.add.result (names_added c.turned.new.justs c.add.new.self c.args.left c.args.right (rule.Sym c.in_ok-back.back) c.add.result c.add.ensures.ok c.add.ensures.number)

pub returns-clause-rests : goal.returns-clause-rests
returns-clause-rests c =
    let s : Step = record { left = side.Name c.args.left; right = side.Name c.args.right; rule = rule.Sym c.in_ok-back.back } in
    names_rest c.args.justs.now c.turned.new.justs c.add.new.self c.in_ok-back.back (c.args.step ∷ []) c.add.result c.in_ok-back.ensures.rests
    (rests_added c.args.store.now.signature (terms (shapes c.args.store.now.nodes)) c.turned.new.justs c.add.new.self s c.add.result c.add.ensures.ok c.add.ensures.number c.add.ensures.fits refl)

pub returns-clause-kept : goal.returns-clause-kept
returns-clause-kept c =
    let s : Step = record { left = side.Name c.args.left; right = side.Name c.args.right; rule = rule.Sym c.in_ok-back.back } in
    front_then c.args.justs.now c.turned.new.justs c.add.new.self c.turned.ensures.kept (front_of c.turned.new.justs c.add.new.self s c.add.result c.add.ensures.ok c.add.ensures.err)

pub add-requires-clause-built : goal.add-requires-clause-built
add-requires-clause-built c = (tt, tt)

pub add-requires-clause-factors : goal.add-requires-clause-factors
add-requires-clause-factors c = tt
