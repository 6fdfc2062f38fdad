use Rattle.std.proofs.Common.{refl}
use Rattle.ae_just.specs.declared.steps.Rule.TheVariants as rule
use Rattle.ae_just.specs.declared.steps.Side.TheVariants as side
use Rattle.ae_store.specs.Shapes.{shapes}
use Rattle.ae_store.specs.Terms.{terms}
use Rattle.ae_strips.proofs.Freedom.{added_by}
use Rattle.ae_congruent_steps.proofs.Congruence.{congruent_step}
use Rattle.ae_congruent_steps.proofs.congruent.state_congruent.Goals as goal

pub add-requires-clause-allowed : goal.add-requires-clause-allowed
add-requires-clause-allowed c =
    congruent_step c.args.store.now.signature (terms (shapes c.args.store.now.nodes)) c.args.justs.now c.requires.fits c.args.left c.args.right c.args.steps c.requires.congruent c.requires.sorted

pub returns-clause-added : goal.returns-clause-added
returns-clause-added c =
    added_by c.add.result c.args.justs.now c.add.new.self (record { left = side.Name c.args.left; right = side.Name c.args.right; rule = rule.Cong c.args.steps }) c.args.steps c.add.ensures.ok c.add.ensures.number refl refl

pub add-requires-clause-built : goal.add-requires-clause-built
add-requires-clause-built c = (tt, tt)

pub add-requires-clause-factors : goal.add-requires-clause-factors
add-requires-clause-factors c = tt
