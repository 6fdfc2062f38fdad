use Rattle.std.specs.Prelude.{ℕ, [], IfOk}
use Rattle.std.proofs.Common.{sym, ◌∙◌, subst}
use Rattle.ae_store.specs.Shapes.{shapes}
use Rattle.ae_store.specs.Terms.{terms}
use Rattle.ae_store.proofs.PartLaws.{in_none}
use Rattle.ae_just.specs.declared.steps.Side.TheVariants as side
use Rattle.ae_state_steps.specs.ValueSteps.{StatesEqual}
use Rattle.ae_value_fitting.specs.Sources.{by_leaf}
use Rattle.ae_equal_steps.proofs.Adding.{leaf_there, leaf_stated, equal_added, rests_on, front_added, says_rests}
use Rattle.ae_equal_steps.proofs.leaves.leaf_step.Goals as goal

pub returns-then-leaf-name-clause-states : goal.returns-then-leaf-name-clause-states
returns-then-leaf-name-clause-states c =
    subst (λ (m : ℕ). IfOk c.state_itself.result (λ id. StatesEqual c.state_itself.new.justs id c.args.name m)) (sym c.if-leaf-name.true ∙ c.leaf-leaf.ensures)
    (equal_added c.args.justs.now c.state_itself.new.justs c.args.name c.args.name [] c.state_itself.result c.state_itself.ensures.added)

pub returns-then-leaf-name-clause-rests : goal.returns-then-leaf-name-clause-rests
returns-then-leaf-name-clause-rests c =
    let old = c.args.justs.now in
    rests_on old c.state_itself.new.justs (side.Name c.args.name) (side.Name c.args.name) [] c.args.store.now.signature (terms (shapes c.args.store.now.nodes)) old c.args.values.now c.state_itself.result c.state_itself.ensures.added c.state_itself.ensures.fits
    (λ p m. absurd (in_none p m))

pub returns-then-leaf-name-clause-front : goal.returns-then-leaf-name-clause-front
returns-then-leaf-name-clause-front c =
    front_added c.args.justs.now c.state_itself.new.justs (side.Name c.args.name) (side.Name c.args.name) [] c.state_itself.result c.state_itself.ensures.added c.state_itself.ensures.err

-- ---- where it was given a leaf
pub said_by-requires : goal.said_by-requires
said_by-requires c = let w = c.requires.said.leaves c.args.name c.leaf-leaf.result (leaf_there c.args.values.now c.args.name c.leaf-leaf.result c.leaf-leaf.ensures c.if-leaf-name.false) in (w.step, w.just)

pub returns-clause-states : goal.returns-clause-states
returns-clause-states c =
    subst (StatesEqual c.args.justs.now c.said_by.result c.args.name) c.leaf-leaf.ensures
    (leaf_stated c.args.store.now.signature (terms (shapes c.args.store.now.nodes)) c.args.justs.now c.args.values.now c.requires.said c.args.name c.leaf-leaf.result c.said_by.result
    (leaf_there c.args.values.now c.args.name c.leaf-leaf.result c.leaf-leaf.ensures c.if-leaf-name.false) c.said_by.ensures)

pub returns-clause-rests : goal.returns-clause-rests
returns-clause-rests c =
    says_rests c.args.store.now.signature (terms (shapes c.args.store.now.nodes)) c.args.justs.now c.args.values.now c.requires.fits c.requires.said c.said_by.result
    (record { name = c.args.name; put = by_leaf c.leaf-leaf.result (leaf_there c.args.values.now c.args.name c.leaf-leaf.result c.leaf-leaf.ensures c.if-leaf-name.false); just = c.said_by.ensures })
