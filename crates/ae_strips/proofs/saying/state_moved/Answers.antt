use Rattle.std.specs.Prelude.{ℕ, List, [], ◌∷◌}
use Rattle.std.proofs.Common.{sym, subst, refl}
use Rattle.ae_store.specs.Shapes.{shapes}
use Rattle.ae_store.specs.Terms.{terms}
use Rattle.ae_just.specs.declared.steps.Side.TheVariants as side
use Rattle.ae_just.specs.declared.steps.Rule.TheVariants as rule
use Rattle.ae_just.specs.Steps.{IsAllowedStep}
use Rattle.ae_strips.proofs.FieldSteps.{moved_step}
use Rattle.ae_strips.proofs.Freedom.{added_by}
use Rattle.ae_strips.proofs.saying.state_moved.Goals as goal

pub add-requires-clause-allowed : goal.add-requires-clause-allowed
add-requires-clause-allowed c =
    let s = c.args.store.now in
    subst (λ (ks : List ℕ). IsAllowedStep s.signature (terms (shapes s.nodes)) c.args.justs.now (record { left = side.Name c.args.left; right = side.Name c.args.right; rule = rule.Cong ks })) (sym c.in_ok-steps.ensures)
    (moved_step s.signature s.nodes c.len-len.ensures.store c.args.justs.now c.args.left c.args.right c.args.step c.requires.moved)

pub returns-clause-added : goal.returns-clause-added
returns-clause-added c =
    added_by c.add.result c.args.justs.now c.add.new.self (record { left = side.Name c.args.left; right = side.Name c.args.right; rule = rule.Cong c.in_ok-steps.steps }) (c.args.step ∷ []) c.add.ensures.ok c.add.ensures.number refl c.in_ok-steps.ensures

pub add-requires-clause-built : goal.add-requires-clause-built
add-requires-clause-built c = (tt, tt)

pub add-requires-clause-factors : goal.add-requires-clause-factors
add-requires-clause-factors c = tt
