use Rattle.std.specs.Prelude.{ℕ, ◌≡◌, slice_get, Some}
use Rattle.ae_store.specs.Shapes.{shapes}
use Rattle.ae_store.specs.Terms.{terms}
use Rattle.ae_data.specs.Constructors.{AreDifferentConstructors}
use Rattle.ae_sweeps.specs.Given.{rep_in}
use Rattle.ae_sweeps.proofs.Bridges.{from_none, none_then}
use Rattle.ae_literals.specs.declared.said.Said.{Said}
use Rattle.ae_literals.specs.Inner.Parts.{LeavesOut}
use Rattle.ae_literals.proofs.SaidEquations.{all_met}
use Rattle.ae_literals.proofs.unmet.first_unmet.Goals as goal

pub returns-in-Some-clause-unmet : goal.returns-in-Some-clause-unmet
returns-in-Some-clause-unmet c = c.in-Some.ensures.some c.args.store.now.signature c.args.store.now.nodes

pub returns-in-Some-first_opposed-clause-unmet : goal.returns-in-Some-first_opposed-clause-unmet
returns-in-Some-first_opposed-clause-unmet c = c.in-Some-first_opposed.ensures.some c.args.store.now.signature

pub returns-in-Some-2-clause-unmet : goal.returns-in-Some-2-clause-unmet
returns-in-Some-2-clause-unmet c = rw c.in-Some-2.is at (c.in_ok-unmet.ensures.some c.args.said.now)

pub returns-clause-met : goal.returns-clause-met
returns-clause-met c =
    let sig = c.args.store.now.signature in
    let nodes = c.args.store.now.nodes in
    let rep = rep_in c.args.reps.now in
    let apart : (m n : ℕ) → AreDifferentConstructors sig (terms (shapes nodes)) m n → rep m ≡ rep n → ⊥ = from_none c.in_ok-unmet.field-0 c.in_default-2.not-Some c.in_ok-unmet.ensures.none in
    none_then c.first_left_out.result c.first_left_out.ensures.none
    (λ (left : (k : ℕ) (y : Said) → slice_get c.args.said.now k ≡ Some y → ¬ LeavesOut rep y). all_met sig nodes rep c.args.said.now c.in_default.ensures.none c.in_default-first_opposed.ensures.none apart left)

pub returns-clause-unmet : goal.returns-clause-unmet
returns-clause-unmet c = c.first_left_out.ensures.some c.args.store.now.signature c.args.store.now.nodes
