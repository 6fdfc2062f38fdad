use Rattle.std.specs.Prelude.{ℕ, List, ◌≡◌, ◌⊎◌, IfOk}
use Rattle.std.proofs.Common.{sym, ◌∙◌, subst}
use Rattle.std.proofs.lemmas.Result.{IfOk-weaker}
use Rattle.ae_conflicts.specs.Saying.{RestsOnAssumed}
use Rattle.ae_conflicts.specs.declared.assumed.Assumed.{Assumed}
use Rattle.ae_solving.specs.declared.leaves.Joined.{Joined}
use Rattle.ae_state_steps.specs.ValueSteps.{StatesEqual}
use Rattle.ae_store.specs.Shapes.{shapes}
use Rattle.ae_store.specs.Terms.{terms}
use Rattle.ae_store.proofs.EnterLaws.{front_then}
use Rattle.ae_value_turns.specs.Renewed.{AreGrounded}
use Rattle.ae_solving.proofs.leaves.join_leaves.Goals as goal

pub larger_first-requires-clause-differ : goal.larger_first-requires-clause-differ
larger_first-requires-clause-differ c = λ e. c.requires.differ (sym c.leaf-leaf.ensures ∙ e ∙ c.leaf-other.ensures)

pub larger_first-requires-clause-states : goal.larger_first-requires-clause-states
larger_first-requires-clause-states c =
    subst (λ (z : ℕ × ℕ). StatesEqual c.state_leaves.new.justs c.in_ok-whole.whole z.0 z.1) (λ i. (sym c.leaf-leaf.ensures i, sym c.leaf-other.ensures i)) c.in_ok-whole.ensures.states

pub returns-clause-both : goal.returns-clause-both
returns-clause-both c =
    subst (λ (z : ℕ × ℕ). IfOk c.larger_first.result (λ j. ((j.name ≡ z.0) × (j.leaf ≡ z.1)) ⊎ ((j.name ≡ z.1) × (j.leaf ≡ z.0)))) (λ i. (c.leaf-leaf.ensures i, c.leaf-other.ensures i)) c.larger_first.ensures.both

pub returns-clause-rests : goal.returns-clause-rests
returns-clause-rests c =
    let s = c.args.store.now in
    let ts = terms (shapes s.nodes) in
    let j0 = c.args.justs.now in
    let j1 = c.state_leaves.new.justs in
    let j2 = c.larger_first.new.justs in
    IfOk-weaker c.larger_first.result (λ (j : Joined). (held : List (ℕ × Assumed)) → RestsOnAssumed ts j1 held c.in_ok-whole.whole → RestsOnAssumed ts j2 held j.step)
    (λ (j : Joined). (held : List (ℕ × Assumed)) → AreGrounded ts held j0 c.args.values.now → RestsOnAssumed ts j0 held c.args.step → RestsOnAssumed ts j2 held j.step)
    (λ j f held all given. f held (c.in_ok-whole.ensures.rests held all given)) c.larger_first.ensures.rests

pub returns-clause-front : goal.returns-clause-front
returns-clause-front c = front_then c.args.justs.now c.state_leaves.new.justs c.larger_first.new.justs c.state_leaves.ensures.front c.larger_first.ensures.front
