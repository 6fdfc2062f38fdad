use Rattle.std.specs.Prelude.{ℕ, List, [], ◌≡◌}
use Rattle.std.proofs.Common.{sym, subst, rules}
use Rattle.ae_monoid.specs.Rules.{rule_at}
use Rattle.ae_monoid.specs.Reductions.{ReducesBy}
use Rattle.ae_settled.specs.Swept.{AreOwn}
use Rattle.ae_sweeps.specs.Given.{rep_in}
use Rattle.ae_sweeps.proofs.RuleSides.{stale, uncomposed, sides}
use Rattle.ae_sweeps.proofs.sides.side_gap.Goals as goal

pub returns-then-not-are_both_own-clause-some : goal.returns-then-not-are_both_own-clause-some
returns-then-not-are_both_own-clause-some c =
    λ sig nodes. stale (rep_in c.args.reps.now) (λ n. rule_at c.args.rules.now n) c.args.number c.args.rule.now c.requires.there
    (λ l r. (rw c.if-not-are_both_own.true at c.are_both_own.ensures) (subst (AreOwn (rep_in c.args.reps.now)) (sym c.as_slice.ensures) l)
    (subst (AreOwn (rep_in c.args.reps.now)) (sym c.as_slice-right.ensures) r))

pub returns-then-not-is_empty-clause-some : goal.returns-then-not-is_empty-clause-some
returns-then-not-is_empty-clause-some c =
    λ sig nodes. uncomposed (rep_in c.args.reps.now) (λ n. rule_at c.args.rules.now n) c.args.number c.args.rule.now c.requires.there c.in_ok-reduced.reduced.justs c.in_ok-reduced.reduced.names
    (subst (λ (l : List ℕ). ReducesBy (λ n. rule_at c.args.rules.now n) c.args.rule.now.entry.symbol l c.in_ok-reduced.reduced.justs c.in_ok-reduced.reduced.names) c.as_slice-right.ensures c.in_ok-reduced.ensures.justs) (search rules)

pub returns-clause-none : goal.returns-clause-none
returns-clause-none c =
    let own = rw c.if-not-are_both_own.false at c.are_both_own.ensures in
    let none : c.in_ok-reduced.reduced.justs ≡ [] = search rules in
    sides (rep_in c.args.reps.now) (λ n. rule_at c.args.rules.now n) c.args.number c.args.rule.now c.requires.there (subst (AreOwn (rep_in c.args.reps.now)) c.as_slice.ensures own.0)
    (subst (AreOwn (rep_in c.args.reps.now)) c.as_slice-right.ensures own.1) c.in_ok-reduced.reduced.justs c.in_ok-reduced.reduced.names
    (subst (λ (l : List ℕ). ReducesBy (λ n. rule_at c.args.rules.now n) c.args.rule.now.entry.symbol l c.in_ok-reduced.reduced.justs c.in_ok-reduced.reduced.names) c.as_slice-right.ensures c.in_ok-reduced.ensures.justs)
    c.in_ok-reduced.ensures.reduced none
