use Rattle.std.specs.Prelude.{◌+◌, ◌≤◌, ℕ, Option, IfSome, IfNone}
use Rattle.std.proofs.Common.{subst}
use Rattle.ae_multiset.specs.Rewriting.{IsReduced}
use Rattle.ae_monoid.specs.declared.rules.Kept.{Kept}
use Rattle.ae_monoid.specs.Rules.{IsFit, IsRuleOf}
use Rattle.ae_monoid.specs.Reductions.{AreAtMost, IsCandidate}
use Rattle.ae_monoid.proofs.Hiding.{all_shown}
use Rattle.ae_monoid.proofs.rules.Rules.find.Goals as goal

pub returns-clause-some : goal.returns-clause-some
returns-clause-some g c =
    subst (λ (f : ℕ → Option Kept). IfSome c.find_but.result (λ number. IsFit (f number) c.args.symbol.now c.args.names.now)) (all_shown c.args.self.now _ c.self.view_is c.self.invariant.are_rules) c.find_but.ensures.some

pub returns-clause-none : goal.returns-clause-none
returns-clause-none g c =
    subst (λ (f : ℕ → Option Kept). IfNone c.find_but.result (IsReduced (IsRuleOf f c.args.symbol.now) c.args.names.now)) (all_shown c.args.self.now _ c.self.view_is c.self.invariant.are_rules) c.find_but.ensures.none

pub returns-clause-bound : goal.returns-clause-bound
returns-clause-bound g c =
    subst (λ (f : ℕ → Option Kept). (most : ℕ) → AreAtMost most (λ n. IsCandidate (f n) c.args.symbol.now c.args.names.now) → c.find_but.new.steps ≤ c.args.steps.now + most)
    (all_shown c.args.self.now _ c.self.view_is c.self.invariant.are_rules) c.find_but.ensures.bound
