use Rattle.std.specs.Prelude.{ℕ, List}
use Rattle.std.proofs.Common.{sym, subst, arith}
use Rattle.ae_monoid.specs.Rules.{rule_at}
use Rattle.ae_monoid.specs.Changes.{IsReducible}
use Rattle.ae_monoid.proofs.Listings.{AreListed, listed_none, listed_with, listed_without, listed_all, reducible_given}
use Rattle.ae_monoid.proofs.rules.Rules.reducible.Goals as goal

pub loop-number-init : goal.loop-number-init
loop-number-init g c =
    subst (λ (ns : List ℕ). AreListed (λ n. IsReducible (λ m. rule_at c.args.self.now m) n) 0 ns) (sym c.new-numbers.ensures.items) (listed_none (λ n. IsReducible (λ m. rule_at c.args.self.now m) n))

pub loop-number-preserved : goal.loop-number-preserved
loop-number-preserved g c =
    listed_with (λ n. IsReducible (λ m. rule_at c.args.self.now m) n) c.loop-number.number c.loop-number.numbers.items c.loop-number.invariant c.push.new.self.items c.in_ok-push.ensures.items c.if-not-is_reducible.ensures

pub loop-number-preserved-then-not-is_reducible : goal.loop-number-preserved-then-not-is_reducible
loop-number-preserved-then-not-is_reducible g c =
    listed_without (λ n. IsReducible (λ m. rule_at c.args.self.now m) n) c.loop-number.number c.loop-number.numbers.items c.loop-number.invariant c.if-not-is_reducible.ensures

pub returns-clause-are : goal.returns-clause-are
returns-clause-are g c =
    listed_all (λ n. IsReducible (λ m. rule_at c.args.self.now m) n) c.loop-number.number c.loop-number.numbers.items c.loop-number.invariant
    (reducible_given c.args.self.now _ c.self.view_is c.self.invariant.are_rules c.loop-number.number (omega (arith, c.loop-number-test.false)))
