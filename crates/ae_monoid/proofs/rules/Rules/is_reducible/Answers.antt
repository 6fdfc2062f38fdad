use Rattle.std.specs.Prelude.{◌≡◌, ℕ, List, Bool, Some, MatchBool, IfSome, IfNone}
use Rattle.std.specs.List.Sorted.{IsNonDecreasing}
use Rattle.std.proofs.Common.{sym, subst}
use Rattle.ae_multiset.specs.Rewriting.{IsReduced}
use Rattle.ae_monoid.specs.Rules.{Contents, rule_at, IsFit, IsRuleOf}
use Rattle.ae_monoid.specs.Changes.{IsReducible}
use Rattle.ae_monoid.specs.Inner.Indexes.{hiding}
use Rattle.ae_monoid.proofs.Hiding.{reducible_by}
use Rattle.ae_monoid.proofs.rules.Rules.is_reducible.Goals as goal

pub find_but-requires : goal.find_but-requires
find_but-requires g c =
    record { names = subst IsNonDecreasing (sym c.as_slice-left.ensures) (c.self.invariant.are_rules.well c.args.number c.in-Some.rule.now (sym c.in-Some.ensures.value)).left_rises }

pub returns-in-Some : goal.returns-in-Some
returns-in-Some g c =
    let K = λ (n : ℕ). rule_at c.args.self.now n in
    let rule = c.in-Some.rule.now in
    subst (λ (b : Bool). MatchBool b (IsReducible K c.args.number) (IsReducible K c.args.number → ⊥)) (sym c.is_some.ensures)
    (reducible_by K c.args.number rule (subst (λ (r : Contents). rule_at r c.args.number ≡ Some rule) c.self.view_is (sym c.in-Some.ensures.value)) c.find_but.result
    (subst (λ (l : List ℕ). IfSome c.find_but.result (λ m. IsFit (hiding K c.args.number m) rule.entry.symbol l)) c.as_slice-left.ensures c.find_but.ensures.some)
    (subst (λ (l : List ℕ). IfNone c.find_but.result (IsReduced (IsRuleOf (hiding K c.args.number) rule.entry.symbol) l)) c.as_slice-left.ensures c.find_but.ensures.none))
