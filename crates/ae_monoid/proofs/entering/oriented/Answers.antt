use Rattle.std.specs.Prelude.{◌≡◌, ℕ, List}
use Rattle.std.proofs.Common.{sym, subst, ◌∙◌}
use Rattle.ae_multiset.specs.Multisets.{IsLess}
use Rattle.ae_monoid.proofs.Orienting.{first_is_larger, second_is_larger, not_alike, well_from, rule_same, swapped}
use Rattle.ae_monoid.proofs.entering.oriented.Goals as goal

less_spelled : (a b c d e f : List ℕ) → a ≡ b → b ≡ c → d ≡ e → e ≡ f → IsLess a d → IsLess c f
less_spelled a b c d e f p q r s l = subst (λ (x : List ℕ). IsLess x f) (p ∙ q) (subst (λ (x : List ℕ). IsLess a x) (r ∙ s) l)

pub returns-in-Less-clause-oriented : goal.returns-in-Less-clause-oriented
returns-in-Less-clause-oriented c =
    second_is_larger c.args.symbol.now c.args.left.now c.args.right.now c.args.just c.rule_of.result
    (c.rule_of.ensures ∙ rule_same c.args.symbol.now c.in_ok-symbol.symbol c.in_ok-right.right.items c.args.right.now c.in_ok-left.left.items c.args.left.now c.args.just c.in_ok-symbol.ensures c.in_ok-right.ensures.spelling
    c.in_ok-left.ensures.spelling)
    (less_spelled _ _ _ _ _ _ c.deref.ensures.value c.in_ok-left.ensures.spelling c.deref-2.ensures.value c.in_ok-right.ensures.spelling c.in-Less.ensures)

pub returns-in-Less-clause-well : goal.returns-in-Less-clause-well
returns-in-Less-clause-well c =
    well_from c.args.symbol.now c.args.right.now c.args.left.now c.args.just c.rule_of.result
    (c.rule_of.ensures ∙ rule_same c.args.symbol.now c.in_ok-symbol.symbol c.in_ok-right.right.items c.args.right.now c.in_ok-left.left.items c.args.left.now c.args.just c.in_ok-symbol.ensures c.in_ok-right.ensures.spelling
    c.in_ok-left.ensures.spelling)
    (less_spelled _ _ _ _ _ _ c.deref.ensures.value c.in_ok-left.ensures.spelling c.deref-2.ensures.value c.in_ok-right.ensures.spelling c.in-Less.ensures) c.requires.left (swapped c.requires.two)

pub returns-in-Equal-clause-well : goal.returns-in-Equal-clause-well
returns-in-Equal-clause-well c =
    absurd (c.requires.differ (not_alike c.args.left.now c.args.right.now (sym (c.deref.ensures.value ∙ c.in_ok-left.ensures.spelling) ∙ c.in-Equal.ensures ∙ c.deref-2.ensures.value ∙ c.in_ok-right.ensures.spelling)))

pub returns-in-Greater-clause-oriented : goal.returns-in-Greater-clause-oriented
returns-in-Greater-clause-oriented c =
    first_is_larger c.args.symbol.now c.args.left.now c.args.right.now c.args.just c.rule_of-in-Greater.result
    (c.rule_of-in-Greater.ensures ∙ rule_same c.args.symbol.now c.in_ok-symbol.symbol c.in_ok-left.left.items c.args.left.now c.in_ok-right.right.items c.args.right.now c.args.just c.in_ok-symbol.ensures
    c.in_ok-left.ensures.spelling c.in_ok-right.ensures.spelling)
    (less_spelled _ _ _ _ _ _ c.deref-2.ensures.value c.in_ok-right.ensures.spelling c.deref.ensures.value c.in_ok-left.ensures.spelling c.in-Greater.ensures)

pub returns-in-Greater-clause-well : goal.returns-in-Greater-clause-well
returns-in-Greater-clause-well c =
    well_from c.args.symbol.now c.args.left.now c.args.right.now c.args.just c.rule_of-in-Greater.result
    (c.rule_of-in-Greater.ensures ∙ rule_same c.args.symbol.now c.in_ok-symbol.symbol c.in_ok-left.left.items c.args.left.now c.in_ok-right.right.items c.args.right.now c.args.just c.in_ok-symbol.ensures
    c.in_ok-left.ensures.spelling c.in_ok-right.ensures.spelling)
    (less_spelled _ _ _ _ _ _ c.deref-2.ensures.value c.in_ok-right.ensures.spelling c.deref.ensures.value c.in_ok-left.ensures.spelling c.in-Greater.ensures) c.requires.right c.requires.two
