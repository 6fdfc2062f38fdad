use Rattle.std.proofs.Common.{◌≡◌, ◌∙◌, ap, subst, ◌++◌, rules}
use Rattle.std.specs.List.Sorted.{IsPermutation}
use Rattle.std.proofs.lemmas.List.Sorted.{IsPermutation-map}
use denote.Ref.{Bor}
use Rattle.ae_rules.specs.Lines.{flat}
use Rattle.ae_core.specs.declared.terms.Term.{Term}
use Rattle.ae_calc.specs.Inner.LentTerms.{values}
use Rattle.ae_calc.proofs.Multisets.{rising_from_sort}
use Rattle.ae_calc.proofs.flattening.sorted_arguments.Goals as goal

pub returns-clause-permutation : goal.returns-clause-permutation
returns-clause-permutation c =
    let flattened = flat c.args.head c.args.sorts.now c.args.term.now in
    let found : values c.flatten.new.found.items ≡ flattened = c.in_ok-flatten.ensures ∙ ap (λ ts. values ts ++ flattened) c.new-found.ensures.items in
    subst (λ ts. IsPermutation ts (values c.sort_unstable_by.new.self.items)) found
    (IsPermutation-map (λ (t : Bor Term). t.now) c.flatten.new.found.items c.sort_unstable_by.new.self.items c.sort_unstable_by.ensures.permutation)

pub returns-clause-rising : goal.returns-clause-rising
returns-clause-rising c = rising_from_sort c.sort_unstable_by.new.self.items c.sort_unstable_by.ensures.sorted (λ a r q k. search rules)
