use Rattle.std.proofs.Common.{ℕ, List, sym, ◌∙◌, subst}
use Rattle.std.specs.List.Sorted.{IsPermutation}
use Rattle.std.proofs.lemmas.List.Sorted.{IsNonDecreasingBy-from_sort}
use Rattle.ae_multiset.specs.Multisets.{rising}
use Rattle.ae_multiset.proofs.Rising.{one_spelling, rising_rises, count-rising, same_after}
use Rattle.ae_multiset.proofs.spelling.spelled.Goals as goal

pub returns-clause-spelling : goal.returns-clause-spelling
returns-clause-spelling c =
    let p : IsPermutation c.args.names.now c.sort_unstable.new.self.items = subst (λ (w : List ℕ). IsPermutation w c.sort_unstable.new.self.items) c.in_ok-names.ensures.items c.sort_unstable.ensures.permutation in
    one_spelling c.sort_unstable.new.self.items (rising c.args.names.now) (IsNonDecreasingBy-from_sort (λ x. x) c.sort_unstable.new.self.items c.sort_unstable.ensures.sorted) (rising_rises c.args.names.now)
    (record { each = λ x. sym ((same_after c.args.names.now c.sort_unstable.new.self.items p).each x) ∙ sym (count-rising x c.args.names.now) })

pub returns-clause-rises : goal.returns-clause-rises
returns-clause-rises c = IsNonDecreasingBy-from_sort (λ x. x) c.sort_unstable.new.self.items c.sort_unstable.ensures.sorted
