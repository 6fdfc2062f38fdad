use Rattle.std.proofs.Common.{sym, ◌∙◌}
use Rattle.std.proofs.lemmas.Result.{IfOk-weaker}
use Rattle.ae_matching.specs.SortMatching as spec
use Rattle.ae_matching.proofs.SortLaws.{lengths_differ, named_differ, named_agree}
use Rattle.ae_matching.proofs.sorts.+match_sort.Goals as goal

pub match_sort-returns-then-head-other : goal.match_sort-returns-then-head-other
match_sort-returns-then-head-other t c =
    sym (named_differ c.args.pattern.now c.args.sort.now c.in-Named.head c.in-Named-sort.other c.in-Named.args c.in-Named-sort.sorts c.args.bindings c.in-Named.is c.in-Named-sort.is c.if-head-other.true)

pub match_sort-returns-else-head-other : goal.match_sort-returns-else-head-other
match_sort-returns-else-head-other t c =
    IfOk-weaker c.match_sorts.result _ _
    (λ o e.
    e ∙ (λ i. spec.match_sorts (c.as_slice.ensures i) (c.as_slice-in-Named-sort.ensures i) c.args.bindings)
    ∙ sym (named_agree c.args.pattern.now c.args.sort.now c.in-Named.head c.in-Named-sort.other c.in-Named.args c.in-Named-sort.sorts c.args.bindings c.in-Named.is c.in-Named-sort.is c.if-head-other.false))
    c.match_sorts.ensures

pub match_sorts-returns-then-patterns-sorts : goal.match_sorts-returns-then-patterns-sorts
match_sorts-returns-then-patterns-sorts t c = sym (lengths_differ c.args.patterns.now c.args.sorts.now c.args.bindings c.if-patterns-sorts.true)
