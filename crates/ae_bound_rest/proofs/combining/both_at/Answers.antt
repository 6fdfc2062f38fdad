use Rattle.std.proofs.Common.{sym, ◌∙◌, subst}
use Rattle.std.proofs.lemmas.Option.{get_or_from_slice_get}
use Rattle.ae_bounds.specs.declared.rows.Row.{Row}
use Rattle.ae_bound_rest.specs.Inner.Pairs.{IsBoth}
use Rattle.ae_bound_rest.proofs.combining.both_at.Goals as goal

pub with_rounded-requires-clause-normal : goal.with_rounded-requires-clause-normal
with_rounded-requires-clause-normal c = (c.requires.each c.index-rows-lower.result (c.args.lower, c.requires.lower, sym c.index-rows-lower.is)).0

pub with_rounded-requires-clause-plain : goal.with_rounded-requires-clause-plain
with_rounded-requires-clause-plain c = (c.requires.each c.index-rows-lower.result (c.args.lower, c.requires.lower, sym c.index-rows-lower.is)).1

pub with_rounded-requires-2-clause-normal : goal.with_rounded-requires-2-clause-normal
with_rounded-requires-2-clause-normal c = (c.requires.each c.index-rows-upper.result (c.args.upper, c.requires.upper, sym c.index-rows-upper.is)).0

pub with_rounded-requires-2-clause-plain : goal.with_rounded-requires-2-clause-plain
with_rounded-requires-2-clause-plain c = (c.requires.each c.index-rows-upper.result (c.args.upper, c.requires.upper, sym c.index-rows-upper.is)).1

pub returns-clause-some : goal.returns-clause-some
returns-clause-some c = λ s t e f. (
  subst (λ (y : Row). IsBoth y c.in_ok-first.first) (c.index-rows-lower.is ∙ get_or_from_slice_get c.args.rows.now c.args.lower s c.index-rows-lower.result e) c.in_ok-first.ensures,
  subst (λ (y : Row). IsBoth y c.in_ok-second.second) (c.index-rows-upper.is ∙ get_or_from_slice_get c.args.rows.now c.args.upper t c.index-rows-upper.result f) c.in_ok-second.ensures,
)
