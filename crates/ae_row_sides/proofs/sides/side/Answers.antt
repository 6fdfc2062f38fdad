use Rattle.std.specs.Prelude.{pos, None, Option, ◌++◌}
use Rattle.std.proofs.Common.{rules, sym, ap, ◌∙◌}
use Rattle.std.proofs.lemmas.Int.{to_z-of_z}
use mir.Syntax.{w128}
use Rattle.ae_base.specs.Options.{or_else}
use Rattle.ae_core.specs.declared.terms.Sort.{Int}
use Rattle.ae_core.specs.declared.terms.Term.{Term}
use Rattle.ae_journal.specs.Sides.{summands, last_summand}
use Rattle.ae_journal.specs.Systems.{numeral_of}
use Rattle.ae_store.specs.Shapes.{shapes}
use Rattle.ae_store.specs.Terms.{terms}
use Rattle.ae_row_sides.specs.Inner.Sums.{summed}
use Rattle.ae_row_sides.proofs.Sums.{summed_after, sum_is}
use Rattle.ae_row_sides.proofs.sides.side.Goals as goal

pub returns : goal.returns
returns c =
    let ts = terms (shapes c.args.store.now.nodes) in
    let f = c.args.row.now in
    let us = summands Int ts f.parts in
    let last = last_summand Int f.constant in
    c.or_zero.ensures
    ∙ ap (λ (o : Option Term). or_else o (numeral_of Int (pos 0))) (
    c.in_ok-whole.ensures ∙ (λ i. summed c.in_ok-sum.sum (last_summand Int (to_z-of_z w128 f.constant (search rules) i))) ∙ ap (λ (o : Option Term). summed o last) (c.in_ok-sum.ensures ∙ (λ i. summed None (summands Int ts (c.as_slice.ensures i)))) ∙ sym (summed_after None us last))
    ∙ sum_is (us ++ last)
