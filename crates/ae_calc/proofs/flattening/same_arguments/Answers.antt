use Rattle.std.proofs.Common.{◌∙◌, sym, ap}
use Rattle.ae_rules.specs.Lines.{flat}
use Rattle.ae_calc.specs.Inner.LentTerms.{values}
use Rattle.ae_calc.proofs.Multisets.{rising_permutations, permutations_of_one}
use Rattle.ae_calc.proofs.flattening.same_arguments.Goals as goal

pub returns : goal.returns
returns c =
    let us = flat c.args.head c.args.sorts.now c.args.left.now in let vs = flat c.args.head c.args.sorts.now c.args.right.now in
    let xs = values c.in_ok-from.from.items in let ys = values c.in_ok-to.to.items in
    let p = c.in_ok-from.ensures in let q = c.in_ok-to.ensures in
    let from = ap values c.as_slice.ensures.value in let to = ap values c.as_slice-2.ensures.value in (
      λ t. permutations_of_one us vs xs ys p.permutation q.permutation (sym from ∙ c.same_lent.ensures.0 t ∙ to),
      λ h. c.same_lent.ensures.1 (from ∙ rising_permutations us vs xs ys p.permutation q.permutation p.rising q.rising h ∙ sym to),
    )
