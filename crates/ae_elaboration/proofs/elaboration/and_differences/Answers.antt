use Rattle.std.proofs.Common.{arith, ◌∙◌, ◌++◌, ◌∷◌, ◌+◌, drop, sym, ap}
use Rattle.ae_core.specs.declared.formulas.Formula.{Formula}
use Rattle.ae_elab.specs.Elaboration.{differs_from}
use Rattle.ae_elaboration.specs.Inner.Conjunctions.{all_with}
use Rattle.ae_elaboration.proofs.ElaborationRules.{differs_next, differs_end}
use Rattle.ae_elaboration.proofs.elaboration.and_differences.Goals as goal

pub loop-other-preserved : goal.loop-other-preserved
loop-other-preserved c = λ rest.
    let t = c.args.term.now in
    let us = c.args.others.now in
    let k = c.loop-other.other-index in
    c.in_ok-joined.ensures (differs_from t (drop (k + 1) us) ++ rest)
    ∙ ap (λ (g : Formula). all_with c.loop-other.whole (g ∷ (differs_from t (drop (k + 1) us) ++ rest))) c.in_ok-differs.ensures
    ∙ ap (all_with c.loop-other.whole) (sym (differs_next t c.other-item.result us k rest (omega arith) c.other-item.is))
    ∙ c.loop-other.invariant rest

pub returns : goal.returns
returns c = λ rest.
    ap (all_with c.loop-other.whole) (sym (differs_end c.args.term.now c.args.others.now c.loop-other.other-index rest (omega arith))) ∙ c.loop-other.invariant rest
