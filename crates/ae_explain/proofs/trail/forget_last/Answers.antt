use Rattle.std.proofs.Common.{◌∙◌, List, sym, subst}
use Rattle.ae_explain.specs.declared.trail.Assigned.{Assigned}
use Rattle.ae_explain.specs.Inner.Index.{IsIndex}
use Rattle.ae_explain.proofs.trail.forget_last.Goals as goal

pub returns-in-Some-clause-index : goal.returns-in-Some-clause-index
returns-in-Some-clause-index c number places h =
    c.forget_number.ensures number c.pop.new.self c.in-Some._last places (subst (λ (w : List Assigned). IsIndex number w c.args.standing.now c.args.values.now places) c.in-Some.ensures h)

pub returns-in-None-clause-index : goal.returns-in-None-clause-index
returns-in-None-clause-index c number places h =
    subst (λ (w : List Assigned). IsIndex number w c.args.standing.now c.args.values.now places) (c.in-None.ensures.0 ∙ sym c.in-None.ensures.1) h
