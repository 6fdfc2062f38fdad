use Rattle.std.proofs.Common.{◌∙◌, get_or, sym, subst}
use Rattle.std.proofs.lemmas.List.{get_or_default}
use Rattle.std.proofs.lemmas.List.Elements.{Contains-get_or}
use Rattle.ae_explain.specs.Trail.{IsFalse}
use Rattle.ae_propagation.proofs.Settling.{is_open, open_two}
use Rattle.ae_propagation.proofs.settle.state_of.Goals as goal

pub returns-in-Some-other_open : goal.returns-in-Some-other_open
returns-in-Some-other_open c =
    let t = c.args.trail.now.assigned in
    let u = c.args.clause.now in
    let x = c.index-clause-p.result in
    let p = c.in-Some-open_one.p in
    let y = get_or u c.in-Some-other_open._q x in
    open_two t u c.in_default.ensures x y (p, c.in-Some-open_one.ensures.within, sym c.index-clause-p.is)
    (Contains-get_or u c.in-Some-other_open._q x c.in-Some-other_open.ensures.0.within) (λ e. c.in-Some-other_open.ensures.1 x (sym e))
    (λ f. c.in-Some-open_one.ensures.not_false x (subst (IsFalse t) c.index-clause-p.is f)) (c.in-Some-other_open.ensures.0.not_false x)

pub returns-in-None : goal.returns-in-None
returns-in-None c =
    let t = c.args.trail.now.assigned in
    let u = c.args.clause.now in
    let x = c.index-clause-p.result in
    let p = c.in-Some-open_one.p in
    record {
      lit = x;
      within = c.in-Some-open_one.ensures.within;
      is = λ w. get_or_default u p w x c.in-Some-open_one.ensures.within ∙ sym c.index-clause-p.is;
      no_place = is_open t x (c.in_default.ensures x (p, c.in-Some-open_one.ensures.within, sym c.index-clause-p.is))
          (λ f. c.in-Some-open_one.ensures.not_false x (subst (IsFalse t) c.index-clause-p.is f));
      others = c.in-None.ensures;
    }
