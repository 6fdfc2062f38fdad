use Rattle.std.proofs.Common.{◌∙◌, sym, ap, subst}
use Rattle.std.proofs.lemmas.Result.{IfOk-weaker}
use Rattle.std.specs.List.{Contains}
use Rattle.ae_sat.specs.Strict.{is_strict}
use Rattle.ae_sat.proofs.choose.choose.Goals as goal

pub returns-in_ok-lit-in-Some-clause-has : goal.returns-in_ok-lit-in-Some-clause-has
returns-in_ok-lit-in-Some-clause-has g c =
    IfOk-weaker c.new.result _ _ (λ l e. subst (Contains c.args.clause.now) (sym (e ∙ c.in_ok-lit-in-Some.ensures)) (c.in-Some.place, c.in-Some.ensures.within, sym c.index-clause-place.is)) c.new.ensures

pub returns-in_ok-lit-in-Some-clause-strict : goal.returns-in_ok-lit-in-Some-clause-strict
returns-in_ok-lit-in-Some-clause-strict g c m h s o =
    IfOk-weaker c.new.result _ _ (λ l e. ap is_strict (e ∙ c.in_ok-lit-in-Some.ensures ∙ c.index-clause-place.is) ∙ c.in-Some.ensures.strict c.index-clause-place.result) c.new.ensures

pub returns-in-None-clause-strict : goal.returns-in-None-clause-strict
returns-in-None-clause-strict g c m h s o = absurd (c.in-None.ensures.none m h s o)
