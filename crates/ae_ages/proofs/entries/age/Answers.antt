use Rattle.std.proofs.Common.{refl, sym, ap, subst, ◌∙◌, [], ◌∷◌, List}
use Rattle.std.specs.List.{list_any}
use Rattle.std.proofs.lemmas.Result.{on_ok_weaker}
use Rattle.ae_ages.specs.Ages.{AreAged, gives_age}
use Rattle.ae_ages.specs.declared.entries.Aged.{Aged}
use Rattle.ae_ages.proofs.Aging.{age_of_any, already_aged, newly_aged}
use Rattle.ae_ages.proofs.entries.age.Goals as goal

pub returns-then-has_age : goal.returns-then-has_age
returns-then-has_age c =
    already_aged c.args.generation c.args.entries.now c.args.formula.now
    (age_of_any c.args.entries.now c.args.formula.now c.args.generation
    (ap (list_any (gives_age c.args.formula.now c.args.generation)) (sym c.as_slice.ensures) ∙ sym c.has_age.ensures ∙ c.if-has_age.true))

pub returns : goal.returns
returns c =
    on_ok_weaker c.push.result
    (λ e. subst (λ (w : List Aged). AreAged c.args.generation c.args.entries.now w (c.args.formula.now ∷ [])) (sym e)
    (newly_aged c.args.generation c.args.entries.now (record { formula = c.in_ok-formula.formula; generation = c.args.generation }) c.args.formula.now c.in_ok-formula.ensures refl)) c.push.ensures.ok
