use Rattle.std.proofs.Common.{◌∙◌, sym, refl}
use Rattle.ae_propagation.proofs.Settling.{is_there}
use Rattle.ae_propagation.proofs.settle.is_true.Goals as goal

pub returns-in-Some : goal.returns-in-Some
returns-in-Some c =
    is_there c.args.trail.now.assigned c.args.lit.now c.lit_at.result.now c.in-Some.place _ (sym c.in-Some.is ∙ c.place_of.ensures.place) (λ q l h. sym c.in-Some.is ∙ c.place_of.ensures.only q l h) c.lit_at.ensures refl
