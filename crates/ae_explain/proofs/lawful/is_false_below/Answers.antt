use Rattle.std.proofs.Common.{◌∙◌, sym}
use Rattle.ae_explain.proofs.Testing.{by_sign}
use Rattle.ae_explain.proofs.lawful.is_false_below.Goals as goal

pub returns-then-place-n : goal.returns-then-place-n
returns-then-place-n c =
    by_sign c.args.trail.now.assigned c.args.n c.in-Some.place c.args.lit.now c.lit_at.result.now c.requires.within c.if-place-n.true (sym c.place_of.ensures.place ∙ c.in-Some.is)
    (λ q l h. sym c.in-Some.is ∙ c.place_of.ensures.only q l h) c.lit_at.ensures
