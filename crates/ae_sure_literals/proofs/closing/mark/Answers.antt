use Rattle.std.proofs.Common.{◌∙◌, sym}
use Rattle.std.proofs.lemmas.Option.{same_Some}
use Rattle.ae_sure_literals.proofs.Using.{has_no_place, left_alone}
use Rattle.ae_sure_literals.proofs.closing.mark.Goals as goal

pub returns-in-None : goal.returns-in-None
returns-in-None c =
    left_alone c.args.trail.now.assigned c.args.lit.now c.args.flags.now
    (λ h. absurd (has_no_place c.args.trail.now.assigned c.args.lit.now (λ k l e. sym c.in-None.is ∙ c.place_of.ensures.only k l e) h))

pub mark_at-requires-clause-only : goal.mark_at-requires-clause-only
mark_at-requires-clause-only c = λ k l e. same_Some c.in-Some.place k (sym c.in-Some.is ∙ c.place_of.ensures.only k l e)
