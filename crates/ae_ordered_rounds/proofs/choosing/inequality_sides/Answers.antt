use Rattle.std.specs.Prelude.{Some}
use Rattle.std.proofs.Common.{◌∙◌, sym}
use Rattle.ae_ordered_rounds.proofs.choosing.inequality_sides.Goals as goal

pub returns-in-None : goal.returns-in-None
returns-in-None c = c.in-None.ensures.none

pub returns-in_ok-right-in-Some : goal.returns-in_ok-right-in-Some
returns-in_ok-right-in-Some c = (
  c.in-Some.found.strict,
  c.in-Some.ensures.some ∙ (λ i. Some (sym c.in_ok-right-in-Some.ensures i, sym c.in_ok-left-in-Some.ensures i, c.in-Some.found.strict)),
)
