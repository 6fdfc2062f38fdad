use Rattle.std.specs.Prelude.{[], ◌∷◌, ◌++◌}
use Rattle.std.proofs.Common.{◌∙◌}
use Rattle.std.proofs.lemmas.Int.{to_z-of_z}
use mir.Syntax.{w128}
use Rattle.ae_given_rows.proofs.given.parts_of.Goals as goal

pub returns : goal.returns
returns c =
    let whole = to_z-of_z w128 c.args.whole c.ranges.whole in
    let opposite = to_z-of_z w128 c.args.opposite c.ranges.opposite in
    let below = to_z-of_z w128 c.args.below c.ranges.below in
    let one = c.in_ok-push.ensures.ok ∙ (λ i. c.new-parts.ensures i ++ record { factor = whole i; line = 0 } ∷ []) in
    let two = c.in_ok-push-2.ensures.ok ∙ (λ i. one i ++ record { factor = opposite i; line = c.args.below_line } ∷ []) in
    c.in_ok-push-3.ensures.ok ∙ (λ i. two i ++ record { factor = below i; line = c.args.above_line } ∷ [])
