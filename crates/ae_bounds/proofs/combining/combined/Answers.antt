use Rattle.std.specs.Prelude.{ℤ}
use Rattle.std.proofs.Common.{rules, sym, subst, ◌∙◌}
use Rattle.std.proofs.lemmas.Int.{to_z-of_z}
use mir.Syntax.{w128}
use Rattle.ae_num.specs.Limits.{FitsLimits}
use Rattle.ae_ineq.proofs.LastLaws.{rising_last, last_within}
use Rattle.ae_bounds.proofs.combining.combined.Goals as goal

pub combine-requires-clause-rising : goal.combine-requires-clause-rising
combine-requires-clause-rising c =
    let o = c.args.at in
    rising_last c.args.lower.now.parts (record { key = o.name; factor = o.rising }) c.requires.lower.rising c.requires.opposed.first ∙ sym (to_z-of_z w128 o.rising (search rules))

pub combine-requires-clause-falling : goal.combine-requires-clause-falling
combine-requires-clause-falling c =
    let o = c.args.at in
    rising_last c.args.upper.now.parts (record { key = o.name; factor = o.falling }) c.requires.upper.rising c.requires.opposed.second ∙ sym (to_z-of_z w128 o.falling (search rules))

pub combine-requires-clause-within : goal.combine-requires-clause-within
combine-requires-clause-within c =
    let o = c.args.at in
    subst (λ (z : ℤ). FitsLimits z) (sym (to_z-of_z w128 o.falling (search rules))) (last_within c.args.upper.now (record { key = o.name; factor = o.falling }) c.requires.upper c.requires.opposed.second)
