use Rattle.std.specs.Prelude.{◌≡◌, ◌-ℤ◌, pos, true, false, ℤ}
use Rattle.std.proofs.Common.{rules, sym, ap, ◌∙◌, subst}
use Rattle.std.proofs.lemmas.Bool.{not-true, not-false}
use Rattle.std.proofs.lemmas.Int.{to_z-of_z}
use mir.Syntax.{w128}
use Rattle.ae_core.specs.Sorts.{within}
use Rattle.ae_num.specs.Limits.{FitsLimits}
use Rattle.ae_rounding.proofs.Quotients.{outside_limits, inside_limits}
use Rattle.ae_bounds.proofs.noting.is_least.Goals as goal

pub returns-clause-yes : goal.returns-clause-yes
returns-clause-yes c = λ e f.
    let r = c.less_one-less.result in
    let is : r ≡ c.args.form.now.constant -ℤ pos 1 = c.less_one-less.ensures ∙ ap (λ (z : ℤ). z -ℤ pos 1) (to_z-of_z w128 c.args.form.now.constant (search rules)) in
    let out : c.is_within.result ≡ false = not-true c.is_within.result e in
    outside_limits r (sym (ap within (to_z-of_z w128 r (search rules))) ∙ sym c.is_within.ensures ∙ out) (subst FitsLimits (sym is) f)

pub returns-clause-no : goal.returns-clause-no
returns-clause-no c = λ e.
    let r = c.less_one-less.result in
    let is : r ≡ c.args.form.now.constant -ℤ pos 1 = c.less_one-less.ensures ∙ ap (λ (z : ℤ). z -ℤ pos 1) (to_z-of_z w128 c.args.form.now.constant (search rules)) in
    let inside : c.is_within.result ≡ true = not-false c.is_within.result e in
    subst FitsLimits is (inside_limits r (sym (ap within (to_z-of_z w128 r (search rules))) ∙ sym c.is_within.ensures ∙ inside))
