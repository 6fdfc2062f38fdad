use Rattle.std.specs.Prelude.{pos, negsuc, ◌≡◌, Some}
use Rattle.std.proofs.Common.{sym, ◌∙◌, subst}
use Rattle.std.proofs.lemmas.Option.{none-some}
use Rattle.ae_num.specs.declared.numbers.NumFail.{NumFail}
use Rattle.ae_num.specs.declared.numbers.Wide.{Wide}
use Rattle.ae_num.specs.Forms.{IfWide, first_wide, scale_steps}
use Rattle.ae_first_values.proofs.Limits.{opposite_fits}
use Rattle.ae_first_values.proofs.numbers.opposite.Goals as goal

pub unreachable-requires : goal.unreachable-requires
unreachable-requires c =
    let f = c.args.form.now in
    let wide = subst (λ (x : NumFail). IfWide x (λ (w : Wide). first_wide (scale_steps (negsuc 0) (pos 1) f) ≡ Some w)) c.in-Wide.is c.in-Err.ensures.wide in
    absurd (none-some c.in-Wide._wide (sym (opposite_fits f c.requires) ∙ wide))
