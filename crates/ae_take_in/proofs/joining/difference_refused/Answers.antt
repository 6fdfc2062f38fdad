use Rattle.std.specs.Prelude.{pos, negsuc, ◌≡◌, Some}
use Rattle.std.proofs.Common.{refl, sym, subst}
use Rattle.ae_num.specs.Forms.{IfWide, first_wide, plus_steps, multiple_of}
use Rattle.ae_num.specs.declared.forms.Lin.{Lin}
use Rattle.ae_journal.specs.declared.answers.NumStep.TheVariants as num
use Rattle.ae_take_in.proofs.Widths.{wide_same}
use Rattle.ae_take_in.proofs.joining.difference_refused.Goals as goal

pub refused-requires-clause-right : goal.refused-requires-clause-right
refused-requires-clause-right c = c.in-Ok.ensures.normal

pub refused-requires-clause-wide : goal.refused-requires-clause-wide
refused-requires-clause-wide c = subst (λ (x : Lin). IfWide c.args.fail (λ wide. first_wide (plus_steps c.args.left x) ≡ Some wide)) (sym c.in-Ok.ensures.form) c.requires.wide

pub returns-in-Ok : goal.returns-in-Ok
returns-in-Ok c =
    wide_same c.refused.result num.Plus c.args.left c.args.left c.in-Ok.turned (multiple_of (negsuc 0) (pos 1) c.args.right.now) refl c.in-Ok.ensures.form c.refused.ensures
