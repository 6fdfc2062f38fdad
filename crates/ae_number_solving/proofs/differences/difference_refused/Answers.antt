use Rattle.std.specs.Prelude.{◌≡◌, Some}
use Rattle.std.proofs.Common.{refl, subst}
use Rattle.ae_num.specs.Forms.{IfWide, first_wide, plus_steps}
use Rattle.ae_num.specs.declared.numbers.NumFail.{NumFail}
use Rattle.ae_number_solving.proofs.differences.difference_refused.Goals as goal

pub returns-in-Ok : goal.returns-in-Ok
returns-in-Ok c =
    record {
      step_is = refl;
      key_is = refl;
      left_is = c.in-Ok.ensures;
      right_is = refl;
      wide_is = subst (λ (x : NumFail). IfWide x (λ wide. first_wide (plus_steps c.args.left.now c.args.negated) ≡ Some wide)) c.in-Wide.is c.requires.wide;
    }
