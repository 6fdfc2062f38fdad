use Rattle.std.specs.Prelude.{◌≡◌, Some}
use Rattle.std.proofs.Common.{refl, subst}
use Rattle.ae_num.specs.Forms.{IfWide, first_wide, plus_steps}
use Rattle.ae_num.specs.declared.numbers.NumFail.{NumFail}
use Rattle.ae_journal.specs.declared.answers.WideAt.{WideAt}
use Rattle.ae_row_differences.specs.Inner.Sums.{IsSumWide}
use Rattle.ae_row_differences.proofs.DifferenceWidths.{this_number}
use Rattle.ae_row_differences.proofs.differences.refused.Goals as goal

pub returns-in-Ok-clause-number : goal.returns-in-Ok-clause-number
returns-in-Ok-clause-number c w e =
    subst (λ (x : WideAt). IsSumWide c.args.upper.now c.args.negated x) (this_number _ w e) (record {
      step_is = refl;
      key_is = refl;
      left_is = c.in-Ok.ensures;
      right_is = refl;
      wide_is = subst (λ (x : NumFail). IfWide x (λ wide. first_wide (plus_steps c.args.upper.now c.args.negated) ≡ Some wide)) c.in-Wide.is c.requires.wide;
    })
