-- Widths of steps on forms that have other names.
use Rattle.std.specs.Prelude.{◌≡◌}
use Rattle.std.proofs.Common.{sym, subst}
use Rattle.ae_num.specs.declared.forms.Lin.{Lin}
use Rattle.ae_journal.specs.declared.answers.NumStep.{NumStep}
use Rattle.ae_journal.specs.declared.answers.WideAt.{WideAt}
use Rattle.ae_value_fitting.specs.declared.refusals.Refused.{Refused}
use Rattle.ae_value_fitting.specs.declared.refusals.Refused.TheVariants.{Number, Memory}
use Rattle.ae_value_fitting.specs.Refusals.{IfNumber}
use Rattle.ae_take_in.specs.Widths.{IsStepWide}

pub if_number : {P Q : WideAt → Type 0} (r : Refused) → ((w : WideAt) → P w → Q w) → IfNumber r P → IfNumber r Q
if_number (Number w) f h = f w h
if_number (Memory m) f h = tt

pub wide_same : (r : Refused) (s : NumStep) (f g h k : Lin) → f ≡ g → h ≡ k → IfNumber r (λ w. IsStepWide s f h w) → IfNumber r (λ w. IsStepWide s g k w)
wide_same r s f g h k e d i = subst (λ (x : Lin). IfNumber r (λ w. IsStepWide s g x w)) d (subst (λ (x : Lin). IfNumber r (λ w. IsStepWide s x h w)) e i)

-- the right form, as the width has it
pub own_right : (s : NumStep) (f h : Lin) (w : WideAt) → IsStepWide s f h w → IsStepWide s f w.right w
own_right s f h w i = subst (λ (x : Lin). IsStepWide s f x w) (sym i.right) i
