-- Errors that are passed on.
use Rattle.std.specs.Prelude.{◌≡◌, Result, Ok, Err, IsErrAnd, IfErr}
use Rattle.std.proofs.Common.{sym, subst}
use Rattle.ae_journal.specs.declared.answers.WideAt.{WideAt}
use Rattle.ae_value_fitting.specs.declared.refusals.Refused.{Refused}
use Rattle.ae_value_fitting.specs.Refusals.{IfNumber}
use Rattle.ae_take_in.proofs.Widths.{if_number}

-- what is said of the width that is passed on
pub wide_passed : {T : Type 0} {P Q : WideAt → Type 0} (r : Result T Refused) (e : Refused) → IsErrAnd r (λ x. x ≡ e) → ((w : WideAt) → P w → Q w) → IfNumber e P → IfErr r (λ x. IfNumber x Q)
wide_passed (Ok x) e h f p = tt
wide_passed {T} {P} {Q} (Err x) e h f p = subst (λ z. IfNumber z Q) (sym h) (if_number e f p)
