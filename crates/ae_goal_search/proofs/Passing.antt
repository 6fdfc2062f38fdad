-- The error that a `?` passes on is the one that it met.
use Rattle.std.specs.Prelude.{◌≡◌, Result, Err, IsErrAnd}
use Rattle.std.proofs.Common.{sym, ◌∙◌}
use Rattle.std.proofs.lemmas.Result.{err_from_is_err_and}
use Rattle.ae_theory.specs.declared.theory.Fail.{Fail}

same_fail : {A : Type 0} (e f : Fail) → ◌≡◌ {A = Result A Fail} (Err e) (Err f) → e ≡ f
same_fail e f h = cc h

pub passed : {A : Type 0} (r : Result A Fail) (e x : Fail) → IsErrAnd r (λ z. z ≡ e) → r ≡ Err x → e ≡ x
passed {A = A} r e x h w = let p = err_from_is_err_and r h in sym p.2 ∙ same_fail {A = A} p.0 x (sym p.1 ∙ w)
