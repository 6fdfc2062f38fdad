-- An error that is passed on is the one that was met.
use Rattle.std.specs.Prelude.{◌≡◌, Err, IsErrAnd}
use Rattle.std.proofs.Common.{sym, ap, ◌∙◌, subst}
use Rattle.std.specs.declared.result.Result.{Result}
use Rattle.ae_theory.specs.declared.theory.Fail.{Fail}

pub passed_on : {A B : Type 0} {q : Result B Fail} {x : Fail} (r : Result A Fail) (e : Fail) → q ≡ Err e → IsErrAnd r (λ z. z ≡ e) → r ≡ Err x → q ≡ Err x
passed_on {x = x} r e was h w = was ∙ ap (λ (z : Fail). Err z) (sym (subst (λ s. IsErrAnd s (λ z. z ≡ e)) w h))
