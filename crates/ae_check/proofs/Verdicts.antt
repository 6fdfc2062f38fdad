-- Verdicts and failures.
use Rattle.std.specs.Prelude.{ℕ, ◌<◌, List, [], ◌≡◌, length, take, get_or, Ok, Err, IfErr, IsErrAnd}
use Rattle.std.proofs.Common.{sym, subst}
use Rattle.std.proofs.lemmas.Option.{slice_get-get_or}
use Rattle.std.specs.declared.result.Result.{Result}
use Rattle.ae_num.specs.Forms.{IfWide}
use Rattle.ae_num.specs.declared.numbers.Wide.{Wide}
use Rattle.ae_num.specs.declared.numbers.NumFail.{NumFail}
use Rattle.ae_num.specs.declared.numbers.NumFail.TheVariants as num
use Rattle.ae_core.specs.declared.problems.Problem.{Problem}
use Rattle.ae_core.specs.declared.proofs.ClauseLine.{ClauseLine}
use Rattle.ae_rules.specs.Derivations.{AreAllowed, IsAllowed}
use Rattle.ae_check.specs.declared.verdict.CheckFail.{CheckFail}
use Rattle.ae_check.specs.Verdicts.{StopsAt, IfNumber, failed}

-- the first line that isn't allowed
pub stops_at : (p : Problem) (g : ℕ) (ls : List ClauseLine) (i : ℕ) (d : ClauseLine) → i < length ls → AreAllowed p g [] (take i ls) → ¬ (IsAllowed p g (take i ls) (get_or ls i d)) → StopsAt p g ls i
stops_at p g ls i d b a n = record { before = a; line = get_or ls i d; is = slice_get-get_or ls i d b; refused = n }

-- a failure that is passed on, and what is said of it
pub failure_passed : {A : Type 0} (r : Result A CheckFail) (n : NumFail) (P : Wide → Type 0) → IsErrAnd r (λ x. x ≡ failed n) → IfWide n P → IfErr r (λ x. IfNumber x P)
failure_passed (Ok a) n P h f = tt
failure_passed (Err x) n P h f = subst (λ z. IfNumber z P) (sym h) (same n f)
  where
    same : (n : NumFail) → IfWide n P → IfNumber (failed n) P
    same (num.Wide w) f = f
    same (num.Memory m) f = tt
