-- What a verdict says of a proof of the goal at place g among the items of a problem.
use Rattle.std.specs.Prelude.{ℕ, List, [], ◌≡◌, ◌≢◌, ◌⊎◌, take, length, slice_get, Some}
use Rattle.ae_base.specs.Options.{◌>>=◌}
use Rattle.ae_num.specs.declared.numbers.Wide.{Wide}
use Rattle.ae_num.specs.declared.numbers.NumFail.{NumFail}
use Rattle.ae_num.specs.declared.numbers.NumFail.TheVariants as num
use Rattle.ae_core.specs.declared.problems.Problem.{Problem}
use Rattle.ae_core.specs.declared.proofs.ClauseLine.{ClauseLine}
use Rattle.ae_core.specs.declared.proofs.Proof.{Proof}
use Rattle.ae_rules.specs.Derivations.{AreAllowed, IsAllowed, Derives, last_of, conclusion}
use Rattle.ae_check.specs.declared.verdict.Verdict.{Verdict}
use Rattle.ae_check.specs.declared.verdict.Verdict.TheVariants.{Accepted, Refused}
use Rattle.ae_check.specs.declared.verdict.CheckFail.{CheckFail}
use Rattle.ae_check.specs.declared.verdict.CheckFail.TheVariants.{Number, Memory}

-- line k is the first that isn't allowed after those before it
pub record StopsAt (p : Problem) (g : ℕ) (lines : List ClauseLine) (k : ℕ) : Type 0 where
  pub before : AreAllowed p g [] (take k lines)
  pub line : ClauseLine
  pub is : slice_get lines k ≡ Some line
  pub refused : ¬ (IsAllowed p g (take k lines) line)

-- each line is allowed, k is their number, and the last one doesn't state the empty clause
pub record IsUnfinished (p : Problem) (g : ℕ) (lines : List ClauseLine) (k : ℕ) : Type 0 where
  pub allowed : AreAllowed p g [] lines
  pub number : k ≡ length lines
  pub unfinished : (last_of lines >>= conclusion p g) ≢ Some []

abbrev pub Says : Problem → ℕ → Proof → Verdict → Type 0
Says p g proof Accepted = Derives p g proof
Says p g proof (Refused k) = StopsAt p g proof.lines k ⊎ IsUnfinished p g proof.lines k

-- what is said of the operands of a width
abbrev pub IfNumber : CheckFail → (Wide → Type 0) → Type 0
IfNumber (Number w) P = P w
IfNumber (Memory m) P = Unit {0}

-- the same failure
abbrev pub failed : NumFail → CheckFail
failed (num.Wide w) = Number w
failed (num.Memory m) = Memory m
