-- Why a search stopped, by what a call says of its refusals, and a refusal that is passed on.
use Rattle.std.specs.Prelude.{ℕ, ◌≡◌, Result, Err, IsErrAnd}
use Rattle.std.proofs.Common.{refl, sym, ap, ◌∙◌, subst}
use Rattle.std.proofs.lemmas.Result.{err_from_is_err_and}
use Rattle.ae_between_rounds.specs.declared.search.Search.{Search}
use Rattle.ae_core.specs.declared.problems.Problem.{Problem}
use Rattle.ae_journal.specs.declared.answers.WideAt.{WideAt}
use Rattle.ae_ordered_rounds.specs.Comes.{HasOrdered}
use Rattle.ae_ordered_rounds.specs.declared.orders.Orders.{Orders}
use Rattle.ae_rounds.specs.Ended.{HasFailed, IsFull, IsWide}
use Rattle.ae_theory.specs.declared.theory.Fail.{Fail}
use Rattle.ae_theory.specs.declared.theory.Fail.TheVariants as fail

pub failed_by : (p : Problem) (g bound : ℕ) (o : Search) (e : Fail) → (e ≡ fail.Steps → IsFull p g bound o) → ((wide : WideAt) → e ≡ fail.Number wide → IsWide p g bound o wide) → HasFailed p g bound o e
failed_by p g bound o fail.Steps steps number = steps refl
failed_by p g bound o (fail.Number wide) steps number = number wide refl
failed_by p g bound o (fail.Memory failed) steps number = tt

-- what holds of a refusal holds of what is passed on
pub passed_on : {A : Type 0} (P : Result A Fail → Type 0) (r : Result A Fail) (e : Fail) → IsErrAnd r (λ x. x ≡ e) → P (Err e) → P r
passed_on P r e h k = let q = err_from_is_err_and r h in subst P (sym (q.1 ∙ ap (λ (x : Fail). Err x) q.2)) k

-- a round of the inequalities stops for the same reasons
pub failed_ordered : (p : Problem) (g bound : ℕ) (old new : Search) (k : Orders) (e : Fail) → HasOrdered p g bound old new k (Err e) → HasFailed p g bound new e
failed_ordered p g bound old new k fail.Steps h = h
failed_ordered p g bound old new k (fail.Number wide) h = h
failed_ordered p g bound old new k (fail.Memory failed) h = tt
