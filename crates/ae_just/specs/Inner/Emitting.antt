-- Lines for the first ones of the steps that are needed.
use Rattle.std.specs.Prelude.{ℕ, suc, ◌<◌, cond, nat_eq, List, [], ◌∷◌, ◌≡◌, take, length, slice_get, Some}
use Rattle.std.specs.List.{AllByRecursion}
use Rattle.ae_rules.specs.Built.{HasFactorsWithin}
use Rattle.ae_rules.specs.Lines.{Stated, AllAllowed, fact_ok}
use Rattle.ae_core.specs.declared.terms.Term.{Term}
use Rattle.ae_core.specs.declared.formulas.Lit.{Lit}
use Rattle.ae_core.specs.declared.problems.Signature.{Signature}
use Rattle.ae_core.specs.declared.proofs.EqLine.{EqLine}
use Rattle.ae_just.specs.declared.steps.Step.{Step}
use Rattle.ae_just.specs.Steps.{fact_of}
use Rattle.ae_just.specs.Needed.{literals}

-- the place of a number; the length where it has none
abbrev pub place : List ℕ → ℕ → ℕ
place [] k = 0
place (n ∷ ns) k = cond (nat_eq n k) 0 (suc (place ns k))

pub record IsEmitted (sig : Signature) (ts : List Term) (steps : List Step) (ks : List ℕ) (hyps : List Lit) (i : ℕ) (lines : List EqLine) (count : ℕ) : Type 0 where
  pub long : length lines ≡ i
  pub count_is : count ≡ length (literals ts steps (take i ks))
  pub allowed : AllAllowed sig (fact_ok sig) hyps [] lines
  pub factors : AllByRecursion HasFactorsWithin lines
  pub stated : (j k : ℕ) (s : Step) → j < i → slice_get ks j ≡ Some k → slice_get steps k ≡ Some s → Stated lines j (fact_of ts s)
