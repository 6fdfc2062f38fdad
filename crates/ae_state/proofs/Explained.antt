-- Conflicts and steps in a store that fits.
use Rattle.std.specs.Prelude.{ℕ, List, [], ◌≡◌, slice_get, Some}
use Rattle.std.proofs.Common.{sym, ◌∙◌, subst}
use Rattle.std.proofs.lemmas.List.{append-nil}
use Rattle.std.proofs.lemmas.Option.{same_Some}
use Rattle.ae_core.specs.declared.problems.Signature.{Signature}
use Rattle.ae_pmap.specs.Forest.{present}
use Rattle.ae_store.specs.Stores.{Stored}
use Rattle.ae_just.specs.Steps.{Fits}
use Rattle.ae_just.specs.declared.steps.Step.{Step}
use Rattle.ae_just.proofs.KeptLaws.{fits_kept}
use Rattle.ae_theory.specs.Names.{terms_in}
use Rattle.ae_conflicts.specs.declared.conflicts.Conflict.{Conflict}
use Rattle.ae_conflicts.specs.Conflicting.{IsConflict}
use Rattle.ae_conflicts.proofs.Kept.{conflict_kept}
use Rattle.ae_state.specs.declared.holding.Holding.{Holding}
use Rattle.ae_state.specs.Names.{all_terms}
use Rattle.ae_state.specs.Fitting.{FitsStore}
use Rattle.ae_state.specs.Complete.{IsOwnConflict}

module _ (o : Holding) (s : Stored) (fits : FitsStore o s) where
  pub steps_in_store : Fits s.signature (terms_in s) o.justs
  steps_in_store =
      subst (λ (sig : Signature). Fits sig (terms_in s) o.justs) (sym (fits.terms).signature) (fits_kept (all_terms o) (terms_in s) (fits.terms).keeps o.signature o.justs (fits.right).steps)

  pub own_in_store : (k : ℕ) → IsOwnConflict o k → (c : Conflict) → slice_get o.conflicts k ≡ Some c → IsConflict s.signature (terms_in s) o.justs (present o.assumed) c
  own_in_store k own c at =
      let same : own.conflict ≡ c = same_Some own.conflict c (sym own.at ∙ at) in
      let more : IsConflict o.signature (terms_in s) o.justs (present o.assumed) own.conflict =
      subst (λ (steps : List Step). IsConflict o.signature (terms_in s) steps (present o.assumed) own.conflict) (append-nil o.justs)
      (conflict_kept (present o.assumed) (present o.assumed) (record { each = λ place e h. h }) o.signature (all_terms o) (terms_in s) o.justs [] (fits.terms).keeps (fits.right).steps own.conflict own.is) in
      subst (λ (x : Signature × Conflict). IsConflict x.0 (terms_in s) o.justs (present o.assumed) x.1) (λ i. (sym (fits.terms).signature i, same i)) more
