-- Equations whose sides have names.
use Rattle.std.specs.Prelude.{ℕ, ◌<◌, true, [], ◌∷◌, List, ◌≡◌, length, slice_get, Option, Some, None, IfSome, is_some}
use Rattle.std.specs.List.{Contains}
use Rattle.std.proofs.Common.{subst, inl, inr}
use Rattle.ae_base.proofs.Tests.{false_true}
use Rattle.ae_core.specs.declared.formulas.Formula.{Eq}
use Rattle.ae_core.specs.declared.terms.Term.{Term}
use Rattle.ae_evaluation.proofs.Literals.{outside-Eq}
use Rattle.ae_journal.proofs.Splits.{contains_at, contains_one, contains_cases}
use Rattle.ae_store.specs.Stores.{Stored}
use Rattle.ae_theory.specs.Names.{AreNamed, terms_in}

-- a term whose name was found
pub found : (s : Stored) (t : Term) (r : Option ℕ) → IfSome r (λ n. (n < length s.nodes) × (slice_get (terms_in s) n ≡ Some t)) → is_some r ≡ true → Contains (terms_in s) t
found s t None h e = false_true e
found s t (Some n) h e = contains_at (terms_in s) n t h.1

pub equation : (s : Stored) (a b : Term) → Contains (terms_in s) a → Contains (terms_in s) b → AreNamed s (Eq a b)
equation s a b h i t k =
    let one = contains_cases a (b ∷ []) t (subst (λ (w : List Term). Contains w t) (outside-Eq a b) k) in
    elim one as (λ _. Contains (terms_in s) t) [
      | inl q ↦ subst (Contains (terms_in s)) q h
      | inr r ↦ subst (Contains (terms_in s)) (contains_one b t r) i
    ]
