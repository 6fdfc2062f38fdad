-- An equation between terms that have names.
use Rattle.std.proofs.Common.{◌≡◌, ℕ, ◌<◌, List, [], ◌∷◌, true, true≢false, Option, Some, None, length, slice_get, sym, subst, inl, inr}
use Rattle.std.specs.Option.{IfSome, is_some}
use Rattle.std.specs.List.{Contains}
use Rattle.ae_core.specs.declared.terms.Term.{Term}
use Rattle.ae_core.specs.declared.formulas.Formula.{Eq}
use Rattle.ae_journal.proofs.Splits.{contains_at, contains_one, contains_cases}
use Rattle.ae_sat.proofs.Outside.{outside_eq}
use Rattle.ae_store.specs.Stores.{Stored}
use Rattle.ae_theory.specs.Names.{AreNamed, terms_in}

-- a term whose name was found
pub found : (s : Stored) (t : Term) (r : Option ℕ) → IfSome r (λ n. (n < length s.nodes) × (slice_get (terms_in s) n ≡ Some t)) → is_some r ≡ true
    → Contains (terms_in s) t
found s t None h e = absurd (true≢false (sym e))
found s t (Some n) h e = contains_at (terms_in s) n t h.1

pub equation : (s : Stored) (a b : Term) → Contains (terms_in s) a → Contains (terms_in s) b → AreNamed s (Eq a b)
equation s a b h i t k =
    let one = contains_cases a (b ∷ []) t (subst (λ (w : List Term). Contains w t) (outside_eq a b) k) in
    elim one as (λ _. Contains (terms_in s) t) [
      | inl q ↦ subst (Contains (terms_in s)) q h
      | inr r ↦ subst (Contains (terms_in s)) (contains_one b t r) i
    ]
