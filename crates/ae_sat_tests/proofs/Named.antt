-- Formulas and clauses whose terms have names.
use Rattle.std.proofs.Common.{◌≡◌, ◌∙◌, ℕ, ◌<◌, get_or, List, [], ◌∷◌, ◌++◌, true, true≢false, Option, Some, None, length, slice_get, sym, subst, arith, inl, inr}
use Rattle.std.specs.Option.{IfSome, is_some}
use Rattle.std.specs.List.{Contains}
use Rattle.std.proofs.lemmas.List.Elements.{Contains-append_cases}
use Rattle.std.proofs.lemmas.List.{get_or_default}
use Rattle.ae_core.proofs.Recursion.{fold_true, fold_or, fold_xor, fold_iff}
use Rattle.ae_core.specs.declared.terms.Term.{Term}
use Rattle.ae_core.specs.declared.formulas.Formula.{Formula, True, Eq, Not, Or, Xor, Iff}
use Rattle.ae_core.specs.declared.formulas.Lit.{Lit}
use Rattle.ae_rules.specs.Clauses.{Clause}
use Rattle.ae_journal.specs.States.{outside, outside_step}
use Rattle.ae_journal.proofs.Splits.{contains_at, contains_one, contains_cases}
use Rattle.ae_store.specs.Stores.{Stored}
use Rattle.ae_theory.specs.Names.{AreNamed, terms_in}
use Rattle.ae_sat.proofs.Outside.{outside_eq, outside_not}
use Rattle.ae_sat.specs.Standing.{IsOneOf}
use Rattle.ae_sat.specs.Search.{AllNamed}
use Rattle.ae_sat_tests.specs.Names.{IsNamed}

pub named_some : (s : Stored) (t : Term) (r : Option ℕ) → IfSome r (λ n. (n < length s.nodes) × (slice_get (terms_in s) n ≡ Some t)) → is_some r ≡ true → Contains (terms_in s) t
named_some s t None h e = absurd (true≢false (sym e))
named_some s t (Some n) h e = contains_at (terms_in s) n t h.1

outside_true : outside True ≡ []
unfolding outside
outside_true = fold_true (List Term) (Unit {0}) outside_step (λ q. tt)

pub named_true : (s : Stored) → AreNamed s True
named_true s t k = absurd (none (subst (λ (w : List Term). Contains w t) outside_true k))
  where
    none : Contains [] t → ⊥
    none k = omega (arith, k.1)

pub named_eq : (s : Stored) (a b : Term) → Contains (terms_in s) a → Contains (terms_in s) b → AreNamed s (Eq a b)
named_eq s a b h i t k = elim (contains_cases a (b ∷ []) t (subst (λ (w : List Term). Contains w t) (outside_eq a b) k)) as (λ _. Contains (terms_in s) t) [
  | inl q ↦ subst (Contains (terms_in s)) q h
  | inr r ↦ subst (Contains (terms_in s)) (contains_one b t r) i
]

pub named_not : (s : Stored) (a : Formula) → AreNamed s a → AreNamed s (Not a)
named_not s a h t k = h t (subst (λ (w : List Term). Contains w t) (outside_not a) k)

-- a formula of two parts
named_two : (s : Stored) (a b f : Formula) → outside f ≡ outside a ++ outside b → AreNamed s a → AreNamed s b → AreNamed s f
named_two s a b f o p q t k = elim (Contains-append_cases (outside a) (outside b) t (subst (λ (w : List Term). Contains w t) o k)) as (λ _. Contains (terms_in s) t) [
  | inl l ↦ p t l
  | inr r ↦ q t r
]

pub named_or : (s : Stored) (a b : Formula) → AreNamed s a → AreNamed s b → AreNamed s (Or a b)
unfolding outside
named_or s a b = named_two s a b (Or a b) (fold_or (List Term) (Unit {0}) outside_step (λ q. tt) a b)

pub named_xor : (s : Stored) (a b : Formula) → AreNamed s a → AreNamed s b → AreNamed s (Xor a b)
unfolding outside
named_xor s a b = named_two s a b (Xor a b) (fold_xor (List Term) (Unit {0}) outside_step (λ q. tt) a b)

pub named_iff : (s : Stored) (a b : Formula) → AreNamed s a → AreNamed s b → AreNamed s (Iff a b)
unfolding outside
named_iff s a b = named_two s a b (Iff a b) (fold_iff (List Term) (Unit {0}) outside_step (λ q. tt) a b)

pub named_none : (s : Stored) → IsNamed s []
named_none s l k = absurd (none k)
  where
    none : Contains [] l → ⊥
    none k = omega (arith, k.1)

-- a literal more
pub named_lit : (s : Stored) (c d : Clause) (l : Lit) → d ≡ c ++ l ∷ [] → IsNamed s c → AreNamed s l.formula → IsNamed s d
named_lit s c d l e h i m k = elim (Contains-append_cases c (l ∷ []) m (subst (λ (w : Clause). Contains w m) e k)) as (λ _. AreNamed s m.formula) [
  | inl r ↦ h m r
  | inr r ↦ subst (λ (x : Lit). AreNamed s x.formula) (contains_one l m r) i
]

pub all_none : (s : Stored) → AllNamed s []
all_none s c l o k = absurd (omega (arith, o.1))

-- what stands at a place is one of the clauses
pub one_at : (cs : List Clause) (i : ℕ) (d : Clause) → i < length cs → d ≡ get_or cs i d → IsOneOf cs d
one_at cs i d l e = (i, l, get_or_default cs i [] d l ∙ sym e)
