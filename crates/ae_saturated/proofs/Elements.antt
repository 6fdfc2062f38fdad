-- Tests of the elements of a list, and literals that stand.
use Rattle.std.specs.Prelude.{Bool, true, ◌||◌, ◌≡◌, List, [], ◌∷◌}
use Rattle.std.specs.List.{Contains, list_all, list_any}
use Rattle.std.proofs.Common.{inl, inr}
use Rattle.std.proofs.lemmas.Bool.{and_parts, and_from, or_cases, or_left, or_right}
use mathlib.Core.Path.{refl, ap, subst, ◌∙◌}
use native.Mathlib.Omega.{arith}
use Rattle.ae_base.specs.Decided.{decided}
use Rattle.ae_base.proofs.Decided.{decided_of, decided_yes}
use Rattle.ae_core.specs.Decided.{Lit_discrete}
use Rattle.ae_core.specs.declared.formulas.Lit.{Lit}
use Rattle.ae_rules.specs.Clauses.{stands}
use Rattle.ae_journal.proofs.Splits.{contains_cases, contains_here, contains_later}

module _ {A : Type 0} (t : A → Bool) where
  pub all_tells : (xs : List A) → list_all t xs ≡ true → (x : A) → Contains xs x → t x ≡ true
  all_tells [] e x i = absurd (omega (arith, i.1))
  all_tells (z ∷ zs) e x i =
      let p = and_parts (t z) (list_all t zs) e in
      elim (contains_cases z zs x i) as (λ _. t x ≡ true) [ inl q ↦ subst (λ w. t w ≡ true) q p.0 | inr j ↦ all_tells zs p.1 x j ]

  pub by_all : (xs : List A) → ((x : A) → Contains xs x → t x ≡ true) → list_all t xs ≡ true
  by_all [] f = refl
  by_all (z ∷ zs) f = and_from (t z) (list_all t zs) (f z (contains_here z zs)) (by_all zs (λ x i. f x (contains_later z zs x i)))

  pub any_tells : (xs : List A) → list_any t xs ≡ true → (x : A) × Contains xs x × (t x ≡ true)
  any_tells [] e = absurd (cc)
  any_tells (z ∷ zs) e = elim (or_cases (t z) (list_any t zs) e) as (λ _. (x : A) × Contains (z ∷ zs) x × (t x ≡ true)) [
    | inl q ↦ (z, contains_here z zs, q)
    | inr r ↦ let w = any_tells zs r in (w.0, contains_later z zs w.0 w.1, w.2)
  ]

  pub by_any : (xs : List A) (x : A) → Contains xs x → t x ≡ true → list_any t xs ≡ true
  by_any [] x i e = absurd (omega (arith, i.1))
  by_any (z ∷ zs) x i e = elim (contains_cases z zs x i) as (λ _. t z || list_any t zs ≡ true) [
    | inl q ↦ or_left (t z) (list_any t zs) (ap t q ∙ e)
    | inr j ↦ or_right (t z) (list_any t zs) (by_any zs x j e)
  ]

pub stands_tells : (ls : List Lit) (l : Lit) → stands ls l ≡ true → Contains ls l
stands_tells ls l e =
    let w = any_tells (λ m. decided (Lit_discrete m l)) ls e in
    subst (Contains ls) (decided_yes (Lit_discrete w.0 l) w.2) w.1

pub by_stands : (ls : List Lit) (l : Lit) → Contains ls l → stands ls l ≡ true
by_stands ls l i = by_any (λ m. decided (Lit_discrete m l)) ls l i (decided_of (Lit_discrete l l) refl)
