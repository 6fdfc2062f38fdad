-- Literals that stand among others, and what a clause makes true where all of its literals but one are false.
use Rattle.std.proofs.Common.{◌≡◌, ◌≢◌, zero, suc, ◌||◌, ◌++◌, true, false, cond, List, [], ◌∷◌, refl, sym, ap, ◌∙◌, arith, true≢false, ◌⊎◌, inl, inr, Some}
use Rattle.std.specs.List.{Contains, list_all}
use Rattle.std.proofs.lemmas.Bool.{and_from, or_left, or_right}
use Rattle.ae_base.specs.Decided.{decided}
use Rattle.ae_base.specs.Options.{when}
use Rattle.ae_base.proofs.Tests.{by_either, not_not}
use Rattle.ae_base.proofs.Decided.{decided_of, decided_yes}
use Rattle.ae_core.specs.Decided.{Lit_discrete}
use Rattle.ae_core.specs.declared.formulas.Lit.{Lit}
use Rattle.ae_rules.specs.Clauses.{Clause, opposite, stands, has_true, is_or_stands, next_false}

pub opposite_twice : (m : Lit) → opposite (opposite m) ≡ m
opposite_twice m = λ i. record { positive = not_not m.positive i; formula = m.formula }

-- ---- what stands
pub stands_more : (fs gs : List Lit) (m : Lit) → stands fs m ≡ true → stands (fs ++ gs) m ≡ true
stands_more [] gs m h = absurd (true≢false (sym h))
stands_more (x ∷ fs) gs m h =
    by_either (decided (Lit_discrete x m)) (stands fs m) h
    (λ e. or_left (decided (Lit_discrete x m)) (stands (fs ++ gs) m) e)
    (λ e. or_right (decided (Lit_discrete x m)) (stands (fs ++ gs) m) (stands_more fs gs m e))

pub stands_last : (fs : List Lit) (m : Lit) → stands (fs ++ m ∷ []) m ≡ true
stands_last [] m = or_left (decided (Lit_discrete m m)) false (decided_of (Lit_discrete m m) refl)
stands_last (x ∷ fs) m = or_right (decided (Lit_discrete x m)) (stands (fs ++ m ∷ []) m) (stands_last fs m)

pub stands_or_last : (fs : List Lit) (x m : Lit) → stands (fs ++ x ∷ []) m ≡ true → (stands fs m ≡ true) ⊎ (x ≡ m)
stands_or_last [] x m h = by_either (decided (Lit_discrete x m)) false h (λ e. inr (decided_yes (Lit_discrete x m) e)) (λ e. absurd (true≢false (sym e)))
stands_or_last (y ∷ fs) x m h =
    by_either (decided (Lit_discrete y m)) (stands (fs ++ x ∷ []) m) h
    (λ e. inl (or_left (decided (Lit_discrete y m)) (stands fs m) e))
    (λ e. elim (stands_or_last fs x m e) as (λ _. (stands (y ∷ fs) m ≡ true) ⊎ (x ≡ m)) [
      | inl s ↦ inl (or_right (decided (Lit_discrete y m)) (stands fs m) s)
      | inr q ↦ inr q
    ])

-- ---- one clause
pub none_true : (fs : List Lit) (c : Clause) → ((m : Lit) → Contains c m → stands fs (opposite m) ≡ false) → has_true fs c ≡ false
none_true fs [] h = refl
none_true fs (x ∷ c) h =
    (λ i. h x (zero, omega arith, refl) i || has_true fs c) ∙ none_true fs c (λ m k. h m (suc k.0, omega (arith, k.1), k.2))

pub all_stand : (fs : List Lit) (c : Clause) → ((m : Lit) → Contains c m → stands fs m ≡ true) → list_all (stands fs) c ≡ true
all_stand fs [] h = refl
all_stand fs (x ∷ c) h = and_from (stands fs x) (list_all (stands fs) c) (h x (zero, omega arith, refl)) (all_stand fs c (λ m k. h m (suc k.0, omega (arith, k.1), k.2)))

pub its_own : (fs : List Lit) (x : Lit) (c : Clause) → ((m : Lit) → Contains c m → m ≢ x → stands fs m ≡ true) → list_all (is_or_stands fs x) c ≡ true
its_own fs x [] h = refl
its_own fs x (y ∷ c) h =
    and_from (is_or_stands fs x y) (list_all (is_or_stands fs x) c)
    (elim (Lit_discrete x y) as (λ d. decided d || stands fs y ≡ true) [
      | yes e ↦ refl
      | no n ↦ h y (zero, omega arith, refl) (λ e. n (sym e))
    ])
    (its_own fs x c (λ m k. h m (suc k.0, omega (arith, k.1), k.2)))

-- a clause with one literal that isn't false makes that one true
pub one_open : (fs : List Lit) (c : Clause) (l : Lit) → stands fs l ≡ false → Contains c l → ((m : Lit) → Contains c m → m ≢ l → stands fs m ≡ true) → next_false fs c ≡ Some (opposite l)
one_open fs [] l s k h = absurd (omega (arith, k.1))
one_open fs (x ∷ c) l s k h = elim (Lit_discrete x l) as (λ _. next_false fs (x ∷ c) ≡ Some (opposite l)) [
  | yes e ↦
      let sx : stands fs x ≡ false = ap (stands fs) e ∙ s in
      let own : list_all (is_or_stands fs x) c ≡ true = its_own fs x c (λ m j d. h m (suc j.0, omega (arith, j.1), j.2) (λ q. d (q ∙ sym e))) in
      (λ i. cond (sx i) (next_false fs c) (when (own i) (opposite x))) ∙ ap (λ (w : Lit). Some (opposite w)) e
  | no n ↦
      let sx : stands fs x ≡ true = h x (zero, omega arith, refl) n in
      (λ i. cond (sx i) (next_false fs c) (when (list_all (is_or_stands fs x) c) (opposite x)))
      ∙ one_open fs c l s (later k n) (λ m j d. h m (suc j.0, omega (arith, j.1), j.2) d)
]
  where
    later : Contains (x ∷ c) l → x ≢ l → Contains c l
    later (zero, b, e) n = absurd (n e)
    later (suc j, b, e) n = (j, omega (arith, b), e)
