-- One step of unit propagation.
use Rattle.std.specs.Prelude.{ℕ, zero, suc, ◌+◌, ◌<◌, ◌≤◌, Bool, true, false, cond, List, [], ◌∷◌, ◌++◌, ◌≡◌, length, drop, get_or, Option, Some, None}
use Rattle.std.specs.List.{list_all}
use mathlib.Core.Path.{refl, ap, ◌∙◌}
use native.Mathlib.Omega.{arith}
use Rattle.ae_base.specs.Options.{when}
use Rattle.ae_rules.specs.Clauses.{Clause, opposite, stands, has_true, is_or_stands, next_false, refutes}
use Rattle.ae_core.specs.declared.formulas.Lit.{Lit}

one_more : (i : ℕ) → suc i ≡ i + 1
one_more i = omega arith

abbrev here : List Lit → Clause → ℕ → Lit → ℕ → Bool → Option Lit
here fs c i d k b = cond b (next_false fs (drop k c)) (when (list_all (is_or_stands fs (get_or c i d)) (drop k c)) (opposite (get_or c i d)))

next_go : (fs : List Lit) (c : Clause) (i : ℕ) (d : Lit) → i < length c → next_false fs (drop i c) ≡ here fs c i d (suc i) (stands fs (get_or c i d))
next_go fs [] i d b = absurd (omega (arith, b))
next_go fs (x ∷ c) zero d b = refl
next_go fs (x ∷ c) (suc i) d b = next_go fs c i d (omega (arith, b))

-- what a clause makes false, from its place i on
pub next_skip : (fs : List Lit) (c : Clause) (i : ℕ) (d : Lit) → i < length c → stands fs (get_or c i d) ≡ true → next_false fs (drop i c) ≡ next_false fs (drop (i + 1) c)
next_skip fs c i d b t = next_go fs c i d b ∙ (λ j. here fs c i d (one_more i j) (t j))

pub next_open : (fs : List Lit) (c : Clause) (i : ℕ) (d : Lit) → i < length c → stands fs (get_or c i d) ≡ false → list_all (is_or_stands fs (get_or c i d)) (drop (i + 1) c) ≡ true → next_false fs (drop i c) ≡ Some (opposite (get_or c i d))
next_open fs c i d b t a = next_go fs c i d b ∙ (λ j. here fs c i d (one_more i j) (t j)) ∙ ap (λ h. when h (opposite (get_or c i d))) a

pub next_two : (fs : List Lit) (c : Clause) (i : ℕ) (d : Lit) → i < length c → stands fs (get_or c i d) ≡ false → list_all (is_or_stands fs (get_or c i d)) (drop (i + 1) c) ≡ false → next_false fs (drop i c) ≡ None
next_two fs c i d b t a = next_go fs c i d b ∙ (λ j. here fs c i d (one_more i j) (t j)) ∙ ap (λ h. when h (opposite (get_or c i d))) a

pub next_end : (fs : List Lit) (c : Clause) (i : ℕ) → length c ≤ i → next_false fs (drop i c) ≡ None
next_end fs [] zero b = refl
next_end fs [] (suc i) b = refl
next_end fs (x ∷ c) zero b = absurd (omega (arith, b))
next_end fs (x ∷ c) (suc i) b = next_end fs c i (omega (arith, b))

refutes_go : (fs : List Lit) (cs : List Clause) (i : ℕ) (d : Clause) → i + 1 < length cs → refutes fs (drop i cs) ≡ cond (has_true fs (get_or cs i d)) (refutes fs (drop (suc i) cs)) (elim (next_false fs (get_or cs i d)) [ Some l ↦ refutes (fs ++ l ∷ []) (drop (suc i) cs) | None ↦ false ])
refutes_go fs [] i d b = absurd (omega (arith, b))
refutes_go fs (c ∷ []) i d b = absurd (omega (arith, b))
refutes_go fs (c ∷ e ∷ cs) zero d b = refl
refutes_go fs (c ∷ e ∷ cs) (suc i) d b = refutes_go fs (e ∷ cs) i d (omega (arith, b))

refutes_step : (fs : List Lit) (cs : List Clause) (i : ℕ) (d : Clause) → i + 1 < length cs → refutes fs (drop i cs) ≡ cond (has_true fs (get_or cs i d)) (refutes fs (drop (i + 1) cs)) (elim (next_false fs (get_or cs i d)) [ Some l ↦ refutes (fs ++ l ∷ []) (drop (i + 1) cs) | None ↦ false ])
refutes_step fs cs i d b =
    refutes_go fs cs i d b ∙ (λ j. cond (has_true fs (get_or cs i d)) (refutes fs (drop (one_more i j) cs)) (elim (next_false fs (get_or cs i d)) [ Some l ↦ refutes (fs ++ l ∷ []) (drop (one_more i j) cs) | None ↦ false ]))

choose : Bool → Bool → Option Lit → (Lit → Bool) → Bool
choose t skipped next after = cond t skipped (elim next [ Some l ↦ after l | None ↦ false ])

pub refutes_true : (fs : List Lit) (cs : List Clause) (i : ℕ) (d : Clause) → i + 1 < length cs → has_true fs (get_or cs i d) ≡ true → refutes fs (drop i cs) ≡ refutes fs (drop (i + 1) cs)
unfolding choose
refutes_true fs cs i d b t =
    refutes_step fs cs i d b ∙ ap (λ h. choose h (refutes fs (drop (i + 1) cs)) (next_false fs (get_or cs i d)) (λ l. refutes (fs ++ l ∷ []) (drop (i + 1) cs))) t

pub refutes_next : (fs : List Lit) (cs : List Clause) (i : ℕ) (d : Clause) (l : Lit) → i + 1 < length cs → has_true fs (get_or cs i d) ≡ false → next_false fs (get_or cs i d) ≡ Some l → refutes fs (drop i cs) ≡ refutes (fs ++ l ∷ []) (drop (i + 1) cs)
unfolding choose
refutes_next fs cs i d l b t n =
    refutes_step fs cs i d b ∙ (λ j. choose (t j) (refutes fs (drop (i + 1) cs)) (n j) (λ l. refutes (fs ++ l ∷ []) (drop (i + 1) cs)))

pub refutes_none : (fs : List Lit) (cs : List Clause) (i : ℕ) (d : Clause) → i + 1 < length cs → has_true fs (get_or cs i d) ≡ false → next_false fs (get_or cs i d) ≡ None → refutes fs (drop i cs) ≡ false
unfolding choose
refutes_none fs cs i d b t n =
    refutes_step fs cs i d b ∙ (λ j. choose (t j) (refutes fs (drop (i + 1) cs)) (n j) (λ l. refutes (fs ++ l ∷ []) (drop (i + 1) cs)))

pub refutes_last : (fs : List Lit) (cs : List Clause) (i : ℕ) (d : Clause) → i + 1 ≡ length cs → refutes fs (drop i cs) ≡ list_all (stands fs) (get_or cs i d)
refutes_last fs [] i d b = absurd (omega (arith, b))
refutes_last fs (c ∷ []) zero d b = refl
refutes_last fs (c ∷ []) (suc i) d b = absurd (omega (arith, b))
refutes_last fs (c ∷ e ∷ cs) zero d b = absurd (omega (arith, b))
refutes_last fs (c ∷ e ∷ cs) (suc i) d b = refutes_last fs (e ∷ cs) i d (omega (arith, b))
