-- The entries of short lists, one by one.
use Rattle.std.specs.Prelude.{ℕ, zero, suc, ◌≡◌, [], ◌∷◌, slice_get, Some, List}
use Rattle.std.proofs.lemmas.Option.{same_Some}
use mathlib.Core.Path.{subst}
use Rattle.ae_evaluation.proofs.ExampleSystem.{no_entry}

pub of_one : {A : Type 0} (x : A) (P : ℕ → A → Type 0) → P 0 x → (k : ℕ) (e : A) → slice_get (x ∷ []) k ≡ Some e → P k e
of_one x P p zero e i = subst (P 0) (same_Some x e i) p
of_one x P p (suc k) e i = absurd (no_entry k e i)

pub of_two : {A : Type 0} (x y : A) (P : ℕ → A → Type 0) → P 0 x → P 1 y → (k : ℕ) (e : A) → slice_get (x ∷ y ∷ []) k ≡ Some e → P k e
of_two x y P p q zero e i = subst (P 0) (same_Some x e i) p
of_two x y P p q (suc zero) e i = subst (P 1) (same_Some y e i) q
of_two x y P p q (suc (suc k)) e i = absurd (no_entry k e i)

pub of_three : {A : Type 0} (x y z : A) (P : ℕ → A → Type 0) → P 0 x → P 1 y → P 2 z → (k : ℕ) (e : A)
    → slice_get (x ∷ y ∷ z ∷ []) k ≡ Some e → P k e
of_three x y z P p q r zero e i = subst (P 0) (same_Some x e i) p
of_three x y z P p q r (suc zero) e i = subst (P 1) (same_Some y e i) q
of_three x y z P p q r (suc (suc zero)) e i = subst (P 2) (same_Some z e i) r
of_three x y z P p q r (suc (suc (suc k))) e i = absurd (no_entry k e i)

pub of_four : {A : Type 0} (w x y z : A) (P : ℕ → A → Type 0) → P 0 w → P 1 x → P 2 y → P 3 z → (k : ℕ) (e : A)
    → slice_get (w ∷ x ∷ y ∷ z ∷ []) k ≡ Some e → P k e
of_four w x y z P o p q r zero e i = subst (P 0) (same_Some w e i) o
of_four w x y z P o p q r (suc zero) e i = subst (P 1) (same_Some x e i) p
of_four w x y z P o p q r (suc (suc zero)) e i = subst (P 2) (same_Some y e i) q
of_four w x y z P o p q r (suc (suc (suc zero))) e i = subst (P 3) (same_Some z e i) r
of_four w x y z P o p q r (suc (suc (suc (suc k)))) e i = absurd (no_entry k e i)

-- something for each place of a list
abbrev pub AllAt : {A : Type 0} → List A → (ℕ → A → Type 0) → Type 0
AllAt [] P = Unit {0}
AllAt (x ∷ xs) P = P 0 x × AllAt xs (λ k. P (suc k))

pub places : {A : Type 0} (xs : List A) (P : ℕ → A → Type 0) → AllAt xs P → (k : ℕ) (e : A) → slice_get xs k ≡ Some e → P k e
places [] P a k e i = absurd (no_entry k e i)
places (x ∷ xs) P a zero e i = subst (P 0) (same_Some x e i) a.0
places (x ∷ xs) P a (suc k) e i = places xs (λ k. P (suc k)) a.1 k e i
