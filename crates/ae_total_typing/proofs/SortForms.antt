-- Sorts by their forms: an unknown, a sort without parts, or a declared type with its arguments. Their sizes, and what occurs in them.
use Rattle.std.proofs.Common.{◌≡◌, ℕ, ◌<◌, inl, inr, List, [], ◌∷◌, map, refl, ap, sym, ◌∙◌, subst, arith, nat_eq, if◌then◌else◌}
use Rattle.std.proofs.lemmas.Bool.{cases_lt}
use Rattle.std.proofs.lemmas.Bool.Decides.{nat_tests}
use Rattle.std.specs.List.{AllByRecursion}
use Rattle.ae_core.specs.Inner.Induction.{by_sorts}
use Rattle.ae_core.specs.declared.terms.Sort.{Sort, Var, Named, fold-roll-Sort}
use Rattle.ae_core.specs.declared.terms.Sort.TheOpen as layer
use Rattle.ae_core.specs.declared.terms.Sort.TheVariants.{rolls-Var, rolls-Rigid, rolls-Int, rolls-Real, rolls-Bool, rolls-Unit}
use Rattle.ae_types.specs.declared.graph.Constant.{Constant}
use Rattle.ae_types.specs.declared.graph.Constant.TheVariants as constant
use Rattle.ae_types.specs.Substitutions.{put}
use Rattle.ae_types.specs.Clashes.{total, count_of, count_step}
use Rattle.ae_types.specs.Inner.Graphs.{constant_sort}
use Rattle.ae_types.proofs.SortLaws.{put_named, put_var, put_constant, size, size_step, size_named, count_named, count_var, count_own}

-- induction by the three forms
pub by_forms : (P : Sort → Type 0) → ((x : ℕ) → P (Var x)) → ((c : Constant) → P (constant_sort c))
    → ((h : ℕ) (ss : List Sort) → AllByRecursion P ss → P (Named h ss)) → (s : Sort) → P s
by_forms P var plain named =
    by_sorts P var
    (λ i. plain (constant.Rigid i)) (plain constant.Int) (plain constant.Real) (plain constant.Bool) (plain constant.Unit) named

-- ---- sizes
size_var : (i : ℕ) → size (Var i) ≡ 1
unfolding size
size_var i = ap size (sym (rolls-Var i)) ∙ fold-roll-Sort ℕ size_step (layer.Var i)

size_constant : (c : Constant) → size (constant_sort c) ≡ 1
unfolding size
size_constant (constant.Rigid n) = ap size (sym (rolls-Rigid n)) ∙ fold-roll-Sort ℕ size_step (layer.Rigid n)
size_constant constant.Int = ap size (sym rolls-Int) ∙ fold-roll-Sort ℕ size_step layer.Int
size_constant constant.Real = ap size (sym rolls-Real) ∙ fold-roll-Sort ℕ size_step layer.Real
size_constant constant.Bool = ap size (sym rolls-Bool) ∙ fold-roll-Sort ℕ size_step layer.Bool
size_constant constant.Unit = ap size (sym rolls-Unit) ∙ fold-roll-Sort ℕ size_step layer.Unit

pub size_positive : (s : Sort) → 0 < size s
size_positive = by_forms (λ s. 0 < size s)
    (λ i. (let e = size_var i in omega arith))
    (λ c. (let e = size_constant c in omega arith))
    (λ h ss a. (let e = size_named h ss in omega arith))

-- ---- what occurs
count_constant : (x : ℕ) (c : Constant) → count_of x (constant_sort c) ≡ 0
unfolding count_of
count_constant x (constant.Rigid n) = ap (count_of x) (sym (rolls-Rigid n)) ∙ fold-roll-Sort ℕ (count_step x) (layer.Rigid n)
count_constant x constant.Int = ap (count_of x) (sym rolls-Int) ∙ fold-roll-Sort ℕ (count_step x) layer.Int
count_constant x constant.Real = ap (count_of x) (sym rolls-Real) ∙ fold-roll-Sort ℕ (count_step x) layer.Real
count_constant x constant.Bool = ap (count_of x) (sym rolls-Bool) ∙ fold-roll-Sort ℕ (count_step x) layer.Bool
count_constant x constant.Unit = ap (count_of x) (sym rolls-Unit) ∙ fold-roll-Sort ℕ (count_step x) layer.Unit

tested : (x i : ℕ) → 0 < (if nat_eq i x then 1 else 0) → i ≡ x
tested x i h = grind (arith, nat_tests)

-- in an unknown nothing but itself
pub only_itself : (x i : ℕ) → 0 < count_of x (Var i) → i ≡ x
only_itself x i h = tested x i (subst (λ n. 0 < n) (count_var x i) h)

pub none_in_constant : {P : Type 0} (x : ℕ) (c : Constant) → 0 < count_of x (constant_sort c) → P
none_in_constant x c h = absurd (let e = count_constant x c in omega arith)

pub in_itself : (x : ℕ) → 0 < count_of x (Var x)
in_itself x = let e = count_own x in omega arith

pub in_named : (x h : ℕ) (ss : List Sort) → 0 < total (map (count_of x) ss) → 0 < count_of x (Named h ss)
in_named x h ss p = subst (λ n. 0 < n) (sym (count_named x h ss)) p

pub in_arguments : (x h : ℕ) (ss : List Sort) → 0 < count_of x (Named h ss) → 0 < total (map (count_of x) ss)
in_arguments x h ss p = subst (λ n. 0 < n) (count_named x h ss) p

-- where sorts are put for unknowns, what occurs was there in one of those
module _ (f : ℕ → Sort) (y : ℕ) (Q : Type 0) where
  abbrev Found : Sort → Type 0
  Found s = ((x : ℕ) → 0 < count_of x s → 0 < count_of y (f x) → Q) → 0 < count_of y (put f s) → Q

  found_in : (ss : List Sort) → AllByRecursion Found ss → ((x : ℕ) → 0 < total (map (count_of x) ss) → 0 < count_of y (f x) → Q)
      → 0 < total (map (count_of y) (map (put f) ss)) → Q
  found_in [] a k h = absurd (omega arith)
  found_in (s ∷ ss) a k h =
      elim (cases_lt 0 (count_of y (put f s))) [
        | inl b ↦ a.0 (λ x p q. k x (omega arith) q) b
        | inr b ↦ found_in ss a.1 (λ x p q. k x (omega arith) q) (omega arith)
      ]

  pub found : (s : Sort) → Found s
  found = by_forms Found
      (λ i k h. k i (in_itself i) (subst (λ t. 0 < count_of y t) (put_var f i) h))
      (λ c k h. none_in_constant y c (subst (λ t. 0 < count_of y t) (put_constant f c) h))
      (λ n ss a k h. found_in ss a (λ x p q. k x (in_named x n ss p) q)
      (in_arguments y n (map (put f) ss) (subst (λ t. 0 < count_of y t) (put_named f n ss) h)))

-- what is put hangs on the unknowns that occur
module _ (f g : ℕ → Sort) where
  abbrev Agree : Sort → Type 0
  Agree s = ((x : ℕ) → 0 < count_of x s → f x ≡ g x) → put f s ≡ put g s

  agree_in : (ss : List Sort) → AllByRecursion Agree ss → ((x : ℕ) → 0 < total (map (count_of x) ss) → f x ≡ g x)
      → map (put f) ss ≡ map (put g) ss
  agree_in [] a k = refl
  agree_in (s ∷ ss) a k =
      ap (λ t. t ∷ map (put f) ss) (a.0 (λ x p. k x (omega arith))) ∙ ap (λ ts. put g s ∷ ts) (agree_in ss a.1 (λ x p. k x (omega arith)))

  pub agree : (s : Sort) → Agree s
  agree = by_forms Agree
      (λ i k. put_var f i ∙ k i (in_itself i) ∙ sym (put_var g i))
      (λ c k. put_constant f c ∙ sym (put_constant g c))
      (λ h ss a k. put_named f h ss ∙ ap (Named h) (agree_in ss a (λ x p. k x (in_named x h ss p))) ∙ sym (put_named g h ss))
