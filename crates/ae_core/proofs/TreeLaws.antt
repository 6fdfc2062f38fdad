-- How the order of trees tells different trees apart, and lists of trees go by their elements.
use Rattle.std.specs.Prelude.{ℕ, ◌+◌, min, drop, Bool, true, false, List, [], ◌∷◌, length, map, ◌≡◌, ◌↔◌}
use native.Mathlib.Omega.{arith}
use Rattle.std.specs.declared.cmp.Ordering.{Ordering}
use Rattle.std.specs.declared.cmp.Ordering.TheVariants.{Less, Equal, Greater}
use Rattle.std.specs.Ordering.{nat_cmp, ordering_then}
use Rattle.std.specs.Cmp.{nat_cmp_is}
use Rattle.std.proofs.Common.{length-drop}
use Rattle.std.specs.Cmp.Lexicographic.{slice_cmp}
use Rattle.std.proofs.lemmas.Cmp.{ranked, tied_itself}
use mathlib.Core.Path.{refl, sym, ap, ◌∙◌}
use Rattle.ae_core.specs.Inner.TreeOrder.{then_first, then_second, tied, tree_total}
use Rattle.ae_core.specs.Orders.{Tree, number, whole, ◌▸◌, tree_order, trees, flag, rank}

-- ---- values of different variants go by their ranks
abbrev pub rest : Tree → Tree
rest (t ▸ u) = u
rest t = t

-- a rank stands before the parts
abbrev pub Ranked : Tree → Type 0
Ranked t = number (rank t) ▸ rest t ≡ t

decides : (o p : Ordering) → (o ≡ Equal → ⊥) → o ≡ ordering_then o p
decides Less p n = refl
decides Equal p n = absurd (n refl)
decides Greater p n = refl

pub by_rank : (t u : Tree) → Ranked t → Ranked u → (rank t ≡ rank u → ⊥) → nat_cmp (rank t) (rank u) ≡ tree_order t u
by_rank (number a ▸ b) (number c ▸ d) p q n = decides (nat_cmp a c) (tree_order b d) (λ e. n (ranked a c Equal (sym e)))
by_rank (number a ▸ b) (whole c ▸ d) p q n = cc q
by_rank (number a ▸ b) ((c ▸ e) ▸ d) p q n = cc q
by_rank (number a ▸ b) (number c) p q n = cc q
by_rank (number a ▸ b) (whole c) p q n = cc q
by_rank t u p q n = cc p

-- the trees of two lists go as the lists do
pub lists_order : {A : Type 0} (f : A → Tree) (xs ys : List A) → tree_order (trees (map f xs)) (trees (map f ys)) ≡ slice_cmp (λ x y. tree_order (f x) (f y)) xs ys
lists_order f [] [] = refl
lists_order f [] (y ∷ ys) = refl
lists_order f (x ∷ xs) [] = refl
lists_order f (x ∷ xs) (y ∷ ys) = ap (ordering_then (tree_order (f x) (f y))) (lists_order f xs ys)

-- a list whose elements have their own trees
pub own_lists : {A : Type 0} (f : A → Tree) (xs : List ((x : A) × ((y : A) → f x ≡ f y → x ≡ y))) (ys : List A) → trees (map f (map (λ e. e.0) xs)) ≡ trees (map f ys) → map (λ e. e.0) xs ≡ ys
own_lists f [] [] e = refl
own_lists f [] (y ∷ ys) e = cc e
own_lists f (x ∷ xs) [] e = cc e
own_lists f (x ∷ xs) (y ∷ ys) e =
    let p : f x.0 ≡ f y = cc e in
    let q : trees (map f (map (λ e. e.0) xs)) ≡ trees (map f ys) = cc e in
    λ i. x.1 y p i ∷ own_lists f xs ys q i

-- a list of values that have their own trees
pub own_trees : {A : Type 0} (f : A → Tree) → ((x y : A) → f x ≡ f y → x ≡ y) → (xs ys : List A) → trees (map f xs) ≡ trees (map f ys) → xs ≡ ys
own_trees f own [] [] e = refl
own_trees f own [] (y ∷ ys) e = cc e
own_trees f own (x ∷ xs) [] e = cc e
own_trees f own (x ∷ xs) (y ∷ ys) e =
    let p : f x ≡ f y = cc e in
    let q : trees (map f xs) ≡ trees (map f ys) = cc e in
    λ i. own x y p i ∷ own_trees f own xs ys q i

pub own_flags : (a b : Bool) → flag a ≡ flag b → a ≡ b
own_flags true true e = refl
own_flags true false e = cc e
own_flags false true e = cc e
own_flags false false e = refl

-- ---- the orders of lists, and that they tell different values apart
pub lists_exact : {A : Type 0} (R : A → A → Ordering) → ((x y : A) → (R x y ≡ Equal) ↔ (x ≡ y)) → (xs ys : List A) → (slice_cmp R xs ys ≡ Equal) ↔ (xs ≡ ys)
lists_exact R x [] [] = (λ e. refl, λ e. refl)
lists_exact R x [] (b ∷ ys) = (λ e. cc e, λ e. cc e)
lists_exact R x (a ∷ xs) [] = (λ e. cc e, λ e. cc e)
lists_exact R x (a ∷ xs) (b ∷ ys) =
    let h = lists_exact R x xs ys in (
      λ e i. (x a b).0 (then_first (R a b) (slice_cmp R xs ys) e) i ∷ h.0 (then_second (R a b) (slice_cmp R xs ys) e) i,
      λ e. let p : a ≡ b = cc e in let q : xs ≡ ys = cc e in λ i. ordering_then ((x a b).1 p i) (h.1 q i),
    )

-- one of them has ended
ended : {A : Type 0} (R : A → A → Ordering) (xs ys : List A) (i m n : ℕ) → length xs + i ≡ m → length ys + i ≡ n → i ≡ min m n → slice_cmp R xs ys ≡ nat_cmp m n
ended R [] [] i m n p q e = nat_cmp_is m n Equal (omega (arith, p, q))
ended R [] (y ∷ ys) i m n p q e = nat_cmp_is m n Less (omega (arith, p, q))
ended R (x ∷ xs) [] i m n p q e = nat_cmp_is m n Greater (omega (arith, p, q))
ended R (x ∷ xs) (y ∷ ys) i m n p q e = absurd (omega (arith, p, q, e))

pub lists_end : {A : Type 0} (R : A → A → Ordering) (xs ys : List A) (i : ℕ) → i ≡ min (length xs) (length ys) → slice_cmp R (drop i xs) (drop i ys) ≡ nat_cmp (length xs) (length ys)
lists_end R xs ys i e = ended R (drop i xs) (drop i ys) i (length xs) (length ys) (omega (arith, length-drop i xs, e)) (omega (arith, length-drop i ys, e)) e

pub by_order : {P : Type 0} {r o : Ordering} → r ≡ o → ((o ≡ Equal) ↔ P) → (r ≡ Equal) ↔ P
by_order e h = (λ p. h.0 (sym e ∙ p), λ p. e ∙ h.1 p)

-- ---- one comparison and then another
pub then_assoc : (a b c : Ordering) → ordering_then (ordering_then a b) c ≡ ordering_then a (ordering_then b c)
then_assoc Less b c = refl
then_assoc Equal b c = refl
then_assoc Greater b c = refl

pub then_on : (o x y : Ordering) → y ≡ ordering_then o x → o ≡ Equal → x ≡ y
then_on o x y e p = sym (e ∙ ap (λ a. ordering_then a x) p)

pub then_stop : (o x y : Ordering) → y ≡ ordering_then o x → (o ≡ Equal → ⊥) → o ≡ y
then_stop o x y e n = decides o x n ∙ sym e

-- values with trees of their own, in the order of their trees
pub exact : {A : Type 0} (f : A → Tree) → ((x y : A) → f x ≡ f y → x ≡ y) → (x y : A) → (tree_order (f x) (f y) ≡ Equal) ↔ (x ≡ y)
exact f own x y = (λ e. own x y (tied (f x) (f y) e), λ e. ap (λ z. tree_order (f x) (f z)) (sym e) ∙ tied_itself tree_total (f x))
