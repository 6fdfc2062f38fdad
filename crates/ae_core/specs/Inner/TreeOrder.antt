-- The order of trees is total and tells different trees apart, so formulas can be the keys of maps.
use Rattle.std.specs.Prelude.{◌≡◌}
use Rattle.std.specs.declared.cmp.Ordering.{Ordering}
use Rattle.std.specs.declared.cmp.Ordering.TheVariants.{Less, Equal, Greater}
use Rattle.std.specs.Ordering.{ordering_then, ordering_reverse}
use Rattle.std.specs.Cmp.{IsTotalOrder}
use Rattle.std.proofs.lemmas.Cmp.{nat_cmp_total, int_cmp_total, ranked, int_ranked, on_total}
use mathlib.Core.Path.{refl, sym, ap, ◌∙◌}
use Rattle.ae_core.specs.Orders.{Tree, number, whole, ◌▸◌, tree_order, formula_order, formula_tree}

then_flip : (a b : Ordering) → ordering_then (ordering_reverse a) (ordering_reverse b) ≡ ordering_reverse (ordering_then a b)
then_flip Less b = refl
then_flip Equal b = refl
then_flip Greater b = refl

pub then_first : (r s : Ordering) → ordering_then r s ≡ Equal → r ≡ Equal
then_first Less s e = cc e
then_first Equal s e = refl
then_first Greater s e = cc e

pub then_second : (r s : Ordering) → ordering_then r s ≡ Equal → s ≡ Equal
then_second Less s e = cc e
then_second Equal s e = e
then_second Greater s e = cc e

turn : (x y : Tree) → tree_order x y ≡ ordering_reverse (tree_order y x)
turn (number a) (number b) = nat_cmp_total.antisymm a b
turn (number a) (whole b) = refl
turn (number a) (c ▸ d) = refl
turn (whole a) (number b) = refl
turn (whole a) (whole b) = int_cmp_total.antisymm a b
turn (whole a) (c ▸ d) = refl
turn (a ▸ b) (number c) = refl
turn (a ▸ b) (whole c) = refl
turn (a ▸ b) (c ▸ d) = (λ i. ordering_then (turn a c i) (turn b d i)) ∙ then_flip (tree_order c a) (tree_order d b)

-- trees that the order doesn't tell apart are equal
pub tied : (x y : Tree) → tree_order x y ≡ Equal → x ≡ y
tied (number a) (number b) e = ap number (ranked a b Equal (sym e))
tied (number a) (whole b) e = cc e
tied (number a) (c ▸ d) e = cc e
tied (whole a) (number b) e = cc e
tied (whole a) (whole b) e = ap whole (int_ranked a b Equal (sym e))
tied (whole a) (c ▸ d) e = cc e
tied (a ▸ b) (number c) e = cc e
tied (a ▸ b) (whole c) e = cc e
tied (a ▸ b) (c ▸ d) e = λ i. tied a c (then_first (tree_order a c) (tree_order b d) e) i ▸ tied b d (then_second (tree_order a c) (tree_order b d) e) i

-- a step of the chain, by what the first parts answer
below : (a c e : Tree) (r s t m n : Ordering) → (tree_order a c ≡ Less → tree_order c e ≡ Less → tree_order a e ≡ Less) → (r ≡ Less → s ≡ Less → t ≡ Less) →
    tree_order a c ≡ m → tree_order c e ≡ n → ordering_then m r ≡ Less → ordering_then n s ≡ Less → ordering_then (tree_order a e) t ≡ Less
below a c e r s t Less Less f g p q h k = ap (λ o. ordering_then o t) (f p q)
below a c e r s t Less Equal f g p q h k = ap (λ o. ordering_then o t) (ap (tree_order a) (sym (tied c e q)) ∙ p)
below a c e r s t Less Greater f g p q h k = cc k
below a c e r s t Equal Less f g p q h k = ap (λ o. ordering_then o t) (ap (λ x. tree_order x e) (tied a c p) ∙ q)
below a c e r s t Equal Equal f g p q h k = ap (λ o. ordering_then o t) (ap (λ x. tree_order x e) (tied a c p) ∙ q) ∙ g h k
below a c e r s t Equal Greater f g p q h k = cc k
below a c e r s t Greater n f g p q h k = cc h

chain : (x y z : Tree) → tree_order x y ≡ Less → tree_order y z ≡ Less → tree_order x z ≡ Less
chain (number a) (number b) (number c) p q = nat_cmp_total.trans a b c p q
chain (whole a) (whole b) (whole c) p q = int_cmp_total.trans a b c p q
chain (a ▸ b) (c ▸ d) (e ▸ f) p q =
    below a c e (tree_order b d) (tree_order d f) (tree_order b f) (tree_order a c) (tree_order c e) (chain a c e) (chain b d f) refl refl p q
chain (number a) y (whole c) p q = refl
chain (number a) y (c ▸ d) p q = refl
chain (whole a) y (c ▸ d) p q = refl
chain x y z p q = cc

pub tree_total : IsTotalOrder tree_order
tree_total = record { antisymm = turn; trans = chain; congr = λ x y z e. ap (λ w. tree_order w z) (tied x y e) }

pub formula_total : IsTotalOrder formula_order
formula_total = on_total formula_tree tree_total
