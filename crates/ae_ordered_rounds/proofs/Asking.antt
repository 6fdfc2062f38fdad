-- Whether a trail has the order of two numbers.
use Rattle.std.specs.Prelude.{◌≡◌, Bool, true, false, List, Option, Some, None, MatchBool, IfSome}
use Rattle.std.proofs.Common.{sym, subst}
use Rattle.ae_core.specs.declared.formulas.Formula.{Eq, Lt}
use Rattle.ae_core.specs.declared.formulas.Lit.{Lit}
use Rattle.ae_core.specs.declared.terms.Term.{Term}
use Rattle.ae_explain.specs.declared.trail.Assigned.{Assigned}
use Rattle.ae_order_counts.specs.Counts.{IsOrderOpen}
use Rattle.ae_ordered_rounds.specs.Inner.Orderable.{IsTrueInequality}
use Rattle.ae_propagation.specs.Settled.{Holds}
use Rattle.ae_rules.specs.Clauses.{is_true}
use Rattle.ae_tight_sides.specs.declared.sides.Sides.{Sides}

-- ---- by a truth value
pub where_true : (P Q : Type 0) (b : Bool) → b ≡ true → MatchBool b P Q → P
where_true P Q b e h = subst (λ (z : Bool). MatchBool z P Q) e h

pub where_false : (P Q : Type 0) (b : Bool) → b ≡ false → MatchBool b P Q → Q
where_false P Q b e h = subst (λ (z : Bool). MatchBool z P Q) e h

pub said_of : (t : List Assigned) (l m : Lit) (b : Bool) → l ≡ m → MatchBool b (Holds t l) (¬ Holds t l) → MatchBool b (Holds t m) (¬ Holds t m)
said_of t l m b e h = subst (λ (k : Lit). MatchBool b (Holds t k) (¬ Holds t k)) e h

-- the last of the four literals decides
pub order_known : (t : List Assigned) (s u : Term) (b : Bool) → ¬ Holds t (is_true (Lt s u)) → ¬ Holds t (is_true (Lt u s)) → ¬ Holds t (is_true (Eq s u))
    → MatchBool b (Holds t (is_true (Eq u s))) (¬ Holds t (is_true (Eq u s))) → MatchBool b (¬ IsOrderOpen t s u) (IsOrderOpen t s u)
order_known t s u true below above equal h = λ o. o.turned h
order_known t s u false below above equal h = record { equal = equal; turned = h; below = below; above = above }

-- what holds of sides holds of those of them whose order is open
pub sides_open : (P : Sides → Type 0) (t : List Assigned) (both : Sides) (found : Option Sides) → P both → IfSome found (λ z. (z ≡ both) × IsOrderOpen t z.left z.right)
    → IfSome found (λ z. P z × IsOrderOpen t z.left z.right)
sides_open P t both None p h = tt
sides_open P t both (Some z) p h = (subst P (sym h.0) p, h.1)

-- the sides of a true inequality whose order is open
abbrev pub AreOpenIn : List Assigned → Sides → Type 0
AreOpenIn t both = IsTrueInequality t both × IsOrderOpen t both.left both.right

pub open_ones : (t : List Assigned) (found : Option Sides) (both : Sides) → found ≡ Some both → IfSome found (AreOpenIn t) → AreOpenIn t both
open_ones t found both e h = subst (λ (o : Option Sides). IfSome o (AreOpenIn t)) e h
