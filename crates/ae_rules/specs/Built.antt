-- Terms that are built of given ones, as those of an explanation are of the names of a store.
use Rattle.std.specs.Prelude.{ℕ, ℤ, pos, Bool, true, false, cond, List, [], ◌∷◌, ◌≡◌, ◌⊎◌, slice_get, Some}
use Rattle.std.specs.List.{AllByRecursion, Contains}
use Rattle.ae_core.specs.Sorts.{sort_of, within}
use Rattle.ae_core.specs.declared.terms.Sort.{Sort, Int}
use Rattle.ae_core.specs.declared.terms.Term.{Term, Num, Apply}
use Rattle.ae_core.specs.declared.terms.Head.{Head}
use Rattle.ae_core.specs.declared.terms.Op.{Op}
use Rattle.ae_core.specs.declared.terms.Op.TheVariants as op
use Rattle.ae_core.specs.declared.terms.Head.TheVariants as head
use Rattle.ae_core.specs.declared.problems.Signature.{Signature}
use Rattle.ae_core.specs.declared.proofs.EqLine.{EqLine}
use Rattle.ae_core.specs.declared.proofs.EqLine.TheVariants.{EqLin, LeSum, LtSum}
use Rattle.ae_core.specs.declared.proofs.Scaled.{Scaled}
use Rattle.ae_core.specs.declared.proofs.Relation.TheVariants.{Equal}
use Rattle.ae_rules.specs.Linear.{is_plain}
use Rattle.ae_rules.specs.Lines.{IsAc, states}

-- one of the terms is an integer
abbrev pub HasIntegers : Signature → List Term → Type 0
HasIntegers sig ts = (n : ℕ) × (t : Term) × (slice_get ts n ≡ Some t) × (sort_of sig t ≡ Some Int)

-- one of the terms isn't plain
abbrev pub HasUnplain : List Term → Type 0
HasUnplain ts = (n : ℕ) × (t : Term) × (slice_get ts n ≡ Some t) × (is_plain t ≡ false)

-- one of the terms applies the symbol, with these sorts for its variables
pub record HasApplied (ts : List Term) (k : ℕ) (ss : List Sort) : Type 0 where
  pub name : ℕ
  pub arguments : List Term
  pub there : slice_get ts name ≡ Some (Apply (head.Symbol k) ss arguments)

-- a whole number, as a numeral of `real` or of `int`
abbrev pub numeral : Bool → ℤ → Term
numeral real z = Num z (pos 1) real

abbrev pub computed : Bool → Op → Term → Term → Term
computed real o s t = Apply (cond real (head.Real o) (head.Int o)) [] (s ∷ t ∷ [])

-- the term is one of the given terms; a whole number, of `int` only where one of these is an integer; one of them times a whole number; a sum of such terms; or
-- what a declared AC symbol that one of them applies joins of such terms. Where a given term isn't plain, any symbol may join them
pub data IsBuilt (sig : Signature) (ts : List Term) : Term → Type 0 where
  of_name : (u : Term) → Contains ts u → IsBuilt sig ts u
  of_number : (u : Term) (real : Bool) (z : ℤ) → u ≡ numeral real z → (real ≡ true) ⊎ HasIntegers sig ts → IsBuilt sig ts u
  of_product : (u : Term) (real : Bool) (z : ℤ) (t : Term) → u ≡ computed real op.Mul (numeral real z) t → Contains ts t → IsBuilt sig ts u
  of_sum : (u : Term) (real : Bool) (s t : Term) → u ≡ computed real op.Add s t → IsBuilt sig ts s → IsBuilt sig ts t → IsBuilt sig ts u
  of_symbol : (u : Term) (k : ℕ) (ss : List Sort) (s t : Term) → u ≡ Apply (head.Symbol k) ss (s ∷ t ∷ []) → IsAc sig (head.Symbol k) → HasApplied ts k ss → IsBuilt sig ts s → IsBuilt sig ts t → IsBuilt sig ts u
  of_unplain : (u : Term) (h : Head) (ss : List Sort) (s t : Term) → u ≡ Apply h ss (s ∷ t ∷ []) → HasUnplain ts → IsBuilt sig ts s → IsBuilt sig ts t → IsBuilt sig ts u

-- each factor of a sum has 127 bits beside its sign
abbrev pub AreFactorsWithin : ℤ → List Scaled → Type 0
AreFactorsWithin d ps = (within d ≡ true) × AllByRecursion (λ p. within p.factor ≡ true) ps

abbrev pub HasFactorsWithin : EqLine → Type 0
HasFactorsWithin (EqLin s t d ps) = AreFactorsWithin d ps
HasFactorsWithin (LeSum s t d ps) = AreFactorsWithin d ps
HasFactorsWithin (LtSum s t d ps) = AreFactorsWithin d ps
HasFactorsWithin _ = Unit {0}

-- a line that states an equation of two such terms, with factors within their limits
pub record IsBuiltEquation (sig : Signature) (ts : List Term) (l : EqLine) : Type 0 where
  pub equation : (states l).relation ≡ Equal
  pub left : IsBuilt sig ts (states l).left
  pub right : IsBuilt sig ts (states l).right
  pub factors : HasFactorsWithin l
