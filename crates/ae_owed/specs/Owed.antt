-- When no instance is owed, and what is taken then.
use Rattle.std.specs.Prelude.{ℕ, ◌<◌, ◌≤◌, Bool, true, false, List, ◌≡◌, slice_get, Some}
use Rattle.std.specs.List.{AllByRecursion, Contains}
use Rattle.ae_base.specs.Relations.{Pairwise}
use Rattle.ae_core.specs.declared.formulas.Formula.{Formula, out-Formula}
use Rattle.ae_core.specs.declared.formulas.Lit.{Lit}
use Rattle.ae_core.specs.declared.formulas.Quant.{Quant}
use Rattle.ae_core.specs.declared.problems.Problem.{Problem}
use Rattle.ae_core.specs.declared.terms.Sort.{Sort}
use Rattle.ae_core.specs.declared.terms.Term.{Term}
use Rattle.ae_rules.specs.Clauses.{Clause}
use Rattle.ae_rules.specs.Instances.{fresh_clause}
use Rattle.ae_journal.specs.Sizes.{IsSmall}
use Rattle.ae_journal.specs.States.{Owner, of_literal, of_axiom, Selection, AreSame, instances_of, is_universal, quant_of}
use Rattle.ae_journal.specs.declared.systems.System.{System}
use Rattle.ae_store.specs.Shapes.{shapes}
use Rattle.ae_store.specs.Stores.{Stored, IsStore}
use Rattle.ae_store.specs.Terms.{terms}
use Rattle.ae_owed.specs.Generations.{IsCovered}
use Rattle.ae_owed.specs.Instances.{Instance, brought}
use Rattle.ae_owed.specs.Known.{AreAlike, IsFoundAt}

-- the literal of an owner is one of these; an axiom is always there
abbrev pub OwnerIsThere : List Lit → Owner → Type 0
OwnerIsThere lits (of_literal l) = Contains lits l
OwnerIsThere lits (of_axiom k) = Unit {0}

-- one of the instances is of this owner, with the same sorts and terms that are the same
pub record HasSame (s : Stored) (alike : ℕ → ℕ → Bool) (instances : List Instance) (o : Owner) (us : List Sort) (ts : List Term) : Type 0 where
  pub instance : Instance
  pub among : Contains instances instance
  pub owner : instance.owner ≡ o
  pub sorts : instance.sorts ≡ us
  pub terms : Pairwise (AreAlike s alike) ts instance.terms

-- each match at a number below the bound whose instance is within the limits is the same as one that was noted, and none of those that were has a greater number
-- than one at which it is a match
pub record IsNoneOwed (p : Problem) (g bound : ℕ) (lits : List Lit) (s : Stored) (alike : ℕ → ℕ → Bool) (instances : List Instance) : Type 0 where
  pub noted : (n : ℕ) (o : Owner) (us : List Sort) (ts : List Term) → n < bound → OwnerIsThere lits o → IsFoundAt p g s alike n o us ts → AllByRecursion (λ e. IsSmall e.1) (instances_of p g o us ts)
      → HasSame s alike instances o us ts
  pub least : (n : ℕ) (i : Instance) → n < bound → Contains instances i → OwnerIsThere lits i.owner → IsFoundAt p g s alike n i.owner i.sorts i.terms → i.number ≤ n

-- the names of a store that are alike are those whose terms are the same in a system
pub record AreThoseAlike (s : Stored) (alike : ℕ → ℕ → Bool) (y : System) : Type 0 where
  pub same : (t u : Term) → AreAlike s alike t u → AreSame s.signature y t u
  pub alike_ones : (m n : ℕ) (t u : Term) → slice_get (terms (shapes s.nodes)) m ≡ Some t → slice_get (terms (shapes s.nodes)) n ≡ Some u → AreSame s.signature y t u → alike m n ≡ true

-- the literals that stand, and the store, at the end of a search
pub record IsInstantiated (p : Problem) (g bound : ℕ) (lits : List Lit) (y : System) (s : Stored) (alike : ℕ → ℕ → Bool) (opened : List (Formula × ℕ)) (instances : List Instance) : Type 0 where
  pub store : IsStore s.signature s.nodes
  pub signature : s.signature ≡ p.signature
  pub names : AreThoseAlike s alike y
  pub covered : IsCovered p g opened instances bound s
  pub none_owed : IsNoneOwed p g bound lits s alike instances
  -- the literals of an instance stand
  pub stand : (i : Instance) → Contains instances i → OwnerIsThere lits i.owner → AllByRecursion (Contains lits) (brought p g i)

-- a literal is in the `fresh` clause of one that was opened
pub record IsOpened (opened : List (Formula × ℕ)) (l body : Lit) : Type 0 where
  pub first : ℕ
  pub clause : Clause
  pub among : Contains opened (l.formula, first)
  pub states : fresh_clause l.formula first (out-Formula l.formula) ≡ Some clause
  pub has : Contains clause body

-- what is taken: exactly these instances, and for each quantified literal that asks for terms a literal of its `fresh` clause
pub record IsTaken (lits : List Lit) (opened : List (Formula × ℕ)) (instances : List Instance) (takes : Selection) : Type 0 where
  pub only : (o : Owner) (us : List Sort) (ts : List Term) → takes.instances o us ts ≡ true → (i : Instance) × Contains instances i × (i.owner ≡ o) × (i.sorts ≡ us) × (i.terms ≡ ts)
  pub all : (i : Instance) → Contains instances i → takes.instances i.owner i.sorts i.terms ≡ true
  pub bodies : (l : Lit) (q : Quant) → Contains lits l → is_universal l ≡ false → quant_of (out-Formula l.formula) ≡ Some q → IsOpened opened l (takes.body l)
