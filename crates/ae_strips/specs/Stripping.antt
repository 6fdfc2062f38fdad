-- What a name comes down to: a field of a written record to what stands in its place, a field of what comes down to another name to the same field
-- of that one, and every other name to itself.
use Rattle.std.specs.Prelude.{ℕ, List, [], ◌∷◌, ◌≡◌, slice_get, Option, Some, None}
use Rattle.ae_core.specs.declared.terms.Sort.{Sort}
use Rattle.ae_core.specs.declared.terms.Term.{Term, Apply}
use Rattle.ae_core.specs.declared.terms.Head.TheVariants as head
use Rattle.ae_just.specs.declared.steps.Rule.TheVariants as rule
use Rattle.ae_just.specs.declared.steps.Step.{Step}
use Rattle.ae_just.specs.Needed.{RestsOn}
use Rattle.ae_state_steps.specs.ValueSteps.{StatesEqual}
use Rattle.ae_strips.specs.declared.stripping.Stripped.{Stripped}

-- the name n is this field, at these sorts, of the name a
pub record IsFieldOf (ts : List Term) (n k place : ℕ) (ss : List Sort) (a : ℕ) : Type 0 where
  pub owner : Term
  pub is : slice_get ts n ≡ Some (Apply (head.Field k place) ss (owner ∷ []))
  pub owner_is : slice_get ts a ≡ Some owner

-- the term is no field
abbrev pub IsNoField : Term → Type 0
IsNoField t = (k place : ℕ) (ss : List Sort) (r : Term) → t ≡ Apply (head.Field k place) ss (r ∷ []) → ⊥

-- the name b is a written record of this type at these sorts, in which the name u stands in this place
pub record IsWrittenWith (ts : List Term) (b k place : ℕ) (ss : List Sort) (u : ℕ) : Type 0 where
  pub arguments : List Term
  pub is : slice_get ts b ≡ Some (Apply (head.Build k) ss arguments)
  pub argument : Term
  pub at : slice_get arguments place ≡ Some argument
  pub argument_is : slice_get ts u ≡ Some argument

pub data StripsTo (ts : List Term) : ℕ → ℕ → Type 0 where
  itself : (n : ℕ) (t : Term) → slice_get ts n ≡ Some t → IsNoField t → StripsTo ts n n
  of_written : (n a b u m k place : ℕ) (ss : List Sort) → IsFieldOf ts n k place ss a → StripsTo ts a b → IsWrittenWith ts b k place ss u
      → StripsTo ts u m → StripsTo ts n m
  of_other : (n a b m k place : ℕ) (ss : List Sort) → IsFieldOf ts n k place ss a → StripsTo ts a b → ((u : ℕ) → IsWrittenWith ts b k place ss u → ⊥)
      → IsFieldOf ts m k place ss b → StripsTo ts n m

-- ---- the steps
-- the step of this number rests on no assumption
abbrev pub RestsOnNothing : List Step → ℕ → Type 0
RestsOnNothing steps id = (k tag : ℕ) (s : Step) → RestsOn steps id k → slice_get steps k ≡ Some s → s.rule ≡ rule.Hyp tag → ⊥

-- the step of this number equates the names, and rests on no assumption
pub record IsEquating (steps : List Step) (n m id : ℕ) : Type 0 where
  pub equal : StatesEqual steps id n m
  pub free : RestsOnNothing steps id

-- the same; without a step they are one name
abbrev pub IsSaidBy : List Step → ℕ → ℕ → Option ℕ → Type 0
IsSaidBy steps n m None = m ≡ n
IsSaidBy steps n m (Some id) = IsEquating steps n m id

abbrev pub IsStripped : List Step → ℕ → Stripped → Type 0
IsStripped steps n s = IsSaidBy steps n s.name s.step
