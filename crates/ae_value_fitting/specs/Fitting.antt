-- When what is held of names fits the terms of a store: what is known of the names, their values, and the steps that say these.
use Rattle.std.specs.Prelude.{ℕ, Bool, true, false, List, [], ◌∷◌, ◌≡◌, length, slice_get, Some, None}
use Rattle.ae_core.specs.Sorts.{sort_of, is_numeric}
use Rattle.ae_core.specs.declared.terms.Sort.{Sort}
use Rattle.ae_core.specs.declared.terms.Term.{Term}
use Rattle.ae_core.specs.declared.problems.Signature.{Signature}
use Rattle.ae_journal.specs.Systems.{IsPredicateName, record_fields, field_terms}
use Rattle.ae_journal.specs.declared.systems.System.{System}
use Rattle.ae_linear.specs.declared.rows.Row.{Row}
use Rattle.ae_linear.specs.Rows.{row_at}
use Rattle.ae_pmap.specs.Forest.{present}
use Rattle.ae_pmap.specs.Pairs.{found}
use Rattle.ae_store.specs.Terms.{named}
use Rattle.ae_store.specs.declared.nodes.Node.{Node}
use Rattle.ae_just.specs.declared.steps.Step.{Step}
use Rattle.ae_state_steps.specs.ValueSteps.{StatesEqual}
use Rattle.ae_settled.specs.Held.{Held}
use Rattle.ae_value_steps.specs.Stating.{IsStated}
use Rattle.ae_value_table.specs.declared.patterns.Pattern.{Pattern, Number, Leaf, Fields}
use Rattle.ae_value_table.specs.declared.patterns.Entry.{Entry}
use Rattle.ae_value_table.specs.Table.{Contents, just_at, values}

-- ---- the system of the terms and their values
abbrev pub system_in : List Term → Contents → System
system_in ts c = record { names = ts; values = values c; rules = [] }

-- the same with the store, and without rules
abbrev pub held_by : Signature → List Node → Contents → Held
held_by sig nodes c = record { signature = sig; nodes = nodes; values = values c; rep = λ n. n; rules = λ n. None; next = 0 }

-- ---- what is known of the names for good
-- a name of the term has the pattern
pub record HasPattern (ts : List Term) (es : List Entry) (t : Term) (p : Pattern) : Type 0 where
  pub name : ℕ
  pub is : slice_get ts name ≡ Some t
  pub entry : Entry
  pub there : slice_get es name ≡ Some entry
  pub pattern : entry.pattern ≡ p

abbrev pub HavePatterns : List Term → List Entry → List Term → List Pattern → Type 0
HavePatterns ts es [] [] = Unit {0}
HavePatterns ts es (t ∷ us) (p ∷ ps) = HasPattern ts es t p × HavePatterns ts es us ps
HavePatterns ts es _ _ = ⊥

-- a number is made of its own number, a record of its fields' values, and another name of its own leaf
pub record ArePatterns (sig : Signature) (ts : List Term) (es : List Entry) : Type 0 where
  pub sorts : (n : ℕ) (t : Term) (s : Sort) (e : Entry) → slice_get ts n ≡ Some t → sort_of sig t ≡ Some s → slice_get es n ≡ Some e → e.sort ≡ s
  pub numbers : (n : ℕ) (t : Term) (s : Sort) (e : Entry) → slice_get ts n ≡ Some t → sort_of sig t ≡ Some s → slice_get es n ≡ Some e → is_numeric s ≡ true → e.pattern ≡ Number n
  pub records : (n : ℕ) (t : Term) (s : Sort) (ss : List Sort) (e : Entry) → slice_get ts n ≡ Some t → sort_of sig t ≡ Some s → slice_get es n ≡ Some e → record_fields sig s ≡ Some ss
      → (ps : List Pattern) × (e.pattern ≡ Fields n ps) × HavePatterns ts es (field_terms s t (length ss)) ps
  pub others : (n : ℕ) (t : Term) (s : Sort) (e : Entry) → slice_get ts n ≡ Some t → sort_of sig t ≡ Some s → slice_get es n ≡ Some e → is_numeric s ≡ false → record_fields sig s ≡ None → e.pattern ≡ Leaf n
  pub predicates : (n : ℕ) (t : Term) (e : Entry) → slice_get ts n ≡ Some t → IsPredicateName sig t → slice_get es n ≡ Some e → e.pattern ≡ Leaf n

-- ---- the steps
-- the step of this number states the number that the row of a name has
pub record IsNumberSaid (sig : Signature) (ts : List Term) (steps : List Step) (c : Contents) (n : ℕ) (row : Row) : Type 0 where
  pub real : Bool
  pub step : ℕ
  pub just : just_at c n ≡ Some step
  pub stated : IsStated sig ts steps real n row.value step

-- the step of this number equates a name, which is no number, with its leaf
pub record IsLeafSaid (sig : Signature) (ts : List Term) (steps : List Step) (c : Contents) (n leaf : ℕ) : Type 0 where
  pub sort : Sort
  pub sorted : sort_of sig (named ts n) ≡ Some sort
  pub other : is_numeric sort ≡ false
  pub step : ℕ
  pub just : just_at c n ≡ Some step
  pub equal : StatesEqual steps step n leaf

-- each number and each leaf that was put for a name is said by a step
pub record AreSaid (sig : Signature) (ts : List Term) (steps : List Step) (c : Contents) : Type 0 where
  pub numbers : (n : ℕ) (row : Row) → row_at c.rows n ≡ Some row → IsNumberSaid sig ts steps c n row
  pub leaves : (n m : ℕ) → found (present c.leaves) n ≡ Some m → IsLeafSaid sig ts steps c n m
