-- What the next name gets: a number or a leaf that is another's or is computed, or its own.
use Rattle.std.specs.Prelude.{ℕ, ◌<◌, ◌⊎◌, ◌≡◌, ◌≢◌, Bool, List, [], Some}
use Rattle.std.specs.List.{AllByRecursion}
use Rattle.ae_core.specs.declared.terms.Term.{Term}
use Rattle.ae_core.specs.declared.problems.Signature.{Signature}
use Rattle.ae_linear.specs.declared.rows.Row.{Row}
use Rattle.ae_linear.specs.Rows.{row_at}
use Rattle.ae_pmap.specs.Forest.{present}
use Rattle.ae_pmap.specs.Pairs.{found}
use Rattle.ae_just.specs.declared.steps.Step.{Step}
use Rattle.ae_state_steps.specs.ValueSteps.{sort_for, StatesEqual}
use Rattle.ae_value_steps.specs.Stating.{IsStated}
use Rattle.ae_strips.specs.Stripping.{StripsTo, IsEquating}
use Rattle.ae_value_table.specs.Table.{Contents, number_at, leaf_at}
use Rattle.ae_value_fitting.specs.Sources.{RestsOnValues}
use Rattle.ae_entering.specs.Firsts.{IsOwnAt, IsNext}
use Rattle.ae_first_values.specs.declared.numbers.Given.{Given}
use Rattle.ae_take_in.specs.Computing.{IsComputed}
use Rattle.ae_take_in.specs.declared.covering.Led.{Led}
use Rattle.ae_take_in.specs.declared.covering.Other.{Other}

-- only names below n have rows and leaves
pub record AreBelow (n : ℕ) (c : Contents) : Type 0 where
  pub rows : (k : ℕ) (row : Row) → row_at c.rows k ≡ Some row → k < n
  pub leaves : (k m : ℕ) → found (present c.leaves) k ≡ Some m → k < n

-- the name comes down to another one
pub record ComesToOther (ts : List Term) (n : ℕ) : Type 0 where
  pub name : ℕ
  pub strips : StripsTo ts n name
  pub other : name ≢ n

-- this other name, and the step equates the two
pub record IsOther (ts : List Term) (steps : List Step) (n : ℕ) (o : Other) : Type 0 where
  pub strips : StripsTo ts n o.name
  pub other : o.name ≢ n
  pub equating : IsEquating steps n o.name o.step

-- the number is that of another name, to which the name comes down, and a step states it
pub record IsCoveredNumber (sig : Signature) (ts : List Term) (old new : List Step) (c : Contents) (real : Bool) (n : ℕ) (g : Given) : Type 0 where
  pub name : ℕ
  pub strips : StripsTo ts n name
  pub other : name ≢ n
  pub value : g.value ≡ number_at c name
  pub stated : IsStated sig ts new real n g.value g.step
  pub rests : RestsOnValues old new c [] g.step

-- the leaf is that of another name, to which the name comes down, and a step says so
pub record IsCoveredLeaf (ts : List Term) (old new : List Step) (c : Contents) (n : ℕ) (l : Led) : Type 0 where
  pub name : ℕ
  pub strips : StripsTo ts n name
  pub other : name ≢ n
  pub leaf : l.leaf ≡ leaf_at c name
  pub equal : StatesEqual new l.step n l.leaf
  pub rests : RestsOnValues old new c [] l.step

-- the number that the next name gets, over other names that are their own numbers, with the step that states it
pub record IsNextNumber (sig : Signature) (ts : List Term) (old new : List Step) (c : Contents) (real : Bool) (n : ℕ) (g : Given) : Type 0 where
  pub next : IsNext sig ts n (number_at c) (leaf_at c) g.value (leaf_at c n)
  pub over : AllByRecursion (λ p. IsOwnAt sig ts n (number_at c) (sort_for real) p.key × (p.key ≢ n)) (g.value).parts
  pub why : IsComputed ts n ⊎ ComesToOther ts n
  pub stated : IsStated sig ts new real n g.value g.step
  pub rests : RestsOnValues old new c [] g.step
