-- Names whose numbers arithmetic computes from those of earlier names, and such a number.
use Rattle.std.specs.Prelude.{ℕ, ℤ, ◌<◌, Bool, List, [], ◌≡◌, map, slice_get, Some}
use Rattle.std.specs.List.{AllByRecursion}
use Rattle.ae_math.specs.Fractions.{ratio}
use Rattle.ae_math.specs.Forms.{Form, number as number_form}
use Rattle.ae_core.specs.declared.terms.Sort.{Sort}
use Rattle.ae_core.specs.declared.terms.Term.{Term, Num, Apply}
use Rattle.ae_core.specs.declared.terms.Head.{Head}
use Rattle.ae_core.specs.declared.problems.Signature.{Signature}
use Rattle.ae_num.specs.Forms.{meaning, SameMeaning}
use Rattle.ae_num.specs.declared.forms.Lin.{Lin}
use Rattle.ae_store.specs.Terms.{named}
use Rattle.ae_just.specs.declared.steps.Step.{Step}
use Rattle.ae_settled.specs.Valued.{linear_form, with_forms}
use Rattle.ae_state_steps.specs.ValueSteps.{sort_for}
use Rattle.ae_value_steps.specs.Stating.{IsStated}
use Rattle.ae_value_table.specs.Table.{Contents, number_at}
use Rattle.ae_value_fitting.specs.Sources.{RestsOnValues}
use Rattle.ae_entering.specs.Firsts.{IsOwnAt}
use Rattle.ae_first_values.specs.declared.numbers.Given.{Given}

-- the name is a numeral, or a linear operation on earlier names, whatever numbers these have
pub data IsComputed (ts : List Term) (n : ℕ) : Type 0 where
  a_numeral : (a b : ℤ) (real : Bool) → slice_get ts n ≡ Some (Num a b real) → IsComputed ts n
  an_operation : (h : Head) (ss : List Sort) (args : List ℕ) (number : ℕ → Lin) (g : Form ℕ) → AllByRecursion (λ a. a < n) args → slice_get ts n ≡ Some (Apply h ss (map (named ts) args))
      → linear_form h (with_forms (map (named ts) args) (map number args)) ≡ Some g → IsComputed ts n

-- the number that its term gives the name, by the numbers of earlier names, over names that are their own numbers; and the step that states it, which
-- rests on what steps that say values of c rested on before
pub record IsFirstNumber (sig : Signature) (ts : List Term) (old new : List Step) (c : Contents) (real : Bool) (n : ℕ) (given : Given) : Type 0 where
  pub computed : IsComputed ts n
  pub numerals : (a b : ℤ) (r : Bool) → slice_get ts n ≡ Some (Num a b r) → SameMeaning (meaning given.value) (number_form (ratio a b))
  pub operations : (h : Head) (ss : List Sort) (args : List ℕ) (g : Form ℕ) → AllByRecursion (λ a. a < n) args → slice_get ts n ≡ Some (Apply h ss (map (named ts) args))
      → linear_form h (with_forms (map (named ts) args) (map (number_at c) args)) ≡ Some g → SameMeaning (meaning given.value) g
  pub over : AllByRecursion (λ p. IsOwnAt sig ts n (number_at c) (sort_for real) p.key) (given.value).parts
  pub stated : IsStated sig ts new real n given.value given.step
  pub rests : RestsOnValues old new c [] given.step
