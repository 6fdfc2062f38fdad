-- The constructors of a term's sort.
use Rattle.std.specs.Prelude.{List, [], ◌≡◌, Some}
use Rattle.std.specs.List.{Contains}
use Rattle.ae_core.specs.Sorts.{sort_of}
use Rattle.ae_core.specs.declared.terms.Sort.{Sort, out-Sort}
use Rattle.ae_core.specs.declared.terms.Term.{Term, Apply}
use Rattle.ae_core.specs.declared.terms.Head.{Head}
use Rattle.ae_core.specs.declared.problems.Signature.{Signature}
use Rattle.ae_rules.specs.Instances.{choices_of}

-- t is a constructor of the sort of u
pub record IsChoiceOf (sig : Signature) (u t : Term) : Type 0 where
  pub sort : Sort
  pub heads : List Head
  pub head : Head
  pub sorted : sort_of sig u ≡ Some sort
  pub choices : choices_of sig (out-Sort sort) ≡ Some heads
  pub one : Contains heads head
  pub is : t ≡ Apply head [] []
