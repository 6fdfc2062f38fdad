-- Names that are the same, and names that apply one head to such names.
use Rattle.std.specs.Prelude.{ℕ, ◌≡◌, true, List, length, slice_get, Some, IsTrue}
use Rattle.ae_base.specs.Options.{known}
use Rattle.ae_core.specs.Sorts.{sort_of}
use Rattle.ae_core.specs.declared.terms.Head.{Head}
use Rattle.ae_core.specs.declared.terms.Term.{Term}
use Rattle.ae_core.specs.declared.problems.Signature.{Signature}
use Rattle.ae_store.specs.Shapes.{shapes}
use Rattle.ae_store.specs.Terms.{terms, named}
use Rattle.ae_store.specs.declared.nodes.Node.{Node}
use Rattle.ae_store.specs.declared.nodes.NodeHead.TheVariants.{Of}
use Rattle.ae_value_table.specs.Alike.{alike}
use Rattle.ae_value_table.specs.Table.{Contents}

-- two names have sorts, and are the same
pub record AreAlikeSorted (sig : Signature) (ts : List Term) (c : Contents) (x y : ℕ) : Type 0 where
  pub left : known (sort_of sig (named ts x)) ≡ true
  pub right : known (sort_of sig (named ts y)) ≡ true
  pub same : IsTrue (alike c x y)

-- so are those of two lists, place by place
pub record AreSame (sig : Signature) (ts : List Term) (c : Contents) (xs ys : List ℕ) : Type 0 where
  pub as_many : length ys ≡ length xs
  pub each : (i x y : ℕ) → slice_get xs i ≡ Some x → slice_get ys i ≡ Some y → AreAlikeSorted sig ts c x y

-- two names of sorts apply one head at the same sorts, to names that are the same
pub record AreCongruentIn (sig : Signature) (nodes : List Node) (c : Contents) (m n : ℕ) : Type 0 where
  pub first : Node
  pub second : Node
  pub first_there : slice_get nodes m ≡ Some first
  pub second_there : slice_get nodes n ≡ Some second
  pub head : Head
  pub first_head : first.head ≡ Of head
  pub second_head : second.head ≡ Of head
  pub sorts : first.sorts ≡ second.sorts
  pub sorted : known (sort_of sig (named (terms (shapes nodes)) m)) ≡ true
  pub args : AreSame sig (terms (shapes nodes)) c first.args second.args
