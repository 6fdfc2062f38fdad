-- Terms that a store knows at a number, and matches among them.
use Rattle.std.specs.Prelude.{ℕ, ◌≤◌, Bool, true, List, ◌≡◌, slice_get, Some}
use Rattle.std.specs.List.{Contains}
use Rattle.ae_core.specs.declared.problems.Problem.{Problem}
use Rattle.ae_core.specs.declared.terms.Sort.{Sort}
use Rattle.ae_core.specs.declared.terms.Term.{Term}
use Rattle.ae_rules.specs.Matches.{IsMatch}
use Rattle.ae_journal.specs.States.{Owner, Pattern, pattern_of}
use Rattle.ae_store.specs.Shapes.{shapes}
use Rattle.ae_store.specs.Stores.{Stored}
use Rattle.ae_store.specs.Terms.{terms}
use Rattle.ae_store.specs.declared.nodes.Node.{Node}

-- the term of a name of generation at most n
pub record IsYoung (s : Stored) (n : ℕ) (t : Term) : Type 0 where
  pub name : ℕ
  pub at : slice_get (terms (shapes s.nodes)) name ≡ Some t
  pub node : Node
  pub there : slice_get s.nodes name ≡ Some node
  pub young : node.generation ≤ n

-- the terms of two names that are the same
pub record AreAlike (s : Stored) (alike : ℕ → ℕ → Bool) (t u : Term) : Type 0 where
  pub left : ℕ
  pub right : ℕ
  pub left_at : slice_get (terms (shapes s.nodes)) left ≡ Some t
  pub right_at : slice_get (terms (shapes s.nodes)) right ≡ Some u
  pub alike_ones : alike left right ≡ true

-- a literal or an axiom is matched among the terms that are known at n
pub record IsFoundAt (p : Problem) (g : ℕ) (s : Stored) (alike : ℕ → ℕ → Bool) (n : ℕ) (owner : Owner) (ss : List Sort) (ts : List Term) : Type 0 where
  pub pattern : Pattern
  pub of_owner : pattern_of p g owner ≡ Some pattern
  pub trigger : List Term
  pub chosen : Contains pattern.choices trigger
  pub matches : IsMatch p.signature (IsYoung s n) (AreAlike s alike) pattern.type_vars pattern.vars trigger ss ts
