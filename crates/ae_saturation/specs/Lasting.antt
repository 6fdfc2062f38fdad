-- When what was complete for the first of the assumed literals is so for all of them.
use Rattle.std.specs.Prelude.{ℕ, ◌<◌, ◌≤◌, Bool, true, not, List, ◌≡◌, length, take, slice_get, Some, IsTrue}
use Rattle.std.specs.List.{Contains}
use Rattle.ae_base.specs.Relations.{Pairwise}
use Rattle.ae_core.specs.Sorts.{formula_ok}
use Rattle.ae_core.specs.declared.formulas.Lit.{Lit}
use Rattle.ae_core.specs.declared.terms.Head.{Head}
use Rattle.ae_pmap.specs.Forest.{present}
use Rattle.ae_pmap.specs.Pairs.{found}
use Rattle.ae_journal.specs.Systems.{IsCompleted}
use Rattle.ae_settled.specs.Met.{Satisfies}
use Rattle.ae_store.specs.Stores.{Stored}
use Rattle.ae_store.specs.declared.nodes.Node.{Node}
use Rattle.ae_store.specs.declared.nodes.NodeHead.TheVariants.{Of}
use Rattle.ae_theory.specs.Noting.{literals}
use Rattle.ae_value_table.specs.Alike.{alike}
use Rattle.ae_value_table.specs.Table.{Contents as Values}
use Rattle.ae_literals.specs.declared.said.Said.{Said}
use Rattle.ae_literals.specs.declared.said.Said.TheVariants.{Equal, Atom, Other}
use Rattle.ae_state.specs.declared.holding.Holding.{Holding}
use Rattle.ae_state.specs.Names.{assumed_in, system_now}

-- ---- the first literals
abbrev pub first_literals : ℕ → Holding → List Lit
first_literals count o = take count (literals (assumed_in o))

-- so many literals are assumed, the system is completed, and the first of them, so many, hold of its values, where they are well sorted
pub record IsCompleteFor (count : ℕ) (o : Holding) : Type 0 where
  pub within : count ≤ length (assumed_in o)
  pub completed : IsCompleted o.signature (system_now o)
  pub satisfied : ((l : Lit) → Contains (first_literals count o) l → formula_ok o.signature l.formula ≡ true) → Satisfies o.signature (system_now o) (first_literals count o)

-- ---- the others
-- two nodes apply one head at the same sorts to arguments that are the same, one by one
pub record AreSameNodes (c : Values) (p q : Node) : Type 0 where
  pub head : Head
  pub first : p.head ≡ Of head
  pub second : q.head ≡ Of head
  pub sorts : p.sorts ≡ q.sorts
  pub args : Pairwise (λ m n. IsTrue (alike c m n)) p.args q.args

-- so do those of two names
pub record AreSameApplications (nodes : List Node) (c : Values) (m n : ℕ) : Type 0 where
  pub first : Node
  pub second : Node
  pub first_at : slice_get nodes m ≡ Some first
  pub second_at : slice_get nodes n ≡ Some second
  pub same : AreSameNodes c first second

-- it says the opposite of an atom: of this name where `b` is true, and else of its negation
abbrev pub Denies : List Node → Values → Bool → ℕ → Said → Type 0
Denies nodes c b n (Equal d l r) = ⊥
Denies nodes c b n (Atom d m) = (d ≡ not b) × AreSameApplications nodes c n m
Denies nodes c b n Other = ⊥

-- an assumed literal says so
pub record IsDenied (s : Stored) (o : Holding) (b : Bool) (n : ℕ) : Type 0 where
  pub place : ℕ
  pub below : place < o.next
  pub what : Said
  pub there : found (present o.said) place ≡ Some what
  pub denies : Denies s.nodes o.values b n what

-- what a literal says is met: names are the same or they aren't, and no assumed literal denies an atom
abbrev pub IsMet : Stored → Holding → Said → Type 0
IsMet s o (Equal b l r) = alike o.values l r ≡ b
IsMet s o (Atom b n) = ¬ IsDenied s o b n
IsMet s o Other = Unit {0}

-- the literals from a place on are met
abbrev pub AreMetFrom : ℕ → Stored → Holding → Type 0
AreMetFrom from s o = (place : ℕ) (y : Said) → from ≤ place → place < o.next → found (present o.said) place ≡ Some y → IsMet s o y
