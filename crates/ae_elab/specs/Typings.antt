-- What a function that types a part of a text promises: where it begins, where it ends, and what it answers.
use Rattle.std.specs.Prelude.{ℕ, List, [], ◌∷◌, ◌++◌, ◌≡◌, length, Option, Some, None, Result, Ok, Err}
use Rattle.ae_types.specs.Bound.{bound}
use Rattle.ae_elab.specs.declared.faults.TypeFault.{TypeFault}
use Rattle.ae_elab.specs.declared.typings.Context.{Context}
use Rattle.ae_elab.specs.declared.typings.Typing.{Typing}
use Rattle.ae_elab.specs.declared.typings.TypedTerm.{TypedTerm}
use Rattle.ae_elab.specs.declared.typings.Bound as code
use Rattle.ae_elab.specs.declared.typings.Around as code_around
use Rattle.ae_elab.specs.Trees.{Tree, Trees, Claim}
use Rattle.ae_elab.specs.Nodes.{Entry, IsTree, IsClaim, AreTrees}
use Rattle.ae_elab.specs.Environments.{entries, locals}
use Rattle.ae_elab.specs.Scope.{Scope, Local, scope_with, name_in}
use Rattle.ae_elab.specs.Rules.{Rule, Typed, typed, Around}
use Rattle.ae_elab.specs.Formulas.{Bound}
use Rattle.ae_elab.specs.Steps.{IsWalked, IsStopped}

-- the typed trees, and the bound names
abbrev pub nodes_of : Typing → List Entry
nodes_of t = entries t.environment

abbrev pub locals_of : Typing → List Local
locals_of t = locals t.environment

-- the place of the text
abbrev pub scope_at : Context → Typing → Scope
scope_at c t = scope_with c.text.now c.known (locals_of t)

-- nodes behind others
abbrev pub Begins : List Entry → List Entry → Type 0
Begins es fs = (more : List Entry) × (fs ≡ es ++ more)

-- The part was typed by its rule, with this value: the typing is a most general one of what the part states too. The bound
-- names are the same, and so are the nodes that were there.
pub record Walks {A : Type 0} (c : Context) (r : Scope → Rule A) (old new : Typing) (x : A) : Type 0 where
  pub walked : IsWalked (r (scope_at c old)) (bound old.bindings) (bound new.bindings) old.passing new.passing x
  pub locals : locals_of new ≡ locals_of old
  pub kept : Begins (nodes_of old) (nodes_of new)

-- this is the fault of the first condition of the part that can't be met
abbrev pub Stops : {A : Type 0} → Context → (Scope → Rule A) → Typing → TypeFault → Type 0
Stops c r old e = IsStopped (r (scope_at c old)) (bound old.bindings) old.passing e

-- a term, which stands among the nodes
pub record TypesTerm (c : Context) (r : Scope → Rule Typed) (old new : Typing) (t : TypedTerm) : Type 0 where
  pub tree : Tree
  pub stands : IsTree (nodes_of new) t.tree tree
  pub walks : Walks c r old new (typed tree t.sort)

-- a term of which the sort is known
pub record TypesTree (c : Context) (r : Scope → Rule Tree) (old new : Typing) (n : ℕ) : Type 0 where
  pub tree : Tree
  pub stands : IsTree (nodes_of new) n tree
  pub walks : Walks c r old new tree

-- terms
pub record TypesTrees (c : Context) (r : Scope → Rule Trees) (old new : Typing) (ns : List ℕ) : Type 0 where
  pub terms : Trees
  pub stand : AreTrees (nodes_of new) ns terms
  pub walks : Walks c r old new terms

-- a formula
pub record TypesClaim (c : Context) (r : Scope → Rule Claim) (old new : Typing) (n : ℕ) : Type 0 where
  pub claim : Claim
  pub stands : IsClaim (nodes_of new) n claim
  pub walks : Walks c r old new claim

-- ---- answers
abbrev pub TermAnswer : Context → (Scope → Rule Typed) → Typing → Typing → Result TypedTerm TypeFault → Type 0
TermAnswer c r old new (Ok t) = TypesTerm c r old new t
TermAnswer c r old new (Err e) = Stops c r old e

abbrev pub TreeAnswer : Context → (Scope → Rule Tree) → Typing → Typing → Result ℕ TypeFault → Type 0
TreeAnswer c r old new (Ok n) = TypesTree c r old new n
TreeAnswer c r old new (Err e) = Stops c r old e

abbrev pub TreesAnswer : Context → (Scope → Rule Trees) → Typing → Typing → Result (List ℕ) TypeFault → Type 0
TreesAnswer c r old new (Ok ns) = TypesTrees c r old new ns
TreesAnswer c r old new (Err e) = Stops c r old e

abbrev pub ClaimAnswer : Context → (Scope → Rule Claim) → Typing → Typing → Result ℕ TypeFault → Type 0
ClaimAnswer c r old new (Ok n) = TypesClaim c r old new n
ClaimAnswer c r old new (Err e) = Stops c r old e

-- a node behind the others, and nothing else
pub record Puts (old new : Typing) (e : Entry) (n : ℕ) : Type 0 where
  pub place : n ≡ length (nodes_of old)
  pub nodes : nodes_of new ≡ nodes_of old ++ e ∷ []
  pub locals : locals_of new ≡ locals_of old
  pub bindings : new.bindings ≡ old.bindings
  pub passing : new.passing ≡ old.passing

-- ---- blocks
-- a variable with its name
abbrev pub bound_in : List ℕ → code.Bound → Bound
bound_in text b = record { name = name_in text b.name; number = b.number; sort = b.sort }

abbrev pub around_in : Option code_around.Around → Around
around_in None = None
around_in (Some a) = Some (a.quantifier, a.variables)
