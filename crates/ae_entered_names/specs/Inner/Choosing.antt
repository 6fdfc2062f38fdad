-- Names that enter: of enumerations, and what a search keeps meanwhile.
use Rattle.std.specs.Prelude.{ℕ, ◌≤◌, List, [], ◌≡◌, ◌⊎◌, length, slice_get, Some, None}
use Rattle.std.specs.List.{Contains}
use Rattle.ae_ages.specs.declared.entries.Aged.{Aged}
use Rattle.ae_between_rounds.specs.Between.{Holds, IsSearchingBelow}
use Rattle.ae_between_rounds.specs.declared.search.Search.{Search}
use Rattle.ae_block_constants.specs.declared.opened.Opened.{Opened}
use Rattle.ae_block_counts.specs.Counts.{quantifiers_left}
use Rattle.ae_brought_clauses.specs.Brought.{AreBrought}
use Rattle.ae_core.specs.declared.problems.Problem.{Problem}
use Rattle.ae_core.specs.declared.problems.Signature.{Signature}
use Rattle.ae_core.specs.declared.terms.Head.{Head}
use Rattle.ae_core.specs.declared.terms.Sort.{out-Sort}
use Rattle.ae_core.specs.declared.terms.Term.{Term, Apply}
use Rattle.ae_open_states.specs.Choices.{IsChoiceOf}
use Rattle.ae_rules.specs.Clauses.{Clause}
use Rattle.ae_rules.specs.Instances.{choices_of, exhaustion}
use Rattle.ae_sat.specs.Standing.{IsOneOf}
use Rattle.ae_store.specs.Stores.{Stored}
use Rattle.ae_store.specs.declared.nodes.Node.{Node}
use Rattle.ae_theory.specs.Names.{Extends}

-- the greatest generation: nothing of it is matched
abbrev pub latest : ℕ
latest = 4294967295

-- the terms of a clause have names; those that are new are of the greatest generation
abbrev pub AreNamedLast : Stored → Stored → Clause → Type 0
AreNamedLast old new c = (es : List Aged) × AreBrought [] latest old [] new es c

-- one of the heads alone is the term
abbrev pub IsOneAlone : List Head → Term → Type 0
IsOneAlone hs t = (h : Head) × Contains hs h × (t ≡ Apply h [] [])

-- a term is a constructor, or has its clause among these if it has one
abbrev pub IsChosen : Signature → List Clause → Term → Type 0
IsChosen sig clauses u = (c : Clause) → exhaustion sig u ≡ Some c → IsChoiceOf sig u u ⊎ IsOneOf clauses c

-- so is the term of a name
abbrev pub IsChosenAt : Signature → List Term → ℕ → List Clause → Type 0
IsChosenAt sig ts name clauses = (u : Term) → slice_get ts name ≡ Some u → IsChosen sig clauses u

-- what stands beside names, lines and clauses is the same
pub record IsSameBeside (old new : Search) : Type 0 where
  pub trail : new.solver.propagation.trail ≡ old.solver.propagation.trail
  pub theory : new.solver.theory ≡ old.solver.theory
  pub journal : new.journal ≡ old.journal
  pub blocks : new.blocks ≡ old.blocks
  pub ages : new.ages ≡ old.ages
  pub owners : new.owners ≡ old.owners
  pub instances : new.instances ≡ old.instances

-- a search goes on from one state to another, which has more names, lines and clauses
pub record GoesOn (p : Problem) (g bound : ℕ) (old new : Search) : Type 0 where
  pub searching : (level : ℕ) → IsSearchingBelow p g bound level old → IsSearchingBelow p g bound level new
  pub holds : Holds p g bound new
  pub extends : Extends old.store new.store
  pub lines : length old.lines.items ≤ length new.lines.items
  pub kept : (c : Clause) → IsOneOf old.solver.propagation.clauses c → IsOneOf new.solver.propagation.clauses c
  pub quantifiers : (opened : List Opened) → quantifiers_left opened new.solver.propagation.clauses ≤ quantifiers_left opened old.solver.propagation.clauses

-- no name from this one on is of an enumeration
abbrev pub ArePlainFrom : Signature → Stored → ℕ → Type 0
ArePlainFrom sig s name = (n : ℕ) (x : Node) → name ≤ n → slice_get s.nodes n ≡ Some x → choices_of sig (out-Sort x.sort) ≡ None

-- no clause and no name came in
abbrev pub HaveStayed : Search → Search → Type 0
HaveStayed old new = (new.solver.propagation.clauses ≡ old.solver.propagation.clauses) × (new.store ≡ old.store)
