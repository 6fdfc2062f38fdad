-- What a search holds beside the solver: constants of blocks, generations, instances, clauses of enumerations.
use Rattle.std.specs.Prelude.{ℕ, ◌<◌, ◌≤◌, ◌≡◌, ◌⊎◌, true, List, [], ◌∷◌, map, length, slice_get, Some}
use Rattle.std.specs.List.{AllByRecursion, Contains}
use Rattle.ae_base.specs.Relations.{Pairwise}
use Rattle.ae_ages.specs.Laws.{AreAllHad, AreJustifiedAges}
use Rattle.ae_ages.specs.declared.entries.Aged.{Aged}
use Rattle.ae_between_rounds.specs.declared.search.Instance.{Instance}
use Rattle.ae_block_constants.specs.Blocks.{AreApart, opened_pairs}
use Rattle.ae_block_constants.specs.declared.opened.Opened.{Opened}
use Rattle.ae_core.specs.Sorts.{formula_ok}
use Rattle.ae_core.specs.declared.formulas.Formula.{Formula, out-Formula}
use Rattle.ae_core.specs.declared.problems.Problem.{Problem}
use Rattle.ae_core.specs.declared.problems.Signature.{Signature}
use Rattle.ae_core.specs.declared.proofs.ClauseLine.{ClauseLine}
use Rattle.ae_core.specs.declared.terms.Term.{Term}
use Rattle.ae_inst.specs.declared.instances.Taken.{Taken}
use Rattle.ae_journal.specs.Standing.{Setting}
use Rattle.ae_journal.specs.States.{Pattern, of_axiom, pattern_of}
use Rattle.ae_journal.specs.declared.lines.Line.{Line}
use Rattle.ae_journal.specs.declared.lines.Line.TheVariants as line
use Rattle.ae_new_constants.specs.Below.{AreLinesBelow, IsClauseBelow, IsTermBelow}
use Rattle.ae_open_states.specs.Choices.{IsChoiceOf}
use Rattle.ae_owed.specs.Generations.{IsJustified}
use Rattle.ae_owed.specs.Instances.{Instance as NotedInstance}
use Rattle.ae_owed.specs.Recorded.{AreRecorded}
use Rattle.ae_owners.specs.Owners.{HasOwner, IsOwnerIn, owner_of}
use Rattle.ae_owners.specs.declared.owners.Owner.{Owner}
use Rattle.ae_rules.specs.Clauses.{Clause, yes_of, no_of}
use Rattle.ae_rules.specs.Derivations.{goal_body}
use Rattle.ae_rules.specs.Instances.{exhaustion, fresh_clause, hypothesis}
use Rattle.ae_sat.specs.Standing.{IsOneOf}
use Rattle.ae_searching.specs.Told.{IsToldIn}
use Rattle.ae_store.specs.Shapes.{shapes}
use Rattle.ae_store.specs.Stores.{Stored}
use Rattle.ae_store.specs.Terms.{named, terms}
use Rattle.ae_theory.specs.Names.{terms_in}

-- an instance that was made, with the terms of its names
abbrev pub noted_as : Stored → Owner → Instance → NotedInstance
noted_as s o i = record { owner = owner_of o; sorts = i.subst.sorts; terms = map (named (terms (shapes s.nodes))) i.subst.terms; number = i.number }

-- instances beside the owners' numbers
pub data IsNotedAs (s : Stored) (owners : List Owner) : Instance → NotedInstance → Type 0 where
  by_owner : (o : Owner) (i : Instance) → slice_get owners i.owner ≡ Some o → AllByRecursion (λ n. n < length s.nodes) i.subst.terms → IsNotedAs s owners i (noted_as s o i)

-- what was taken up to names that are the same
abbrev pub taken_of : Instance → Taken
taken_of i = record { owner = i.owner; sorts = i.subst.sorts; terms = i.subst.terms }

module _ (p : Problem) (g : ℕ) where
  -- the hypotheses without type variables, and the goal's negation, each as a clause of its own
  pub record HasFirstOnes (clauses : List Clause) : Type 0 where
    pub hypotheses : (k : ℕ) (f : Formula) → hypothesis p g k [] ≡ Some f → IsOneOf clauses (yes_of f ∷ [])
    pub goal : (f : Formula) → goal_body p g ≡ Some f → IsOneOf clauses (no_of f ∷ [])

  -- the blocks that were opened are well sorted, and have constants apart, below the next one, and their `fresh` clauses; no other constant stands anywhere from that one
  -- on
  pub record HaveConstants (next : ℕ) (opened : List Opened) (s : Stored) (ls : List ClauseLine) (cs : List Clause) : Type 0 where
    pub apart : AreApart next opened
    pub sorted : (o : Opened) → Contains opened o → formula_ok p.signature o.formula ≡ true
    pub added : (o : Opened) → Contains opened o → (c : Clause) × (fresh_clause o.formula o.first (out-Formula o.formula) ≡ Some c) × IsOneOf cs c
    pub lines : AreLinesBelow p g next ls
    pub clauses : AllByRecursion (IsClauseBelow next) cs
    pub names : AllByRecursion (IsTermBelow next) (terms_in s)

  -- owners are right and different, with all axioms that have type variables among them; the instances that were made are those of the
  -- journal's lines, those of axioms with lines of their sorts; the generations of names and of quantified formulas are neither too great nor too small
  pub record HaveInstances (bound : ℕ) (s : Stored) (opened : List Opened) (owners : List Owner) (made : List Instance) (taken : List Taken) (ages : List Aged) (js : List Line) : Type 0 where
    pub right : AllByRecursion (IsOwnerIn p g) owners
    pub apart : (k m : ℕ) (o e : Owner) → slice_get owners k ≡ Some o → slice_get owners m ≡ Some e → owner_of o ≡ owner_of e → k ≡ m
    pub axioms : (k : ℕ) (q : Pattern) → pattern_of p g (of_axiom k) ≡ Some q → HasOwner owners (of_axiom k)
    pub instances : List NotedInstance
    pub are : Pairwise (IsNotedAs s owners) made instances
    pub taken_ones : taken ≡ map taken_of made
    pub recorded : (x : Setting) → IsToldIn p g s opened x → AreRecorded x js bound instances
    pub typed : (i : NotedInstance) (k : ℕ) → Contains instances i → i.owner ≡ of_axiom k → Contains js (line.TypeInstance k i.sorts)
    pub had : AreAllHad p g (opened_pairs opened) instances s ages
    pub justified : (x : Setting) → IsToldIn p g s opened x → IsJustified x bound s js × AreJustifiedAges x bound ages js

-- of the first names each one of an enumeration is a constructor, or has its clause
pub record HaveChoices (sig : Signature) (s : Stored) (looked : ℕ) (clauses : List Clause) : Type 0 where
  pub within : looked ≤ length s.nodes
  pub chosen : (n : ℕ) (u : Term) (c : Clause) → n < looked → slice_get (terms_in s) n ≡ Some u → exhaustion sig u ≡ Some c → IsChoiceOf sig u u ⊎ IsOneOf clauses c
