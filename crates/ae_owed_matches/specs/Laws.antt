-- The laws, as statements.
use Rattle.std.specs.Prelude.{ℕ, ◌<◌, ◌≤◌, ◌↔◌, Bool, List, [], ◌≡◌, map, length, slice_get, Some}
use Rattle.std.specs.List.{AllByRecursion, Contains, filter}
use Rattle.ae_core.specs.Signatures.{IsLawfulProblem}
use Rattle.ae_core.specs.declared.formulas.Lit.{Lit}
use Rattle.ae_core.specs.declared.problems.Problem.{Problem}
use Rattle.ae_core.specs.declared.terms.Sort.{Sort}
use Rattle.ae_core.specs.declared.terms.Term.{Term}
use Rattle.ae_inst.specs.declared.instances.Taken.{Taken}
use Rattle.ae_journal.specs.States.{of_literal, Owner as OwnerOf, Pattern, pattern_of}
use Rattle.ae_matches.specs.Answers.{HasClosedConstants}
use Rattle.ae_matching.specs.Laws.{IsEquivalence}
use Rattle.ae_owed.specs.Instances.{Instance}
use Rattle.ae_owed.specs.Known.{IsFoundAt}
use Rattle.ae_owed.specs.Owed.{HasSame, IsNoneOwed, OwnerIsThere}
use Rattle.ae_owners.specs.Owners.{HasOwner, IsOwnerIn, owner_of}
use Rattle.ae_owners.specs.declared.owners.Owner.{Owner}
use Rattle.ae_store.specs.Shapes.{shapes}
use Rattle.ae_store.specs.Stores.{Stored, IsStore}
use Rattle.ae_store.specs.Terms.{terms, named}
use Rattle.ae_store.specs.declared.nodes.Node.{Node}
use Rattle.ae_trigger.specs.declared.patterns.Subst.{Subst}
use Rattle.ae_owed_matches.specs.Found.{AreFound, AreKeptAs, IsAnyMatch, is_owed}

-- what is found of an owner's patterns is a match of the owner at the number
abbrev pub FoundOnesAreMatches : Type 0
FoundOnesAreMatches =
    (p : Problem) (g : ℕ) (s : Stored) (alike : ℕ → ℕ → Bool) (n : ℕ) (w : Owner) (ms : List Subst) (m : Subst) → s.signature ≡ p.signature → IsOwnerIn p g w → AreFound s alike n w.patterns ms
    → Contains ms m → IsFoundAt p g s alike n (owner_of w) m.sorts (map (named (terms (shapes s.nodes))) m.terms)

-- where none of them is owed, each match of the owner at the number is the same as an instance that was noted
abbrev pub NoneOwedAt : Type 0
NoneOwedAt =
    (p : Problem) (g : ℕ) (s : Stored) (alike : ℕ → ℕ → Bool) (n k : ℕ) (owners : List Owner) (w : Owner) (ms : List Subst) (taken : List Taken) (instances : List Instance)
    → s.signature ≡ p.signature → IsStore s.signature s.nodes → IsEquivalence alike → slice_get owners k ≡ Some w → IsOwnerIn p g w → AreFound s alike n w.patterns ms
    → filter (is_owed alike k taken) ms ≡ [] → AreKeptAs s owners instances taken
    → (us : List Sort) (ts : List Term) → IsFoundAt p g s alike n (owner_of w) us ts → HasSame s alike instances (owner_of w) us ts

-- sorts and names are a match of one of an owner's patterns exactly where these and the names' terms are a match of the owner
abbrev pub AnyMatchIsFound : Type 0
AnyMatchIsFound =
    (p : Problem) (g : ℕ) (s : Stored) (alike : ℕ → ℕ → Bool) (n : ℕ) (w : Owner) (us : List Sort) (ns : List ℕ) → s.signature ≡ p.signature → IsOwnerIn p g w
    → AllByRecursion (λ v. v < length s.nodes) ns
    → IsAnyMatch s alike n w.patterns (record { sorts = us; terms = ns }) ↔ IsFoundAt p g s alike n (owner_of w) us (map (named (terms (shapes s.nodes))) ns)

-- a literal's patterns have no type variables, so none stands in the sort of a constant
abbrev pub LiteralPatternsAreClosed : Type 0
LiteralPatternsAreClosed = (p : Problem) (g : ℕ) (w : Owner) (l : Lit) → IsOwnerIn p g w → owner_of w ≡ of_literal l → AllByRecursion HasClosedConstants w.patterns

-- nor does a fresh constant in those of any other owner, in a lawful problem
abbrev pub PatternsAreClosed : Type 0
PatternsAreClosed = (p : Problem) (g : ℕ) (w : Owner) → IsLawfulProblem p → IsOwnerIn p g w → AllByRecursion HasClosedConstants w.patterns

-- what a pass over all numbers below the bound leaves: each owner that is there is in the table, none of its matches at a number is owed, and no instance of a greater
-- number is itself a match there
pub record IsPassed (p : Problem) (g bound : ℕ) (lits : List Lit) (s : Stored) (alike : ℕ → ℕ → Bool) (owners : List Owner) (taken : List Taken) (instances : List Instance) : Type 0 where
  pub all : (o : OwnerOf) (q : Pattern) → OwnerIsThere lits o → pattern_of p g o ≡ Some q → HasOwner owners o
  pub right : (k : ℕ) (w : Owner) → slice_get owners k ≡ Some w → IsOwnerIn p g w
  pub none : (n k : ℕ) (w : Owner) → n < bound → slice_get owners k ≡ Some w → OwnerIsThere lits (owner_of w) → (ms : List Subst) × AreFound s alike n w.patterns ms × (filter (is_owed alike k taken) ms ≡ [])
  pub least : (n : ℕ) (i : Instance) → n < bound → n < i.number → Contains instances i → OwnerIsThere lits i.owner → ¬ IsFoundAt p g s alike n i.owner i.sorts i.terms
  pub kept : AreKeptAs s owners instances taken

-- then none is owed
abbrev pub PassesLeaveNone : Type 0
PassesLeaveNone =
    (p : Problem) (g bound : ℕ) (lits : List Lit) (s : Stored) (alike : ℕ → ℕ → Bool) (owners : List Owner) (taken : List Taken) (instances : List Instance)
    → s.signature ≡ p.signature → IsStore s.signature s.nodes → IsEquivalence alike → IsPassed p g bound lits s alike owners taken instances → IsNoneOwed p g bound lits s alike instances

-- at a number that adds no name to those of a smaller one there are no more matches
abbrev pub NothingBetween : Type 0
NothingBetween =
    (p : Problem) (g : ℕ) (s : Stored) (alike : ℕ → ℕ → Bool) (m n : ℕ) (o : OwnerOf) (us : List Sort) (ts : List Term)
    → ((k : ℕ) (x : Node) → slice_get s.nodes k ≡ Some x → x.generation ≤ n → x.generation ≤ m) → IsFoundAt p g s alike n o us ts → IsFoundAt p g s alike m o us ts
