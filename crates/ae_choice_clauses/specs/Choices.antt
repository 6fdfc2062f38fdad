-- What is added to what a search begins with: for each named term of an enumeration that is no constructor the clause that it is one of the constructors.
use Rattle.std.specs.Prelude.{ℕ, List, [], ◌++◌, ◌≡◌, ◌⊎◌, Some}
use Rattle.std.specs.List.{Contains}
use Rattle.ae_base.specs.Relations.{Pairwise}
use Rattle.ae_core.specs.declared.problems.Problem.{Problem}
use Rattle.ae_core.specs.declared.problems.Signature.{Signature}
use Rattle.ae_core.specs.declared.proofs.ClauseLine.{ClauseLine}
use Rattle.ae_core.specs.declared.proofs.ClauseLine.TheVariants.{Exh}
use Rattle.ae_core.specs.declared.terms.Term.{Term}
use Rattle.ae_rules.specs.Clauses.{Clause}
use Rattle.ae_rules.specs.Derivations.{conclusion, AreAllowed}
use Rattle.ae_rules.specs.Instances.{exhaustion}
use Rattle.ae_store.specs.Stores.{Stored}
use Rattle.ae_store.specs.Terms.{Keeps}
use Rattle.ae_theory.specs.Names.{terms_in}
use Rattle.ae_sat.specs.Standing.{IsOneOf}
use Rattle.ae_open_states.specs.Choices.{IsChoiceOf}

-- the line of one of these terms, of an enumeration, and the clause that the term is one of the constructors
pub data IsChoiceLine (sig : Signature) (ts : List Term) : ClauseLine → Clause → Type 0 where
  a_choice : (t : Term) (c : Clause) → Contains ts t → exhaustion sig t ≡ Some c → IsChoiceLine sig ts (Exh t) c

module _ (p : Problem) (g : ℕ) where
  abbrev pub StatesChoice : List Term → ClauseLine → Clause → Type 0
  StatesChoice ts l c = IsChoiceLine p.signature ts l c × (conclusion p g l ≡ Some c)

  -- names, lines and clauses grow by what enumerations add
  pub record AddsChoices (old new : Stored) (lines lines2 : List ClauseLine) (clauses clauses2 : List Clause) : Type 0 where
    pub more_lines : List ClauseLine
    pub more : List Clause
    pub lines_are : lines2 ≡ lines ++ more_lines
    pub clauses_are : clauses2 ≡ clauses ++ more
    pub states : Pairwise (StatesChoice (terms_in old)) more_lines more
    pub signature : new.signature ≡ old.signature
    pub keeps : Keeps (terms_in old) (terms_in new)
    -- the constructors of the sorts of names are named, and nothing else besides
    pub only : (t : Term) → Contains (terms_in new) t → Contains (terms_in old) t ⊎ ((u : Term) × Contains (terms_in old) u × IsChoiceOf p.signature u t)
    pub named : (u t : Term) → Contains (terms_in old) u → IsChoiceOf p.signature u t → Contains (terms_in new) t
    -- each name of an enumeration is a constructor or has its clause
    pub all : (u : Term) (c : Clause) → Contains (terms_in old) u → exhaustion p.signature u ≡ Some c → IsChoiceOf p.signature u u ⊎ IsOneOf clauses2 c
    pub allowed : AreAllowed p g [] lines → AreAllowed p g [] lines2
