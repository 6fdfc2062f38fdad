-- What was added so far.
use Rattle.std.specs.Prelude.{ℕ, ◌<◌, List, [], ◌∷◌, ◌++◌, ◌≡◌, ◌⊎◌, slice_get, Option, Some, None}
use Rattle.std.specs.List.{Contains}
use Rattle.ae_base.specs.Options.{◌>>=◌}
use Rattle.ae_base.specs.Relations.{Pairwise}
use Rattle.ae_core.specs.Sorts.{sort_of}
use Rattle.ae_core.specs.declared.problems.Signature.{Signature}
use Rattle.ae_core.specs.declared.proofs.ClauseLine.{ClauseLine}
use Rattle.ae_core.specs.declared.proofs.ClauseLine.TheVariants.{Exh}
use Rattle.ae_core.specs.declared.terms.Sort.{out-Sort}
use Rattle.ae_core.specs.declared.terms.Term.{Term, Apply}
use Rattle.ae_core.specs.declared.terms.Head.{Head}
use Rattle.ae_rules.specs.Clauses.{Clause}
use Rattle.ae_rules.specs.Instances.{choices_of, exhaustion}
use Rattle.ae_store.specs.Stores.{Stored}
use Rattle.ae_store.specs.Terms.{Keeps}
use Rattle.ae_theory.specs.Names.{terms_in}
use Rattle.ae_sat.specs.Standing.{IsOneOf}
use Rattle.ae_open_states.specs.Choices.{IsChoiceOf}
use Rattle.ae_choice_clauses.specs.Choices.{IsChoiceLine}

-- the constructors of a term's sort, where it is an enumeration
abbrev pub choices_at : Signature → Term → Option (List Head)
choices_at sig t = sort_of sig t >>= λ s. choices_of sig (out-Sort s)

-- the term of a head without sorts and arguments
abbrev pub constant : Head → Term
constant h = Apply h [] []

module _ (sig : Signature) (u : Term) where
  -- the constructors of the sort of u have names, and nothing else is named besides
  pub record NamesChoices (old new : Stored) : Type 0 where
    pub signature : new.signature ≡ old.signature
    pub keeps : Keeps (terms_in old) (terms_in new)
    pub only : (t : Term) → Contains (terms_in new) t → Contains (terms_in old) t ⊎ IsChoiceOf sig u t
    pub named : (t : Term) → IsChoiceOf sig u t → Contains (terms_in new) t

  -- the line of u was put behind the others with its clause, unless it has none or u is a constructor
  pub data IsKept (ls : List ClauseLine) (cs : List Clause) : List ClauseLine → List Clause → Type 0 where
    left_out : exhaustion sig u ≡ None ⊎ IsChoiceOf sig u u → IsKept ls cs ls cs
    with_clause : (c : Clause) → exhaustion sig u ≡ Some c → IsKept ls cs (ls ++ Exh u ∷ []) (cs ++ c ∷ [])

-- what was added for the names below n
pub record HasAdded (sig : Signature) (n : ℕ) (old new : Stored) (lines lines2 : List ClauseLine) (clauses clauses2 : List Clause) : Type 0 where
  pub more_lines : List ClauseLine
  pub more : List Clause
  pub lines_are : lines2 ≡ lines ++ more_lines
  pub clauses_are : clauses2 ≡ clauses ++ more
  pub states : Pairwise (IsChoiceLine sig (terms_in old)) more_lines more
  pub signature : new.signature ≡ old.signature
  pub keeps : Keeps (terms_in old) (terms_in new)
  pub only : (t : Term) → Contains (terms_in new) t → Contains (terms_in old) t ⊎ ((u : Term) × Contains (terms_in old) u × IsChoiceOf sig u t)
  pub named : (i : ℕ) (u t : Term) → i < n → slice_get (terms_in old) i ≡ Some u → IsChoiceOf sig u t → Contains (terms_in new) t
  pub all : (i : ℕ) (u : Term) (c : Clause) → i < n → slice_get (terms_in old) i ≡ Some u → exhaustion sig u ≡ Some c → IsChoiceOf sig u u ⊎ IsOneOf clauses2 c
