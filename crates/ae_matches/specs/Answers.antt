-- The matches of a pattern among the names of a store.
use Rattle.std.specs.Prelude.{ℕ, ◌<◌, ◌≡◌, Bool, true, false, ◌&&◌, List, map, length, slice_get, Some}
use Rattle.std.specs.List.{AllByRecursion, list_any}
use Rattle.ae_core.specs.Sorts.{same_sorts}
use Rattle.ae_rules.specs.Matches.{IsMatch}
use Rattle.ae_store.specs.Stores.{Stored}
use Rattle.ae_store.specs.Shapes.{shapes}
use Rattle.ae_store.specs.Terms.{terms, named}
use Rattle.ae_matching.specs.Laws.{In, IsKnownTerm, AreSame}
use Rattle.ae_match.specs.Seen.{seen}
use Rattle.ae_inst.specs.Matches.{are_same}
use Rattle.ae_trigger.specs.declared.patterns.Pattern.{Pattern}
use Rattle.ae_trigger.specs.declared.patterns.Subst.{Subst}
use Rattle.ae_matches.specs.Steps.{fresh_has}

-- sorts and names whose terms are a match of the pattern's trigger: known are the terms of names of generation below the number, and
-- terms are the same where their names are alike
pub record IsMatchOf (s : Stored) (alike : ℕ → ℕ → Bool) (below : ℕ) (p : Pattern) (m : Subst) : Type 0 where
  pub within : AllByRecursion (λ n. n < length s.nodes) m.terms
  pub is : IsMatch s.signature (IsKnownTerm (seen s.signature s.nodes) below) (AreSame (seen s.signature s.nodes) alike) p.sort_vars p.vars p.terms m.sorts (map (named (terms (shapes s.nodes))) m.terms)

-- of the same sorts, and of names that are alike one by one
abbrev pub is_same_match : (ℕ → ℕ → Bool) → Subst → Subst → Bool
is_same_match alike m k = same_sorts m.sorts k.sorts && are_same alike m.terms k.terms

-- an answer that is the same as a match
pub record IsAnswered (alike : ℕ → ℕ → Bool) (answers : List Subst) (m : Subst) : Type 0 where
  pub answer : Subst
  pub among : In answers answer
  pub same : is_same_match alike m answer ≡ true

-- each answer is a match, each match is the same as an answer, and no two answers are the same
pub record AreMatches (s : Stored) (alike : ℕ → ℕ → Bool) (below : ℕ) (p : Pattern) (answers : List Subst) : Type 0 where
  pub sound : (m : Subst) → In answers m → IsMatchOf s alike below p m
  pub complete : (m : Subst) → IsMatchOf s alike below p m → IsAnswered alike answers m
  pub once : (i j : ℕ) (m k : Subst) → slice_get answers i ≡ Some m → slice_get answers j ≡ Some k → is_same_match alike m k ≡ true → i ≡ j

-- none of the pattern's type variables stands in the sort of a fresh constant of the trigger
pub record HasClosedConstants (p : Pattern) : Type 0 where
  pub none : (i : ℕ) → i < p.sort_vars → list_any (fresh_has i) p.terms ≡ false
