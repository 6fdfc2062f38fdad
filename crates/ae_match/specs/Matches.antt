-- The terms of a trigger equal known terms of a store, which are those of names of generation below a number; terms are the same where their names are.
use Rattle.std.specs.Prelude.{ℕ, ◌<◌, ◌↔◌, Bool, true, List, ◌≡◌, map, length}
use Rattle.std.specs.List.{AllByRecursion, list_any}
use Rattle.ae_core.specs.Signatures.{has_variable}
use Rattle.ae_core.specs.declared.terms.Sort.{Sort}
use Rattle.ae_core.specs.declared.terms.Term.{Term}
use Rattle.ae_core.specs.declared.problems.Signature.{Signature}
use Rattle.ae_rules.specs.Matches.{Equals, is_arithmetic}
use Rattle.ae_store.specs.declared.nodes.Node.{Node}
use Rattle.ae_store.specs.Shapes.{shapes}
use Rattle.ae_store.specs.Stores.{IsStore}
use Rattle.ae_store.specs.Terms.{terms, named}
use Rattle.ae_matching.specs.Laws.{IsKnownTerm, AreSame, IsEquivalence}
use Rattle.ae_matching.specs.Triggers.{AreEqual, IsFound}
use Rattle.ae_match.specs.Seen.{seen}

-- as a match of the trigger asks for it, where the names' terms are put for the variables
abbrev pub EqualKnown : Signature → List Node → (ℕ → ℕ → Bool) → ℕ → List Sort → List ℕ → List Term → Type 0
EqualKnown sig ns alike below sorts values =
    AllByRecursion (λ p. (u : Term) × Equals sig (IsKnownTerm (seen sig ns) below) (AreSame (seen sig ns) alike) sorts (map (named (terms (shapes ns))) values) p u)

-- the test says it exactly
abbrev pub TestedAreEqual : Type 0
TestedAreEqual =
    (sig : Signature) (ns : List Node) (alike : ℕ → ℕ → Bool) (below : ℕ) (sorts : List Sort) (values : List ℕ) → IsStore sig ns → AllByRecursion (λ v. v < length ns) values → (ps : List Term)
    → AreEqual (seen sig ns) alike below sorts values is_arithmetic ps ↔ EqualKnown sig ns alike below sorts values ps

-- bindings are offered whose names are those of the match, up to names that are the same, and pass the test too
abbrev pub MatchesAreFound : Type 0
MatchesAreFound =
    (sig : Signature) (ns : List Node) (alike : ℕ → ℕ → Bool) (below : ℕ) (sorts : List Sort) (values : List ℕ) → IsStore sig ns → IsEquivalence alike → AllByRecursion (λ v. v < length ns) values
    → (ps : List Term) → ((i : ℕ) → i < length values → list_any (has_variable i) ps ≡ true) → EqualKnown sig ns alike below sorts values ps
    → IsFound (seen sig ns) alike below sorts values is_arithmetic ps
