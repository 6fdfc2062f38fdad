-- Matches that are the same.
use Rattle.std.specs.Prelude.{ℕ, Bool, true, false, ◌&&◌, nat_eq, List, [], ◌∷◌, slice_get, Option, Some}
use Rattle.std.specs.List.{list_any}
use Rattle.ae_base.specs.Options.{or_else, ◌>>=◌}
use Rattle.ae_core.specs.Sorts.{same_sorts}
use Rattle.ae_trigger.specs.declared.patterns.Subst.{Subst}
use Rattle.ae_store.specs.declared.nodes.Shape.{Shape}
use Rattle.ae_inst.specs.Index.{key}
use Rattle.ae_inst.specs.declared.instances.Taken.{Taken}

-- as many names, the same one by one
abbrev pub are_same : (ℕ → ℕ → Bool) → List ℕ → List ℕ → Bool
are_same alike [] [] = true
are_same alike [] (n ∷ ns) = false
are_same alike (m ∷ ms) [] = false
are_same alike (m ∷ ms) (n ∷ ns) = alike m n && are_same alike ms ns

-- of this owner, with the same sorts, and names that are the same one by one
abbrev pub is_match : (ℕ → ℕ → Bool) → ℕ → Subst → Taken → Bool
is_match alike owner s t = nat_eq t.owner owner && same_sorts t.sorts s.sorts && are_same alike t.terms s.terms

-- what is kept of a match
abbrev pub taken : ℕ → Subst → Taken
taken owner s = record { owner = owner; sorts = s.sorts; terms = s.terms }

-- the match at a place; one that stands under the owner and a name
abbrev pub is_match_at : (ℕ → ℕ → Bool) → ℕ → Subst → List Taken → ℕ → Bool
is_match_at alike owner s ts i = or_else (slice_get ts i >>= λ t. Some (is_match alike owner s t)) false

abbrev pub is_match_under : (ℕ → ℕ → Bool) → ℕ → Subst → List Taken → (Shape → Option (List ℕ)) → ℕ → Bool
is_match_under alike owner s ts places n = list_any (is_match_at alike owner s ts) (or_else (places (key owner (Some n))) [])
