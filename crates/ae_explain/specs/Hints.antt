-- Clauses that follow from others by unit propagation.
use Rattle.std.specs.Prelude.{ℕ, List, Option, true, ◌≡◌, map, slice_get}
use Rattle.ae_base.specs.Options.{all_known}
use Rattle.ae_rules.specs.Clauses.{Clause}
use Rattle.ae_rules.specs.Derivations.{is_refuted}

-- the clauses of the hints, in their order
abbrev pub hinted : List Clause → List ℕ → Option (List Clause)
hinted clauses hints = all_known (map (slice_get clauses) hints)

-- where all literals of the clause are false, unit propagation through the hinted clauses, in their order, ends in a clause that is false
abbrev pub Propagates : List Clause → Clause → List ℕ → Type 0
Propagates clauses c hints = is_refuted (hinted clauses hints) c ≡ true
