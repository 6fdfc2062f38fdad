-- What a search begins with is well sorted.
use Rattle.std.specs.Prelude.{ℕ, true, List, [], ◌∷◌, ◌≡◌}
use Rattle.std.specs.List.{AllByRecursion}
use Rattle.ae_base.specs.Relations.{Pairwise}
use Rattle.ae_core.specs.declared.problems.Problem.{Problem}
use Rattle.ae_core.specs.declared.proofs.ClauseLine.{ClauseLine}
use Rattle.ae_rules.specs.Clauses.{Clause}
use Rattle.ae_rules.specs.Derivations.{clause_ok}
use Rattle.ae_rules.proofs.SortedLines.{stated_sorted}
use Rattle.ae_first_clauses.specs.First.{States}

pub all_sorted : (p : Problem) (g : ℕ) (lines : List ClauseLine) (clauses : List Clause) → Pairwise (States p g) lines clauses → AllByRecursion (λ c. clause_ok p.signature c ≡ true) clauses
all_sorted p g [] [] h = tt
all_sorted p g [] (c ∷ cs) h = absurd h
all_sorted p g (l ∷ ls) [] h = absurd h
all_sorted p g (l ∷ ls) (c ∷ cs) h = (stated_sorted p g l c h.0.1, all_sorted p g ls cs h.1)
