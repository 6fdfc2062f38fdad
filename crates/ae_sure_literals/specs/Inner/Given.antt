-- The given clauses, in the order in which they are collected.
use Rattle.std.specs.Prelude.{ℕ, zero, suc, List, [], ◌∷◌, ◌++◌, length, Option, Some, None}
use Rattle.std.specs.List.{flat_map}
use Rattle.ae_core.specs.declared.problems.Problem.{Problem}
use Rattle.ae_core.specs.declared.proofs.ClauseLine.TheVariants as clause_line
use Rattle.ae_journal.specs.declared.lines.Line.{Line}
use Rattle.ae_journal.specs.declared.lines.Line.TheVariants as line
use Rattle.ae_rules.specs.Clauses.{Clause}
use Rattle.ae_rules.specs.Derivations.{clause_of, conclusion}

abbrev pub listed : Option Clause → List Clause
listed None = []
listed (Some c) = c ∷ []

module _ (p : Problem) (g : ℕ) where
  -- of the first items
  abbrev pub hypotheses_before : ℕ → List Clause
  hypotheses_before zero = []
  hypotheses_before (suc k) = hypotheses_before k ++ listed (clause_of p g (clause_line.Hyp k []))

  abbrev pub line_clauses : Line → List Clause
  line_clauses (line.Learn c) = c ∷ []
  line_clauses (line.TypeInstance k ss) = listed (conclusion p g (clause_line.Hyp k ss))
  line_clauses (line.TermInstance f ts) = listed (conclusion p g (clause_line.Inst f ts))
  line_clauses _ = []

  unfoldable pub given_in : List Line → List Clause
  given_in js = (hypotheses_before (length p.items) ++ listed (clause_of p g clause_line.Goal)) ++ flat_map line_clauses js
