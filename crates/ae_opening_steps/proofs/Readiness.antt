-- The literals of a trail stand in clauses, and have what these have.
use Rattle.std.specs.Prelude.{ℕ, ◌<◌, ◌≡◌, List, length, None}
use Rattle.std.specs.List.{Contains}
use Rattle.std.proofs.Common.{refl}
use Rattle.ae_block_counts.proofs.Blocks.{block_in}
use Rattle.ae_core.specs.Sorts.{formula_ok}
use Rattle.ae_core.specs.declared.formulas.Lit.{Lit}
use Rattle.ae_core.specs.declared.problems.Problem.{Problem}
use Rattle.ae_core.specs.declared.proofs.ClauseLine.{ClauseLine}
use Rattle.ae_explain.specs.Trail.{at, clause, IsLawful}
use Rattle.ae_explain.specs.declared.trail.Assigned.{Assigned}
use Rattle.ae_kept_blocks.proofs.Members.{contained}
use Rattle.ae_kept_blocks.proofs.Runs.{clauses_below}
use Rattle.ae_new_constants.specs.Below.{AreLinesBelow}
use Rattle.ae_opening_steps.specs.Ready.{IsReady}
use Rattle.ae_rules.specs.Clauses.{Clause}
use Rattle.ae_sat.proofs.Deriving.{in_clause, clause_sorted, sorted_one}
use Rattle.ae_sat.specs.Search.{IsStated}
use Rattle.ae_sat.specs.Standing.{IsOneOf}

module _ (p : Problem) (g n : ℕ) (t : List Assigned) (lines : List ClauseLine) (clauses : List Clause) (places : List ℕ) (stated : IsStated p g lines clauses places) (below : AreLinesBelow p g n lines)
    (lawful : IsLawful t clauses) (stands : (j : ℕ) → j < length t → (at t j).by ≡ None → (c : Clause) × IsOneOf clauses c × Contains c (at t j).lit) where
  pub ready : (j : ℕ) → j < length t → IsReady p n clauses (at t j).lit.formula
  ready j lt =
      let l = (at t j).lit in
      let w = in_clause t clauses lawful stands j lt in
      let c = clause clauses w.0 in
      let of : IsOneOf clauses c = (w.0, w.1, refl) in
      record {
        below = clauses_below p g n lines clauses places stated below c l of w.2;
        sorted = sorted_one (λ (m : Lit). formula_ok p.signature m.formula) c l (clause_sorted p g lines clauses places stated w.0 w.1) w.2;
        block = λ q e. block_in clauses c l q (contained clauses c of) w.2 e;
        formula = λ x js k. k c l of w.2;
      }
