-- What is learnt from a block of literals of the trail.
use Rattle.std.specs.Prelude.{ℕ, zero, suc, ◌<◌, ◌≡◌, Bool, true, List, [], ◌∷◌, length}
use Rattle.std.specs.List.{AllByRecursion, Contains, list_all}
use Rattle.std.proofs.Common.{arith, refl, sym, ap, subst}
use Rattle.std.proofs.lemmas.Bool.{and_from}
use Rattle.ae_between_rounds.specs.Between.{IsBetweenRounds}
use Rattle.ae_between_rounds.specs.declared.search.Search.{Search}
use Rattle.ae_core.specs.Sorts.{formula_ok}
use Rattle.ae_core.specs.declared.formulas.Lit.{Lit}
use Rattle.ae_core.specs.declared.problems.Problem.{Problem}
use Rattle.ae_core.specs.declared.problems.Signature.{Signature}
use Rattle.ae_core.specs.declared.proofs.ClauseLine.TheVariants as clause_line
use Rattle.ae_explain.specs.Trail.{at, clause}
use Rattle.ae_explain.specs.declared.trail.Assigned.{Assigned}
use Rattle.ae_kept_runs.specs.Runs.{LearntLinesComeOver}
use Rattle.ae_open_states.proofs.Trails.{all_of_each}
use Rattle.ae_rules.specs.Clauses.{Clause}
use Rattle.ae_rules.specs.Derivations.{clause_ok}
use Rattle.ae_sat.proofs.Deriving.{clause_sorted, in_clause, sorted_one}
use Rattle.ae_sat.proofs.Saturating.{atoms_stand}
use Rattle.ae_sat.specs.Lines.{IsBlockOver}
use Rattle.ae_sat.specs.Marked.{atoms}
use Rattle.ae_sat.specs.Standing.{IsOneOf}
use Rattle.ae_theory.specs.Noting.{IsBlockOf, literals}
use Rattle.ae_theory.specs.Tagged.{Tagged}

-- ---- hypotheses of a block
literal_there : (ts : List Tagged) (x : Tagged) → Contains ts x → Contains (literals ts) x.lit
literal_there [] x k = absurd (omega (arith, k.1))
literal_there (a ∷ ts) x (zero, r, e) = (zero, omega arith, ap (λ (t : Tagged). t.lit) e)
literal_there (a ∷ ts) x (suc k, r, e) = let q = literal_there ts x (k, omega (arith, r), e) in (suc q.0, omega (arith, q.1), q.2)

pub each_literal : (P : Lit → Type 0) (ts : List Tagged) → ((l : Lit) → Contains (literals ts) l → P l) → (hyps : List Lit) (tags : List ℕ) → IsBlockOf ts hyps tags → AllByRecursion P hyps
each_literal P ts f [] ks b = tt
each_literal P ts f (l ∷ ls) [] b = absurd b
each_literal P ts f (l ∷ ls) (k ∷ ks) b = (f l (literal_there ts (record { lit = l; tag = k }) b.0), each_literal P ts f ls ks b.1)

all_pass : (P : Lit → Bool) (ls : List Lit) → AllByRecursion (λ (l : Lit). P l ≡ true) ls → list_all P ls ≡ true
all_pass P [] a = refl
all_pass P (l ∷ ls) a = and_from (P l) (list_all P ls) a.0 (all_pass P ls a.1)

module _ (p : Problem) (g bound : ℕ) (o : Search) (between : IsBetweenRounds p g bound o) where
  abbrev t : List Assigned
  t = o.solver.propagation.trail

  abbrev cs : List Clause
  cs = o.solver.propagation.clauses

  -- what the literals of the clauses are, those of the trail are
  of_trail : (P : Lit → Type 0) → ((c : Clause) (l : Lit) → IsOneOf cs c → Contains c l → P l) → (j : ℕ) → j < length t → P (at t j).lit
  of_trail P each j lt =
      let w = in_clause t cs between.searching.alive.running.lawful between.searching.alive.running.stands j lt in
      each (clause cs w.0) (at t j).lit (w.0, w.1, refl) w.2

  -- and those of a block
  pub hyps_are : (P : Lit → Type 0) → ((c : Clause) (l : Lit) → IsOneOf cs c → Contains c l → P l) → (hyps : List Lit) (tags : List ℕ) → IsBlockOf (atoms t) hyps tags → AllByRecursion P hyps
  hyps_are P each hyps tags b = each_literal P (atoms t) (λ l h. atoms_stand P 0 t (of_trail P each) l h) hyps tags b

  pub hyps_sorted : (hyps : List Lit) (tags : List ℕ) → IsBlockOf (atoms t) hyps tags → clause_ok o.store.signature hyps ≡ true
  hyps_sorted hyps tags b =
      subst (λ (sig : Signature). clause_ok sig hyps ≡ true) between.searching.signature
      (all_pass (λ (l : Lit). formula_ok p.signature l.formula) hyps
      (hyps_are (λ (l : Lit). formula_ok p.signature l.formula ≡ true)
      (λ c l i k.
      sorted_one (λ (m : Lit). formula_ok p.signature m.formula) (clause cs i.0) l (clause_sorted p g o.lines.items cs o.solver.places between.searching.stated i.0 i.1)
      (subst (λ (d : Clause). Contains d l) (sym i.2) k)) hyps tags b))

pub learnt_lines_come_over : LearntLinesComeOver
learnt_lines_come_over p g bound o b tags new between literals built adds fs parts among =
    let own : IsBlockOver o.store fs b = record { hyps = hyps_are p g bound o between (λ (l : Lit). Contains fs l.formula) (λ c l i k. among c l i k) b.deriv.hyps tags literals; lines = built } in
    (clause_line.Block b ∷ clause_line.Rup adds.0 adds.1 ∷ [], adds.2, (own, (all_of_each (λ (l : Lit). Contains fs l.formula) adds.0 (λ l i. adds.3 fs parts among l i), tt)))
