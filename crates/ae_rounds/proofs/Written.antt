-- Proofs and states of searches can be written where the problem's numerals are in lowest terms.
use Rattle.std.specs.Prelude.{ℕ, true, List, [], ◌∷◌, ◌≡◌}
use Rattle.std.specs.List.{AllByRecursion, Contains, flat_map, list_all}
use Rattle.std.proofs.Common.{refl, sym, subst}
use Rattle.std.proofs.lemmas.Bool.{and_from}
use Rattle.ae_base.proofs.AllOf.{all_append, test_of_all}
use Rattle.ae_between_rounds.specs.Fine.{AreFine, IsFineFormula, IsFineLine}
use Rattle.ae_between_rounds.specs.Finished.{IsFinishedAt, shown_at}
use Rattle.ae_between_rounds.specs.declared.search.Search.{Search}
use Rattle.ae_core.specs.Sorts.{formula_ok}
use Rattle.ae_core.specs.declared.formulas.Lit.{Lit}
use Rattle.ae_core.specs.declared.problems.Problem.{Problem}
use Rattle.ae_core.specs.declared.problems.Signature.{Signature}
use Rattle.ae_core.specs.declared.proofs.ClauseLine.{ClauseLine}
use Rattle.ae_core.specs.declared.proofs.Proof.{Proof}
use Rattle.ae_core.specs.declared.terms.Term.{Term}
use Rattle.ae_finished_rounds.proofs.Standing.{literal_sorted, of_clause, signature_of}
use Rattle.ae_journal.proofs.Splits.{contains_here, contains_later}
use Rattle.ae_journal.specs.declared.systems.PointAt.{PointAt}
use Rattle.ae_legal_texts.specs.Numbers.{line_numbers, term_numbers}
use Rattle.ae_legal_texts.specs.Writable.{no_negations_in}
use Rattle.ae_numerals_kept.specs.Lowest.{IsLowestTerm}
use Rattle.ae_open_states.proofs.Trails.{all_of_each}
use Rattle.ae_open_states.specs.Shown.{trail_literals}
use Rattle.ae_rules.specs.Clauses.{Clause}
use Rattle.ae_state.specs.Names.{system_now}
use Rattle.ae_stategrammar.specs.Points.{PointStands}
use Rattle.ae_store.specs.Stores.{Stored}
use Rattle.ae_theory.specs.Names.{terms_in}
use Rattle.ae_writable.specs.Numbers.{AreValuesWithin, HasLowestNumerals, IsValueWithin}
use Rattle.ae_writable.specs.Writable.{IsWritableProof, IsWritableRule, IsWritableState}
use Rattle.ae_written_lines.proofs.Fine.{signs_of, values_of}

-- ---- proofs
values_in : (ls : List ClauseLine) → AllByRecursion IsFineLine ls → AreValuesWithin (flat_map line_numbers ls)
values_in [] a = tt
values_in (l ∷ ls) a = all_append IsValueWithin (line_numbers l) (flat_map line_numbers ls) (a.0).0 (values_in ls a.1)

signs_in : (ls : List ClauseLine) → AllByRecursion IsFineLine ls → list_all no_negations_in ls ≡ true
signs_in [] a = refl
signs_in (l ∷ ls) a = and_from (no_negations_in l) (list_all no_negations_in ls) (a.0).1 (signs_in ls a.1)

pub proof_writable : (s : Stored) (lines : List ClauseLine) (cs : List Clause) (proof : Proof) → proof ≡ record { lines = lines } → AreFine s lines cs → IsWritableProof proof
proof_writable s lines cs proof is h = subst IsWritableProof (sym is) (record { values = values_in lines h.lines; direct = signs_in lines h.lines })

-- ---- states
terms_within : (ts : List Term) → ((t : Term) → Contains ts t → IsLowestTerm t) → AreValuesWithin (flat_map term_numbers ts)
terms_within [] h = tt
terms_within (t ∷ ts) h = all_append IsValueWithin (term_numbers t) (flat_map term_numbers ts) (h t (contains_here t ts)) (terms_within ts (λ u i. h u (contains_later t ts u i)))

module _ (p : Problem) (g bound : ℕ) (o : Search) (point : List PointAt) (done : IsFinishedAt p g bound o point) (low : HasLowestNumerals p) where
  fine : AreFine o.store o.lines.items o.solver.propagation.clauses
  fine = done.between.holds.fine low

  literals_fine : AllByRecursion (λ (l : Lit). IsFineFormula l.formula) (trail_literals o.solver.propagation.trail)
  literals_fine =
      all_of_each (λ (l : Lit). IsFineFormula l.formula) (trail_literals o.solver.propagation.trail)
      (λ l h. let c = of_clause p g bound o point done l h in fine.formulas c.0 l c.1 c.2)

  literals_sorted : AllByRecursion (λ (l : Lit). formula_ok p.signature l.formula ≡ true) (trail_literals o.solver.propagation.trail)
  literals_sorted = all_of_each (λ (l : Lit). formula_ok p.signature l.formula ≡ true) (trail_literals o.solver.propagation.trail) (λ l h. literal_sorted p g bound o point done l h)

  pub state_writable : AllByRecursion (IsWritableRule o.solver.theory.signature) (system_now o.solver.theory).rules → AllByRecursion PointStands point → IsWritableState p.signature (shown_at o point)
  state_writable rules points = record {
    sorted = test_of_all (λ (l : Lit). formula_ok p.signature l.formula ≡ true) (λ (l : Lit). formula_ok p.signature l.formula) (λ l h. h) (trail_literals o.solver.propagation.trail) literals_sorted;
    direct = signs_of (trail_literals o.solver.propagation.trail) literals_fine;
    literals = values_of (trail_literals o.solver.propagation.trail) literals_fine;
    names = subst (λ (ts : List Term). AreValuesWithin (flat_map term_numbers ts)) (sym done.is_open.complete.1) (terms_within (terms_in o.store) fine.names);
    rules = subst (λ (sig : Signature). AllByRecursion (IsWritableRule sig) (system_now o.solver.theory).rules) (sym (signature_of p g bound o point done)) rules;
    points = points;
  }
