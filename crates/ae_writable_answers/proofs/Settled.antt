-- The state of a search in which each clause has a true literal can be written.
use Rattle.std.specs.Prelude.{ℕ, suc, ◌<◌, true, List, [], ◌∷◌, ◌≡◌, length}
use Rattle.std.specs.List.{AllByRecursion, Contains, flat_map}
use Rattle.std.proofs.Common.{refl, sym, subst, arith}
use Rattle.ae_base.proofs.AllOf.{all_append, all_weaker, test_of_all}
use Rattle.ae_core.specs.Sorts.{formula_ok}
use Rattle.ae_core.specs.declared.formulas.Lit.{Lit}
use Rattle.ae_core.specs.declared.problems.Problem.{Problem}
use Rattle.ae_core.specs.declared.proofs.ClauseLine.{ClauseLine}
use Rattle.ae_core.specs.declared.terms.Term.{Term}
use Rattle.ae_rules.specs.Clauses.{Clause}
use Rattle.ae_explain.specs.declared.trail.Assigned.{Assigned}
use Rattle.ae_explain.specs.Trail.{at, clause}
use Rattle.ae_journal.specs.declared.systems.System.{System}
use Rattle.ae_journal.proofs.Splits.{all_contained, contains_here, contains_later}
use Rattle.ae_legal_texts.specs.Numbers.{term_numbers}
use Rattle.ae_store.specs.Stores.{Stored}
use Rattle.ae_theory.specs.Names.{terms_in}
use Rattle.ae_sat.proofs.Deriving.{in_clause}
use Rattle.ae_open_states.specs.Shown.{shown, trail_literals}
use Rattle.ae_goal_search.specs.Ended.{IsSettled}
use Rattle.ae_goal_search.specs.Started.{IsStarted}
use Rattle.ae_numerals_kept.specs.Lowest.{IsLowestTerm}
use Rattle.ae_writable.specs.Numbers.{IsValueWithin, AreValuesWithin, HasLowestNumerals}
use Rattle.ae_writable.specs.Writable.{IsWritableRule, IsWritableState}
use Rattle.ae_written_lines.proofs.Fine.{IsFine, values_of, signs_of}
use Rattle.ae_writable_answers.proofs.Firsts.{name_lowest, closed}

-- what holds at each place of a trail holds of its literals
each_literal : (P : Lit → Type 0) (t : List Assigned) → ((j : ℕ) → j < length t → P (at t j).lit) → AllByRecursion P (trail_literals t)
each_literal P [] h = tt
each_literal P (a ∷ t) h = (h 0 (omega arith), each_literal P t (λ j lt. h (suc j) (omega (arith, lt))))

terms_within : (ts : List Term) → ((t : Term) → Contains ts t → IsLowestTerm t) → AreValuesWithin (flat_map term_numbers ts)
terms_within [] h = tt
terms_within (t ∷ ts) h = all_append IsValueWithin (term_numbers t) (flat_map term_numbers ts) (h t (contains_here t ts)) (terms_within ts (λ u i. h u (contains_later t ts u i)))

module _ (p : Problem) (g : ℕ) (low : HasLowestNumerals p) (firsts : List ClauseLine) (first : List Clause) (s : Stored) (start : IsStarted p g firsts first s)
    (t : List Assigned) (clauses : List Clause) (settled : IsSettled p g s first t clauses) where
  abbrev IsShown : Lit → Type 0
  IsShown l = IsFine l.formula × (formula_ok p.signature l.formula ≡ true)

  literal_shown : (j : ℕ) → j < length t → IsShown (at t j).lit
  literal_shown j lt =
      let k = in_clause t clauses settled.lawful settled.decided j lt in
      let w = closed p g low firsts first s start in
      let a = settled.formulas w.formulas w.parts w.among in (
        all_contained IsFine w.formulas (at t j).lit.formula w.fine (a (clause clauses k.0) (at t j).lit (k.0, k.1, refl) k.2),
        settled.over.sorted (clause clauses k.0) (at t j).lit (k.0, k.1, refl) k.2,
      )

  all_shown : AllByRecursion IsShown (trail_literals t)
  all_shown = each_literal IsShown t literal_shown

  all_fine : AllByRecursion (λ (l : Lit). IsFine l.formula) (trail_literals t)
  all_fine = all_weaker IsShown (λ (l : Lit). IsFine l.formula) (λ l h. h.0) (trail_literals t) all_shown

  pub state_writable : (y : System) → y.names ≡ terms_in s → AllByRecursion (IsWritableRule p.signature) y.rules → IsWritableState p.signature (shown t y)
  state_writable y same rules = record {
    sorted = test_of_all IsShown (λ (l : Lit). formula_ok p.signature l.formula) (λ l h. h.1) (trail_literals t) all_shown;
    direct = signs_of (trail_literals t) all_fine;
    literals = values_of (trail_literals t) all_fine;
    names = subst (λ (ts : List Term). AreValuesWithin (flat_map term_numbers ts)) (sym same) (terms_within (terms_in s) (name_lowest p g low firsts first s start));
    rules = rules;
    points = tt;
  }
