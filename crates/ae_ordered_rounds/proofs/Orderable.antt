-- The sides of an inequality that is true in a search with nothing left to do are numbers whose order may come in.
use Rattle.std.specs.Prelude.{ℕ, ◌≡◌, Bool, true, false, ◌&&◌, ◌||◌, List, [], ◌∷◌, Some}
use Rattle.std.specs.List.{Contains}
use Rattle.std.proofs.Common.{refl, sym, ap, ◌∙◌, subst}
use Rattle.std.proofs.lemmas.Option.{none-some}
use Rattle.ae_added_orders.proofs.Over.{named_over}
use Rattle.ae_added_orders.specs.Ordering.{IsOverNames}
use Rattle.ae_base.proofs.Decided.{decided_of}
use Rattle.ae_base.specs.Options.{when}
use Rattle.ae_between_rounds.specs.Between.{IsBetweenRounds}
use Rattle.ae_between_rounds.specs.Finished.{IsOpenSearch}
use Rattle.ae_between_rounds.specs.declared.search.Search.{Search}
use Rattle.ae_core.specs.Decided.{Sort_discrete}
use Rattle.ae_core.specs.Sorts.{formula_ok, is_numeric, same_numeric, same_sort, sort_of}
use Rattle.ae_core.specs.declared.formulas.Formula.{Eq, Lt}
use Rattle.ae_core.specs.declared.formulas.Formula.TheVariants.{outs-Lt}
use Rattle.ae_core.specs.declared.formulas.Lit.{Lit}
use Rattle.ae_core.specs.declared.problems.Problem.{Problem}
use Rattle.ae_core.specs.declared.problems.Signature.{Signature}
use Rattle.ae_core.specs.declared.terms.Sort.{Sort, Int, Real}
use Rattle.ae_core.specs.declared.terms.Term.{Term}
use Rattle.ae_explain.specs.Trail.{at, clause}
use Rattle.ae_explain.specs.declared.trail.Assigned.{Assigned}
use Rattle.ae_journal.proofs.Splits.{all_contained}
use Rattle.ae_journal.specs.States.{inequality, inequality_of}
use Rattle.ae_new_constants.specs.Below.{IsTermBelow}
use Rattle.ae_numerals_kept.specs.Lowest.{IsLowestTerm}
use Rattle.ae_ordered_rounds.specs.Inner.Orderable.{IsOrderable}
use Rattle.ae_orderless.proofs.Forms.{orderless_literal}
use Rattle.ae_orderless.specs.Orderless.{IsOrderlessGoal}
use Rattle.ae_propagation.specs.Settled.{Holds}
use Rattle.ae_rules.specs.Clauses.{Clause, is_false, is_true}
use Rattle.ae_rules.specs.Instances.{trichotomy}
use Rattle.ae_solved_orders.proofs.Passed.{formula_sorted, in_some, names_of, sides_named, sides_sorted}
use Rattle.ae_state_steps.specs.ValueSteps.{sort_for}
use Rattle.ae_theory.specs.Names.{terms_in}
use Rattle.ae_writable.specs.Numbers.{HasLowestNumerals}

-- ---- numbers of one sort
or_right : (b c : Bool) → c ≡ true → (b || c) ≡ true
or_right true c e = refl
or_right false c e = e

same_itself : (s : Sort) → same_sort s s ≡ true
same_itself s = decided_of (Sort_discrete s s) refl

numbers_twice : (real : Bool) → same_numeric (Some (sort_for real)) (Some (sort_for real)) ≡ true
numbers_twice true = ap (λ (b : Bool). b && is_numeric Real) (same_itself Real) ∙ or_right (same_sort Real Int) (same_sort Real Real) (same_itself Real)
numbers_twice false = ap (λ (b : Bool). b && is_numeric Int) (same_itself Int) ∙ ap (λ (b : Bool). b || same_sort Int Real) (same_itself Int)

have_order : (sig : Signature) (real : Bool) (s u : Term) → sort_of sig s ≡ Some (sort_for real) → sort_of sig u ≡ Some (sort_for real) → (c : Clause) × (trichotomy sig s u ≡ Some c)
have_order sig real s u a b =
    let c : Clause = is_true (Eq s u) ∷ is_true (Lt s u) ∷ is_true (Lt u s) ∷ [] in
    let sorts : trichotomy sig s u ≡ when (same_numeric (Some (sort_for real)) (Some (sort_for real))) c = λ i. when (same_numeric (a i) (b i)) c in
    (c, sorts ∙ ap (λ (w : Bool). when w c) (numbers_twice real))

module _ (p : Problem) (g bound : ℕ) (o : Search) (between : IsBetweenRounds p g bound o) where
  abbrev t : List Assigned
  t = o.solver.propagation.trail

  pub below_of : (u : Term) → Contains (terms_in o.store) u → IsTermBelow o.blocks.next u
  below_of u h = all_contained (IsTermBelow o.blocks.next) (terms_in o.store) u between.holds.constants.names h

  pub lowest_of : HasLowestNumerals p → (u : Term) → Contains (terms_in o.store) u → IsLowestTerm u
  lowest_of low u h = (between.holds.fine low).names u h

  pub over_of : (u : Term) → Contains (terms_in o.store) u → IsOverNames p.signature o.store u
  over_of u h = subst (λ (sig : Signature). IsOverNames sig o.store u) (sym between.searching.signature) (named_over o.store between.holds.store u h)

  module _ (is_open : IsOpenSearch o) (l : Lit) (u w : Term) (strict : Bool) (h : Holds t l) (e : inequality l ≡ Some (u, w, strict)) where
    -- there is an inequality in the problem
    pub is_ordered : ¬ IsOrderlessGoal p g
    is_ordered none =
        let i = in_some p g bound o between is_open h.0 h.1 in
        let own = between.holds.orderless none (clause o.solver.propagation.clauses i.0) (at t h.0).lit (i.0, i.1, refl) i.2 in
        none-some (u, w, strict) (sym (orderless_literal (at t h.0).lit own) ∙ ap inequality h.2 ∙ e)

    literal_sorted : formula_ok p.signature l.formula ≡ true
    literal_sorted = subst (λ (m : Lit). formula_ok p.signature m.formula ≡ true) h.2 (formula_sorted p g bound o between is_open h.0 h.1)

    pub literal_orderable : IsOrderable p g o w u
    literal_orderable =
        let named = sides_named l u w strict e o.store (names_of p g bound o between is_open l h) in
        let sorts = sides_sorted l u w strict e p.signature literal_sorted in
        record {
          may = record {
            entered = λ x told. let lawful = between.searching.lawful x told in (lawful.entered w named.1, lawful.entered u named.0);
            below = (below_of w named.1, below_of u named.0);
            lowest = λ low. (lowest_of low w named.1, lowest_of low u named.0);
            over = (over_of w named.1, over_of u named.0);
            ordered = is_ordered;
          };
          numbers = have_order p.signature sorts.0 w u sorts.2 sorts.1;
        }

  -- of two numbers of which it is denied that the second is below the first
  pub pair_orderable : IsOpenSearch o → (s u : Term) → Holds t (is_false (Lt u s)) → IsOrderable p g o s u
  pair_orderable is_open s u h = literal_orderable is_open (is_false (Lt u s)) u s false h (ap (inequality_of false) (outs-Lt u s))
