-- What instances that were made say, beside the lines that brought it: it is well sorted, and its terms have names.
use Rattle.std.specs.Prelude.{true, List, [], ◌∷◌, ◌≡◌, Some}
use Rattle.std.specs.List.{Contains}
use Rattle.std.proofs.Common.{sym, ◌∙◌, subst, arith, inl, inr}
use Rattle.std.proofs.lemmas.List.Elements.{Contains-append_cases}
use Rattle.std.proofs.lemmas.Option.{same_Some}
use Rattle.ae_base.proofs.AllOf.{all_of_test, test_of_all}
use Rattle.ae_block_constants.specs.declared.opened.Opened.{Opened}
use Rattle.ae_core.specs.Sorts.{formula_ok}
use Rattle.ae_core.specs.declared.formulas.Formula.{out-Formula}
use Rattle.ae_core.specs.declared.formulas.Lit.{Lit}
use Rattle.ae_core.specs.declared.proofs.ClauseLine.TheVariants as clause_line
use Rattle.ae_core.specs.declared.terms.Sort.{Sort}
use Rattle.ae_core.specs.declared.terms.Term.{Term}
use Rattle.ae_goal_names.specs.Named.{clause_terms}
use Rattle.ae_journal.proofs.Splits.{all_contained, contains_here, contains_later}
use Rattle.ae_journal.specs.InstanceLines.{IsInstance, of_type, of_terms, of_axiom_terms}
use Rattle.ae_journal.specs.Standing.{Setting, IsGiven, by_type_instance, by_term_instance}
use Rattle.ae_journal.specs.States as states
use Rattle.ae_journal.specs.declared.lines.Line.{Line}
use Rattle.ae_open_states.proofs.Trails.{all_of_each}
use Rattle.ae_owed.specs.Recorded.{IsBroughtBy}
use Rattle.ae_owed.specs.Instances.{Instance}
use Rattle.ae_rules.proofs.SortedLines.{stated_sorted}
use Rattle.ae_rules.specs.Clauses.{Clause}
use Rattle.ae_rules.specs.Derivations.{clause_ok}
use Rattle.ae_rules.specs.Instances.{fresh_clause}
use Rattle.ae_sat.specs.Search.{AllNamed}
use Rattle.ae_sat.specs.Standing.{IsOneOf}
use Rattle.ae_store.specs.Stores.{Stored}
use Rattle.ae_theory.specs.Names.{terms_in}

-- a term of a clause stands in one of its literals
pub in_clause_terms : (c : Clause) (t : Term) → Contains (clause_terms c) t → (l : Lit) × Contains c l × Contains (states.outside l.formula) t
in_clause_terms [] t h = absurd (let l = h.1 in omega (arith, l))
in_clause_terms (m ∷ c) t h = elim (Contains-append_cases (states.outside m.formula) (clause_terms c) t h) as (λ _. (l : Lit) × Contains (m ∷ c) l × Contains (states.outside l.formula) t) [
  | inl a ↦ (m, contains_here m c, a)
  | inr b ↦ (let r = in_clause_terms c t b in (r.0, contains_later m c r.0 r.1, r.2))
]

module _ (x : Setting) (js : List Line) where
  -- the clause of an instance line is a given one, and well sorted
  pub given_by : (j : Line) (c : Clause) (o : states.Owner) (us : List Sort) (ts : List Term) → IsInstance x j c o us ts → Contains js j → IsGiven x js c
  given_by _ _ _ _ _ (of_type k ss ts c e) i = inl (by_type_instance k ss c i e)
  given_by _ _ _ _ _ (of_terms f ts c sign e) i = inl (by_term_instance f ts c i e)
  given_by _ _ _ _ _ (of_axiom_terms k ss f ts c a e) i = inl (by_term_instance f ts c i e)

  sorted_by : (j : Line) (c : Clause) (o : states.Owner) (us : List Sort) (ts : List Term) → IsInstance x j c o us ts → clause_ok x.problem.signature c ≡ true
  sorted_by _ _ _ _ _ (of_type k ss ts c e) = stated_sorted x.problem x.goal (clause_line.Hyp k ss) c e
  sorted_by _ _ _ _ _ (of_terms f ts c sign e) = stated_sorted x.problem x.goal (clause_line.Inst f ts) c e
  sorted_by _ _ _ _ _ (of_axiom_terms k ss f ts c a e) = stated_sorted x.problem x.goal (clause_line.Inst f ts) c e

  module _ (y : Instance) (ls : List Lit) (brings : (l : Lit) → Contains ls l → IsBroughtBy x js y l) where
    pub said_sorted : clause_ok x.problem.signature ls ≡ true
    said_sorted =
        test_of_all (λ (l : Lit). formula_ok x.problem.signature l.formula ≡ true) (λ l. formula_ok x.problem.signature l.formula) (λ l e. e) ls
        (all_of_each (λ (l : Lit). formula_ok x.problem.signature l.formula ≡ true) ls one)
      where
        one : (l : Lit) → Contains ls l → formula_ok x.problem.signature l.formula ≡ true
        one l c =
            let b = brings l c in
            all_contained (λ (m : Lit). formula_ok x.problem.signature m.formula ≡ true) b.clause l
            (all_of_test (λ (m : Lit). formula_ok x.problem.signature m.formula) (λ (m : Lit). formula_ok x.problem.signature m.formula ≡ true) (λ m e. e) b.clause
            (sorted_by b.own b.clause y.owner y.sorts y.terms b.instance)) b.has

    -- where the given clauses are among those whose terms have names
    pub said_named : (s : Stored) (clauses : List Clause) → AllNamed s clauses → ((c : Clause) → IsGiven x js c → IsOneOf clauses c) → (t : Term) → Contains (clause_terms ls) t → Contains (terms_in s) t
    said_named s clauses named given t h =
        let r = in_clause_terms ls t h in
        let b = brings r.0 r.1 in
        named b.clause r.0 (given b.clause (given_by b.own b.clause y.owner y.sorts y.terms b.instance b.noted)) b.has t r.2

-- so have those of the `fresh` clauses that were added
pub fresh_named : (s : Stored) (clauses : List Clause) (o : Opened) (c d : Clause) (t : Term) → AllNamed s clauses → fresh_clause o.formula o.first (out-Formula o.formula) ≡ Some d → IsOneOf clauses d
    → fresh_clause o.formula o.first (out-Formula o.formula) ≡ Some c → Contains (clause_terms c) t → Contains (terms_in s) t
fresh_named s clauses o c d t named e i f h =
    let r = in_clause_terms c t h in
    named d r.0 i (subst (λ (w : Clause). Contains w r.0) (same_Some c d (sym f ∙ e)) r.1) t r.2
