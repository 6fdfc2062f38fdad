-- With a literal that asks for terms that of its body stands.
use Rattle.std.specs.Prelude.{ℕ, ◌≡◌, true, false, List, [], ◌∷◌, Option, Some}
use Rattle.std.specs.List.{Contains}
use Rattle.std.proofs.Common.{sym, ap, ◌∙◌, subst, inl, inr}
use Rattle.ae_base.specs.Options.{◌>>=◌, or_else}
use Rattle.ae_block_constants.specs.Blocks.{Agrees}
use Rattle.ae_block_constants.specs.declared.opened.Opened.{Opened}
use Rattle.ae_core.specs.Putting.{put_formula}
use Rattle.ae_core.specs.Sorts.{formula_ok}
use Rattle.ae_core.specs.declared.formulas.Formula.{Formula, out-Formula}
use Rattle.ae_core.specs.declared.formulas.Lit.{Lit}
use Rattle.ae_core.specs.declared.formulas.Quant.{Quant}
use Rattle.ae_core.specs.declared.problems.Problem.{Problem}
use Rattle.ae_core.specs.declared.terms.Sort.{Sort}
use Rattle.ae_core.specs.declared.terms.Term.{Term}
use Rattle.ae_explain.specs.Trail.{Apart}
use Rattle.ae_explain.specs.declared.trail.Assigned.{Assigned}
use Rattle.ae_journal.proofs.Splits.{contains_cases, contains_one}
use Rattle.ae_journal.specs.States.{body_literal, is_universal, quant_of}
use Rattle.ae_open_states.proofs.Constants.{constants_fit}
use Rattle.ae_open_states.proofs.Trails.{place_of, stands_so}
use Rattle.ae_open_states.specs.Shown.{trail_literals}
use Rattle.ae_opening.proofs.Asked.{asking}
use Rattle.ae_opening.specs.Asking.{asks_for_terms, AllServed, IsOpened}
use Rattle.ae_propagation.proofs.Trails.{consistent}
use Rattle.ae_propagation.specs.Settled.{Holds}
use Rattle.ae_rules.specs.Clauses.{Clause, literal, opposite}
use Rattle.ae_rules.specs.Instances.{fresh_clause, count_from, have_sorts}
use Rattle.ae_sat.specs.Search.{IsOpen}
use Rattle.ae_sat.specs.Standing.{IsOneOf}
use Rattle.ae_served_blocks.specs.Served.{opened_body, HaveClauses, AreServed}
use Rattle.ae_served_blocks.proofs.Bodies.{its_sorts, as_all, its_clause}

module _ (p : Problem) (t : List Assigned) (clauses : List Clause) (opened : List Opened) (fresh : Formula → ℕ) (agrees : Agrees opened fresh) (have : HaveClauses opened clauses) (served : AllServed t opened)
    (apart : Apart t) (all_true : IsOpen t clauses) (sorted : (l : Lit) → Contains (trail_literals t) l → formula_ok p.signature l.formula ≡ true) where
  module _ (l : Lit) (q : Quant) (stands : Contains (trail_literals t) l) (u : is_universal l ≡ false) (e : quant_of (out-Formula l.formula) ≡ Some q) where
    abbrev first : ℕ
    first = fresh l.formula

    abbrev body : Lit
    body = literal l.positive (put_formula (count_from first q.sorts) q.body)

    holds : Holds t l
    holds = place_of t l stands

    was_opened : IsOpened opened l.formula
    was_opened = subst (λ (m : Lit). IsOpened opened m.formula) holds.2 (served holds.0 holds.1 (ap asks_for_terms holds.2 ∙ asking l q u e))

    -- the clause of its block
    has_clause : (c : Clause) × (fresh_clause l.formula first (out-Formula l.formula) ≡ Some c) × IsOneOf clauses c
    has_clause =
        let w = was_opened in
        let c = have w.0 w.1 in
        (c.0, (λ i. fresh_clause (sym w.2 i) (first_is w.0 w.1 w.2 i) (out-Formula (sym w.2 i))) ∙ c.1, c.2)
      where
        first_is : (o : Opened) → Contains opened o → o.formula ≡ l.formula → fresh l.formula ≡ o.first
        first_is o h s = ap fresh (sym s) ∙ agrees o h

    body_holds : Holds t body
    body_holds =
        let c = has_clause in
        let is : opposite l ∷ body ∷ [] ≡ c.0 = its_clause l first c.0 q u e c.1 in
        let h = all_true.clauses_true c.2.0 c.2.1 in
        let there : Contains (opposite l ∷ body ∷ []) h.0 = subst (λ (d : Clause). Contains d h.0) (c.2.2 ∙ sym is) h.1 in
        elim (contains_cases (opposite l) (body ∷ []) h.0 there) as (λ _. Holds t body) [
          | inl i ↦ absurd (consistent t apart l holds (subst (Holds t) (sym i) h.2))
          | inr i ↦ subst (Holds t) (sym (contains_one body h.0 i)) h.2
        ]

    its_body : body_literal l (count_from first q.sorts) ≡ Some body
    its_body = ap (λ (o : Option Quant). o >>= λ r. Some (literal l.positive (put_formula (count_from first q.sorts) r.body))) e

    taken : opened_body fresh l ≡ body
    taken =
        ap (λ (ss : List Sort). or_else (body_literal l (count_from first ss)) l) (its_sorts l.formula q e)
        ∙ ap (λ (o : Option Lit). or_else o l) its_body

    pub is_served : Contains (trail_literals t) (opened_body fresh l) × (ts : List Term) × (have_sorts p.signature ts q.sorts ≡ true) × (body_literal l ts ≡ Some (opened_body fresh l))
    is_served = (
      subst (Contains (trail_literals t)) (sym taken) (stands_so t body body_holds),
      count_from first q.sorts,
      constants_fit p.signature first q (as_all p.signature l.formula q e (sorted l stands)),
      its_body ∙ ap (λ (m : Lit). Some m) (sym taken),
    )

  pub are_served : AreServed p t (opened_body fresh)
  are_served l q stands u e = is_served l q stands u e
