-- The trail of a search that has nothing left to do has what the possible clauses of its journal ask for.
use Rattle.std.specs.Prelude.{ℕ, ◌<◌, ◌≡◌, ◌⊎◌, true, false, List, [], ◌∷◌, length, slice_get, take, Option, Some}
use Rattle.std.specs.List.{Contains}
use Rattle.std.proofs.Common.{refl, sym, ap, ◌∙◌, subst, arith, inl, inr}
use Rattle.std.proofs.Math.Seq.{take-length}
use Rattle.std.proofs.lemmas.Option.{same_Some, slice_get-get_or, slice_get_within}
use Rattle.ae_base.proofs.ListFacts.{value_at as value_there}
use Rattle.ae_base.specs.Options.{◌>>=◌}
use Rattle.ae_between_rounds.specs.Between.{IsBetweenRounds}
use Rattle.ae_between_rounds.specs.Finished.{IsOpenSearch}
use Rattle.ae_between_rounds.specs.declared.search.Search.{Search}
use Rattle.ae_between_rounds.specs.Rewriting.{IsMarkOf}
use Rattle.ae_core.specs.Sorts.{formula_ok}
use Rattle.ae_core.specs.declared.formulas.Formula.{Formula, Eq, out-Formula}
use Rattle.ae_core.specs.declared.formulas.Lit.{Lit}
use Rattle.ae_core.specs.declared.problems.Problem.{Problem}
use Rattle.ae_core.specs.declared.problems.Signature.{Signature}
use Rattle.ae_core.specs.declared.terms.Term.{Term, Apply}
use Rattle.ae_explain.specs.Trail.{at, clause}
use Rattle.ae_explain.specs.declared.trail.Assigned.{Assigned}
use Rattle.ae_filled_trails.proofs.Enumerated.{has_itself, has_term, heads_of}
use Rattle.ae_filled_trails.specs.Ordered.{AreOrdered}
use Rattle.ae_goal_names.proofs.Joining.{as_many}
use Rattle.ae_goal_names.proofs.Outer.{outside_eq}
use Rattle.ae_journal.proofs.Splits.{contains_here}
use Rattle.ae_journal.specs.Journals.{live}
use Rattle.ae_journal.specs.Standing.{Setting}
use Rattle.ae_journal.specs.States.{is_universal, outside}
use Rattle.ae_journal.specs.Systems.{IsName, ValueOf}
use Rattle.ae_journal.specs.Values.{Val, meaning}
use Rattle.ae_journal.specs.declared.lines.Line.{Line}
use Rattle.ae_journal.specs.declared.systems.System.{System}
use Rattle.ae_num.specs.declared.forms.Value.{Value}
use Rattle.ae_open_states.proofs.Choices.{choice, of_head}
use Rattle.ae_open_states.proofs.Trails.{atom_told, stands_so}
use Rattle.ae_opening.proofs.Asked.{asking}
use Rattle.ae_opening.specs.Asking.{AllServed, IsOpened, asks_for_terms}
use Rattle.ae_possible_literals.specs.Filled.{IsFilled, IsUndenied}
use Rattle.ae_possible_literals.specs.Filled.IsUndenied.{itself, none_false}
use Rattle.ae_propagation.specs.Settled.{Holds, last_level}
use Rattle.ae_reach.proofs.Blocks.{fresh_quant}
use Rattle.ae_rules.specs.Clauses.{Clause, is_false, opposite}
use Rattle.ae_rules.specs.Instances.{exhaustion, fresh_clause}
use Rattle.ae_sat.proofs.Atoms.{atom_eq}
use Rattle.ae_sat.proofs.Deriving.{clause_sorted, in_clause, sorted_one}
use Rattle.ae_sat.proofs.Legality.{decided_hold}
use Rattle.ae_sat.proofs.Saturating.{atoms_stand}
use Rattle.ae_sat.specs.Marked.{IsRunning, atoms}
use Rattle.ae_sat.specs.Standing.{IsOneOf}
use Rattle.ae_searching.specs.Searching.{IsSearching}
use Rattle.ae_searching.specs.Told.{IsToldIn}
use Rattle.ae_state.specs.Complete.{AreWellSorted, IsComplete}
use Rattle.ae_state.specs.Fitting.{FitsStore}
use Rattle.ae_state.specs.Names.{assumed_in, system_now}
use Rattle.ae_state.specs.Stepping.{IsInStep}
use Rattle.ae_theory.specs.Names.{AreNamed, terms_in}
use Rattle.ae_theory.specs.Noting.{literals}
use Rattle.ae_theory.specs.Tagged.{Tagged}

module _ (p : Problem) (g bound : ℕ) (o : Search) (between : IsBetweenRounds p g bound o) (is_open : IsOpenSearch o) where
  abbrev t : List Assigned
  t = o.solver.propagation.trail

  abbrev cs : List Clause
  cs = o.solver.propagation.clauses

  abbrev js : List Line
  js = o.journal.lines

  abbrev system : System
  system = system_now o.solver.theory

  searching : IsSearching FitsStore assumed_in IsMarkOf IsInStep p g bound o.store o.blocks.opened (last_level t) o.solver o.lines.items js
  searching = between.searching

  running : IsRunning assumed_in IsMarkOf IsInStep o.solver.theory o.solver.marks.items t cs o.solver.handed (live js)
  running = searching.alive.running

  complete : IsComplete o.solver.theory
  complete = is_open.complete.0

  -- ---- each literal is one of a clause
  pub in_some : (j : ℕ) → j < length t → (k : ℕ) × (k < length cs) × Contains (clause cs k) (at t j).lit
  in_some = in_clause t cs running.lawful running.stands

  pub names_of : (l : Lit) → Holds t l → AreNamed o.store l.formula
  names_of l h =
      let w = in_some h.0 h.1 in
      subst (λ (m : Lit). AreNamed o.store m.formula) h.2 (searching.alive.named (clause cs w.0) (at t h.0).lit (w.0, w.1, refl) w.2)

  pub formula_sorted : (j : ℕ) → j < length t → formula_ok p.signature (at t j).lit.formula ≡ true
  formula_sorted j l =
      let w = in_some j l in
      sorted_one (λ (m : Lit). formula_ok p.signature m.formula) (clause cs w.0) (at t j).lit (clause_sorted p g o.lines.items cs o.solver.places searching.stated w.0 w.1) w.2

  -- ---- no term differs from itself
  pub assumed : assumed_in o.solver.theory ≡ atoms t
  assumed = running.told_all ∙ ap (λ (n : ℕ). atoms (take n t)) is_open.told ∙ ap atoms (take-length t)

  assumed_sorted : AreWellSorted o.solver.theory
  assumed_sorted l h =
      subst (λ (sig : Signature). formula_ok sig l.formula ≡ true) (searching.signature ∙ searching.alive.fits_store.terms.signature)
      (atoms_stand (λ (m : Lit). formula_ok p.signature m.formula ≡ true) 0 t formula_sorted l (subst (λ (ts : List Tagged). Contains (literals ts) l) assumed h))

  has_value : (u : Term) → Contains (terms_in o.store) u → (v : Val) × ValueOf system u v
  has_value u h =
      let is : IsName system h.0 u = ap (λ (zs : List Term). slice_get zs h.0) is_open.complete.1 ∙ slice_get-get_or (terms_in o.store) h.0 u h.1 ∙ ap Some h.2 in
      let w = value_there system.values h.0 (omega (arith, slice_get_within system.names h.0 u is, complete.completed.values)) in
      (meaning w.0, (h.0, is, ap (λ (q : Option Value). q >>= λ v. Some (meaning v)) w.1))

  pub side_named : (u w : Term) (l : Lit) → l.formula ≡ Eq u w → Holds t l → Contains (terms_in o.store) u
  side_named u w l e h =
      names_of l h u (subst (λ (f : Formula). Contains (outside f) u) (sym e) (subst (λ (ws : List Term). Contains ws u) (sym (outside_eq u w)) (contains_here u (w ∷ []))))

  pub no_term_differs : (s : Term) → Holds t (is_false (Eq s s)) → ⊥
  no_term_differs s h =
      let l : Lit = is_false (Eq s s) in
      let there : Contains (literals (assumed_in o.solver.theory)) l =
      subst (λ (ts : List Tagged). Contains (literals ts) l) (sym assumed) (atom_told 0 t l (atom_eq s s) (stands_so t l h)) in
      let v = has_value s (side_named s s l refl h) in
      (complete.satisfied assumed_sorted).unequal s s v.0 there v.1 v.1

  module _ (served : AllServed t o.blocks.opened) (x : Setting) (told : IsToldIn p g o.store o.blocks.opened x) where
    -- ---- blocks
    block_clause : (l : Lit) (c : Clause) → Holds t l → is_universal l ≡ false → fresh_clause l.formula (x.fresh l.formula) (out-Formula l.formula) ≡ Some c → IsOneOf cs c
    block_clause l c h u e =
        let q = fresh_quant l.formula (x.fresh l.formula) c (out-Formula l.formula) e in
        let w : IsOpened o.blocks.opened l.formula =
        subst (λ (m : Lit). IsOpened o.blocks.opened m.formula) h.2 (served h.0 h.1 (ap asks_for_terms h.2 ∙ asking l q.0 u q.1)) in
        let a = between.holds.constants.added w.0 w.1 in
        let first : fresh_clause l.formula (x.fresh l.formula) (out-Formula l.formula) ≡ fresh_clause (w.0).formula (x.fresh (w.0).formula) (out-Formula (w.0).formula) =
        ap (λ (f : Formula). fresh_clause f (x.fresh f) (out-Formula f)) (sym w.2) in
        let second : fresh_clause (w.0).formula (x.fresh (w.0).formula) (out-Formula (w.0).formula) ≡ fresh_clause (w.0).formula (w.0).first (out-Formula (w.0).formula) =
        ap (λ (m : ℕ). fresh_clause (w.0).formula m (out-Formula (w.0).formula)) (told.fresh w.0 w.1) in
        subst (IsOneOf cs) (same_Some a.0 c (sym a.1 ∙ sym second ∙ sym first ∙ e)) a.2

    -- ---- enumerations
    named_choice : (u : Term) (c : Clause) → exhaustion p.signature u ≡ Some c → Contains (terms_in o.store) u → IsOneOf cs c ⊎ IsUndenied t c
    named_choice u c e h =
        elim (between.holds.choices.chosen h.0 u c (omega (arith, h.1, as_many o.store, between.looked)) (slice_get-get_or (terms_in o.store) h.0 u h.1 ∙ ap Some h.2) e)
        as (λ _. IsOneOf cs c ⊎ IsUndenied t c) [
          | inl k ↦ inr (itself u (has_itself p.signature u c e k))
          | inr i ↦ inl i
        ]

    nothing_denied : (u : Term) (c : Clause) → exhaustion p.signature u ≡ Some c → (Contains (terms_in o.store) u → ⊥) → (l : Lit) → Contains c l → Holds t (opposite l) → ⊥
    nothing_denied u c e apart l m h =
        let hs = heads_of p.signature u c e in
        let k = of_head (choice u) hs.0 l (subst (λ (d : Clause). Contains d l) hs.1 m) in
        apart (side_named u (Apply k.0 [] []) (opposite l) (ap (λ (w : Lit). w.formula) (sym k.2)) h)

    choice_made : (u : Term) (c : Clause) → exhaustion x.problem.signature u ≡ Some c → IsOneOf cs c ⊎ IsUndenied t c
    choice_made u c e =
        let own : exhaustion p.signature u ≡ Some c = subst (λ (q : Problem). exhaustion q.signature u ≡ Some c) told.problem e in
        elim (has_term (terms_in o.store) u) as (λ _. IsOneOf cs c ⊎ IsUndenied t c) [
          | inl h ↦ named_choice u c own h
          | inr apart ↦ inr (none_false (nothing_denied u c own apart))
        ]

    pub filled : AreOrdered t → IsFilled x js t cs
    filled ordered = record {
      apart = running.lawful.apart;
      all_true = is_open.all_true;
      decided = decided_hold t js running.decided;
      given = (searching.lawful x told).given;
      served = block_clause;
      choices = λ u c entered e. choice_made u c e;
      reflexive = no_term_differs;
      orders = ordered;
    }
