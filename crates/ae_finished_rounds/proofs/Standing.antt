-- What stands at the end of a search: clauses, names, equations, predicates, enumerations and integers.
use Rattle.std.specs.Prelude.{ℕ, ◌<◌, ◌≡◌, ◌⊎◌, true, List, [], ◌∷◌, map, length, slice_get, take, Some}
use Rattle.std.specs.List.{AllByRecursion, Contains}
use Rattle.std.proofs.Common.{refl, sym, ap, ◌∙◌, subst, arith, inl, inr}
use Rattle.std.proofs.Math.Seq.{take-length}
use Rattle.std.proofs.lemmas.Option.{same_Some, slice_get-get_or, slice_get_within}
use Rattle.ae_between_rounds.specs.Between.{Holds}
use Rattle.ae_between_rounds.specs.Finished.{IsFinishedAt, shown_at}
use Rattle.ae_between_rounds.specs.declared.search.Search.{Search}
use Rattle.ae_between_rounds.specs.Rewriting.{IsMarkOf}
use Rattle.ae_core.specs.Sorts.{formula_ok}
use Rattle.ae_core.specs.declared.formulas.Formula.{Eq, Pred}
use Rattle.ae_core.specs.declared.formulas.Lit.{Lit}
use Rattle.ae_core.specs.declared.problems.Problem.{Problem}
use Rattle.ae_core.specs.declared.problems.Signature.{Signature}
use Rattle.ae_core.specs.declared.terms.Head.{Head}
use Rattle.ae_core.specs.declared.terms.Sort.{Sort, out-Sort}
use Rattle.ae_core.specs.declared.terms.Term.{Term, Apply}
use Rattle.ae_explain.specs.Trail.{at, clause, IsLawful}
use Rattle.ae_explain.specs.declared.trail.Assigned.{Assigned}
use Rattle.ae_goal_names.proofs.Joining.{as_many}
use Rattle.ae_journal.proofs.Splits.{contains_one}
use Rattle.ae_journal.specs.Journals.{live}
use Rattle.ae_journal.specs.States.{IsFirst, of_goal, of_hypothesis, SomeStands, Stands, outside}
use Rattle.ae_journal.specs.Systems.{Has, IsCompleted, IsName, IsNamed, ValueOf, value_at}
use Rattle.ae_journal.specs.Values.{Val}
use Rattle.ae_journal.specs.declared.systems.PointAt.{PointAt}
use Rattle.ae_journal.specs.declared.systems.Saturated.{Saturated}
use Rattle.ae_journal.specs.declared.systems.System.{System}
use Rattle.ae_open_states.proofs.Choices.{choice, exhaustion_is, of_head}
use Rattle.ae_open_states.proofs.Trails.{all_of_each, atom_told, place_of, stands_so}
use Rattle.ae_open_states.specs.Choices.{IsChoiceOf}
use Rattle.ae_propagation.proofs.Trails.{consistent}
use Rattle.ae_propagation.specs.Settled.{last_level}
use Rattle.ae_rules.specs.Clauses.{Clause, is_false, is_true, no_of, opposite, row, yes_of}
use Rattle.ae_rules.specs.Defining.{called_rows}
use Rattle.ae_rules.specs.Instances.{choices_of, exhaustion}
use Rattle.ae_sat.proofs.Atoms.{atom_eq, atom_pred}
use Rattle.ae_sat.proofs.Called.{called_or_own}
use Rattle.ae_sat.proofs.Deriving.{clause_sorted, in_clause, sorted_one}
use Rattle.ae_sat.proofs.Saturating.{atoms_stand}
use Rattle.ae_sat.specs.Marked.{IsRunning, atoms}
use Rattle.ae_sat.specs.Standing.{IsOneOf}
use Rattle.ae_searching.specs.Searching.{IsSearching}
use Rattle.ae_settled.specs.Met.{Satisfies}
use Rattle.ae_state.specs.Fitting.{FitsStore}
use Rattle.ae_state.specs.Names.{assumed_in, system_now}
use Rattle.ae_state.specs.Stepping.{IsInStep}
use Rattle.ae_theory.specs.Names.{is_atom, terms_in}
use Rattle.ae_theory.specs.Noting.{literals}
use Rattle.ae_theory.specs.Tagged.{Tagged}

module _ (p : Problem) (g bound : ℕ) (o : Search) (point : List PointAt) (done : IsFinishedAt p g bound o point) where
  abbrev pub trail : List Assigned
  trail = o.solver.propagation.trail

  abbrev pub clauses : List Clause
  clauses = o.solver.propagation.clauses

  abbrev pub system : System
  system = system_now o.solver.theory

  abbrev pub state : Saturated
  state = shown_at o point

  abbrev pub Is : Lit → Type 0
  Is l = Stands p g state l

  pub holds : Holds p g bound o
  holds = done.between.holds

  pub searching : IsSearching FitsStore assumed_in IsMarkOf IsInStep p g bound o.store o.blocks.opened (last_level trail) o.solver o.lines.items o.journal.lines
  searching = done.between.searching

  running : IsRunning assumed_in IsMarkOf IsInStep o.solver.theory o.solver.marks.items trail clauses o.solver.handed (live o.journal.lines)
  running = searching.alive.running

  pub lawful : IsLawful trail clauses
  lawful = running.lawful

  told : assumed_in o.solver.theory ≡ atoms trail
  told = running.told_all ∙ ap (λ (n : ℕ). atoms (take n trail)) done.is_open.told ∙ ap atoms (take-length trail)

  -- ---- literals and clauses
  in_some : (j : ℕ) → j < length trail → (k : ℕ) × (k < length clauses) × Contains (clause clauses k) (at trail j).lit
  in_some j lt = in_clause trail clauses lawful running.stands j lt

  pub of_clause : (l : Lit) → Is l → (c : Clause) × IsOneOf clauses c × Contains c l
  of_clause l h =
      let q = place_of trail l h in
      let w = in_some q.0 q.1 in
      (clause clauses w.0, (w.0, w.1, refl), subst (Contains (clause clauses w.0)) q.2 w.2)

  clause_ones_sorted : (k : ℕ) → k < length clauses → (l : Lit) → Contains (clause clauses k) l → formula_ok p.signature l.formula ≡ true
  clause_ones_sorted k lt l h = sorted_one (λ (m : Lit). formula_ok p.signature m.formula) (clause clauses k) l (clause_sorted p g o.lines.items clauses o.solver.places searching.stated k lt) h

  pub literal_sorted : (l : Lit) → Is l → formula_ok p.signature l.formula ≡ true
  literal_sorted l h =
      let q = place_of trail l h in
      let w = in_some q.0 q.1 in
      clause_ones_sorted w.0 w.1 l (subst (Contains (clause clauses w.0)) q.2 w.2)

  pub true_in : (c : Clause) → IsOneOf clauses c → SomeStands p g state c
  true_in c i =
      let h = done.is_open.all_true.clauses_true i.0 i.1 in
      (h.0, subst (λ (w : Clause). Contains w h.0) i.2 h.1, stands_so trail h.0 h.2)

  one_true : (l : Lit) → IsOneOf clauses (l ∷ []) → Is l
  one_true l i = let h = true_in (l ∷ []) i in subst Is (sym (contains_one l h.0 h.1)) h.2

  pub never_both : (l : Lit) → Is l → ¬ Is (opposite l)
  never_both l h i = consistent trail lawful.apart l (place_of trail l h) (place_of trail (opposite l) i)

  atom_holds : (l : Lit) → is_atom l.formula ≡ true → Is l → Contains (literals (atoms trail)) l
  atom_holds l e h = atom_told 0 trail l e h

  -- ---- the system
  pub signature_of : p.signature ≡ o.solver.theory.signature
  signature_of = searching.signature ∙ searching.alive.fits_store.terms.signature

  assumed_sorted : (l : Lit) → Contains (literals (assumed_in o.solver.theory)) l → formula_ok o.solver.theory.signature l.formula ≡ true
  assumed_sorted l h =
      subst (λ (sig : Signature). formula_ok sig l.formula ≡ true) signature_of
      (atoms_stand (λ (m : Lit). formula_ok p.signature m.formula ≡ true) 0 trail
      (λ j lt. let w = in_some j lt in clause_ones_sorted w.0 w.1 (at trail j).lit w.2) l
      (subst (λ (ts : List Tagged). Contains (literals ts) l) told h))

  pub completed : IsCompleted p.signature system
  completed = subst (λ (sig : Signature). IsCompleted sig system) (sym signature_of) done.is_open.complete.0.completed

  pub satisfied : Satisfies p.signature system (literals (atoms trail))
  satisfied = subst (λ (z : Signature × List Tagged). Satisfies z.0 system (literals z.1)) (λ i. (sym signature_of i, told i)) (done.is_open.complete.0.satisfied assumed_sorted)

  -- ---- names
  has_name : (u : Term) → Contains (terms_in o.store) u → IsNamed system u
  has_name u h =
      (h.0, ap (λ (zs : List Term). slice_get zs h.0) done.is_open.complete.1 ∙ slice_get-get_or (terms_in o.store) h.0 u h.1 ∙ ap (λ (z : Term). Some z) h.2)

  pub have_names : (l : Lit) → Is l → AllByRecursion (IsNamed system) (outside l.formula)
  have_names l h = let c = of_clause l h in all_of_each (IsNamed system) (outside l.formula) (λ u k. has_name u (searching.alive.named c.0 l c.1 c.2 u k))

  -- ---- hypotheses and the goal, and rows
  pub firsts_stand : (l : Lit) → IsFirst p g state l → Is l
  firsts_stand l (of_hypothesis k f e) = one_true (yes_of f) (holds.firsts.hypotheses k f e)
  firsts_stand l (of_goal f e) = one_true (no_of f) (holds.firsts.goal f e)

  pub rows_stand : (l : Lit) → Is l → (r : ℕ) (c : Clause) → row r l.formula ≡ Some c → SomeStands p g state c
  rows_stand l h r c e =
      let q = place_of trail l h in
      elim (called_or_own l.formula l.positive r c e) as (λ _. SomeStands p g state c) [
        | inl k ↦
            true_in c (done.is_open.all_true.rows q.0 r c q.1 q.1
            (subst (λ (m : Lit). Contains (called_rows m.positive m.formula) r) (sym q.2) k) (ap (λ (m : Lit). row r m.formula) q.2 ∙ e))
        | inr k ↦ (l, k, h)
      ]

  -- ---- equations and predicates
  pub equal : (a b : Term) → Is (is_true (Eq a b)) → (v : Val) × ValueOf system a v × ValueOf system b v
  equal a b h = satisfied.equal a b (atom_holds (is_true (Eq a b)) (atom_eq a b) h)

  pub unequal : (a b : Term) (v : Val) → Is (is_false (Eq a b)) → ValueOf system a v → ValueOf system b v → ⊥
  unequal a b v h = satisfied.unequal a b v (atom_holds (is_false (Eq a b)) (atom_eq a b) h)

  pub predicate_holds : (q : ℕ) (ss : List Sort) (ts : List Term) → Is (is_true (Pred q ss ts)) → Contains (literals (atoms trail)) (is_true (Pred q ss ts))
  predicate_holds q ss ts h = atom_holds (is_true (Pred q ss ts)) (atom_pred q ss ts) h

  pub predicate_fails : (q : ℕ) (ss : List Sort) (ts : List Term) → Is (is_false (Pred q ss ts)) → Contains (literals (atoms trail)) (is_false (Pred q ss ts))
  predicate_fails q ss ts h = atom_holds (is_false (Pred q ss ts)) (atom_pred q ss ts) h

  -- ---- enumerations: a name is a constructor, or its clause has a true literal
  name_chosen : (n : ℕ) (u : Term) (c : Clause) → IsName system n u → exhaustion p.signature u ≡ Some c → IsChoiceOf p.signature u u ⊎ IsOneOf clauses c
  name_chosen n u c e x =
      let here : slice_get (terms_in o.store) n ≡ Some u = ap (λ (zs : List Term). slice_get zs n) (sym done.is_open.complete.1) ∙ e in
      let within = slice_get_within (terms_in o.store) n u here in
      let many = as_many o.store in
      holds.choices.chosen n u c (let all = done.between.looked in omega (arith, within, many, all)) here x

  -- a constructor has the value
  abbrev HasChoice : List Head → Val → Type 0
  HasChoice hs v = (h : Head) × Contains hs h × ValueOf system (Apply h [] []) v

  constructor_exhausted : (so : Sort) (v : Val) (n : ℕ) (hs : List Head) (has : Has p.signature system so v n) → choices_of p.signature (out-Sort so) ≡ Some hs
      → IsChoiceOf p.signature has.term has.term → HasChoice hs v
  constructor_exhausted so v n hs has e k =
      let same : k.sort ≡ so = same_Some k.sort so (sym k.sorted ∙ has.sort) in
      let those : k.heads ≡ hs = same_Some k.heads hs (sym k.choices ∙ ap (λ (s : Sort). choices_of p.signature (out-Sort s)) same ∙ e) in
      (k.head, subst (λ (ws : List Head). Contains ws k.head) those k.one, (n, has.is ∙ ap (λ (z : Term). Some z) k.is, has.value))

  clause_exhausted : (so : Sort) (v : Val) (n : ℕ) (hs : List Head) (has : Has p.signature system so v n) → IsOneOf clauses (map (choice has.term) hs) → HasChoice hs v
  clause_exhausted so v n hs has c =
      let u = has.term in
      let w = true_in (map (choice u) hs) c in
      let h = of_head (choice u) hs w.0 w.1 in
      let e = equal u (Apply h.0 [] []) (subst Is (sym h.2) w.2) in
      let same : e.0 ≡ v = same_Some e.0 v (sym (e.1).2 ∙ ap (value_at system) (completed.apart (e.1).0 n u (e.1).1 has.is) ∙ has.value) in
      (h.0, h.1, subst (ValueOf system (Apply h.0 [] [])) same e.2)

  pub name_exhausted : (so : Sort) (v : Val) (n : ℕ) (hs : List Head) → Has p.signature system so v n → choices_of p.signature (out-Sort so) ≡ Some hs → HasChoice hs v
  name_exhausted so v n hs has e =
      elim (name_chosen n has.term (map (choice has.term) hs) has.is (exhaustion_is p.signature has.term so hs has.sort e)) as (λ _. HasChoice hs v) [
        | inl k ↦ constructor_exhausted so v n hs has e k
        | inr c ↦ clause_exhausted so v n hs has c
      ]
