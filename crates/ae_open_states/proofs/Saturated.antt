-- What a search shows that has nothing left to do is a saturated state, clause by clause.
use Rattle.std.specs.Prelude.{ℕ, ◌<◌, Bool, true, false, not, nat_lt, List, [], ◌∷◌, ◌≡◌, map, slice_get, Option, Some, None}
use Rattle.std.specs.List.{AllByRecursion, Contains}
use Rattle.std.proofs.Common.{refl, sym, ap, ◌∙◌, subst, inl, inr}
use Rattle.std.proofs.lemmas.Bool.{ltb-true}
use Rattle.std.proofs.lemmas.Option.{same_Some, slice_get-get_or}
use Rattle.ae_base.specs.Options.{◌>>=◌, only}
use Rattle.ae_base.proofs.Options.{never_some, bind_some, only_some}
use Rattle.ae_base.proofs.Tests.{false_true}
use Rattle.ae_core.specs.Putting.{put_formula}
use Rattle.ae_core.specs.Sorts.{formula_ok}
use Rattle.ae_core.specs.declared.terms.Sort.{Sort, out-Sort}
use Rattle.ae_core.specs.declared.terms.Term.{Term, Apply}
use Rattle.ae_core.specs.declared.terms.Head.{Head}
use Rattle.ae_core.specs.declared.formulas.Formula.{Eq, Pred, All, out-Formula}
use Rattle.ae_core.specs.declared.formulas.Formula.TheVariants.{outs-All}
use Rattle.ae_core.specs.declared.formulas.Lit.{Lit}
use Rattle.ae_core.specs.declared.formulas.Quant.{Quant}
use Rattle.ae_core.specs.declared.problems.Problem.{Problem}
use Rattle.ae_core.specs.declared.problems.Item.{Item}
use Rattle.ae_core.specs.declared.problems.Item.TheVariants.{Axiom, Goal}
use Rattle.ae_rules.specs.Clauses.{Clause, literal, yes_of, no_of, is_true, is_false, opposite, row}
use Rattle.ae_rules.specs.Defining.{called_rows}
use Rattle.ae_rules.specs.Instances.{choices_of, count_from, have_sorts}
use Rattle.ae_rules.specs.Derivations.{goal_body}
use Rattle.ae_rules.proofs.ClauseLaws.{literal_all}
use Rattle.ae_explain.specs.declared.trail.Assigned.{Assigned}
use Rattle.ae_explain.specs.Trail.{clause}
use Rattle.ae_propagation.proofs.Trails.{consistent}
use Rattle.ae_journal.specs.Systems.{IsNamed, Has, ValueOf, value_at}
use Rattle.ae_journal.specs.Values.{Val}
use Rattle.ae_journal.specs.States.{IsSaturated, IsSaturatedBy, Stands, SomeStands, IsFirst, of_hypothesis, of_goal, Comes, first, by_row, by_block, Matches, HasGeneration, Selection, all_taken}
use Rattle.ae_journal.specs.States.{Owner, of_literal, of_axiom, Pattern, pattern_of, axiom_pattern, is_universal, is_universal_by, quant_of, body_literal, outside}
use Rattle.ae_journal.specs.declared.systems.System.{System}
use Rattle.ae_journal.proofs.Splits.{contains_cases, contains_one}
use Rattle.ae_store.specs.Stores.{Stored}
use Rattle.ae_theory.specs.Names.{is_atom, terms_in}
use Rattle.ae_theory.specs.Noting.{literals}
use Rattle.ae_sat.specs.Marked.{atoms}
use Rattle.ae_sat.specs.Standing.{IsOneOf}
use Rattle.ae_sat.proofs.Atoms.{atom_eq, atom_pred}
use Rattle.ae_sat.proofs.Called.{called_or_own}
use Rattle.ae_sat.proofs.Deriving.{in_clause}
use Rattle.ae_open_states.specs.Choices.{IsChoiceOf}
use Rattle.ae_open_states.specs.Finished.{IsFinished}
use Rattle.ae_open_states.specs.Shown.{shown}
use Rattle.ae_open_states.proofs.Choices.{choice, of_head, exhaustion_is}
use Rattle.ae_open_states.proofs.Trails.{place_of, stands_so, atom_told, all_of_each}
use Rattle.ae_open_states.proofs.Formulas.{no_order, quantified}
use Rattle.ae_reach.proofs.Blocks.{block_or_not, one_block}
use Rattle.ae_open_states.proofs.Constants.{constants_fit}

module _ (p : Problem) (g : ℕ) (s : Stored) (t : List Assigned) (clauses : List Clause) (y : System) (done : IsFinished p g s t clauses y) where
  abbrev Is : Lit → Type 0
  Is l = Stands p g (shown t y) l

  -- ---- literals and clauses
  of_clause : (l : Lit) → Is l → (c : Clause) × IsOneOf clauses c × Contains c l
  of_clause l h =
      let q = place_of t l h in
      let w = in_clause t clauses done.lawful done.decided q.0 q.1 in
      (clause clauses w.0, (w.0, w.1, refl), subst (Contains (clause clauses w.0)) q.2 w.2)

  true_in : (c : Clause) → IsOneOf clauses c → SomeStands p g (shown t y) c
  true_in c o =
      let h = done.all_true.clauses_true o.0 o.1 in
      (h.0, subst (λ (w : Clause). Contains w h.0) o.2 h.1, stands_so t h.0 h.2)

  one_true : (l : Lit) → IsOneOf clauses (l ∷ []) → Is l
  one_true l o = let h = true_in (l ∷ []) o in subst Is (sym (contains_one l h.0 h.1)) h.2

  never_both : (l : Lit) → Is l → ¬ Is (opposite l)
  never_both l h o = consistent t done.lawful.apart l (place_of t l h) (place_of t (opposite l) o)

  atom_holds : (l : Lit) → is_atom l.formula ≡ true → Is l → Contains (literals (atoms t)) l
  atom_holds l e h = atom_told 0 t l e h

  -- ---- names
  has_name : (u : Term) → Contains (terms_in s) u → IsNamed y u
  has_name u h = (h.0, ap (λ (zs : List Term). slice_get zs h.0) done.names ∙ slice_get-get_or (terms_in s) h.0 u h.1 ∙ ap (λ (z : Term). Some z) h.2)

  have_names : (l : Lit) → Is l → AllByRecursion (IsNamed y) (outside l.formula)
  have_names l h = let c = of_clause l h in all_of_each (IsNamed y) (outside l.formula) (λ u k. has_name u (done.named c.0 l c.1 c.2 u k))

  -- ---- hypotheses and the goal, and rows
  firsts_stand : (l : Lit) → IsFirst p g (shown t y) l → Is l
  firsts_stand l (of_hypothesis k f e) = one_true (yes_of f) (done.firsts.hypotheses k f e)
  firsts_stand l (of_goal f e) = one_true (no_of f) (done.firsts.goal f e)

  rows_stand : (l : Lit) → Is l → (r : ℕ) (c : Clause) → row r l.formula ≡ Some c → SomeStands p g (shown t y) c
  rows_stand l h r c e =
      let q = place_of t l h in
      elim (called_or_own l.formula l.positive r c e) as (λ _. SomeStands p g (shown t y) c) [
        | inl k ↦
            true_in c (done.all_true.rows q.0 r c q.1 q.1
            (subst (λ (m : Lit). Contains (called_rows m.positive m.formula) r) (sym q.2) k) (ap (λ (m : Lit). row r m.formula) q.2 ∙ e))
        | inr k ↦ (l, k, h)
      ]

  -- ---- enumerations: a name is a constructor, or its clause has a true literal
  -- a constructor has the value
  abbrev HasChoice : List Head → Val → Type 0
  HasChoice hs v = (h : Head) × Contains hs h × ValueOf y (Apply h [] []) v

  constructor_exhausted : (o : Sort) (v : Val) (n : ℕ) (hs : List Head) (has : Has p.signature y o v n) → choices_of p.signature (out-Sort o) ≡ Some hs → IsChoiceOf p.signature has.term has.term
      → HasChoice hs v
  constructor_exhausted o v n hs has e k =
      let same : k.sort ≡ o = same_Some k.sort o (sym k.sorted ∙ has.sort) in
      let those : k.heads ≡ hs = same_Some k.heads hs (sym k.choices ∙ ap (λ (s : Sort). choices_of p.signature (out-Sort s)) same ∙ e) in
      (k.head, subst (λ (ws : List Head). Contains ws k.head) those k.one, (n, has.is ∙ ap (λ (z : Term). Some z) k.is, has.value))

  clause_exhausted : (o : Sort) (v : Val) (n : ℕ) (hs : List Head) (has : Has p.signature y o v n) → IsOneOf clauses (map (choice has.term) hs) → HasChoice hs v
  clause_exhausted o v n hs has c =
      let u = has.term in
      let w = true_in (map (choice u) hs) c in
      let h = of_head (choice u) hs w.0 w.1 in
      let e = done.satisfied.equal u (Apply h.0 [] []) (atom_holds (choice u h.0) (atom_eq u (Apply h.0 [] [])) (subst Is (sym h.2) w.2)) in
      let same : e.0 ≡ v = same_Some e.0 v (sym (e.1).2 ∙ ap (value_at y) (done.completed.apart (e.1).0 n u (e.1).1 has.is) ∙ has.value) in
      (h.0, h.1, subst (ValueOf y (Apply h.0 [] [])) same e.2)

  name_exhausted : (o : Sort) (v : Val) (n : ℕ) (hs : List Head) → Has p.signature y o v n → choices_of p.signature (out-Sort o) ≡ Some hs → HasChoice hs v
  name_exhausted o v n hs has e =
      elim (done.choices n has.term (map (choice has.term) hs) has.is (exhaustion_is p.signature has.term o hs has.sort e)) as (λ _. HasChoice hs v) [
        | inl k ↦ constructor_exhausted o v n hs has e k
        | inr c ↦ clause_exhausted o v n hs has c
      ]

  -- ---- quantified literals: the goal, which is false
  is_goal : (l : Lit) → Is l → (q : Quant) → quant_of (out-Formula l.formula) ≡ Some q → (l.formula ≡ All q) × (goal_body p g ≡ Some (All q))
  is_goal l h q e = let c = of_clause l h in quantified p g l.formula (done.over.ground c.0 l c.1 c.2) q e

  goal_denied : (q : Quant) → goal_body p g ≡ Some (All q) → Is (is_false (All q))
  goal_denied q e = subst Is (literal_all false q) (firsts_stand (no_of (All q)) (of_goal (All q) e))

  sign_of : (l : Lit) (q : Quant) (b : Bool) → l.formula ≡ All q → is_universal l ≡ b → l.positive ≡ b
  sign_of l q b f u = sym (ap (is_universal_by l.positive) (ap out-Formula f ∙ outs-All q)) ∙ u

  none_universal : (l : Lit) → Is l → (q : Quant) → quant_of (out-Formula l.formula) ≡ Some q → is_universal l ≡ true → ⊥
  none_universal l h q e u =
      let x = is_goal l h q e in
      let sign = sign_of l q true x.0 u in
      let same : is_false (All q) ≡ opposite l = λ i. record { positive = not (sym sign i); formula = sym x.0 i } in
      never_both l h (subst Is same (goal_denied q x.1))

  -- ---- no match of anything
  no_axiom : (k : ℕ) (q : Pattern) → pattern_of p g (of_axiom k) ≡ Some q → ⊥
  no_axiom k q e =
      let x = bind_some (only (nat_lt k g) (slice_get p.items k)) _ q e in
      let o = only_some (nat_lt k g) (slice_get p.items k) x.0 x.1 in
      by_item x.0 (ltb-true k g o.0) o.1 x.2
    where
      by_item : (i : Item) → k < g → slice_get p.items k ≡ Some i
          → ◌≡◌ {A = Option Pattern} (elim i [ Axiom n v f ↦ only (nat_lt 0 v) (Some (axiom_pattern p.signature v f (out-Formula f))) | Goal n v f ↦ None ]) (Some q) → ⊥
      by_item (Axiom n v f) lt at h =
          let w = only_some (nat_lt 0 v) (Some (axiom_pattern p.signature v f (out-Formula f))) q h in
          false_true (ap (nat_lt 0) (sym (done.not_varied k n v f lt at)) ∙ w.0)
      by_item (Goal n v f) lt at h = never_some q h

  module _ (takes : Selection) where
    comes_so : (m : ℕ) (l : Lit) → Comes p g (shown t y) takes (HasGeneration p g (shown t y) takes m) l → Is l
    comes_so m l (first a b) = b
    comes_so m l (by_row r c a b d e h i) = i
    comes_so m l (by_block q a b c d) = d

    none_matches : (m : ℕ) (o : Owner) (us : List Sort) (ts : List Term) → Matches p g (shown t y) takes (HasGeneration p g (shown t y) takes m) o us ts → ⊥
    none_matches m (of_axiom k) us ts h = no_axiom k h.pattern h.of_owner
    none_matches m (of_literal l) us ts h =
        let b = bind_some (only (is_universal_by l.positive (out-Formula l.formula)) (quant_of (out-Formula l.formula))) _ h.pattern h.of_owner in
        let o = only_some (is_universal_by l.positive (out-Formula l.formula)) (quant_of (out-Formula l.formula)) b.0 b.1 in
        none_universal l (comes_so m l h.owner_comes) b.0 o.1 o.0

    -- what is taken for a quantified literal that asks for terms
    abbrev Takes : Type 0
    Takes = (l : Lit) (q : Quant) → Is l → is_universal l ≡ false → quant_of (out-Formula l.formula) ≡ Some q
        → Is (takes.body l) × (ts : List Term) × (have_sorts p.signature ts q.sorts ≡ true) × (body_literal l ts ≡ Some (takes.body l))

    saturated_by : Takes → (bound : ℕ) → IsSaturatedBy p g (shown t y) takes bound
    saturated_by taken bound = record {
      consistent = never_both;
      completed = done.completed;
      named = have_names;
      firsts = firsts_stand;
      taken_apart = rows_stand;
      equal = λ a b h. done.satisfied.equal a b (atom_holds (is_true (Eq a b)) (atom_eq a b) h);
      unequal = λ a b v h. done.satisfied.unequal a b v (atom_holds (is_false (Eq a b)) (atom_eq a b) h);
      constructors = done.satisfied.constructors;
      predicates = λ q ss ts us h o.
          done.satisfied.predicates q ss ts us (atom_holds (is_true (Pred q ss ts)) (atom_pred q ss ts) h) (atom_holds (is_false (Pred q ss us)) (atom_pred q ss us) o);
      exhausted = name_exhausted;
      whole = done.satisfied.whole;
      inequalities = λ l a b strict v w h e i j. absurd (let c = of_clause l h in no_order p g l.formula (done.over.ground c.0 l c.1 c.2) l.positive (a, b, strict) e);
      blocks = taken;
      instances = λ n o us ts lt h small. absurd (none_matches n o us ts h);
    }

  -- ---- the body's literal, for the constants of the goal's clause
  abbrev body_of : (q : Quant) → goal_body p g ≡ Some (All q) → Lit
  body_of q e = no_of (put_formula (count_from (done.firsts.block q e).0 q.sorts) q.body)

  block_taken : (q : Quant) → goal_body p g ≡ Some (All q) → Selection
  block_taken q e = record { body = λ l. body_of q e; instances = λ o us ts. true }

  body_stands : (q : Quant) (e : goal_body p g ≡ Some (All q)) → Is (body_of q e)
  body_stands q e =
      let b = done.firsts.block q e in
      let h = true_in (is_true (All q) ∷ body_of q e ∷ []) b.1 in
      elim (contains_cases (is_true (All q)) (body_of q e ∷ []) h.0 h.1) as (λ _. Is (body_of q e)) [
        | inl i ↦ absurd (never_both (is_true (All q)) (subst Is (sym i) h.2) (goal_denied q e))
        | inr i ↦ subst Is (sym (contains_one (body_of q e) h.0 i)) h.2
      ]

  body_taken : (q : Quant) (e : goal_body p g ≡ Some (All q)) → Takes (block_taken q e)
  unfolding block_taken literal
  body_taken q e l r h u i =
      let x = is_goal l h r i in
      let sign = sign_of l r false x.0 u in
      let same : q ≡ r = one_block q r (same_Some (All q) (All r) (sym e ∙ x.1)) in
      let c = of_clause l h in
      let ok : formula_ok p.signature (All q) ≡ true = ap (formula_ok p.signature) (ap All same ∙ sym x.0) ∙ done.over.sorted c.0 l c.1 c.2 in
      let m = (done.firsts.block q e).0 in (
        body_stands q e,
        count_from m q.sorts,
        subst (λ (z : Quant). have_sorts p.signature (count_from m q.sorts) z.sorts ≡ true) same (constants_fit p.signature m q ok),
        ap (λ (o : Option Quant). o >>= λ z. Some (literal l.positive (put_formula (count_from m q.sorts) z.body))) i
            ∙ (λ j. Some (literal (sign j) (put_formula (count_from m q.sorts) (sym same j).body))),
      )

  pub saturated : (bound : ℕ) → IsSaturated p g (shown t y) bound
  saturated bound =
      elim (block_or_not (goal_body p g)) as (λ _. IsSaturated p g (shown t y) bound) [
        | inl w ↦ (block_taken w.0 w.1, saturated_by (block_taken w.0 w.1) (body_taken w.0 w.1) bound)
        | inr n ↦ (all_taken, saturated_by all_taken (λ l q h u e. absurd (n q (is_goal l h q e).1)) bound)
      ]
