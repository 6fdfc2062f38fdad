-- A goal of the ground fragment with a saturated state has no ground proof: each clause of one is true, and the last is empty.
use Rattle.std.specs.Prelude.{ℕ, zero, suc, ◌<◌, Bool, true, false, ◌&&◌, ◌||◌, nat_eq, nat_lt, List, [], ◌∷◌, ◌++◌, ◌≡◌, map, length, reverse, slice_get, Option, Some, None}
use Rattle.std.specs.List.{AllByRecursion, Contains, list_all, flat_map}
use Rattle.std.proofs.Common.{inl, inr, append_assoc, append-nil}
use Rattle.std.proofs.lemmas.Bool.Decides.{nat_tests}
use mathlib.Core.Path.{refl, sym, ap, ◌∙◌, subst}
use native.Mathlib.Omega.{arith}
use Rattle.ae_core.specs.Sorts.{sort_of, is_closed_sort, sorts_of, variable_sort, formula_ok, formula_in, same_sorts, trigger_ok}
use Rattle.ae_base.specs.Options.{all_known, only, or_else, when, ◌>>=◌}
use Rattle.ae_core.specs.Putting.{put_formula}
use Rattle.ae_rules.specs.Clauses.{Clause, literal, opposite, is_true, yes_of, no_of}
use Rattle.ae_rules.specs.Instances.{hypothesis, choices_of, exhaustion, axiom_with, fresh_clause, fresh_terms, block_sorts, count_from, are_numbered}
use Rattle.ae_core.specs.Constants.{constants, formula_constants, formula_constants_step}
use Rattle.ae_core.specs.Signatures.{IsLawful}
use Rattle.ae_rules.specs.Derivations.{IsConstructor, goal_body, conclusion, formula_stands, line_ok, clause_of, Meets, hinted, stated_by, is_refuted}
use Rattle.ae_rules.specs.Derivations.{own_constants, line_constants, AreNew, IsAllowed, AreAllowed, last_of}
use Rattle.ae_rules.specs.Valuations.{clause_holds, same_truth}
use Rattle.ae_base.proofs.Tests.{three_parts}
use Rattle.ae_rules.proofs.Propagation.{refuted}
use Rattle.ae_rules.proofs.SortedLines.{states_clause}
use Rattle.ae_core.proofs.PutSorts.{body_put}
use Rattle.ae_rules.proofs.ClauseLaws.{literal_all}
use Rattle.ae_core.proofs.Recursion.{fold_all, fold_block}
use Rattle.ae_core.proofs.SortLaws.{formula_in_all, quant_in_block, sort_in_fresh}
use Rattle.ae_core.specs.declared.terms.Head.{Head}
use Rattle.ae_core.specs.declared.terms.Sort.{Sort, out-Sort}
use Rattle.ae_core.specs.declared.terms.Term.{Term, Fresh, Apply, out-Term}
use Rattle.ae_core.specs.declared.terms.Term.TheOpen as term_layer
use Rattle.ae_core.specs.declared.terms.Term.TheVariants.{outs-Fresh, outs-Apply}
use Rattle.ae_core.specs.declared.formulas.Formula.{Formula, Formula-F, Eq, Lt, Le, All, out-Formula, roll-Formula, roll-out-Formula}
use Rattle.ae_core.specs.declared.formulas.Formula.TheOpen as layer
use Rattle.ae_core.specs.declared.formulas.Formula.TheVariants.{outs-All, rolls-All, rolls-Ex}
use Rattle.ae_core.specs.declared.formulas.Quant.{Quant}
use Rattle.ae_core.specs.declared.formulas.Lit.{Lit}
use Rattle.ae_core.specs.declared.problems.Problem.{Problem}
use Rattle.ae_core.specs.declared.problems.Item.{Item}
use Rattle.ae_core.specs.declared.problems.Item.TheVariants.{Axiom, Goal as GoalItem}
use Rattle.ae_core.specs.declared.proofs.ClauseLine.{ClauseLine}
use Rattle.ae_core.specs.declared.proofs.ClauseLine.TheVariants.{Hyp, Goal, Def, Inst, Fresh as FreshLine, Exh, Tri, Block, Rup}
use Rattle.ae_core.specs.declared.proofs.Proof.{Proof}
use Rattle.ae_journal.specs.Values.{Val, Val_discrete}
use Rattle.ae_journal.specs.Systems.{IsNamed, ValueOf}
use Rattle.ae_journal.specs.Evaluation.{constructor_value}
use Rattle.ae_journal.specs.Inner.Numbering.{numbering}
use Rattle.ae_journal.specs.Evaluate.{reduced_by, Assignment, unassigned, value, is_true_at, IsAssignment}
use Rattle.ae_journal.specs.States.{IsSaturatedBy, Stands, of_hypothesis, of_goal, quant_of, is_universal_by, Selection}
use Rattle.ae_journal.specs.Ground.{IsFragmentTerm, JoinsNoEnumeration, subterms, IsGround, IsGroundFormula, IsGroundBlock, IsGroundGoal, IsGroundLine, IsGroundProof, MayStand, is_simple}
use Rattle.ae_evaluation.proofs.Decisions.{same_list}
use Rattle.ae_evaluation.proofs.Main.{value_shapes, value_shape, names_have_values}
use Rattle.ae_evaluation.proofs.Names.{valued_by}
use Rattle.ae_evaluation.proofs.Rules.{reduction}
use Rattle.ae_evaluation.proofs.Constructors.{choices_are}
use Rattle.ae_evaluation.proofs.Exhausted.{IsExhausted, chosen_value, constructors_apart, constructor_evaluates, exhausts, name_exhausted, subterms-Fresh}
use Rattle.ae_evaluation.proofs.ClosedItems.{HasNoConstants}
use Rattle.ae_evaluation.proofs.KeptTerms.{keep, keeps, kept_sorts, kept_formula, outside_literal}
use Rattle.ae_evaluation.proofs.Evaluates.{fresh_value}
use Rattle.ae_evaluation.proofs.Literals.{true_literal, lt_not_simple, le_not_simple, all_not_simple, ex_not_simple}
use Rattle.ae_evaluation.proofs.PutTruth.{keeps_truth, put_no_formula, put_simple}
use Rattle.ae_base.proofs.ListFacts.{empty_parts}
use Rattle.ae_evaluation.proofs.Truths.{truth_all, truth_eq, literal_is, rows_hold}
use Rattle.ae_evaluation.proofs.GroundBlocks.{block_true}
use Rattle.ae_evaluation.proofs.FreshValues.{fill_of, variables_same, constants_sorted, lookup, found_constant, found_term, EachValue, found_holds, own_values}
use Rattle.ae_journal.specs.declared.systems.Saturated.{Saturated}
use Rattle.ae_base.proofs.AllOf.{all_append, all_at, all_reversed}
use Rattle.ae_base.proofs.Decided.{decided_of}
use Rattle.ae_base.proofs.Options.{bind_some, only_some, when_some}
use Rattle.std.proofs.lemmas.Bool.{and_parts}
use Rattle.std.proofs.lemmas.List.Elements.{Contains-append_left, Contains-append_right}
use Rattle.std.proofs.lemmas.Option.{same_Some}
use Rattle.std.proofs.Math.Bool.{or-true}
use Rattle.ae_journal.proofs.Splits.{all_contained}

same_all : (q r : Quant) → All q ≡ All r → q ≡ r
same_all q r e = let f : layer.All q ≡ layer.All r = sym (outs-All q) ∙ ap out-Formula e ∙ outs-All r in cc

sorts_are : (o : Option (List Sort)) (ss : List Sort) → or_else (o >>= λ os. Some (same_sorts os ss)) false ≡ true → o ≡ Some ss
sorts_are None ss e = absurd (cc)
sorts_are (Some os) ss e = ap (λ (x : List Sort). Some x) (same_list os ss e)

known_length : (f : Term → Option Sort) (ts : List Term) (ss : List Sort) → all_known (map f ts) ≡ Some ss → length ts ≡ length ss
known_length f [] args e = let z : [] ≡ args = same_Some [] args e in ap (length {A = Sort}) z
known_length f (t ∷ ts) args e =
    let b = bind_some (f t) (λ x. all_known (map f ts) >>= λ xs. Some (x ∷ xs)) args e in
    let c = bind_some (all_known (map f ts)) (λ xs. Some (b.0 ∷ xs)) args b.2 in
    let z : b.0 ∷ c.0 ≡ args = same_Some (b.0 ∷ c.0) args c.2 in
    ap suc (known_length f ts c.0 c.1) ∙ ap (length {A = Sort}) z

constants-All : (q : Quant) → formula_constants (All q) ≡ flat_map (flat_map constants) q.triggers ++ formula_constants q.body
unfolding formula_constants
constants-All q =
    fold_all (List Term) (List Term) formula_constants_step _ q ∙ fold_block (List Term) (List Term) formula_constants_step _ q

body_constants : (q : Quant) → formula_constants (All q) ≡ [] → formula_constants q.body ≡ []
body_constants q e = (empty_parts (flat_map (flat_map constants) q.triggers) (formula_constants q.body) (sym (constants-All q) ∙ e)).1

or_next : Option Val → Option Val → Option Val
or_next (Some v) o = Some v
or_next None o = o

module _ (p : Problem) (g : ℕ) (st : Saturated) (takes : Selection) (bound : ℕ) (lawful : IsLawful p.signature)
    (saturated : IsSaturatedBy p g st takes bound) (ground : IsGround p g) (clear : HasNoConstants p g) where
  abbrev V : Term → Val
  V = value p.signature st.system true unassigned

  abbrev F : Formula → Bool
  F = is_true_at p.signature st.system true unassigned st.literals

  true_in_state : (f : Formula) → is_simple f ≡ true → formula_ok p.signature f ≡ true → (sign : Bool) → Stands p g st (literal sign f)
      → F f ≡ sign
  true_in_state = true_literal p g st takes bound lawful saturated true

  -- ---- values of which each part of an enumeration's sort is a constructor's
  abbrev Exhausted : Sort → Val → Type 0
  Exhausted =
      IsExhausted p.signature lawful st.system numbering (reduced_by st.system) saturated.completed
      (reduction p.signature st.system saturated.completed)

  named_exhausted : (t : Term) (s : Sort) (v : Val) → sort_of p.signature t ≡ Some s → ValueOf st.system t v → Exhausted s v
  named_exhausted t s v e o =
      name_exhausted p.signature lawful st.system numbering (reduced_by st.system) saturated.completed
      (reduction p.signature st.system saturated.completed) saturated.exhausted
      s v o.0 (record { term = t; is = o.1; sort = e; value = o.2 })

  nothing_assigned : (n : ℕ) (s : Sort) (v : Val) → unassigned n s ≡ Some v → ⊥
  nothing_assigned n s v e = cc

  no_assignment : IsAssignment p.signature st.system true unassigned
  no_assignment n s v e = absurd (nothing_assigned n s v e)

  -- a term without an AC symbol on a sort that holds an enumeration
  term_exhausted : (assigned : Assignment) → IsAssignment p.signature st.system true assigned
      → ((n : ℕ) (s : Sort) (v : Val) → assigned n s ≡ Some v → Exhausted s v)
      → (t : Term) (s : Sort) → sort_of p.signature t ≡ Some s → AllByRecursion (JoinsNoEnumeration p.signature []) (subterms t)
      → Exhausted s (value p.signature st.system true assigned t)
  term_exhausted assigned assigns a =
      exhausts p.signature lawful st.system numbering (reduced_by st.system) saturated.completed
      (reduction p.signature st.system saturated.completed) saturated.exhausted assigned
      (value_shape p.signature st.system lawful saturated.completed true assigned assigns) a

  constant_exhausted : (n : ℕ) (s : Sort) → is_closed_sort p.signature s ≡ true → Exhausted s (V (Fresh n s))
  constant_exhausted n s c =
      term_exhausted unassigned no_assignment (λ k o v e. absurd (nothing_assigned k o v e)) (Fresh n s) s
      (sort_in_fresh p.signature (is_closed_sort p.signature) [] n s ∙ ap (λ b. when b s) c)
      (subst (AllByRecursion (JoinsNoEnumeration p.signature [])) (sym (subterms-Fresh n s))
      ((λ h ss us o e. absurd (not_applied n s h ss us e)), tt))
    where
      not_applied : (n : ℕ) (s : Sort) (h : Head) (ss : List Sort) (us : List Term) → Fresh n s ≡ Apply h ss us → ⊥
      not_applied n s h ss us e =
          let f : term_layer.Fresh n s ≡ term_layer.Apply h ss us = sym (outs-Fresh n s) ∙ ap out-Term e ∙ outs-Apply h ss us in cc

  known_first : (t : Term) (ts : List Term) (s : Sort) (ss : List Sort) → all_known (map (sort_of p.signature) (t ∷ ts)) ≡ Some (s ∷ ss)
      → (sort_of p.signature t ≡ Some s) × (all_known (map (sort_of p.signature) ts) ≡ Some ss)
  known_first t ts s ss e =
      let b = bind_some (sort_of p.signature t) (λ x. all_known (map (sort_of p.signature) ts) >>= λ xs. Some (x ∷ xs)) (s ∷ ss) e in
      let d = bind_some (all_known (map (sort_of p.signature) ts)) (λ xs. Some (b.0 ∷ xs)) (s ∷ ss) b.2 in
      let z : b.0 ∷ d.0 ≡ s ∷ ss = same_Some (b.0 ∷ d.0) (s ∷ ss) d.2 in
      let first : b.0 ≡ s = cc in
      let rest : d.0 ≡ ss = cc in
      (b.1 ∙ ap (λ (x : Sort). Some x) first, d.1 ∙ ap (λ (x : List Sort). Some x) rest)

  kept_exhausted : (ts : List Term) (ss : List Sort) → all_known (map (sort_of p.signature) ts) ≡ Some ss
      → list_all (is_closed_sort p.signature) ss ≡ true
      → EachValue V Exhausted ss (map (keep p.signature st.system saturated.completed) ts)
  kept_exhausted [] [] e c = tt
  kept_exhausted [] (s ∷ ss) e c = tt
  kept_exhausted (t ∷ ts) [] e c = tt
  kept_exhausted (t ∷ ts) (s ∷ ss) e c =
      let b = known_first t ts s ss e in
      let q = and_parts (is_closed_sort p.signature s) (list_all (is_closed_sort p.signature) ss) c in (
        keeps p.signature st.system saturated.completed (λ u. Exhausted s (V u)) t s b.0
            (λ v w.
            let o = valued_by p.signature st.system numbering (reduced_by st.system) true saturated.completed t v w in
            subst (Exhausted s) (sym (names_have_values p.signature st.system lawful saturated.completed true t s v b.0 o))
            (named_exhausted t s v b.0 o))
            (λ c. constant_exhausted 0 s c) (λ c. let w : true ≡ false = sym q.0 ∙ c in absurd (cc)),
        kept_exhausted ts ss b.1 q.1,
      )

  -- ---- the terms that the state has for the goal's variables
  record Chosen : Type 0 where
    pub sorts : List Sort
    pub terms : List Term
    pub sorted : all_known (map (sort_of p.signature) terms) ≡ Some sorts
    pub block : block_sorts (out-Formula ground.goal) ≡ sorts
    pub exhausted : formula_ok p.signature ground.goal ≡ true → EachValue V Exhausted sorts terms
    pub body_false : (q : Quant) → ground.goal ≡ All q → formula_ok p.signature ground.goal ≡ true → F (put_formula terms q.body) ≡ false

  no_block : is_simple ground.goal ≡ true → block_sorts (out-Formula ground.goal) ≡ []
  no_block s = go (out-Formula ground.goal) refl
    where
      go : (f : Formula-F Formula Quant) → out-Formula ground.goal ≡ f → block_sorts f ≡ []
      go (layer.All q) e =
          absurd (all_not_simple q (ap is_simple (sym (sym (roll-out-Formula ground.goal) ∙ ap roll-Formula e ∙ rolls-All q)) ∙ s))
      go (layer.Ex q) e =
          absurd (ex_not_simple q (ap is_simple (sym (sym (roll-out-Formula ground.goal) ∙ ap roll-Formula e ∙ rolls-Ex q)) ∙ s))
      go layer.True e = refl
      go layer.False e = refl
      go (layer.Eq a b) e = refl
      go (layer.Lt a b) e = refl
      go (layer.Le a b) e = refl
      go (layer.Pred n ss us) e = refl
      go (layer.Not a) e = refl
      go (layer.And a b) e = refl
      go (layer.Or a b) e = refl
      go (layer.Xor a b) e = refl
      go (layer.Iff a b) e = refl

  body_ok : (q : Quant) → formula_ok p.signature (All q) ≡ true
      → (list_all (is_closed_sort p.signature) q.sorts ≡ true) × (formula_in p.signature (is_closed_sort p.signature) q.sorts q.body ≡ true)
  body_ok q o =
      let t =
      three_parts (list_all (is_closed_sort p.signature) q.sorts)
      (list_all (list_all (trigger_ok p.signature (is_closed_sort p.signature) q.sorts)) q.triggers)
      (formula_in p.signature (is_closed_sort p.signature) q.sorts q.body)
      (sym (quant_in_block p.signature (is_closed_sort p.signature) [] q) ∙ sym
      (formula_in_all p.signature (is_closed_sort p.signature) [] q) ∙ o) in
      (t.0, t.2)

  chosen_by : IsGroundGoal p.signature ground.goal → Chosen
  chosen_by (inl f) =
      record {
        sorts = [];
        terms = [];
        sorted = refl;
        block = no_block f.simple;
        exhausted = λ o. tt;
        body_false = λ q e o. absurd
            (all_not_simple q (ap is_simple (sym e) ∙ f.simple));
      }
  chosen_by (inr f) =
      let q = f.0 in
      let l : Lit = record { positive = false; formula = All q } in
      let stands : Stands p g st l =
      subst (Stands p g st) (ap (literal false) f.1 ∙ literal_all false q)
      (saturated.firsts (no_of ground.goal) (of_goal ground.goal ground.is)) in
      let r = saturated.blocks l q stands (ap (is_universal_by false) (outs-All q)) (ap quant_of (outs-All q)) in
      let same : literal false (put_formula r.1 q.body) ≡ takes.body l =
      same_Some (literal false (put_formula r.1 q.body)) (takes.body l)
      (sym (ap (λ (o : Option Quant). o >>= λ q. Some (literal false (put_formula r.1 q.body))) (ap quant_of (outs-All q))) ∙ r.3) in
      let body_stands : Stands p g st (literal false (put_formula r.1 q.body)) = subst (Stands p g st) (sym same) r.0 in
      let sorted = sorts_are (sorts_of p.signature r.1) q.sorts r.2 in
      let simple = (f.2).body.simple in
      let named =
      subst (AllByRecursion (IsNamed st.system)) (outside_literal (put_formula r.1 q.body) false)
      (saturated.named (literal false (put_formula r.1 q.body)) body_stands) in
      let kept = kept_formula p.signature st.system saturated.completed r.1 q.body simple named in
      record {
        sorts = q.sorts;
        terms = map (keep p.signature st.system saturated.completed) r.1;
        sorted = kept_sorts p.signature st.system saturated.completed r.1 q.sorts sorted;
        block = ap (λ (g : Formula). block_sorts (out-Formula g)) f.1 ∙ ap block_sorts (outs-All q);
        exhausted = λ o. kept_exhausted r.1 q.sorts sorted (body_ok q (ap (formula_ok p.signature) (sym f.1) ∙ o)).0;
        body_false = λ q' e o.
            let z : q ≡ q' = same_all q q' (sym f.1 ∙ e) in
            let b = body_ok q (ap (formula_ok p.signature) (sym f.1) ∙ o) in
            ap (λ (k : Quant). F (put_formula (map (keep p.signature st.system saturated.completed) r.1) k.body)) (sym z) ∙ ap F (sym kept)
            ∙ true_in_state (put_formula r.1 q.body) (put_simple r.1 q.body simple)
            (body_put p.signature (is_closed_sort p.signature) q.sorts r.1 sorted q.body b.1) false body_stands;
      }

  chosen : Chosen
  chosen = chosen_by ground.ground

  -- ---- the assignment
  own : ClauseLine → ℕ → Sort → Option Val
  own (FreshLine f m) n o = only (formula_ok p.signature ground.goal) (lookup V m chosen.sorts chosen.terms n o)
  own l n o = None

  assign : List ClauseLine → Assignment
  assign [] n o = None
  assign (l ∷ ls) n o = or_next (own l n o) (assign ls n o)

  own_assigns : (l : ClauseLine) (n : ℕ) (o : Sort) (v : Val) → own l n o ≡ Some v
      → (t : Term) × (sort_of p.signature t ≡ Some o) × (v ≡ V t)
  unfolding own
  own_assigns (FreshLine f m) n o v e =
      found_term V p.signature m chosen.sorts chosen.terms chosen.sorted n o v
      (only_some (formula_ok p.signature ground.goal) (lookup V m chosen.sorts chosen.terms n o) v e).1
  own_assigns (Hyp k ss) n o v e = absurd (cc)
  own_assigns Goal n o v e = absurd (cc)
  own_assigns (Def r f) n o v e = absurd (cc)
  own_assigns (Inst f ts) n o v e = absurd (cc)
  own_assigns (Exh t) n o v e = absurd (cc)
  own_assigns (Tri s t) n o v e = absurd (cc)
  own_assigns (Block b) n o v e = absurd (cc)
  own_assigns (Rup c ks) n o v e = absurd (cc)

  own_exhausted : (l : ClauseLine) (n : ℕ) (o : Sort) (v : Val) → own l n o ≡ Some v → Exhausted o v
  unfolding own
  own_exhausted (FreshLine f m) n o v e =
      let w = only_some (formula_ok p.signature ground.goal) (lookup V m chosen.sorts chosen.terms n o) v e in
      found_holds V Exhausted m chosen.sorts chosen.terms (chosen.exhausted w.0) n o v w.1
  own_exhausted (Hyp k ss) n o v e = absurd (cc)
  own_exhausted Goal n o v e = absurd (cc)
  own_exhausted (Def r f) n o v e = absurd (cc)
  own_exhausted (Inst f ts) n o v e = absurd (cc)
  own_exhausted (Exh t) n o v e = absurd (cc)
  own_exhausted (Tri s t) n o v e = absurd (cc)
  own_exhausted (Block b) n o v e = absurd (cc)
  own_exhausted (Rup c ks) n o v e = absurd (cc)

  assigned_exhausted : (ls : List ClauseLine) (n : ℕ) (o : Sort) (v : Val) → assign ls n o ≡ Some v → Exhausted o v
  unfolding assign or_next
  assigned_exhausted [] n o v e = absurd (cc)
  assigned_exhausted (l ∷ ls) n o v e = go (own l n o) (own_exhausted l n o) e (assigned_exhausted ls n o v)
    where
      go : (w : Option Val) → ((v : Val) → w ≡ Some v → Exhausted o v) → or_next w (assign ls n o) ≡ Some v
          → (assign ls n o ≡ Some v → Exhausted o v) → Exhausted o v
      go (Some w) f e k = f v e
      go None f e k = k e

  assigns : (ls : List ClauseLine) → IsAssignment p.signature st.system true (assign ls)
  unfolding assign or_next
  assigns [] n o v e = absurd (cc)
  assigns (l ∷ ls) n o v e = go (own l n o) (own_assigns l n o) e (assigns ls n o v)
    where
      go : (w : Option Val) → ((v : Val) → w ≡ Some v → (t : Term) × (sort_of p.signature t ≡ Some o) × (v ≡ V t))
          → or_next w (assign ls n o) ≡ Some v → (assign ls n o ≡ Some v → (t : Term) × (sort_of p.signature t ≡ Some o) × (v ≡ V t))
          → (t : Term) × (sort_of p.signature t ≡ Some o) × (v ≡ V t)
      go (Some w) f e k = f v e
      go None f e k = k e

  goal_is : (f : Formula) → goal_body p g ≡ Some f → f ≡ ground.goal
  goal_is f e = same_Some f ground.goal (sym e ∙ ground.is)

  own_contains : (l : ClauseLine) (n : ℕ) (o : Sort) (v : Val) → IsGroundLine p g l → own l n o ≡ Some v
      → Contains (line_constants p g l) (Fresh n o)
  unfolding own
  own_contains (FreshLine f m) n o v i e =
      let c =
      found_constant V m chosen.sorts chosen.terms n o v
      (only_some (formula_ok p.signature ground.goal) (lookup V m chosen.sorts chosen.terms n o) v e).1 in
      let b : block_sorts (out-Formula f) ≡ chosen.sorts = ap (λ (g : Formula). block_sorts (out-Formula g)) (goal_is f i) ∙ chosen.block in
      Contains-append_left (own_constants (FreshLine f m)) _ (Fresh n o)
      (Contains-append_right (formula_constants f) (fresh_terms m f) (Fresh n o)
      (subst (λ (ss : List Sort). Contains (count_from m ss) (Fresh n o)) (sym b) c))
  own_contains (Hyp k ss) n o v i e = absurd (cc)
  own_contains Goal n o v i e = absurd (cc)
  own_contains (Def r f) n o v i e = absurd (cc)
  own_contains (Inst f ts) n o v i e = absurd (cc)
  own_contains (Exh t) n o v i e = absurd (cc)
  own_contains (Tri s t) n o v i e = absurd (cc)
  own_contains (Block b) n o v i e = absurd (cc)
  own_contains (Rup c ks) n o v i e = absurd (cc)

  -- a constant that stands in no earlier line
  skip : (earlier rest : List ClauseLine) → AllByRecursion (IsGroundLine p g) earlier → (n : ℕ) (o : Sort)
      → (Contains (flat_map (line_constants p g) earlier) (Fresh n o) → ⊥) → assign (earlier ++ rest) n o ≡ assign rest n o
  unfolding assign or_next
  skip [] rest a n o h = refl
  skip (l ∷ ls) rest a n o h =
      go (own l n o) refl (skip ls rest a.1 n o
      (λ c. h (Contains-append_right (line_constants p g l) (flat_map (line_constants p g) ls) (Fresh n o) c)))
    where
      go : (w : Option Val) → w ≡ own l n o → assign (ls ++ rest) n o ≡ assign rest n o
          → or_next w (assign (ls ++ rest) n o) ≡ assign rest n o
      go None e k = k
      go (Some v) e k =
          absurd
          (h (Contains-append_left (line_constants p g l) (flat_map (line_constants p g) ls) (Fresh n o) (own_contains l n o v a.0 (sym e))))

  fresh_assigned : (earlier later : List ClauseLine) (f : Formula) (m : ℕ) → AllByRecursion (IsGroundLine p g) earlier
      → goal_body p g ≡ Some f → AreNew p g earlier m f
      → formula_ok p.signature ground.goal ≡ true
      → (n : ℕ) (o : Sort) (v : Val) → lookup V m chosen.sorts chosen.terms n o ≡ Some v
      → assign (earlier ++ FreshLine f m ∷ later) n o ≡ Some v
  unfolding assign own or_next
  fresh_assigned earlier later f m a i new ok n o v e =
      let c = found_constant V m chosen.sorts chosen.terms n o v e in
      let b : block_sorts (out-Formula f) ≡ chosen.sorts = ap (λ (g : Formula). block_sorts (out-Formula g)) (goal_is f i) ∙ chosen.block in
      let d =
      all_contained (λ c. ¬ (Contains (formula_constants f ++ flat_map (line_constants p g) earlier) c)) (fresh_terms m f) (Fresh n o) new
      (subst (λ (ss : List Sort). Contains (count_from m ss) (Fresh n o)) (sym b) c) in
      skip earlier (FreshLine f m ∷ later) a n o
      (λ q. d (Contains-append_right (formula_constants f) (flat_map (line_constants p g) earlier) (Fresh n o) q))
      ∙ (λ k. or_next (only (ok k) (e k)) (assign later n o))

  -- ---- a proof
  module _ (lines : List ClauseLine) where
    abbrev rho : Assignment
    rho = assign lines

    abbrev R : Formula → Bool
    R = is_true_at p.signature st.system true rho st.literals

    rho_assigns : IsAssignment p.signature st.system true rho
    rho_assigns = assigns lines

    no_variable : (i : ℕ) (s : Sort) → variable_sort [] i ≡ Some s → ⊥
    no_variable zero s e = cc
    no_variable (suc i) s e = cc

    -- a formula without constants has one truth
    closed_same : (f : Formula) → IsGroundFormula p.signature [] f → formula_constants f ≡ [] → R f ≡ F f
    closed_same f i c =
        ap R (sym (put_no_formula f i.simple))
        ∙ keeps_truth p.signature st.system numbering (reduced_by st.system) true st.literals rho unassigned
        (value_shapes p.signature st.system lawful saturated.completed true rho rho_assigns) [] [] []
        (λ i s e. absurd (no_variable i s e)) (λ i s e. absurd (no_variable i s e)) f i.simple i.terms c
        ∙ ap F (put_no_formula f i.simple)

    one_literal : (s : Bool) (f : Formula) → R f ≡ s → clause_holds R (literal s f ∷ []) ≡ true
    one_literal s f e = ap (λ b. b || false) (literal_is _ _ f s ∙ ap (same_truth s) e) ∙ itself s
      where
        itself : (s : Bool) → same_truth s s || false ≡ true
        itself true = refl
        itself false = refl

    -- ---- hypotheses and the goal
    no_sorts : (k : ℕ) (ss : List Sort) (f : Formula) → hypothesis p g k ss ≡ Some f → ss ≡ []
    no_sorts k ss f e =
        let b =
        bind_some (only (nat_lt k g) (slice_get p.items k))
        (λ i. elim i as (λ _. Option Formula) [ Axiom n v f ↦ axiom_with v f ss | GoalItem n v f ↦ None ]) f e in
        let o = only_some (nat_lt k g) (slice_get p.items k) b.0 b.1 in
        go b.0 o.1 (lt o.0) b.2
      where
        lt : nat_lt k g ≡ true → k < g
        lt e = grind (arith, nat_tests, e)

        empty : (ss : List Sort) (v : ℕ) → nat_eq (length ss) v ≡ true → v ≡ 0 → ss ≡ []
        empty [] v h z = refl
        empty (s ∷ ss) v h z = absurd (grind (arith, nat_tests, h, z))

        go : (i : Item) → slice_get p.items k ≡ Some i → k < g
            → elim i as (λ _. Option Formula) [ Axiom n v f ↦ axiom_with v f ss | GoalItem n v f ↦ None ] ≡ Some f → ss ≡ []
        go (Axiom n v h) at l e = empty ss v (when_some (nat_eq (length ss) v) _ f e).0 (ground.not_varied k n v h l at)
        go (GoalItem n v h) at l e = absurd (cc)

    hyp_true : (k : ℕ) (ss : List Sort) (f : Formula) → hypothesis p g k ss ≡ Some f → formula_ok p.signature f ≡ true → R f ≡ true
    hyp_true k ss f e o =
        let e' : hypothesis p g k [] ≡ Some f = ap (hypothesis p g k) (sym (no_sorts k ss f e)) ∙ e in
        closed_same f (ground.hypotheses k f e') (clear.hypotheses k f e') ∙ true_in_state f (ground.hypotheses k f e').simple o true
        (saturated.firsts (yes_of f) (of_hypothesis k f e'))

    goal_false : (f : Formula) → goal_body p g ≡ Some f → formula_ok p.signature f ≡ true → R f ≡ false
    goal_false f e o = go ground.ground
      where
        same : f ≡ ground.goal
        same = goal_is f e

        go : IsGroundGoal p.signature ground.goal → R f ≡ false
        go (inl i) =
            let j = subst (IsGroundFormula p.signature []) (sym same) i in
            closed_same f j (clear.goal f e) ∙ true_in_state f j.simple o false (saturated.firsts (no_of f) (of_goal f e))
        go (inr i) = ap R (same ∙ i.1) ∙ truth_all _ _ i.0

    -- ---- each kind of line
    abbrev Holds : ClauseLine → Type 0
    Holds l = (c : Clause) → conclusion p g l ≡ Some c → clause_holds R c ≡ true

    body_case : (earlier later : List ClauseLine) (f : Formula) (m : ℕ) (q : Quant) → lines ≡ earlier ++ FreshLine f m ∷ later
        → AllByRecursion (IsGroundLine p g) earlier → goal_body p g ≡ Some f → AreNew p g earlier m f
        → f ≡ All q → formula_ok p.signature f ≡ true → IsGroundBlock p.signature q → R (put_formula (count_from m q.sorts) q.body) ≡ false
    body_case earlier later f m q whole a i new z o b =
        let same : ground.goal ≡ All q = sym (goal_is f i) ∙ z in
        let bs : chosen.sorts ≡ q.sorts =
        sym chosen.block ∙ ap (λ (g : Formula). block_sorts (out-Formula g)) same ∙ ap block_sorts (outs-All q) in
        let sorted : all_known (map (sort_of p.signature) chosen.terms) ≡ Some q.sorts =
        chosen.sorted ∙ ap (λ (x : List Sort). Some x) bs in
        let ok = body_ok q (ap (formula_ok p.signature) (sym z) ∙ o) in
        let goal_ok : formula_ok p.signature ground.goal ≡ true = ap (formula_ok p.signature) (sym (goal_is f i)) ∙ o in
        let cs = count_from m q.sorts in
        let l = known_length (sort_of p.signature) chosen.terms q.sorts sorted in
        let found : (n : ℕ) (s : Sort) (v : Val) → lookup V m q.sorts chosen.terms n s ≡ Some v → rho n s ≡ Some v =
        λ n s v e. ap (λ (ls : List ClauseLine). assign ls n s) whole ∙ fresh_assigned earlier later f m a i new goal_ok n s v
        (ap (λ (ss : List Sort). lookup V m ss chosen.terms n s) bs ∙ e) in
        let values =
        own_values V (value p.signature st.system true rho) m q.sorts chosen.terms (omega (arith, l))
        (λ n s v h e. fresh_value p.signature st.system numbering (reduced_by st.system) true rho n s v (found n s v e)) in
        let fc = fill_of p.signature cs q.sorts (constants_sorted p.signature m q.sorts ok.0) in
        let ft = fill_of p.signature chosen.terms q.sorts sorted in
        keeps_truth p.signature st.system numbering (reduced_by st.system) true st.literals rho unassigned
        (value_shapes p.signature st.system lawful saturated.completed true rho rho_assigns) q.sorts cs chosen.terms
        fc (variables_same p.signature
        (value p.signature st.system true rho) V q.sorts cs chosen.terms fc ft values) q.body b.body.simple b.body.terms
        (body_clear f q z i)
        ∙ chosen.body_false q same (ap (formula_ok p.signature) (sym (goal_is f i)) ∙ o)
      where
        body_clear : (f : Formula) (q : Quant) → f ≡ All q → goal_body p g ≡ Some f → formula_constants q.body ≡ []
        body_clear f q z i = body_constants q (ap formula_constants (sym z) ∙ clear.goal f i)

    fresh_case : (earlier later : List ClauseLine) (f : Formula) (m : ℕ) → lines ≡ earlier ++ FreshLine f m ∷ later
        → AllByRecursion (IsGroundLine p g) earlier → goal_body p g ≡ Some f → AreNew p g earlier m f → formula_ok p.signature f ≡ true
        → (c : Clause) → fresh_clause f m (out-Formula f) ≡ Some c → clause_holds R c ≡ true
    fresh_case earlier later f m whole a i new o c e = go ground.ground
      where
        none_simple : is_simple f ≡ true → clause_holds R c ≡ true
        none_simple s = by_layer (out-Formula f) refl e
          where
            by_layer : (l : Formula-F Formula Quant) → out-Formula f ≡ l → fresh_clause f m l ≡ Some c → clause_holds R c ≡ true
            by_layer (layer.All q) h e =
                absurd (all_not_simple q (ap is_simple (sym (sym (roll-out-Formula f) ∙ ap roll-Formula h ∙ rolls-All q)) ∙ s))
            by_layer (layer.Ex q) h e =
                absurd (ex_not_simple q (ap is_simple (sym (sym (roll-out-Formula f) ∙ ap roll-Formula h ∙ rolls-Ex q)) ∙ s))
            by_layer layer.True h e = absurd (cc)
            by_layer layer.False h e = absurd (cc)
            by_layer (layer.Eq x z) h e = absurd (cc)
            by_layer (layer.Lt x z) h e = absurd (cc)
            by_layer (layer.Le x z) h e = absurd (cc)
            by_layer (layer.Pred n ss us) h e = absurd (cc)
            by_layer (layer.Not x) h e = absurd (cc)
            by_layer (layer.And x z) h e = absurd (cc)
            by_layer (layer.Or x z) h e = absurd (cc)
            by_layer (layer.Xor x z) h e = absurd (cc)
            by_layer (layer.Iff x z) h e = absurd (cc)

        go : IsGroundGoal p.signature ground.goal → clause_holds R c ≡ true
        go (inl s) = none_simple (ap is_simple (goal_is f i) ∙ s.simple)
        go (inr s) =
            let q = s.0 in
            let z : f ≡ All q = goal_is f i ∙ s.1 in
            let w =
            when_some (are_numbered m q.sorts) (is_true f ∷ no_of (put_formula (count_from m q.sorts) q.body) ∷ []) c
            (sym (ap (fresh_clause f m) (ap out-Formula z ∙ outs-All q)) ∙ e) in
            ap (clause_holds R) (sym w.1)
            ∙ ap (λ b. same_truth true (R f) || b)
            (one_literal false (put_formula (count_from m q.sorts) q.body) (body_case earlier later f m q whole a i new z o s.2))
            ∙ or-true (same_truth true (R f))

    -- ---- constructors
    constructor_value_is : (h : Head) → IsConstructor p.signature h → value p.signature st.system true rho (Apply h [] [])
        ≡ constructor_value p.signature st.system numbering (reduced_by st.system) true h
    constructor_value_is =
        constructor_evaluates p.signature lawful st.system numbering (reduced_by st.system) saturated.completed
        (reduction p.signature st.system saturated.completed) saturated.exhausted rho
        (value_shape p.signature st.system lawful saturated.completed true rho rho_assigns) (assigned_exhausted lines)

    rho_apart : (h i : Head) → IsConstructor p.signature h → IsConstructor p.signature i
        → value p.signature st.system true rho (Apply h [] []) ≡ value p.signature st.system true rho (Apply i [] []) → h ≡ i
    rho_apart h i c d e =
        constructors_apart p.signature lawful st.system numbering (reduced_by st.system) saturated.completed
        (reduction p.signature st.system saturated.completed) saturated.constructors h i c d
        (sym (constructor_value_is h c) ∙ e ∙ constructor_value_is i d)

    one_holds : (hs : List Head) (k : ℕ) (h : Head) (t : Term) → slice_get hs k ≡ Some h → R (Eq t (Apply h [] [])) ≡ true
        → clause_holds R (map (λ h. is_true (Eq t (Apply h [] []))) hs) ≡ true
    one_holds [] k h t e r = absurd (cc)
    one_holds (i ∷ hs) zero h t e r =
        ap (λ b. b || clause_holds R (map (λ h. is_true (Eq t (Apply h [] []))) hs))
        (ap (λ (j : Head). same_truth true (R (Eq t (Apply j [] [])))) (same_Some i h e) ∙ ap (same_truth true) r)
    one_holds (i ∷ hs) (suc k) h t e r =
        ap (λ b. same_truth true (R (Eq t (Apply i [] []))) || b) (one_holds hs k h t e r)
        ∙ or-true (same_truth true (R (Eq t (Apply i [] []))))

    exhaustion_true : (t : Term) → IsFragmentTerm p.signature [] t → (c : Clause) → exhaustion p.signature t ≡ Some c
        → clause_holds R c ≡ true
    exhaustion_true t i c e =
        let b =
        bind_some (sort_of p.signature t)
        (λ s. choices_of p.signature (out-Sort s) >>= λ cs. Some (map (λ h. is_true (Eq t (Apply h [] []))) cs)) c e in
        let d = bind_some (choices_of p.signature (out-Sort b.0)) (λ cs. Some (map (λ h. is_true (Eq t (Apply h [] []))) cs)) c b.2 in
        let x = term_exhausted rho rho_assigns (assigned_exhausted lines) t b.0 b.1 i.joins in
        let v = value p.signature st.system true rho t in
        let w =
        chosen_value p.signature lawful st.system numbering (reduced_by st.system) saturated.completed
        (reduction p.signature st.system saturated.completed) b.0 v x d.0 d.1 in
        let k = choices_are p.signature lawful b.0 d.0 w.1 w.0 d.1 w.2 in
        ap (clause_holds R) (sym (same_Some (map (λ h. is_true (Eq t (Apply h [] []))) d.0) c d.2))
        ∙ one_holds d.0 w.1 w.0 t w.2
        (truth_eq _ _ t (Apply w.0 [] []) ∙ decided_of (Val_discrete v (value p.signature st.system true rho (Apply w.0 [] [])))
        (sym (constructor_value_is w.0 k ∙ w.3)))

    order_free : (hyps : List Lit) → AllByRecursion (λ (l : Lit). MayStand p g l.formula) hyps
        → (k : ℕ) (sign : Bool) (s t : Term)
        → (slice_get hyps k ≡ Some (record { positive = sign; formula = Lt s t }) → ⊥) ×
        (slice_get hyps k ≡ Some (record { positive = sign; formula = Le s t }) → ⊥)
    order_free hyps a k sign s t = (
      λ e. not_lt (all_at (λ (l : Lit). MayStand p g l.formula) hyps k (record { positive = sign; formula = Lt s t }) a e),
      λ e. not_le
          (all_at (λ (l : Lit). MayStand p g l.formula) hyps k (record { positive = sign; formula = Le s t }) a e),
    )
      where
        goal_not_lt : IsGroundGoal p.signature ground.goal → Lt s t ≡ ground.goal → ⊥
        goal_not_lt (inl i) e = lt_not_simple s t (ap is_simple e ∙ i.simple)
        goal_not_lt (inr i) e = let z : Lt s t ≡ All i.0 = e ∙ i.1 in cc

        goal_not_le : IsGroundGoal p.signature ground.goal → Le s t ≡ ground.goal → ⊥
        goal_not_le (inl i) e = le_not_simple s t (ap is_simple e ∙ i.simple)
        goal_not_le (inr i) e = let z : Le s t ≡ All i.0 = e ∙ i.1 in cc

        not_lt : MayStand p g (Lt s t) → ⊥
        not_lt (inl i) = lt_not_simple s t i.simple
        not_lt (inr e) = goal_not_lt ground.ground (goal_is (Lt s t) e)

        not_le : MayStand p g (Le s t) → ⊥
        not_le (inl i) = le_not_simple s t i.simple
        not_le (inr e) = goal_not_le ground.ground (goal_is (Le s t) e)

    hinted_true : (earlier : List ClauseLine) → AllByRecursion Holds earlier → (ks : List ℕ) (cs : List Clause)
        → all_known (map (stated_by p g earlier) ks) ≡ Some cs → list_all (clause_holds R) cs ≡ true
    hinted_true earlier a [] cs e = let z : [] ≡ cs = same_Some [] cs e in ap (list_all (clause_holds R)) (sym z)
    hinted_true earlier a (k ∷ ks) cs e =
        let b = bind_some (stated_by p g earlier k) (λ x. all_known (map (stated_by p g earlier) ks) >>= λ xs. Some (x ∷ xs)) cs e in
        let c = bind_some (all_known (map (stated_by p g earlier) ks)) (λ xs. Some (b.0 ∷ xs)) cs b.2 in
        let l = bind_some (slice_get earlier k) (conclusion p g) b.0 b.1 in
        ap (list_all (clause_holds R)) (sym (same_Some (b.0 ∷ c.0) cs c.2)) ∙
        (λ i. all_at Holds earlier k l.0 a l.1 b.0 l.2 i && hinted_true earlier a ks c.0 c.1 i)

    rup_case : (earlier : List ClauseLine) → AllByRecursion Holds earlier → (c : Clause) (ks : List ℕ)
        → is_refuted (hinted p g earlier ks) c ≡ true → clause_holds R c ≡ true
    rup_case earlier a c ks e = go (hinted p g earlier ks) refl e
      where
        go : (o : Option (List Clause)) → hinted p g earlier ks ≡ o → is_refuted o c ≡ true → clause_holds R c ≡ true
        go None h e = absurd (cc)
        go (Some cs) h e = refuted R c cs e (hinted_true earlier a ks cs h)

    line_true : (earlier later : List ClauseLine) (l : ClauseLine) → lines ≡ earlier ++ l ∷ later
        → AllByRecursion (IsGroundLine p g) earlier → IsGroundLine p g l
        → Meets p g earlier l → AllByRecursion Holds earlier → (c : Clause) → line_ok p g l ≡ true → clause_of p g l ≡ Some c
        → clause_holds R c ≡ true
    line_true earlier later (Hyp k ss) whole a i m h c o e =
        let b = bind_some (hypothesis p g k ss) (λ f. Some (yes_of f ∷ [])) c e in
        let s = and_parts (list_all (is_closed_sort p.signature) ss) (formula_stands p.signature (hypothesis p g k ss)) o in
        let ok : formula_ok p.signature b.0 ≡ true = sym (ap (formula_stands p.signature) b.1) ∙ s.1 in
        ap (clause_holds R) (sym (same_Some (yes_of b.0 ∷ []) c b.2)) ∙ one_literal true b.0 (hyp_true k ss b.0 b.1 ok)
    line_true earlier later Goal whole a i m h c o e =
        let b = bind_some (goal_body p g) (λ f. Some (no_of f ∷ [])) c e in
        let ok : formula_ok p.signature b.0 ≡ true = sym (ap (formula_stands p.signature) b.1) ∙ o in
        ap (clause_holds R) (sym (same_Some (no_of b.0 ∷ []) c b.2)) ∙ one_literal false b.0 (goal_false b.0 b.1 ok)
    line_true earlier later (Def k f) whole a i m h c o e = rows_hold _ _ f k c e
    line_true earlier later (Inst f ts) whole a i m h c o e = absurd i
    line_true earlier later (FreshLine f k) whole a i m h c o e = fresh_case earlier later f k whole a i m o c e
    line_true earlier later (Exh t) whole a i m h c o e = exhaustion_true t i c e
    line_true earlier later (Tri s t) whole a i m h c o e = absurd i
    line_true earlier later (Block b) whole a i m h c o e =
        ap (clause_holds R) (sym (same_Some (map opposite b.deriv.hyps) c e))
        ∙ block_true p.signature st.system lawful saturated.completed rho rho_assigns rho_apart st.literals b i.lines
        (order_free b.deriv.hyps i.hyps) m
    line_true earlier later (Rup d ks) whole a i m h c o e = ap (clause_holds R) (sym (same_Some d c e)) ∙ rup_case earlier h d ks m

    allowed_true : (earlier later : List ClauseLine) (l : ClauseLine) → lines ≡ earlier ++ l ∷ later
        → AllByRecursion (IsGroundLine p g) earlier → IsGroundLine p g l
        → IsAllowed p g earlier l → AllByRecursion Holds earlier → Holds l
    allowed_true earlier later l whole a i o h c e = let s = states_clause p g l c e in line_true earlier later l whole a i o.1 h c s.0 s.1

    all_true : (earlier rest : List ClauseLine) → lines ≡ earlier ++ rest → AllByRecursion (IsGroundLine p g) earlier
        → AllByRecursion (IsGroundLine p g) rest → AreAllowed p g earlier rest → AllByRecursion Holds earlier → AllByRecursion Holds lines
    all_true earlier [] whole a i o h = subst (AllByRecursion Holds) (sym (whole ∙ append-nil earlier)) h
    all_true earlier (l ∷ rest) whole a i o h =
        all_true (earlier ++ l ∷ []) rest (whole ∙ sym (append_assoc earlier (l ∷ []) rest))
        (all_append (IsGroundLine p g) earlier (l ∷ []) a (i.0, tt)) i.1 o.1
        (all_append Holds earlier (l ∷ []) h (allowed_true earlier rest l whole a i.0 o.0 h, tt))

    no_empty : AllByRecursion Holds lines → (last_of lines >>= conclusion p g) ≡ Some [] → ⊥
    no_empty h e =
        let b = bind_some (last_of lines) (conclusion p g) [] e in
        let z = all_at Holds (reverse lines) 0 b.0 (all_reversed Holds lines h) b.1 [] b.2 in
        cc

  -- the clauses of allowed lines are true, where fresh constants have the values of the terms chosen for the goal's variables
  pub clauses_true : (lines : List ClauseLine) → AreAllowed p g [] lines → AllByRecursion (IsGroundLine p g) lines
      → (assigned : Assignment) × IsAssignment p.signature st.system true assigned
      × AllByRecursion (λ l. (c : Clause) → conclusion p g l ≡ Some c
      → clause_holds (is_true_at p.signature st.system true assigned st.literals) c ≡ true) lines
  clauses_true lines o i = (assign lines, assigns lines, all_true lines [] lines refl tt i o tt)

  pub no_ground_proof : (proof : Proof) → IsGroundProof p g proof → ⊥
  no_ground_proof proof i = no_empty proof.lines (all_true proof.lines [] proof.lines refl tt i.lines i.derives.allowed tt) i.derives.empty
