-- In a journal of a goal of the reach no formula but the goal has a quantifier.
use Rattle.std.specs.Prelude.{ℕ, ◌<◌, Bool, true, false, nat_lt, List, [], ◌∷◌, ◌≡◌, map, length, slice_get, Option, Some, None}
use Rattle.std.specs.List.{Contains}
use Rattle.std.proofs.Common.{refl, sym, ap, ◌∙◌, subst, arith, inl, inr}
use Rattle.std.proofs.lemmas.Bool.{ltb-true, eqb-true}
use Rattle.std.proofs.lemmas.Option.{same_Some}
use Rattle.ae_base.specs.Options.{◌>>=◌, only}
use Rattle.ae_base.proofs.Options.{never_some, bind_some, only_some, when_some}
use Rattle.ae_core.specs.Putting.{put_formula, instance}
use Rattle.ae_core.specs.Sorts.{sort_of}
use Rattle.ae_core.specs.declared.terms.Sort.{Sort, out-Sort}
use Rattle.ae_core.specs.declared.terms.Term.{Term, Apply}
use Rattle.ae_core.specs.declared.terms.Head.{Head}
use Rattle.ae_core.specs.declared.formulas.Formula.{Formula, Formula-F, Eq, Lt, All, out-Formula}
use Rattle.ae_core.specs.declared.formulas.Formula.TheOpen as layer
use Rattle.ae_core.specs.declared.formulas.Formula.TheVariants.{outs-Lt, outs-All}
use Rattle.ae_core.specs.declared.formulas.Lit.{Lit}
use Rattle.ae_core.specs.declared.formulas.Quant.{Quant}
use Rattle.ae_core.specs.declared.problems.Problem.{Problem}
use Rattle.ae_core.specs.declared.problems.Item.{Item}
use Rattle.ae_core.specs.declared.problems.Item.TheVariants.{Axiom, Goal}
use Rattle.ae_core.specs.declared.proofs.ClauseLine.TheVariants as clause_line
use Rattle.ae_rules.specs.Clauses.{Clause, literal, yes_of, no_of, is_true, is_false}
use Rattle.ae_rules.specs.Instances.{hypothesis, axiom_with, instance_clause, fresh_clause, have_sorts, are_numbered, count_from, block_sorts, choices_of, exhaustion, trichotomy}
use Rattle.ae_rules.specs.Derivations.{goal_body, clause_of}
use Rattle.ae_journal.specs.Ground.{is_simple}
use Rattle.ae_journal.specs.Standing.{Setting, IsBrought, IsFormula, parts_of, parts_by}
use Rattle.ae_journal.specs.Standing.IsBrought.{by_hypothesis, by_goal, by_type_instance, by_term_instance}
use Rattle.ae_journal.specs.Standing.IsFormula.{of_clause, of_order, of_choice, of_fresh, of_part}
use Rattle.ae_journal.specs.States.{quant_of}
use Rattle.ae_journal.specs.declared.lines.Line.{Line}
use Rattle.ae_journal.specs.declared.lines.Line.TheVariants as line
use Rattle.ae_journal.proofs.RowParts.{literal_part}
use Rattle.ae_journal.proofs.Splits.{contains_one, contains_cases}
use Rattle.ae_reach.specs.Reach.{IsInReach}
use Rattle.ae_reach.proofs.Simple.{simple_put, simple_part, simple_eq, simple_no_quant, no_part}
use Rattle.ae_reach.proofs.Blocks.{instance_quant, fresh_quant, goal_cases}

module _ (p : Problem) (g : ℕ) where
  -- a formula without quantifier and inequality, an inequality, or the goal where it is a block over the former
  pub data IsPlain : Formula → Type 0 where
    simple : {f : Formula} → is_simple f ≡ true → IsPlain f
    order : (s t : Term) → IsPlain (Lt s t)
    the_goal : (q : Quant) → goal_body p g ≡ Some (All q) → is_simple q.body ≡ true → IsPlain (All q)

  -- one that is quantified is the goal
  pub quantified : (f : Formula) → IsPlain f → (q : Quant) → quant_of (out-Formula f) ≡ Some q → (f ≡ All q) × (goal_body p g ≡ Some (All q)) × (is_simple q.body ≡ true)
  quantified f (simple e) q h = absurd (simple_no_quant f e q h)
  quantified f (order s t) q h = never_some q (ap quant_of (sym (outs-Lt s t)) ∙ h)
  quantified f (the_goal r e b) q h =
      let same : r ≡ q = same_Some r q (ap quant_of (sym (outs-All r)) ∙ h) in
      (ap All same, e ∙ ap (λ (x : Quant). Some (All x)) same, ap (λ (x : Quant). is_simple x.body) (sym same) ∙ b)

  pub plain_part : (f h : Formula) → IsPlain f → Contains (parts_of f) h → IsPlain h
  plain_part f h (simple e) i = simple (simple_part f h e i)
  plain_part f h (order s t) i = no_part (Lt s t) h (ap parts_by (outs-Lt s t)) i
  plain_part f h (the_goal q e b) i = no_part (All q) h (ap parts_by (outs-All q)) i

  -- what has a block's sorts is the goal
  pub plain_sorts : (f : Formula) → IsPlain f → (i : ℕ) → i < length (block_sorts (out-Formula f)) → goal_body p g ≡ Some f
  plain_sorts f (the_goal q e b) i lt = e
  plain_sorts f (order s t) i lt = absurd (let z : length (block_sorts (out-Formula (Lt s t))) ≡ 0 = ap (λ (o : Formula-F Formula Quant). length (block_sorts o)) (outs-Lt s t) in omega (arith, lt, z))
  plain_sorts f (simple e) i lt = go (out-Formula f) refl lt
    where
      none : (q : Quant) (o : Formula-F Formula Quant) → out-Formula f ≡ o → quant_of o ≡ Some q → goal_body p g ≡ Some f
      none q o a b = absurd (simple_no_quant f e q (ap quant_of a ∙ b))

      go : (o : Formula-F Formula Quant) → out-Formula f ≡ o → i < length (block_sorts o) → goal_body p g ≡ Some f
      go (layer.All q) a l = none q (layer.All q) a refl
      go (layer.Ex q) a l = none q (layer.Ex q) a refl
      go layer.True a l = absurd (omega (arith, l))
      go layer.False a l = absurd (omega (arith, l))
      go (layer.Eq u v) a l = absurd (omega (arith, l))
      go (layer.Lt u v) a l = absurd (omega (arith, l))
      go (layer.Le u v) a l = absurd (omega (arith, l))
      go (layer.Pred n ss us) a l = absurd (omega (arith, l))
      go (layer.Not u) a l = absurd (omega (arith, l))
      go (layer.And u v) a l = absurd (omega (arith, l))
      go (layer.Or u v) a l = absurd (omega (arith, l))
      go (layer.Xor u v) a l = absurd (omega (arith, l))
      go (layer.Iff u v) a l = absurd (omega (arith, l))

  -- ---- clauses of plain formulas
  abbrev pub ArePlain : Clause → Type 0
  ArePlain c = (l : Lit) → Contains c l → IsPlain l.formula

  one_plain : (l : Lit) → IsPlain l.formula → ArePlain (l ∷ [])
  one_plain l h m i = subst (λ (k : Lit). IsPlain k.formula) (contains_one l m i) h

  more_plain : (l : Lit) (c : Clause) → IsPlain l.formula → ArePlain c → ArePlain (l ∷ c)
  more_plain l c h k m i = elim (contains_cases l c m i) as (λ _. IsPlain m.formula) [ inl e ↦ subst (λ (k : Lit). IsPlain k.formula) e h | inr r ↦ k m r ]

  literal_plain : (sign : Bool) (f : Formula) → IsPlain f → IsPlain (literal sign f).formula
  literal_plain sign f h = literal_part IsPlain plain_part f h sign

  -- what a block's clause brings: the goal, and its body with terms put
  body_plain : (sign : Bool) (ts : List Term) (q : Quant) → is_simple q.body ≡ true → IsPlain (literal sign (put_formula ts q.body)).formula
  body_plain sign ts q b = literal_plain sign (put_formula ts q.body) (simple (simple_put ts q.body 0 ∙ b))

  pub instance_plain : (f : Formula) (ts : List Term) (c : Clause) → IsPlain f → instance_clause p.signature f ts (out-Formula f) ≡ Some c → ArePlain c
  instance_plain f ts c h e =
      let q = instance_quant p.signature f ts c (out-Formula f) e in
      let x = quantified f h q.0 q.1 in
      let is : instance_clause p.signature f ts (layer.All q.0) ≡ Some c = sym (ap (instance_clause p.signature f ts) (ap out-Formula x.0 ∙ outs-All q.0)) ∙ e in
      let w = when_some (have_sorts p.signature ts q.0.sorts) (is_false f ∷ yes_of (put_formula ts q.0.body) ∷ []) c is in
      subst ArePlain w.1 (more_plain (is_false f) (yes_of (put_formula ts q.0.body) ∷ []) h (one_plain (yes_of (put_formula ts q.0.body)) (body_plain true ts q.0 x.2)))

  pub fresh_plain : (f : Formula) (m : ℕ) (c : Clause) → IsPlain f → fresh_clause f m (out-Formula f) ≡ Some c → ArePlain c
  fresh_plain f m c h e =
      let q = fresh_quant f m c (out-Formula f) e in
      let x = quantified f h q.0 q.1 in
      let ts = count_from m q.0.sorts in
      let is : fresh_clause f m (layer.All q.0) ≡ Some c = sym (ap (fresh_clause f m) (ap out-Formula x.0 ∙ outs-All q.0)) ∙ e in
      let w = when_some (are_numbered m q.0.sorts) (is_true f ∷ no_of (put_formula ts q.0.body) ∷ []) c is in
      subst ArePlain w.1 (more_plain (is_true f) (no_of (put_formula ts q.0.body) ∷ []) h (one_plain (no_of (put_formula ts q.0.body)) (body_plain false ts q.0 x.2)))

  -- ---- what enumerations and the order of numbers bring
  orders : (s t : Term) (c : Clause) → trichotomy p.signature s t ≡ Some c → ArePlain c
  orders s t c e =
      let w = when_some _ (is_true (Eq s t) ∷ is_true (Lt s t) ∷ is_true (Lt t s) ∷ []) c e in
      subst ArePlain w.1
      (more_plain (is_true (Eq s t)) (is_true (Lt s t) ∷ is_true (Lt t s) ∷ []) (simple (simple_eq s t))
      (more_plain (is_true (Lt s t)) (is_true (Lt t s) ∷ []) (order s t) (one_plain (is_true (Lt t s)) (order t s))))

  abbrev choice_of : Term → Head → Lit
  choice_of t h = is_true (Eq t (Apply h [] []))

  choices : (t : Term) (hs : List Head) → ArePlain (map (choice_of t) hs)
  choices t [] l i = absurd (let k = i.1 in omega (arith, k))
  choices t (h ∷ hs) l i = more_plain (choice_of t h) (map (choice_of t) hs) (simple (simple_eq t (Apply h [] []))) (choices t hs) l i

  exhausted : (t : Term) (c : Clause) → exhaustion p.signature t ≡ Some c → ArePlain c
  exhausted t c e =
      let s = bind_some (sort_of p.signature t) (λ s. choices_of p.signature (out-Sort s) >>= λ hs. Some (map (choice_of t) hs)) c e in
      let h = bind_some (choices_of p.signature (out-Sort s.0)) (λ hs. Some (map (choice_of t) hs)) c s.2 in
      subst ArePlain (same_Some (map (choice_of t) h.0) c h.2) (choices t h.0)

  module _ (reach : IsInReach p g) where
    -- ---- the problem's own clauses
    goal_plain : (f : Formula) → goal_body p g ≡ Some f → IsPlain f
    goal_plain f e =
        let same : reach.goal ≡ f = same_Some reach.goal f (sym reach.is ∙ e) in
        elim (goal_cases p.signature reach.goal reach.ground) as (λ _. IsPlain f) [
          | inl s ↦ simple (ap is_simple (sym same) ∙ s)
          | inr w ↦ subst IsPlain (sym w.1 ∙ same) (the_goal w.0 (reach.is ∙ ap (λ (x : Formula). Some x) w.1) w.2)
        ]

    -- an axiom before the goal has no type variables, so no sorts are put
    no_sorts : (k : ℕ) (ss : List Sort) (f : Formula) → hypothesis p g k ss ≡ Some f → ss ≡ []
    no_sorts k ss f e =
        let x = bind_some (only (nat_lt k g) (slice_get p.items k)) _ f e in
        let o = only_some (nat_lt k g) (slice_get p.items k) x.0 x.1 in
        by_item x.0 (ltb-true k g o.0) o.1 x.2
      where
        none_long : (xs : List Sort) → length xs ≡ 0 → xs ≡ []
        none_long [] z = refl
        none_long (y ∷ ys) z = absurd (omega (arith, z))

        by_item : (i : Item) → k < g → slice_get p.items k ≡ Some i → ◌≡◌ {A = Option Formula} (elim i [ Axiom n v h ↦ axiom_with v h ss | Goal n v h ↦ None ]) (Some f) → ss ≡ []
        by_item (Axiom n v h) lt at i =
            let w = when_some _ (instance ss h) f i in
            none_long ss (eqb-true (length ss) v w.0 ∙ reach.not_varied k n v h lt at)
        by_item (Goal n v h) lt at i = never_some f i

    hypothesis_plain : (k : ℕ) (ss : List Sort) (f : Formula) → hypothesis p g k ss ≡ Some f → IsPlain f
    hypothesis_plain k ss f e = simple (reach.hypotheses k f (ap (hypothesis p g k) (sym (no_sorts k ss f e)) ∙ e)).simple

    -- ---- the journal's formulas, where those of its instance lines are plain
    module _ (x : Setting) (is_p : x.problem ≡ p) (is_g : x.goal ≡ g) (js : List Line) (instances : (f : Formula) (ts : List Term) → Contains js (line.TermInstance f ts) → IsPlain f) where
      brought_plain : (c : Clause) → IsBrought x js c → ArePlain c
      brought_plain c (by_hypothesis k f e) = one_plain (yes_of f) (literal_plain true f (hypothesis_plain k [] f (sym (λ i. hypothesis (is_p i) (is_g i) k []) ∙ e)))
      brought_plain c (by_goal f e) = one_plain (no_of f) (literal_plain false f (goal_plain f (sym (λ i. goal_body (is_p i) (is_g i)) ∙ e)))
      brought_plain c (by_type_instance k ss d h e) =
          let o = only_some _ (clause_of x.problem x.goal (clause_line.Hyp k ss)) c e in
          let b = bind_some (hypothesis x.problem x.goal k ss) (λ f. Some (yes_of f ∷ [])) c o.1 in
          subst ArePlain (same_Some (yes_of b.0 ∷ []) c b.2) (one_plain (yes_of b.0) (literal_plain true b.0 (hypothesis_plain k ss b.0 (sym (λ i. hypothesis (is_p i) (is_g i) k ss) ∙ b.1))))
      brought_plain c (by_term_instance f ts d h e) =
          let o = only_some _ (clause_of x.problem x.goal (clause_line.Inst f ts)) c e in
          instance_plain f ts c (instances f ts h) (sym (λ i. instance_clause (is_p i).signature f ts (out-Formula f)) ∙ o.1)

      pub formula_plain : (f : Formula) → IsFormula x js f → IsPlain f
      formula_plain _ (of_clause _ c l b i) = brought_plain c b l i
      formula_plain _ (of_order _ s t c l a b e i) = orders s t c (sym (λ j. trichotomy (is_p j).signature s t) ∙ e) l i
      formula_plain _ (of_choice _ t c l a e i) = exhausted t c (sym (λ j. exhaustion (is_p j).signature t) ∙ e) l i
      formula_plain _ (of_fresh _ f c l a e i) = fresh_plain f (x.fresh f) c (formula_plain f a) e l i
      formula_plain _ (of_part _ f h a i) = plain_part f h (formula_plain f a) i
