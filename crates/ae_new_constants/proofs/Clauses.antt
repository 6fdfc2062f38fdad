-- The clauses that lines state: their constants are those of what the lines are given.
use Rattle.std.specs.Prelude.{ℕ, ◌+◌, ◌≤◌, ◌≡◌, Bool, true, false, nat_eq, nat_lt, List, [], ◌∷◌, map, length, slice_get, Option, Some, None}
use Rattle.std.specs.List.{AllByRecursion, Contains}
use Rattle.std.proofs.Common.{refl, sym, subst}
use Rattle.std.proofs.lemmas.Option.{same_Some}
use Rattle.ae_base.specs.Options.{◌>>=◌, only}
use Rattle.ae_base.proofs.AllOf.{all_at}
use Rattle.ae_base.proofs.Options.{never_some, bind_some, only_some, when_some}
use Rattle.ae_core.specs.Constants.{formula_constants}
use Rattle.ae_core.specs.Putting.{put_formula, instance}
use Rattle.ae_core.specs.Signatures.{IsLawfulProblem, IsLawfulItem}
use Rattle.ae_core.specs.Sorts.{sort_of}
use Rattle.ae_core.specs.declared.formulas.Formula.{Formula, Formula-F, Eq, Lt, out-Formula}
use Rattle.ae_core.specs.declared.formulas.Formula.TheOpen as layer
use Rattle.ae_core.specs.declared.formulas.Lit.{Lit}
use Rattle.ae_core.specs.declared.formulas.Quant.{Quant}
use Rattle.ae_core.specs.declared.problems.Item.{Item}
use Rattle.ae_core.specs.declared.problems.Item.TheVariants.{Axiom, Goal as GoalItem}
use Rattle.ae_core.specs.declared.problems.Problem.{Problem}
use Rattle.ae_core.specs.declared.problems.Signature.{Signature}
use Rattle.ae_core.specs.declared.terms.Head.{Head}
use Rattle.ae_core.specs.declared.terms.Sort.{Sort, out-Sort}
use Rattle.ae_core.specs.declared.terms.Term.{Term, Apply}
use Rattle.ae_journal.proofs.RowParts.{literal_part, row_part}
use Rattle.ae_journal.proofs.Splits.{contains_here, contains_later}
use Rattle.ae_rules.specs.Clauses.{Clause, literal, opposite, yes_of, no_of, is_true, is_false, row}
use Rattle.ae_rules.specs.Derivations.{goal_body}
use Rattle.ae_rules.specs.Instances.{hypothesis, axiom_with, have_sorts, instance_clause, fresh_clause, are_numbered, count_from, block_sorts, choices_of, exhaustion, trichotomy}
use Rattle.ae_new_constants.specs.Below.{AreBelow, IsTermBelow, IsFormulaBelow, IsClauseBelow}
use Rattle.ae_new_constants.proofs.Lists.{none_below, right_below}
use Rattle.ae_new_constants.proofs.Terms.{applied, row_below}
use Rattle.ae_new_constants.proofs.Formulas.{by_block, to_layer, part_below, equation, inequality}
use Rattle.ae_new_constants.proofs.Put.{formula_put, formula_sorts_put}

module _ (n : ℕ) where
  pub literal_below : (sign : Bool) (f : Formula) → IsFormulaBelow n f → IsFormulaBelow n (literal sign f).formula
  literal_below sign f a = literal_part (IsFormulaBelow n) (part_below n) f a sign

  each_literal : (c : Clause) → ((l : Lit) → Contains c l → IsFormulaBelow n l.formula) → IsClauseBelow n c
  each_literal [] h = tt
  each_literal (l ∷ c) h = (h l (contains_here l c), each_literal c (λ m i. h m (contains_later l c m i)))

  pub row_clause : (r : ℕ) (f : Formula) (c : Clause) → IsFormulaBelow n f → row r f ≡ Some c → IsClauseBelow n c
  row_clause r f c a e = each_literal c (row_part (IsFormulaBelow n) (part_below n) f a r c e)

  pub opposites : (c : Clause) → IsClauseBelow n c → IsClauseBelow n (map opposite c)
  opposites [] a = tt
  opposites (l ∷ c) a = (a.0, opposites c a.1)

  -- ---- blocks
  body_below : (f : Formula) (q : Quant) → IsFormulaBelow n f → (out-Formula f ≡ layer.All q) → IsFormulaBelow n q.body
  body_below f q a e = right_below n _ (formula_constants q.body) (subst (AreBelow n) (by_block q) (to_layer n f (layer.All q) e a))

  body_of_ex : (f : Formula) (q : Quant) → IsFormulaBelow n f → (out-Formula f ≡ layer.Ex q) → IsFormulaBelow n q.body
  body_of_ex f q a e = right_below n _ (formula_constants q.body) (subst (AreBelow n) (by_block q) (to_layer n f (layer.Ex q) e a))

  with_body : (f : Formula) (sign other : Bool) (ts : List Term) (q : Quant) → IsFormulaBelow n f → AllByRecursion (IsTermBelow n) ts → IsFormulaBelow n q.body
      → IsClauseBelow n (record { positive = sign; formula = f } ∷ literal other (put_formula ts q.body) ∷ [])
  with_body f sign other ts q a all b = (a, (literal_below other (put_formula ts q.body) (formula_put n ts all q.body b), tt))

  pub instance_below : (sig : Signature) (f : Formula) (ts : List Term) (c : Clause) → IsFormulaBelow n f → AllByRecursion (IsTermBelow n) ts → instance_clause sig f ts (out-Formula f) ≡ Some c → IsClauseBelow n c
  instance_below sig f ts c a all e = from (out-Formula f) refl e
    where
      from : (o : Formula-F Formula Quant) → out-Formula f ≡ o → instance_clause sig f ts o ≡ Some c → IsClauseBelow n c
      from (layer.All q) o e =
          let w = when_some (have_sorts sig ts q.sorts) (is_false f ∷ yes_of (put_formula ts q.body) ∷ []) c e in
          subst (IsClauseBelow n) w.1 (with_body f false true ts q a all (body_below f q a o))
      from (layer.Ex q) o e =
          let w = when_some (have_sorts sig ts q.sorts) (is_true f ∷ no_of (put_formula ts q.body) ∷ []) c e in
          subst (IsClauseBelow n) w.1 (with_body f true false ts q a all (body_of_ex f q a o))
      from layer.True o e = never_some c e
      from layer.False o e = never_some c e
      from (layer.Eq x y) o e = never_some c e
      from (layer.Lt x y) o e = never_some c e
      from (layer.Le x y) o e = never_some c e
      from (layer.Pred p ss us) o e = never_some c e
      from (layer.Not x) o e = never_some c e
      from (layer.And x y) o e = never_some c e
      from (layer.Or x y) o e = never_some c e
      from (layer.Xor x y) o e = never_some c e
      from (layer.Iff x y) o e = never_some c e

  pub fresh_below : (f : Formula) (m : ℕ) (c : Clause) → IsFormulaBelow n f → m + length (block_sorts (out-Formula f)) ≤ n → fresh_clause f m (out-Formula f) ≡ Some c → IsClauseBelow n c
  fresh_below f m c a le e = from (out-Formula f) refl le e
    where
      from : (o : Formula-F Formula Quant) → out-Formula f ≡ o → m + length (block_sorts o) ≤ n → fresh_clause f m o ≡ Some c → IsClauseBelow n c
      from (layer.All q) o l e =
          let w = when_some (are_numbered m q.sorts) (is_true f ∷ no_of (put_formula (count_from m q.sorts) q.body) ∷ []) c e in
          subst (IsClauseBelow n) w.1 (with_body f true false (count_from m q.sorts) q a (row_below n m q.sorts l) (body_below f q a o))
      from (layer.Ex q) o l e =
          let w = when_some (are_numbered m q.sorts) (is_false f ∷ yes_of (put_formula (count_from m q.sorts) q.body) ∷ []) c e in
          subst (IsClauseBelow n) w.1 (with_body f false true (count_from m q.sorts) q a (row_below n m q.sorts l) (body_of_ex f q a o))
      from layer.True o l e = never_some c e
      from layer.False o l e = never_some c e
      from (layer.Eq x y) o l e = never_some c e
      from (layer.Lt x y) o l e = never_some c e
      from (layer.Le x y) o l e = never_some c e
      from (layer.Pred p ss us) o l e = never_some c e
      from (layer.Not x) o l e = never_some c e
      from (layer.And x y) o l e = never_some c e
      from (layer.Or x y) o l e = never_some c e
      from (layer.Xor x y) o l e = never_some c e
      from (layer.Iff x y) o l e = never_some c e

  -- ---- enumerations and the order of numbers
  abbrev choice_of : Term → Head → Lit
  choice_of t h = is_true (Eq t (Apply h [] []))

  choices : (t : Term) (hs : List Head) → IsTermBelow n t → IsClauseBelow n (map (choice_of t) hs)
  choices t [] a = tt
  choices t (h ∷ hs) a = (equation n t (Apply h [] []) a (applied n h [] [] tt), choices t hs a)

  pub choice_below : (sig : Signature) (t : Term) (c : Clause) → IsTermBelow n t → exhaustion sig t ≡ Some c → IsClauseBelow n c
  choice_below sig t c a e =
      let s = bind_some (sort_of sig t) (λ s. choices_of sig (out-Sort s) >>= λ hs. Some (map (choice_of t) hs)) c e in
      let h = bind_some (choices_of sig (out-Sort s.0)) (λ hs. Some (map (choice_of t) hs)) c s.2 in
      subst (IsClauseBelow n) (same_Some (map (choice_of t) h.0) c h.2) (choices t h.0 a)

  pub order_below : (sig : Signature) (s t : Term) (c : Clause) → IsTermBelow n s → IsTermBelow n t → trichotomy sig s t ≡ Some c → IsClauseBelow n c
  order_below sig s t c a b e =
      let w = when_some _ (is_true (Eq s t) ∷ is_true (Lt s t) ∷ is_true (Lt t s) ∷ []) c e in
      subst (IsClauseBelow n) w.1 (equation n s t a b, (inequality n s t a b, (inequality n t s b a, tt)))

  -- ---- what a lawful problem brings
  no_constants : (f : Formula) → formula_constants f ≡ [] → IsFormulaBelow n f
  no_constants f e = subst (AreBelow n) (sym e) (none_below n)

  module _ (p : Problem) (g : ℕ) (lawful : IsLawfulProblem p) where
    pub hypothesis_below : (k : ℕ) (ss : List Sort) (f : Formula) → hypothesis p g k ss ≡ Some f → IsFormulaBelow n f
    hypothesis_below k ss f e =
        let x = bind_some (only (nat_lt k g) (slice_get p.items k)) _ f e in
        let o = only_some (nat_lt k g) (slice_get p.items k) x.0 x.1 in
        by_item x.0 (all_at (IsLawfulItem p.signature) p.items k x.0 lawful.items o.1) x.2
      where
        by_item : (i : Item) → IsLawfulItem p.signature i → ◌≡◌ {A = Option Formula} (elim i [ Axiom name v h ↦ axiom_with v h ss | GoalItem name v h ↦ None ]) (Some f) → IsFormulaBelow n f
        by_item (Axiom name v h) l i =
            let w = when_some (nat_eq (length ss) v) (instance ss h) f i in
            subst (IsFormulaBelow n) w.1 (formula_sorts_put n ss h (no_constants h l.2))
        by_item (GoalItem name v h) l i = never_some f i

    pub goal_below : (f : Formula) → goal_body p g ≡ Some f → IsFormulaBelow n f
    goal_below f e =
        let x = bind_some (slice_get p.items g) _ f e in
        by_item x.0 (all_at (IsLawfulItem p.signature) p.items g x.0 lawful.items x.1) x.2
      where
        by_item : (i : Item) → IsLawfulItem p.signature i → ◌≡◌ {A = Option Formula} (elim i [ Axiom name v h ↦ None | GoalItem name v h ↦ Some h ]) (Some f) → IsFormulaBelow n f
        by_item (Axiom name v h) l i = never_some f i
        by_item (GoalItem name v h) l i = subst (IsFormulaBelow n) (same_Some h f i) (no_constants h l.2)
