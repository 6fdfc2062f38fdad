-- What is put for a variable that doesn't occur plays no part: of the terms put in a formula that stands, those that the system doesn't name give way to fresh constants.
use Rattle.std.specs.Prelude.{ℕ, ◌-◌, Bool, true, false, cond, not, ◌&&◌, nat_lt, List, [], ◌∷◌, ◌++◌, ◌≡◌, map, length, reverse, slice_get, Option, Some, None}
use Rattle.std.specs.List.{AllByRecursion}
use Rattle.std.specs.Option.{option_map}
use Rattle.std.proofs.lemmas.Bool.Decides.{nat_tests}
use Rattle.std.proofs.lemmas.Option.{slice_get-map, slice_get_within}
use Rattle.std.proofs.lemmas.List.{length-map}
use mathlib.Core.Path.{refl, sym, ap, ◌∙◌, subst}
use native.Mathlib.Omega.{arith}
use Rattle.ae_rules.specs.Clauses.{literal}
use Rattle.ae_core.specs.Inner.Induction.{by_terms, by_formulas}
use Rattle.ae_core.specs.Sorts.{sort_of, is_closed_sort}
use Rattle.ae_base.specs.Options.{all_known, only, or_else, when, ◌>>=◌}
use Rattle.ae_core.specs.Putting.{put_terms, put_formula_in}
use Rattle.ae_rules.proofs.ClauseLaws.{literal_true, literal_false, literal_eq, literal_lt, literal_le, literal_pred, literal_not, literal_and, literal_or}
use Rattle.ae_rules.proofs.ClauseLaws.{literal_xor, literal_iff, literal_all, literal_ex}
use Rattle.ae_core.proofs.PuttingLaws.{put_bound, put_num, put_fresh, put_apply, put_true, put_false, put_eq, put_pred, put_not, put_and, put_or, put_xor, put_iff}
use Rattle.ae_core.proofs.Recursion.{fold_not, fold_and, fold_or, fold_xor, fold_iff}
use Rattle.ae_core.proofs.SortLaws.{sort_in_fresh}
use Rattle.ae_core.specs.declared.terms.Sort.{Sort}
use Rattle.ae_core.specs.declared.terms.Head.{Head}
use Rattle.ae_core.specs.declared.terms.Head.TheVariants as head
use Rattle.ae_core.specs.declared.terms.Term.{Term, Bound, Fresh, Apply}
use Rattle.ae_core.specs.declared.formulas.Formula.{Formula, Eq, Pred, Not, And, Or, Xor, Iff}
use Rattle.ae_core.specs.declared.formulas.Lit.{Lit}
use Rattle.ae_core.specs.declared.problems.Signature.{Signature}
use Rattle.ae_journal.specs.Values.{Val, meaning}
use Rattle.ae_journal.specs.Inner.Numbering.{numbering}
use Rattle.ae_journal.specs.Systems.{IsCompleted, IsNamed}
use Rattle.ae_journal.specs.Evaluation.{value_of}
use Rattle.ae_journal.specs.Evaluate.{reduced_by}
use Rattle.ae_journal.specs.Ground.{is_simple}
use Rattle.ae_journal.specs.States.{outside, outside_step}
use Rattle.ae_evaluation.proofs.Decisions.{both_all}
use Rattle.ae_evaluation.proofs.Literals.{outside-Eq, outside-Pred, simple-Not, simple-And, simple-Or, simple-Xor, simple-Iff, lt_not_simple, le_not_simple, all_not_simple, ex_not_simple}
use Rattle.ae_evaluation.proofs.Names.{value_by_term}
use Rattle.ae_journal.specs.declared.systems.System.{System}
use Rattle.ae_base.proofs.ListFacts.{map_reverse, value_at as at_place}
use Rattle.ae_base.proofs.Options.{bind_some}
use Rattle.std.proofs.lemmas.Bool.{and_parts}

-- ---- the terms outside quantified parts
outside-Not : (a : Formula) → outside (Not a) ≡ outside a
unfolding outside
outside-Not a = fold_not (List Term) (Unit {0}) outside_step (λ q. tt) a

outside-And : (a b : Formula) → outside (And a b) ≡ outside a ++ outside b
unfolding outside
outside-And a b = fold_and (List Term) (Unit {0}) outside_step (λ q. tt) a b

outside-Or : (a b : Formula) → outside (Or a b) ≡ outside a ++ outside b
unfolding outside
outside-Or a b = fold_or (List Term) (Unit {0}) outside_step (λ q. tt) a b

outside-Xor : (a b : Formula) → outside (Xor a b) ≡ outside a ++ outside b
unfolding outside
outside-Xor a b = fold_xor (List Term) (Unit {0}) outside_step (λ q. tt) a b

outside-Iff : (a b : Formula) → outside (Iff a b) ≡ outside a ++ outside b
unfolding outside
outside-Iff a b = fold_iff (List Term) (Unit {0}) outside_step (λ q. tt) a b

-- those of a literal are those of the formula that it is about
pub outside_literal : (f : Formula) (s : Bool) → outside (literal s f).formula ≡ outside f
outside_literal =
    by_formulas (λ f. (s : Bool) → outside (literal s f).formula ≡ outside f) (λ q. Unit {0})
    (λ s. of (literal_true s)) (λ s. of (literal_false s)) (λ a b s. of (literal_eq s a b)) (λ a b s. of (literal_lt s a b))
    (λ a b s. of (literal_le s a b))
    (λ p ss us s. of (literal_pred s p ss us)) (λ a h s. of (literal_not s a) ∙ h (not s) ∙ sym (outside-Not a))
    (λ a b h k s. of (literal_and s a b)) (λ a b h k s. of (literal_or s a b)) (λ a b h k s. of (literal_xor s a b))
    (λ a b h k s. of (literal_iff s a b))
    (λ q h s. of (literal_all s q)) (λ q h s. of (literal_ex s q)) (λ q h. tt)
  where
    of : {l m : Lit} → l ≡ m → outside l.formula ≡ outside m.formula
    of e = ap (λ (l : Lit). outside l.formula) e

module _ (sig : Signature) (y : System) (completed : IsCompleted sig y) where
  -- ---- named terms stay in place
  module _ (ts us : List Term)
      (agree : (i : ℕ) → IsNamed y (put_terms 0 ts (Bound i)) → put_terms 0 ts (Bound i) ≡ put_terms 0 us (Bound i)) where
    abbrev Stays : Term → Type 0
    Stays t = IsNamed y (put_terms 0 ts t) → put_terms 0 ts t ≡ put_terms 0 us t

    stay : (args : List Term) → AllByRecursion Stays args → AllByRecursion (IsNamed y) (map (put_terms 0 ts) args)
        → map (put_terms 0 ts) args ≡ map (put_terms 0 us) args
    stay [] a n = refl
    stay (t ∷ args) a n = λ i. a.0 n.0 i ∷ stay args a.1 n.1 i

    apply_case : (h : Head) (ss : List Sort) (args : List Term) → AllByRecursion Stays args → Stays (Apply h ss args)
    apply_case h ss args a n =
        let m = subst (IsNamed y) (put_apply 0 ts h ss args) n in
        put_apply 0 ts h ss args ∙ ap (Apply h ss) (stay args a (completed.subterms m.0 h ss (map (put_terms 0 ts) args) m.1)) ∙ sym
        (put_apply 0 us h ss args)

    term_stays : (t : Term) → Stays t
    term_stays =
        by_terms Stays agree (λ a b r n. put_num 0 ts a b r ∙ sym (put_num 0 us a b r))
        (λ k s n. put_fresh 0 ts k s ∙ sym (put_fresh 0 us k s)) apply_case

    abbrev FormulaStays : Formula → Type 0
    FormulaStays f =
        is_simple f ≡ true → AllByRecursion (IsNamed y) (outside (put_formula_in 0 ts f)) → put_formula_in 0 ts f ≡ put_formula_in 0 us f

    two_parts : (a b : Formula) → FormulaStays a → FormulaStays b → is_simple a && is_simple b ≡ true
        → AllByRecursion (IsNamed y) (outside (put_formula_in 0 ts a) ++ outside (put_formula_in 0 ts b))
        → (put_formula_in 0 ts a ≡ put_formula_in 0 us a) × (put_formula_in 0 ts b ≡ put_formula_in 0 us b)
    two_parts a b h k i n =
        let s = and_parts (is_simple a) (is_simple b) i in
        let m = both_all (IsNamed y) (outside (put_formula_in 0 ts a)) (outside (put_formula_in 0 ts b)) n in
        (h s.0 m.0, k s.1 m.1)

    named_in : (f g : Formula) (xs : List Term) → f ≡ g → outside g ≡ xs → AllByRecursion (IsNamed y) (outside f)
        → AllByRecursion (IsNamed y) xs
    named_in f g xs e o n = subst (AllByRecursion (IsNamed y)) (ap outside e ∙ o) n

    pub formula_stays : (f : Formula) → FormulaStays f
    formula_stays =
        by_formulas FormulaStays (λ q. Unit {0})
        (λ i n. put_true 0 ts ∙ sym (put_true 0 us)) (λ i n. put_false 0 ts ∙ sym (put_false 0 us))
        (λ a b i n.
        let m = named_in _ _ _ (put_eq 0 ts a b) (outside-Eq (put_terms 0 ts a) (put_terms 0 ts b)) n in
        put_eq 0 ts a b ∙ (λ j. Eq (term_stays a m.0 j) (term_stays b (m.1).0 j)) ∙ sym (put_eq 0 us a b))
        (λ a b i n. absurd (lt_not_simple a b i)) (λ a b i n. absurd (le_not_simple a b i))
        (λ p ss args i n.
        let m = (named_in _ _ _ (put_pred 0 ts p ss args) (outside-Pred p ss (map (put_terms 0 ts) args)) n).0 in
        let all = completed.subterms m.0 (head.Symbol p) ss (map (put_terms 0 ts) args) m.1 in
        put_pred 0 ts p ss args ∙ ap (Pred p ss) (each args all) ∙ sym (put_pred 0 us p ss args))
        (λ a h i n. put_not 0 ts a ∙ ap Not
        (h (sym (simple-Not a) ∙ i) (named_in _ _ _ (put_not 0 ts a) (outside-Not (put_formula_in 0 ts a)) n)) ∙ sym (put_not 0 us a))
        (λ a b h k i n.
        let r = two_parts a b h k (sym (simple-And a b) ∙ i) (named_in _ _ _ (put_and 0 ts a b) (outside-And _ _) n) in
        put_and 0 ts a b ∙ (λ j. And (r.0 j) (r.1 j)) ∙ sym (put_and 0 us a b))
        (λ a b h k i n.
        let r = two_parts a b h k (sym (simple-Or a b) ∙ i) (named_in _ _ _ (put_or 0 ts a b) (outside-Or _ _) n) in
        put_or 0 ts a b ∙ (λ j. Or (r.0 j) (r.1 j)) ∙ sym (put_or 0 us a b))
        (λ a b h k i n.
        let r = two_parts a b h k (sym (simple-Xor a b) ∙ i) (named_in _ _ _ (put_xor 0 ts a b) (outside-Xor _ _) n) in
        put_xor 0 ts a b ∙ (λ j. Xor (r.0 j) (r.1 j)) ∙ sym (put_xor 0 us a b))
        (λ a b h k i n.
        let r = two_parts a b h k (sym (simple-Iff a b) ∙ i) (named_in _ _ _ (put_iff 0 ts a b) (outside-Iff _ _) n) in
        put_iff 0 ts a b ∙ (λ j. Iff (r.0 j) (r.1 j)) ∙ sym (put_iff 0 us a b))
        (λ q h i n. absurd (all_not_simple q i)) (λ q h i n. absurd (ex_not_simple q i)) (λ q h. tt)
      where
        each : (args : List Term) → AllByRecursion (IsNamed y) (map (put_terms 0 ts) args)
            → map (put_terms 0 ts) args ≡ map (put_terms 0 us) args
        each [] n = refl
        each (t ∷ args) n = λ i. term_stays t n.0 i ∷ each args n.1 i

  -- ---- a term that is named, and otherwise a fresh constant of its sort
  abbrev pub own_value : Term → Option Val
  own_value t = value_of sig y numbering (reduced_by y) true t

  constant_for : Term → Term
  constant_for t = or_else (sort_of sig t >>= λ s. only (is_closed_sort sig s) (Some (Fresh 0 s))) t

  pub keep : Term → Term
  keep t = elim (own_value t) [ Some v ↦ t | None ↦ constant_for t ]

  kept_named : (t : Term) → IsNamed y t → keep t ≡ t
  unfolding keep
  kept_named t i =
      let b = slice_get_within y.names i.0 t i.1 in
      let w = at_place y.values i.0 (omega (arith, b, completed.values)) in
      ap (λ o. elim o as (λ _. Term) [ Some v ↦ t | None ↦ constant_for t ])
      (value_by_term sig y numbering (reduced_by y) true completed i.0 t (meaning w.0) i.1 (ap (λ o. o >>= λ w. Some (meaning w)) w.1))

  -- what is kept: a named term, or a constant
  pub keeps : (P : Term → Type 0) (t : Term) (s : Sort) → sort_of sig t ≡ Some s → ((v : Val) → own_value t ≡ Some v → P t)
      → (is_closed_sort sig s ≡ true → P (Fresh 0 s)) → (is_closed_sort sig s ≡ false → P t) → P (keep t)
  unfolding keep constant_for
  keeps P t s e f g h = go (own_value t) refl
    where
      by_test : (b : Bool) → b ≡ is_closed_sort sig s → P (or_else (only b (Some (Fresh 0 s))) t)
      by_test true z = g (sym z)
      by_test false z = h (sym z)

      go : (o : Option Val) → o ≡ own_value t
          → P (elim o as (λ _. Term) [
            | Some v ↦ t
            | None ↦ or_else
                (sort_of sig t >>= λ s. only (is_closed_sort sig s) (Some (Fresh 0 s))) t
          ])
      go (Some v) z = f v (sym z)
      go None z =
          subst P (ap (λ o. or_else (o >>= λ s. only (is_closed_sort sig s) (Some (Fresh 0 s))) t) (sym e))
          (by_test (is_closed_sort sig s) refl)

  kept_sort : (t : Term) (s : Sort) → sort_of sig t ≡ Some s → sort_of sig (keep t) ≡ Some s
  kept_sort t s e =
      keeps (λ u. sort_of sig u ≡ Some s) t s e (λ v z. e) (λ c. sort_in_fresh sig (is_closed_sort sig) [] 0 s ∙ ap (λ b. when b s) c)
      (λ c. e)

  pub kept_sorts : (ts : List Term) (ss : List Sort) → all_known (map (sort_of sig) ts) ≡ Some ss
      → all_known (map (sort_of sig) (map keep ts)) ≡ Some ss
  kept_sorts [] ss e = e
  kept_sorts (t ∷ ts) ss e =
      let b = bind_some (sort_of sig t) (λ x. all_known (map (sort_of sig) ts) >>= λ xs. Some (x ∷ xs)) ss e in
      let d = bind_some (all_known (map (sort_of sig) ts)) (λ xs. Some (b.0 ∷ xs)) ss b.2 in
      (λ i. (kept_sort t b.0 b.1 i) >>= λ x. (kept_sorts ts d.0 d.1 i) >>= λ xs. Some (x ∷ xs)) ∙ d.2

  kept_agree : (ts : List Term) (i : ℕ) → IsNamed y (put_terms 0 ts (Bound i))
      → put_terms 0 ts (Bound i) ≡ put_terms 0 (map keep ts) (Bound i)
  kept_agree ts i n =
      put_bound 0 ts i
      ∙ ap (cond (nat_lt i 0) (Bound i))
      (go (slice_get (reverse ts) (i - 0)) (subst (IsNamed y) (put_bound 0 ts i ∙ ap (λ b. cond b (Bound i) (at ts)) not_below) n))
      ∙ sym moved
    where
      not_below : nat_lt i 0 ≡ false
      not_below = grind (arith, nat_tests)

      at : List Term → Term
      at us = or_else (slice_get (reverse us) (i - 0)) (Bound (i - length us))

      go : (o : Option Term) → IsNamed y (or_else o (Bound (i - length ts)))
          → or_else o (Bound (i - length ts)) ≡ or_else (option_map keep o) (Bound (i - length ts))
      go (Some t) m = sym (kept_named t m)
      go None m = refl

      moved : put_terms 0 (map keep ts) (Bound i) ≡ cond (nat_lt i 0) (Bound i)
          (or_else (option_map keep (slice_get (reverse ts) (i - 0))) (Bound (i - length ts)))
      moved =
          put_bound 0 (map keep ts) i
          ∙
          (λ k. cond (nat_lt i 0) (Bound i)
          (or_else ((ap (λ zs. slice_get zs (i - 0)) (sym (map_reverse keep ts)) ∙ slice_get-map keep (reverse ts) (i - 0)) k)
          (Bound (i - length-map ts keep k))))

  -- the kept terms give the same formula, where what stands in it is named
  pub kept_formula : (ts : List Term) (f : Formula) → is_simple f ≡ true → AllByRecursion (IsNamed y) (outside (put_formula_in 0 ts f))
      → put_formula_in 0 ts f ≡ put_formula_in 0 (map keep ts) f
  kept_formula ts = formula_stays ts (map keep ts) (kept_agree ts)
