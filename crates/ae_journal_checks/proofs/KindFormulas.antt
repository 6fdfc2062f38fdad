-- The formulas of the journal with a line of every kind: what the hypotheses bring, what stands, and what surely stands before the decision.
use Rattle.std.proofs.Common.{◌≡◌, ◌≢◌, ℕ, zero, suc, ◌<◌, nat_lt, nat_eq, List, [], ◌∷◌, length, Bool, true, false, ◌&&◌, ◌||◌, Some, None, refl, sym, ◌∙◌, ap, subst, arith, inl, inr, ◌⊎◌}
use Rattle.std.specs.Prelude.{pos}
use Rattle.std.specs.List.{AllByRecursion, Contains}
use Rattle.std.proofs.lemmas.Option.{same_Some}
use Rattle.std.proofs.lemmas.Bool.Decides.{nat_tests}
use Rattle.ae_base.specs.Options.{or_else, only, when, known, all_known, ◌>>=◌}
use Rattle.ae_base.proofs.Options.{never_some, when_some}
use Rattle.ae_base.proofs.Decided.{decided_of}
use Rattle.ae_core.specs.Decided.{Sort_discrete}
use Rattle.ae_core.specs.Putting.{put_formula, put_terms, instance, instance_term}
use Rattle.ae_core.specs.Sorts.{formula_in, formula_ok, same_known, same_sorts, trigger_ok, applied_ok}
use Rattle.ae_core.proofs.SortLaws.{formula_in_eq, formula_in_all, quant_in_block}
use Rattle.ae_core.proofs.PuttingLaws.{put_eq, instance_bound, instance_num, instance_apply, instance_eq, instance_le, instance_or, instance_all, instance_block}
use Rattle.ae_core.proofs.Recursion.{fold_eq, fold_le}
use Rattle.ae_core.specs.declared.terms.Sort.{Sort, Var}
use Rattle.ae_core.specs.declared.terms.Term.{Term, Bound, Apply, out-Term}
use Rattle.ae_core.specs.declared.terms.Term.TheOpen as layer
use Rattle.ae_core.specs.declared.terms.Term.TheVariants.{outs-Apply}
use Rattle.ae_core.specs.declared.terms.Head.TheVariants as head
use Rattle.ae_core.specs.declared.formulas.Formula.{Formula, Formula-F, True, Eq, Le, Or, All, out-Formula}
use Rattle.ae_core.specs.declared.formulas.Formula.TheOpen as formula_layer
use Rattle.ae_core.specs.declared.formulas.Formula.TheVariants.{outs-True, outs-Eq, outs-Le, outs-Or, outs-All}
use Rattle.ae_core.specs.declared.formulas.Quant.{Quant}
use Rattle.ae_core.specs.declared.formulas.Lit.{Lit}
use Rattle.ae_core.specs.declared.proofs.ClauseLine.TheVariants as clause_line
use Rattle.ae_rules.specs.Clauses.{Clause, literal, opposite, is_true, is_false, yes_of, no_of, row}
use Rattle.ae_rules.specs.declared.rows.TheConstants.{OR_TO_EITHER, TRUE_STANDS}
use Rattle.ae_rules.proofs.ClauseLaws.{literal_true, literal_eq, literal_le, literal_or, literal_all, row_true, row_le, row_or}
use Rattle.ae_rules.specs.Instances.{hypothesis, have_sorts, instance_clause, fresh_clause, block_sorts, count_from, are_numbered}
use Rattle.ae_rules.specs.Derivations.{conclusion}
use Rattle.ae_journal.specs.declared.lines.Line.{Line}
use Rattle.ae_journal.specs.declared.lines.Line.TheVariants as line
use Rattle.ae_journal.specs.States.{outside, outside_step}
use Rattle.ae_journal.specs.Journals.{IsDecided}
use Rattle.ae_journal.specs.Standing.{Setting, IsGiven, IsFormula, IsEntered, MayStand, SurelyStands, parts_by, parts_of}
use Rattle.ae_journal.specs.Standing.IsBrought.{by_hypothesis, by_goal, by_type_instance, by_term_instance}
use Rattle.ae_journal.specs.Standing.IsFormula.{of_clause, of_order, of_choice, of_fresh, of_part}
use Rattle.ae_journal.specs.Standing.IsEntered.{of_formula, of_term}
use Rattle.ae_journal.specs.Standing.IsPossible.{given}
use Rattle.ae_journal.specs.Standing.MayStand.{reached}
use Rattle.ae_journal.specs.Standing.SurelyStands.{by_decision, by_given, by_row}
use Rattle.ae_journal.specs.Legal.{HaveOwnConstants, setting}
use Rattle.ae_journal.proofs.Splits.{contains_one, contains_cases, contains_here, contains_later, all_contained}
use Rattle.ae_journal_checks.specs.EveryKind.{T, signature, a, b, x, u, g, zero_numeral, from_below, from_above, one, other, choice, block, fixed, problem, story}
use Rattle.ae_journal_checks.proofs.KindTerms.{ab, ga, aga, may, put_T, closed_T, a_sort, g_sort, bound_sort, yes_sorts, put_variable}
use Rattle.ae_journal_checks.proofs.BackJournal.{found, Rows, rows, signs, formula_of}
use Rattle.ae_journal_checks.proofs.NoBlocks.{NoBlock, truth, equation, weak_order, either, part, no_sorts, no_fresh, none_below, orders, exhausted}

-- ---- the axioms with their sorts put
instance_zero : instance_term [] zero_numeral ≡ zero_numeral
instance_zero = instance_num [] (pos 0) (pos 1) true

instance_a : instance_term [] a ≡ a
instance_a = instance_apply [] (head.Symbol 0) [] []

instance_b : instance_term [] b ≡ b
instance_b = instance_apply [] (head.Symbol 1) [] []

instance_x : instance_term [] x ≡ x
instance_x = instance_apply [] (head.Symbol 2) [] []

instance_ga : instance_term [] ga ≡ ga
instance_ga = instance_apply [] (head.Symbol 4) (T ∷ []) (a ∷ []) ∙ (λ i. Apply (head.Symbol 4) (put_T [] i ∷ []) (instance_a i ∷ []))

instance_u : (s t : Term) → instance_term [] s ≡ s → instance_term [] t ≡ t → instance_term [] (u s t) ≡ u s t
instance_u s t d e = instance_apply [] (head.Symbol 3) [] (s ∷ t ∷ []) ∙ (λ i. Apply (head.Symbol 3) [] (d i ∷ e i ∷ []))

instance_below : instance [] from_below ≡ from_below
instance_below = instance_le [] zero_numeral x ∙ (λ i. Le (instance_zero i) (instance_x i))

instance_above : instance [] from_above ≡ from_above
instance_above = instance_le [] x zero_numeral ∙ (λ i. Le (instance_x i) (instance_zero i))

instance_one : instance [] one ≡ one
instance_one = instance_eq [] b ga ∙ (λ i. Eq (instance_b i) (instance_ga i))

instance_other : instance [] other ≡ other
instance_other = instance_eq [] ab aga ∙ (λ i. Eq (instance_u a b instance_a instance_b i) (instance_u a ga instance_a instance_ga i))

instance_choice : instance [] choice ≡ choice
instance_choice = instance_or [] one other ∙ (λ i. Or (instance_one i) (instance_other i))

instance_g : instance_term (T ∷ []) (g (Var 0) (Bound 0)) ≡ g T (Bound 0)
instance_g = instance_apply (T ∷ []) (head.Symbol 4) (Var 0 ∷ []) (Bound 0 ∷ []) ∙ (λ i. Apply (head.Symbol 4) (put_variable i ∷ []) (instance_bound (T ∷ []) 0 i ∷ []))

instance_body : instance (T ∷ []) (Eq (g (Var 0) (Bound 0)) (Bound 0)) ≡ Eq (g T (Bound 0)) (Bound 0)
instance_body = instance_eq (T ∷ []) (g (Var 0) (Bound 0)) (Bound 0) ∙ (λ i. Eq (instance_g i) (instance_bound (T ∷ []) 0 i))

instance_fixed : instance (T ∷ []) (fixed (Var 0)) ≡ fixed T
instance_fixed =
    instance_all (T ∷ []) (block (Var 0))
    ∙ ap (λ q. All q) (instance_block (T ∷ []) (block (Var 0)) ∙ (λ i. record { sorts = put_variable i ∷ []; triggers = (instance_g i ∷ []) ∷ []; body = instance_body i }))

-- the hypotheses
pub hypotheses : (k : ℕ) (f : Formula) → hypothesis problem 4 k [] ≡ Some f → (from_below ≡ f) ⊎ ((from_above ≡ f) ⊎ (choice ≡ f))
hypotheses zero f e = inl (sym instance_below ∙ same_Some (instance [] from_below) f e)
hypotheses (suc zero) f e = inr (inl (sym instance_above ∙ same_Some (instance [] from_above) f e))
hypotheses (suc (suc zero)) f e = inr (inr (sym instance_choice ∙ same_Some (instance [] choice) f e))
hypotheses (suc (suc (suc zero))) f e = absurd (never_some f e)
hypotheses (suc (suc (suc (suc k)))) f e = absurd (none_below (nat_lt (suc (suc (suc (suc k)))) 4) _ _ f beyond e)
  where
    beyond : nat_lt (suc (suc (suc (suc k)))) 4 ≡ false
    beyond = grind (arith, nat_tests)

below_is : hypothesis problem 4 0 [] ≡ Some from_below
below_is = ap (λ (f : Formula). Some f) instance_below

above_is : hypothesis problem 4 1 [] ≡ Some from_above
above_is = ap (λ (f : Formula). Some f) instance_above

pub choice_is : hypothesis problem 4 2 [] ≡ Some choice
choice_is = ap (λ (f : Formula). Some f) instance_choice

-- ---- literals
pub below_true : yes_of from_below ≡ is_true from_below
below_true = literal_le true zero_numeral x

pub above_true : yes_of from_above ≡ is_true from_above
above_true = literal_le true x zero_numeral

pub choice_true : yes_of choice ≡ is_true choice
choice_true = literal_or true one other

pub one_true : yes_of one ≡ is_true one
one_true = literal_eq true b ga

pub other_true : yes_of other ≡ is_true other
other_true = literal_eq true ab aga

pub fixed_true : yes_of (fixed T) ≡ is_true (fixed T)
fixed_true = literal_all true (block T)

-- ---- formulas of different kinds differ
abbrev kind_by : Formula-F Formula Quant → ℕ
kind_by (formula_layer.Eq s t) = 0
kind_by (formula_layer.Or f h) = 1
kind_by (formula_layer.Le s t) = 2
kind_by formula_layer.True = 3
kind_by (formula_layer.All q) = 4
kind_by _ = 5

abbrev pub kind : Formula → ℕ
kind f = kind_by (out-Formula f)

pub kind_one : kind one ≡ 0
kind_one = ap kind_by (outs-Eq b ga)

pub kind_other : kind other ≡ 0
kind_other = ap kind_by (outs-Eq ab aga)

pub kind_choice : kind choice ≡ 1
kind_choice = ap kind_by (outs-Or one other)

pub kind_below : kind from_below ≡ 2
kind_below = ap kind_by (outs-Le zero_numeral x)

pub kind_above : kind from_above ≡ 2
kind_above = ap kind_by (outs-Le x zero_numeral)

pub kind_true : kind True ≡ 3
kind_true = ap kind_by outs-True

pub kind_fixed : kind (fixed T) ≡ 4
kind_fixed = ap kind_by (outs-All (block T))

pub differ : {f h : Formula} (m n : ℕ) → kind f ≡ m → kind h ≡ n → m ≢ n → f ≢ h
differ m n p q k e = k (sym p ∙ ap kind e ∙ q)

-- ---- the instances
pub have_sort : have_sorts signature (a ∷ []) (T ∷ []) ≡ true
have_sort = (λ i. or_else (all_known (a_sort i ∷ []) >>= λ os. Some (same_sorts os (T ∷ []))) false) ∙ yes_sorts (T ∷ [])

trigger_sorted : trigger_ok signature may (T ∷ []) (g T (Bound 0)) ≡ true
trigger_sorted = λ i. known (g_sort (T ∷ []) (Bound 0) bound_sort i) || applied_ok signature may (T ∷ []) (out-Term (g T (Bound 0)))

body_sorted : formula_in signature may (T ∷ []) (Eq (g T (Bound 0)) (Bound 0)) ≡ true
body_sorted =
    formula_in_eq signature may (T ∷ []) (g T (Bound 0)) (Bound 0) ∙ (λ i. same_known (g_sort (T ∷ []) (Bound 0) bound_sort i) (bound_sort i))
    ∙ decided_of (Sort_discrete T T) refl

fixed_sorted : formula_ok signature (fixed T) ≡ true
fixed_sorted =
    formula_in_all signature may [] (block T) ∙ quant_in_block signature may [] (block T)
    ∙ (λ i. (closed_T i && true) && ((trigger_sorted i && true) && true) && body_sorted i)

abbrev pub type_clause : Clause
type_clause = yes_of (fixed T) ∷ []

pub type_concludes : conclusion problem 4 (clause_line.Hyp 3 (T ∷ [])) ≡ Some type_clause
type_concludes =
    (λ i. only ((closed_T i && true) && formula_ok signature (instance_fixed i)) (Some (yes_of (instance_fixed i) ∷ [])))
    ∙ ap (λ c. only c (Some type_clause)) fixed_sorted

abbrev pub instance_literal : Lit
instance_literal = yes_of (put_formula (a ∷ []) (Eq (g T (Bound 0)) (Bound 0)))

abbrev pub term_clause : Clause
term_clause = is_false (fixed T) ∷ instance_literal ∷ []

pub term_concludes : conclusion problem 4 (clause_line.Inst (fixed T) (a ∷ [])) ≡ Some term_clause
term_concludes =
    (λ i. only (fixed_sorted i && (known (a_sort i) && true)) (instance_clause signature (fixed T) (a ∷ []) (out-Formula (fixed T))))
    ∙ ap (instance_clause signature (fixed T) (a ∷ [])) (outs-All (block T)) ∙ ap (λ c. when c term_clause) have_sort

-- ---- the rows
abbrev pub either_clause : Clause
either_clause = is_false choice ∷ yes_of one ∷ yes_of other ∷ []

pub either_row : row OR_TO_EITHER choice ≡ Some either_clause
either_row = row_or OR_TO_EITHER one other

pub each : (m : Lit) → Contains either_clause m → (is_false choice ≡ m) ⊎ ((is_true one ≡ m) ⊎ (is_true other ≡ m))
each m i =
    elim (contains_cases (is_false choice) (yes_of one ∷ yes_of other ∷ []) m i) [
      | inl e ↦ inl e
      | inr r ↦ elim (contains_cases (yes_of one) (yes_of other ∷ []) m r) [
        | inl e ↦ inr (inl (sym one_true ∙ e))
        | inr z ↦ inr (inr (sym other_true ∙ contains_one (yes_of other) m z))
      ]
    ]

pub has_one : Contains either_clause (is_true one)
has_one =
    subst (Contains either_clause) one_true
    (contains_later (is_false choice) (yes_of one ∷ yes_of other ∷ []) (yes_of one) (contains_here (yes_of one) (yes_of other ∷ [])))

has_other : Contains either_clause (is_true other)
has_other =
    subst (Contains either_clause) other_true
    (contains_later (is_false choice) (yes_of one ∷ yes_of other ∷ []) (yes_of other)
    (contains_later (yes_of one) (yes_of other ∷ []) (yes_of other) (contains_here (yes_of other) [])))

one_not_other : one ≢ other
one_not_other e =
    let z : formula_layer.Eq b ga ≡ formula_layer.Eq ab aga = sym (outs-Eq b ga) ∙ ap out-Formula e ∙ outs-Eq ab aga in
    b_not_ab cc
  where
    b_not_ab : b ≢ ab
    b_not_ab e =
        let z : layer.Apply (head.Symbol 1) [] [] ≡ layer.Apply (head.Symbol 3) [] (a ∷ b ∷ []) = sym (outs-Apply (head.Symbol 1) [] []) ∙ ap out-Term e ∙ outs-Apply (head.Symbol 3) [] (a ∷ b ∷ []) in cc

-- ---- what surely stands before the decision
pub data Sure : Lit → Type 0 where
  below : Sure (is_true from_below)
  above : Sure (is_true from_above)
  chosen : Sure (is_true choice)
  goal_fails : Sure (is_false True)
  goal_holds : Sure (is_true True)

abbrev Sign : Lit → Type 0
Sign l = ((l.positive ≡ true) × (kind l.formula ≢ 0)) ⊎ ((l.positive ≡ false) × (kind l.formula ≡ 3))

not_zero : (n m : ℕ) → n ≡ suc m → n ≢ 0
not_zero n m e z = omega (arith, e, z)

sign : (l : Lit) → Sure l → Sign l
sign _ below = inl (refl, not_zero _ 1 kind_below)
sign _ above = inl (refl, not_zero _ 1 kind_above)
sign _ chosen = inl (refl, not_zero _ 0 kind_choice)
sign _ goal_fails = inr (refl, kind_true)
sign _ goal_holds = inl (refl, not_zero _ 2 kind_true)

pub not_true : (f : Formula) → kind f ≡ 0 → ¬ Sure (is_true f)
not_true f k s = elim (sign (is_true f) s) [ inl p ↦ p.1 k | inr p ↦ let e : true ≡ false = p.0 in cc ]

pub not_false : (f : Formula) → kind f ≢ 3 → ¬ Sure (is_false f)
not_false f k s = elim (sign (is_false f) s) [ inl p ↦ let e : false ≡ true = p.0 in cc | inr p ↦ k p.1 ]

one_not_false : ¬ Sure (is_false one)
one_not_false = not_false one (λ e. omega (arith, sym kind_one ∙ e))

other_not_false : ¬ Sure (is_false other)
other_not_false = not_false other (λ e. omega (arith, sym kind_other ∙ e))

module _ (l : Lit) where
  abbrev Others : Clause → Type 0
  Others c = (m : Lit) → Contains c m → m ≢ l → Sure (opposite m)

  -- a clause of the choice and a literal of one of its parts has no opposite of the choice
  no_opposite : (h : Formula) → kind h ≡ 0 → no_of h ≡ is_false h → ¬ Contains (is_true choice ∷ no_of h ∷ []) (is_false choice)
  no_opposite h k e i =
      elim (contains_cases (is_true choice) (no_of h ∷ []) (is_false choice) i) [
        | inl p ↦ signs p
        | inr q ↦ differ 0 1 k kind_choice (λ z. omega (arith, z)) (formula_of (sym e ∙ contains_one (no_of h) (is_false choice) q))
      ]

  by_choice : (c : Clause) → Contains c l → Others c → Contains c (is_false choice) → Rows choice one other c → ⊥
  by_choice c i f o (inl e) = no_opposite one kind_one (literal_eq false b ga) (subst (λ (d : Clause). Contains d (is_false choice)) (sym e) o)
  by_choice c i f o (inr (inl e)) = no_opposite other kind_other (literal_eq false ab aga) (subst (λ (d : Clause). Contains d (is_false choice)) (sym e) o)
  by_choice c i f o (inr (inr e)) =
      let w : Others either_clause = subst Others (sym e) f in
      elim (each l (subst (λ (d : Clause). Contains d l) (sym e) i)) [
        | inl q ↦ one_not_false (w (is_true one) has_one (λ z. signs (z ∙ sym q)))
        | inr r ↦ elim r [
          | inl q ↦ other_not_false (w (is_true other) has_other (λ z. one_not_other (formula_of (q ∙ sym z))))
          | inr q ↦ one_not_false (w (is_true one) has_one (λ z. one_not_other (formula_of (z ∙ sym q))))
        ]
      ]

truth_row : (r : ℕ) (c : Clause) → row r True ≡ Some c → is_true True ∷ [] ≡ c
truth_row r c e =
    elim (found (is_true True ∷ []) c None (nat_eq r TRUE_STANDS) (sym (row_true r) ∙ e)) [ inl h ↦ h | inr z ↦ absurd (never_some c z) ]

sure_row : (w l : Lit) (r : ℕ) (c : Clause) → Sure w → row r w.formula ≡ Some c → Contains c (opposite w) → Contains c l → Others l c → Sure l
sure_row _ l r c below e o i f = absurd (never_some c (sym (row_le r zero_numeral x) ∙ e))
sure_row _ l r c above e o i f = absurd (never_some c (sym (row_le r x zero_numeral) ∙ e))
sure_row _ l r c chosen e o i f = absurd (by_choice l c i f o (rows one other r c e))
sure_row _ l r c goal_fails e o i f =
    subst Sure (contains_one (is_true True) l (subst (λ (d : Clause). Contains d l) (sym (truth_row r c e)) i)) goal_holds
sure_row _ l r c goal_holds e o i f =
    absurd (signs (contains_one (is_true True) (is_false True) (subst (λ (d : Clause). Contains d (is_false True)) (sym (truth_row r c e)) o)))

-- ---- lines that bring no clause but those of the two instances
abbrev pub IsOurs : Line → Type 0
IsOurs (line.TypeInstance k ss) = (3 ≡ k) × (T ∷ [] ≡ ss)
IsOurs (line.TermInstance f ts) = (fixed T ≡ f) × (a ∷ [] ≡ ts)
IsOurs _ = Unit {0}

pub type_is : (js : List Line) (k : ℕ) (ss : List Sort) (c : Clause) → AllByRecursion IsOurs js → Contains js (line.TypeInstance k ss)
    → conclusion problem 4 (clause_line.Hyp k ss) ≡ Some c → type_clause ≡ c
type_is js k ss c o i e =
    let p = all_contained IsOurs js (line.TypeInstance k ss) o i in
    same_Some type_clause c (sym type_concludes ∙ (λ i. conclusion problem 4 (clause_line.Hyp (p.0 i) (p.1 i))) ∙ e)

pub term_is : (js : List Line) (f : Formula) (ts : List Term) (c : Clause) → AllByRecursion IsOurs js → Contains js (line.TermInstance f ts)
    → conclusion problem 4 (clause_line.Inst f ts) ≡ Some c → term_clause ≡ c
term_is js f ts c o i e =
    let p = all_contained IsOurs js (line.TermInstance f ts) o i in
    same_Some term_clause c (sym term_concludes ∙ (λ i. conclusion problem 4 (clause_line.Inst (p.0 i) (p.1 i))) ∙ e)

-- ---- each formula has no block, or is the instance of the last axiom
abbrev IsOne : Formula → Type 0
IsOne f = NoBlock f ⊎ (fixed T ≡ f)

of_literal : (l : Lit) (f : Formula) (s : Bool) → ◌≡◌ {A = Lit} (record { positive = s; formula = f }) l → IsOne f → IsOne l.formula
of_literal l f s e o = subst (λ (k : Lit). IsOne k.formula) e o

body_is_one : (ts : List Term) (s : Bool) (l : Lit) → literal s (put_formula ts (Eq (g T (Bound 0)) (Bound 0))) ≡ l → IsOne l.formula
body_is_one ts s l e =
    let p = put_terms 0 ts (g T (Bound 0)) in
    let q = put_terms 0 ts (Bound 0) in
    of_literal l (Eq p q) s
    (sym (ap (literal s) (put_eq 0 ts (g T (Bound 0)) (Bound 0)) ∙ literal_eq s p q) ∙ e) (inl (equation p q))

one_hypothesis : (k : ℕ) (f : Formula) (l : Lit) → hypothesis problem 4 k [] ≡ Some f → yes_of f ≡ l → IsOne l.formula
one_hypothesis k f l e d = elim (hypotheses k f e) [
  | inl h ↦ of_literal l from_below true (sym below_true ∙ ap yes_of h ∙ d) (inl (weak_order zero_numeral x))
  | inr r ↦ elim r [
    | inl h ↦ of_literal l from_above true (sym above_true ∙ ap yes_of h ∙ d) (inl (weak_order x zero_numeral))
    | inr h ↦ of_literal l choice true (sym choice_true ∙ ap yes_of h ∙ d) (inl (either one other (equation b ga) (equation ab aga)))
  ]
]

fixed_parts : (h : Formula) → ¬ Contains (parts_of (fixed T)) h
fixed_parts h i = let c = subst (λ (w : List Formula). Contains w h) (ap parts_by (outs-All (block T))) i in omega (arith, c.1)

one_fresh : (f : Formula) (m : ℕ) (c : Clause) (l : Lit) → IsOne f → fresh_clause f m (out-Formula f) ≡ Some c → Contains c l → IsOne l.formula
one_fresh f m c l (inl n) e i = absurd (no_fresh f m c n e)
one_fresh f m c l (inr d) e i =
    let q : fresh_clause (fixed T) m (out-Formula (fixed T)) ≡ Some c = ap (λ (h : Formula). fresh_clause h m (out-Formula h)) d ∙ e in
    let w =
    when_some (are_numbered m (T ∷ [])) (is_true (fixed T) ∷ no_of (put_formula (count_from m (T ∷ [])) (Eq (g T (Bound 0)) (Bound 0))) ∷ []) c
    (sym (ap (fresh_clause (fixed T) m) (outs-All (block T))) ∙ q) in
    elim (contains_cases (is_true (fixed T)) (no_of (put_formula (count_from m (T ∷ [])) (Eq (g T (Bound 0)) (Bound 0))) ∷ []) l
    (subst (λ (d : Clause). Contains d l) (sym w.1) i)) [
      | inl z ↦ of_literal l (fixed T) true z (inr refl)
      | inr r ↦ body_is_one (count_from m (T ∷ [])) false l (contains_one (no_of (put_formula (count_from m (T ∷ [])) (Eq (g T (Bound 0)) (Bound 0)))) l r)
    ]

-- ---- parts and sides
pub choice_parts : parts_of choice ≡ one ∷ other ∷ []
choice_parts = ap parts_by (outs-Or one other)

pub outside_one : outside one ≡ b ∷ ga ∷ []
unfolding outside
outside_one = fold_eq (List Term) (Unit {0}) outside_step (λ q. tt) b ga

outside_other : outside other ≡ ab ∷ aga ∷ []
unfolding outside
outside_other = fold_eq (List Term) (Unit {0}) outside_step (λ q. tt) ab aga

outside_below : outside from_below ≡ zero_numeral ∷ x ∷ []
unfolding outside
outside_below = fold_le (List Term) (Unit {0}) outside_step (λ q. tt) zero_numeral x

module _ (fresh : Formula → ℕ) where
  abbrev pub S : Setting
  S = setting problem 4 story fresh

  one_only : (js : List Line) (f : Formula) → AllByRecursion IsOurs js → IsFormula S js f → IsOne f
  one_only js _ q (of_clause _ _ l (by_hypothesis k f e) i) = one_hypothesis k f l e (contains_one (yes_of f) l i)
  one_only js _ q (of_clause _ _ l (by_goal f e) i) =
      of_literal l True false (sym (literal_true false) ∙ ap no_of (same_Some True f e) ∙ contains_one (no_of f) l i) (inl truth)
  one_only js _ q (of_clause _ _ l (by_type_instance k ss c h e) i) =
      of_literal l (fixed T) true (sym fixed_true ∙ contains_one (yes_of (fixed T)) l (subst (λ (d : Clause). Contains d l) (sym (type_is js k ss c q h e)) i)) (inr refl)
  one_only js _ q (of_clause _ _ l (by_term_instance f ts c h e) i) =
      elim (contains_cases (is_false (fixed T)) (yes_of (put_formula (a ∷ []) (Eq (g T (Bound 0)) (Bound 0))) ∷ []) l
      (subst (λ (d : Clause). Contains d l) (sym (term_is js f ts c q h e)) i)) [
        | inl z ↦ of_literal l (fixed T) false z (inr refl)
        | inr r ↦ body_is_one (a ∷ []) true l (contains_one (yes_of (put_formula (a ∷ []) (Eq (g T (Bound 0)) (Bound 0)))) l r)
      ]
  one_only js _ q (of_order _ s t c l i j e h) = inl (orders problem s t c l e h)
  one_only js _ q (of_choice _ t c l i e h) = inl (exhausted problem t c l e h)
  one_only js _ q (of_fresh _ f c l i e h) = one_fresh f (fresh f) c l (one_only js f q i) e h
  one_only js _ q (of_part _ f h i j) = elim (one_only js f q i) [
    | inl n ↦ inl (part f h n j)
    | inr d ↦ absurd (fixed_parts h (subst (λ (k : Formula). Contains (parts_of k) h) (sym d) j))
  ]

  no_block_here : {P : Type 0} (f : Formula) (i : ℕ) → NoBlock f → i < length (block_sorts (out-Formula f)) → P
  no_block_here f i n l = let z : length (block_sorts (out-Formula f)) ≡ 0 = ap (λ (w : List Sort). length w) (no_sorts f n) in absurd (omega (arith, l, z))

  pub own_constants : (js : List Line) → AllByRecursion IsOurs js → HaveOwnConstants S js
  own_constants js q f h i j d e m n z = both (one_only js f q d) (one_only js h q e)
    where
      both : IsOne f → IsOne h → f ≡ h
      both (inl o) w = no_block_here f i o m
      both (inr o) (inl w) = no_block_here h j w n
      both (inr o) (inr w) = sym o ∙ w

  -- ---- what surely stands after lines that bring nothing and decide nothing
  abbrev pub BringsNothing : Line → Type 0
  BringsNothing (line.Combine strict f) = Unit {0}
  BringsNothing _ = ⊥

  given_sure : (js : List Line) (c : Clause) (l : Lit) → AllByRecursion BringsNothing js → IsGiven S js c → Contains c l → Sure l
  given_sure js _ l q (inl (by_hypothesis k f e)) i = elim (hypotheses k f e) [
    | inl h ↦ subst Sure (sym below_true ∙ ap yes_of h ∙ contains_one (yes_of f) l i) below
    | inr r ↦ elim r [
      | inl h ↦ subst Sure (sym above_true ∙ ap yes_of h ∙ contains_one (yes_of f) l i) above
      | inr h ↦ subst Sure (sym choice_true ∙ ap yes_of h ∙ contains_one (yes_of f) l i) chosen
    ]
  ]
  given_sure js _ l q (inl (by_goal f e)) i = subst Sure (sym (literal_true false) ∙ ap no_of (same_Some True f e) ∙ contains_one (no_of f) l i) goal_fails
  given_sure js c l q (inl (by_type_instance k ss _ h e)) i = absurd (all_contained BringsNothing js (line.TypeInstance k ss) q h)
  given_sure js c l q (inl (by_term_instance f ts _ h e)) i = absurd (all_contained BringsNothing js (line.TermInstance f ts) q h)
  given_sure js c l q (inr h) i = absurd (all_contained BringsNothing js (line.Learn c) q h)

  pub sure : (js : List Line) → AllByRecursion BringsNothing js → ((l : Lit) → ¬ IsDecided js l) → (l : Lit) → SurelyStands S js l → Sure l
  sure js q n _ (by_decision l h) = absurd (n l h)
  sure js q n _ (by_given c l d h f) = given_sure js c l q d h
  sure js q n _ (by_row w l r c s e o h f) = sure_row w l r c (sure js q n w s) e o h (λ m i d. sure js q n (opposite m) (f m i d))

  -- ---- what stands after any lines
  module _ (js : List Line) where
    given_hypothesis : (k : ℕ) (f : Formula) → hypothesis problem 4 k [] ≡ Some f → yes_of f ≡ is_true f → MayStand S js (is_true f)
    given_hypothesis k f e d =
        reached js (yes_of f ∷ []) (is_true f) (given js (yes_of f ∷ []) (inl (by_hypothesis k f e)))
        (subst (Contains (yes_of f ∷ [])) d (contains_here (yes_of f) [])) (λ m i n. absurd (n (sym (contains_one (yes_of f) m i) ∙ d)))

    pub below_stands : MayStand S js (is_true from_below)
    below_stands = given_hypothesis 0 from_below below_is below_true

    pub above_stands : MayStand S js (is_true from_above)
    above_stands = given_hypothesis 1 from_above above_is above_true

    pub goal_is_false : MayStand S js (is_false True)
    goal_is_false =
        reached js (no_of True ∷ []) (is_false True) (given js (no_of True ∷ []) (inl (by_goal True refl)))
        (subst (Contains (no_of True ∷ [])) (literal_true false) (contains_here (no_of True) []))
        (λ m i n. absurd (n (sym (contains_one (no_of True) m i) ∙ literal_true false)))

    pub truth_is_formula : IsFormula S js True
    truth_is_formula = subst (λ (l : Lit). IsFormula S js l.formula) (literal_true false) (of_clause js (no_of True ∷ []) (no_of True) (by_goal True refl) (contains_here (no_of True) []))

    from_hypothesis : (k : ℕ) (f : Formula) → hypothesis problem 4 k [] ≡ Some f → yes_of f ≡ is_true f → IsFormula S js f
    from_hypothesis k f e d = subst (λ (l : Lit). IsFormula S js l.formula) d (of_clause js (yes_of f ∷ []) (yes_of f) (by_hypothesis k f e) (contains_here (yes_of f) []))

    pub choice_is_formula : IsFormula S js choice
    choice_is_formula = from_hypothesis 2 choice choice_is choice_true

    one_is_formula : IsFormula S js one
    one_is_formula = of_part js choice one choice_is_formula (subst (λ (w : List Formula). Contains w one) (sym choice_parts) (contains_here one (other ∷ [])))

    other_is_formula : IsFormula S js other
    other_is_formula =
        of_part js choice other choice_is_formula
        (subst (λ (w : List Formula). Contains w other) (sym choice_parts) (contains_later one (other ∷ []) other (contains_here other [])))

    side_of : (f : Formula) (t : Term) (ts : List Term) → IsFormula S js f → outside f ≡ ts → Contains ts t → IsEntered S js t
    side_of f t ts i e c = of_formula js f t i (subst (λ (w : List Term). Contains w t) (sym e) c)

    pub b_entered : IsEntered S js b
    b_entered = side_of one b (b ∷ ga ∷ []) one_is_formula outside_one (contains_here b (ga ∷ []))

    pub ga_entered : IsEntered S js ga
    ga_entered = side_of one ga (b ∷ ga ∷ []) one_is_formula outside_one (contains_later b (ga ∷ []) ga (contains_here ga []))

    pub ab_entered : IsEntered S js ab
    ab_entered = side_of other ab (ab ∷ aga ∷ []) other_is_formula outside_other (contains_here ab (aga ∷ []))

    pub aga_entered : IsEntered S js aga
    aga_entered = side_of other aga (ab ∷ aga ∷ []) other_is_formula outside_other (contains_later ab (aga ∷ []) aga (contains_here aga []))

    pub a_entered : IsEntered S js a
    a_entered = of_term js (head.Symbol 3) [] (a ∷ b ∷ []) a ab_entered (contains_here a (b ∷ []))

    pub x_entered : IsEntered S js x
    x_entered =
        side_of from_below x (zero_numeral ∷ x ∷ []) (from_hypothesis 0 from_below below_is below_true) outside_below
        (contains_later zero_numeral (x ∷ []) x (contains_here x []))
