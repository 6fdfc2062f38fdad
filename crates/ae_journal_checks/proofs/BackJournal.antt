-- A decision, an instance and going back behind the decision are legal lines.
use Rattle.std.proofs.Common.{◌≡◌, ◌≢◌, ℕ, ◌<◌, List, [], ◌∷◌, ◌++◌, Bool, true, false, nat_eq, cond, Option, Some, None, refl, sym, ◌∙◌, ap, subst, arith, inl, inr, ◌⊎◌}
use Rattle.std.specs.List.{Contains}
use Rattle.std.proofs.lemmas.Option.{same_Some}
use Rattle.ae_base.proofs.Options.{never_some}
use Rattle.ae_core.proofs.Recursion.{fold_eq}
use Rattle.ae_core.specs.declared.terms.Term.{Term, Bound, out-Term}
use Rattle.ae_core.specs.declared.terms.Term.TheOpen as layer
use Rattle.ae_core.specs.declared.terms.Term.TheVariants.{outs-Apply}
use Rattle.ae_core.specs.declared.terms.Head.TheVariants as head
use Rattle.ae_core.specs.declared.formulas.Formula.{Formula, Formula-F, Not, Or, out-Formula}
use Rattle.ae_core.specs.declared.formulas.Formula.TheOpen as formula_layer
use Rattle.ae_core.specs.declared.formulas.Formula.TheVariants.{outs-Eq, outs-Or, outs-Ex, outs-Not}
use Rattle.ae_core.specs.declared.formulas.Quant.{Quant}
use Rattle.ae_core.specs.declared.formulas.Lit.{Lit}
use Rattle.ae_rules.specs.Clauses.{Clause, opposite, is_true, is_false, yes_of, no_of, row, row_at}
use Rattle.ae_rules.specs.declared.rows.TheConstants.{OR_FROM_LEFT, OR_FROM_RIGHT, OR_TO_EITHER}
use Rattle.ae_rules.proofs.ClauseLaws.{literal_not, literal_eq, literal_or, literal_ex, row_or, row_ex}
use Rattle.ae_rules.specs.Matches.{Equals}
use Rattle.ae_rules.specs.Matches.Equals.{variable, application}
use Rattle.ae_rules.specs.Matches.EqualEach.{none, more}
use Rattle.ae_rules.specs.Instances.{have_sorts}
use Rattle.ae_journal.specs.declared.lines.Line.{Line}
use Rattle.ae_journal.specs.declared.lines.Line.TheVariants as line
use Rattle.ae_journal.specs.Journals.{MayGoBack}
use Rattle.ae_journal.specs.Journals.HasLine.{here, later}
use Rattle.ae_journal.specs.States.{outside, outside_step, of_literal, literal_pattern}
use Rattle.ae_journal.specs.Standing.{Setting, IsBrought, IsGiven, IsFormula, MayStand, SurelyStands, parts_by, parts_of}
use Rattle.ae_journal.specs.Standing.IsBrought.{by_hypothesis, by_goal, by_type_instance, by_term_instance}
use Rattle.ae_journal.specs.Standing.IsFormula.{of_clause, of_part}
use Rattle.ae_journal.specs.Standing.IsPossible.{given, row_of}
use Rattle.ae_journal.specs.Standing.MayStand.{reached}
use Rattle.ae_journal.specs.Standing.SurelyStands.{by_decision, by_given, by_row}
use Rattle.ae_journal.specs.SolverLines.{MayDecide}
use Rattle.ae_journal.specs.InstanceLines.{FormulaFrom, TermFrom, AreEqualNow, IsMatchAt, HasGeneration, ActsAsUniversal, MayInstantiate}
use Rattle.ae_journal.specs.InstanceLines.FormulaFrom.{of_clause as from_clause, of_part as from_part}
use Rattle.ae_journal.specs.InstanceLines.TermFrom.{stands}
use Rattle.ae_journal.specs.InstanceLines.IsInstance.{of_terms}
use Rattle.ae_journal.specs.Legal.{setting}
use Rattle.ae_journal.proofs.Splits.{contains_one, contains_cases, contains_here, contains_later}
use Rattle.ae_journal_checks.specs.Examples.{function_signature, constant, f_of, fixed, block, some_fixed, first_choice, second_choice, choices, back_goal, back_problem, back_story, instance_line}
use Rattle.ae_journal_checks.specs.Laws.{GoingBackIsLegal}
use Rattle.ae_journal_checks.proofs.NoBlocks.{no_hypothesis, nothing}
use Rattle.ae_journal_checks.proofs.InstanceLine.{a, clause, concludes, universal, pattern_is, no_arithmetic, some_literal, have_sort, put_T}

-- ---- formulas of different kinds differ
abbrev kind_by : Formula-F Formula Quant → ℕ
kind_by (formula_layer.Eq s t) = 0
kind_by (formula_layer.Or f h) = 1
kind_by (formula_layer.Ex q) = 2
kind_by _ = 3

abbrev kind : Formula → ℕ
kind f = kind_by (out-Formula f)

kind_first : kind first_choice ≡ 0
unfolding first_choice fixed
kind_first = ap kind_by (outs-Eq (f_of a) a)

kind_second : kind second_choice ≡ 0
unfolding second_choice
kind_second = ap kind_by (outs-Eq a (f_of a))

kind_choices : kind choices ≡ 1
unfolding choices
kind_choices = ap kind_by (outs-Or first_choice second_choice)

kind_goal : kind back_goal ≡ 1
unfolding back_goal
kind_goal = ap kind_by (outs-Or some_fixed (Not choices))

kind_some : kind some_fixed ≡ 2
unfolding some_fixed
kind_some = ap kind_by (outs-Ex block)

differ : {f h : Formula} (m n : ℕ) → kind f ≡ m → kind h ≡ n → m ≢ n → f ≢ h
differ m n p q k e = k (sym p ∙ ap kind e ∙ q)

goal_not_choices : back_goal ≢ choices
unfolding back_goal choices
goal_not_choices e =
    let z : formula_layer.Or some_fixed (Not choices) ≡ formula_layer.Or first_choice second_choice = sym (outs-Or some_fixed (Not choices)) ∙ ap out-Formula e ∙ outs-Or first_choice second_choice in
    let w : some_fixed ≡ first_choice = cc in
    differ 2 0 kind_some kind_first (λ e. omega (arith, e)) w

f_is_not_a : f_of a ≢ a
unfolding f_of constant
f_is_not_a e =
    let z : layer.Apply (head.Symbol 1) [] (a ∷ []) ≡ layer.Apply (head.Symbol 0) [] [] = sym (outs-Apply (head.Symbol 1) [] (a ∷ [])) ∙ ap out-Term e ∙ outs-Apply (head.Symbol 0) [] [] in cc

first_not_second : first_choice ≢ second_choice
unfolding first_choice second_choice fixed
first_not_second e =
    let z : formula_layer.Eq (f_of a) a ≡ formula_layer.Eq a (f_of a) = sym (outs-Eq (f_of a) a) ∙ ap out-Formula e ∙ outs-Eq a (f_of a) in
    f_is_not_a cc

pub signs : {f h : Formula} → is_true f ≡ is_false h → ⊥
signs e = let z : true ≡ false = ap (λ (l : Lit). l.positive) e in cc

pub formula_of : {s t : Bool} {f h : Formula} → ◌≡◌ {A = Lit} (record { positive = s; formula = f }) (record { positive = t; formula = h }) → f ≡ h
formula_of e = ap (λ (l : Lit). l.formula) e

-- ---- literals
goal_literal : no_of back_goal ≡ is_false back_goal
unfolding back_goal
goal_literal = literal_or false some_fixed (Not choices)

choices_literal : no_of (Not choices) ≡ is_true choices
unfolding choices
choices_literal = literal_not false choices ∙ literal_or true first_choice second_choice

not_choices : yes_of (Not choices) ≡ is_false choices
unfolding choices
not_choices = literal_not true choices ∙ literal_or false first_choice second_choice

some_true : yes_of some_fixed ≡ is_true some_fixed
unfolding some_fixed
some_true = literal_ex true block

first_true : yes_of first_choice ≡ is_true first_choice
unfolding first_choice fixed
first_true = literal_eq true (f_of a) a

first_false : no_of first_choice ≡ is_false first_choice
unfolding first_choice fixed
first_false = literal_eq false (f_of a) a

second_true : yes_of second_choice ≡ is_true second_choice
unfolding second_choice
second_true = literal_eq true a (f_of a)

second_false : no_of second_choice ≡ is_false second_choice
unfolding second_choice
second_false = literal_eq false a (f_of a)

-- ---- the rows of a disjunction
pub found : (d c : Clause) (rest : Option Clause) (b : Bool) → cond b (Some d) rest ≡ Some c → (d ≡ c) ⊎ (rest ≡ Some c)
found d c rest true e = inl (same_Some d c e)
found d c rest false e = inr e

abbrev pub Rows : Formula → Formula → Formula → Clause → Type 0
Rows f p q c = (is_true f ∷ no_of p ∷ [] ≡ c) ⊎ ((is_true f ∷ no_of q ∷ [] ≡ c) ⊎ (is_false f ∷ yes_of p ∷ yes_of q ∷ [] ≡ c))

pub rows : (p q : Formula) (r : ℕ) (c : Clause) → row r (Or p q) ≡ Some c → Rows (Or p q) p q c
rows p q r c e =
    let f = Or p q in
    elim (found (is_true f ∷ no_of p ∷ []) c (row_at r ((OR_FROM_RIGHT, is_true f ∷ no_of q ∷ []) ∷ (OR_TO_EITHER, is_false f ∷ yes_of p ∷ yes_of q ∷ []) ∷ [])) (nat_eq r OR_FROM_LEFT) (sym (row_or r p q) ∙ e)) [
      | inl h ↦ inl h
      | inr k ↦ elim (found (is_true f ∷ no_of q ∷ []) c (row_at r ((OR_TO_EITHER, is_false f ∷ yes_of p ∷ yes_of q ∷ []) ∷ [])) (nat_eq r OR_FROM_RIGHT) k) [
        | inl h ↦ inr (inl h)
        | inr z ↦ elim (found (is_false f ∷ yes_of p ∷ yes_of q ∷ []) c None (nat_eq r OR_TO_EITHER) z) [ inl h ↦ inr (inr h) | inr y ↦ never_some c y ]
      ]
    ]

goal_rows : (r : ℕ) (c : Clause) → row r back_goal ≡ Some c → Rows back_goal some_fixed (Not choices) c
unfolding back_goal
goal_rows r c e = rows some_fixed (Not choices) r c e

choices_rows : (r : ℕ) (c : Clause) → row r choices ≡ Some c → Rows choices first_choice second_choice c
unfolding choices
choices_rows r c e = rows first_choice second_choice r c e

some_has_none : (r : ℕ) (c : Clause) → row r some_fixed ≡ Some c → ⊥
unfolding some_fixed
some_has_none r c e = never_some c (sym (row_ex r block) ∙ e)

-- ---- what surely stands before the first line
abbrev Sure : Lit → Type 0
Sure l = (is_false back_goal ≡ l) ⊎ ((is_false some_fixed ≡ l) ⊎ (is_true choices ≡ l))

not_true : (f : Formula) → choices ≢ f → ¬ Sure (is_true f)
not_true f n (inl e) = signs (sym e)
not_true f n (inr (inl e)) = signs (sym e)
not_true f n (inr (inr e)) = n (formula_of e)

not_false : (f : Formula) → back_goal ≢ f → some_fixed ≢ f → ¬ Sure (is_false f)
not_false f n k (inl e) = n (formula_of e)
not_false f n k (inr (inl e)) = k (formula_of e)
not_false f n k (inr (inr e)) = signs e

first_not_false : ¬ Sure (is_false first_choice)
first_not_false = not_false first_choice (differ 1 0 kind_goal kind_first (λ e. omega (arith, e))) (differ 2 0 kind_some kind_first (λ e. omega (arith, e)))

second_not_false : ¬ Sure (is_false second_choice)
second_not_false = not_false second_choice (differ 1 0 kind_goal kind_second (λ e. omega (arith, e))) (differ 2 0 kind_some kind_second (λ e. omega (arith, e)))

first_not_true : ¬ Sure (is_true first_choice)
first_not_true = not_true first_choice (differ 1 0 kind_choices kind_first (λ e. omega (arith, e)))

second_not_true : ¬ Sure (is_true second_choice)
second_not_true = not_true second_choice (differ 1 0 kind_choices kind_second (λ e. omega (arith, e)))

choices_not_false : ¬ Sure (is_false choices)
choices_not_false = not_false choices goal_not_choices (differ 2 1 kind_some kind_choices (λ e. omega (arith, e)))

some_not_true : ¬ Sure (is_true some_fixed)
some_not_true = not_true some_fixed (differ 1 2 kind_choices kind_some (λ e. omega (arith, e)))

either_row : row OR_TO_EITHER choices ≡ Some (is_false choices ∷ yes_of first_choice ∷ yes_of second_choice ∷ [])
unfolding choices
either_row = row_or OR_TO_EITHER first_choice second_choice

abbrev either_clause : Clause
either_clause = is_false choices ∷ yes_of first_choice ∷ yes_of second_choice ∷ []

has_first : Contains either_clause (is_true first_choice)
has_first = subst (Contains either_clause) first_true (contains_later (is_false choices) (yes_of first_choice ∷ yes_of second_choice ∷ []) (yes_of first_choice) (contains_here (yes_of first_choice) (yes_of second_choice ∷ [])))

has_second : Contains either_clause (is_true second_choice)
has_second =
    subst (Contains either_clause) second_true
    (contains_later (is_false choices) (yes_of first_choice ∷ yes_of second_choice ∷ []) (yes_of second_choice)
    (contains_later (yes_of first_choice) (yes_of second_choice ∷ []) (yes_of second_choice) (contains_here (yes_of second_choice) [])))

-- each literal of the clause
each : (m : Lit) → Contains either_clause m → (is_false choices ≡ m) ⊎ ((is_true first_choice ≡ m) ⊎ (is_true second_choice ≡ m))
each m i =
    elim (contains_cases (is_false choices) (yes_of first_choice ∷ yes_of second_choice ∷ []) m i) [
      | inl e ↦ inl e
      | inr r ↦ elim (contains_cases (yes_of first_choice) (yes_of second_choice ∷ []) m r) [
        | inl e ↦ inr (inl (sym first_true ∙ e))
        | inr z ↦ inr (inr (sym second_true ∙ contains_one (yes_of second_choice) m z))
      ]
    ]

module _ (l : Lit) where
  abbrev Others : Clause → Type 0
  Others c = (m : Lit) → Contains c m → m ≢ l → Sure (opposite m)

  -- a clause of two literals, of which the first has no sure opposite of the other
  two : (k m : Lit) → Contains (k ∷ m ∷ []) l → Others (k ∷ m ∷ []) → ¬ Sure (opposite m) → m ≢ k → m ≡ l
  two k m i f n d =
      elim (contains_cases k (m ∷ []) l i) [ inl e ↦ absurd (n (f m (contains_later k (m ∷ []) m (contains_here m [])) (λ z. d (z ∙ sym e)))) | inr r ↦ contains_one m l r ]

  by_goal_row : (c : Clause) → Contains c l → Others c → Contains c (is_true back_goal) → Rows back_goal some_fixed (Not choices) c → Sure l
  by_goal_row c i f o (inl e) =
      inr (inl (sym some_literal ∙ two (is_true back_goal) (no_of some_fixed) (subst (λ (d : Clause). Contains d l) (sym e) i) (subst Others (sym e) f)
      (λ s. some_not_true (subst (λ (k : Lit). Sure (opposite k)) some_literal s)) (λ z. signs (sym z ∙ some_literal))))
  by_goal_row c i f o (inr (inl e)) =
      inr (inr (sym choices_literal ∙ two (is_true back_goal) (no_of (Not choices)) (subst (λ (d : Clause). Contains d l) (sym e) i) (subst Others (sym e) f)
      (λ s. choices_not_false (subst (λ (k : Lit). Sure (opposite k)) choices_literal s)) (λ z. goal_not_choices (formula_of (sym z ∙ choices_literal)))))
  by_goal_row c i f o (inr (inr e)) =
      absurd (elim (contains_cases (is_false back_goal) (yes_of some_fixed ∷ yes_of (Not choices) ∷ []) (is_true back_goal) (subst (λ (d : Clause). Contains d (is_true back_goal)) (sym e) o)) [
        | inl z ↦ signs (sym z)
        | inr r ↦ elim (contains_cases (yes_of some_fixed) (yes_of (Not choices) ∷ []) (is_true back_goal) r) [
          | inl z ↦ differ 2 1 kind_some kind_goal (λ e. omega (arith, e)) (formula_of (sym some_true ∙ z))
          | inr z ↦ signs (sym (sym not_choices ∙ contains_one (yes_of (Not choices)) (is_true back_goal) z))
        ]
      ])

  no_opposite : (k : Lit) (h : Formula) → k ≡ is_false h → choices ≢ h → ¬ Contains (is_true choices ∷ k ∷ []) (is_false choices)
  no_opposite k h e n i =
      elim (contains_cases (is_true choices) (k ∷ []) (is_false choices) i) [ inl p ↦ signs p | inr q ↦ n (sym (formula_of (sym e ∙ contains_one k (is_false choices) q))) ]

  by_choices_row : (c : Clause) → Contains c l → Others c → Contains c (is_false choices) → Rows choices first_choice second_choice c → ⊥
  by_choices_row c i f o (inl e) =
      no_opposite (no_of first_choice) first_choice first_false (differ 1 0 kind_choices kind_first (λ e. omega (arith, e))) (subst (λ (d : Clause). Contains d (is_false choices)) (sym e) o)
  by_choices_row c i f o (inr (inl e)) =
      no_opposite (no_of second_choice) second_choice second_false (differ 1 0 kind_choices kind_second (λ e. omega (arith, e))) (subst (λ (d : Clause). Contains d (is_false choices)) (sym e) o)
  by_choices_row c i f o (inr (inr e)) =
      let g : Others either_clause = subst Others (sym e) f in
      elim (each l (subst (λ (d : Clause). Contains d l) (sym e) i)) [
        | inl q ↦ first_not_false (g (is_true first_choice) has_first (λ z. signs (z ∙ sym q)))
        | inr r ↦ elim r [
          | inl q ↦ second_not_false (g (is_true second_choice) has_second (λ z. first_not_second (formula_of (q ∙ sym z))))
          | inr q ↦ first_not_false (g (is_true first_choice) has_first (λ z. first_not_second (formula_of (z ∙ sym q))))
        ]
      ]

module _ (fresh : Formula → ℕ) where
  abbrev x : Setting
  x = setting back_problem 0 back_story fresh

  given_clause : (c : Clause) (l : Lit) → IsGiven x [] c → Contains c l → is_false back_goal ≡ l
  given_clause _ l (inl (by_hypothesis k f e)) i = absurd (no_hypothesis back_problem k f e)
  given_clause _ l (inl (by_goal f e)) i = sym goal_literal ∙ ap no_of (same_Some back_goal f e) ∙ contains_one (no_of f) l i
  given_clause c l (inl (by_type_instance k ss _ h e)) i = absurd (nothing _ h)
  given_clause c l (inl (by_term_instance f ts _ h e)) i = absurd (nothing _ h)
  given_clause c l (inr h) i = absurd (nothing _ h)

  from_row : (w l : Lit) (r : ℕ) (c : Clause) → Sure w → row r w.formula ≡ Some c → Contains c (opposite w) → Contains c l → Others l c → Sure l
  from_row w l r c (inl s) e o h f =
      by_goal_row l c h f (subst (λ (k : Lit). Contains c (opposite k)) (sym s) o) (goal_rows r c (subst (λ (k : Lit). row r k.formula ≡ Some c) (sym s) e))
  from_row w l r c (inr (inl s)) e o h f = absurd (some_has_none r c (subst (λ (k : Lit). row r k.formula ≡ Some c) (sym s) e))
  from_row w l r c (inr (inr s)) e o h f =
      absurd (by_choices_row l c h f (subst (λ (k : Lit). Contains c (opposite k)) (sym s) o) (choices_rows r c (subst (λ (k : Lit). row r k.formula ≡ Some c) (sym s) e)))

  sure : (l : Lit) → SurelyStands x [] l → Sure l
  sure _ (by_decision l h) = absurd (nothing l h)
  sure _ (by_given c l g h f) = inl (given_clause c l g h)
  sure _ (by_row w l r c s e o h f) = from_row w l r c (sure w s) e o h (λ m i n. sure (opposite m) (f m i n))

  -- ---- formulas
  module _ (js : List Line) where
    goal_is_formula : IsFormula x js back_goal
    goal_is_formula =
        subst (λ (l : Lit). IsFormula x js l.formula) goal_literal (of_clause js (no_of back_goal ∷ []) (no_of back_goal) (by_goal back_goal refl) (contains_here (no_of back_goal) []))

    goal_parts : parts_of back_goal ≡ some_fixed ∷ Not choices ∷ []
    unfolding back_goal
    goal_parts = ap parts_by (outs-Or some_fixed (Not choices))

    choices_parts : parts_of choices ≡ first_choice ∷ second_choice ∷ []
    unfolding choices
    choices_parts = ap parts_by (outs-Or first_choice second_choice)

    last_part : Contains (parts_of back_goal) (Not choices)
    last_part = subst (λ (w : List Formula). Contains w (Not choices)) (sym goal_parts) (contains_later some_fixed (Not choices ∷ []) (Not choices) (contains_here (Not choices) []))

    negated_part : Contains (parts_of (Not choices)) choices
    negated_part = subst (λ (w : List Formula). Contains w choices) (sym (ap parts_by (outs-Not choices))) (contains_here choices [])

    choices_is_formula : IsFormula x js choices
    choices_is_formula = of_part js (Not choices) choices (of_part js back_goal (Not choices) goal_is_formula last_part) negated_part

    goal_is_false : MayStand x js (is_false back_goal)
    goal_is_false =
        reached js (no_of back_goal ∷ []) (is_false back_goal) (given js (no_of back_goal ∷ []) (inl (by_goal back_goal refl)))
        (subst (Contains (no_of back_goal ∷ [])) goal_literal (contains_here (no_of back_goal) []))
        (λ m i n. absurd (n (sym (contains_one (no_of back_goal) m i) ∙ goal_literal)))

    abbrev left_clause : Clause
    left_clause = is_true back_goal ∷ no_of some_fixed ∷ []

    left_row : row OR_FROM_LEFT back_goal ≡ Some left_clause
    unfolding back_goal
    left_row = row_or OR_FROM_LEFT some_fixed (Not choices)

    some_is_false : MayStand x js (is_false some_fixed)
    some_is_false =
        reached js left_clause (is_false some_fixed) (row_of js back_goal OR_FROM_LEFT left_clause goal_is_formula left_row)
        (subst (Contains left_clause) some_literal (contains_later (is_true back_goal) (no_of some_fixed ∷ []) (no_of some_fixed) (contains_here (no_of some_fixed) [])))
        (λ m i n. elim (contains_cases (is_true back_goal) (no_of some_fixed ∷ []) m i) [
          | inl e ↦ subst (λ (k : Lit). MayStand x js (opposite k)) e goal_is_false
          | inr r ↦ absurd (n (sym (contains_one (no_of some_fixed) m r) ∙ some_literal))
        ])

    -- ---- the instance
    abbrev Known : Term → Type 0
    Known = TermFrom x (HasGeneration x js 0)

    goal_from : HasGeneration x js 0 back_goal
    goal_from =
        subst (λ (l : Lit). FormulaFrom x (IsBrought x []) l.formula) goal_literal
        (from_clause (no_of back_goal ∷ []) (no_of back_goal) (by_goal back_goal refl) (contains_here (no_of back_goal) []))

    first_from : HasGeneration x js 0 first_choice
    first_from =
        from_part choices first_choice (from_part (Not choices) choices (from_part back_goal (Not choices) goal_from last_part) negated_part)
        (subst (λ (w : List Formula). Contains w first_choice) (sym choices_parts) (contains_here first_choice (second_choice ∷ [])))

    outside_first : outside first_choice ≡ f_of a ∷ a ∷ []
    unfolding outside first_choice fixed
    outside_first = fold_eq (List Term) (Unit {0}) outside_step (λ q. tt) (f_of a) a

    f_known : Known (f_of a)
    f_known = stands first_choice (f_of a) first_from (subst (λ (w : List Term). Contains w (f_of a)) (sym outside_first) (contains_here (f_of a) (a ∷ [])))

    a_known : Known a
    a_known = stands first_choice a first_from (subst (λ (w : List Term). Contains w a) (sym outside_first) (contains_later (f_of a) (a ∷ []) a (contains_here a [])))

    equal : Equals function_signature Known (AreEqualNow x js) [] (a ∷ []) (f_of (Bound 0)) (f_of a)
    unfolding f_of
    equal =
        application {h = head.Symbol 1} {ss = []} {ps = Bound 0 ∷ []} {us = a ∷ []} (no_arithmetic (Bound 0)) (more (variable refl a_known (inl refl)) none) (no_arithmetic a) (f_known, f_known, inl refl)

    matched : IsMatchAt x js (HasGeneration x js 0) (of_literal (is_false some_fixed)) [] (a ∷ [])
    matched = record {
      pattern = literal_pattern function_signature block;
      of_owner = pattern_is;
      trigger = f_of (Bound 0) ∷ [];
      chosen = contains_here (f_of (Bound 0) ∷ []) [];
      matches = record {
        one_each = refl;
        closed = refl;
        determined = λ i h e. absurd (omega (arith, h));
        all_known = (a_known, tt);
        sorted = (λ i. have_sorts function_signature (a ∷ []) (put_T i ∷ [])) ∙ have_sort;
        equal = ((f_of a, equal), tt);
      };
    }

    acts : (f : Formula) (us : List Term) → instance_line ≡ line.TermInstance f us → ActsAsUniversal x js f
    acts f us e = let z : some_fixed ≡ f = cc in subst (ActsAsUniversal x js) z (false, some_is_false, universal)

  -- ---- the lines
  decision : MayDecide x [] (is_true first_choice)
  decision = record {
    open_still = λ s. first_not_true (sure (is_true first_choice) s);
    open_other = λ s. first_not_false (sure (is_false first_choice) s);
    clause = either_clause;
    possible = row_of [] choices OR_TO_EITHER either_clause (choices_is_formula []) either_row;
    of_it = has_first;
    unmet = λ m i s. unmet m (each m i) (sure m s);
  }
    where
      unmet : (m : Lit) → (is_false choices ≡ m) ⊎ ((is_true first_choice ≡ m) ⊎ (is_true second_choice ≡ m)) → Sure m → ⊥
      unmet m (inl e) s = choices_not_false (subst Sure (sym e) s)
      unmet m (inr (inl e)) s = first_not_true (subst Sure (sym e) s)
      unmet m (inr (inr e)) s = second_not_true (subst Sure (sym e) s)

  abbrev decided : List Line
  decided = line.Decide (is_true first_choice) ∷ []

  other_line : line.Decide (is_true first_choice) ≡ instance_line → ⊥
  other_line e = cc

  instantiates : (bound : ℕ) → 0 < bound → MayInstantiate x bound decided instance_line
  instantiates bound h = record {
    new = λ i. other_line (contains_one (line.Decide (is_true first_choice)) instance_line i);
    clause = clause;
    owner = of_literal (is_false some_fixed);
    sorts = [];
    terms = a ∷ [];
    is = of_terms some_fixed (a ∷ []) clause false concludes;
    acts = acts decided;
    number = 0;
    below = h;
    matched = matched decided;
  }

  no_back : (k m : ℕ) (s t : List Line) → decided ++ instance_line ∷ [] ≡ s ++ line.Back m ∷ t → ⊥
  no_back k m [] t e = cc
  no_back k m (i ∷ []) t e = cc
  no_back k m (i ∷ j ∷ []) t e = cc
  no_back k m (i ∷ j ∷ h ∷ s) t e = cc

  goes_back : MayGoBack (decided ++ instance_line ∷ []) 0
  goes_back = record {
    some = omega arith;
    between = λ s t m e. absurd (no_back 0 m s t e);
    first = later (line.Decide (is_true first_choice)) (instance_line ∷ []) (here instance_line [] tt);
  }

pub going_back_is_legal : GoingBackIsLegal
going_back_is_legal bound fresh h = (decision fresh, (instantiates fresh bound h, (goes_back fresh, tt)))
