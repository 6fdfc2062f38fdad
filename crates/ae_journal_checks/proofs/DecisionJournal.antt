-- The journal of one decision is legal.
use Rattle.std.proofs.Common.{◌≡◌, ◌≢◌, ℕ, [], ◌∷◌, Bool, true, false, nat_eq, cond, Option, Some, None, refl, sym, ◌∙◌, ap, subst, inl, inr, ◌⊎◌}
use Rattle.std.specs.List.{Contains}
use Rattle.std.proofs.lemmas.Option.{same_Some}
use Rattle.ae_base.proofs.Options.{never_some}
use Rattle.ae_core.specs.declared.terms.Term.{out-Term}
use Rattle.ae_core.specs.declared.terms.Term.TheOpen as layer
use Rattle.ae_core.specs.declared.terms.Term.TheVariants.{outs-Apply}
use Rattle.ae_core.specs.declared.terms.Head.TheVariants as head
use Rattle.ae_core.specs.declared.formulas.Formula.{Formula, Not, out-Formula}
use Rattle.ae_core.specs.declared.formulas.Formula.TheOpen as formula_layer
use Rattle.ae_core.specs.declared.formulas.Formula.TheVariants.{outs-Eq, outs-Or}
use Rattle.ae_core.specs.declared.formulas.Lit.{Lit}
use Rattle.ae_rules.specs.Clauses.{Clause, opposite, is_true, is_false, yes_of, no_of, row, row_at}
use Rattle.ae_rules.specs.declared.rows.TheConstants.{OR_FROM_LEFT, OR_FROM_RIGHT, OR_TO_EITHER}
use Rattle.ae_rules.proofs.ClauseLaws.{literal_not, literal_eq, literal_or, row_or}
use Rattle.ae_rules.specs.Derivations.{goal_body}
use Rattle.ae_journal.specs.declared.lines.Line.TheVariants as line
use Rattle.ae_journal.specs.Standing.{Setting, IsGiven, IsFormula, SurelyStands}
use Rattle.ae_journal.specs.Standing.IsBrought.{by_hypothesis, by_goal, by_type_instance, by_term_instance}
use Rattle.ae_journal.specs.Standing.IsFormula.{of_clause}
use Rattle.ae_journal.specs.Standing.IsPossible.{row_of}
use Rattle.ae_journal.specs.Standing.SurelyStands.{by_decision, by_given, by_row}
use Rattle.ae_journal.specs.SolverLines.{MayDecide}
use Rattle.ae_journal.specs.Legal.{setting}
use Rattle.ae_journal.proofs.Splits.{contains_one, contains_cases, contains_here, contains_later}
use Rattle.ae_journal_checks.specs.Examples.{constant, one, other, one_or_other, choice_problem, choice_story}
use Rattle.ae_journal_checks.specs.Laws.{OneDecisionIsLegal}
use Rattle.ae_journal_checks.proofs.NoBlocks.{own_constants, NoBlock, equation, negation, either, no_hypothesis, nothing, no_name}
use Rattle.ae_journal_checks.proofs.RuleJournal.{one_line, no_line}

goal : Formula
goal = Not one_or_other

no_block : NoBlock goal
unfolding goal one_or_other one other
no_block = negation _ (either _ _ (equation _ _) (equation _ _))

no_block_in_goal : (f : Formula) → goal_body choice_problem 0 ≡ Some f → NoBlock f
unfolding goal
no_block_in_goal f e = subst NoBlock (same_Some goal f e) no_block

-- ---- the literals and formulas that differ
goal_literal : no_of goal ≡ is_true one_or_other
unfolding goal one_or_other
goal_literal = literal_not false one_or_other ∙ literal_or true one other

one_literal : yes_of one ≡ is_true one
unfolding one
one_literal = literal_eq true (constant 0) (constant 1)

other_literal : yes_of other ≡ is_true other
unfolding other
other_literal = literal_eq true (constant 0) (constant 2)

no_one : no_of one ≡ is_false one
unfolding one
no_one = literal_eq false (constant 0) (constant 1)

no_other : no_of other ≡ is_false other
unfolding other
no_other = literal_eq false (constant 0) (constant 2)

not_one : one_or_other ≢ one
unfolding one_or_other one
not_one e = let z : formula_layer.Or one other ≡ formula_layer.Eq (constant 0) (constant 1) = sym (outs-Or one other) ∙ ap out-Formula e ∙ outs-Eq (constant 0) (constant 1) in cc

not_other : one_or_other ≢ other
unfolding one_or_other other
not_other e = let z : formula_layer.Or one other ≡ formula_layer.Eq (constant 0) (constant 2) = sym (outs-Or one other) ∙ ap out-Formula e ∙ outs-Eq (constant 0) (constant 2) in cc

apart : constant 1 ≢ constant 2
unfolding constant
apart e = let z : layer.Apply (head.Symbol 1) [] [] ≡ layer.Apply (head.Symbol 2) [] [] = sym (outs-Apply (head.Symbol 1) [] []) ∙ ap out-Term e ∙ outs-Apply (head.Symbol 2) [] [] in cc

one_is_not_other : one ≢ other
unfolding one other
one_is_not_other e =
    let z : formula_layer.Eq (constant 0) (constant 1) ≡ formula_layer.Eq (constant 0) (constant 2) = sym (outs-Eq (constant 0) (constant 1)) ∙ ap out-Formula e ∙ outs-Eq (constant 0) (constant 2) in
    apart cc

signs : {f h : Formula} → is_true f ≡ is_false h → ⊥
signs e = let z : true ≡ false = ap (λ (l : Lit). l.positive) e in cc

formula_of : {s t : Bool} {f h : Formula} → ◌≡◌ {A = Lit} (record { positive = s; formula = f }) (record { positive = t; formula = h }) → f ≡ h
formula_of e = ap (λ (l : Lit). l.formula) e

-- ---- the rows of the disjunction
abbrev left_clause : Clause
left_clause = is_true one_or_other ∷ no_of one ∷ []

abbrev right_clause : Clause
right_clause = is_true one_or_other ∷ no_of other ∷ []

abbrev either_clause : Clause
either_clause = is_false one_or_other ∷ yes_of one ∷ yes_of other ∷ []

the_row : row OR_TO_EITHER one_or_other ≡ Some either_clause
unfolding one_or_other
the_row = row_or OR_TO_EITHER one other

found : (d c : Clause) (rest : Option Clause) (b : Bool) → cond b (Some d) rest ≡ Some c → (d ≡ c) ⊎ (rest ≡ Some c)
found d c rest true e = inl (same_Some d c e)
found d c rest false e = inr e

rows : (r : ℕ) (c : Clause) → row r one_or_other ≡ Some c → (left_clause ≡ c) ⊎ ((right_clause ≡ c) ⊎ (either_clause ≡ c))
unfolding one_or_other
rows r c e =
    elim (found left_clause c (row_at r ((OR_FROM_RIGHT, right_clause) ∷ (OR_TO_EITHER, either_clause) ∷ [])) (nat_eq r OR_FROM_LEFT) (sym (row_or r one other) ∙ e)) [
      | inl p ↦ inl p
      | inr q ↦ elim (found right_clause c (row_at r ((OR_TO_EITHER, either_clause) ∷ [])) (nat_eq r OR_FROM_RIGHT) q) [
        | inl p ↦ inr (inl p)
        | inr z ↦ elim (found either_clause c None (nat_eq r OR_TO_EITHER) z) [ inl p ↦ inr (inr p) | inr y ↦ never_some c y ]
      ]
    ]

-- a clause of the disjunction and the negation of an equation doesn't have the disjunction's negation
not_among : (k : Lit) (h : Formula) → k ≡ is_false h → one_or_other ≢ h → ¬ Contains (is_true one_or_other ∷ k ∷ []) (is_false one_or_other)
not_among k h e n i =
    elim (contains_cases (is_true one_or_other) (k ∷ []) (is_false one_or_other) i) [
      | inl p ↦ signs p
      | inr q ↦ n (sym (formula_of (sym e ∙ contains_one k (is_false one_or_other) q)))
    ]

module _ (fresh : Formula → ℕ) where
  abbrev x : Setting
  x = setting choice_problem 0 choice_story fresh

  the_goal : (f : Formula) → goal_body choice_problem 0 ≡ Some f → no_of goal ≡ no_of f
  unfolding goal
  the_goal f e = ap no_of (same_Some goal f e)

  given_clause : (c : Clause) (l : Lit) → IsGiven x [] c → Contains c l → is_true one_or_other ≡ l
  given_clause _ l (inl (by_hypothesis k f e)) i = absurd (no_hypothesis choice_problem k f e)
  given_clause _ l (inl (by_goal f e)) i = sym goal_literal ∙ the_goal f e ∙ contains_one (no_of f) l i
  given_clause c l (inl (by_type_instance k ss _ h e)) i = absurd (nothing _ h)
  given_clause c l (inl (by_term_instance f ts _ h e)) i = absurd (nothing _ h)
  given_clause c l (inr h) i = absurd (nothing _ h)

  -- a row of the disjunction gives nothing, where only the disjunction stands
  module _ (l : Lit) (r : ℕ) (c : Clause) (h : Contains c l) (others : (m : Lit) → Contains c m → m ≢ l → is_true one_or_other ≡ opposite m) where
    unsure : (k : Formula) → Contains c (is_true k) → is_true k ≢ l → ⊥
    unsure k i n = signs (others (is_true k) i n)

    has_one : either_clause ≡ c → Contains c (is_true one)
    has_one p = subst (λ (d : Clause). Contains d (is_true one)) p
        (subst (Contains either_clause) one_literal (contains_later (is_false one_or_other) (yes_of one ∷ yes_of other ∷ []) (yes_of one) (contains_here (yes_of one) (yes_of other ∷ []))))

    has_other : either_clause ≡ c → Contains c (is_true other)
    has_other p = subst (λ (d : Clause). Contains d (is_true other)) p
        (subst (Contains either_clause) other_literal (contains_later (is_false one_or_other) (yes_of one ∷ yes_of other ∷ []) (yes_of other)
        (contains_later (yes_of one) (yes_of other ∷ []) (yes_of other) (contains_here (yes_of other) []))))

    by_literal : (p : either_clause ≡ c) → Contains either_clause l → ⊥
    by_literal p i =
        elim (contains_cases (is_false one_or_other) (yes_of one ∷ yes_of other ∷ []) l i) [
          | inl q ↦ unsure one (has_one p) (λ z. signs (z ∙ sym q))
          | inr q ↦ elim (contains_cases (yes_of one) (yes_of other ∷ []) l q) [
            | inl y ↦ unsure other (has_other p) (λ z. one_is_not_other (formula_of (sym (z ∙ sym y ∙ one_literal))))
            | inr y ↦ unsure one (has_one p) (λ z. one_is_not_other (formula_of (z ∙ sym (contains_one (yes_of other) l y) ∙ other_literal)))
          ]
        ]

    impossible : (left_clause ≡ c) ⊎ ((right_clause ≡ c) ⊎ (either_clause ≡ c)) → Contains c (is_false one_or_other) → ⊥
    impossible (inl p) i = not_among (no_of one) one no_one not_one (subst (λ (d : Clause). Contains d (is_false one_or_other)) (sym p) i)
    impossible (inr (inl p)) i = not_among (no_of other) other no_other not_other (subst (λ (d : Clause). Contains d (is_false one_or_other)) (sym p) i)
    impossible (inr (inr p)) i = by_literal p (subst (λ (d : Clause). Contains d l) (sym p) h)

  -- no literal but the disjunction surely stands
  sure : (l : Lit) → SurelyStands x [] l → is_true one_or_other ≡ l
  sure _ (by_decision l h) = absurd (nothing l h)
  sure _ (by_given c l g h f) = given_clause c l g h
  sure _ (by_row w l r c s e o h f) =
      absurd (impossible l r c h (λ m i n. sure (opposite m) (f m i n)) (rows r c (subst (λ (k : Lit). row r k.formula ≡ Some c) (sym (sure w s)) e))
      (subst (λ (k : Lit). Contains c (opposite k)) (sym (sure w s)) o))

  formula : IsFormula x [] one_or_other
  unfolding goal
  formula = subst (λ (l : Lit). IsFormula x [] l.formula) goal_literal (of_clause [] (no_of goal ∷ []) (no_of goal) (by_goal goal refl) (contains_here (no_of goal) []))

  not_sure : (f : Formula) → one_or_other ≢ f → ¬ SurelyStands x [] (is_true f)
  not_sure f n s = n (formula_of (sure (is_true f) s))

  decision : MayDecide x [] (is_true one)
  decision = record {
    open_still = not_sure one not_one;
    open_other = λ s. signs (sure (is_false one) s);
    clause = either_clause;
    possible = row_of [] one_or_other OR_TO_EITHER either_clause formula the_row;
    of_it = subst (Contains either_clause) one_literal (contains_later (is_false one_or_other) (yes_of one ∷ yes_of other ∷ []) (yes_of one) (contains_here (yes_of one) (yes_of other ∷ [])));
    unmet = λ m i. elim (contains_cases (is_false one_or_other) (yes_of one ∷ yes_of other ∷ []) m i) [
      | inl q ↦ λ s. signs (sure m s ∙ sym q)
      | inr q ↦ elim (contains_cases (yes_of one) (yes_of other ∷ []) m q) [
        | inl y ↦ λ s. not_one (formula_of (sure m s ∙ sym y ∙ one_literal))
        | inr y ↦ λ s. not_other (formula_of (sure m s ∙ sym (contains_one (yes_of other) m y) ∙ other_literal))
      ]
    ];
  }

pub one_decision_is_legal : OneDecisionIsLegal
one_decision_is_legal bound = (
  record {
    fresh = λ f. 0;
    apart = λ m n t e. no_name m t e;
    entered = λ n t e. no_name n t e;
    constants = own_constants choice_problem no_block_in_goal [] (λ f. 0) choice_story.lines (one_line (line.Decide (is_true one)) (λ (y, z, e). cc) (λ (y, z, e). cc) [] no_line);
    lines = (decision (λ f. 0), tt);
  },
  refl,
)
