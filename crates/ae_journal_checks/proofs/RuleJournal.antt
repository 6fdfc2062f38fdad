-- The journals of the example are legal; the one of one rule isn't with its line repeated.
use Rattle.std.proofs.Common.{◌≡◌, ℕ, ◌≤◌, List, [], ◌∷◌, ◌++◌, slice_get, true, false, Some, refl, sym, ◌∙◌, ap, subst, arith, inl, inr}
use Rattle.std.specs.List.{AllByRecursion, Contains}
use Rattle.std.specs.List.Sorted.{IsNonDecreasing}
use Rattle.ae_base.proofs.Decided.{decided_of}
use Rattle.ae_core.specs.Decided.{Sort_discrete}
use Rattle.ae_core.specs.Sorts.{same_known}
use Rattle.ae_core.specs.declared.terms.Sort.{Sort}
use Rattle.ae_core.specs.declared.terms.Term.{Term}
use Rattle.ae_core.specs.declared.formulas.Formula.{Formula, Not}
use Rattle.ae_core.specs.declared.formulas.Lit.{Lit}
use Rattle.ae_rules.specs.Clauses.{Clause, opposite, is_true, is_false, no_of, row}
use Rattle.ae_rules.specs.declared.rows.TheConstants.{OR_FROM_LEFT}
use Rattle.ae_rules.proofs.ClauseLaws.{literal_not, literal_eq, literal_or, row_or}
use Rattle.std.proofs.lemmas.Option.{same_Some}
use Rattle.ae_rules.specs.Derivations.{goal_body}
use Rattle.ae_rules.specs.Lines.{equal, fact_ok}
use Rattle.ae_rules.specs.Lines.Follows.{by_hyp}
use Rattle.ae_multiset.specs.Multisets.{count, IsPart}
use Rattle.ae_multiset.proofs.Rising.{non_decreasing}
use Rattle.ae_num.specs.Forms.{IsNormal}
use Rattle.ae_num.specs.declared.forms.Lin.{Lin}
use Rattle.ae_num.specs.declared.forms.Value.{Leaf, fold-roll-Value}
use Rattle.ae_num.specs.declared.forms.Value.TheOpen as value_layer
use Rattle.ae_num.specs.declared.forms.Value.TheVariants.{rolls-Leaf}
use Rattle.ae_journal.specs.declared.lines.Line.{Line}
use Rattle.ae_journal.specs.declared.lines.Line.TheVariants as line
use Rattle.ae_journal.specs.declared.lines.Oriented.TheVariants as oriented
use Rattle.ae_journal.specs.Values.{Val, leaf, meaning, meaning_step}
use Rattle.ae_journal.specs.Systems.{forms_in, forms_step}
use Rattle.ae_journal.specs.TermValues.{solved, value_by}
use Rattle.ae_journal.specs.Standing.{Setting, IsEntered, MayStand, MayFollow}
use Rattle.ae_journal.specs.Standing.IsBrought.{by_goal}
use Rattle.ae_journal.specs.Standing.IsPossible.{given, row_of}
use Rattle.ae_journal.specs.Standing.MayStand.{reached}
use Rattle.ae_journal.specs.RuleLines.{IsStanding, IsNowReduced, MayOrientRule}
use Rattle.ae_journal.specs.RuleLines.IsSource.{of_name}
use Rattle.ae_journal.specs.RuleLines.Descends.{itself}
use Rattle.ae_journal.specs.SolverLines.{Solves, MayOrientName}
use Rattle.ae_journal.specs.SolverLines.Solves.{a_leaf}
use Rattle.ae_journal.specs.Legal.{setting}
use Rattle.ae_journal.proofs.Splits.{contains_one, contains_cases, contains_here, contains_later}
use Rattle.ae_journal.proofs.Refusals.{no_second_rule, some_pair}
use Rattle.ae_journal_checks.specs.Examples.{T, signature, names, problem, story, longer_story, symbol, rule_line, second_rule, pair_line, solve_line, u, goal, first_equation, others}
use Rattle.ae_journal_checks.specs.Laws.{OneRuleIsLegal, RepeatedRuleIsRefused, FallingRuleIsRefused, NothingIsCounted, FourLinesAreLegal}
use Rattle.ae_journal_checks.proofs.Terms.{a, b, ab, d, ad, c, sort_ab, sort_c, each_name, name_value, names_apart, own_representative, same_leaf}
use Rattle.ae_journal_checks.proofs.Entered.{goal_is_formula, a_is_name, b_is_name, ab_is_name, c_is_name, d_is_name, ad_is_name}
use Rattle.ae_journal_checks.proofs.NoBlocks.{own_constants, NoInstance, NoBlock, equation, negation, either}

no_block : NoBlock goal
unfolding goal first_equation others
no_block = either _ _ (negation _ (equation _ _)) (either _ _ (negation _ (equation _ _)) (equation _ _))

no_block_in_goal : (f : Formula) → goal_body problem 0 ≡ Some f → NoBlock f
no_block_in_goal f e = subst NoBlock (same_Some goal f e) no_block

goal_literal : no_of goal ≡ is_false goal
unfolding goal
goal_literal = literal_or false (Not first_equation) others

pub no_end : (before after : List Line) (j : Line) → [] ≡ before ++ j ∷ after → ⊥
no_end [] after j e = cc
no_end (k ∷ before) after j e = cc

reduced_at_first : (l : List ℕ) → IsNowReduced [] symbol l
reduced_at_first l m r s p = no_end s.before s.after (line.Orient (oriented.Rule symbol m r)) s.is

-- the only rule that stands after the first line
only_rule : (before after : List Line) (m r : List ℕ) → rule_line ∷ [] ≡ before ++ line.Orient (oriented.Rule symbol m r) ∷ after → 0 ∷ 1 ∷ [] ≡ m
only_rule [] after m r e = cc
only_rule (k ∷ before) after m r e = absurd (no_end before after (line.Orient (oriented.Rule symbol m r)) (let h : [] ≡ before ++ line.Orient (oriented.Rule symbol m r) ∷ after = cc in h))

reduced_after : (l : List ℕ) → count 1 l ≡ 0 → IsNowReduced (rule_line ∷ []) symbol l
reduced_after l z m r s p =
    let q : IsPart (0 ∷ 1 ∷ []) l = subst (λ (w : List ℕ). IsPart w l) (sym (only_rule s.before s.after m r s.is)) p in
    let k : 1 ≤ count 1 l = q.each 1 in
    omega (arith, z, k)

pub leaf_meaning : (n : ℕ) → meaning (Leaf n) ≡ leaf n
unfolding meaning
leaf_meaning n = ap meaning (sym (rolls-Leaf n)) ∙ fold-roll-Value Val meaning_step (value_layer.Leaf n)

pub leaf_forms : (n : ℕ) → forms_in (Leaf n) ≡ []
unfolding forms_in
leaf_forms n = ap forms_in (sym (rolls-Leaf n)) ∙ fold-roll-Value (List Lin) forms_step (value_layer.Leaf n)

-- ---- lists that rise
pub two_rise : (a b : ℕ) → a ≤ b → IsNonDecreasing (a ∷ b ∷ [])
two_rise a b l = non_decreasing (a ∷ b ∷ []) ((l, tt), (tt, tt))

pub one_rises : (a : ℕ) → IsNonDecreasing (a ∷ [])
one_rises a = non_decreasing (a ∷ []) (tt, tt)

module _ (fresh : Formula → ℕ) where
  abbrev x : Setting
  x = setting problem 0 story fresh

  -- ---- the rules
  comes : MayOrientRule x [] symbol (0 ∷ 1 ∷ []) (2 ∷ [])
  unfolding u
  comes = record {
    one = 0 ∷ 1 ∷ [];
    other = 2 ∷ [];
    source = of_name 2 0 1 a b (refl, ab_is_name fresh []) (_, refl, refl) (refl, a_is_name fresh []) (refl, b_is_name fresh []);
    descend = inl (itself (0 ∷ 1 ∷ []) (0 ∷ 1 ∷ []) (record { each = λ n. refl }), itself (2 ∷ []) (2 ∷ []) (record { each = λ n. refl }));
    representatives = (own_representative [] (λ w. refl) 0 a refl, (own_representative [] (λ w. refl) 1 b refl, (own_representative [] (λ w. refl) 2 ab refl, tt)));
    falls = inl (omega arith);
    two = omega arith;
    reduced = (reduced_at_first (0 ∷ 1 ∷ []), reduced_at_first (2 ∷ []));
  }

  comes_second : MayOrientRule x (rule_line ∷ []) symbol (0 ∷ 3 ∷ []) (4 ∷ [])
  unfolding u
  comes_second = record {
    one = 0 ∷ 3 ∷ [];
    other = 4 ∷ [];
    source = of_name 4 0 3 a d (refl, ad_is_name fresh (rule_line ∷ [])) (_, refl, refl) (refl, a_is_name fresh (rule_line ∷ [])) (refl, d_is_name fresh (rule_line ∷ []));
    descend = inl (itself (0 ∷ 3 ∷ []) (0 ∷ 3 ∷ []) (record { each = λ n. refl }), itself (4 ∷ []) (4 ∷ []) (record { each = λ n. refl }));
    representatives = (own_representative (rule_line ∷ []) (λ w. refl) 0 a refl, (own_representative (rule_line ∷ []) (λ w. refl) 3 d refl, (own_representative (rule_line ∷ []) (λ w. refl) 4 ad refl, tt)));
    falls = inl (omega arith);
    two = omega arith;
    reduced = (reduced_after (0 ∷ 3 ∷ []) refl, reduced_after (4 ∷ []) refl);
  }

  stands : IsStanding (rule_line ∷ []) symbol (0 ∷ 1 ∷ []) (2 ∷ [])
  stands = record { before = []; after = []; is = refl; kept = λ d h. omega (arith, h.1) }

  -- ---- the first equation may stand
  module _ (js : List Line) where
    goal_is_false : MayStand x js (is_false goal)
    goal_is_false =
        reached js (no_of goal ∷ []) (is_false goal) (given js (no_of goal ∷ []) (inl (by_goal goal refl)))
        (subst (Contains (no_of goal ∷ [])) goal_literal (contains_here (no_of goal) []))
        (λ m i n. absurd (n (sym (contains_one (no_of goal) m i) ∙ goal_literal)))

    equation_literal : no_of (Not first_equation) ≡ is_true first_equation
    unfolding first_equation
    equation_literal = literal_not false first_equation ∙ literal_eq true ab c

    abbrev row_clause : Clause
    row_clause = is_true goal ∷ no_of (Not first_equation) ∷ []

    goal_row : row OR_FROM_LEFT goal ≡ Some row_clause
    unfolding goal
    goal_row = row_or OR_FROM_LEFT (Not first_equation) others

    equation_may_stand : MayStand x js (is_true first_equation)
    equation_may_stand =
        reached js row_clause (is_true first_equation) (row_of js goal OR_FROM_LEFT row_clause (goal_is_formula fresh js) goal_row)
        (subst (Contains row_clause) equation_literal (contains_later (is_true goal) (no_of (Not first_equation) ∷ []) (no_of (Not first_equation)) (contains_here (no_of (Not first_equation)) [])))
        (λ m i n. elim (contains_cases (is_true goal) (no_of (Not first_equation) ∷ []) m i) [
          | inl e ↦ subst (λ (k : Lit). MayStand x js (opposite k)) e goal_is_false
          | inr r ↦ absurd (n (sym (contains_one (no_of (Not first_equation)) m r) ∙ equation_literal))
        ])

    sorted : fact_ok signature (equal ab c) ≡ true
    sorted = (λ i. same_known (sort_ab i) (sort_c i)) ∙ decided_of (Sort_discrete T T) refl

    follows : MayFollow x js ab c
    unfolding first_equation
    follows = by_hyp (ab, c, equation_may_stand, refl) sorted

  -- ---- the last line
  abbrev three : List Line
  three = rule_line ∷ second_rule ∷ pair_line ∷ []

  still : (w : Val) → solved three w ≡ w
  still w = refl

  solved_name : Solves x 5 (meaning (Leaf 2)) (leaf 2) (leaf 5)
  solved_name = subst (λ v. Solves x 5 v (leaf 2) (leaf 5)) (sym (leaf_meaning 2)) (a_leaf 2 5 (omega arith))

  comes_solve : MayOrientName x three 5 (Leaf 2)
  comes_solve =
      let l = name_value three still 2 ab refl in
      let r = name_value three still 5 c refl in
      record {
        left = ab;
        right = c;
        entered = (ab_is_name fresh three, c_is_name fresh three);
        differ = λ e. let h = same_leaf 2 5 (sym l ∙ e ∙ r) in omega (arith, h);
        follows = follows three;
        normal = subst (AllByRecursion IsNormal) (sym (leaf_forms 2)) tt;
        solves = subst (λ w. Solves x 5 (meaning (Leaf 2)) w (value_by signature names three c)) (sym l) (subst (λ w. Solves x 5 (meaning (Leaf 2)) (leaf 2) w) (sym r) solved_name);
      }

-- ---- no instance is among the lines
pub one_line : (k : Line) → ¬ ((y : ℕ) × (z : List Sort) × (k ≡ line.TypeInstance y z)) → ¬ ((y : Formula) × (z : List Term) × (k ≡ line.TermInstance y z)) → (js : List Line) → NoInstance js → NoInstance (k ∷ js)
one_line k p q js n = (
  λ y z h. elim (contains_cases k js (line.TypeInstance y z) h) [ inl e ↦ p (y, z, e) | inr r ↦ n.0 y z r ],
  λ y z h. elim (contains_cases k js (line.TermInstance y z) h) [ inl e ↦ q (y, z, e) | inr r ↦ n.1 y z r ],
)

pub no_line : NoInstance []
no_line = (λ y z h. omega (arith, h.1), λ y z h. omega (arith, h.1))

rule_is_none : (l r : List ℕ) (js : List Line) → NoInstance js → NoInstance (line.Orient (oriented.Rule symbol l r) ∷ js)
rule_is_none l r = one_line (line.Orient (oriented.Rule symbol l r)) (λ (y, z, e). cc) (λ (y, z, e). cc)

four_lines : NoInstance longer_story.lines
four_lines =
    rule_is_none (0 ∷ 1 ∷ []) (2 ∷ []) (second_rule ∷ pair_line ∷ solve_line ∷ [])
    (rule_is_none (0 ∷ 3 ∷ []) (4 ∷ []) (pair_line ∷ solve_line ∷ [])
    (one_line pair_line (λ (y, z, e). cc) (λ (y, z, e). cc) (solve_line ∷ [])
    (one_line solve_line (λ (y, z, e). cc) (λ (y, z, e). cc) [] no_line)))

all_names : (js : List Line) (n : ℕ) (t : Term) → slice_get names n ≡ Some t → IsEntered (setting problem 0 story (λ f. 0)) js t
all_names js =
    each_name (λ n t. IsEntered (setting problem 0 story (λ f. 0)) js t) (a_is_name (λ f. 0) js) (b_is_name (λ f. 0) js) (ab_is_name (λ f. 0) js)
    (d_is_name (λ f. 0) js) (ad_is_name (λ f. 0) js) (c_is_name (λ f. 0) js)

pub one_rule_is_legal : OneRuleIsLegal
one_rule_is_legal bound = (
  record {
    fresh = λ f. 0;
    apart = names_apart;
    entered = all_names story.lines;
    constants = own_constants problem no_block_in_goal names (λ f. 0) story.lines (rule_is_none (0 ∷ 1 ∷ []) (2 ∷ []) [] no_line);
    lines = ((comes (λ f. 0), two_rise 0 1 (omega arith), one_rises 2), tt);
  },
  refl,
)

pub repeated_rule_is_refused : RepeatedRuleIsRefused
repeated_rule_is_refused bound fresh l = no_second_rule (setting problem 0 story fresh) (rule_line ∷ []) symbol (0 ∷ 1 ∷ []) (2 ∷ []) (2 ∷ []) (stands fresh) ((l.1).0).0

pub falling_rule_is_refused : FallingRuleIsRefused
falling_rule_is_refused bound fresh l = let h : 1 ≤ 0 = (l.0).1 0 1 0 (omega arith) (omega arith) in omega (arith, h)

pub nothing_is_counted : NothingIsCounted
nothing_is_counted e = omega (arith, e)

pub four_lines_are_legal : FourLinesAreLegal
four_lines_are_legal bound = (
  record {
    fresh = λ f. 0;
    apart = names_apart;
    entered = all_names longer_story.lines;
    constants = own_constants problem no_block_in_goal names (λ f. 0) longer_story.lines four_lines;
    lines = (
      (comes (λ f. 0), two_rise 0 1 (omega arith), one_rises 2),
      ((comes_second (λ f. 0), two_rise 0 3 (omega arith), one_rises 4), (some_pair symbol, (comes_solve (λ f. 0), tt))),
    );
  },
  refl,
)
