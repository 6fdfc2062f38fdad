-- Journals and widths that are answers, and some that are none.
use Rattle.std.specs.Prelude.{ℕ, pos, false, ◌≡◌, List, [], ◌∷◌, Some, None, ◌++◌, ◌⊎◌, length, Option}
use Rattle.std.proofs.Common.{inl, inr}
use Rattle.std.proofs.Math.Nat.{one-dvd}
use Rattle.std.proofs.lemmas.Option.{same_Some}
use Rattle.std.specs.List.{Contains}
use mathlib.Core.Path.{refl, sym, ap, subst, ◌∙◌}
use native.Mathlib.Omega.{arith}
use borrow.Author.Differences.{ints}
use Rattle.ae_base.proofs.Options.{never_some}
use Rattle.ae_math.specs.Fractions.{ratio}
use Rattle.ae_core.specs.declared.formulas.Formula.{Formula}
use Rattle.ae_core.specs.declared.formulas.Lit.{Lit}
use Rattle.ae_core.specs.declared.terms.Head.TheVariants as head
use Rattle.ae_core.specs.declared.terms.Op.TheVariants as op
use Rattle.ae_core.specs.declared.terms.Term.{Term, Num, Apply, para-roll-Term}
use Rattle.ae_core.specs.declared.terms.Term.TheOpen as layer
use Rattle.ae_core.specs.declared.terms.Term.TheVariants.{rolls-Num}
use Rattle.ae_rules.specs.Clauses.{no_of}
use Rattle.ae_rules.specs.Derivations.{goal_body}
use Rattle.ae_rules.proofs.ClauseLaws.{literal_eq}
use Rattle.ae_num.specs.Forms.{IsNormal}
use Rattle.ae_journal.specs.Legal.{IsLegalJournal, setting}
use Rattle.ae_journal.specs.Licences.{IsLicensed, IsLicensedStep}
use Rattle.ae_journal.specs.Licences.IsLicensedPlus.{of_sum}
use Rattle.ae_journal.specs.Licences.IsLicensedStep.{a_plus, a_scale, a_subst, a_combine, put_constant, make_bound, two_bounds, beyond_bound, take_mean}
use Rattle.ae_journal.specs.declared.answers.NumStep.{NumStep}
use Rattle.ae_journal.specs.declared.lines.Line.{Line}
use Rattle.ae_journal.specs.Standing.{Setting, IsFormula, IsEntered, value_now}
use Rattle.ae_journal.specs.Standing.IsBrought.{by_goal}
use Rattle.ae_journal.specs.Standing.IsEntered.{of_formula}
use Rattle.ae_journal.specs.Standing.IsFormula.{of_clause}
use Rattle.ae_journal.specs.TermValues.{value_by, value_step}
use Rattle.ae_journal.specs.Values.{Val, Sum, constant_val, sum_in, sum_of_lin}
use Rattle.ae_journal.specs.declared.answers.NumStep.TheVariants as step
use Rattle.ae_journal.proofs.Splits.{contains_here}
use Rattle.ae_journal_checks.specs.Examples.{greatest, numeral, sum_goal, sum_problem, empty_story, sum_of, whole, signature}
use Rattle.ae_journal_checks.specs.Laws.{StepsAnswer, OtherLimitIsRefused, RepetitionIsRefused, OmissionIsRefused, WidthAnswers, NoWidthIsRefused, NamelessCombinationIsRefused, EmptyProofIsRefused}
use Rattle.ae_journal_checks.proofs.Entered.{outside_eq}
use Rattle.ae_journal_checks.proofs.NoBlocks.{NoBlock, equation, own_constants, no_name}
use Rattle.ae_journal_checks.proofs.RuleJournal.{no_line, one_rule_is_legal, repeated_rule_is_refused}

-- ---- journals
pub steps_answer : StepsAnswer
steps_answer bound = one_rule_is_legal bound

pub other_limit_is_refused : OtherLimitIsRefused
other_limit_is_refused bound a = let z : 1 ≡ 2 = a.1 in omega (arith, z)

pub repetition_is_refused : RepetitionIsRefused
repetition_is_refused bound a = repeated_rule_is_refused bound (a.0).fresh (a.0).lines

pub omission_is_refused : OmissionIsRefused
omission_is_refused bound a = let z : 0 ≡ 1 = a.1 in omega (arith, z)

-- ---- the width
no_block : NoBlock sum_goal
unfolding sum_goal
no_block = equation (Apply (head.Int op.Add) [] (numeral ∷ numeral ∷ [])) (Num (pos 0) (pos 1) false)

no_block_in_goal : (f : Formula) → goal_body sum_problem 0 ≡ Some f → NoBlock f
no_block_in_goal f e = subst NoBlock (same_Some sum_goal f e) no_block

legal : (bound : ℕ) → IsLegalJournal sum_problem 0 bound empty_story
legal bound = record {
  fresh = λ f. 0;
  apart = λ m n t e. no_name m t e;
  entered = λ n t e. no_name n t e;
  constants = own_constants sum_problem no_block_in_goal [] (λ f. 0) [] no_line;
  lines = tt;
}

abbrev x : Setting
x = setting sum_problem 0 empty_story (λ f. 0)

abbrev sum : Term
sum = Apply (head.Int op.Add) [] (numeral ∷ numeral ∷ [])

goal_is_formula : IsFormula x [] sum_goal
unfolding sum_goal
goal_is_formula =
    subst (λ (l : Lit). IsFormula x [] l.formula) (literal_eq false sum (Num (pos 0) (pos 1) false))
    (of_clause [] (no_of sum_goal ∷ []) (no_of sum_goal) (by_goal sum_goal refl) (contains_here (no_of sum_goal) []))

sum_is_name : IsEntered x [] sum
unfolding sum_goal
sum_is_name =
    of_formula [] sum_goal sum goal_is_formula
    (subst (λ (w : List Term). Contains w sum) (sym (outside_eq sum (Num (pos 0) (pos 1) false))) (contains_here sum (Num (pos 0) (pos 1) false ∷ [])))

numeral_value : value_now x [] numeral ≡ constant_val (ratio greatest (pos 1))
unfolding value_by numeral
numeral_value =
    ap (value_by signature [] []) (sym (rolls-Num greatest (pos 1) false)) ∙ para-roll-Term Val (value_step signature [] []) (layer.Num greatest (pos 1) false)

normal : IsNormal (whole greatest)
normal = record {
  positive = omega (arith, ints);
  rising = tt;
  nonzero = tt;
  lowest = ((one-dvd 1, (one-dvd _, tt)), λ d a. a.0);
  within = (omega arith, (omega arith, tt));
}

licensed : IsLicensed x [] (sum_of greatest)
licensed = record {
  normal = (normal, normal);
  wide = refl;
  forms =
      inl
      (subst (λ (v : Val). IsLicensedStep x [] step.Plus (sum_in v) None (sum_in v)) numeral_value
      (a_plus (sum_in (value_now x [] numeral)) (sum_in (value_now x [] numeral)) (of_sum numeral numeral (head.Int op.Add, [], inl refl, sum_is_name))));
}

pub width_answers : WidthAnswers
unfolding legal
width_answers bound = record { legal = legal bound; within = omega arith; licensed = licensed }

pub no_width_is_refused : NoWidthIsRefused
no_width_is_refused p g limit bound journal a = never_some (sum_of (pos 1)).wide (a.licensed.wide)

-- the two rows of a combination share a name
no_names : (x : Setting) (js : List Line) (s : NumStep) (f : Sum) (k : Option ℕ) (h : Sum) → IsLicensedStep x js s f k h → s ≡ step.Combine
    → length x.names ≡ 0 → ⊥
no_names x js _ f _ h (a_combine a b _ _ n c) e z = omega (arith, (c.largest).0.0, z)
no_names x js _ f _ h (a_plus _ _ c) e z = cc
no_names x js _ f _ _ (a_scale _ q c) e z = cc
no_names x js _ f _ h (a_subst _ _ n c) e z = cc
no_names x js _ f _ _ (put_constant cs n k strict row _ a b c d i) e z = cc
no_names x js _ _ _ _ (make_bound cs n factor rest q a b c) e z = cc
no_names x js _ _ _ _ (two_bounds cs n a b p q r c d g i) e z = cc
no_names x js _ _ _ _ (beyond_bound cs n a p q c d g) e z = cc
no_names x js _ _ _ _ (take_mean cs n p q c d g) e z = cc

pub nameless_combination_is_refused : NamelessCombinationIsRefused
nameless_combination_is_refused p g limit bound lines w e a = go a.licensed.forms
  where
    go : IsLicensedStep (setting p g (record { names = []; lines = lines }) (a.legal).fresh) lines w.step (sum_of_lin w.left) w.key (sum_of_lin w.right)
        ⊎ ((before : List Line) × (last : Line) × (lines ≡ before ++ last ∷ [])
        × IsLicensedStep (setting p g (record { names = []; lines = lines }) (a.legal).fresh) before w.step (sum_of_lin w.left) w.key (sum_of_lin w.right)) → ⊥
    go (inl s) = no_names _ lines w.step _ w.key _ s e refl
    go (inr (before, last, q, s)) = no_names _ before w.step _ w.key _ s e refl

pub empty_proof_is_refused : EmptyProofIsRefused
empty_proof_is_refused p g limit bound d = never_some [] d.empty
