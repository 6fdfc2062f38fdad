-- The three names of the example are names of its journal.
use Rattle.std.proofs.Common.{◌≡◌, ℕ, List, [], ◌∷◌, false, refl, sym, ap, subst}
use Rattle.std.specs.List.{Contains}
use Rattle.ae_core.proofs.Recursion.{fold_eq}
use Rattle.ae_core.specs.declared.terms.Term.{Term}
use Rattle.ae_core.specs.declared.terms.Head.TheVariants as head
use Rattle.ae_core.specs.declared.formulas.Formula.{Formula, Eq, Not}
use Rattle.ae_core.specs.declared.formulas.Formula.TheVariants.{outs-Not, outs-Or}
use Rattle.ae_core.specs.declared.formulas.Lit.{Lit}
use Rattle.ae_rules.specs.Clauses.{no_of}
use Rattle.ae_rules.proofs.ClauseLaws.{literal_or}
use Rattle.ae_journal.specs.Standing.{Setting, IsFormula, IsEntered, parts_by, parts_of}
use Rattle.ae_journal.specs.Standing.IsBrought.{by_goal}
use Rattle.ae_journal.specs.Standing.IsFormula.{of_clause, of_part}
use Rattle.ae_journal.specs.Standing.IsEntered.{of_formula, of_term}
use Rattle.ae_journal.specs.States.{outside, outside_step}
use Rattle.ae_journal.specs.Legal.{setting}
use Rattle.ae_journal.proofs.Splits.{contains_here, contains_later}
use Rattle.ae_journal.specs.declared.lines.Line.{Line}
use Rattle.ae_journal_checks.specs.Examples.{problem, story, constant, u, goal, first_equation, others}
use Rattle.ae_journal_checks.proofs.Terms.{a, b, ab, d, ad, c}

pub outside_eq : (s t : Term) → outside (Eq s t) ≡ s ∷ t ∷ []
unfolding outside
outside_eq s t = fold_eq (List Term) (Unit {0}) outside_step (λ q. tt) s t

first_of : (f h : Formula) (fs : List Formula) → parts_of f ≡ h ∷ fs → Contains (parts_of f) h
first_of f h fs e = subst (λ (w : List Formula). Contains w h) (sym e) (contains_here h fs)

module _ (fresh : Formula → ℕ) (js : List Line) where
  abbrev x : Setting
  x = setting problem 0 story fresh

  pub goal_is_formula : IsFormula x js goal
  unfolding goal
  goal_is_formula =
      subst (λ (l : Lit). IsFormula x js l.formula) (literal_or false (Not first_equation) others)
      (of_clause js (no_of goal ∷ []) (no_of goal) (by_goal goal refl) (contains_here (no_of goal) []))

  negation_is_formula : IsFormula x js (Not first_equation)
  unfolding goal
  negation_is_formula = of_part js goal (Not first_equation) goal_is_formula (first_of goal (Not first_equation) (others ∷ []) (ap parts_by (outs-Or (Not first_equation) others)))

  equation_is_formula : IsFormula x js first_equation
  equation_is_formula = of_part js (Not first_equation) first_equation negation_is_formula (first_of (Not first_equation) first_equation [] (ap parts_by (outs-Not first_equation)))

  pub ab_is_name : IsEntered x js ab
  unfolding first_equation
  ab_is_name = of_formula js first_equation ab equation_is_formula (subst (λ (w : List Term). Contains w ab) (sym (outside_eq ab (constant 2))) (contains_here ab (constant 2 ∷ [])))

  pub a_is_name : IsEntered x js a
  unfolding u
  a_is_name = of_term js (head.Symbol 5) [] (a ∷ b ∷ []) a ab_is_name (contains_here a (b ∷ []))

  pub b_is_name : IsEntered x js b
  unfolding u
  b_is_name = of_term js (head.Symbol 5) [] (a ∷ b ∷ []) b ab_is_name (contains_later a (b ∷ []) b (contains_here b []))

  pub c_is_name : IsEntered x js c
  unfolding first_equation
  c_is_name = of_formula js first_equation c equation_is_formula (subst (λ (w : List Term). Contains w c) (sym (outside_eq ab c)) (contains_later ab (c ∷ []) c (contains_here c [])))

  others_is_formula : IsFormula x js others
  unfolding goal
  others_is_formula =
      of_part js goal others goal_is_formula
      (subst (λ (w : List Formula). Contains w others) (sym (ap parts_by (outs-Or (Not first_equation) others))) (contains_later (Not first_equation) (others ∷ []) others (contains_here others [])))

  abbrev second_equation : Formula
  second_equation = Eq ad (constant 4)

  abbrev last_equation : Formula
  last_equation = Eq (u (constant 2) (constant 3)) (u (constant 4) (constant 1))

  second_is_formula : IsFormula x js second_equation
  unfolding others
  second_is_formula =
      of_part js (Not second_equation) second_equation
      (of_part js others (Not second_equation) others_is_formula (first_of others (Not second_equation) (last_equation ∷ []) (ap parts_by (outs-Or (Not second_equation) last_equation))))
      (first_of (Not second_equation) second_equation [] (ap parts_by (outs-Not second_equation)))

  pub ad_is_name : IsEntered x js ad
  ad_is_name = of_formula js second_equation ad second_is_formula (subst (λ (w : List Term). Contains w ad) (sym (outside_eq ad (constant 4))) (contains_here ad (constant 4 ∷ [])))

  pub d_is_name : IsEntered x js d
  unfolding u
  d_is_name = of_term js (head.Symbol 5) [] (a ∷ d ∷ []) d ad_is_name (contains_later a (d ∷ []) d (contains_here d []))
