-- Lines that can be written, with what they leave for later ones: numerals are in lowest terms, those of listed names of a row among them, and a solved name has a value over
-- leaves of its sort. Of the clauses that such lines bring the numerals are in lowest terms.
use Rattle.std.specs.Prelude.{ℕ, ◌≡◌, Bool, true, false, List, [], ◌∷◌, slice_get, Some}
use Rattle.std.specs.List.{AllByRecursion}
use Rattle.std.specs.List.Sorted.{IsNonDecreasing}
use Rattle.std.proofs.Common.{subst, inl}
use Rattle.std.proofs.lemmas.Option.{same_Some}
use Rattle.ae_base.proofs.Options.{bind_some}
use Rattle.ae_core.specs.Signatures.{IsLawfulProblem}
use Rattle.ae_core.specs.Sorts.{formula_ok}
use Rattle.ae_core.specs.declared.formulas.Formula.{Formula}
use Rattle.ae_core.specs.declared.formulas.Lit.{Lit}
use Rattle.ae_core.specs.declared.proofs.ClauseLine.TheVariants as clause_line
use Rattle.ae_core.specs.declared.terms.Sort.{Sort}
use Rattle.ae_core.specs.declared.terms.Term.{Term}
use Rattle.ae_journal.proofs.Splits.{all_contained, contains_one}
use Rattle.ae_journal.specs.Legal.{AreLegal}
use Rattle.ae_journal.specs.Standing.{Setting, IsBrought, IsFormula}
use Rattle.ae_journal.specs.Standing.IsBrought.{by_hypothesis, by_goal, by_type_instance, by_term_instance}
use Rattle.ae_journal.specs.Standing.IsFormula.{of_clause, of_order, of_choice, of_fresh, of_part}
use Rattle.ae_journal.specs.Standing.IsPossible.{given, choice_of, order_of, fresh_of}
use Rattle.ae_journal.specs.Values.{meaning}
use Rattle.ae_journal.specs.declared.lines.Line.{Line}
use Rattle.ae_journal.specs.declared.lines.Line.TheVariants as line
use Rattle.ae_journal.specs.declared.lines.Oriented.TheVariants as oriented
use Rattle.ae_legal_stories.proofs.Parts.{parts_ok}
use Rattle.ae_legal_stories.proofs.Sorted.{possible_ok}
use Rattle.ae_num.specs.Forms.{IsNormal}
use Rattle.ae_num.specs.declared.forms.Part.{Part}
use Rattle.ae_rules.proofs.SortedLines.{states_clause}
use Rattle.ae_rules.specs.Clauses.{Clause, literal, yes_of}
use Rattle.ae_rules.specs.Derivations.{conclusion}
use Rattle.ae_rules.specs.Instances.{hypothesis}
use Rattle.ae_numerals_kept.specs.Lowest.{IsLowest, IsLowestTerm}
use Rattle.ae_numerals_kept.proofs.Lowest.{IsLowestClause, literal_lowest, instances_lowest, hypothesis_lowest, goal_lowest}
use Rattle.ae_writable.specs.Numbers.{HasLowestNumerals}
use Rattle.ae_writable_journals.proofs.Values.{IsLeafOf, IsOverSort}

module _ (x : Setting) where
  -- the numerals of the name with this number are in lowest terms, where it is listed
  abbrev pub IsLowestName : ℕ → Type 0
  IsLowestName n = (t : Term) → slice_get x.names n ≡ Some t → IsLowestTerm t

  abbrev pub IsFit : Line → Type 0
  IsFit (line.Decide l) = IsLowest l.formula
  IsFit (line.Orient (oriented.Named n v)) = (s : Sort) → IsLeafOf x.problem.signature x.names s n → IsOverSort x.problem.signature x.names s (meaning v)
  IsFit (line.Orient (oriented.Rule u l r)) = IsNonDecreasing l × IsNonDecreasing r
  IsFit (line.Drop (oriented.Named n v)) = Unit {0}
  IsFit (line.Drop (oriented.Rule u l r)) = IsNonDecreasing l × IsNonDecreasing r
  IsFit (line.Pair u l m) = IsNonDecreasing l × IsNonDecreasing m
  IsFit (line.Learn c) = AllByRecursion (λ (l : Lit). IsLowest l.formula) c
  IsFit (line.TypeInstance k ss) = Unit {0}
  IsFit (line.TermInstance f ts) = IsLowest f × AllByRecursion IsLowestTerm ts
  IsFit (line.Combine strict f) = IsNormal f × AllByRecursion (λ (q : Part). IsLowestName q.key) f.parts
  IsFit (line.Back n) = Unit {0}

module _ (x : Setting) (lowest : HasLowestNumerals x.problem) where
  one_clause : (sign : Bool) (f : Formula) → IsLowest f → IsLowestClause (literal sign f ∷ [])
  one_clause sign f w l i = subst (λ (m : Lit). IsLowest m.formula) (contains_one (literal sign f) l i) (literal_lowest f w sign)

  -- the clause of an axiom with sorts
  pub axiom_fit : (k : ℕ) (ss : List Sort) (c : Clause) → conclusion x.problem x.goal (clause_line.Hyp k ss) ≡ Some c → IsLowestClause c
  axiom_fit k ss c e =
      let b = bind_some (hypothesis x.problem x.goal k ss) (λ f. Some (yes_of f ∷ [])) c (states_clause x.problem x.goal (clause_line.Hyp k ss) c e).1 in
      subst IsLowestClause (same_Some (yes_of b.0 ∷ []) c b.2) (one_clause true b.0 (hypothesis_lowest x.problem x.goal k ss b.0 lowest b.1))

  pub instance_fit : (f : Formula) (ts : List Term) (c : Clause) → conclusion x.problem x.goal (clause_line.Inst f ts) ≡ Some c → IsLowest f × AllByRecursion IsLowestTerm ts → IsLowestClause c
  instance_fit f ts c e w = instances_lowest x.problem.signature f ts w.0 w.1 c (states_clause x.problem x.goal (clause_line.Inst f ts) c e).1

  pub brought_fit : (js : List Line) → AllByRecursion (IsFit x) js → (c : Clause) → IsBrought x js c → IsLowestClause c
  brought_fit js a _ (by_hypothesis k f e) = one_clause true f (hypothesis_lowest x.problem x.goal k [] f lowest e)
  brought_fit js a _ (by_goal f e) = one_clause false f (goal_lowest x.problem x.goal f lowest e)
  brought_fit js a _ (by_type_instance k ss c i e) = axiom_fit k ss c e
  brought_fit js a _ (by_term_instance f ts c i e) = instance_fit f ts c e (all_contained (IsFit x) js (line.TermInstance f ts) a i)

-- ---- in a legal journal formulas are closed and well sorted
module _ (x : Setting) (lawful : IsLawfulProblem x.problem) (bound : ℕ) (js : List Line) (legal : AreLegal x bound [] js) where
  pub formula_sorted : (f : Formula) → IsFormula x js f → formula_ok x.problem.signature f ≡ true
  formula_sorted _ (of_clause _ c l b i) = possible_ok x lawful bound js legal c (given js c (inl b)) l i
  formula_sorted _ (of_order _ s t c l p q e i) = possible_ok x lawful bound js legal c (order_of js s t c p q e) l i
  formula_sorted _ (of_choice _ t c l p e i) = possible_ok x lawful bound js legal c (choice_of js t c p e) l i
  formula_sorted _ (of_fresh _ f c l p e i) = possible_ok x lawful bound js legal c (fresh_of js f c p e) l i
  formula_sorted _ (of_part _ f h p i) = parts_ok x.problem.signature f (formula_sorted f p) h i
