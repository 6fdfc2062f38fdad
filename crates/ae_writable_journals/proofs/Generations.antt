-- The terms that an instance line of a legal journal puts: they come from formulas with a generation, and so their numerals are in lowest terms.
use Rattle.std.specs.Prelude.{ℕ, zero, suc, ◌≡◌, List, [], ◌++◌, ◌⊎◌, length}
use Rattle.std.specs.List.{AllByRecursion, Contains}
use Rattle.std.proofs.Common.{refl, sym, ◌∙◌, subst, append_assoc, inl, inr}
use Rattle.std.proofs.lemmas.List.Elements.{Contains-append_right}
use Rattle.ae_base.proofs.AllOf.{all_weaker}
use Rattle.ae_core.specs.declared.formulas.Formula.{Formula}
use Rattle.ae_core.specs.declared.terms.Sort.{Sort}
use Rattle.ae_core.specs.declared.terms.Term.{Term, Apply}
use Rattle.ae_journal.proofs.Splits.{all_contained, contains_here}
use Rattle.ae_journal.specs.InstanceLines.{FormulaFrom, TermFrom, IsInstance, IsInstanceBelow, HasGeneration, MayInstantiate}
use Rattle.ae_journal.specs.InstanceLines.FormulaFrom.{of_clause, of_fresh, of_part}
use Rattle.ae_journal.specs.InstanceLines.TermFrom.{stands, part, field}
use Rattle.ae_journal.specs.InstanceLines.IsInstance.{of_type, of_terms, of_axiom_terms}
use Rattle.ae_journal.specs.Standing.{Setting, IsBrought}
use Rattle.ae_journal.specs.States.{Owner, outside}
use Rattle.ae_journal.specs.Systems.{field_terms}
use Rattle.ae_journal.specs.declared.lines.Line.{Line}
use Rattle.ae_journal.specs.declared.lines.Line.TheVariants as line
use Rattle.ae_rules.specs.Clauses.{Clause}
use Rattle.ae_numerals_kept.specs.Lowest.{IsLowest, IsLowestTerm}
use Rattle.ae_numerals_kept.proofs.Lowest.{IsLowestClause, part_lowest, outside_lowest, arguments_lowest, fields_lowest, fresh_lowest}
use Rattle.ae_writable.specs.Numbers.{HasLowestNumerals}
use Rattle.ae_writable_journals.proofs.Fit.{IsFit, axiom_fit, brought_fit, instance_fit}

module _ (x : Setting) (lowest : HasLowestNumerals x.problem) where
  -- ---- what some clauses bring
  from_clauses : (from : Clause → Type 0) → ((c : Clause) → from c → IsLowestClause c) → (f : Formula) → FormulaFrom x from f → IsLowest f
  from_clauses from k _ (of_clause c l b i) = k c b l i
  from_clauses from k _ (of_fresh f c l p e i) = fresh_lowest f (x.fresh f) (from_clauses from k f p) c e l i
  from_clauses from k _ (of_part f h p i) = part_lowest f h (from_clauses from k f p) i

  from_formulas : (from : Formula → Type 0) → ((f : Formula) → from f → IsLowest f) → (t : Term) → TermFrom x from t → IsLowestTerm t
  from_formulas from k t (stands f _ p i) = all_contained IsLowestTerm (outside f) t (outside_lowest f (k f p)) i
  from_formulas from k t (part h ss us _ p i) = all_contained IsLowestTerm us t (arguments_lowest h ss us (from_formulas from k (Apply h ss us) p)) i
  from_formulas from k t (field s ss u _ p e r i) = all_contained IsLowestTerm (field_terms s u (length ss)) t (fields_lowest s u (length ss) (from_formulas from k u p)) i

  -- ---- instances
  instance_lowest : (j : Line) (c : Clause) (o : Owner) (ss : List Sort) (ts : List Term) → IsInstance x j c o ss ts → IsFit x j → IsLowestClause c
  instance_lowest _ c _ ss ts (of_type k _ _ _ e) w = axiom_fit x lowest k ss c e
  instance_lowest _ c _ _ ts (of_terms f _ _ sign e) w = instance_fit x lowest f ts c e w
  instance_lowest _ c _ ss ts (of_axiom_terms k _ f _ _ a e) w = instance_fit x lowest f ts c e w

  below_fit : (js : List Line) → AllByRecursion (IsFit x) js → (from : Formula → Type 0) (c : Clause) → IsInstanceBelow x from js c → IsLowestClause c
  below_fit js a from c b =
      let rest : Contains (b.since ++ b.later) b.instance_line = subst (λ (w : List Line). Contains w b.instance_line) (sym b.begins) (contains_here b.instance_line b.rest) in
      let there : Contains js b.instance_line = subst (λ (w : List Line). Contains w b.instance_line) (sym (b.is ∙ append_assoc b.before b.since b.later)) (Contains-append_right b.before (b.since ++ b.later) b.instance_line rest) in
      instance_lowest b.instance_line c b.owner b.sorts b.terms b.brings (all_contained (IsFit x) js b.instance_line a there)

  module _ (js : List Line) (a : AllByRecursion (IsFit x) js) where
    later_clauses : (n : ℕ) (c : Clause) → IsBrought x [] c ⊎ IsInstanceBelow x (HasGeneration x js n) js c → IsLowestClause c
    later_clauses n c (inl b) = brought_fit x lowest [] tt c b
    later_clauses n c (inr b) = below_fit js a (HasGeneration x js n) c b

    generation_fit : (n : ℕ) (f : Formula) → HasGeneration x js n f → IsLowest f
    generation_fit zero f h = from_clauses (IsBrought x []) (brought_fit x lowest [] tt) f h
    generation_fit (suc n) f h = from_clauses (λ c. IsBrought x [] c ⊎ IsInstanceBelow x (HasGeneration x js n) js c) (later_clauses n) f h

    -- ---- the terms put
    same_terms : (j : Line) (c : Clause) (o : Owner) (ss : List Sort) (us : List Term) → IsInstance x j c o ss us → (f : Formula) (ts : List Term) → j ≡ line.TermInstance f ts → us ≡ ts
    same_terms _ c _ _ us (of_type k ss _ _ e) f ts q = let z : ⊥ = cc q in absurd z
    same_terms _ c _ _ us (of_terms h _ _ sign e) f ts q = let z : us ≡ ts = cc q in z
    same_terms _ c _ _ us (of_axiom_terms k ss h _ _ d e) f ts q = let z : us ≡ ts = cc q in z

    pub put_terms_fit : (bound : ℕ) (f : Formula) (ts : List Term) → MayInstantiate x bound js (line.TermInstance f ts) → AllByRecursion IsLowestTerm ts
    put_terms_fit bound f ts m =
        subst (AllByRecursion IsLowestTerm) (same_terms (line.TermInstance f ts) m.clause m.owner m.sorts m.terms m.is f ts refl)
        (all_weaker (TermFrom x (HasGeneration x js m.number)) IsLowestTerm (from_formulas (HasGeneration x js m.number) (generation_fit m.number)) m.terms m.matched.matches.all_known)
