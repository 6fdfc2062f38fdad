-- The lines of instances of a search: that they state clauses, and what stands in these.
use Rattle.std.specs.Prelude.{ℕ, Bool, true, false, not, ◌≡◌, List, [], ◌∷◌, Option, Some, None}
use Rattle.std.specs.List.{AllByRecursion, Contains, flat_map, list_all}
use Rattle.std.proofs.Common.{refl, sym, ap, ◌∙◌, subst, inl, inr}
use Rattle.std.proofs.lemmas.Bool.{and_from, and_parts}
use Rattle.ae_base.specs.Options.{only, when, or_else, known, ◌>>=◌}
use Rattle.ae_base.proofs.AllOf.{all_append, test_of_all}
use Rattle.ae_base.proofs.Options.{each_known, never_some, when_some}
use Rattle.ae_base.proofs.Tests.{false_true}
use Rattle.ae_between_rounds.specs.Fine.{IsFineFormula, IsFineLine}
use Rattle.ae_core.specs.Putting.{put_formula}
use Rattle.ae_core.specs.Sorts.{formula_ok, same_sorts, sort_of, sorts_of, term_ok}
use Rattle.ae_core.specs.declared.formulas.Formula.{Formula, Formula-F, out-Formula}
use Rattle.ae_core.specs.declared.formulas.Formula.TheOpen as layer
use Rattle.ae_core.specs.declared.formulas.Lit.{Lit}
use Rattle.ae_core.specs.declared.formulas.Quant.{Quant}
use Rattle.ae_core.specs.declared.problems.Problem.{Problem}
use Rattle.ae_core.specs.declared.problems.Signature.{Signature}
use Rattle.ae_core.specs.declared.proofs.ClauseLine.TheVariants.{Hyp, Inst}
use Rattle.ae_core.specs.declared.terms.Sort.{Sort}
use Rattle.ae_core.specs.declared.terms.Term.{Term}
use Rattle.ae_journal.proofs.Splits.{contains_cases, contains_one}
use Rattle.ae_legal_texts.proofs.Signs.{said_direct}
use Rattle.ae_legal_texts.specs.Numbers.{formula_numbers, sort_numbers, term_numbers}
use Rattle.ae_legal_texts.specs.Writable.{is_negation, no_negations}
use Rattle.ae_numerals_kept.proofs.Lowest.{instances_lowest, literal_lowest, sort_values}
use Rattle.ae_numerals_kept.specs.Lowest.{IsLowest, IsLowestTerm}
use Rattle.ae_rules.specs.Clauses.{Clause, yes_of, no_of, is_true, is_false}
use Rattle.ae_rules.specs.Derivations.{clause_of, HasConclusion}
use Rattle.ae_rules.specs.Instances.{have_sorts, instance_clause}
use Rattle.ae_writable.specs.Numbers.{IsValueWithin, AreValuesWithin}

-- ---- terms of sorts
module _ (sig : Signature) (ts : List Term) (ss : List Sort) (have : have_sorts sig ts ss ≡ true) where
  sorts_known : (o : Option (List Sort)) → sorts_of sig ts ≡ o → or_else (o >>= λ os. Some (same_sorts os ss)) false ≡ true → (os : List Sort) × (sorts_of sig ts ≡ Some os)
  sorts_known (Some os) e h = (os, e)
  sorts_known None e h = false_true h

  pub terms_sorted : list_all (term_ok sig) ts ≡ true
  terms_sorted =
      let k = sorts_known (sorts_of sig ts) refl have in
      test_of_all (λ (t : Term). (s : Sort) × (sort_of sig t ≡ Some s)) (term_ok sig) (λ t s. ap (λ (o : Option Sort). known o) s.1) ts (each_known (sort_of sig) ts k.0 k.1)

-- a block with terms of its sorts has a clause
pub all_states : (p : Problem) (g : ℕ) (f : Formula) (q : Quant) (ts : List Term) → out-Formula f ≡ layer.All q → formula_ok p.signature f ≡ true → have_sorts p.signature ts q.sorts ≡ true → HasConclusion p g (Inst f ts)
all_states p g f q ts o ok have = (
  is_false f ∷ yes_of (put_formula ts q.body) ∷ [],
  ap (λ (b : Bool). only b (clause_of p g (Inst f ts))) (and_from _ _ ok (terms_sorted p.signature ts q.sorts have)) ∙ ap (instance_clause p.signature f ts) o
      ∙ ap (λ (b : Bool). when b (is_false f ∷ yes_of (put_formula ts q.body) ∷ [])) have,
)

pub ex_states : (p : Problem) (g : ℕ) (f : Formula) (q : Quant) (ts : List Term) → out-Formula f ≡ layer.Ex q → formula_ok p.signature f ≡ true → have_sorts p.signature ts q.sorts ≡ true → HasConclusion p g (Inst f ts)
ex_states p g f q ts o ok have = (
  is_true f ∷ no_of (put_formula ts q.body) ∷ [],
  ap (λ (b : Bool). only b (clause_of p g (Inst f ts))) (and_from _ _ ok (terms_sorted p.signature ts q.sorts have)) ∙ ap (instance_clause p.signature f ts) o
      ∙ ap (λ (b : Bool). when b (is_true f ∷ no_of (put_formula ts q.body) ∷ [])) have,
)

-- ---- numerals and signs
abbrev is_direct : Formula → Bool
is_direct f = not (is_negation (out-Formula f))

direct_yes : (f : Formula) → is_direct (yes_of f).formula ≡ true
direct_yes f = (and_parts (is_direct (yes_of f).formula) (no_negations (no_of f ∷ [])) (said_direct f)).0

direct_no : (f : Formula) → is_direct (no_of f).formula ≡ true
direct_no f = (and_parts (is_direct (no_of f).formula) true (and_parts (is_direct (yes_of f).formula) (no_negations (no_of f ∷ [])) (said_direct f)).1).0

module _ (sig : Signature) (f : Formula) (ts : List Term) (c : Clause) (l : Lit) (i : Contains c l) where
  two : (a b : Lit) → is_direct a.formula ≡ true → is_direct b.formula ≡ true → a ∷ b ∷ [] ≡ c → is_direct l.formula ≡ true
  two a b x y q = elim (contains_cases a (b ∷ []) l (subst (λ (w : Clause). Contains w l) (sym q) i)) as (λ _. is_direct l.formula ≡ true) [
    | inl r ↦ subst (λ (z : Lit). is_direct z.formula ≡ true) r x
    | inr r ↦ subst (λ (z : Lit). is_direct z.formula ≡ true) (contains_one b l r) y
  ]

  direct_of : instance_clause sig f ts (out-Formula f) ≡ Some c → is_direct l.formula ≡ true
  direct_of e = from (out-Formula f) refl e
    where
      from : (o : Formula-F Formula Quant) → out-Formula f ≡ o → instance_clause sig f ts o ≡ Some c → is_direct l.formula ≡ true
      from (layer.All q) o h =
          let body = put_formula ts q.body in
          two (is_false f) (yes_of body) (ap (λ (y : Formula-F Formula Quant). not (is_negation y)) o) (direct_yes body) (when_some (have_sorts sig ts q.sorts) (is_false f ∷ yes_of body ∷ []) c h).1
      from (layer.Ex q) o h =
          let body = put_formula ts q.body in
          two (is_true f) (no_of body) (ap (λ (y : Formula-F Formula Quant). not (is_negation y)) o) (direct_no body) (when_some (have_sorts sig ts q.sorts) (is_true f ∷ no_of body ∷ []) c h).1
      from layer.True o h = never_some c h
      from layer.False o h = never_some c h
      from (layer.Eq x y) o h = never_some c h
      from (layer.Lt x y) o h = never_some c h
      from (layer.Le x y) o h = never_some c h
      from (layer.Pred p ss us) o h = never_some c h
      from (layer.Not x) o h = never_some c h
      from (layer.And x y) o h = never_some c h
      from (layer.Or x y) o h = never_some c h
      from (layer.Xor x y) o h = never_some c h
      from (layer.Iff x y) o h = never_some c h

pub instance_fine : (sig : Signature) (f : Formula) (ts : List Term) (c : Clause) → IsLowest f → AllByRecursion IsLowestTerm ts → instance_clause sig f ts (out-Formula f) ≡ Some c → (l : Lit) → Contains c l → IsFineFormula l.formula
instance_fine sig f ts c low lows e l i = (instances_lowest sig f ts low lows c e l i, direct_of sig f ts c l i e)

pub hypothesis_fine : (f : Formula) → IsLowest f → (l : Lit) → Contains (yes_of f ∷ []) l → IsFineFormula l.formula
hypothesis_fine f low l i = subst (λ (z : Lit). IsFineFormula z.formula) (contains_one (yes_of f) l i) (literal_lowest f low true, direct_yes f)

each_lowest : (ts : List Term) → AllByRecursion IsLowestTerm ts → AreValuesWithin (flat_map term_numbers ts)
each_lowest [] a = tt
each_lowest (t ∷ ts) a = all_append IsValueWithin (term_numbers t) (flat_map term_numbers ts) a.0 (each_lowest ts a.1)

each_sort : (ss : List Sort) → AreValuesWithin (flat_map sort_numbers ss)
each_sort [] = tt
each_sort (s ∷ ss) = all_append IsValueWithin (sort_numbers s) (flat_map sort_numbers ss) (sort_values s) (each_sort ss)

pub instance_line_fine : (f : Formula) (ts : List Term) → IsLowest f → AllByRecursion IsLowestTerm ts → IsFineLine (Inst f ts)
instance_line_fine f ts low lows = (all_append IsValueWithin (formula_numbers f) (flat_map term_numbers ts) low (each_lowest ts lows), refl)

pub hypothesis_line_fine : (k : ℕ) (ss : List Sort) → IsFineLine (Hyp k ss)
hypothesis_line_fine k ss = ((tt, each_sort ss), refl)
