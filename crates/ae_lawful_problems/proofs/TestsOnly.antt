-- Rules that state nothing of sorts: names and numbers alone are looked at.
use Rattle.std.proofs.Common.{ℕ, true, false, Bool, List, [], ◌∷◌, ◌++◌, map, sym, subst, Option, Some, None}
use Rattle.std.specs.List.{AllByRecursion}
use Rattle.std.specs.Str.{bytes_eq}
use Rattle.ae_base.proofs.AllOf.{all_append}
use Rattle.ae_core.specs.declared.terms.Sort.{Sort}
use Rattle.ae_core.specs.declared.problems.Signature.{Signature}
use Rattle.ae_syntax.specs.declared.spans.Span.{Span}
use Rattle.ae_syntax.specs.declared.types.WrittenType.{WrittenType}
use Rattle.ae_syntax.specs.declared.exprs.Quantifier.{Quantifier}
use Rattle.ae_elab.specs.declared.grounds.Ground.{Ground}
use Rattle.ae_elab.specs.declared.grounds.Ground.TheVariants as ground
use Rattle.ae_elab.specs.Conditions.{Condition}
use Rattle.ae_elab.specs.Trees.{Patterns, Claim, no_pattern, and_pattern, truth, falsity, relation, predicate, distinct, holds, negation, conjunction}
use Rattle.ae_elab.specs.Trees.{disjunction, exclusion, equivalence, implication, conditional, quantified}
use Rattle.ae_elab.specs.Scope.{Scope, name_at, type_number, first_place}
use Rattle.ae_elab.specs.Rules.{Passed, Rule, give, ◌>>◌, each, occurrence, Around}
use Rattle.ae_elab.specs.WrittenTypes.{TypeRule, type_rule, variable_rule, parameter, named_rule}
use Rattle.ae_elab.specs.Formulas.{all_new, same_quantifier, covering_all, merging_triggers, merging, merging_into}
use Rattle.ae_typed_laws.proofs.BuiltRules.{int_rule, real_rule, bool_rule, unit_rule, var_rule, named_type_rule}
use Rattle.ae_typed_laws.proofs.ParsedTrees.{IsWritten, AreWritten, is_int, is_real, is_bool, is_unit, is_var, is_named, and_type, no_types}
use Rattle.ae_lawful_problems.proofs.FitRules.{FitCondition}

module _ (F : Signature) where
  abbrev Fine : List Condition → Type 0
  Fine cs = AllByRecursion (FitCondition F) cs

  abbrev pub Tests : {A : Type 0} → Rule A → Type 0
  Tests r = (p : Passed) → Fine (r p).conditions

  pub tests_then : {A B : Type 0} (r : Rule A) (f : A → Rule B) → Tests r → ((x : A) → Tests (f x)) → Tests (r >> f)
  tests_then r f h k p = all_append (FitCondition F) (r p).conditions (f (r p).value (r p).passed).conditions (h p) (k (r p).value (r p).passed)

  pub tests_each : {A B : Type 0} (f : A → Rule B) (xs : List A) → AllByRecursion (λ x. Tests (f x)) xs → Tests (each f xs)
  tests_each f [] a = λ p. tt
  tests_each f (x ∷ xs) a = tests_then (f x) (λ y. each f xs >> λ ys. give (y ∷ ys)) a.0 (λ y. tests_then (each f xs) (λ ys. give (y ∷ ys)) (tests_each f xs a.1) (λ ys p. tt))

  tests_occurrence : (o : Option ℕ) (name : List ℕ) → Tests (occurrence o name)
  tests_occurrence (Some n) name p = tt
  tests_occurrence None name p = tt

  tests_parameter : (sc : Scope) (s : Span) (o : Option ℕ) → Tests (parameter sc s o)
  tests_parameter sc s (Some n) p = tt
  tests_parameter sc s None p = (tt, tt)

  tests_variable : (g : Ground) (sc : Scope) (s : Span) → Tests (variable_rule g sc s)
  tests_variable ground.Free sc s p = tests_occurrence (first_place (bytes_eq (name_at sc s)) p.written) (name_at sc s) p
  tests_variable (ground.InField params own) sc s p = tests_parameter sc s (first_place (bytes_eq (name_at sc s)) params) p

  tests_named : (g : Ground) (sc : Scope) (s : Span) (ss : List Sort) (o : Option ℕ) → Tests (named_rule g sc s ss o)
  tests_named g sc s ss None p = (tt, tt)
  tests_named g sc s ss (Some h) p = (tt, (tt, tt))

  pub record TypeTests (r : TypeRule) : Type 0 where
    pub at : (g : Ground) (sc : Scope) (p : Passed) → Fine (r g sc p).conditions

  each_at : (g : Ground) (sc : Scope) (rs : List TypeRule) → AllByRecursion TypeTests rs → AllByRecursion (λ (r : TypeRule). Tests (r g sc)) rs
  each_at g sc [] a = tt
  each_at g sc (r ∷ rs) a = (a.0.at g sc, each_at g sc rs a.1)

  module _ (text : List ℕ) where
    mutual
      pub type_tests : {w : WrittenType} → IsWritten text w → TypeTests (type_rule w)
      type_tests (is_int s) = subst TypeTests (sym (int_rule s)) (record { at = λ g sc p. tt })
      type_tests (is_real s) = subst TypeTests (sym (real_rule s)) (record { at = λ g sc p. tt })
      type_tests (is_bool s) = subst TypeTests (sym (bool_rule s)) (record { at = λ g sc p. tt })
      type_tests (is_unit s) = subst TypeTests (sym (unit_rule s)) (record { at = λ g sc p. tt })
      type_tests (is_var s h) = subst TypeTests (sym (var_rule s)) (record { at = λ g sc p. tests_variable g sc s p })
      type_tests (is_named s n ws h a) =
          subst TypeTests (sym (named_type_rule s n ws))
          (record {
            at = λ g sc p. tests_then (each (λ (r : TypeRule). r g sc) (map type_rule ws)) (λ ss. named_rule g sc n ss (type_number sc.signature (name_at sc n)))
                (tests_each (λ (r : TypeRule). r g sc) (map type_rule ws) (each_at g sc (map type_rule ws) (types_tests a)))
                (λ ss. tests_named g sc n ss (type_number sc.signature (name_at sc n))) p;
          })

      pub types_tests : {ws : List WrittenType} → AreWritten text ws → AllByRecursion TypeTests (map type_rule ws)
      types_tests no_types = tt
      types_tests (and_type w ws h a) = (type_tests h, types_tests a)

  -- ---- names and triggers
  pub tests_new : (seen : List (List ℕ)) (xs : List Span) (sc : Scope) → Fine (all_new seen xs sc)
  tests_new seen [] sc = tt
  tests_new seen (x ∷ xs) sc = (tt, tests_new (name_at sc x ∷ seen) xs sc)

  tests_covering : (xs : List ℕ) (ps : Patterns) → Fine (covering_all xs ps)
  tests_covering xs no_pattern = tt
  tests_covering xs (and_pattern place us ps) = (tt, tests_covering xs ps)

  tests_merged : (xs : List ℕ) (ps : Patterns) (inner : List Condition) → Fine inner → Fine (merging_triggers xs ps inner)
  tests_merged xs no_pattern inner h = h
  tests_merged xs (and_pattern place us ps) inner h = tests_covering xs (and_pattern place us ps)

  tests_if : (b : Bool) (cs : List Condition) → Fine cs → Fine (elim b [ true ↦ cs | false ↦ [] ])
  tests_if true cs h = h
  tests_if false cs h = tt

  tests_merging : (q : Quantifier) (xs : List ℕ) (f : Claim) → Fine (merging q xs f)
  tests_merging q xs (quantified r ys ss ps f) =
      tests_if (same_quantifier q r) (merging_triggers (xs ++ ys) ps (merging q (xs ++ ys) f)) (tests_merged (xs ++ ys) ps (merging q (xs ++ ys) f) (tests_merging q (xs ++ ys) f))
  tests_merging q xs truth = tt
  tests_merging q xs falsity = tt
  tests_merging q xs (relation r s t) = tt
  tests_merging q xs (predicate k ss us) = tt
  tests_merging q xs (distinct us) = tt
  tests_merging q xs (holds t) = tt
  tests_merging q xs (negation a) = tt
  tests_merging q xs (conjunction a b) = tt
  tests_merging q xs (disjunction a b) = tt
  tests_merging q xs (exclusion a b) = tt
  tests_merging q xs (equivalence a b) = tt
  tests_merging q xs (implication a b) = tt
  tests_merging q xs (conditional c a b) = tt

  pub tests_around : (around : Around) (f : Claim) → Fine (merging_into around f)
  tests_around None f = tt
  tests_around (Some a) f = tests_merging a.0 a.1 f
