-- The constants that a line puts are new where none of them is mentioned.
use Rattle.std.specs.Prelude.{ℕ, zero, suc, ◌<◌, Bool, true, false, not, ◌||◌, List, [], ◌∷◌, ◌++◌, ◌≡◌, ◌↔◌, IsTrue, length, get_or}
use Rattle.std.specs.List.{AllByRecursion, Contains, list_any, flat_map}
use Rattle.std.proofs.lemmas.List.Folds.{list_any-append}
use Rattle.std.proofs.lemmas.Bool.{or_right}
use Rattle.std.proofs.Math.Bool.{or-true}
use Rattle.std.proofs.Common.{true≢false}
use mathlib.Core.Path.{refl, sym, ap, ◌∙◌, subst}
use native.Mathlib.Omega.{arith}
use Rattle.ae_base.specs.Decided.{decided}
use Rattle.ae_core.specs.Decided.{Term_discrete}
use Rattle.ae_base.specs.Options.{or_else}
use Rattle.ae_base.proofs.Decided.{decided_yes, decided_of}
use Rattle.ae_base.proofs.Tests.{by_either}
use Rattle.ae_rules.specs.Lines.{states}
use Rattle.ae_rules.specs.Clauses.{Clause}
use Rattle.ae_rules.specs.Instances.{count_from, fresh_terms}
use Rattle.ae_core.specs.Constants.{constants, formula_constants, clause_constants}
use Rattle.ae_rules.specs.Derivations.{conclusion, own_constants, line_constants}
use Rattle.ae_core.specs.declared.terms.Sort.{Sort}
use Rattle.ae_core.specs.declared.terms.Term.{Term}
use Rattle.ae_core.specs.declared.formulas.Formula.{Formula}
use Rattle.ae_core.specs.declared.problems.Problem.{Problem}
use Rattle.ae_core.specs.declared.proofs.EqLine.{EqLine}
use Rattle.ae_core.specs.declared.proofs.ClauseLine.{ClauseLine}
use Rattle.ae_core.specs.declared.proofs.ClauseLine.TheVariants.{Hyp, Goal, Def, Inst, Fresh as FreshLine, Exh, Tri, Block, Rup}
use Rattle.ae_calc.specs.Inner.Mentions.{is_put, mentions, formula_mentions, clause_mentions, derived_mentions, own_mentions, line_mentions, no_mention}
use Rattle.ae_calc.proofs.Mentioning.{any_flat}

-- ---- what a line mentions, and its constants
module _ (m : ℕ) (ss : List Sort) where
  abbrev Among : List Term → Bool
  Among = list_any (is_put m ss)

  of_terms : (ts : List Term) → list_any (mentions m ss) ts ≡ Among (flat_map constants ts)
  unfolding mentions
  of_terms ts = sym (any_flat (is_put m ss) constants ts)

  of_sides : (s t : Term) → mentions m ss s || mentions m ss t ≡ Among (constants s ++ constants t)
  unfolding mentions
  of_sides s t = sym (list_any-append (is_put m ss) (constants s) (constants t))

  of_clause : (c : Clause) → clause_mentions m ss c ≡ Among (clause_constants c)
  unfolding formula_mentions
  of_clause c = sym (any_flat (is_put m ss) (λ l. formula_constants l.formula) c)

  of_lines : (ls : List EqLine) → list_any (derived_mentions m ss) ls ≡ Among (flat_map (λ l. constants (states l).left ++ constants (states l).right) ls)
  of_lines [] = refl
  of_lines (l ∷ ls) =
      (λ j. of_sides (states l).left (states l).right j || of_lines ls j)
      ∙ sym (list_any-append (is_put m ss) (constants (states l).left ++ constants (states l).right) (flat_map (λ l. constants (states l).left ++ constants (states l).right) ls))

  of_formula : (f : Formula) → formula_mentions m ss f ≡ Among (formula_constants f)
  unfolding formula_mentions
  of_formula f = refl

  of_term : (t : Term) → mentions m ss t ≡ Among (constants t)
  unfolding mentions
  of_term t = refl

  -- two parts, each with its constants
  joined : (a b : Bool) (xs ys : List Term) → a ≡ Among xs → b ≡ Among ys → a || b ≡ Among (xs ++ ys)
  joined a b xs ys p q = (λ j. p j || q j) ∙ sym (list_any-append (is_put m ss) xs ys)

  of_own : (l : ClauseLine) → own_mentions m ss l ≡ Among (own_constants l)
  of_own (Hyp k os) = refl
  of_own Goal = refl
  of_own (Def r f) = of_formula f
  of_own (Inst f ts) = joined (formula_mentions m ss f) (list_any (mentions m ss) ts) (formula_constants f) (flat_map constants ts) (of_formula f) (of_terms ts)
  of_own (FreshLine f n) = joined (formula_mentions m ss f) (Among (fresh_terms n f)) (formula_constants f) (fresh_terms n f) (of_formula f) refl
  of_own (Exh t) = of_term t
  of_own (Tri s t) = of_sides s t
  of_own (Block b) =
      joined (clause_mentions m ss b.deriv.hyps) (list_any (derived_mentions m ss) b.deriv.lines) (clause_constants b.deriv.hyps)
      (flat_map (λ l. constants (states l).left ++ constants (states l).right) b.deriv.lines) (of_clause b.deriv.hyps) (of_lines b.deriv.lines)
  of_own (Rup c ks) = of_clause c

  of_line : (p : Problem) (g : ℕ) (l : ClauseLine) → line_mentions p g m ss l ≡ Among (line_constants p g l)
  of_line p g l =
      joined (own_mentions m ss l) (clause_mentions m ss (or_else (conclusion p g l) [])) (own_constants l) (clause_constants (or_else (conclusion p g l) []))
      (of_own l) (of_clause (or_else (conclusion p g l) []))

  of_earlier : (p : Problem) (g : ℕ) (ls : List ClauseLine) → list_any (line_mentions p g m ss) ls ≡ Among (flat_map (line_constants p g) ls)
  of_earlier p g [] = refl
  of_earlier p g (l ∷ ls) = joined (line_mentions p g m ss l) (list_any (line_mentions p g m ss) ls) (line_constants p g l) (flat_map (line_constants p g) ls) (of_line p g l) (of_earlier p g ls)

  of_all : (p : Problem) (g : ℕ) (ls : List ClauseLine) (f : Formula) → no_mention p g ls m ss f ≡ not (Among (formula_constants f ++ flat_map (line_constants p g) ls))
  of_all p g ls f =
      ap not (joined (formula_mentions m ss f) (list_any (line_mentions p g m ss) ls) (formula_constants f) (flat_map (line_constants p g) ls) (of_formula f) (of_earlier p g ls))

-- ---- no element of one list stands in another
abbrev pub Apart : List Term → List Term → Type 0
Apart xs cs = AllByRecursion (λ c. ¬ (Contains xs c)) cs

abbrev same : Term → Term → Bool
same c t = decided (Term_discrete c t)

-- an element that is among the others
found : (cs xs : List Term) (k : ℕ) (d : Term) → k < length xs → list_any (λ c. same c (get_or xs k d)) cs ≡ true → list_any (λ t. list_any (λ c. same c t) cs) xs ≡ true
found cs [] k d b e = absurd (omega (arith, b))
found cs (x ∷ xs) zero d b e = ap (λ h. h || list_any (λ t. list_any (λ c. same c t) cs) xs) e
found cs (x ∷ xs) (suc k) d b e = ap (λ h. list_any (λ c. same c x) cs || h) (found cs xs k d (omega (arith, b)) e) ∙ or-true (list_any (λ c. same c x) cs)

-- whether an element of the second list is among those of the first
abbrev meet : List Term → List Term → Bool
meet cs xs = list_any (λ t. list_any (λ c. same c t) cs) xs

apart_go : (cs xs ds : List Term) → ((c : Term) → list_any (λ d. same d c) ds ≡ true → list_any (λ d. same d c) cs ≡ true) → meet cs xs ≡ false → Apart xs ds
apart_go cs xs [] h e = tt
apart_go cs xs (c ∷ ds) h e = (λ a. clash (h c (ap (λ b. b || list_any (λ d. same d c) ds) (decided_of (Term_discrete c c) refl))) a, apart_go cs xs ds (λ d i. h d (or_right (same c d) (list_any (λ b. same b d) ds) i)) e)
  where
    clash : list_any (λ d. same d c) cs ≡ true → Contains xs c → ⊥
    clash i a = true≢false (sym (found cs xs a.0 c a.1 (ap (λ t. list_any (λ d. same d t) cs) a.2 ∙ i)) ∙ e)

apart_of : (cs xs : List Term) → meet cs xs ≡ false → Apart xs cs
apart_of cs xs e = apart_go cs xs cs (λ c i. i) e

hit : (xs cs : List Term) (t : Term) → list_any (λ c. same c t) cs ≡ true → Apart xs cs → Contains xs t → ⊥
hit xs [] t e a i = absurd (cc)
hit xs (c ∷ cs) t e a i =
    by_either (same c t) (list_any (λ c. same c t) cs) e (λ s. a.0 (subst (Contains xs) (sym (decided_yes (Term_discrete c t) s)) i)) (λ s. hit xs cs t s a.1 i)

meets_none : (xs cs ys : List Term) → ((t : Term) → Contains ys t → Contains xs t) → meet cs ys ≡ true → Apart xs cs → ⊥
meets_none xs cs [] sub e a = absurd (cc)
meets_none xs cs (y ∷ ys) sub e a =
    by_either (list_any (λ c. same c y) cs) (meet cs ys) e (λ s. hit xs cs y s a (sub y (zero, omega arith, refl)))
    (λ s. meets_none xs cs ys (λ t i. sub t (suc i.0, omega (arith, i.1), i.2)) s a)

by_cases : (b : Bool) (P : Type 0) → (b ≡ false → P) → (b ≡ true → P → ⊥) → IsTrue (not b) ↔ P
by_cases true P f n = (λ t. absurd (cc), λ p. absurd (n refl p))
by_cases false P f n = (λ t. f refl, λ p. refl)

apart_meet : (cs xs : List Term) → IsTrue (not (meet cs xs)) ↔ Apart xs cs
apart_meet cs xs = by_cases (meet cs xs) (Apart xs cs) (apart_of cs xs) (λ e a. meets_none xs cs xs (λ t i. i) e a)

-- constants that aren't mentioned are new
pub new_where : (p : Problem) (g : ℕ) (ls : List ClauseLine) (m : ℕ) (ss : List Sort) (f : Formula) (b : Bool) → b ≡ no_mention p g ls m ss f → IsTrue b ↔ Apart (formula_constants f ++ flat_map (line_constants p g) ls) (count_from m ss)
unfolding is_put
new_where p g ls m ss f b e =
    subst (λ b. IsTrue b ↔ Apart (formula_constants f ++ flat_map (line_constants p g) ls) (count_from m ss)) (sym (e ∙ of_all m ss p g ls f))
    (apart_meet (count_from m ss) (formula_constants f ++ flat_map (line_constants p g) ls))
