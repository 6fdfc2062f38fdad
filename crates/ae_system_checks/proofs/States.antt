-- States of literals that say something of disjunctions and equations alone: what clauses ask of them.
use Rattle.std.specs.Prelude.{ℕ, Bool, true, false, cond, nat_eq, nat_lt, ◌≡◌, ◌≢◌, ◌⊎◌, List, [], ◌∷◌, ◌++◌, slice_get, Option, Some, None}
use Rattle.std.specs.List.{Contains}
use Rattle.std.proofs.Common.{inl, inr}
use Rattle.std.proofs.lemmas.Bool.{ltb-true}
use Rattle.std.proofs.lemmas.Option.{same_Some}
use Rattle.ae_base.proofs.Tests.{false_true}
use mathlib.Core.Path.{sym, ap, subst, ◌∙◌}
use native.Mathlib.Omega.{arith}
use Rattle.ae_base.specs.Options.{only}
use Rattle.ae_base.proofs.Options.{never_some, bind_some, only_some}
use Rattle.ae_core.proofs.Recursion.{fold_or, fold_not}
use Rattle.ae_core.specs.declared.formulas.Formula.{Formula, Eq, Not, Or, Pred, out-Formula}
use Rattle.ae_core.specs.declared.formulas.Formula.TheOpen as formula_layer
use Rattle.ae_core.specs.declared.formulas.Formula.TheVariants.{outs-Eq, outs-Or, outs-Pred}
use Rattle.ae_core.specs.declared.formulas.Lit.{Lit}
use Rattle.ae_core.specs.declared.formulas.Quant.{Quant}
use Rattle.ae_core.specs.declared.problems.Problem.{Problem}
use Rattle.ae_core.specs.declared.terms.Sort.{Sort, Int, out-Sort}
use Rattle.ae_core.specs.declared.terms.Sort.TheOpen as sort_layer
use Rattle.ae_core.specs.declared.terms.Sort.TheVariants.{outs-Named, outs-Int}
use Rattle.ae_core.specs.declared.terms.Term.{Term}
use Rattle.ae_rules.specs.Clauses.{Clause, is_true, is_false, yes_of, no_of, row, or_row}
use Rattle.ae_rules.specs.Instances.{hypothesis}
use Rattle.ae_rules.specs.declared.rows.TheConstants.{OR_FROM_LEFT, OR_FROM_RIGHT, OR_TO_EITHER}
use Rattle.ae_rules.proofs.ClauseLaws.{row_or}
use Rattle.ae_journal.specs.States.{SomeStands, Comes, HasGeneration, Matches, Owner, of_literal, of_axiom, Pattern, pattern_of, all_taken, Selection}
use Rattle.ae_journal.specs.States.{outside, outside_step, quant_of, is_universal_by, inequality, inequality_of}
use Rattle.ae_journal.specs.States.Comes.{first as comes_first, by_row, by_block}
use Rattle.ae_journal.specs.declared.systems.Saturated.{Saturated}
use Rattle.ae_journal.proofs.Splits.{contains_here, contains_later}
use Rattle.ae_system_checks.specs.Examples.{T}

-- ---- equality of formulas and literals
pub sides : (p q s t : Term) → Eq p q ≡ Eq s t → (p ≡ s) × (q ≡ t)
sides p q s t e = let z : formula_layer.Eq p q ≡ formula_layer.Eq s t = sym (outs-Eq p q) ∙ ap out-Formula e ∙ outs-Eq s t in (cc, cc)

pub formula_of : {c d : Bool} {f g : Formula} → ◌≡◌ {A = Lit} (record { positive = c; formula = f }) (record { positive = d; formula = g }) → f ≡ g
formula_of e = ap (λ (l : Lit). l.formula) e

pub wrong_sign : {A : Type 0} {f g : Formula} → is_false f ≡ is_true g → A
wrong_sign e = false_true (ap (λ (l : Lit). l.positive) e)

-- ---- the terms in a formula
pub outside_or : (f g : Formula) → outside (Or f g) ≡ outside f ++ outside g
unfolding outside
outside_or f g = fold_or (List Term) (Unit {0}) outside_step (λ q. tt) f g

pub outside_not : (f : Formula) → outside (Not f) ≡ outside f
unfolding outside
outside_not f = fold_not (List Term) (Unit {0}) outside_step (λ q. tt) f

-- ---- the first item has no hypothesis
pub no_hypothesis : (p : Problem) (k : ℕ) (ss : List Sort) (f : Formula) → hypothesis p 0 k ss ≡ Some f → ⊥
no_hypothesis p k ss f e =
    let b = bind_some (only (nat_lt k 0) (slice_get p.items k)) _ f e in
    let o = only_some (nat_lt k 0) (slice_get p.items k) b.0 b.1 in
    let z = ltb-true k 0 o.0 in omega (arith, z)

no_axiom : (p : Problem) (k : ℕ) (q : Pattern) → pattern_of p 0 (of_axiom k) ≡ Some q → ⊥
no_axiom p k q e =
    let b = bind_some (only (nat_lt k 0) (slice_get p.items k)) _ q e in
    let o = only_some (nat_lt k 0) (slice_get p.items k) b.0 b.1 in
    let z = ltb-true k 0 o.0 in omega (arith, z)

-- ---- the rows of a disjunction that fails, with both its parts
module _ (p : Problem) (g : ℕ) (st : Saturated) where
  pub of_or : (f h : Formula) → Contains st.literals (is_false (Or f h)) → Contains st.literals (no_of f) → Contains st.literals (no_of h)
      → (r : ℕ) (c : Clause) → row r (Or f h) ≡ Some c → SomeStands p g st c
  of_or f h o a b r c e = from_rows (sym (row_or r f h) ∙ e)
    where
      found : {A : Type 0} (d : Clause) (left : Option Clause) (q : Bool) → cond q (Some d) left ≡ Some c → (d ≡ c → A) → (left ≡ Some c → A) → A
      found d left true e k m = k (same_Some d c e)
      found d left false e k m = m e

      with : (d : Clause) (l : Lit) → Contains d l → Contains st.literals l → d ≡ c → SomeStands p g st c
      with d l i j e = subst (SomeStands p g st) e (l, i, j)

      from_rows : or_row r (Or f h) f h ≡ Some c → SomeStands p g st c
      from_rows e =
          found (is_true (Or f h) ∷ no_of f ∷ []) _ (nat_eq r OR_FROM_LEFT) e
          (with (is_true (Or f h) ∷ no_of f ∷ []) (no_of f) (contains_later (is_true (Or f h)) (no_of f ∷ []) (no_of f) (contains_here (no_of f) [])) a)
          (λ e. found (is_true (Or f h) ∷ no_of h ∷ []) _ (nat_eq r OR_FROM_RIGHT) e
          (with (is_true (Or f h) ∷ no_of h ∷ []) (no_of h) (contains_later (is_true (Or f h)) (no_of h ∷ []) (no_of h) (contains_here (no_of h) [])) b)
          (λ e. found (is_false (Or f h) ∷ yes_of f ∷ yes_of h ∷ []) None (nat_eq r OR_TO_EITHER) e
          (with (is_false (Or f h) ∷ yes_of f ∷ yes_of h ∷ []) (is_false (Or f h)) (contains_here (is_false (Or f h)) (yes_of f ∷ yes_of h ∷ [])) o)
          (λ e. never_some c e)))

-- ---- literals of disjunctions and equations
abbrev pub Plain : Lit → Type 0
Plain l = ((f : Formula) × (h : Formula) × (out-Formula l.formula ≡ formula_layer.Or f h)) ⊎ ((s : Term) × (t : Term) × (out-Formula l.formula ≡ formula_layer.Eq s t))

pub plain_or : (f h : Formula) (c : Bool) → Plain (record { positive = c; formula = Or f h })
plain_or f h c = inl (f, h, outs-Or f h)

pub plain_eq : (s t : Term) (c : Bool) → Plain (record { positive = c; formula = Eq s t })
plain_eq s t c = inr (s, t, outs-Eq s t)

pub no_predicate : (q : ℕ) (ss : List Sort) (ts : List Term) (c : Bool) → Plain (record { positive = c; formula = Pred q ss ts }) → ⊥
no_predicate q ss ts c (inl (f, h, e)) = let z : formula_layer.Pred q ss ts ≡ formula_layer.Or f h = sym (outs-Pred q ss ts) ∙ e in cc
no_predicate q ss ts c (inr (s, t, e)) = let z : formula_layer.Pred q ss ts ≡ formula_layer.Eq s t = sym (outs-Pred q ss ts) ∙ e in cc

pub no_inequality : (l : Lit) → Plain l → (z : Term × Term × Bool) → inequality l ≡ Some z → ⊥
no_inequality l (inl (f, h, d)) z e = not_or l.positive (sym (ap (inequality_of l.positive) d) ∙ e)
  where
    not_or : (c : Bool) → inequality_of c (formula_layer.Or f h) ≡ Some z → ⊥
    not_or true e = never_some z e
    not_or false e = never_some z e
no_inequality l (inr (s, t, d)) z e = not_eq l.positive (sym (ap (inequality_of l.positive) d) ∙ e)
  where
    not_eq : (c : Bool) → inequality_of c (formula_layer.Eq s t) ≡ Some z → ⊥
    not_eq true e = never_some z e
    not_eq false e = never_some z e

pub no_quant : (l : Lit) → Plain l → (q : Quant) → quant_of (out-Formula l.formula) ≡ Some q → ⊥
no_quant l (inl (f, h, d)) q e = never_some q (sym (ap quant_of d) ∙ e)
no_quant l (inr (s, t, d)) q e = never_some q (sym (ap quant_of d) ∙ e)

pub no_pattern : (p : Problem) (g : ℕ) (l : Lit) → Plain l → (q : Pattern) → pattern_of p g (of_literal l) ≡ Some q → ⊥
no_pattern p g l i q e =
    let b = bind_some (only (is_universal_by l.positive (out-Formula l.formula)) (quant_of (out-Formula l.formula))) _ q e in
    let o = only_some (is_universal_by l.positive (out-Formula l.formula)) (quant_of (out-Formula l.formula)) b.0 b.1 in
    no_quant l i b.0 o.1

-- what comes from other literals stands
pub come : (p : Problem) (g : ℕ) (st : Saturated) (takes : Selection) (from : Lit → Type 0) (l : Lit) → Comes p g st takes from l → Contains st.literals l
come p g st takes from l (comes_first a b) = b
come p g st takes from l (by_row q c a b d e f h) = h
come p g st takes from _ (by_block q a b c d) = d

pub none_matches : (p : Problem) (st : Saturated) → ((l : Lit) → Contains st.literals l → Plain l) → (n : ℕ) (o : Owner) (us : List Sort) (ts : List Term)
    → Matches p 0 st all_taken (HasGeneration p 0 st all_taken n) o us ts → ⊥
none_matches p st plain n (of_literal l) us ts m = no_pattern p 0 l (plain l (come p 0 st all_taken (HasGeneration p 0 st all_taken n) l m.owner_comes)) m.pattern m.of_owner
none_matches p st plain n (of_axiom k) us ts m = no_axiom p k m.pattern m.of_owner

pub not_int : T ≢ Int
not_int e = let z : sort_layer.Named 0 [] ≡ sort_layer.Int = sym (outs-Named 0 []) ∙ ap out-Sort e ∙ outs-Int in cc
