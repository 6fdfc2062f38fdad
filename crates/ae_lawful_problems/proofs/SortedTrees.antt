-- Typed trees whose sorts fit, under sorts put for the unknowns.
use Rattle.std.proofs.Common.{◌≡◌, ◌⊎◌, ◌<◌, ℕ, ℤ, Bool, true, false, nat_eq, List, [], ◌∷◌, ◌++◌, map, reverse, length, Option, Some, None}
use Rattle.std.proofs.Common.{slice_get}
use Rattle.std.specs.List.{AllByRecursion}
use Rattle.ae_core.specs.Sorts.{sort_ok, numeral_ok, head_sort, field_at, operands, on_real, predicate_fits}
use Rattle.ae_core.specs.declared.terms.Sort.{Sort, Int, Real, Bool as BoolSort, Named}
use Rattle.ae_core.specs.declared.terms.Head.{Head}
use Rattle.ae_core.specs.declared.terms.Head.TheVariants as head
use Rattle.ae_core.specs.declared.terms.Op.{Op}
use Rattle.ae_core.specs.declared.problems.Signature.{Signature}
use Rattle.ae_core.specs.declared.problems.SymbolEntry.{SymbolEntry}
use Rattle.ae_core.specs.declared.problems.TypeEntry.{TypeEntry}
use Rattle.ae_core.specs.declared.problems.FieldEntry.{FieldEntry}
use Rattle.ae_core.specs.declared.problems.Kind.TheVariants.{Fields}
use Rattle.ae_types.specs.Substitutions.{put}
use Rattle.ae_syntax.specs.declared.spans.Span.{Span}
use Rattle.ae_syntax.specs.declared.exprs.Quantifier.{Quantifier}
use Rattle.ae_elab.specs.Trees.{Tree, Trees, Patterns, Claim, Relation, equal, unequal, none, more, no_pattern, and_pattern, variable, numeral, apply}
use Rattle.ae_elab.specs.Trees.{operation, build, update, choice, truth, falsity, relation, predicate, distinct, holds, negation, conjunction}
use Rattle.ae_elab.specs.Trees.{disjunction, exclusion, equivalence, implication, conditional, quantified}

-- the bound variables with their sorts, the innermost first
abbrev pub Env : Type 0
Env = List (ℕ × Sort)

abbrev pub look : Env → ℕ → Option Sort
look [] x = None
look (b ∷ env) x = elim (nat_eq x b.0) [ true ↦ Some b.1 | false ↦ look env x ]

abbrev pub numbers : Env → List ℕ
numbers env = map (λ b. b.0) env

abbrev pub sorts : Env → List Sort
sorts env = map (λ b. b.1) env

-- a sort of declared types, with any type variables
abbrev pub fits : Signature → Sort → Bool
fits F = sort_ok F (λ i. true) (λ i. true)

abbrev pub AllFit : Signature → List Sort → Type 0
AllFit F ss = AllByRecursion (λ s. fits F s ≡ true) ss

-- a sort of an operation of arithmetic
abbrev pub IsNumber : Op → Sort → Type 0
IsNumber o t = (t ≡ Int) ⊎ ((t ≡ Real) × (on_real o ≡ true))

-- a numeric sort
abbrev pub IsNumeric : Sort → Type 0
IsNumeric t = (t ≡ Int) ⊎ (t ≡ Real)

-- the record type of this number
pub record IsRecordType (F : Signature) (of : ℕ) (ss : List Sort) (fs : List FieldEntry) : Type 0 where
  pub entry : TypeEntry
  pub declared : slice_get F.types of ≡ Some entry
  pub kind : entry.kind ≡ Fields fs
  pub arity : length ss ≡ entry.arity

-- these are the sorts of the fields at these places
abbrev pub AreFieldSorts : List Sort → List FieldEntry → List ℕ → List Sort → Type 0
AreFieldSorts ss fs [] [] = Unit {0}
AreFieldSorts ss fs [] (a ∷ args) = ⊥
AreFieldSorts ss fs (p ∷ ps) [] = ⊥
AreFieldSorts ss fs (p ∷ ps) (a ∷ args) = (field_at ss fs p ≡ Some a) × AreFieldSorts ss fs ps args

-- a predicate's application
pub record IsPredicate (F : Signature) (k : ℕ) (ss args : List Sort) : Type 0 where
  pub entry : SymbolEntry
  pub declared : slice_get F.symbols k ≡ Some entry
  pub right : predicate_fits ss args entry ≡ true

-- the sorts that a relation is between
abbrev pub IsRelated : Relation → Sort → Type 0
IsRelated equal s = Unit {0}
IsRelated unequal s = Unit {0}
IsRelated r s = IsNumeric s

mutual
  pub data Sorted (F : Signature) (m : ℕ → Sort) : Env → Tree → Sort → Type 0 where
    of_variable : (env : Env) (x : ℕ) (s : Sort) → look env x ≡ Some s → Sorted F m env (variable x) s
    of_whole : (env : Env) (a b : ℤ) → numeral_ok a b false ≡ true → Sorted F m env (numeral a b false) Int
    of_decimal : (env : Env) (a b : ℤ) → numeral_ok a b true ≡ true → Sorted F m env (numeral a b true) Real
    of_apply : (env : Env) (h : Head) (ss : List Sort) (us : Trees) (args : List Sort) (s : Sort) → AllFit F ss → head_sort F h (map (put m) ss) args ≡ Some s
        → AreSorted F m env us args → Sorted F m env (apply h ss us) s
    of_operation : (env : Env) (o : Op) (s : Sort) (us : Trees) (t : Sort) → put m s ≡ t → IsNumber o t → AreSorted F m env us (operands o (t ∷ [])) → Sorted F m env (operation o s us) t
    of_build : (env : Env) (of : ℕ) (ss : List Sort) (n : ℕ) (ps : List ℕ) (us : Trees) (fs : List FieldEntry) (args : List Sort) → AllFit F ss
        → IsRecordType F of (map (put m) ss) fs → n ≡ length fs → AreFieldSorts (map (put m) ss) fs ps args → ((k : ℕ) → k < n → (j : ℕ) × (slice_get ps j ≡ Some k))
        → AreSorted F m env us args → Sorted F m env (build of ss n ps us) (Named of (map (put m) ss))
    of_update : (env : Env) (of : ℕ) (ss : List Sort) (n : ℕ) (b : Tree) (ps : List ℕ) (us : Trees) (fs : List FieldEntry) (args : List Sort) → AllFit F ss
        → IsRecordType F of (map (put m) ss) fs → n ≡ length fs → AreFieldSorts (map (put m) ss) fs ps args → Sorted F m env b (Named of (map (put m) ss))
        → AreSorted F m env us args → Sorted F m env (update of ss n b ps us) (Named of (map (put m) ss))
    of_choice : (env : Env) (c : Claim) (a b : Tree) (s : Sort) → Fitting F m env c → Sorted F m env a s → Sorted F m env b s → Sorted F m env (choice c a b) s

  pub data AreSorted (F : Signature) (m : ℕ → Sort) : Env → Trees → List Sort → Type 0 where
    of_none : (env : Env) → AreSorted F m env none []
    of_more : (env : Env) (t : Tree) (us : Trees) (s : Sort) (args : List Sort) → Sorted F m env t s → AreSorted F m env us args → AreSorted F m env (more t us) (s ∷ args)

  -- a term of a trigger: a term that fits, or a predicate's application
  pub data IsTriggerTerm (F : Signature) (m : ℕ → Sort) : Env → Tree → Type 0 where
    a_trigger_term : (env : Env) (t : Tree) (s : Sort) → Sorted F m env t s → IsTriggerTerm F m env t
    a_predicate_term : (env : Env) (k : ℕ) (ss : List Sort) (us : Trees) (args : List Sort) → AllFit F ss → IsPredicate F k (map (put m) ss) args → AreSorted F m env us args
        → IsTriggerTerm F m env (apply (head.Symbol k) ss us)

  pub data AreTriggerTerms (F : Signature) (m : ℕ → Sort) : Env → Trees → Type 0 where
    no_terms : (env : Env) → AreTriggerTerms F m env none
    more_terms : (env : Env) (t : Tree) (us : Trees) → IsTriggerTerm F m env t → AreTriggerTerms F m env us → AreTriggerTerms F m env (more t us)

  pub data AreTriggers (F : Signature) (m : ℕ → Sort) : Env → Patterns → Type 0 where
    no_triggers : (env : Env) → AreTriggers F m env no_pattern
    more_triggers : (env : Env) (place : Span) (us : Trees) (ps : Patterns) → AreTriggerTerms F m env us → AreTriggers F m env ps → AreTriggers F m env (and_pattern place us ps)

  pub data Fitting (F : Signature) (m : ℕ → Sort) : Env → Claim → Type 0 where
    fits_truth : (env : Env) → Fitting F m env truth
    fits_falsity : (env : Env) → Fitting F m env falsity
    fits_relation : (env : Env) (r : Relation) (a b : Tree) (s : Sort) → IsRelated r s → Sorted F m env a s → Sorted F m env b s → Fitting F m env (relation r a b)
    fits_predicate : (env : Env) (k : ℕ) (ss : List Sort) (us : Trees) (args : List Sort) → AllFit F ss → IsPredicate F k (map (put m) ss) args → AreSorted F m env us args
        → Fitting F m env (predicate k ss us)
    fits_distinct : (env : Env) (us : Trees) (s : Sort) (args : List Sort) → AllByRecursion (λ a. a ≡ s) args → AreSorted F m env us args → Fitting F m env (distinct us)
    fits_holds : (env : Env) (t : Tree) → Sorted F m env t BoolSort → Fitting F m env (holds t)
    fits_negation : (env : Env) (a : Claim) → Fitting F m env a → Fitting F m env (negation a)
    fits_conjunction : (env : Env) (a b : Claim) → Fitting F m env a → Fitting F m env b → Fitting F m env (conjunction a b)
    fits_disjunction : (env : Env) (a b : Claim) → Fitting F m env a → Fitting F m env b → Fitting F m env (disjunction a b)
    fits_exclusion : (env : Env) (a b : Claim) → Fitting F m env a → Fitting F m env b → Fitting F m env (exclusion a b)
    fits_equivalence : (env : Env) (a b : Claim) → Fitting F m env a → Fitting F m env b → Fitting F m env (equivalence a b)
    fits_implication : (env : Env) (a b : Claim) → Fitting F m env a → Fitting F m env b → Fitting F m env (implication a b)
    fits_conditional : (env : Env) (c a b : Claim) → Fitting F m env c → Fitting F m env a → Fitting F m env b → Fitting F m env (conditional c a b)
    fits_quantified : (env : Env) (q : Quantifier) (bs : Env) (xs : List ℕ) (ss : List Sort) (ps : Patterns) (f : Claim) → xs ≡ numbers bs → map (put m) ss ≡ sorts bs
        → AllFit F ss → AreTriggers F m (reverse bs ++ env) ps → Fitting F m (reverse bs ++ env) f → Fitting F m env (quantified q xs ss ps f)
