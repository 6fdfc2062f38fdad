-- The truth of a formula of the ground fragment, with terms put for its variables or constants of their values.
use Rattle.std.specs.Prelude.{ℕ, zero, suc, ◌-◌, Bool, true, cond, not, ◌&&◌, ◌||◌, nat_eq, nat_lt, List, [], ◌∷◌, ◌++◌, ◌≡◌, map, length, reverse, slice_get, Option, Some, None}
use Rattle.ae_base.proofs.ListFacts.{empty_parts}
use Rattle.std.specs.List.{AllByRecursion, flat_map}
use mathlib.Core.Path.{refl, sym, ap, ◌∙◌, subst}
use native.Mathlib.Omega.{arith}
use Rattle.ae_base.specs.Decided.{decided}
use Rattle.ae_core.specs.Inner.Induction.{by_terms, by_formulas}
use Rattle.ae_base.specs.Options.{or_else}
use Rattle.ae_core.specs.Sorts.{variable_sort, same_sorts}
use Rattle.ae_rules.specs.Valuations.{same_truth}
use Rattle.ae_core.specs.Putting.{put_terms, put_formula_in}
use Rattle.ae_core.specs.Constants.{constants, formula_constants, formula_constants_step}
use Rattle.ae_core.proofs.PuttingLaws.{put_bound, put_num, put_fresh, put_apply, put_true, put_false, put_eq, put_pred, put_not, put_and, put_or, put_xor, put_iff}
use Rattle.ae_core.proofs.Recursion.{fold_true, fold_false, fold_eq, fold_lt, fold_le, fold_pred, fold_not, fold_and, fold_or, fold_xor, fold_iff, fold_all, fold_ex}
use Rattle.ae_core.proofs.Recursion as recursion
use Rattle.ae_core.specs.declared.terms.Sort.{Sort}
use Rattle.ae_core.specs.declared.terms.Head.{Head}
use Rattle.ae_core.specs.declared.terms.Term.{Term, Bound, Apply}
use Rattle.ae_core.specs.declared.formulas.Formula.{Formula, Formula-F, True, False, Eq, Pred, Not, And, Or, Xor, Iff, out-Formula}
use Rattle.ae_core.specs.declared.formulas.Formula.TheOpen as layer
use Rattle.ae_core.specs.declared.formulas.Quant.{Quant}
use Rattle.ae_core.specs.declared.formulas.Lit.{Lit}
use Rattle.ae_core.specs.declared.problems.Signature.{Signature}
use Rattle.ae_journal.specs.Values.{Val, Val_discrete}
use Rattle.ae_journal.specs.Keys.{Numbering}
use Rattle.ae_journal.specs.Evaluation.{ev, plain_value, same_as_stated, is_true_in}
use Rattle.ae_journal.specs.Truth.{is_said, says_by, all_same}
use Rattle.ae_journal.specs.Ground.{is_simple, simple_step, atom_terms, atom_terms_step, subterms, subterms_step, IsFragmentTerm, HasFragmentSort}
use Rattle.ae_evaluation.proofs.Facts.{Shapes}
use Rattle.ae_evaluation.proofs.Decisions.{both_all}
use Rattle.ae_evaluation.proofs.Linear.{firsts}
use Rattle.ae_evaluation.proofs.Substitution.{Fill, put_same}
use Rattle.ae_evaluation.proofs.Truths.{truth_true, truth_false, truth_eq, truth_pred, truth_not, truth_and, truth_or, truth_xor, truth_iff}
use Rattle.ae_evaluation.proofs.Literals.{simple-Not, simple-And, simple-Or, simple-Xor, simple-Iff, lt_not_simple, le_not_simple, all_not_simple, ex_not_simple}
use Rattle.ae_journal.specs.declared.systems.System.{System}
use Rattle.std.proofs.lemmas.Bool.{and_parts}
use Rattle.ae_base.proofs.Tests.{below_zero}

-- ---- the terms of atoms, and the constants in them

pub constants-True : formula_constants True ≡ []
unfolding formula_constants
constants-True = fold_true (List Term) (List Term) formula_constants_step _

pub constants-False : formula_constants False ≡ []
unfolding formula_constants
constants-False = fold_false (List Term) (List Term) formula_constants_step _

pub constants-Eq : (a b : Term) → formula_constants (Eq a b) ≡ constants a ++ constants b
unfolding formula_constants
constants-Eq a b = fold_eq (List Term) (List Term) formula_constants_step _ a b

pub constants-Pred : (p : ℕ) (ss : List Sort) (us : List Term) → formula_constants (Pred p ss us) ≡ flat_map constants us
unfolding formula_constants
constants-Pred p ss us = fold_pred (List Term) (List Term) formula_constants_step _ p ss us

pub constants-Not : (a : Formula) → formula_constants (Not a) ≡ formula_constants a
unfolding formula_constants
constants-Not a = fold_not (List Term) (List Term) formula_constants_step _ a

pub constants-And : (a b : Formula) → formula_constants (And a b) ≡ formula_constants a ++ formula_constants b
unfolding formula_constants
constants-And a b = fold_and (List Term) (List Term) formula_constants_step _ a b

pub constants-Or : (a b : Formula) → formula_constants (Or a b) ≡ formula_constants a ++ formula_constants b
unfolding formula_constants
constants-Or a b = fold_or (List Term) (List Term) formula_constants_step _ a b

pub constants-Xor : (a b : Formula) → formula_constants (Xor a b) ≡ formula_constants a ++ formula_constants b
unfolding formula_constants
constants-Xor a b = fold_xor (List Term) (List Term) formula_constants_step _ a b

pub constants-Iff : (a b : Formula) → formula_constants (Iff a b) ≡ formula_constants a ++ formula_constants b
unfolding formula_constants
constants-Iff a b = fold_iff (List Term) (List Term) formula_constants_step _ a b

atoms-Eq : (a b : Term) → atom_terms (Eq a b) ≡ a ∷ b ∷ []
unfolding atom_terms
atoms-Eq a b = fold_eq (List Term) (Unit {0}) atom_terms_step (λ q. tt) a b

atoms-Pred : (p : ℕ) (ss : List Sort) (us : List Term) → atom_terms (Pred p ss us) ≡ us
unfolding atom_terms
atoms-Pred p ss us = fold_pred (List Term) (Unit {0}) atom_terms_step (λ q. tt) p ss us

atoms-Not : (a : Formula) → atom_terms (Not a) ≡ atom_terms a
unfolding atom_terms
atoms-Not a = fold_not (List Term) (Unit {0}) atom_terms_step (λ q. tt) a

atoms-And : (a b : Formula) → atom_terms (And a b) ≡ atom_terms a ++ atom_terms b
unfolding atom_terms
atoms-And a b = fold_and (List Term) (Unit {0}) atom_terms_step (λ q. tt) a b

atoms-Or : (a b : Formula) → atom_terms (Or a b) ≡ atom_terms a ++ atom_terms b
unfolding atom_terms
atoms-Or a b = fold_or (List Term) (Unit {0}) atom_terms_step (λ q. tt) a b

atoms-Xor : (a b : Formula) → atom_terms (Xor a b) ≡ atom_terms a ++ atom_terms b
unfolding atom_terms
atoms-Xor a b = fold_xor (List Term) (Unit {0}) atom_terms_step (λ q. tt) a b

atoms-Iff : (a b : Formula) → atom_terms (Iff a b) ≡ atom_terms a ++ atom_terms b
unfolding atom_terms
atoms-Iff a b = fold_iff (List Term) (Unit {0}) atom_terms_step (λ q. tt) a b

-- ---- a term is the first of its subterms
first_of : (P : Term → Type 0) (t : Term) → AllByRecursion P (subterms t) → P t
unfolding subterms
first_of P =
    by_terms (λ t. AllByRecursion P (subterms t) → P t)
    (λ i a. (subst (AllByRecursion P) (recursion.para_bound (List Term) subterms_step i) a).0)
    (λ x y r a. (subst (AllByRecursion P) (recursion.para_num (List Term) subterms_step x y r) a).0)
    (λ n s a. (subst (AllByRecursion P) (recursion.para_fresh (List Term) subterms_step n s) a).0)
    (λ h ss us ih a. subst P (ap (Apply h ss) (firsts subterms us))
    (subst (AllByRecursion P) (recursion.para_apply (List Term) subterms_step h ss us) a).0)

pub fragment_sorted : (sig : Signature) (env : List Sort) (t : Term) → IsFragmentTerm sig env t → HasFragmentSort sig env t
fragment_sorted sig env t f = first_of (HasFragmentSort sig env) t f.sorted

-- ---- nothing put
put_nothing : (t : Term) → put_terms 0 [] t ≡ t
put_nothing =
    by_terms (λ t. put_terms 0 [] t ≡ t) (λ i. put_bound 0 [] i ∙ same i) (λ a b r. put_num 0 [] a b r) (λ n s. put_fresh 0 [] n s)
    (λ h ss us a. put_apply 0 [] h ss us ∙ ap (Apply h ss) (each us a))
  where
    none_at : (i : ℕ) → ◌≡◌ {A = Option Term} (slice_get [] i) None
    none_at zero = refl
    none_at (suc i) = refl

    same : (i : ℕ) → cond (nat_lt i 0) (Bound i) (or_else (slice_get (reverse []) (i - 0)) (Bound (i - length {A = Term} []))) ≡ Bound i
    same i =
        let z : i - 0 ≡ i = omega arith in
        (λ k. cond (below_zero i k) (Bound i) (or_else (none_at (i - 0) k) (Bound (i - length {A = Term} [])))) ∙ ap (λ (n : ℕ). Bound n) z

    each : (us : List Term) → AllByRecursion (λ t. put_terms 0 [] t ≡ t) us → map (put_terms 0 []) us ≡ us
    each [] a = refl
    each (u ∷ us) a = λ i. a.0 i ∷ each us a.1 i

pub put_no_terms : (us : List Term) → map (put_terms 0 []) us ≡ us
put_no_terms [] = refl
put_no_terms (u ∷ us) = λ i. put_nothing u i ∷ put_no_terms us i

pub put_no_formula : (f : Formula) → is_simple f ≡ true → put_formula_in 0 [] f ≡ f
put_no_formula =
    by_formulas (λ f. is_simple f ≡ true → put_formula_in 0 [] f ≡ f) (λ q. Unit {0})
    (λ i. put_true 0 []) (λ i. put_false 0 []) (λ a b i. put_eq 0 [] a b ∙ (λ k. Eq (put_nothing a k) (put_nothing b k)))
    (λ a b i. absurd (lt_not_simple a b i)) (λ a b i. absurd (le_not_simple a b i))
    (λ p ss us i. put_pred 0 [] p ss us ∙ ap (Pred p ss) (put_no_terms us)) (λ a h i. put_not 0 [] a ∙ ap Not (h (sym (simple-Not a) ∙ i)))
    (λ a b h k i. let s = and_parts (is_simple a) (is_simple b) (sym (simple-And a b) ∙ i) in put_and 0 [] a b ∙
    (λ j. And (h s.0 j) (k s.1 j)))
    (λ a b h k i. let s = and_parts (is_simple a) (is_simple b) (sym (simple-Or a b) ∙ i) in put_or 0 [] a b ∙
    (λ j. Or (h s.0 j) (k s.1 j)))
    (λ a b h k i. let s = and_parts (is_simple a) (is_simple b) (sym (simple-Xor a b) ∙ i) in put_xor 0 [] a b ∙
    (λ j. Xor (h s.0 j) (k s.1 j)))
    (λ a b h k i. let s = and_parts (is_simple a) (is_simple b) (sym (simple-Iff a b) ∙ i) in put_iff 0 [] a b ∙
    (λ j. Iff (h s.0 j) (k s.1 j)))
    (λ q h i. absurd (all_not_simple q i)) (λ q h i. absurd (ex_not_simple q i)) (λ q h. tt)

-- ---- a simple formula stays simple
simple-True : is_simple True ≡ true
unfolding is_simple
simple-True = fold_true Bool (Unit {0}) simple_step (λ q. tt)

simple-False : is_simple False ≡ true
unfolding is_simple
simple-False = fold_false Bool (Unit {0}) simple_step (λ q. tt)

simple-Eq : (a b : Term) → is_simple (Eq a b) ≡ true
unfolding is_simple
simple-Eq a b = fold_eq Bool (Unit {0}) simple_step (λ q. tt) a b

simple-Pred : (p : ℕ) (ss : List Sort) (us : List Term) → is_simple (Pred p ss us) ≡ true
unfolding is_simple
simple-Pred p ss us = fold_pred Bool (Unit {0}) simple_step (λ q. tt) p ss us

pub put_simple : (ts : List Term) (f : Formula) → is_simple f ≡ true → is_simple (put_formula_in 0 ts f) ≡ true
put_simple ts =
    by_formulas (λ f. is_simple f ≡ true → is_simple (put_formula_in 0 ts f) ≡ true) (λ q. Unit {0})
    (λ i. ap is_simple (put_true 0 ts) ∙ simple-True) (λ i. ap is_simple (put_false 0 ts) ∙ simple-False)
    (λ a b i. ap is_simple (put_eq 0 ts a b) ∙ simple-Eq _ _)
    (λ a b i. absurd (lt_not_simple a b i)) (λ a b i. absurd (le_not_simple a b i))
    (λ p ss us i. ap is_simple (put_pred 0 ts p ss us) ∙ simple-Pred p ss _)
    (λ a h i. ap is_simple (put_not 0 ts a) ∙ simple-Not _ ∙ h (sym (simple-Not a) ∙ i))
    (λ a b h k i. let s = and_parts (is_simple a) (is_simple b) (sym (simple-And a b) ∙ i) in ap is_simple (put_and 0 ts a b)
    ∙ simple-And _ _ ∙ (λ j. h s.0 j && k s.1 j))
    (λ a b h k i. let s = and_parts (is_simple a) (is_simple b) (sym (simple-Or a b) ∙ i) in ap is_simple (put_or 0 ts a b) ∙ simple-Or _ _
    ∙ (λ j. h s.0 j && k s.1 j))
    (λ a b h k i. let s = and_parts (is_simple a) (is_simple b) (sym (simple-Xor a b) ∙ i) in ap is_simple (put_xor 0 ts a b)
    ∙ simple-Xor _ _ ∙ (λ j. h s.0 j && k s.1 j))
    (λ a b h k i. let s = and_parts (is_simple a) (is_simple b) (sym (simple-Iff a b) ∙ i) in ap is_simple (put_iff 0 ts a b)
    ∙ simple-Iff _ _ ∙ (λ j. h s.0 j && k s.1 j))
    (λ q h i. absurd (all_not_simple q i)) (λ q h i. absurd (ex_not_simple q i)) (λ q h. tt)

-- ---- truth
module _ (sig : Signature) (y : System) (num : Numbering) (reduce : Head → List Sort → List ℕ → List ℕ) (choosing : Bool)
    (ls : List Lit) where
  -- what is said of arguments depends on their values
  same_values_same : (A B : ℕ → Sort → Option Val) (us vs ws : List Term)
      → map (ev sig y num reduce choosing A) us ≡ map (ev sig y num reduce choosing B) vs
      → all_same (same_as_stated sig y num reduce choosing A) us ws ≡ all_same (same_as_stated sig y num reduce choosing B) vs ws
  same_values_same A B [] [] ws e = nothing ws
    where
      nothing : (ws : List Term)
          → all_same (same_as_stated sig y num reduce choosing A) [] ws ≡ all_same (same_as_stated sig y num reduce choosing B) [] ws
      nothing [] = refl
      nothing (w ∷ ws) = refl
  same_values_same A B [] (v ∷ vs) ws e = absurd (cc)
  same_values_same A B (u ∷ us) [] ws e = absurd (cc)
  same_values_same A B (u ∷ us) (v ∷ vs) [] e = refl
  same_values_same A B (u ∷ us) (v ∷ vs) (w ∷ ws) e =
      let f : ev sig y num reduce choosing A u ≡ ev sig y num reduce choosing B v = cc in
      let g : map (ev sig y num reduce choosing A) us ≡ map (ev sig y num reduce choosing B) vs = cc in
      λ i. decided (Val_discrete (f i) (plain_value sig y num reduce choosing w)) && same_values_same A B us vs ws g i

  says_same : (A B : ℕ → Sort → Option Val) (p : ℕ) (ss : List Sort) (us vs : List Term)
      → map (ev sig y num reduce choosing A) us ≡ map (ev sig y num reduce choosing B) vs → (f : Formula-F Formula Quant)
      → says_by (same_as_stated sig y num reduce choosing A) p ss us f ≡ says_by (same_as_stated sig y num reduce choosing B) p ss vs f
  says_same A B p ss us vs e (layer.Pred q os ws) = ap (λ b. nat_eq p q && same_sorts ss os && b) (same_values_same A B us vs ws e)
  says_same A B p ss us vs e layer.True = refl
  says_same A B p ss us vs e layer.False = refl
  says_same A B p ss us vs e (layer.Eq a b) = refl
  says_same A B p ss us vs e (layer.Lt a b) = refl
  says_same A B p ss us vs e (layer.Le a b) = refl
  says_same A B p ss us vs e (layer.Not a) = refl
  says_same A B p ss us vs e (layer.And a b) = refl
  says_same A B p ss us vs e (layer.Or a b) = refl
  says_same A B p ss us vs e (layer.Xor a b) = refl
  says_same A B p ss us vs e (layer.Iff a b) = refl
  says_same A B p ss us vs e (layer.All q) = refl
  says_same A B p ss us vs e (layer.Ex q) = refl

  pub said_same : (A B : ℕ → Sort → Option Val) (ms : List Lit) (p : ℕ) (ss : List Sort) (us vs : List Term)
      → map (ev sig y num reduce choosing A) us ≡ map (ev sig y num reduce choosing B) vs
      → is_said (same_as_stated sig y num reduce choosing A) ms p ss us ≡ is_said (same_as_stated sig y num reduce choosing B) ms p ss vs
  said_same A B [] p ss us vs e = refl
  said_same A B (m ∷ ms) p ss us vs e =
      λ i. (m.positive && says_same A B p ss us vs e (out-Formula m.formula) i) || said_same A B ms p ss us vs e i

  module _ (A B : ℕ → Sort → Option Val) (shapes : Shapes sig y num reduce choosing A) (env : List Sort) (cs ts : List Term)
      (fill : Fill sig env cs)
      (same : (i : ℕ) (s : Sort) → variable_sort env i ≡ Some s → ev sig y num reduce choosing A
      (put_terms 0 cs (Bound i)) ≡ ev sig y num reduce choosing B (put_terms 0 ts (Bound i))) where
    term_same : (t : Term) → IsFragmentTerm sig env t → constants t ≡ []
        → ev sig y num reduce choosing A (put_terms 0 cs t) ≡ ev sig y num reduce choosing B (put_terms 0 ts t)
    term_same t f c =
        let s = fragment_sorted sig env t f in put_same sig y num reduce choosing A B shapes env cs ts fill same t s.0 s.1 f.plain c

    terms_same : (us : List Term) → AllByRecursion (IsFragmentTerm sig env) us → flat_map constants us ≡ []
        → map (ev sig y num reduce choosing A) (map (put_terms 0 cs) us) ≡ map (ev sig y num reduce choosing B) (map (put_terms 0 ts) us)
    terms_same [] a c = refl
    terms_same (u ∷ us) a c =
        let d = empty_parts (constants u) (flat_map constants us) c in λ i. term_same u a.0 d.0 i ∷ terms_same us a.1 d.1 i

    abbrev TA : Formula → Bool
    TA = is_true_in sig y num reduce choosing A ls

    abbrev TB : Formula → Bool
    TB = is_true_in sig y num reduce choosing B ls

    abbrev pub KeepsTruth : Formula → Type 0
    KeepsTruth f =
        is_simple f ≡ true → AllByRecursion (IsFragmentTerm sig env) (atom_terms f) → formula_constants f ≡ [] → TA
        (put_formula_in 0 cs f) ≡ TB (put_formula_in 0 ts f)

    two_parts : (a b : Formula) → KeepsTruth a → KeepsTruth b → is_simple a && is_simple b ≡ true
        → AllByRecursion (IsFragmentTerm sig env) (atom_terms a ++ atom_terms b) → formula_constants a ++ formula_constants b ≡ []
        → (TA (put_formula_in 0 cs a) ≡ TB (put_formula_in 0 ts a)) × (TA (put_formula_in 0 cs b) ≡ TB (put_formula_in 0 ts b))
    two_parts a b h k i f c =
        let s = and_parts (is_simple a) (is_simple b) i in
        let g = both_all (IsFragmentTerm sig env) (atom_terms a) (atom_terms b) f in
        let d = empty_parts (formula_constants a) (formula_constants b) c in
        (h s.0 g.0 d.0, k s.1 g.1 d.1)

    pub keeps_truth : (f : Formula) → KeepsTruth f
    keeps_truth =
        by_formulas KeepsTruth (λ q. Unit {0})
        (λ i f c. ap TA (put_true 0 cs) ∙ truth_true _ _ ∙ sym (ap TB (put_true 0 ts) ∙ truth_true _ _))
        (λ i f c. ap TA (put_false 0 cs) ∙ truth_false _ _ ∙ sym (ap TB (put_false 0 ts) ∙ truth_false _ _))
        (λ a b i f c.
        let g = subst (AllByRecursion (IsFragmentTerm sig env)) (atoms-Eq a b) f in
        let d = empty_parts (constants a) (constants b) (sym (constants-Eq a b) ∙ c) in
        ap TA (put_eq 0 cs a b) ∙ truth_eq _ _ _ _ ∙ (λ j. decided (Val_discrete (term_same a g.0 d.0 j) (term_same b (g.1).0 d.1 j))) ∙ sym
        (ap TB (put_eq 0 ts a b) ∙ truth_eq _ _ _ _))
        (λ a b i. absurd (lt_not_simple a b i)) (λ a b i. absurd (le_not_simple a b i))
        (λ p ss us i f c.
        let g = subst (AllByRecursion (IsFragmentTerm sig env)) (atoms-Pred p ss us) f in
        ap TA (put_pred 0 cs p ss us) ∙ truth_pred _ _ p ss _ ∙ said_same A B ls p ss _ _
        (terms_same us g (sym (constants-Pred p ss us) ∙ c)) ∙ sym (ap TB (put_pred 0 ts p ss us) ∙ truth_pred _ _ p ss _))
        (λ a h i f c.
        ap TA (put_not 0 cs a) ∙ truth_not _ _ _ ∙ ap not
        (h (sym (simple-Not a) ∙ i) (subst (AllByRecursion (IsFragmentTerm sig env)) (atoms-Not a) f) (sym (constants-Not a) ∙ c)) ∙ sym
        (ap TB (put_not 0 ts a) ∙ truth_not _ _ _))
        (λ a b h k i f c.
        let r =
        two_parts a b h k (sym (simple-And a b) ∙ i) (subst (AllByRecursion (IsFragmentTerm sig env)) (atoms-And a b) f)
        (sym (constants-And a b) ∙ c) in
        ap TA (put_and 0 cs a b) ∙ truth_and _ _ _ _ ∙ (λ j. r.0 j && r.1 j) ∙ sym (ap TB (put_and 0 ts a b) ∙ truth_and _ _ _ _))
        (λ a b h k i f c.
        let r =
        two_parts a b h k (sym (simple-Or a b) ∙ i) (subst (AllByRecursion (IsFragmentTerm sig env)) (atoms-Or a b) f)
        (sym (constants-Or a b) ∙ c) in
        ap TA (put_or 0 cs a b) ∙ truth_or _ _ _ _ ∙ (λ j. r.0 j || r.1 j) ∙ sym (ap TB (put_or 0 ts a b) ∙ truth_or _ _ _ _))
        (λ a b h k i f c.
        let r =
        two_parts a b h k (sym (simple-Xor a b) ∙ i) (subst (AllByRecursion (IsFragmentTerm sig env)) (atoms-Xor a b) f)
        (sym (constants-Xor a b) ∙ c) in
        ap TA (put_xor 0 cs a b) ∙ truth_xor _ _ _ _ ∙ (λ j. not (same_truth (r.0 j) (r.1 j))) ∙ sym
        (ap TB (put_xor 0 ts a b) ∙ truth_xor _ _ _ _))
        (λ a b h k i f c.
        let r =
        two_parts a b h k (sym (simple-Iff a b) ∙ i) (subst (AllByRecursion (IsFragmentTerm sig env)) (atoms-Iff a b) f)
        (sym (constants-Iff a b) ∙ c) in
        ap TA (put_iff 0 cs a b) ∙ truth_iff _ _ _ _ ∙ (λ j. same_truth (r.0 j) (r.1 j)) ∙ sym
        (ap TB (put_iff 0 ts a b) ∙ truth_iff _ _ _ _))
        (λ q h i. absurd (all_not_simple q i)) (λ q h i. absurd (ex_not_simple q i)) (λ q h. tt)
