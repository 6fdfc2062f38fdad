-- The tests of literals say `true` exactly where the clauses of a saturated state on literals hold.
use Rattle.std.proofs.Common.{drop, get_or, inl, inr}
use Rattle.std.proofs.lemmas.List.{drop_more}
use Rattle.std.specs.Prelude.{ℕ, zero, suc, ◌+◌, ◌<◌, Bool, true, false, cond, not, ◌&&◌, nat_eq, ◌≡◌, ◌≢◌, List, [], ◌∷◌, length, Option, Some, None}
use Rattle.std.specs.List.{AllByRecursion, Contains, list_any}
use Rattle.std.proofs.lemmas.Bool.{and_parts, and_from, or_cases, or_left, eqb-true, eq-eqb, cases_eq, false_from_ne_true, and_right, or_right}
use mathlib.Core.Path.{refl, sym, ap, subst, ◌∙◌}
use native.Mathlib.Omega.{arith}
use Rattle.ae_base.specs.Decided.{decided}
use Rattle.ae_base.proofs.AllOf.{all_of_test, test_of_all}
use Rattle.ae_base.proofs.Decided.{decided_of, decided_yes}
use Rattle.ae_base.proofs.Options.{never_some}
use Rattle.ae_core.specs.Decided.{Sort_discrete, Sorts_discrete, Term_discrete}
use Rattle.ae_core.specs.Sorts.{sort_of, same_known, same_sorts}
use Rattle.ae_core.specs.declared.formulas.Formula.{Formula, Formula-F, Eq, Pred, out-Formula, roll-Formula, roll-out-Formula}
use Rattle.ae_core.specs.declared.formulas.Formula.TheOpen as layer
use Rattle.ae_core.specs.declared.formulas.Formula.TheVariants.{outs-Eq, outs-Pred, rolls-Eq, rolls-Pred}
use Rattle.ae_core.specs.declared.formulas.Lit.{Lit}
use Rattle.ae_core.specs.declared.formulas.Quant.{Quant}
use Rattle.ae_core.specs.declared.problems.Signature.{Signature}
use Rattle.ae_core.specs.declared.terms.Sort.{Sort}
use Rattle.ae_core.specs.declared.terms.Term.{Term}
use Rattle.ae_rules.specs.Clauses.{Clause, opposite, is_true, is_false, row, row_of, stands}
use Rattle.ae_rules.specs.declared.rows.TheConstants.{AND_TO_LEFT, AND_TO_RIGHT, AND_FROM_BOTH, OR_FROM_LEFT, OR_FROM_RIGHT, OR_TO_EITHER, IFF_TO_RIGHT, IFF_TO_LEFT}
use Rattle.ae_rules.specs.declared.rows.TheConstants.{IFF_FROM_NEITHER, IFF_FROM_BOTH, XOR_TO_EITHER, XOR_TO_NOT_BOTH, XOR_FROM_LEFT, XOR_FROM_RIGHT, TRUE_STANDS, FALSE_FAILS}
use Rattle.ae_journal.specs.Values.{Val}
use Rattle.ae_journal.specs.Systems.{IsNamed, ValueOf}
use Rattle.ae_journal.specs.States.{AllSame, AreSame, outside}
use Rattle.ae_journal.specs.States.AreSame.{itself, by_value}
use Rattle.ae_journal.specs.declared.systems.System.{System}
use Rattle.ae_decide.specs.Clauses.{HasTerms, HasLeaves}
use Rattle.ae_decide.specs.Names.{stands_in}
use Rattle.ae_decide.specs.Values.{are_alike}
use Rattle.ae_decide.proofs.NameTests.{named_of, of_named}
use Rattle.ae_decide.proofs.ValueTests.{alike_of, of_alike, implied}
use Rattle.ae_saturated.specs.Literals.{is_consistent, are_named, some_stands, rows_stand, equation_by, equation_holds, are_same, all_same, denies_by, denies, predicate_by, predicate_holds}
use Rattle.ae_decide.proofs.NameTests.{denied as untrue}
use Rattle.ae_base.proofs.Tests.{not_where, false_true}
use Rattle.ae_saturated.proofs.Elements.{any_tells, by_any, stands_tells, by_stands}

-- ---- the steps of the loops
pub no_rows : (ls : List Lit) (f : Formula) → rows_stand ls f 0 ≡ true
unfolding rows_stand
no_rows ls f = refl

pub more_rows : (ls : List Lit) (f : Formula) (r : ℕ) → rows_stand ls f (suc r) ≡ some_stands ls (row r f) && rows_stand ls f r
unfolding rows_stand
more_rows ls f r = refl

rows_tell : (ls : List Lit) (f : Formula) (n r : ℕ) → rows_stand ls f n ≡ true → r < n → some_stands ls (row r f) ≡ true
rows_tell ls f zero r e h = absurd (omega (arith, h))
rows_tell ls f (suc n) r e h =
    let p = and_parts (some_stands ls (row n f)) (rows_stand ls f n) (sym (more_rows ls f n) ∙ e) in
    elim (cases_eq r n) as (λ _. some_stands ls (row r f) ≡ true) [
      | inl k ↦ ap (λ m. some_stands ls (row m f)) k ∙ p.0
      | inr d ↦ rows_tell ls f n r p.1 (omega (arith, h, d))
    ]

by_rows : (ls : List Lit) (f : Formula) (n : ℕ) → ((r : ℕ) → some_stands ls (row r f) ≡ true) → rows_stand ls f n ≡ true
by_rows ls f zero g = no_rows ls f
by_rows ls f (suc n) g = more_rows ls f n ∙ and_from (some_stands ls (row n f)) (rows_stand ls f n) (g n) (by_rows ls f n g)

pub one_row : (ls : List Lit) (f : Formula) (n r : ℕ) → r < n → some_stands ls (row r f) ≡ false → rows_stand ls f n ≡ false
one_row ls f n r h e = false_from_ne_true (rows_stand ls f n) (λ t. false_true (sym e ∙ rows_tell ls f n r t h))

pub same_step : (sig : Signature) (y : System) (ts us : List Term) (i : ℕ) (d : Term) → i < length ts → length ts ≡ length us
    → all_same sig y (drop i ts) (drop i us) ≡ are_same sig y (get_or ts i d) (get_or us i d) && all_same sig y (drop (i + 1) ts) (drop (i + 1) us)
same_step sig y ts us i d h e =
    λ j. all_same sig y (drop_more ts i d h j) (drop_more us i d (let k : i < length us = omega (arith, h, e) in k) j)

pub same_lengths : (sig : Signature) (y : System) (ts us : List Term) → length ts ≢ length us → all_same sig y ts us ≡ false
same_lengths sig y [] [] n = absurd (n refl)
same_lengths sig y [] (u ∷ us) n = refl
same_lengths sig y (t ∷ ts) [] n = refl
same_lengths sig y (t ∷ ts) (u ∷ us) n = and_right (are_same sig y t u) (all_same sig y ts us) (same_lengths sig y ts us (λ e. n (ap suc e)))

-- ---- rows have numbers up to 16
step : (r : ℕ) (c : Clause) (n : ℕ) (d : Clause) (later : Option Clause) → n < 17 → (later ≡ Some c → r < 17)
    → cond (nat_eq r n) (Some d) later ≡ Some c → r < 17
step r c n d later h next e = by_test (nat_eq r n) refl e
  where
    by_test : (b : Bool) → nat_eq r n ≡ b → cond b (Some d) later ≡ Some c → r < 17
    by_test true q e = subst (λ m. m < 17) (sym (eqb-true r n q)) h
    by_test false q e = next e

row_bound : (r : ℕ) (f : Formula) (c : Clause) → row r f ≡ Some c → r < 17
unfolding row row_of
row_bound r f c e = go (out-Formula f) e
  where
    go : (g : Formula-F Formula Quant) → row_of r f g ≡ Some c → r < 17
    go (layer.And a b) e =
        step r c AND_TO_LEFT _ _ (omega arith) (λ e. step r c AND_TO_RIGHT _ _ (omega arith) (λ e. step r c AND_FROM_BOTH _ _ (omega arith) (λ e. never_some c e) e) e) e
    go (layer.Or a b) e =
        step r c OR_FROM_LEFT _ _ (omega arith) (λ e. step r c OR_FROM_RIGHT _ _ (omega arith) (λ e. step r c OR_TO_EITHER _ _ (omega arith) (λ e. never_some c e) e) e) e
    go (layer.Iff a b) e =
        step r c IFF_TO_RIGHT _ _ (omega arith) (λ e. step r c IFF_TO_LEFT _ _ (omega arith)
        (λ e. step r c IFF_FROM_NEITHER _ _ (omega arith) (λ e. step r c IFF_FROM_BOTH _ _ (omega arith) (λ e. never_some c e) e) e) e) e
    go (layer.Xor a b) e =
        step r c XOR_TO_EITHER _ _ (omega arith) (λ e. step r c XOR_TO_NOT_BOTH _ _ (omega arith)
        (λ e. step r c XOR_FROM_LEFT _ _ (omega arith) (λ e. step r c XOR_FROM_RIGHT _ _ (omega arith) (λ e. never_some c e) e) e) e) e
    go layer.True e = step r c TRUE_STANDS _ _ (omega arith) (λ e. never_some c e) e
    go layer.False e = step r c FALSE_FAILS _ _ (omega arith) (λ e. never_some c e) e
    go (layer.Eq a b) e = never_some c e
    go (layer.Lt a b) e = never_some c e
    go (layer.Le a b) e = never_some c e
    go (layer.Pred p os us) e = never_some c e
    go (layer.Not a) e = never_some c e
    go (layer.All q) e = never_some c e
    go (layer.Ex q) e = never_some c e

-- some literal of a clause stands
abbrev pub SomeOf : List Lit → Clause → Type 0
SomeOf ls c = (l : Lit) × Contains c l × Contains ls l

pub taken_tells : (ls : List Lit) (f : Formula) → rows_stand ls f 17 ≡ true → (r : ℕ) (c : Clause) → row r f ≡ Some c → SomeOf ls c
taken_tells ls f e r c i =
    let t : list_any (stands ls) c ≡ true = sym (ap (some_stands ls) i) ∙ rows_tell ls f 17 r e (row_bound r f c i) in
    let w = any_tells (stands ls) c t in
    (w.0, w.1, stands_tells ls w.0 w.2)

pub by_taken : (ls : List Lit) (f : Formula) → ((r : ℕ) (c : Clause) → row r f ≡ Some c → SomeOf ls c) → rows_stand ls f 17 ≡ true
by_taken ls f g = by_rows ls f 17 (λ r. go r (row r f) refl)
  where
    go : (r : ℕ) (o : Option Clause) → row r f ≡ o → some_stands ls o ≡ true
    go r (Some c) i = let w = g r c i in by_any (stands ls) c w.0 w.1 (by_stands ls w.0 w.2)
    go r None i = refl

-- ---- opposites and names
pub consistent_tells : (ls : List Lit) (l : Lit) → is_consistent ls l ≡ true → ¬ Contains ls (opposite l)
consistent_tells ls l e i = untrue (stands ls (opposite l)) e (by_stands ls (opposite l) i)

pub by_consistent : (ls : List Lit) (l : Lit) → (¬ Contains ls (opposite l)) → is_consistent ls l ≡ true
by_consistent ls l n = not_where (stands ls (opposite l)) (λ t. n (stands_tells ls (opposite l) t))

pub named_tells : (y : System) (f : Formula) → are_named y.names f ≡ true → AllByRecursion (IsNamed y) (outside f)
named_tells y f e = all_of_test (stands_in y.names) (IsNamed y) (λ t q. named_of y.names t q) (outside f) e

pub by_names : (y : System) (f : Formula) → AllByRecursion (IsNamed y) (outside f) → are_named y.names f ≡ true
by_names y f a = test_of_all (IsNamed y) (stands_in y.names) (λ t (n, i). of_named y.names t n i) (outside f) a

-- ---- formulas by their shape
is_equation : (f : Formula) (s t : Term) → out-Formula f ≡ layer.Eq s t → f ≡ Eq s t
is_equation f s t e = sym (roll-out-Formula f) ∙ ap roll-Formula e ∙ rolls-Eq s t

is_predicate : (f : Formula) (q : ℕ) (ss : List Sort) (ts : List Term) → out-Formula f ≡ layer.Pred q ss ts → f ≡ Pred q ss ts
is_predicate f q ss ts e = sym (roll-out-Formula f) ∙ ap roll-Formula e ∙ rolls-Pred q ss ts

lit_is : (l : Lit) (b : Bool) (f : Formula) → l.positive ≡ b → l.formula ≡ f → l ≡ record { positive = b; formula = f }
lit_is l b f p q = λ i. record { positive = p i; formula = q i }

module _ (sig : Signature) (y : System) (terms : HasTerms sig y) (leaves : HasLeaves sig y) (ls : List Lit) where
  -- ---- equations
  abbrev OneValue : Term → Term → Type 0
  OneValue s t = (v : Val) × ValueOf y s v × ValueOf y t v

  pub equal_tells : (s t : Term) → equation_holds y (is_true (Eq s t)) ≡ true → OneValue s t
  equal_tells s t e = of_alike y terms.apart s t (sym (ap (equation_by y true) (outs-Eq s t)) ∙ e)

  pub unequal_tells : (s t : Term) (v : Val) → equation_holds y (is_false (Eq s t)) ≡ true → ValueOf y s v → ValueOf y t v → ⊥
  unequal_tells s t v e a b =
      untrue (are_alike y s t) (sym (ap (equation_by y false) (outs-Eq s t)) ∙ e) (alike_of y terms.apart leaves.normal s t v a b)

  pub by_equations : ((s t : Term) → Contains ls (is_true (Eq s t)) → OneValue s t)
      → ((s t : Term) (v : Val) → Contains ls (is_false (Eq s t)) → ValueOf y s v → ValueOf y t v → ⊥)
      → (l : Lit) → Contains ls l → equation_holds y l ≡ true
  by_equations f g l i = go l.positive refl (out-Formula l.formula) refl
    where
      go : (b : Bool) → l.positive ≡ b → (k : Formula-F Formula Quant) → out-Formula l.formula ≡ k → equation_by y b k ≡ true
      go true p (layer.Eq s t) e =
          let (v, a, b) = f s t (subst (Contains ls) (lit_is l true (Eq s t) p (is_equation l.formula s t e)) i) in
          alike_of y terms.apart leaves.normal s t v a b
      go false p (layer.Eq s t) e =
          not_where (are_alike y s t)
          (λ h. let (v, a, b) = of_alike y terms.apart s t h in g s t v (subst (Contains ls) (lit_is l false (Eq s t) p (is_equation l.formula s t e)) i) a b)
      go b p layer.True e = refl
      go b p layer.False e = refl
      go b p (layer.Lt s t) e = refl
      go b p (layer.Le s t) e = refl
      go b p (layer.Pred q ss ts) e = refl
      go b p (layer.Not a) e = refl
      go b p (layer.And a c) e = refl
      go b p (layer.Or a c) e = refl
      go b p (layer.Xor a c) e = refl
      go b p (layer.Iff a c) e = refl
      go b p (layer.All q) e = refl
      go b p (layer.Ex q) e = refl

  -- ---- the same arguments
  same_of : (t u : Term) → AreSame sig y t u → are_same sig y t u ≡ true
  same_of t _ itself = or_left _ _ (decided_of (Term_discrete t t) refl)
  same_of t u (by_value s v a b x z) =
      or_right (decided (Term_discrete t u)) _
      (and_from _ _ ((λ i. same_known (a i) (b i)) ∙ decided_of (Sort_discrete s s) refl) (alike_of y terms.apart leaves.normal t u v x z))

  same_tells : (t u : Term) → are_same sig y t u ≡ true → AreSame sig y t u
  same_tells t u e = elim (or_cases (decided (Term_discrete t u)) _ e) as (λ _. AreSame sig y t u) [
    | inl d ↦ subst (AreSame sig y t) (decided_yes (Term_discrete t u) d) itself
    | inr r ↦ go (sort_of sig t) (sort_of sig u) refl refl (and_parts (same_known (sort_of sig t) (sort_of sig u)) (are_alike y t u) r)
  ]
    where
      go : (o k : Option Sort) → sort_of sig t ≡ o → sort_of sig u ≡ k → (same_known o k ≡ true) × (are_alike y t u ≡ true) → AreSame sig y t u
      go (Some s) (Some r) a b (q, h) =
          let (v, x, z) = of_alike y terms.apart t u h in
          by_value s v a (b ∙ ap (λ (w : Sort). Some w) (sym (decided_yes (Sort_discrete s r) q))) x z
      go (Some s) None a b (q, h) = absurd (cc)
      go None (Some r) a b (q, h) = absurd (cc)
      go None None a b (q, h) = absurd (cc)

  all_same_of : (ts us : List Term) → AllSame sig y ts us → all_same sig y ts us ≡ true
  all_same_of [] [] a = refl
  all_same_of (t ∷ ts) (u ∷ us) a = and_from (are_same sig y t u) (all_same sig y ts us) (same_of t u a.0) (all_same_of ts us a.1)
  all_same_of [] (u ∷ us) a = absurd a
  all_same_of (t ∷ ts) [] a = absurd a

  all_same_tells : (ts us : List Term) → all_same sig y ts us ≡ true → AllSame sig y ts us
  all_same_tells [] [] e = tt
  all_same_tells (t ∷ ts) (u ∷ us) e =
      let p = and_parts (are_same sig y t u) (all_same sig y ts us) e in (same_tells t u p.0, all_same_tells ts us p.1)
  all_same_tells [] (u ∷ us) e = absurd (cc)
  all_same_tells (t ∷ ts) [] e = absurd (cc)

  -- ---- predicates
  pub predicates_tell : (q : ℕ) (ss : List Sort) (ts us : List Term) → predicate_holds sig y ls (is_true (Pred q ss ts)) ≡ true
      → Contains ls (is_false (Pred q ss us)) → ¬ AllSame sig y ts us
  predicates_tell q ss ts us e i a =
      untrue (list_any (denies sig y q ss ts) ls) (sym (ap (predicate_by sig y ls) (outs-Pred q ss ts)) ∙ e)
      (by_any (denies sig y q ss ts) ls (is_false (Pred q ss us)) i
      (ap (denies_by sig y q ss ts) (outs-Pred q ss us)
      ∙ and_from _ _ (and_from _ _ (eq-eqb q q refl) (decided_of (Sorts_discrete ss ss) refl)) (all_same_of ts us a)))

  denied : ((q : ℕ) (ss : List Sort) (ts us : List Term) → Contains ls (is_true (Pred q ss ts)) → Contains ls (is_false (Pred q ss us))
      → ¬ AllSame sig y ts us) → (q : ℕ) (ss : List Sort) (ts : List Term) → Contains ls (is_true (Pred q ss ts)) → (m : Lit) → Contains ls m
      → (b : Bool) → m.positive ≡ b → (k : Formula-F Formula Quant) → out-Formula m.formula ≡ k → not b && denies_by sig y q ss ts k ≡ true → ⊥
  denied f q ss ts i m j true n k d h = cc
  denied f q ss ts i m j false n (layer.Pred r os us) d h =
      let a = and_parts (nat_eq q r && same_sorts ss os) (all_same sig y ts us) h in
      let b = and_parts (nat_eq q r) (same_sorts ss os) a.0 in
      let x : q ≡ r = eqb-true q r b.0 in
      let z : ss ≡ os = decided_yes (Sorts_discrete ss os) b.1 in
      f q ss ts us i
      (subst (λ (w : ℕ × List Sort). Contains ls (is_false (Pred w.0 w.1 us))) (λ k. (sym x k, sym z k))
      (subst (Contains ls) (lit_is m false (Pred r os us) n (is_predicate m.formula r os us d)) j)) (all_same_tells ts us a.1)
  denied f q ss ts i m j false n layer.True d h = cc
  denied f q ss ts i m j false n layer.False d h = cc
  denied f q ss ts i m j false n (layer.Eq s t) d h = cc
  denied f q ss ts i m j false n (layer.Lt s t) d h = cc
  denied f q ss ts i m j false n (layer.Le s t) d h = cc
  denied f q ss ts i m j false n (layer.Not a) d h = cc
  denied f q ss ts i m j false n (layer.And a c) d h = cc
  denied f q ss ts i m j false n (layer.Or a c) d h = cc
  denied f q ss ts i m j false n (layer.Xor a c) d h = cc
  denied f q ss ts i m j false n (layer.Iff a c) d h = cc
  denied f q ss ts i m j false n (layer.All u) d h = cc
  denied f q ss ts i m j false n (layer.Ex u) d h = cc

  pub by_predicates : ((q : ℕ) (ss : List Sort) (ts us : List Term) → Contains ls (is_true (Pred q ss ts)) → Contains ls (is_false (Pred q ss us))
      → ¬ AllSame sig y ts us) → (l : Lit) → Contains ls l → predicate_holds sig y ls l ≡ true
  by_predicates f l i = implied l.positive (predicate_by sig y ls (out-Formula l.formula)) (λ p. go p (out-Formula l.formula) refl)
    where
      go : l.positive ≡ true → (k : Formula-F Formula Quant) → out-Formula l.formula ≡ k → predicate_by sig y ls k ≡ true
      go p (layer.Pred q ss ts) e =
          not_where (list_any (denies sig y q ss ts) ls)
          (λ t. let (m, j, d) = any_tells (denies sig y q ss ts) ls t in
          denied f q ss ts (subst (Contains ls) (lit_is l true (Pred q ss ts) p (is_predicate l.formula q ss ts e)) i) m j m.positive refl
          (out-Formula m.formula) refl d)
      go p layer.True e = refl
      go p layer.False e = refl
      go p (layer.Eq s t) e = refl
      go p (layer.Lt s t) e = refl
      go p (layer.Le s t) e = refl
      go p (layer.Not a) e = refl
      go p (layer.And a c) e = refl
      go p (layer.Or a c) e = refl
      go p (layer.Xor a c) e = refl
      go p (layer.Iff a c) e = refl
      go p (layer.All q) e = refl
      go p (layer.Ex q) e = refl
