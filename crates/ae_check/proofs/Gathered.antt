-- Sets of constants to which those of terms, formulas and lines are added.
use Rattle.std.specs.Prelude.{ℕ, suc, ◌+◌, ◌<◌, ◌≤◌, Bool, true, false, cond, ◌||◌, List, [], ◌∷◌, ◌≡◌, take, length, get_or}
use Rattle.std.specs.List.{list_any}
use Rattle.std.specs.BTreeSet.{BTreeSet, contains}
use Rattle.std.specs.Ordering.{is_eq}
use Rattle.std.proofs.Common.{refl, sym, ap, ◌∙◌}
use Rattle.std.proofs.Math.Bool.{or-false, or_assoc}
use Rattle.std.proofs.lemmas.List.{take_all}
use Rattle.std.proofs.lemmas.List.Folds.{list_any_more}
use Rattle.ae_base.specs.Decided.{decided}
use Rattle.ae_base.proofs.Orders.{not_equal}
use Rattle.ae_core.specs.Decided.{Term_discrete}
use Rattle.ae_core.specs.Orders.{term_order}
use Rattle.ae_core.proofs.OrderLaws.{term_exact}
use Rattle.ae_core.specs.declared.terms.Sort.{Sort}
use Rattle.ae_core.specs.declared.terms.Term.{Fresh}
use Rattle.ae_rules.specs.Instances.{count_from}
use Rattle.ae_calc.specs.Inner.Mentions.{is_put, mentions}
use Rattle.ae_calc.proofs.Mentioning.{mentions_fresh}
use Rattle.ae_check.specs.declared.constants.Constant.{Constant}
use Rattle.ae_check.specs.Inner.ConstantSets.{constant_order, has, IsGathered}

-- ---- tests in one another's place
pub gathered_none : (a : BTreeSet Constant) (P : ℕ → Sort → Bool) → ((n : ℕ) (s : Sort) → P n s ≡ false) → IsGathered a a P
gathered_none a P e = record { each = λ n s. sym (ap (λ h. has a n s || h) (e n s) ∙ or-false (has a n s)) }

pub gathered_as : (a b : BTreeSet Constant) (P Q : ℕ → Sort → Bool) → IsGathered a b P → ((n : ℕ) (s : Sort) → Q n s ≡ P n s) → IsGathered a b Q
gathered_as a b P Q g e = record { each = λ n s. g.each n s ∙ ap (λ h. has a n s || h) (sym (e n s)) }

pub gathered_then : (a b c : BTreeSet Constant) (P Q R : ℕ → Sort → Bool) → IsGathered a b P → IsGathered b c Q → ((n : ℕ) (s : Sort) → R n s ≡ (P n s || Q n s)) → IsGathered a c R
gathered_then a b c P Q R g h e = record {
  each = λ n s. h.each n s ∙ ap (λ x. x || Q n s) (g.each n s) ∙ or_assoc (has a n s) (P n s) (Q n s) ∙ ap (λ x. has a n s || x) (sym (e n s));
}

-- ---- lists
pub gathered_more : {X : Type 0} (f : ℕ → Sort → X → Bool) (a b c : BTreeSet Constant) (xs : List X) (i : ℕ) (x : X) → i < length xs → IsGathered a b (λ n s. list_any (f n s) (take i xs)) → IsGathered b c (λ n s. f n s (get_or xs i x)) → IsGathered a c (λ n s. list_any (f n s) (take (i + 1) xs))
gathered_more f a b c xs i x l g h =
    gathered_then a b c (λ n s. list_any (f n s) (take i xs)) (λ n s. f n s (get_or xs i x)) (λ n s. list_any (f n s) (take (i + 1) xs)) g h
    (λ n s. list_any_more (f n s) xs i x l)

-- the element that was read
pub gathered_read : {X : Type 0} (f : ℕ → Sort → X → Bool) (a b c : BTreeSet Constant) (xs : List X) (i : ℕ) (x : X) → i < length xs → x ≡ get_or xs i x → IsGathered a b (λ n s. list_any (f n s) (take i xs)) → IsGathered b c (λ n s. f n s x) → IsGathered a c (λ n s. list_any (f n s) (take (i + 1) xs))
gathered_read f a b c xs i x l e g h = gathered_more f a b c xs i x l g (gathered_as b c (λ n s. f n s x) (λ n s. f n s (get_or xs i x)) h (λ n s. ap (f n s) (sym e)))

pub gathered_all : {X : Type 0} (f : ℕ → Sort → X → Bool) (a b : BTreeSet Constant) (xs : List X) (i : ℕ) → length xs ≤ i → IsGathered a b (λ n s. list_any (f n s) (take i xs)) → IsGathered a b (λ n s. list_any (f n s) xs)
gathered_all f a b xs i l g = gathered_as a b (λ n s. list_any (f n s) (take i xs)) (λ n s. list_any (f n s) xs) g (λ n s. ap (list_any (f n s)) (sym (take_all i xs l)))

-- ---- one constant
same_test : (k : ℕ) (t : Sort) (n : ℕ) (s : Sort) → is_eq (term_order (Fresh k t) (Fresh n s)) ≡ decided (Term_discrete (Fresh n s) (Fresh k t))
same_test k t n s = elim (Term_discrete (Fresh n s) (Fresh k t)) as (λ d. is_eq (term_order (Fresh k t) (Fresh n s)) ≡ decided d) [
  | yes e ↦ ap is_eq ((term_exact (Fresh k t) (Fresh n s)).1 (sym e))
  | no d ↦ not_equal (term_order (Fresh k t) (Fresh n s)) (λ q. d (sym ((term_exact (Fresh k t) (Fresh n s)).0 q)))
]

put_alone : (k : ℕ) (t : Sort) (n : ℕ) (s : Sort) → is_put n (s ∷ []) (Fresh k t) ≡ is_eq (term_order (Fresh k t) (Fresh n s))
unfolding is_put
put_alone k t n s = or-false (decided (Term_discrete (Fresh n s) (Fresh k t))) ∙ sym (same_test k t n s)

joined : (b h : Bool) → cond b true h ≡ (h || b)
joined true true = refl
joined true false = refl
joined false true = refl
joined false false = refl

pub one_gathered : (a b : BTreeSet Constant) (k : ℕ) (t : Sort) (c : Constant) → c.term ≡ Fresh k t → ((q : Constant) → contains constant_order b q ≡ cond (is_eq (constant_order c q)) true (contains constant_order a q)) → IsGathered a b (λ n s. is_put n (s ∷ []) (Fresh k t))
one_gathered a b k t c e u = record {
  each = λ n s. u (record { term = Fresh n s }) ∙ ap (λ x. cond (is_eq (term_order x (Fresh n s))) true (has a n s)) e ∙ joined (is_eq (term_order (Fresh k t) (Fresh n s))) (has a n s)
      ∙ ap (λ x. has a n s || x) (sym (put_alone k t n s));
}

-- constants alone
pub among_counted : (n : ℕ) (s : Sort) (m : ℕ) (ss : List Sort) → list_any (is_put n (s ∷ [])) (count_from m ss) ≡ list_any (mentions n (s ∷ [])) (count_from m ss)
among_counted n s m [] = refl
among_counted n s m (x ∷ ss) = λ i. sym (mentions_fresh n (s ∷ []) m x) i || among_counted n s (suc m) ss i
