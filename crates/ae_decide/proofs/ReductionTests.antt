-- The test of the sides of rules says `true` exactly where the seventh clause holds.
use Rattle.std.proofs.Common.{drop, get_or}
use Rattle.std.proofs.lemmas.List.{drop_more}
use Rattle.std.specs.Prelude.{MatchBool, ℕ, zero, suc, ◌+◌, ◌<◌, Bool, true, false, not, ◌&&◌, ◌≡◌, ◌≢◌, List, [], ◌∷◌, length, slice_get, Some}
use Rattle.std.specs.List.{list_all}
use Rattle.std.proofs.lemmas.Bool.{and_parts, and_from}
use Rattle.std.proofs.lemmas.Option.{same_Some}
use mathlib.Core.Path.{refl, sym, ap, subst}
use native.Mathlib.Omega.{arith}
use Rattle.ae_base.specs.Decided.{decided}
use Rattle.ae_base.proofs.AllOf.{all_from_places, test_of_all}
use Rattle.ae_base.proofs.Decided.{decided_of, decided_yes}
use Rattle.ae_base.proofs.ListFacts.{list_all_at}
use Rattle.ae_base.proofs.Tests.{not_where}
use Rattle.ae_core.specs.Decided.{Head_discrete, Sorts_discrete}
use Rattle.ae_core.specs.Sorts.{same_sorts}
use Rattle.ae_core.specs.declared.problems.AcSymbol.{AcSymbol}
use Rattle.ae_core.specs.declared.problems.Signature.{Signature}
use Rattle.ae_multiset.specs.Multisets.{count, minus, rising, IsPart}
use Rattle.ae_multiset.proofs.Counts.{count-minus, count_same}
use Rattle.ae_multiset.proofs.Rising.{count-rising}
use Rattle.ae_journal.specs.declared.systems.RuleEntry.{RuleEntry}
use Rattle.ae_journal.specs.declared.systems.System.{System}
use Rattle.ae_decide.specs.Reduction.{is_empty, is_part, same_symbol, reduces, are_irreducible, left_sides_stay, leaves_right}
use Rattle.ae_decide.specs.Clauses.{AreReduced}
use Rattle.ae_decide.proofs.NameTests.{denied}

-- ---- parts
pub part_of_test : (a b : List ℕ) → is_part a b ≡ true → IsPart a b
part_of_test a b e = go (minus a b) refl e
  where
    go : (m : List ℕ) → minus a b ≡ m → is_empty m ≡ true → IsPart a b
    go [] q e = record { each = λ x. omega (arith, count-minus x a b, ap (count x) q) }
    go (x ∷ xs) q e = absurd (cc)

pub test_of_part : (a b : List ℕ) → IsPart a b → is_part a b ≡ true
test_of_part a b p = go (minus a b) refl
  where
    go : (m : List ℕ) → minus a b ≡ m → is_empty m ≡ true
    go [] q = refl
    go (x ∷ xs) q = absurd (omega (arith, p.each x, count-minus x a b, ap (count x) q, count_same x xs))

-- ---- symbols
pub symbol_of_test : (c d : AcSymbol) → same_symbol c d ≡ true → c ≡ d
symbol_of_test c d e =
    let p = and_parts (decided (Head_discrete c.head d.head)) (same_sorts c.sorts d.sorts) e in
    let h = decided_yes (Head_discrete c.head d.head) p.0 in
    let s = decided_yes (Sorts_discrete c.sorts d.sorts) p.1 in
    λ i. record { head = h i; sorts = s i }

pub test_of_symbol : (c d : AcSymbol) → c ≡ d → same_symbol c d ≡ true
test_of_symbol c d e =
    and_from (decided (Head_discrete c.head d.head)) (same_sorts c.sorts d.sorts) (decided_of (Head_discrete c.head d.head) (ap (λ (s : AcSymbol). s.head) e))
    (decided_of (Sorts_discrete c.sorts d.sorts) (ap (λ (s : AcSymbol). s.sorts) e))

-- ---- a rule that doesn't reduce
no_part : (d : RuleEntry) (c : AcSymbol) (side : List ℕ) → not (reduces d c side) ≡ true → d.symbol ≡ c → ¬ IsPart d.left side
no_part d c side e s p =
    denied (reduces d c side) e (and_from (same_symbol d.symbol c) (is_part d.left side) (test_of_symbol d.symbol c s) (test_of_part d.left side p))

not_reduced : (d : RuleEntry) (c : AcSymbol) (side : List ℕ) → (d.symbol ≡ c → ¬ IsPart d.left side) → not (reduces d c side) ≡ true
not_reduced d c side f =
    not_where (reduces d c side) (λ e. let p = and_parts (same_symbol d.symbol c) (is_part d.left side) e in
    f (symbol_of_test d.symbol c p.0) (part_of_test d.left side p.1))

-- ---- left sides
abbrev LeftStay : List RuleEntry → Type 0
LeftStay es = (j k : ℕ) (d e : RuleEntry) → j ≢ k → slice_get es j ≡ Some d → slice_get es k ≡ Some e → d.symbol ≡ e.symbol → ¬ IsPart d.left e.left

no_place : {A : Type 0} (e : RuleEntry) (n : ℕ) → slice_get [] n ≡ Some e → A
no_place e n i = absurd (cc)

left_of_test : (es : List RuleEntry) → left_sides_stay es ≡ true → LeftStay es
left_of_test [] t j k d e n x z = no_place d j x
left_of_test (g ∷ es) t zero zero d e n x z = absurd (n refl)
left_of_test (g ∷ es) t zero (suc k) d e n x z =
    let p = and_parts (list_all (are_irreducible g) es) (left_sides_stay es) t in
    let q = and_parts (not (reduces g e.symbol e.left)) (not (reduces e g.symbol g.left)) (list_all_at (are_irreducible g) es k e p.0 z) in
    subst (λ (h : RuleEntry). h.symbol ≡ e.symbol → ¬ IsPart h.left e.left) (same_Some g d x) (no_part g e.symbol e.left q.0)
left_of_test (g ∷ es) t (suc j) zero d e n x z =
    let p = and_parts (list_all (are_irreducible g) es) (left_sides_stay es) t in
    let q = and_parts (not (reduces g d.symbol d.left)) (not (reduces d g.symbol g.left)) (list_all_at (are_irreducible g) es j d p.0 x) in
    subst (λ (h : RuleEntry). d.symbol ≡ h.symbol → ¬ IsPart d.left h.left) (same_Some g e z) (no_part d g.symbol g.left q.1)
left_of_test (g ∷ es) t (suc j) (suc k) d e n x z =
    left_of_test es (and_parts (list_all (are_irreducible g) es) (left_sides_stay es) t).1 j k d e (λ q. n (ap suc q)) x z

test_of_left : (es : List RuleEntry) → LeftStay es → left_sides_stay es ≡ true
test_of_left [] f = refl
test_of_left (g ∷ es) f =
    and_from (list_all (are_irreducible g) es) (left_sides_stay es)
    (test_of_all (λ e. are_irreducible g e ≡ true) (are_irreducible g) (λ e q. q) es (all_from_places (λ e. are_irreducible g e ≡ true) es each))
    (test_of_left es (λ j k d e n x z. f (suc j) (suc k) d e (λ q. n (let w : j ≡ k = omega (arith, q) in w)) x z))
  where
    each : (k : ℕ) (e : RuleEntry) → slice_get es k ≡ Some e → are_irreducible g e ≡ true
    each k e i =
        and_from (not (reduces g e.symbol e.left)) (not (reduces e g.symbol g.left))
        (not_reduced g e.symbol e.left (f 0 (suc k) g e (λ q. omega (arith, q)) refl i))
        (not_reduced e g.symbol g.left (f (suc k) 0 e g (λ q. omega (arith, q)) i refl))

-- ---- right sides
abbrev pub right_sides_stay : List RuleEntry → Bool
right_sides_stay es = list_all (λ d. list_all (leaves_right d) es) es

module _ (sig : Signature) (y : System) where
  pub reduced_holds : left_sides_stay y.rules ≡ true → right_sides_stay y.rules ≡ true → AreReduced sig y
  reduced_holds l r = record {
    left_reduced = left_of_test y.rules l;
    right_reduced = λ j k d e x z. no_part d e.symbol e.right
        (list_all_at (leaves_right d) y.rules k e (list_all_at (λ d. list_all (leaves_right d) y.rules) y.rules j d r x) z);
  }

  pub reduced_left : AreReduced sig y → left_sides_stay y.rules ≡ true
  reduced_left a = test_of_left y.rules a.left_reduced

  pub reduced_right : AreReduced sig y → right_sides_stay y.rules ≡ true
  reduced_right a =
      test_of_all (λ d. list_all (leaves_right d) y.rules ≡ true) (λ d. list_all (leaves_right d) y.rules) (λ d q. q) y.rules
      (all_from_places (λ d. list_all (leaves_right d) y.rules ≡ true) y.rules
      (λ j d x. test_of_all (λ e. leaves_right d e ≡ true) (leaves_right d) (λ e q. q) y.rules
      (all_from_places (λ e. leaves_right d e ≡ true) y.rules (λ k e z. not_reduced d e.symbol e.right (a.right_reduced j k d e x z)))))

-- ---- the step of the loop
pub left_step : (es : List RuleEntry) (i : ℕ) (d : RuleEntry) → i < length es
    → left_sides_stay (drop i es) ≡ list_all (are_irreducible (get_or es i d)) (drop (i + 1) es) && left_sides_stay (drop (i + 1) es)
left_step es i d h = ap left_sides_stay (drop_more es i d h)

-- ---- parts in rising order
of_rising : (a b : List ℕ) → IsPart (rising a) (rising b) → IsPart a b
of_rising a b p = record { each = λ x. omega (arith, p.each x, count-rising x a, count-rising x b) }

to_rising : (a b : List ℕ) → IsPart a b → IsPart (rising a) (rising b)
to_rising a b p = record { each = λ x. omega (arith, p.each x, count-rising x a, count-rising x b) }

pub part_decided : (a b : List ℕ) (r : Bool) → MatchBool r (IsPart (rising a) (rising b)) (IsPart (rising a) (rising b) → ⊥) → r ≡ is_part a b
part_decided a b true m = sym (test_of_part a b (of_rising a b m))
part_decided a b false m = go (is_part a b) refl
  where
    go : (t : Bool) → is_part a b ≡ t → false ≡ is_part a b
    go true e = absurd (m (to_rising a b (part_of_test a b e)))
    go false e = sym e
