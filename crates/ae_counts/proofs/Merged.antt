-- Numbers whose counts have 64 bits, and whose values are within their limits, are within their limits.
use Rattle.std.specs.Prelude.{ℕ, suc, ◌<◌, ◌≤◌, ◌^◌, true, List, [], ◌∷◌, ◌≡◌, map}
use Rattle.std.specs.List.{AllByRecursion, flat_map}
use Rattle.std.specs.List.Sorted.{IsNonDecreasing}
use Rattle.std.proofs.Common.{sym, subst, arith}
use Rattle.std.proofs.lemmas.Bool.{ltb-true}
use Rattle.ae_base.proofs.AllOf.{all_append, all_both, all_of_test}
use Rattle.ae_core.proofs.Recursion.{fold_var, fold_rigid, fold_int, fold_real, fold_bool, fold_unit, fold_named}
use Rattle.ae_core.specs.Inner.Induction.{by_sorts}
use Rattle.ae_core.specs.declared.terms.Sort.{Sort, Var, Rigid, Int, Real, Bool as BoolSort, Unit as UnitSort, Named}
use Rattle.ae_legal_texts.specs.Numbers.{Number, count, numeral, factor, IsWithin, AreWithin, sort_numbers, sort_numbers_step}
use Rattle.ae_stategrammar.specs.Fitting.{Rises}
use Rattle.ae_valuetext.specs.Texts.{AreNames}
use Rattle.ae_writable.specs.Numbers.{IsCountWithin, AreCountsWithin, IsValueWithin, AreValuesWithin}
use Rattle.ae_counts.specs.Inner.Counted.{count_within, counts_within, number_counts, numbers_count}

number_counted : (n : Number) → number_counts n ≡ true → IsCountWithin n
number_counted (count n) e = ltb-true n (2 ^ 64) e
number_counted (numeral a b) e = tt
number_counted (factor z) e = tt

pub counted : (ns : List Number) → numbers_count ns ≡ true → AreCountsWithin ns
counted = all_of_test number_counts IsCountWithin number_counted

both_within : (n : Number) → IsCountWithin n → IsValueWithin n → IsWithin n
both_within (count n) c v = c
both_within (numeral a b) c v = v
both_within (factor z) c v = v

pub within : (ns : List Number) → numbers_count ns ≡ true → AreValuesWithin ns → AreWithin ns
within ns e v = all_both IsCountWithin IsValueWithin IsWithin both_within ns (counted ns e) v

pub names : (ns : List ℕ) → counts_within ns ≡ true → AreNames ns
names = all_of_test count_within (λ n. n < 2 ^ 64) (λ n e. ltb-true n (2 ^ 64) e)

-- ---- sorts show no values
abbrev HasNoValues : Sort → Type 0
HasNoValues s = AreValuesWithin (sort_numbers s)

of_step : (s : Sort) (ns : List Number) → sort_numbers s ≡ ns → AreValuesWithin ns → HasNoValues s
of_step s ns e v = subst AreValuesWithin (sym e) v

mapped_values : (ss : List Sort) → AllByRecursion HasNoValues ss → AreValuesWithin (flat_map (λ ns. ns) (map sort_numbers ss))
mapped_values [] a = tt
mapped_values (s ∷ ss) a = all_append IsValueWithin (sort_numbers s) (flat_map (λ ns. ns) (map sort_numbers ss)) a.0 (mapped_values ss a.1)

sort_var : (i : ℕ) → HasNoValues (Var i)
unfolding sort_numbers
sort_var i = of_step (Var i) [] (fold_var (List Number) sort_numbers_step i) tt

sort_rigid : (i : ℕ) → HasNoValues (Rigid i)
unfolding sort_numbers
sort_rigid i = of_step (Rigid i) (count i ∷ []) (fold_rigid (List Number) sort_numbers_step i) (tt, tt)

sort_int : HasNoValues Int
unfolding sort_numbers
sort_int = of_step Int [] (fold_int (List Number) sort_numbers_step) tt

sort_real : HasNoValues Real
unfolding sort_numbers
sort_real = of_step Real [] (fold_real (List Number) sort_numbers_step) tt

sort_bool : HasNoValues BoolSort
unfolding sort_numbers
sort_bool = of_step BoolSort [] (fold_bool (List Number) sort_numbers_step) tt

sort_unit : HasNoValues UnitSort
unfolding sort_numbers
sort_unit = of_step UnitSort [] (fold_unit (List Number) sort_numbers_step) tt

numbers_named : (h : ℕ) (ss : List Sort) → sort_numbers (Named h ss) ≡ flat_map (λ ns. ns) (map sort_numbers ss)
unfolding sort_numbers
numbers_named h ss = fold_named (List Number) sort_numbers_step h ss

sort_named : (h : ℕ) (ss : List Sort) → AllByRecursion HasNoValues ss → HasNoValues (Named h ss)
sort_named h ss a = of_step (Named h ss) (flat_map (λ ns. ns) (map sort_numbers ss)) (numbers_named h ss) (mapped_values ss a)

sort_values : (s : Sort) → HasNoValues s
sort_values = by_sorts HasNoValues sort_var sort_rigid sort_int sort_real sort_bool sort_unit sort_named

pub sorts_values : (ss : List Sort) → AreValuesWithin (flat_map sort_numbers ss)
sorts_values [] = tt
sorts_values (s ∷ ss) = all_append IsValueWithin (sort_numbers s) (flat_map sort_numbers ss) (sort_values s) (sorts_values ss)

-- ---- multisets
rises_from : (low : ℕ) (ns : List ℕ) → AreNames ns → IsNonDecreasing (low ∷ ns) → Rises low ns
rises_from low [] a h = tt
rises_from low (n ∷ ns) a h =
    let first : low ≤ n = h 0 1 0 (omega arith) (omega arith) in
    (first, a.0, rises_from n ns a.1 (λ i j d l m. h (suc i) (suc j) d (omega (arith, l)) (omega (arith, m))))

-- a list of numbers of 64 bits that doesn't fall
pub rises : (ns : List ℕ) → counts_within ns ≡ true → IsNonDecreasing ns → Rises 0 ns
rises [] e h = tt
rises (n ∷ ns) e h = let a = names (n ∷ ns) e in (omega arith, a.0, rises_from n ns a.1 h)
