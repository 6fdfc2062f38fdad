-- Numerals in lowest terms stay so in parts, in terms that stand in a formula, where sorts or terms are put, and in the clauses that formulas and terms give.
use Rattle.std.specs.Prelude.{ℕ, ℤ, pos, Bool, List, ◌≡◌, unsigned_abs, Some}
use Rattle.std.specs.List.{AllByRecursion, Contains}
use Rattle.std.proofs.Common.{subst}
use Rattle.std.proofs.Math.Nat.{one-dvd}
use Rattle.ae_core.specs.Putting.{instance, put_formula}
use Rattle.ae_core.specs.declared.formulas.Formula.{Formula, All, Ex, out-Formula}
use Rattle.ae_core.specs.declared.formulas.Quant.{Quant}
use Rattle.ae_core.specs.declared.problems.Item.TheVariants.{Axiom, Goal}
use Rattle.ae_core.specs.declared.problems.Problem.{Problem}
use Rattle.ae_core.specs.declared.problems.Signature.{Signature}
use Rattle.ae_core.specs.declared.terms.Head.{Head}
use Rattle.ae_core.specs.declared.terms.Sort.{Sort}
use Rattle.ae_core.specs.declared.terms.Term.{Term, Num, Fresh, Apply}
use Rattle.ae_journal.specs.Standing.{parts_of}
use Rattle.ae_journal.specs.States.{outside}
use Rattle.ae_journal.specs.Systems.{field_terms}
use Rattle.ae_legal_texts.specs.Numbers.{sort_numbers}
use Rattle.ae_rules.specs.Clauses.{Clause, literal, row}
use Rattle.ae_rules.specs.Derivations.{goal_body}
use Rattle.ae_rules.specs.Instances.{count_from, exhaustion, fresh_clause, hypothesis, instance_clause, trichotomy}
use Rattle.ae_writable.specs.Numbers.{AreValuesWithin, HasLowestNumerals, IsValueWithin}
use Rattle.ae_numerals_kept.specs.Lowest.{IsLowest, IsLowestTerm}
use Rattle.ae_numerals_kept.proofs.Layers.{in_sort, in_numeral, in_fresh, in_apply, in_arguments, block_parts, all_numbers, ex_numbers}
use Rattle.ae_numerals_kept.proofs.Parts.{InClause, part_kept, outside_kept, field_kept, constants_kept, literal_kept, row_kept, instance_kept, fresh_kept, choice_kept, order_kept, hypothesis_kept, goal_kept}
use Rattle.ae_numerals_kept.proofs.Put.{formula_instance, formula_put}

-- ---- terms
pub sort_values : (s : Sort) → AreValuesWithin (sort_numbers s)
sort_values s = in_sort IsValueWithin (λ n. tt) s

pub whole_lowest : (z : ℤ) (real : Bool) → IsLowestTerm (Num z (pos 1) real)
whole_lowest z real = in_numeral IsValueWithin (λ n. tt) z (pos 1) real (one-dvd (unsigned_abs z), one-dvd 1, λ d a b. b)

pub constant_lowest : (n : ℕ) (s : Sort) → IsLowestTerm (Fresh n s)
constant_lowest n s = in_fresh IsValueWithin (λ n. tt) n s

pub constants_lowest : (m : ℕ) (ss : List Sort) → AllByRecursion IsLowestTerm (count_from m ss)
constants_lowest m ss = constants_kept IsValueWithin (λ n. tt) m ss

pub apply_lowest : (h : Head) (ss : List Sort) (us : List Term) → AllByRecursion IsLowestTerm us → IsLowestTerm (Apply h ss us)
apply_lowest h ss us a = in_apply IsValueWithin (λ n. tt) h ss us a

pub arguments_lowest : (h : Head) (ss : List Sort) (us : List Term) → IsLowestTerm (Apply h ss us) → AllByRecursion IsLowestTerm us
arguments_lowest h ss us w = in_arguments IsValueWithin (λ n. tt) h ss us w

pub fields_lowest : (s : Sort) (u : Term) (n : ℕ) → IsLowestTerm u → AllByRecursion IsLowestTerm (field_terms s u n)
fields_lowest s u n w = field_kept IsValueWithin (λ n. tt) s u n w

-- ---- formulas
pub part_lowest : (f h : Formula) → IsLowest f → Contains (parts_of f) h → IsLowest h
part_lowest f h w i = part_kept IsValueWithin (λ n. tt) f h w i

pub outside_lowest : (f : Formula) → IsLowest f → AllByRecursion IsLowestTerm (outside f)
outside_lowest f w = outside_kept IsValueWithin (λ n. tt) f w

pub body_lowest : (q : Quant) → IsLowest (All q) → IsLowest q.body
body_lowest q w = (block_parts IsValueWithin (λ n. tt) q (subst AreValuesWithin (all_numbers q) w)).1

pub ex_body_lowest : (q : Quant) → IsLowest (Ex q) → IsLowest q.body
ex_body_lowest q w = (block_parts IsValueWithin (λ n. tt) q (subst AreValuesWithin (ex_numbers q) w)).1

pub put_lowest : (ts : List Term) → AllByRecursion IsLowestTerm ts → (f : Formula) → IsLowest f → IsLowest (put_formula ts f)
put_lowest ts a f w = formula_put IsValueWithin (λ n. tt) ts a f 0 w

pub instance_lowest : (ss : List Sort) (f : Formula) → IsLowest f → IsLowest (instance ss f)
instance_lowest ss f w = formula_instance IsValueWithin (λ n. tt) ss f w

-- ---- literals and clauses
pub literal_lowest : (f : Formula) → IsLowest f → (sign : Bool) → IsLowest (literal sign f).formula
literal_lowest f w sign = literal_kept IsValueWithin (λ n. tt) f w sign

abbrev pub IsLowestClause : Clause → Type 0
IsLowestClause = InClause IsValueWithin (λ n. tt)

pub row_lowest : (f : Formula) → IsLowest f → (r : ℕ) (c : Clause) → row r f ≡ Some c → IsLowestClause c
row_lowest f w r c e = row_kept IsValueWithin (λ n. tt) f w r c e

pub instances_lowest : (sig : Signature) (f : Formula) (ts : List Term) → IsLowest f → AllByRecursion IsLowestTerm ts → (c : Clause) → instance_clause sig f ts (out-Formula f) ≡ Some c → IsLowestClause c
instances_lowest sig f ts w a c e = instance_kept IsValueWithin (λ n. tt) sig f ts w a c e

pub fresh_lowest : (f : Formula) (m : ℕ) → IsLowest f → (c : Clause) → fresh_clause f m (out-Formula f) ≡ Some c → IsLowestClause c
fresh_lowest f m w c e = fresh_kept IsValueWithin (λ n. tt) f m w c e

pub choice_lowest : (sig : Signature) (t : Term) → IsLowestTerm t → (c : Clause) → exhaustion sig t ≡ Some c → IsLowestClause c
choice_lowest sig t w c e = choice_kept IsValueWithin (λ n. tt) sig t w c e

pub order_lowest : (sig : Signature) (s t : Term) → IsLowestTerm s → IsLowestTerm t → (c : Clause) → trichotomy sig s t ≡ Some c → IsLowestClause c
order_lowest sig s t v w c e = order_kept IsValueWithin (λ n. tt) sig s t v w c e

-- ---- problems
pub hypothesis_lowest : (p : Problem) (g k : ℕ) (ss : List Sort) (f : Formula) → HasLowestNumerals p → hypothesis p g k ss ≡ Some f → IsLowest f
hypothesis_lowest p g k ss f low e = hypothesis_kept IsValueWithin (λ n. tt) p (λ i n v h at. low i (Axiom n v h) at) g k ss f e

pub goal_lowest : (p : Problem) (g : ℕ) (f : Formula) → HasLowestNumerals p → goal_body p g ≡ Some f → IsLowest f
goal_lowest p g f low e = goal_kept IsValueWithin (λ n. tt) p (λ i n v h at. low i (Goal n v h) at) g f e
