-- Sums written out are well sorted.
use Rattle.std.specs.Prelude.{ℕ, ℤ, pos, ◌≡◌, ◌<◌, ◌^◌, Bool, true, false, ◌&&◌, List, [], ◌∷◌, map, Some, unsigned_abs}
use Rattle.std.specs.List.{AllByRecursion}
use Rattle.std.proofs.Common.{arith, refl, ap, ◌∙◌}
use Rattle.std.proofs.lemmas.Bool.Decides.{nat_tests}
use Rattle.ae_base.specs.Options.{when, ◌>>=◌, all_known}
use Rattle.ae_base.proofs.Decided.{decided_of}
use Rattle.ae_core.specs.Decided.{Sorts_discrete}
use Rattle.ae_core.specs.Sorts.{sort_of, is_closed_sort, same_sorts, head_sort, numeral_ok, within}
use Rattle.ae_core.proofs.SortLaws.{sort_in_num}
use Rattle.ae_core.proofs.ClosedSorts.{applied_from}
use Rattle.ae_core.specs.declared.terms.Sort.{Sort, Int, Real}
use Rattle.ae_core.specs.declared.terms.Term.{Term}
use Rattle.ae_core.specs.declared.terms.Op.{Op}
use Rattle.ae_core.specs.declared.terms.Op.TheVariants as op
use Rattle.ae_core.specs.declared.problems.Signature.{Signature}
use Rattle.ae_num.specs.declared.forms.Part.{Part}
use Rattle.ae_num.specs.declared.forms.Lin.{Lin}
use Rattle.ae_store.specs.Terms.{named}
use Rattle.ae_just.specs.declared.steps.Times.{Times}
use Rattle.ae_just.specs.declared.steps.Side.TheVariants as side
use Rattle.ae_just.specs.Sides.{side_term, numeric, joined, product, sum_from, sum_of}
use Rattle.ae_just.specs.Sides as written
use Rattle.ae_state_steps.specs.ValueSteps.{sort_for, times_of, value_side, name_side, IsNumberName, IsWritten, IsFormOver}

yes_all : (xs : List Sort) → same_sorts xs xs ≡ true
yes_all xs = decided_of (Sorts_discrete xs xs) refl

-- ---- numerals
whole_within : (z : ℤ) → unsigned_abs z < 2 ^ 127 → within z ≡ true
whole_within z h = grind (arith, nat_tests)

one_within : within (pos 1) ≡ true
one_within = refl

numeral_right : (z : ℤ) (real : Bool) → unsigned_abs z < 2 ^ 127 → numeral_ok z (pos 1) real ≡ true
numeral_right z true h = ap (λ b. b && within (pos 1) && true && true) (whole_within z h) ∙ ap (λ b. b && true) one_within
numeral_right z false h = ap (λ b. b && within (pos 1) && true && true) (whole_within z h) ∙ ap (λ b. b && true) one_within

pub whole_sorted : (sig : Signature) (z : ℤ) (real : Bool) → unsigned_abs z < 2 ^ 127 → sort_of sig (written.whole real z) ≡ Some (sort_for real)
whole_sorted sig z real h = sort_in_num sig (is_closed_sort sig) [] z (pos 1) real ∙ ap (λ b. when b (sort_for real)) (numeral_right z real h)

-- ---- sums and products of two
two_known : (sig : Signature) (a b : Term) (s : Sort) → sort_of sig a ≡ Some s → sort_of sig b ≡ Some s → all_known (map (sort_of sig) (a ∷ b ∷ [])) ≡ Some (s ∷ s ∷ [])
two_known sig a b s e f = λ i. e i >>= λ x. (f i >>= λ y. Some (y ∷ [])) >>= λ xs. Some (x ∷ xs)

applied_two : (sig : Signature) (real : Bool) (o : Op) (a b : Term) → head_sort sig (numeric real o) [] (sort_for real ∷ sort_for real ∷ []) ≡ Some (sort_for real)
    → sort_of sig a ≡ Some (sort_for real) → sort_of sig b ≡ Some (sort_for real) → sort_of sig (joined (numeric real o) [] a b) ≡ Some (sort_for real)
applied_two sig real o a b h e f = applied_from sig (numeric real o) [] (a ∷ b ∷ []) (sort_for real) (record { closed = refl; args = sort_for real ∷ sort_for real ∷ []; are = two_known sig a b (sort_for real) e f; is = h })

add_head : (sig : Signature) (real : Bool) → head_sort sig (numeric real op.Add) [] (sort_for real ∷ sort_for real ∷ []) ≡ Some (sort_for real)
add_head sig true = ap (λ b. when (same_sorts [] [] && b) Real) (yes_all (Real ∷ Real ∷ [])) ∙ ap (λ b. when (b && true) Real) (yes_all [])
add_head sig false = ap (λ b. when (same_sorts [] [] && b) Int) (yes_all (Int ∷ Int ∷ [])) ∙ ap (λ b. when (b && true) Int) (yes_all [])

mul_head : (sig : Signature) (real : Bool) → head_sort sig (numeric real op.Mul) [] (sort_for real ∷ sort_for real ∷ []) ≡ Some (sort_for real)
mul_head sig true = ap (λ b. when (same_sorts [] [] && b) Real) (yes_all (Real ∷ Real ∷ [])) ∙ ap (λ b. when (b && true) Real) (yes_all [])
mul_head sig false = ap (λ b. when (same_sorts [] [] && b) Int) (yes_all (Int ∷ Int ∷ [])) ∙ ap (λ b. when (b && true) Int) (yes_all [])

add_sorted : (sig : Signature) (real : Bool) (a b : Term) → sort_of sig a ≡ Some (sort_for real) → sort_of sig b ≡ Some (sort_for real) → sort_of sig (joined (numeric real op.Add) [] a b) ≡ Some (sort_for real)
add_sorted sig real a b e f = applied_two sig real op.Add a b (add_head sig real) e f

product_sorted : (sig : Signature) (ts : List Term) (real : Bool) (p : Times) → unsigned_abs p.factor < 2 ^ 127 → IsNumberName sig ts real p.name → sort_of sig (product real ts p) ≡ Some (sort_for real)
product_sorted sig ts real p h n = applied_two sig real op.Mul (written.whole real p.factor) (named ts p.name) (mul_head sig real) (whole_sorted sig p.factor real h) n

-- ---- sums of products
abbrev IsFine : Signature → List Term → Bool → Times → Type 0
IsFine sig ts real p = (unsigned_abs p.factor < 2 ^ 127) × IsNumberName sig ts real p.name

from_sorted : (sig : Signature) (ts : List Term) (real : Bool) (t : Term) (ps : List Times) → sort_of sig t ≡ Some (sort_for real) → AllByRecursion (IsFine sig ts real) ps → sort_of sig (sum_from real ts t ps) ≡ Some (sort_for real)
from_sorted sig ts real t [] e a = e
from_sorted sig ts real t (p ∷ ps) e a =
    from_sorted sig ts real (joined (numeric real op.Add) [] t (product real ts p)) ps (add_sorted sig real t (product real ts p) e (product_sorted sig ts real p (a.0).0 (a.0).1)) a.1

sum_sorted : (sig : Signature) (ts : List Term) (real : Bool) (ps : List Times) (c : ℤ) → AllByRecursion (IsFine sig ts real) ps → unsigned_abs c < 2 ^ 127 → sort_of sig (sum_of real ts ps c) ≡ Some (sort_for real)
sum_sorted sig ts real [] c a h = whole_sorted sig c real h
sum_sorted sig ts real (p ∷ ps) c a h =
    add_sorted sig real (sum_from real ts (product real ts p) ps) (written.whole real c) (from_sorted sig ts real (product real ts p) ps (product_sorted sig ts real p (a.0).0 (a.0).1) a.1) (whole_sorted sig c real h)

fine_parts : (sig : Signature) (ts : List Term) (real : Bool) (ps : List Part) → AllByRecursion (λ p. IsNumberName sig ts real p.key) ps → AllByRecursion (λ n. n < 2 ^ 127) (map (λ p. unsigned_abs p.factor) ps)
    → AllByRecursion (IsFine sig ts real) (times_of ps)
fine_parts sig ts real [] a b = tt
fine_parts sig ts real (p ∷ ps) a b = ((b.0, a.0), fine_parts sig ts real ps a.1 b.1)

pub value_sorted : (sig : Signature) (ts : List Term) (real : Bool) (n : ℕ) (l : Lin) → IsWritten sig ts real n l → sort_of sig (side_term ts (value_side real l)) ≡ Some (sort_for real)
value_sorted sig ts real n l w = sum_sorted sig ts real (times_of l.parts) l.constant (fine_parts sig ts real l.parts w.parts w.normal.within.1.1) w.normal.within.1.0

pub name_sorted : (sig : Signature) (ts : List Term) (real : Bool) (n : ℕ) (l : Lin) → IsWritten sig ts real n l → sort_of sig (side_term ts (name_side real n l)) ≡ Some (sort_for real)
name_sorted sig ts real n l w =
    sum_sorted sig ts real (record { factor = l.den; name = n } ∷ []) (pos 0) ((w.normal.within.0, w.name), tt) (let h : unsigned_abs (pos 0) < 2 ^ 127 = omega arith in h)

pub form_sorted : (sig : Signature) (ts : List Term) (real : Bool) (d : Lin) → IsFormOver sig ts real d → sort_of sig (side_term ts (value_side real d)) ≡ Some (sort_for real)
form_sorted sig ts real d w = sum_sorted sig ts real (times_of d.parts) d.constant (fine_parts sig ts real d.parts w.parts w.normal.within.1.1) w.normal.within.1.0

pub nothing_sorted : (sig : Signature) (ts : List Term) (real : Bool) → sort_of sig (side_term ts (side.Sum [] (pos 0) real)) ≡ Some (sort_for real)
nothing_sorted sig ts real = sum_sorted sig ts real [] (pos 0) tt (let h : unsigned_abs (pos 0) < 2 ^ 127 = omega arith in h)
