-- What rounding states, and the gap of a strict inequality, less 1.
use Rattle.std.specs.Prelude.{pos, neg_ℤ, ◌≡◌, List, [], ◌++◌, Some, None}
use Rattle.std.proofs.Common.{arith, refl, sym, ap, ◌∙◌, subst}
use Rattle.std.proofs.lemmas.Nat.Gcd.{dvd_refl}
use borrow.Author.Differences.{ints}
use Rattle.ae_math.specs.Forms.{plus, number}
use Rattle.ae_num.specs.declared.forms.Lin.{Lin}
use Rattle.ae_num.specs.declared.numbers.Wide.{Wide}
use Rattle.ae_num.specs.declared.numbers.NumFail.{NumFail}
use Rattle.ae_num.specs.Forms.{meaning, SameMeaning, IsNormal, first_wide, IfWide, plus_steps, sum_of}
use Rattle.ae_num.proofs.StepLaws.{first_wide-some}
use Rattle.ae_rules.specs.Linear.{Linear}
use Rattle.ae_math.specs.Fractions.{whole}
use Rattle.ae_core.specs.declared.terms.Term.{Term}
use Rattle.ae_core.specs.declared.proofs.Relation.{Relation}
use Rattle.ae_core.specs.declared.proofs.Relation.TheVariants.{Equal, AtMost, Below}
use Rattle.ae_numeric.specs.Stated.{Computation, known, minus_one, taken_down}
use Rattle.ae_numeric.specs.Computing.{AreDistinct, IsFormOf, IsResult, IsWideIn}
use Rattle.ae_numeric.specs.Inner.Rounding.{lowered}
use Rattle.ae_numeric.proofs.Meanings.{sum_form}
use Rattle.ae_numeric.proofs.Computations.{both_none, then_wide, added_result, added_wide, added_to_result, added_to_wide}

-- ---- the gap of a strict inequality
minus_one_form : (ks : List Term) → AreDistinct ks → IsFormOf ks minus_one (number (whole (neg_ℤ (pos 1))))
minus_one_form ks d = record {
  distinct = d;
  keys = tt;
  normal = record {
    positive = omega (arith, ints);
    rising = tt;
    nonzero = tt;
    lowest = ((dvd_refl 1, (dvd_refl 1, tt)), λ d h. h.0);
    within = (omega arith, (omega arith, tt));
  };
  means = record { factors = λ u. refl; constants = refl };
}

pub lowered_form : (rel : Relation) (ks : List Term) (f h : Lin) (m : Linear) → rel ≡ Below → IsFormOf ks f m → IsNormal h → SameMeaning (meaning h) (plus (meaning f) (meaning minus_one)) → IsFormOf ks h (lowered rel m)
lowered_form rel ks f h m e i n s = subst (λ r. IsFormOf ks h (lowered r m)) (sym e) (sum_form ks f minus_one h m (number (whole (neg_ℤ (pos 1)))) i (minus_one_form ks i.distinct) n s)

pub lowered_result : (rel : Relation) (a : Computation) (before middle : List Term) (f h : Lin) → rel ≡ Below → IsResult a before middle f → h ≡ sum_of f minus_one → first_wide (plus_steps f minus_one) ≡ None → IsResult (taken_down rel a) before middle h
lowered_result rel a before middle f h b r e w =
    subst (λ s. IsResult (taken_down s a) before middle h) (sym b)
    (added_to_result a (known minus_one) before middle middle f h r (added_result f (known minus_one) middle middle minus_one h (record { form = refl; keys = refl; fits = refl }) e w))

pub lowered_wide : (rel : Relation) (a : Computation) (before middle : List Term) (f : Lin) (e : NumFail) → rel ≡ Below → IsResult a before middle f → IfWide e (λ w. first_wide (plus_steps f minus_one) ≡ Some w) → IsWideIn (taken_down rel a) before e
lowered_wide rel a before middle f e b r h =
    subst (λ s. IsWideIn (taken_down s a) before e) (sym b)
    (added_to_wide a (known minus_one) before middle f e r (added_wide f (known minus_one) middle middle minus_one e (record { form = refl; keys = refl; fits = refl }) h))

pub taken_down_wide : (rel : Relation) (a : Computation) (before : List Term) (w : Wide) → first_wide (a before).steps ≡ Some w → first_wide ((taken_down rel a) before).steps ≡ Some w
taken_down_wide Equal a before w e = e
taken_down_wide AtMost a before w e = e
taken_down_wide Below a before w e = first_wide-some ((a before).steps ++ []) (plus_steps (a before).form minus_one) w (first_wide-some (a before).steps [] w e)

-- ---- one computation and then another
module _ (a b : Computation) (before middle : List Term) (f : Lin) (r : IsResult a before middle f) where
  pub two_fit : (after : List Term) (g : Lin) → IsResult b middle after g → first_wide ((a before).steps ++ (b (a before).keys).steps) ≡ None
  two_fit after g s = both_none (a before).steps (b (a before).keys).steps r.fits (ap (λ ks. first_wide (b ks).steps) (sym r.keys) ∙ s.fits)

  pub second_wide : (w : Wide) → first_wide (b middle).steps ≡ Some w → first_wide ((a before).steps ++ (b (a before).keys).steps) ≡ Some w
  second_wide w e = then_wide (a before).steps (b (a before).keys).steps w r.fits (ap (λ ks. first_wide (b ks).steps) (sym r.keys) ∙ e)
