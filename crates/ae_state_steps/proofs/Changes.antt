-- The step of each change of a value is allowed.
use Rattle.std.specs.Prelude.{ℕ, ℤ, pos, negsuc, unsigned_abs, suc, neg_ℤ, ◌*ℤ◌, ◌<ℤ◌, ◌≡◌, Bool, true, false, List, [], ◌∷◌, map}
use Rattle.std.specs.List.{AllByRecursion}
use Rattle.std.proofs.Common.{arith, refl, sym, ap, ◌∙◌, subst, inl, inr}
use Rattle.ae_base.proofs.Integers.{positive_nonzero}
use native.Mathlib.Decide.{ℕ_discrete}
use borrow.Author.Differences.{ints}
use Rattle.ae_base.proofs.Decided.{pick_yes}
use Rattle.ae_math.specs.Fractions.{ℚ, zero_ℚ, one_ℚ, neg_ℚ, whole, ratio, ◌+ℚ◌, ◌*ℚ◌}
use Rattle.ae_math.specs.Forms.{number as number_form, single, plus as plus_form, minus as minus_form, scale as scale_form, substitute, factor}
use Rattle.ae_math.proofs.FractionLaws.{add_neg_q, add_zero_q, zero_add_q, add_comm_q, mul_zero_q, mul_neg_q, neg_mul_q, neg_neg_q, neg_add_q, mul_assoc_q, one_mul_q'}
use Rattle.ae_math.proofs.Wholes.{zero_whole}
use Rattle.ae_math.proofs.FormLaws.{minus_one, factor_in-append, factor_in-scale, same_trans, plus-same, scale-same}
use Rattle.ae_num.specs.declared.forms.Lin.{Lin}
use Rattle.ae_num.specs.Forms.{meaning, SameMeaning, IsNormal, factor_of as factor_at}
use Rattle.ae_num.proofs.MeaningLaws.{factor_meaning}
use Rattle.ae_core.specs.Decided.{Term_discrete}
use Rattle.ae_core.specs.Sorts.{sort_of}
use Rattle.ae_core.specs.declared.terms.Term.{Term}
use Rattle.ae_core.specs.declared.terms.Op.TheVariants as op
use Rattle.ae_core.specs.declared.problems.Signature.{Signature}
use Rattle.ae_core.specs.declared.proofs.Scaled.{Scaled}
use Rattle.ae_rules.specs.Linear.{Linear, form, factor_of, IsSame}
use Rattle.ae_math.specs.Forms.{number, plus, minus, scale}
use Rattle.ae_rules.specs.Lines.{Fact, equal, Stated, gap, Combined, HaveSort, IsNumeric, IsEqual}
use Rattle.ae_rules.proofs.LinearLaws.{form-Num, int_sum, real_sum, int_difference, real_difference}
use Rattle.ae_store.specs.Terms.{named}
use Rattle.ae_just.specs.declared.steps.Rule.TheVariants as rule
use Rattle.ae_just.specs.declared.steps.Step.{Step}
use Rattle.ae_just.specs.declared.steps.Side.{Side}
use Rattle.ae_just.specs.declared.steps.Side.TheVariants as side
use Rattle.ae_just.specs.Sides.{side_term, joined, numeric}
use Rattle.ae_just.specs.Steps.{IsAllowedStep, own_line}
use Rattle.ae_just.specs.Values.{IsValueOf, IsCombined, value_equation, combination}
use Rattle.ae_just.proofs.ValueLaws.{written_out, sum_line, difference_line, multiple_line, covered_line, put_line, apart_line, solved_line, alike_line}
use Rattle.ae_state_steps.specs.ValueSteps.{sort_for, times_of, value_side, name_side, value_step, StatesValue, StatesEqual, IsWritten, NumeralStep, LeafStep, SumStep, DifferenceStep, MultipleStep, CoveredStep, PutStep}
use Rattle.ae_state_steps.specs.ValueSteps.{StatesZero, IsFormOver, sign_of, ApartStep, SolvedStep, AlikeStep}
use Rattle.ae_state_steps.proofs.Stated.{stated_by, one_sort}
use Rattle.ae_state_steps.proofs.OverTerms.{over_terms, over_same, over_plus, over_minus, over_scale, over_single, over_number, put_form, whole_ratio, says_value, written}
use Rattle.ae_state_steps.proofs.SideSorts.{value_sorted, name_sorted, form_sorted, nothing_sorted}

-- the equation of a value
abbrev fact : List Term → Bool → ℕ → Lin → Fact
fact ts real n l = value_equation ts real l.den (times_of l.parts) l.constant (record { factor = l.den; name = n })

numeric_sort : (real : Bool) → IsNumeric (sort_for real)
numeric_sort true = inr refl
numeric_sort false = inl refl

-- ---- earlier steps
value_stated : (ts : List Term) (steps : List Step) (id : ℕ) (real : Bool) (n : ℕ) (l : Lin) → StatesValue steps id real n l → Stated (map (own_line ts) steps) id (fact ts real n l)
value_stated ts steps id real n l s = stated_by ts steps id (record { left = name_side real n l; right = value_side real l; rule = s.by }) s.there

equal_stated : (ts : List Term) (steps : List Step) (id n m : ℕ) → StatesEqual steps id n m → Stated (map (own_line ts) steps) id (equal (named ts n) (named ts m))
equal_stated ts steps id n m s = stated_by ts steps id (record { left = side.Name n; right = side.Name m; rule = s.by }) s.there

-- ---- a combination of earlier steps is allowed

fact_sorted : (sig : Signature) (ts : List Term) (real : Bool) (n : ℕ) (l : Lin) → IsWritten sig ts real n l → HaveSort sig (sort_for real) (fact ts real n l)
fact_sorted sig ts real n l w = (name_sorted sig ts real n l w, value_sorted sig ts real n l w)

combined_by : (sig : Signature) (ts : List Term) (steps : List Step) (real : Bool) (l r : Side) (D : ℤ) (parts : List Scaled) (fs : List (ℤ × Fact)) → HaveSort sig (sort_for real) (equal (side_term ts l) (side_term ts r)) → pos 0 <ℤ D
    → Combined (map (own_line ts) steps) parts fs → AllByRecursion IsEqual fs → AllByRecursion (λ f. HaveSort sig (sort_for real) f.1) fs → IsCombined D (equal (side_term ts l) (side_term ts r)) fs
    → IsAllowedStep sig ts steps (record { left = l; right = r; rule = rule.Lin D parts })
combined_by sig ts steps real l r D parts fs both p combined equals sorted sums =
    record {
      sorted = one_sort (sort_for real) (sort_of sig (side_term ts l)) (sort_of sig (side_term ts r)) both.0 both.1;
      allowed = (positive_nonzero D p, fs, combined, equals, record { sort = sort_for real; numeric = numeric_sort real; sorted = both; all_sorted = sorted; sums = sums });
    }

allowed_by : (sig : Signature) (ts : List Term) (steps : List Step) (real : Bool) (n : ℕ) (l : Lin) (D : ℤ) (parts : List Scaled) (fs : List (ℤ × Fact)) → IsWritten sig ts real n l → pos 0 <ℤ D
    → Combined (map (own_line ts) steps) parts fs → AllByRecursion IsEqual fs → AllByRecursion (λ f. HaveSort sig (sort_for real) f.1) fs → IsCombined D (fact ts real n l) fs
    → IsAllowedStep sig ts steps (value_step real n l D parts)
allowed_by sig ts steps real n l D parts fs w p combined equals sorted sums = combined_by sig ts steps real (name_side real n l) (value_side real l) D parts fs (fact_sorted sig ts real n l w) p combined equals sorted sums

-- ---- without premises
-- a fact whose value is the term's own form says nothing
nothing_says : (d : ℤ) (t : Term) (v : Linear) (f : Fact) → IsValueOf d t v f → IsSame v (form t) → IsCombined (pos 1) f []
nothing_says d t v f h s = record {
  factors = λ u. factor_in-scale Term_discrete (whole (pos 1)) (gap f).parts u ∙ ap (λ x. whole (pos 1) *ℚ x) (h.is.factors u ∙ factor_in-scale Term_discrete (whole d) (minus v (form t)).parts u
      ∙ ap (λ x. whole d *ℚ x) (factor_in-append Term_discrete v.parts (scale (neg_ℚ one_ℚ) (form t)).parts u
      ∙ (λ i. s.factors u i +ℚ (factor_in-scale Term_discrete (neg_ℚ one_ℚ) (form t).parts u ∙ minus_one (factor_of (form t) u)) i) ∙ add_neg_q (factor_of (form t) u)) ∙ mul_zero_q (whole d)) ∙ mul_zero_q (whole (pos 1));
  constants = ap (λ x. whole (pos 1) *ℚ x) (h.is.constants ∙ ap (λ x. whole d *ℚ x) ((λ i. s.constants i +ℚ minus_one (form t).constant i) ∙ add_neg_q (form t).constant) ∙ mul_zero_q (whole d)) ∙ mul_zero_q (whole (pos 1));
}

own_value : (sig : Signature) (ts : List Term) (steps : List Step) (real : Bool) (n : ℕ) (l : Lin) → IsWritten sig ts real n l → IsSame (over_terms ts (meaning l)) (form (named ts n))
    → IsAllowedStep sig ts steps (value_step real n l (pos 1) [])
own_value sig ts steps real n l w s =
    allowed_by sig ts steps real n l (pos 1) [] [] w (omega (arith, ints)) tt tt tt (nothing_says l.den (named ts n) (over_terms ts (meaning l)) (fact ts real n l) (says_value ts real n l w.normal) s)

pub numeral_step : NumeralStep
numeral_step sig ts steps real n l a b w e s =
    own_value sig ts steps real n l w
    (subst (λ (g : Linear). IsSame (over_terms ts (meaning l)) g) (sym (ap form e ∙ form-Num a b real))
    (same_trans Term_discrete (over_terms ts (meaning l)) (over_terms ts (number_form (ratio a b))) (number (ratio a b)) (over_same ts (meaning l) (number_form (ratio a b)) s) (over_number ts (ratio a b))))

pub leaf_step : LeafStep
leaf_step sig ts steps real n l w s =
    own_value sig ts steps real n l w (same_trans Term_discrete (over_terms ts (meaning l)) (over_terms ts (single n)) (form (named ts n)) (over_same ts (meaning l) (single n) s) (over_single ts n))

-- ---- sums and differences
sum_form : (real : Bool) (a b : Term) → form (joined (numeric real op.Add) [] a b) ≡ plus (form a) (form b)
sum_form true a b = real_sum [] a b
sum_form false a b = int_sum [] a b

difference_form : (real : Bool) (a b : Term) → form (joined (numeric real op.Sub) [] a b) ≡ minus (form a) (form b)
difference_form true a b = real_difference [] a b
difference_form false a b = int_difference [] a b

by_path : (f g : Linear) → f ≡ g → IsSame f g
by_path f g e = record { factors = λ u. ap (λ (h : Linear). factor_of h u) e; constants = ap (λ (h : Linear). h.constant) e }

pub sum_step : SumStep
sum_step sig ts steps real n a b ia ib ln la lb D wn wa wb sa sb e s p d =
    allowed_by sig ts steps real n ln D (record { factor = lb.den; line = ia } ∷ record { factor = la.den; line = ib } ∷ []) ((lb.den, fact ts real a la) ∷ (la.den, fact ts real b lb) ∷ []) wn p
    (refl, value_stated ts steps ia real a la sa, (refl, value_stated ts steps ib real b lb sb, tt)) (refl, (refl, tt)) (fact_sorted sig ts real a la wa, (fact_sorted sig ts real b lb wb, tt))
    (sum_line D ln.den la.den lb.den (named ts n) (named ts a) (named ts b) (over_terms ts (meaning ln)) (over_terms ts (meaning la)) (over_terms ts (meaning lb)) (fact ts real n ln) (fact ts real a la) (fact ts real b lb)
    (says_value ts real n ln wn.normal) (says_value ts real a la wa.normal) (says_value ts real b lb wb.normal)
    (by_path (form (named ts n)) (plus (form (named ts a)) (form (named ts b))) (ap form e ∙ sum_form real (named ts a) (named ts b)))
    (same_trans Term_discrete (over_terms ts (meaning ln)) (over_terms ts (plus_form (meaning la) (meaning lb))) (plus (over_terms ts (meaning la)) (over_terms ts (meaning lb))) (over_same ts (meaning ln) (plus_form (meaning la) (meaning lb)) s)
    (over_plus ts (meaning la) (meaning lb))) d)

pub difference_step : DifferenceStep
difference_step sig ts steps real n a b ia ib ln la lb D wn wa wb sa sb e s p d =
    allowed_by sig ts steps real n ln D (record { factor = lb.den; line = ia } ∷ record { factor = neg_ℤ la.den; line = ib } ∷ []) ((lb.den, fact ts real a la) ∷ (neg_ℤ la.den, fact ts real b lb) ∷ []) wn p
    (refl, value_stated ts steps ia real a la sa, (refl, value_stated ts steps ib real b lb sb, tt)) (refl, (refl, tt)) (fact_sorted sig ts real a la wa, (fact_sorted sig ts real b lb wb, tt))
    (difference_line D ln.den la.den lb.den (named ts n) (named ts a) (named ts b) (over_terms ts (meaning ln)) (over_terms ts (meaning la)) (over_terms ts (meaning lb)) (fact ts real n ln) (fact ts real a la)
    (fact ts real b lb) (says_value ts real n ln wn.normal) (says_value ts real a la wa.normal) (says_value ts real b lb wb.normal)
    (by_path (form (named ts n)) (minus (form (named ts a)) (form (named ts b))) (ap form e ∙ difference_form real (named ts a) (named ts b)))
    (same_trans Term_discrete (over_terms ts (meaning ln)) (over_terms ts (minus_form (meaning la) (meaning lb))) (minus (over_terms ts (meaning la)) (over_terms ts (meaning lb)))
    (over_same ts (meaning ln) (minus_form (meaning la) (meaning lb)) s) (over_minus ts (meaning la) (meaning lb))) d)

-- ---- multiples
pub multiple_step : MultipleStep
multiple_step sig ts steps real n a ia ln la c d D wn wa sa q f s p e =
    allowed_by sig ts steps real n ln D (record { factor = c; line = ia } ∷ []) ((c, fact ts real a la) ∷ []) wn p (refl, value_stated ts steps ia real a la sa, tt) (refl, tt) (fact_sorted sig ts real a la wa, tt)
    (multiple_line D ln.den la.den c d (ratio c d) (named ts n) (named ts a) (over_terms ts (meaning ln)) (over_terms ts (meaning la)) (fact ts real n ln) (fact ts real a la) (says_value ts real n ln wn.normal)
    (says_value ts real a la wa.normal) f
    (same_trans Term_discrete (over_terms ts (meaning ln)) (over_terms ts (scale_form (ratio c d) (meaning la))) (scale (ratio c d) (over_terms ts (meaning la))) (over_same ts (meaning ln) (scale_form (ratio c d) (meaning la)) s)
    (over_scale ts (ratio c d) (meaning la))) (whole_ratio c d q) e)

-- ---- a name that is equal to another
pub covered_step : CoveredStep
covered_step sig ts steps real n m ie im l wn wm se sm =
    allowed_by sig ts steps real n l (pos 1) (record { factor = l.den; line = ie } ∷ record { factor = pos 1; line = im } ∷ []) ((l.den, equal (named ts n) (named ts m)) ∷ (pos 1, fact ts real m l) ∷ []) wn (omega (arith, ints))
    (refl, equal_stated ts steps ie n m se, (refl, value_stated ts steps im real m l sm, tt)) (refl, (refl, tt)) ((wn.name, wm.name), (fact_sorted sig ts real m l wm, tt))
    (covered_line l.den (named ts n) (named ts m) (over_terms ts (meaning l)) (over_terms ts (meaning l)) (fact ts real n l) (fact ts real m l) (says_value ts real n l wn.normal) (says_value ts real m l wm.normal)
    (by_path (over_terms ts (meaning l)) (over_terms ts (meaning l)) refl))

-- ---- a value put for a name
put_value : (ts : List Term) (new old lx : Lin) (x : ℕ) → SameMeaning (meaning new) (substitute ℕ_discrete (meaning old) x (meaning lx))
    → IsSame (over_terms ts (meaning new)) (plus (over_terms ts (meaning old)) (scale (factor ℕ_discrete (meaning old) x) (minus (over_terms ts (meaning lx)) (form (named ts x)))))
put_value ts new old lx x s =
    let c = factor ℕ_discrete (meaning old) x in
    let put = substitute ℕ_discrete (meaning old) x (meaning lx) in
    let less = minus_form (meaning lx) (single x) in
    let all = plus_form (meaning old) (scale_form c less) in
    let V = over_terms ts in
    let first : IsSame (V (meaning new)) (V all) = same_trans Term_discrete (V (meaning new)) (V put) (V all) (over_same ts (meaning new) put s) (over_same ts put all (put_form (meaning old) (meaning lx) x)) in
    let inner : IsSame (V less) (minus (V (meaning lx)) (form (named ts x))) =
    same_trans Term_discrete (V less) (minus (V (meaning lx)) (V (single x))) (minus (V (meaning lx)) (form (named ts x))) (over_minus ts (meaning lx) (single x))
    (plus-same Term_discrete (V (meaning lx)) (V (meaning lx)) (scale (neg_ℚ one_ℚ) (V (single x))) (scale (neg_ℚ one_ℚ) (form (named ts x))) (by_path (V (meaning lx)) (V (meaning lx)) refl)
    (scale-same Term_discrete (neg_ℚ one_ℚ) (V (single x)) (form (named ts x)) (over_single ts x))) in
    let scaled : IsSame (V (scale_form c less)) (scale c (minus (V (meaning lx)) (form (named ts x)))) =
    same_trans Term_discrete (V (scale_form c less)) (scale c (V less)) (scale c (minus (V (meaning lx)) (form (named ts x)))) (over_scale ts c less) (scale-same Term_discrete c (V less) (minus (V (meaning lx)) (form (named ts x))) inner) in
    same_trans Term_discrete (V (meaning new)) (V all) (plus (V (meaning old)) (scale c (minus (V (meaning lx)) (form (named ts x))))) first
    (same_trans Term_discrete (V all) (plus (V (meaning old)) (V (scale_form c less))) (plus (V (meaning old)) (scale c (minus (V (meaning lx)) (form (named ts x))))) (over_plus ts (meaning old) (scale_form c less))
    (plus-same Term_discrete (V (meaning old)) (V (meaning old)) (V (scale_form c less)) (scale c (minus (V (meaning lx)) (form (named ts x)))) (by_path (V (meaning old)) (V (meaning old)) refl) scaled))

pub put_step : PutStep
put_step sig ts steps real n x i ix new old lx D wn wo wx so sx s p e =
    let c = factor_at old.parts x in
    allowed_by sig ts steps real n new D (record { factor = lx.den; line = i } ∷ record { factor = c; line = ix } ∷ []) ((lx.den, fact ts real n old) ∷ (c, fact ts real x lx) ∷ []) wn p
    (refl, value_stated ts steps i real n old so, (refl, value_stated ts steps ix real x lx sx, tt)) (refl, (refl, tt)) (fact_sorted sig ts real n old wo, (fact_sorted sig ts real x lx wx, tt))
    (put_line D new.den old.den lx.den c (factor ℕ_discrete (meaning old) x) (named ts n) (named ts x) (over_terms ts (meaning new)) (over_terms ts (meaning old)) (over_terms ts (meaning lx)) (fact ts real n new)
    (fact ts real n old) (fact ts real x lx) (says_value ts real n new wn.normal) (says_value ts real n old wo.normal) (says_value ts real x lx wx.normal) (put_value ts new old lx x s)
    (ap (λ y. whole old.den *ℚ y) (factor_meaning old x wo.normal.rising) ∙ whole_ratio c old.den wo.normal.positive) e)

-- ---- equations that are solved
-- what a sum that is 0 says
abbrev zero_fact : List Term → Bool → Lin → Fact
zero_fact ts real d = equal (side_term ts (value_side real d)) (side_term ts (side.Sum [] (pos 0) real))

zero_says : (ts : List Term) (real : Bool) (d : Lin) → IsNormal d → IsSame (gap (zero_fact ts real d)) (scale (neg_ℚ (whole d.den)) (over_terms ts (meaning d)))
zero_says ts real d n =
    let l = form (side_term ts (value_side real d)) in
    let V = over_terms ts (meaning d) in
    let sum : IsSame l (scale (whole d.den) V) =
    same_trans Term_discrete l (combination ts (times_of d.parts) d.constant) (scale (whole d.den) V) (written_out ts (times_of d.parts) d.constant real) (written ts d n) in
    let none : form (side_term ts (side.Sum [] (pos 0) real)) ≡ number (whole (pos 0)) = form-Num (pos 0) (pos 1) real in
    record {
      factors = λ u. factor_in-append Term_discrete (form (side_term ts (side.Sum [] (pos 0) real))).parts (scale (neg_ℚ one_ℚ) l).parts u
          ∙ (λ i. ap (λ (h : Linear). factor_of h u) none i +ℚ (factor_in-scale Term_discrete (neg_ℚ one_ℚ) l.parts u ∙ minus_one (factor_of l u) ∙ ap neg_ℚ (sum.factors u ∙ factor_in-scale Term_discrete (whole d.den) V.parts u)) i)
          ∙ zero_add_q (neg_ℚ (whole d.den *ℚ factor_of V u)) ∙ sym (neg_mul_q (whole d.den) (factor_of V u)) ∙ sym (factor_in-scale Term_discrete (neg_ℚ (whole d.den)) V.parts u);
      constants = (λ i. (ap (λ (h : Linear). h.constant) none ∙ sym zero_whole) i +ℚ (minus_one l.constant ∙ ap neg_ℚ sum.constants) i) ∙ zero_add_q (neg_ℚ (whole d.den *ℚ V.constant)) ∙ sym (neg_mul_q (whole d.den) V.constant);
    }

zero_sorted : (sig : Signature) (ts : List Term) (real : Bool) (d : Lin) → IsFormOver sig ts real d → HaveSort sig (sort_for real) (zero_fact ts real d)
zero_sorted sig ts real d w = (form_sorted sig ts real d w, nothing_sorted sig ts real)

zero_stated : (ts : List Term) (steps : List Step) (id : ℕ) (real : Bool) (d : Lin) → StatesZero steps id real d → Stated (map (own_line ts) steps) id (zero_fact ts real d)
zero_stated ts steps id real d s = stated_by ts steps id (record { left = value_side real d; right = side.Sum [] (pos 0) real; rule = s.by }) s.there

-- -(a - b) = b - a, times a number
turned_q : (w a b : ℚ) → neg_ℚ w *ℚ (a +ℚ neg_ℚ b) ≡ w *ℚ (b +ℚ neg_ℚ a)
turned_q w a b = neg_mul_q w (a +ℚ neg_ℚ b) ∙ sym (mul_neg_q w (a +ℚ neg_ℚ b)) ∙ ap (λ x. w *ℚ x) (neg_add_q a (neg_ℚ b) ∙ ap (λ x. neg_ℚ a +ℚ x) (neg_neg_q b) ∙ add_comm_q (neg_ℚ a) b)

-- a multiple of a difference is the opposite multiple of the difference turned
turned_form : (w : ℚ) (f g h : Linear) → IsSame h (minus f g) → IsSame (scale (neg_ℚ w) h) (scale w (minus g f))
turned_form w f g h s = record {
  factors = λ u. factor_in-scale Term_discrete (neg_ℚ w) h.parts u
      ∙ ap (λ x. neg_ℚ w *ℚ x) (s.factors u ∙ factor_in-append Term_discrete f.parts (scale (neg_ℚ one_ℚ) g).parts u ∙ ap (λ x. factor_of f u +ℚ x) (factor_in-scale Term_discrete (neg_ℚ one_ℚ) g.parts u ∙ minus_one (factor_of g u)))
      ∙ turned_q w (factor_of f u) (factor_of g u)
      ∙ sym (factor_in-scale Term_discrete w (minus g f).parts u ∙ ap (λ x. w *ℚ x) (factor_in-append Term_discrete g.parts (scale (neg_ℚ one_ℚ) f).parts u ∙ ap (λ x. factor_of g u +ℚ x) (factor_in-scale Term_discrete (neg_ℚ one_ℚ) f.parts u ∙ minus_one (factor_of f u))));
  constants = ap (λ x. neg_ℚ w *ℚ x) (s.constants ∙ ap (λ x. f.constant +ℚ x) (minus_one g.constant)) ∙ turned_q w f.constant g.constant ∙ sym (ap (λ x. w *ℚ (g.constant +ℚ x)) (minus_one f.constant));
}

pub apart_step : ApartStep
apart_step sig ts steps real p q ie ip iq lp lq d D wp wq wd se sp sq s pos_D e =
    let V = over_terms ts in
    let parts : IsSame (V (meaning d)) (minus (V (meaning lp)) (V (meaning lq))) =
    same_trans Term_discrete (V (meaning d)) (V (minus_form (meaning lp) (meaning lq))) (minus (V (meaning lp)) (V (meaning lq))) (over_same ts (meaning d) (minus_form (meaning lp) (meaning lq)) s) (over_minus ts (meaning lp) (meaning lq)) in
    let says : IsSame (gap (zero_fact ts real d)) (scale (whole d.den) (minus (V (meaning lq)) (V (meaning lp)))) =
    same_trans Term_discrete (gap (zero_fact ts real d)) (scale (neg_ℚ (whole d.den)) (V (meaning d))) (scale (whole d.den) (minus (V (meaning lq)) (V (meaning lp)))) (zero_says ts real d wd.normal)
    (turned_form (whole d.den) (V (meaning lp)) (V (meaning lq)) (V (meaning d)) parts) in
    combined_by sig ts steps real (value_side real d) (side.Sum [] (pos 0) real) D (record { factor = lp.den *ℤ lq.den; line = ie } ∷ record { factor = neg_ℤ lq.den; line = ip } ∷ record { factor = lp.den; line = iq } ∷ [])
    ((lp.den *ℤ lq.den, equal (named ts p) (named ts q)) ∷ (neg_ℤ lq.den, fact ts real p lp) ∷ (lp.den, fact ts real q lq) ∷ []) (zero_sorted sig ts real d wd) pos_D
    (refl, equal_stated ts steps ie p q se, (refl, value_stated ts steps ip real p lp sp, (refl, value_stated ts steps iq real q lq sq, tt))) (refl, (refl, (refl, tt)))
    ((wp.name, wq.name), (fact_sorted sig ts real p lp wp, (fact_sorted sig ts real q lq wq, tt)))
    (apart_line D d.den lp.den lq.den (named ts p) (named ts q) (V (meaning lp)) (V (meaning lq)) (zero_fact ts real d) (fact ts real p lp) (fact ts real q lq) says (says_value ts real p lp wp.normal) (says_value ts real q lq wq.normal) e)

-- the sign times a number is its size
sign_times : (c : ℤ) → sign_of c *ℤ c ≡ pos (unsigned_abs c)
sign_times (pos n) = let e : pos 1 *ℤ pos n ≡ pos n = omega (arith, ints) in e
sign_times (negsuc n) = let e : negsuc 0 *ℤ negsuc n ≡ pos (suc n) = omega (arith, ints) in e

-- -(w * (r * (f - g))) = c * (g - f) where w * r = c
multiplied : (w r c : ℚ) (f g h : Linear) → w *ℚ r ≡ c → IsSame h (scale r (minus f g)) → IsSame (scale (neg_ℚ w) h) (scale c (minus g f))
multiplied w r c f g h e s =
    let all = scale (neg_ℚ c) (minus f g) in
    same_trans Term_discrete (scale (neg_ℚ w) h) all (scale c (minus g f))
    (record {
      factors = λ u. factor_in-scale Term_discrete (neg_ℚ w) h.parts u ∙ ap (λ x. neg_ℚ w *ℚ x) (s.factors u ∙ factor_in-scale Term_discrete r (minus f g).parts u) ∙ regrouped (factor_of (minus f g) u)
          ∙ sym (factor_in-scale Term_discrete (neg_ℚ c) (minus f g).parts u);
      constants = ap (λ x. neg_ℚ w *ℚ x) s.constants ∙ regrouped (minus f g).constant;
    })
    (turned_form c f g (minus f g) (by_path (minus f g) (minus f g) refl))
  where
    regrouped : (y : ℚ) → neg_ℚ w *ℚ (r *ℚ y) ≡ neg_ℚ c *ℚ y
    regrouped y = sym (mul_assoc_q (neg_ℚ w) r y) ∙ ap (λ x. x *ℚ y) (neg_mul_q w r ∙ ap neg_ℚ e)

-- the multiple of a solved form is the factor of its name
solved_times : (d v : Lin) (x : ℕ) (times : ℚ) → IsNormal d → factor ℕ_discrete (meaning v) x ≡ zero_ℚ → SameMeaning (meaning d) (scale_form times (minus_form (single x) (meaning v))) → ratio (factor_at d.parts x) d.den ≡ times
solved_times d v x times n none same =
    sym (factor_meaning d x n.rising) ∙ same.factors x ∙ factor_in-scale ℕ_discrete times (minus_form (single x) (meaning v)).parts x
    ∙ ap (λ y. times *ℚ y) (factor_in-append ℕ_discrete ((x, one_ℚ) ∷ []) (scale_form (neg_ℚ one_ℚ) (meaning v)).parts x
    ∙ (λ i. pick_yes (ℕ_discrete x x) (one_ℚ +ℚ zero_ℚ) zero_ℚ refl i +ℚ (factor_in-scale ℕ_discrete (neg_ℚ one_ℚ) (meaning v).parts x ∙ ap (λ y. neg_ℚ one_ℚ *ℚ y) none ∙ mul_zero_q (neg_ℚ one_ℚ)) i)
    ∙ add_zero_q (one_ℚ +ℚ zero_ℚ) ∙ add_zero_q one_ℚ) ∙ one_mul_q' times

pub solved_step : SolvedStep
solved_step sig ts steps real x id v d times D wx wd sd none same p e =
    let V = over_terms ts in
    let c = factor_at d.parts x in
    let less = minus_form (single x) (meaning v) in
    -- the multiple is the factor of the name
    let times_is : times ≡ ratio c d.den = sym (solved_times d v x times wd.normal none same) in
    let parts : IsSame (V (meaning d)) (scale (ratio c d.den) (minus (form (named ts x)) (V (meaning v)))) =
    same_trans Term_discrete (V (meaning d)) (V (scale_form (ratio c d.den) less)) (scale (ratio c d.den) (minus (form (named ts x)) (V (meaning v))))
    (over_same ts (meaning d) (scale_form (ratio c d.den) less) (subst (λ (y : ℚ). SameMeaning (meaning d) (scale_form y less)) times_is same))
    (same_trans Term_discrete (V (scale_form (ratio c d.den) less)) (scale (ratio c d.den) (V less)) (scale (ratio c d.den) (minus (form (named ts x)) (V (meaning v)))) (over_scale ts (ratio c d.den) less)
    (scale-same Term_discrete (ratio c d.den) (V less) (minus (form (named ts x)) (V (meaning v)))
    (same_trans Term_discrete (V less) (minus (V (single x)) (V (meaning v))) (minus (form (named ts x)) (V (meaning v))) (over_minus ts (single x) (meaning v))
    (plus-same Term_discrete (V (single x)) (form (named ts x)) (scale (neg_ℚ one_ℚ) (V (meaning v))) (scale (neg_ℚ one_ℚ) (V (meaning v))) (over_single ts x)
    (by_path (scale (neg_ℚ one_ℚ) (V (meaning v))) (scale (neg_ℚ one_ℚ) (V (meaning v))) refl))))) in
    let says : IsSame (gap (zero_fact ts real d)) (scale (whole c) (minus (V (meaning v)) (form (named ts x)))) =
    same_trans Term_discrete (gap (zero_fact ts real d)) (scale (neg_ℚ (whole d.den)) (V (meaning d))) (scale (whole c) (minus (V (meaning v)) (form (named ts x)))) (zero_says ts real d wd.normal)
    (multiplied (whole d.den) (ratio c d.den) (whole c) (form (named ts x)) (V (meaning v)) (V (meaning d)) (whole_ratio c d.den wd.normal.positive) parts) in
    allowed_by sig ts steps real x v D (record { factor = sign_of c; line = id } ∷ []) ((sign_of c, zero_fact ts real d) ∷ []) wx p (refl, zero_stated ts steps id real d sd, tt) (refl, tt) (zero_sorted sig ts real d wd, tt)
    (solved_line D v.den c (sign_of c) (named ts x) (V (meaning v)) (zero_fact ts real d) (fact ts real x v) says (says_value ts real x v wx.normal) (e ∙ sym (sign_times c)))

-- ---- equal values
pub alike_step : AlikeStep
alike_step sig ts steps real a b ia ib l wa wb sa sb =
    combined_by sig ts steps real (side.Name a) (side.Name b) l.den (record { factor = pos 1; line = ia } ∷ record { factor = neg_ℤ (pos 1); line = ib } ∷ []) ((pos 1, fact ts real a l) ∷ (neg_ℤ (pos 1), fact ts real b l) ∷ [])
    (wa.name, wb.name) wa.normal.positive (refl, value_stated ts steps ia real a l sa, (refl, value_stated ts steps ib real b l sb, tt)) (refl, (refl, tt)) (fact_sorted sig ts real a l wa, (fact_sorted sig ts real b l wb, tt))
    (alike_line l.den (named ts a) (named ts b) (over_terms ts (meaning l)) (over_terms ts (meaning l)) (fact ts real a l) (fact ts real b l) (says_value ts real a l wa.normal) (says_value ts real b l wb.normal)
    (by_path (over_terms ts (meaning l)) (over_terms ts (meaning l)) refl))
