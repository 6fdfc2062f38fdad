-- Rounding a row is an allowed line between the terms that say the row and the rounded one.
use Rattle.std.specs.Prelude.{ℕ, ℤ, pos, ◌≡◌, ◌≢◌, ◌⊎◌, ◌*ℤ◌, ◌-ℤ◌, ◌<ℤ◌, Bool, true, false, cond, nat_eq, List, [], ◌∷◌, map, unsigned_abs}
use Rattle.std.specs.List.{AllByRecursion}
use Rattle.std.specs.Int.{◌∣◌}
use Rattle.std.proofs.Common.{arith, refl, sym, ap, ◌∙◌, subst, inl, inr}
use Rattle.std.proofs.lemmas.Int.{unsigned_abs-mul}
use native.Mathlib.Nat.{dvd-mul_left}
use native.Mathlib.Decide.{ℕ_discrete}
use lib.IntN.{one, *ℤ-one, zero-*ℤ, *ℤ_comm}
use borrow.Author.Differences.{ints}
use Rattle.ae_base.proofs.Decided.{pick_yes, pick_no}
use Rattle.ae_base.proofs.AllOf.{all_weaker, all_both, all_of_map}
use Rattle.ae_math.specs.Fractions.{ℚ, zero_ℚ, one_ℚ, ◌+ℚ◌, ◌*ℚ◌, ratio, whole}
use Rattle.ae_math.specs.Forms.{single, factor_in, sum_of, value}
use Rattle.ae_math.proofs.FractionLaws.{mul_zero_q, zero_mul_q, zero_add_q, add_zero_q, one_mul_q, one_mul_q'}
use Rattle.ae_math.proofs.Wholes.{whole_times, whole_same, zero_whole}
use Rattle.ae_core.specs.Decided.{Term_discrete}
use Rattle.ae_core.specs.declared.terms.Term.{Term}
use Rattle.ae_core.specs.declared.terms.Sort.{Int}
use Rattle.ae_core.specs.declared.problems.Signature.{Signature}
use Rattle.ae_core.specs.declared.proofs.Relation.{Relation}
use Rattle.ae_core.specs.declared.proofs.Relation.TheVariants.{Equal, AtMost, Below}
use Rattle.ae_num.specs.declared.forms.Part.{Part}
use Rattle.ae_num.specs.declared.forms.Lin.{Lin}
use Rattle.ae_num.specs.Forms.{meaning, IsNormal, factor_of as lin_factor}
use Rattle.ae_num.proofs.MeaningLaws.{factor_meaning, ratio_times, ratio_scaled}
use Rattle.ae_rules.specs.Linear.{Linear, form, factor_of}
use Rattle.ae_rules.specs.Lines.{Fact, gap, at_most, slack, AreMultiples, IsFloor, HaveSort, Rounds}
use Rattle.ae_row_lines.specs.Says.{Says}
use Rattle.ae_journal.specs.Sides.{AreDivided, IsRounded}
use Rattle.ae_rounding.specs.Laws.{AreOpaque}
use Rattle.ae_rounding.proofs.Whole.{own_factors, divided_keys}

-- ---- sums over the parts of a form
abbrev parts_over : ℤ → List Part → List (ℕ × ℚ)
parts_over den ps = map (λ p. (p.key, ratio p.factor den)) ps

no_sum : (g : ℕ → ℚ) (den : ℤ) (ps : List Part) → AllByRecursion (λ p. g p.key ≡ zero_ℚ) ps → sum_of g (parts_over den ps) ≡ zero_ℚ
no_sum g den [] a = refl
no_sum g den (p ∷ ps) a = (λ i. ratio p.factor den *ℚ a.0 i +ℚ no_sum g den ps a.1 i) ∙ ap (λ x. x +ℚ zero_ℚ) (mul_zero_q (ratio p.factor den)) ∙ zero_add_q zero_ℚ

one_sum : (g : ℕ → ℚ) (den : ℤ) (j : ℕ) → g j ≡ one_ℚ → (ps : List Part) → AllByRecursion (λ p. p.key ≢ j → g p.key ≡ zero_ℚ) ps → sum_of g (parts_over den ps) ≡ factor_in ℕ_discrete (parts_over den ps) j
one_sum g den j e [] a = refl
one_sum g den j e (p ∷ ps) a = by_case (ℕ_discrete p.key j) (one_sum g den j e ps a.1)
  where
    by_case : Dec (p.key ≡ j) → sum_of g (parts_over den ps) ≡ factor_in ℕ_discrete (parts_over den ps) j → sum_of g (parts_over den (p ∷ ps)) ≡ factor_in ℕ_discrete (parts_over den (p ∷ ps)) j
    by_case (yes h) ih = (λ i. ratio p.factor den *ℚ (ap g h ∙ e) i +ℚ ih i) ∙ ap (λ x. x +ℚ factor_in ℕ_discrete (parts_over den ps) j) (one_mul_q' (ratio p.factor den)) ∙ sym (pick_yes (ℕ_discrete p.key j) _ _ h)
    by_case (no n) ih =
        (λ i. ratio p.factor den *ℚ a.0 n i +ℚ ih i) ∙ ap (λ x. x +ℚ factor_in ℕ_discrete (parts_over den ps) j) (mul_zero_q (ratio p.factor den)) ∙ zero_add_q _ ∙ sym (pick_no (ℕ_discrete p.key j) _ _ n)

-- m times a / m
times_back : (m a : ℤ) → pos 0 <ℤ m → whole m *ℚ ratio a m ≡ whole a
unfolding one
times_back m a p = sym (ratio_times m (pos 1) a m (omega (arith, ints)) p) ∙ sym (ratio_scaled a (pos 1) (a *ℤ m) (m *ℤ pos 1) m (omega (arith, ints)) positive refl turn)
  where
    positive : pos 0 <ℤ (m *ℤ pos 1)
    positive = subst (λ z. pos 0 <ℤ z) (sym (*ℤ-one m)) p

    turn : pos 1 *ℤ m ≡ m *ℤ pos 1
    turn = omega (arith, ints)

-- ---- the opaque terms of a row
module _ (names : ℕ → Term) (u : Term) where
  abbrev at : ℕ → ℚ
  at k = factor_of (form (names k)) u

  at_name : (k : ℕ) → form (names k) ≡ single (names k) → names k ≡ u → at k ≡ one_ℚ
  at_name k o e = ap (λ f. factor_of f u) o ∙ pick_yes (Term_discrete (names k) u) _ _ e ∙ add_zero_q one_ℚ

  at_other : (k : ℕ) → form (names k) ≡ single (names k) → names k ≢ u → at k ≡ zero_ℚ
  at_other k o n = ap (λ f. factor_of f u) o ∙ pick_no (Term_discrete (names k) u) _ _ n

  -- the term is that of one name of the row, or of none
  data Place (ps : List Part) : Type 0 where
    found : (j : ℕ) → at j ≡ one_ℚ → AllByRecursion (λ p. p.key ≢ j → at p.key ≡ zero_ℚ) ps → Place ps
    nowhere : AllByRecursion (λ p. at p.key ≡ zero_ℚ) ps → Place ps

  only : (ps : List Part) (k : ℕ) → names k ≡ u → AllByRecursion (λ p. form (names p.key) ≡ single (names p.key)) ps → AllByRecursion (λ p. names k ≡ names p.key → k ≡ p.key) ps
      → AllByRecursion (λ p. p.key ≢ k → at p.key ≡ zero_ℚ) ps
  only ps k e os aps =
      all_both (λ (p : Part). form (names p.key) ≡ single (names p.key)) (λ (p : Part). names k ≡ names p.key → k ≡ p.key) (λ (p : Part). p.key ≢ k → at p.key ≡ zero_ℚ)
      (λ p o a n. at_other p.key o (λ z. n (sym (a (e ∙ sym z))))) ps os aps

  search : (all ps : List Part) → AllByRecursion (λ p. form (names p.key) ≡ single (names p.key)) all → AllByRecursion (λ p. form (names p.key) ≡ single (names p.key)) ps
      → AllByRecursion (λ p. AllByRecursion (λ q. names p.key ≡ names q.key → p.key ≡ q.key) all) ps → Place all ⊎ AllByRecursion (λ p. at p.key ≡ zero_ℚ) ps
  search all [] o os aps = inr tt
  search all (p ∷ ps) o os aps = by_case (Term_discrete (names p.key) u) (search all ps o os.1 aps.1)
    where
      by_case : Dec (names p.key ≡ u) → Place all ⊎ AllByRecursion (λ q. at q.key ≡ zero_ℚ) ps → Place all ⊎ AllByRecursion (λ q. at q.key ≡ zero_ℚ) (p ∷ ps)
      by_case (yes e) r = inl (found p.key (at_name p.key os.0 e) (only all p.key e o aps.0))
      by_case (no n) (inl f) = inl f
      by_case (no n) (inr z) = inr (at_other p.key os.0 n, z)

  place : (f : Lin) → AreOpaque names f → Place f.parts
  place f o = elim (search f.parts f.parts o.opaque o.opaque o.apart) [ inl p ↦ p | inr z ↦ nowhere z ]

  -- ---- what the denominator times a form has of a term
  found_share : (l : Lin) → IsNormal l → (j : ℕ) → at j ≡ one_ℚ
      → AllByRecursion (λ p. p.key ≢ j → at p.key ≡ zero_ℚ) l.parts → whole l.den *ℚ value at zero_ℚ (meaning l) ≡ whole (lin_factor l.parts j)
  found_share l n j e a =
      ap (λ x. whole l.den *ℚ x) ((λ i. one_sum at l.den j e l.parts a i +ℚ zero_mul_q (ratio l.constant l.den) i) ∙ add_zero_q _ ∙ factor_meaning l j n.rising)
      ∙ times_back l.den (lin_factor l.parts j) n.positive

  no_share : (l : Lin) → AllByRecursion (λ p. at p.key ≡ zero_ℚ) l.parts → whole l.den *ℚ value at zero_ℚ (meaning l) ≡ zero_ℚ
  no_share l a =
      ap (λ x. whole l.den *ℚ x) ((λ i. no_sum at l.den l.parts a i +ℚ zero_mul_q (ratio l.constant l.den) i) ∙ add_zero_q zero_ℚ) ∙ mul_zero_q (whole l.den)

pub no_constant : (names : ℕ → Term) (l : Lin) → IsNormal l
    → AllByRecursion (λ p. form (names p.key) ≡ single (names p.key)) l.parts → whole l.den *ℚ value (λ k. (form (names k)).constant) one_ℚ (meaning l) ≡ whole l.constant
no_constant names l n os =
    ap (λ x. whole l.den *ℚ x)
    ((λ i. no_sum (λ k. (form (names k)).constant) l.den l.parts
    (all_weaker (λ (p : Part). form (names p.key) ≡ single (names p.key)) (λ (p : Part). (form (names p.key)).constant ≡ zero_ℚ) (λ p o. ap (λ (f : Linear). f.constant) o) l.parts os) i +ℚ one_mul_q (ratio l.constant l.den) i)
    ∙ zero_add_q (ratio l.constant l.den))
    ∙ times_back l.den l.constant n.positive

divided_factor : (d : ℕ) (qs rs : List Part) → AreDivided d qs rs → (k : ℕ) → lin_factor qs k ≡ lin_factor rs k *ℤ pos d
divided_factor d [] [] a k = sym (zero-*ℤ (pos d))
divided_factor d [] (r ∷ rs) a k = absurd a
divided_factor d (q ∷ qs) [] a k = absurd a
divided_factor d (q ∷ qs) (r ∷ rs) a k = (λ i. cond (nat_eq (a.0 i) k) (a.1 i) (divided_factor d qs rs a.2 k i)) ∙ outside (nat_eq r.key k)
  where
    outside : (b : Bool) → cond b (r.factor *ℤ pos d) (lin_factor rs k *ℤ pos d) ≡ cond b r.factor (lin_factor rs k) *ℤ pos d
    outside true = refl
    outside false = refl

slack_is : (b : Bool) (x : Relation) (k : ℤ) → x ≡ cond b Below AtMost → slack x k ≡ cond b (k -ℤ pos 1) k
slack_is true x k e = ap (λ y. slack y k) e
slack_is false x k e = ap (λ y. slack y k) e

unequal : (b : Bool) (x : Relation) → x ≡ cond b Below AtMost → x ≢ Equal
unequal true x e z = cc
unequal false x e z = cc

-- ---- the line
module _ (names : ℕ → Term) (strict : Bool) (f r : Lin) (from : Fact) (s t : Term) (nf : IsNormal f) (nr : IsNormal r) (rounded : IsRounded strict f r) (o : AreOpaque names f)
    (says_from : Says names f.den (meaning f) from) (says_to : Says names (pos 1) (meaning r) (at_most s t)) where
  abbrev IsShared : Term → ℤ → Type 0
  IsShared u a = (factor_of (gap from) u ≡ whole (a *ℤ pos rounded.divisor)) × (factor_of (gap (at_most s t)) u ≡ whole a)

  to_factor : (u : Term) → factor_of (gap (at_most s t)) u ≡ whole r.den *ℚ value (at names u) zero_ℚ (meaning r)
  to_factor u = says_to.factors u ∙ ap (λ z. whole z *ℚ value (at names u) zero_ℚ (meaning r)) (sym rounded.whole)

  shared : (u : Term) → (a : ℤ) × IsShared u a
  shared u = by_place (place names u f o)
    where
      by_place : Place names u f.parts → (a : ℤ) × IsShared u a
      by_place (found j e a) = (
        lin_factor r.parts j,
        (
          says_from.factors u ∙ found_share names u f nf j e a ∙ ap whole (divided_factor rounded.divisor f.parts r.parts rounded.divided j),
          to_factor u ∙ found_share names u r nr j e (divided_keys (λ k. k ≢ j → at names u k ≡ zero_ℚ) rounded.divisor f.parts r.parts rounded.divided a),
        ),
      )
      by_place (nowhere a) = (
        pos 0,
        (
          says_from.factors u ∙ no_share names u f a ∙ zero_whole ∙ ap whole (sym (zero-*ℤ (pos rounded.divisor))),
          to_factor u ∙ no_share names u r (divided_keys (λ k. at names u k ≡ zero_ℚ) rounded.divisor f.parts r.parts rounded.divided a) ∙ zero_whole,
        ),
      )

  own_at : (p : Part) → form (names p.key) ≡ single (names p.key)
      → AllByRecursion (λ q. names p.key ≡ names q.key → p.key ≡ q.key) f.parts → lin_factor f.parts p.key ≡ p.factor → factor_of (gap from) (names p.key) ≡ whole p.factor
  own_at p h aps e =
      says_from.factors (names p.key) ∙ found_share names (names p.key) f nf p.key (at_name names (names p.key) p.key h refl) (only names (names p.key) f.parts p.key refl o.opaque aps) ∙ ap whole e

  own_shares : AllByRecursion (λ p. factor_of (gap from) (names p.key) ≡ whole p.factor) f.parts
  own_shares =
      all_both (λ (p : Part). form (names p.key) ≡ single (names p.key)) (λ (p : Part). AllByRecursion (λ q. names p.key ≡ names q.key → p.key ≡ q.key) f.parts × (lin_factor f.parts p.key ≡ p.factor))
      (λ (p : Part). factor_of (gap from) (names p.key) ≡ whole p.factor) (λ p h w. own_at p h w.0 w.1) f.parts o.opaque
      (all_both (λ (p : Part). AllByRecursion (λ q. names p.key ≡ names q.key → p.key ≡ q.key) f.parts) (λ (p : Part). lin_factor f.parts p.key ≡ p.factor)
      (λ (p : Part). AllByRecursion (λ q. names p.key ≡ names q.key → p.key ≡ q.key) f.parts × (lin_factor f.parts p.key ≡ p.factor)) (λ p a b. (a, b)) f.parts o.apart (own_factors f.parts nf.rising))

  some_term : (ps : List Part) → ps ≢ [] → AllByRecursion (λ p. factor_of (gap from) (names p.key) ≡ whole p.factor) ps → AllByRecursion (λ p. p.factor ≢ pos 0) ps → (u : Term) × (factor_of (gap from) u ≢ zero_ℚ)
  some_term [] m a n = absurd (m refl)
  some_term (p ∷ ps) m a n = (names p.key, λ z. n.0 (whole_same p.factor (pos 0) (sym a.0 ∙ z ∙ zero_whole)))

  divides_part : (e : ℕ) → AreMultiples (gap from) e → (p : Part) → factor_of (gap from) (names p.key) ≡ whole p.factor → e ∣ unsigned_abs p.factor
  divides_part e m p a =
      let w = m (names p.key) in
      subst (λ y. e ∣ unsigned_abs y) (sym (whole_same p.factor (w.0 *ℤ pos e) (sym a ∙ w.1))) (subst (λ k. e ∣ k) (sym (unsigned_abs-mul w.0 (pos e))) (dvd-mul_left e (unsigned_abs w.0)))

  factors_back : (u : Term) → whole (pos rounded.divisor) *ℚ factor_of (gap (at_most s t)) u ≡ factor_of (gap from) u
  factors_back u =
      let w = shared u in
      ap (λ x. whole (pos rounded.divisor) *ℚ x) (w.1).1 ∙ whole_times (pos rounded.divisor) w.0 ∙ ap whole (*ℤ_comm (pos rounded.divisor) w.0) ∙ sym (w.1).0

  to_constant : (gap (at_most s t)).constant ≡ whole r.constant
  to_constant =
      says_to.constants ∙ ap (λ z. whole z *ℚ value (λ k. (form (names k)).constant) one_ℚ (meaning r)) (sym rounded.whole)
      ∙ no_constant names r nr (divided_keys (λ k. form (names k) ≡ single (names k)) rounded.divisor f.parts r.parts rounded.divided o.opaque)

  pub rounds : (sig : Signature) → f.parts ≢ [] → from.relation ≡ cond strict Below AtMost → HaveSort sig Int from → HaveSort sig Int (at_most s t) → Rounds sig from s t
  rounds sig m e a b = record {
    inequality = unequal strict from.relation e;
    sorted = (a, b);
    occurs = some_term f.parts m own_shares nf.nonzero;
    divisor = rounded.divisor;
    divides = λ u. ((shared u).0, ((shared u).1).0);
    greatest = λ d h.
        (rounded.greatest).1 d
        (all_of_map (λ n. d ∣ n) (λ (p : Part). unsigned_abs p.factor) f.parts
        (all_weaker (λ (p : Part). factor_of (gap from) (names p.key) ≡ whole p.factor) (λ (p : Part). d ∣ unsigned_abs p.factor) (λ p w. divides_part d h p w) f.parts own_shares));
    factors = factors_back;
    constant = f.constant;
    is = says_from.constants ∙ no_constant names f nf o.opaque;
    rounded = r.constant;
    floor = subst (λ z. IsFloor z rounded.divisor r.constant) (sym (slack_is strict from.relation f.constant e)) rounded.floor;
    down = to_constant;
  }
