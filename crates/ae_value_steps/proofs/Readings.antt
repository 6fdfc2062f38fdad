-- The steps of the calls are allowed: their factors are read back from the bits of the numbers.
use Rattle.std.specs.Prelude.{ℕ, ℤ, pos, neg_ℤ, ◌*ℤ◌, ◌<ℤ◌, ◌≡◌, Bool, List, [], ◌∷◌, unsigned_abs}
use Rattle.std.proofs.Common.{sym, ap, ◌∙◌, subst}
use Rattle.std.proofs.lemmas.Int.{to_z-of_z}
use mir.Syntax.{w128}
use mir.Val.{SFits, to_z, of_z}
use native.Mathlib.Decide.{ℕ_discrete}
use Rattle.ae_math.specs.Fractions.{ℚ, zero_ℚ, ratio}
use Rattle.ae_math.specs.Forms.{single, plus as plus_form, minus as minus_form, scale as scale_form, factor, substitute}
use Rattle.ae_num.specs.declared.forms.Lin.{Lin}
use Rattle.ae_num.specs.Forms.{meaning, SameMeaning, IsNormal, factor_of}
use Rattle.ae_num.proofs.ReductionLaws.{read_back}
use Rattle.ae_core.specs.declared.terms.Term.{Term}
use Rattle.ae_core.specs.declared.terms.Op.TheVariants as op
use Rattle.ae_core.specs.declared.problems.Signature.{Signature}
use Rattle.ae_core.specs.declared.proofs.Scaled.{Scaled}
use Rattle.ae_rules.specs.Linear.{form, IsSame}
use Rattle.ae_store.specs.Terms.{named}
use Rattle.ae_just.specs.declared.steps.Step.{Step}
use Rattle.ae_just.specs.Sides.{joined, numeric}
use Rattle.ae_just.specs.Steps.{IsAllowedStep}
use Rattle.ae_state_steps.specs.ValueSteps.{IsWritten, IsFormOver, StatesValue, StatesEqual, StatesZero, sign_of, value_step, zero_step, equal_step, SumStep, DifferenceStep, MultipleStep, CoveredStep, PutStep, ApartStep, SolvedStep, AlikeStep}
use Rattle.ae_value_steps.specs.Stating.{IsStated}

-- a number that was stored and read
abbrev pub r : ℤ → ℤ
r z = to_z w128 (of_z w128 z)

den_read : (l : Lin) → IsNormal l → r l.den ≡ l.den
den_read l n = read_back l.den n.within.0

neg_read : (m z : ℤ) → SFits w128 m → m ≡ neg_ℤ (r z) → r z ≡ z → r m ≡ neg_ℤ z
neg_read m z f e g = to_z-of_z w128 m f ∙ e ∙ ap neg_ℤ g

-- a step of other factors that are the same
like : (P : ℤ → List Scaled → Type 0) (D E : ℤ) (ps qs : List Scaled) → E ≡ D → qs ≡ ps → P D ps → P E qs
like P D E ps qs e f h = subst (λ (z : ℤ). P z qs) (sym e) (subst (P D) (sym f) h)

-- D times a denominator is the product of two
product_read : (Q P x y z x' y' z' : ℤ) → Q *ℤ z' ≡ r P → P ≡ x' *ℤ y' → SFits w128 P → x' ≡ x → y' ≡ y → z' ≡ z → Q *ℤ z ≡ x *ℤ y
product_read Q P x y z x' y' z' h k f ex ey ez = ap (λ u. Q *ℤ u) (sym ez) ∙ h ∙ to_z-of_z w128 P f ∙ k ∙ (λ i. ex i *ℤ ey i)

module _ (sig : Signature) (ts : List Term) (steps : List Step) (real : Bool) where
  module _ (n a b ia ib : ℕ) (ln la lb : Lin) (Q P : ℤ) (ps : List Scaled) (wn : IsWritten sig ts real n ln) (sa : IsStated sig ts steps real a la ia) (sb : IsStated sig ts steps real b lb ib) (positive : pos 0 <ℤ Q) (fq : SFits w128 Q) (fp : SFits w128 P)
      (times : Q *ℤ r ln.den ≡ r P) (product : P ≡ r la.den *ℤ r lb.den) where
    times_read : Q *ℤ ln.den ≡ la.den *ℤ lb.den
    times_read = product_read Q P la.den lb.den ln.den (r la.den) (r lb.den) (r ln.den) times product fp (den_read la sa.written.normal) (den_read lb sb.written.normal) (den_read ln wn.normal)

    pub sum_allowed : SumStep → named ts n ≡ joined (numeric real op.Add) [] (named ts a) (named ts b) → SameMeaning (meaning ln) (plus_form (meaning la) (meaning lb))
        → ps ≡ record { factor = r lb.den; line = ia } ∷ record { factor = r la.den; line = ib } ∷ [] → IsAllowedStep sig ts steps (value_step real n ln (r Q) ps)
    sum_allowed law e s are =
        like (λ D qs. IsAllowedStep sig ts steps (value_step real n ln D qs)) Q (r Q) (record { factor = lb.den; line = ia } ∷ record { factor = la.den; line = ib } ∷ []) ps (to_z-of_z w128 Q fq)
        (are ∙ (λ i. record { factor = den_read lb sb.written.normal i; line = ia } ∷ record { factor = den_read la sa.written.normal i; line = ib } ∷ []))
        (law sig ts steps real n a b ia ib ln la lb Q wn sa.written sb.written sa.stated sb.stated e s positive times_read)

    pub difference_allowed : (m : ℤ) → SFits w128 m → m ≡ neg_ℤ (r la.den) → DifferenceStep → named ts n ≡ joined (numeric real op.Sub) [] (named ts a) (named ts b)
        → SameMeaning (meaning ln) (minus_form (meaning la) (meaning lb)) → ps ≡ record { factor = r lb.den; line = ia } ∷ record { factor = r m; line = ib } ∷ [] → IsAllowedStep sig ts steps (value_step real n ln (r Q) ps)
    difference_allowed m fm em law e s are =
        like (λ D qs. IsAllowedStep sig ts steps (value_step real n ln D qs)) Q (r Q) (record { factor = lb.den; line = ia } ∷ record { factor = neg_ℤ la.den; line = ib } ∷ []) ps (to_z-of_z w128 Q fq)
        (are ∙ (λ i. record { factor = den_read lb sb.written.normal i; line = ia } ∷ record { factor = neg_read m la.den fm em (den_read la sa.written.normal) i; line = ib } ∷ []))
        (law sig ts steps real n a b ia ib ln la lb Q wn sa.written sb.written sa.stated sb.stated e s positive times_read)

  pub multiple_allowed : (n a ia : ℕ) (ln la : Lin) (c d Q P : ℤ) (ps : List Scaled) → IsWritten sig ts real n ln → IsStated sig ts steps real a la ia → pos 0 <ℤ Q → SFits w128 Q → SFits w128 P → SFits w128 c → SFits w128 d
      → Q *ℤ r ln.den ≡ r P → P ≡ r la.den *ℤ r d → pos 0 <ℤ d → MultipleStep → IsSame (form (named ts n)) (scale_form (ratio c d) (form (named ts a))) → SameMeaning (meaning ln) (scale_form (ratio c d) (meaning la))
      → ps ≡ record { factor = r c; line = ia } ∷ [] → IsAllowedStep sig ts steps (value_step real n ln (r Q) ps)
  multiple_allowed n a ia ln la c d Q P ps wn sa positive fq fp fc fd times product pd law q s are =
      like (λ D qs. IsAllowedStep sig ts steps (value_step real n ln D qs)) Q (r Q) (record { factor = c; line = ia } ∷ []) ps (to_z-of_z w128 Q fq) (are ∙ (λ i. record { factor = to_z-of_z w128 c fc i; line = ia } ∷ []))
      (law sig ts steps real n a ia ln la c d Q wn sa.written sa.stated pd q s positive
      (product_read Q P la.den d ln.den (r la.den) (r d) (r ln.den) times product fp (den_read la sa.written.normal) (to_z-of_z w128 d fd) (den_read ln wn.normal)))

  pub covered_allowed : (n m ie im : ℕ) (l : Lin) (ps : List Scaled) → IsWritten sig ts real n l → IsStated sig ts steps real m l im → StatesEqual steps ie n m → CoveredStep
      → ps ≡ record { factor = r l.den; line = ie } ∷ record { factor = pos 1; line = im } ∷ [] → IsAllowedStep sig ts steps (value_step real n l (pos 1) ps)
  covered_allowed n m ie im l ps wn sm se law are =
      subst (λ (qs : List Scaled). IsAllowedStep sig ts steps (value_step real n l (pos 1) qs)) (sym (are ∙ (λ i. record { factor = den_read l wn.normal i; line = ie } ∷ record { factor = pos 1; line = im } ∷ [])))
      (law sig ts steps real n m ie im l wn sm.written se sm.stated)

  pub put_allowed : (n x i ix : ℕ) (new old lx : Lin) (den factor Q P : ℤ) (ps : List Scaled) → IsWritten sig ts real n new → IsStated sig ts steps real n old i → IsStated sig ts steps real x lx ix → den ≡ old.den → factor ≡ factor_of old.parts x
      → pos 0 <ℤ Q → SFits w128 Q → SFits w128 P → SFits w128 den → SFits w128 factor → Q *ℤ r new.den ≡ r P → P ≡ r den *ℤ r lx.den → PutStep → SameMeaning (meaning new) (substitute ℕ_discrete (meaning old) x (meaning lx))
      → ps ≡ record { factor = r lx.den; line = i } ∷ record { factor = r factor; line = ix } ∷ [] → IsAllowedStep sig ts steps (value_step real n new (r Q) ps)
  put_allowed n x i ix new old lx den factor Q P ps wn so sx ed ef positive fq fp fd ff times product law s are =
      like (λ D qs. IsAllowedStep sig ts steps (value_step real n new D qs)) Q (r Q) (record { factor = lx.den; line = i } ∷ record { factor = factor_of old.parts x; line = ix } ∷ []) ps (to_z-of_z w128 Q fq)
      (are ∙ (λ j. record { factor = den_read lx sx.written.normal j; line = i } ∷ record { factor = (to_z-of_z w128 factor ff ∙ ef) j; line = ix } ∷ []))
      (law sig ts steps real n x i ix new old lx Q wn so.written sx.written so.stated sx.stated s positive
      (product_read Q P old.den lx.den new.den (r den) (r lx.den) (r new.den) times product fp (to_z-of_z w128 den fd ∙ ed) (den_read lx sx.written.normal) (den_read new wn.normal)))

  pub apart_allowed : (p q ie ip iq : ℕ) (lp lq d : Lin) (Q P m : ℤ) (ps : List Scaled) → IsFormOver sig ts real d → IsStated sig ts steps real p lp ip → IsStated sig ts steps real q lq iq → StatesEqual steps ie p q → pos 0 <ℤ Q → SFits w128 Q → SFits w128 P
      → SFits w128 m → m ≡ neg_ℤ (r lq.den) → Q *ℤ r d.den ≡ r P → P ≡ r lp.den *ℤ r lq.den → ApartStep → SameMeaning (meaning d) (minus_form (meaning lp) (meaning lq))
      → ps ≡ record { factor = r P; line = ie } ∷ record { factor = r m; line = ip } ∷ record { factor = r lp.den; line = iq } ∷ [] → IsAllowedStep sig ts steps (zero_step real d (r Q) ps)
  apart_allowed p q ie ip iq lp lq d Q P m ps wd sp sq se positive fq fp fm em times product law s are =
      let dens : P ≡ lp.den *ℤ lq.den = product ∙ (λ i. den_read lp sp.written.normal i *ℤ den_read lq sq.written.normal i) in
      like (λ D qs. IsAllowedStep sig ts steps (zero_step real d D qs)) Q (r Q) (record { factor = lp.den *ℤ lq.den; line = ie } ∷ record { factor = neg_ℤ lq.den; line = ip } ∷ record { factor = lp.den; line = iq } ∷ []) ps (to_z-of_z w128 Q fq)
      (are ∙ (λ i. record { factor = (to_z-of_z w128 P fp ∙ dens) i; line = ie } ∷ record { factor = neg_read m lq.den fm em (den_read lq sq.written.normal) i; line = ip } ∷ record { factor = den_read lp sp.written.normal i; line = iq } ∷ []))
      (law sig ts steps real p q ie ip iq lp lq d Q sp.written sq.written wd se sp.stated sq.stated s positive
      (product_read Q P lp.den lq.den d.den (r lp.den) (r lq.den) (r d.den) times product fp (den_read lp sp.written.normal) (den_read lq sq.written.normal) (den_read d wd.normal)))

  pub equal_allowed : (a b ia ib : ℕ) (la lb : Lin) (ps : List Scaled) → IsStated sig ts steps real a la ia → IsStated sig ts steps real b lb ib → la ≡ lb → AlikeStep
      → ps ≡ record { factor = pos 1; line = ia } ∷ record { factor = neg_ℤ (pos 1); line = ib } ∷ [] → IsAllowedStep sig ts steps (equal_step a b (r la.den) ps)
  equal_allowed a b ia ib la lb ps sa sb e law are =
      like (λ D qs. IsAllowedStep sig ts steps (equal_step a b D qs)) la.den (r la.den) (record { factor = pos 1; line = ia } ∷ record { factor = neg_ℤ (pos 1); line = ib } ∷ []) ps (den_read la sa.written.normal) are
      (law sig ts steps real a b ia ib la sa.written (subst (IsWritten sig ts real b) (sym e) sb.written) sa.stated (subst (StatesValue steps ib real b) (sym e) sb.stated))

  pub solved_allowed : (x id : ℕ) (v d : Lin) (by : ℚ) (Q Z F S : ℤ) (ps : List Scaled) → IsWritten sig ts real x v → IsFormOver sig ts real d → StatesZero steps id real d → factor ℕ_discrete (meaning v) x ≡ zero_ℚ
      → SameMeaning (meaning d) (scale_form by (minus_form (single x) (meaning v))) → SFits w128 F → SFits w128 Q → SFits w128 Z → SFits w128 S → F ≡ factor_of d.parts x → Z ≡ pos (unsigned_abs (r F)) → S ≡ sign_of (r F) → pos 0 <ℤ Q → Q *ℤ r v.den ≡ r Z
      → SolvedStep → ps ≡ record { factor = r S; line = id } ∷ [] → IsAllowedStep sig ts steps (value_step real x v (r Q) ps)
  solved_allowed x id v d by Q Z F S ps wx wd sz free same ff fq fz fs ef ez es positive times law are =
      let f : r F ≡ factor_of d.parts x = to_z-of_z w128 F ff ∙ ef in
      like (λ D qs. IsAllowedStep sig ts steps (value_step real x v D qs)) Q (r Q) (record { factor = sign_of (factor_of d.parts x); line = id } ∷ []) ps (to_z-of_z w128 Q fq)
      (are ∙ (λ i. record { factor = (to_z-of_z w128 S fs ∙ es ∙ ap sign_of f) i; line = id } ∷ []))
      (law sig ts steps real x id v d by Q wx wd sz free same positive
      (ap (λ z. Q *ℤ z) (sym (den_read v wx.normal)) ∙ times ∙ to_z-of_z w128 Z fz ∙ ez ∙ ap (λ z. pos (unsigned_abs z)) f))
