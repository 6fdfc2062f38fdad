-- Results and widths of computations that are made of others.
use Rattle.std.specs.Prelude.{ℤ, pos, ◌≡◌, List, [], ◌∷◌, ◌++◌, Some, None, Ok, Err, IsErrAnd, IfErr}
use Rattle.std.proofs.Common.{refl, sym, ap, ◌∙◌, subst, append_assoc}
use Rattle.std.specs.declared.result.Result.{Result}
use Rattle.ae_num.specs.declared.forms.Lin.{Lin}
use Rattle.ae_num.specs.declared.numbers.Wide.{Wide}
use Rattle.ae_num.specs.declared.numbers.NumFail.{NumFail}
use Rattle.ae_num.specs.declared.numbers.NumFail.TheVariants.{Wide as WideFail, Memory}
use Rattle.ae_num.specs.Forms.{Step, first_wide, IfWide, plus_steps, scale_steps, sum_of, multiple_of}
use Rattle.ae_num.proofs.StepLaws.{first_wide-none, first_wide-some}
use Rattle.ae_rules.specs.Lines.{Fact}
use Rattle.ae_core.specs.declared.terms.Term.{Term}
use Rattle.ae_numeric.specs.Stated.{Computation, Computed, known, added, scaled, added_up}
use Rattle.ae_numeric.specs.Computing.{IsResult, IsWideIn}

-- ---- steps after each other
pub both_none : (xs ys : List Step) → first_wide xs ≡ None → first_wide ys ≡ None → first_wide (xs ++ ys) ≡ None
both_none xs ys a b = first_wide-none xs ys a ∙ b

pub then_wide : (xs ys : List Step) (w : Wide) → first_wide xs ≡ None → first_wide ys ≡ Some w → first_wide (xs ++ ys) ≡ Some w
then_wide xs ys w a b = first_wide-none xs ys a ∙ b

-- what holds of a width holds of it in another list of steps
pub wide_too : (e : NumFail) (P Q : Wide → Type 0) → ((w : Wide) → P w → Q w) → IfWide e P → IfWide e Q
wide_too (WideFail w) P Q f p = f w p
wide_too (Memory m) P Q f p = tt

-- ---- multiples
module _ (top bottom : ℤ) (c : Computation) (before : List Term) where
  pub scaled_result : (after : List Term) (f g : Lin) → IsResult c before after f → g ≡ multiple_of top bottom f → first_wide (scale_steps top bottom f) ≡ None → IsResult (scaled top bottom c) before after g
  scaled_result after f g r e w = record {
    form = e ∙ ap (multiple_of top bottom) r.form;
    keys = r.keys;
    fits = both_none (c before).steps (scale_steps top bottom (c before).form) r.fits (ap (λ h. first_wide (scale_steps top bottom h)) (sym r.form) ∙ w);
  }

  pub scaled_wide_before : (e : NumFail) → IsWideIn c before e → IsWideIn (scaled top bottom c) before e
  scaled_wide_before e h =
      wide_too e (λ w. first_wide (c before).steps ≡ Some w) (λ w. first_wide ((scaled top bottom c) before).steps ≡ Some w)
      (λ w p. first_wide-some (c before).steps (scale_steps top bottom (c before).form) w p) h

  pub scaled_wide : (after : List Term) (f : Lin) (e : NumFail) → IsResult c before after f → IfWide e (λ w. first_wide (scale_steps top bottom f) ≡ Some w) → IsWideIn (scaled top bottom c) before e
  scaled_wide after f e r h =
      wide_too e (λ w. first_wide (scale_steps top bottom f) ≡ Some w) (λ w. first_wide ((scaled top bottom c) before).steps ≡ Some w)
      (λ w p. then_wide (c before).steps (scale_steps top bottom (c before).form) w r.fits (ap (λ h. first_wide (scale_steps top bottom h)) (sym r.form) ∙ p)) h

-- ---- sums
-- a known form, and what is added to it
module _ (f : Lin) (c : Computation) (before : List Term) where
  pub added_result : (after : List Term) (g h : Lin) → IsResult c before after g → h ≡ sum_of f g → first_wide (plus_steps f g) ≡ None → IsResult (added (known f) c) before after h
  added_result after g h r e w = record {
    form = e ∙ ap (sum_of f) r.form;
    keys = r.keys;
    fits = both_none (c before).steps (plus_steps f (c before).form) r.fits (ap (λ x. first_wide (plus_steps f x)) (sym r.form) ∙ w);
  }

  pub added_wide_before : (e : NumFail) → IsWideIn c before e → IsWideIn (added (known f) c) before e
  added_wide_before e h =
      wide_too e (λ w. first_wide (c before).steps ≡ Some w) (λ w. first_wide ((added (known f) c) before).steps ≡ Some w)
      (λ w p. first_wide-some (c before).steps (plus_steps f (c before).form) w p) h

  pub added_wide : (after : List Term) (g : Lin) (e : NumFail) → IsResult c before after g → IfWide e (λ w. first_wide (plus_steps f g) ≡ Some w) → IsWideIn (added (known f) c) before e
  added_wide after g e r h =
      wide_too e (λ w. first_wide (plus_steps f g) ≡ Some w) (λ w. first_wide ((added (known f) c) before).steps ≡ Some w)
      (λ w p. then_wide (c before).steps (plus_steps f (c before).form) w r.fits (ap (λ x. first_wide (plus_steps f x)) (sym r.form) ∙ p)) h

-- what is added to the form of a computation is added to the computation
added_steps : (a c : Computation) (before : List Term) (f : Lin) (middle : List Term) → IsResult a before middle f → first_wide ((added a c) before).steps ≡ first_wide ((added (known f) c) middle).steps
added_steps a c before f middle r =
    let x = a before in
    let rest = λ (ks : List Term) (g : Lin). (c ks).steps ++ plus_steps g (c ks).form in
    ap first_wide (append_assoc x.steps (c x.keys).steps (plus_steps x.form (c x.keys).form))
    ∙ first_wide-none x.steps (rest x.keys x.form) r.fits ∙ (λ i. first_wide (rest (sym r.keys i) (sym r.form i)))

pub added_to_result : (a c : Computation) (before middle after : List Term) (f h : Lin) → IsResult a before middle f → IsResult (added (known f) c) middle after h → IsResult (added a c) before after h
added_to_result a c before middle after f h r s = record {
  form = s.form ∙ (λ i. sum_of (r.form i) (c (r.keys i)).form);
  keys = s.keys ∙ ap (λ ks. (c ks).keys) r.keys;
  fits = added_steps a c before f middle r ∙ s.fits;
}

pub added_to_wide : (a c : Computation) (before middle : List Term) (f : Lin) (e : NumFail) → IsResult a before middle f → IsWideIn (added (known f) c) middle e → IsWideIn (added a c) before e
added_to_wide a c before middle f e r h =
    wide_too e (λ w. first_wide ((added (known f) c) middle).steps ≡ Some w) (λ w. first_wide ((added a c) before).steps ≡ Some w) (λ w p. added_steps a c before f middle r ∙ p) h

-- ---- sums of several
-- one more at the end
pub added_up_push : (gap : Fact → Computation) (c : Computation) (fs : List (ℤ × Fact)) (f : ℤ × Fact) → added_up gap c (fs ++ f ∷ []) ≡ added (added_up gap c fs) (scaled f.0 (pos 1) (gap f.1))
added_up_push gap c [] f = refl
added_up_push gap c (g ∷ fs) f = added_up_push gap (added c (scaled g.0 (pos 1) (gap g.1))) fs f

-- what leaves the limits first stays first, whatever is added
pub added_up_wide : (gap : Fact → Computation) (c : Computation) (fs : List (ℤ × Fact)) (before : List Term) (w : Wide) → first_wide (c before).steps ≡ Some w → first_wide ((added_up gap c fs) before).steps ≡ Some w
added_up_wide gap c [] before w e = e
added_up_wide gap c (f ∷ fs) before w e =
    added_up_wide gap (added c (scaled f.0 (pos 1) (gap f.1))) fs before w (wide_stays (c before) (scaled f.0 (pos 1) (gap f.1)) e)
  where
    wide_stays : (x : Computed) (d : Computation) → first_wide x.steps ≡ Some w → first_wide (x.steps ++ (d x.keys).steps ++ plus_steps x.form (d x.keys).form) ≡ Some w
    wide_stays x d e = first_wide-some (x.steps ++ (d x.keys).steps) (plus_steps x.form (d x.keys).form) w (first_wide-some x.steps (d x.keys).steps w e)

pub more_wide : (gap : Fact → Computation) (c : Computation) (fs : List (ℤ × Fact)) (before : List Term) (e : NumFail) → IsWideIn c before e → IsWideIn (added_up gap c fs) before e
more_wide gap c fs before e h =
    wide_too e (λ w. first_wide (c before).steps ≡ Some w) (λ w. first_wide ((added_up gap c fs) before).steps ≡ Some w) (λ w p. added_up_wide gap c fs before w p) h

pub added_up_append : (gap : Fact → Computation) (c : Computation) (fs gs : List (ℤ × Fact)) → added_up gap c (fs ++ gs) ≡ added_up gap (added_up gap c fs) gs
added_up_append gap c [] gs = refl
added_up_append gap c (f ∷ fs) gs = added_up_append gap (added c (scaled f.0 (pos 1) (gap f.1))) fs gs

-- ---- answers of calls
-- an error that is passed on
pub err_is : {A : Type 0} (r : Result A NumFail) (e : NumFail) (P : NumFail → Type 0) → IsErrAnd r (λ x. x ≡ e) → P e → IfErr r P
err_is (Ok a) e P h p = tt
err_is (Err x) e P h p = subst P (sym h) p

pub if_err : {A : Type 0} (r : Result A NumFail) (P Q : NumFail → Type 0) → ((e : NumFail) → P e → Q e) → IfErr r P → IfErr r Q
if_err (Ok a) P Q f p = tt
if_err (Err e) P Q f p = f e p
