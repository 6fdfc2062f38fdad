-- Steps that are kept for those that a step rests on.
use Rattle.std.specs.Prelude.{ℕ, ◌+◌, ◌<◌, ◌⊎◌, List, [], ◌∷◌, ◌++◌, ◌≡◌, map, take, length, slice_get, get_or, Option, Some, None, Result, Ok, Err, IfOk, OnOk}
use Rattle.std.proofs.Common.{refl, sym, ap, ◌∙◌, subst, arith, inl, inr, length-append}
use Rattle.std.proofs.lemmas.Bool.{cases_lt}
use Rattle.std.proofs.lemmas.Option.{same_Some, slice_get_within, slice_get_read}
use Rattle.ae_base.specs.Options.{or_else}
use Rattle.ae_base.proofs.AllOf.{all_from_places}
use Rattle.ae_base.proofs.ListFacts.{get_append, get_front, value_at}
use Rattle.ae_core.specs.declared.terms.Term.{Term}
use Rattle.ae_core.specs.declared.problems.Signature.{Signature}
use Rattle.ae_rules.specs.Lines.{Fact, Stated}
use Rattle.ae_store.specs.Parts.{IsIn}
use Rattle.ae_store.proofs.Gets.{get_last, get_pushed}
use Rattle.ae_just.specs.declared.steps.Step.{Step}
use Rattle.ae_just.specs.declared.steps.Side.{Side}
use Rattle.ae_just.specs.declared.steps.Rule.{Rule}
use Rattle.ae_just.specs.declared.steps.Rule.TheVariants.{Hyp}
use Rattle.ae_just.specs.Inner.Emitting.{place}
use Rattle.ae_just.specs.Needed.{itself, premise, AreNeeded}
use Rattle.ae_just.specs.Steps.{fact_of, literal, own_line, premises, Fits}
use Rattle.ae_just.proofs.EmitLaws.{place_is, rest_on_earlier}
use Rattle.ae_just.proofs.NeededLaws.{needed_within, within_at}
use Rattle.ae_just.proofs.LineLaws.{own_stated}
use Rattle.ae_short_derivations.specs.Shortened.{SaysAs, IsAssumedBy, IsShort}
use Rattle.ae_short_derivations.specs.Inner.Keeping.{place_of, IsCarried, IsKeepable, MayStand, IsKept, there, behind, AreKept}
use Rattle.ae_short_derivations.proofs.Carrying.{stated_of, same_literal, own_assumption, put_says}

-- a step that says what another says states it
says_stated : (ts : List Term) (steps : List Step) (n : ℕ) (s : Step) (f : Fact) → SaysAs ts steps n s → fact_of ts s ≡ f → Stated (map (own_line ts) steps) n f
says_stated ts steps n s f w e = stated_of ts steps n w.step w.is ∙ ap Some (w.same ∙ e)

says_more : (ts : List Term) (old : List Step) (x : Step) (n : ℕ) (s : Step) → SaysAs ts old n s → SaysAs ts (old ++ x ∷ []) n s
says_more ts old x n s w = record { step = w.step; is = get_append old (x ∷ []) n w.step w.is; same = w.same }

pub fits_nothing : (sig : Signature) (ts : List Term) (steps : List Step) → steps ≡ [] → Fits sig ts steps
fits_nothing sig ts steps e =
    subst (Fits sig ts) (sym e) (record {
      allowed = record { each = λ i s q. absurd (none i s q) };
      within = record { each = λ i s q. absurd (none i s q) };
      built = record { each = λ i s q. absurd (none i s q) };
      factors = record { each = λ i s q. absurd (none i s q) };
    })
  where
    none : (i : ℕ) (s : Step) → slice_get [] i ≡ Some s → ⊥
    none i s q = let w : ◌≡◌ {A = Option Step} None (Some s) = q in cc w

-- what is put behind the kept steps
pub kept_put : (sig : Signature) (ts : List Term) (needed numbers : List ℕ) (old new : List Step) (s : Step) (a b : Side) (r : Rule) (n : ℕ) → IsKeepable sig ts needed numbers old s → MayStand ts needed numbers s r
    → a ≡ s.left → b ≡ s.right → new ≡ old ++ (record { left = a; right = b; rule = r }) ∷ [] → n ≡ length old → Fits sig ts new → IsKept sig ts old new s n
kept_put sig ts needed numbers old new s a b r n k m p q e l f =
    behind (record { left = a; right = b; rule = r }) e l (put_says sig ts needed numbers old s a b r p q) (own_assumption sig ts needed numbers old s r m) f

pub kept_added : {E : Type 0} (sig : Signature) (ts : List Term) (needed numbers : List ℕ) (old new : List Step) (s : Step) (a b : Side) (r : Rule) (res : Result ℕ E) → IsKeepable sig ts needed numbers old s
    → MayStand ts needed numbers s r → a ≡ s.left → b ≡ s.right → OnOk res (new ≡ old ++ (record { left = a; right = b; rule = r }) ∷ []) → IfOk res (λ n. n ≡ length old) → Fits sig ts new → IfOk res (IsKept sig ts old new s)
kept_added sig ts needed numbers old new s a b r (Ok n) k m p q e l f = kept_put sig ts needed numbers old new s a b r n k m p q e l f
kept_added sig ts needed numbers old new s a b r (Err x) k m p q e l f = tt

-- ---- the numbers of the steps that are needed, as they are read
pub needed_of : (steps read : List Step) (id : ℕ) (needed all : List ℕ) → read ≡ steps → all ≡ needed → AreNeeded read id needed → AreNeeded steps id all
needed_of steps read id needed all e f a = subst (λ (x : List Step × List ℕ). AreNeeded x.0 id x.1) (λ i. (e i, sym f i)) a

module _ (sig : Signature) (ts : List Term) (steps : List Step) (id : ℕ) (all : List ℕ) (fits : Fits sig ts steps) (are : AreNeeded steps id all) (low : id < length steps) (read : List Step) (same : read ≡ steps) (i : ℕ)
    (l : i < length all) where
  pub number_below : get_or all i 0 < length read
  number_below =
      subst (λ (xs : List Step). get_or all i 0 < length xs) (sym same) (within_at all (length steps) i 0 (needed_within steps (rest_on_earlier sig ts steps fits.allowed) id all low are) l)

  pub step_read : (s : Step) → s ≡ get_or read (get_or all i 0) s → slice_get steps (get_or all i 0) ≡ Some s
  step_read s is = ap (λ (xs : List Step). slice_get xs (get_or all i 0)) (sym same) ∙ slice_get_read read (length read) (get_or all i 0) s refl number_below is

module _ (sig : Signature) (ts : List Term) (steps : List Step) (id : ℕ) (needed : List ℕ) (fits : Fits sig ts steps) (are : AreNeeded steps id needed) where
  pub kept_none : (kept : List Step) (numbers : List ℕ) → kept ≡ [] → numbers ≡ [] → AreKept sig ts steps id needed 0 kept numbers
  kept_none kept numbers e f =
      record {
        fits = fits_nothing sig ts kept e;
        long = ap length f;
        says = λ j k n s p q r. absurd (let w : ◌≡◌ {A = Option ℕ} None (Some n) = sym (ap (λ (ns : List ℕ). slice_get ns j) f) ∙ q in cc w);
        assumes = λ k tag s q r. absurd (let w : ◌≡◌ {A = Option Step} None (Some s) = sym (ap (λ (ss : List Step). slice_get ss k) e) ∙ q in cc w);
      }

  module _ (i : ℕ) (kept : List Step) (numbers : List ℕ) (a : AreKept sig ts steps id needed i kept numbers) (k : ℕ) (s : Step) (is : slice_get needed i ≡ Some k) (at : slice_get steps k ≡ Some s) where
    -- an earlier step that is needed has an earlier place
    place_before : (p : ℕ) → p < k → slice_get needed (place needed p) ≡ Some p → place needed p < i
    place_before p low q = elim (cases_lt (place needed p) i) [
      | inl b ↦ b
      | inr b ↦ elim (cases_lt i (place needed p)) [
        | inl d ↦ absurd (let w : k < p = are.rising.each i (place needed p) k p d is q in omega (arith, w, low))
        | inr d ↦ absurd (let e : place needed p ≡ i = omega (arith, b, d) in let v : p ≡ k = same_Some p k (sym q ∙ ap (slice_get needed) e ∙ is) in omega (arith, v, low))
      ]
    ]

    is_carried : (p : ℕ) → IsIn p (premises s.rule) → IsCarried ts needed numbers (take k steps) kept p
    is_carried p m f e =
        let o = own_stated ts (take k steps) p f e in
        let front = get_front steps k p o.0 o.1 in
        let q : slice_get needed (place needed p) ≡ Some p = place_is needed p (are.all p (premise k p s (are.sound k (record { place = i; is = is })) at m)) in
        let low = place_before p front.1 q in
        let long = a.long in
        let n = value_at numbers (place needed p) (omega (arith, low, long)) in
        subst (λ (x : ℕ). Stated (map (own_line ts) kept) x f) (sym (ap (λ (x : Option ℕ). or_else x 0) n.1)) (says_stated ts kept n.0 o.0 f (a.says (place needed p) p n.0 o.0 q n.1 front.0) o.2)

    pub keepable : IsKeepable sig ts needed numbers kept s
    keepable =
        record {
          earlier = take k steps;
          allowed = fits.allowed.each k s at;
          within = fits.within.each k s at;
          built = fits.built.each k s at;
          factors = fits.factors.each k s at;
          carried = all_from_places (IsCarried ts needed numbers (take k steps) kept) (premises s.rule) (λ n p e. is_carried p (record { place = n; is = e }));
        }

    module _ (new : List Step) (numbers' : List ℕ) (n : ℕ) (e : numbers' ≡ numbers ++ n ∷ []) where
      -- one more, where what was said still is
      more : Fits sig ts new → ((m : ℕ) (t : Step) → SaysAs ts kept m t → SaysAs ts new m t) → SaysAs ts new n s → ((l tag : ℕ) (t : Step) → slice_get new l ≡ Some t → t.rule ≡ Hyp tag → IsAssumedBy ts steps id t tag)
          → AreKept sig ts steps id needed (i + 1) new numbers'
      more f still here assumed =
          let many = a.long in
          record {
            fits = f;
            long = ap length e ∙ length-append numbers (n ∷ []) ∙ (omega (arith, many));
            says = λ j l m t p q r. said_by j l m t p (get_pushed numbers n j m (sym (ap (λ (ns : List ℕ). slice_get ns j) e) ∙ q)) r;
            assumes = assumed;
          }
        where
          said_by : (j l m : ℕ) (t : Step) → slice_get needed j ≡ Some l → (slice_get numbers j ≡ Some m) ⊎ ((j ≡ length numbers) × (n ≡ m)) → slice_get steps l ≡ Some t → SaysAs ts new m t
          said_by j l m t p (inl g) r = still m t (a.says j l m t p g r)
          said_by j l m t p (inr g) r =
              let long = a.long in
              let last : j ≡ i = g.0 ∙ long in
              let same : k ≡ l = same_Some k l (sym is ∙ ap (slice_get needed) (sym last) ∙ p) in
              let step : s ≡ t = same_Some s t (sym at ∙ ap (slice_get steps) same ∙ r) in
              subst (λ (x : Step). SaysAs ts new m x) step (subst (λ (x : ℕ). SaysAs ts new x s) g.1 here)

      pub kept_turn : IsKept sig ts kept new s n → AreKept sig ts steps id needed (i + 1) new numbers'
      kept_turn (there same w) =
          more (subst (Fits sig ts) (sym same) a.fits) (λ m t x. subst (λ (ss : List Step). SaysAs ts ss m t) (sym same) x) (subst (λ (ss : List Step). SaysAs ts ss n s) (sym same) w)
          (λ l tag t q r. a.assumes l tag t (sym (ap (λ (ss : List Step). slice_get ss l) same) ∙ q) r)
      kept_turn (behind x grown last fact own f) =
          more f (λ m t w. subst (λ (ss : List Step). SaysAs ts ss m t) (sym grown) (says_more ts kept x m t w))
          (subst (λ (ss : List Step). SaysAs ts ss n s) (sym grown) (subst (λ (m : ℕ). SaysAs ts (kept ++ x ∷ []) m s) (sym last) (record { step = x; is = get_last kept x; same = fact })))
          (λ l tag t q r. assumed l tag t (get_pushed kept x l t (sym (ap (λ (ss : List Step). slice_get ss l) grown) ∙ q)) r)
        where
          assumed : (l tag : ℕ) (t : Step) → (slice_get kept l ≡ Some t) ⊎ ((l ≡ length kept) × (x ≡ t)) → t.rule ≡ Hyp tag → IsAssumedBy ts steps id t tag
          assumed l tag t (inl g) r = a.assumes l tag t g r
          assumed l tag t (inr g) r =
              record {
                number = k;
                step = s;
                rests = are.sound k (record { place = i; is = is });
                is = at;
                assumed = own tag (ap (λ (y : Step). y.rule) g.1 ∙ r);
                same = sym (ap (literal ts) g.1) ∙ same_literal ts x s fact;
              }

  -- all of them
  pub all_kept : (kept : List Step) (numbers : List ℕ) (n : ℕ) → AreKept sig ts steps id needed (length needed) kept numbers → n ≡ place_of needed numbers id → IsShort sig ts steps id kept n
  all_kept kept numbers n a e =
      let q : slice_get needed (place needed id) ≡ Some id = place_is needed id (are.all id itself) in
      let low = slice_get_within needed (place needed id) id q in
      let long = a.long in
      let m = value_at numbers (place needed id) (omega (arith, low, long)) in
      let is : n ≡ m.0 = e ∙ ap (λ (x : Option ℕ). or_else x 0) m.1 in
      record {
        fits = a.fits;
        says = λ s r. subst (λ (x : ℕ). SaysAs ts kept x s) (sym is) (a.says (place needed id) id m.0 s q m.1 r);
        assumes = a.assumes;
      }
