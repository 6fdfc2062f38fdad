-- Two multisets that steps equate, while names are put to both.
use Rattle.std.specs.Prelude.{ℕ, ◌+◌, ◌<◌, ◌≤◌, ◌≡◌, List, [], ◌∷◌, ◌++◌, length, take, get_or}
use Rattle.std.proofs.Common.{sym, ap, ◌∙◌, subst, arith, append-nil, append_assoc, length-append}
use Rattle.std.proofs.lemmas.List.{take_more, take_all}
use Rattle.std.proofs.lemmas.Option.{slice_get_within}
use Rattle.ae_core.specs.declared.terms.Term.{Term}
use Rattle.ae_core.specs.declared.problems.AcSymbol.{AcSymbol}
use Rattle.ae_core.specs.declared.problems.Signature.{Signature}
use Rattle.ae_store.specs.Growing.{IsFront}
use Rattle.ae_store.proofs.EnterLaws.{front_same, front_then}
use Rattle.ae_just.specs.declared.steps.Step.{Step}
use Rattle.ae_just.specs.Steps.{Fits}
use Rattle.ae_just.proofs.EmitLaws.{rest_on_earlier}
use Rattle.ae_state_steps.specs.ManySteps.{StatesMany, StatesNames}
use Rattle.ae_multiset_steps.specs.Equating.{RestsOnThese}
use Rattle.ae_multiset_steps.specs.Inner.Longer.{IsLonger}
use Rattle.ae_multiset_steps.proofs.Fronts.{many_kept}
use Rattle.ae_multiset_steps.proofs.Resting.{rests_as_before, rests_later, rests_through_two, rests_through_none}

-- the first k names of rest are put to both sides of the equation that `step` states, by the step `at`
pub record IsExtending (sig : Signature) (ts : List Term) (old now : List Step) (u : AcSymbol) (left right rest : List ℕ) (step at k : ℕ) (longer others : List ℕ) : Type 0 where
  pub longer_is : longer ≡ left ++ take k rest
  pub others_is : others ≡ right ++ take k rest
  pub states : StatesMany now at u longer others
  pub rests : RestsOnThese old now at (step ∷ [])
  pub kept : IsFront old now
  pub fits : Fits sig ts now

module _ (sig : Signature) (ts : List Term) (old : List Step) (u : AcSymbol) (left right rest : List ℕ) (step : ℕ) where
  pub extending_none : (longer others : List ℕ) → longer ≡ left → others ≡ right → Fits sig ts old → StatesMany old step u left right → IsExtending sig ts old old u left right rest step step 0 longer others
  extending_none longer others e f fits s =
      record {
        longer_is = e ∙ sym (append-nil left);
        others_is = f ∙ sym (append-nil right);
        states = subst (λ (zs : List ℕ). StatesMany old step u zs others) (sym e) (subst (λ (zs : List ℕ). StatesMany old step u left zs) (sym f) s);
        rests = rests_as_before old old (front_same old) (rest_on_earlier sig ts old fits.allowed) step (slice_get_within old step _ s.there);
        kept = front_same old;
        fits = fits;
      }

  pub one_longer : (all : List ℕ) (k d : ℕ) (xs more : List ℕ) → k < length rest → xs ≡ all ++ take k rest → more ≡ xs ++ get_or rest k d ∷ [] → more ≡ all ++ take (k + 1) rest
  one_longer all k d xs more l e f =
      f ∙ ap (λ (zs : List ℕ). zs ++ get_or rest k d ∷ []) e ∙ append_assoc all (take k rest) (get_or rest k d ∷ []) ∙ ap (λ (zs : List ℕ). all ++ zs) (sym (take_more rest k d l))

  -- one name more, which a step equates with itself; the last step was given the lists as slices
  pub extending_more : (now mid new : List Step) (at same id k d : ℕ) (longer others left' right' longer' others' : List ℕ) → IsExtending sig ts old now u left right rest step at k longer others → k < length rest → left' ≡ longer'
      → right' ≡ others' → longer' ≡ longer ++ get_or rest k d ∷ [] → others' ≡ others ++ get_or rest k d ∷ [] → IsFront now mid → Fits sig ts mid → RestsOnThese now mid same []
      → IsFront mid new → Fits sig ts new → RestsOnThese mid new id (at ∷ same ∷ []) → StatesMany new id u left' right' → IsExtending sig ts old new u left right rest step id (k + 1) longer' others'
  extending_more now mid new at same id k d longer others left' right' longer' others' i l p q e f front fits own front' fits' rests s =
      record {
        longer_is = one_longer left k d longer longer' l i.longer_is e;
        others_is = one_longer right k d others others' l i.others_is f;
        states = subst (λ (zs : List ℕ). StatesMany new id u zs others') p (subst (λ (zs : List ℕ). StatesMany new id u left' zs) q s);
        rests = rests_through_two old mid new id at same (step ∷ []) rests (rests_later sig ts old now mid front fits at (slice_get_within now at _ i.states.there) (step ∷ []) i.rests)
            (rests_through_none old now mid same (step ∷ []) own);
        kept = front_then old mid new (front_then old now mid i.kept front) front';
        fits = fits';
      }

  pub extending_all : (now : List Step) (at k : ℕ) (longer others : List ℕ) → IsExtending sig ts old now u left right rest step at k longer others → length rest ≤ k → StatesMany now at u (left ++ rest) (right ++ rest)
  extending_all now at k longer others i l =
      let e = take_all k rest l in
      subst (λ (zs : List ℕ). StatesMany now at u zs (right ++ rest)) (i.longer_is ∙ ap (λ (zs : List ℕ). left ++ zs) e)
      (subst (λ (zs : List ℕ). StatesMany now at u longer zs) (i.others_is ∙ ap (λ (zs : List ℕ). right ++ zs) e) i.states)

  -- the lists with one name more are longer ones
  pub extending_longer : (now mid : List Step) (at same k x : ℕ) (longer others longer' others' : List ℕ) → IsExtending sig ts old now u left right rest step at k longer others → 0 < length left → 0 < length right
      → longer' ≡ longer ++ x ∷ [] → others' ≡ others ++ x ∷ [] → IsFront now mid → StatesNames mid same x x → IsLonger mid u longer' others' at same
  extending_longer now mid at same k x longer others longer' others' i l r e f front s =
      let m : length longer ≡ length (left ++ take k rest) = ap length i.longer_is in
      let n : length others ≡ length (right ++ take k rest) = ap length i.others_is in
      record {
        xs = longer;
        x = x;
        ys = others;
        y = x;
        left_is = e;
        right_is = f;
        left_some = omega (arith, l, m, length-append left (take k rest));
        right_some = omega (arith, r, n, length-append right (take k rest));
        lists = many_kept now mid front at u longer others i.states;
        lasts = s;
      }
