-- The first names of a multiset with those that steps equate them with.
use Rattle.std.specs.Prelude.{ℕ, ◌+◌, ◌<◌, ◌≤◌, ◌≡◌, List, [], ◌∷◌, ◌++◌, length, take, get_or}
use Rattle.std.proofs.Common.{sym, ap, ◌∙◌, subst, arith}
use Rattle.std.proofs.lemmas.List.{take_more, take_all, length-take-le}
use Rattle.std.proofs.lemmas.Option.{slice_get_within, slice_get-get_or}
use Rattle.ae_core.specs.declared.terms.Term.{Term}
use Rattle.ae_core.specs.declared.problems.AcSymbol.{AcSymbol}
use Rattle.ae_core.specs.declared.problems.Signature.{Signature}
use Rattle.ae_store.specs.Growing.{IsFront}
use Rattle.ae_store.specs.Parts.{IsIn}
use Rattle.ae_store.proofs.EnterLaws.{front_then}
use Rattle.ae_store.proofs.PartLaws.{are_one}
use Rattle.ae_just.specs.declared.steps.Step.{Step}
use Rattle.ae_just.specs.Steps.{Fits}
use Rattle.ae_just.proofs.EmitLaws.{rest_on_earlier}
use Rattle.ae_state_steps.specs.ManySteps.{StatesMany, StatesNames}
use Rattle.ae_multiset_steps.specs.Equating.{RestsOnThese, AreEquated}
use Rattle.ae_multiset_steps.specs.Inner.Longer.{IsLonger}
use Rattle.ae_multiset_steps.proofs.Fronts.{names_kept}
use Rattle.ae_multiset_steps.proofs.Resting.{rests_as_before, rests_through_two, rests_wider}

-- the step `at` equates the first k names of both lists
pub record IsRenaming (sig : Signature) (ts : List Term) (old now : List Step) (u : AcSymbol) (from to ids : List ℕ) (at k : ℕ) (longer others : List ℕ) : Type 0 where
  pub longer_is : longer ≡ take k from
  pub others_is : others ≡ take k to
  pub states : StatesMany now at u longer others
  pub rests : RestsOnThese old now at ids
  pub kept : IsFront old now
  pub fits : Fits sig ts now

pub one_taken : (xs : List ℕ) (d : ℕ) → 0 < length xs → get_or xs 0 d ∷ [] ≡ take 1 xs
one_taken xs d l = sym (take_more xs 0 d l)

pub one_more_taken : (xs : List ℕ) (k d : ℕ) (ys more : List ℕ) → k < length xs → ys ≡ take k xs → more ≡ ys ++ get_or xs k d ∷ [] → more ≡ take (k + 1) xs
one_more_taken xs k d ys more l e f = f ∙ ap (λ (zs : List ℕ). zs ++ get_or xs k d ∷ []) e ∙ sym (take_more xs k d l)

module _ (sig : Signature) (ts : List Term) (old : List Step) (u : AcSymbol) (from to ids : List ℕ) (equal : AreEquated old from to ids) where
  -- the step that equates the names at a place
  pub equated_at : (k d : ℕ) → k < length from → StatesNames old (get_or ids k d) (get_or from k d) (get_or to k d)
  equated_at k d l =
      let m = equal.as_many in
      let n = equal.one_each in
      equal.each k (get_or from k d) (get_or to k d) (get_or ids k d) (slice_get-get_or from k d l) (slice_get-get_or to k d (omega (arith, l, m))) (slice_get-get_or ids k d (omega (arith, l, n)))

  -- what it rests on later
  pub rests_equated : (now : List Step) (k d : ℕ) → k < length from → IsFront old now → Fits sig ts now → RestsOnThese old now (get_or ids k d) ids
  rests_equated now k d l front fits =
      let n = equal.one_each in
      let id = get_or ids k d in
      let one : IsIn id ids = record { place = k; is = slice_get-get_or ids k d (omega (arith, l, n)) } in
      rests_wider old now id (id ∷ []) ids (are_one id ids one) (rests_as_before old now front (rest_on_earlier sig ts now fits.allowed) id (slice_get_within old id _ (equated_at k d l).there))

  pub renaming_one : (new : List Step) (id d : ℕ) (longer others : List ℕ) → 0 < length from → longer ≡ get_or from 0 d ∷ [] → others ≡ get_or to 0 d ∷ [] → IsFront old new → Fits sig ts new
      → RestsOnThese old new id (get_or ids 0 d ∷ []) → StatesMany new id u (get_or from 0 d ∷ []) (get_or to 0 d ∷ []) → IsRenaming sig ts old new u from to ids id 1 longer others
  renaming_one new id d longer others l e f front fits rests s =
      let m = equal.as_many in
      let n = equal.one_each in
      record {
        longer_is = e ∙ one_taken from d l;
        others_is = f ∙ one_taken to d (omega (arith, l, m));
        states = subst (λ (zs : List ℕ). StatesMany new id u zs others) (sym e) (subst (λ (zs : List ℕ). StatesMany new id u (get_or from 0 d ∷ []) zs) (sym f) s);
        rests = rests_wider old new id (get_or ids 0 d ∷ []) ids (are_one (get_or ids 0 d) ids (record { place = 0; is = slice_get-get_or ids 0 d (omega (arith, l, n)) })) rests;
        kept = front;
        fits = fits;
      }

  -- one name more; the last step was given the lists as slices
  pub renaming_more : (now new : List Step) (at id k d : ℕ) (longer others left' right' longer' others' : List ℕ) → IsRenaming sig ts old now u from to ids at k longer others → k < length from → left' ≡ longer' → right' ≡ others'
      → longer' ≡ longer ++ get_or from k d ∷ [] → others' ≡ others ++ get_or to k d ∷ [] → IsFront now new → Fits sig ts new → RestsOnThese now new id (at ∷ get_or ids k d ∷ [])
      → StatesMany new id u left' right' → IsRenaming sig ts old new u from to ids id (k + 1) longer' others'
  renaming_more now new at id k d longer others left' right' longer' others' i l p q e f front fits rests s =
      let m = equal.as_many in
      record {
        longer_is = one_more_taken from k d longer longer' l i.longer_is e;
        others_is = one_more_taken to k d others others' (omega (arith, l, m)) i.others_is f;
        states = subst (λ (zs : List ℕ). StatesMany new id u zs others') p (subst (λ (zs : List ℕ). StatesMany new id u left' zs) q s);
        rests = rests_through_two old now new id at (get_or ids k d) ids rests i.rests (rests_equated now k d l i.kept i.fits);
        kept = front_then old now new i.kept front;
        fits = fits;
      }

  pub renaming_all : (now : List Step) (at k : ℕ) (longer others : List ℕ) → IsRenaming sig ts old now u from to ids at k longer others → length from ≤ k → StatesMany now at u from to
  renaming_all now at k longer others i l =
      let m = equal.as_many in
      subst (λ (zs : List ℕ). StatesMany now at u zs to) (i.longer_is ∙ take_all k from l)
      (subst (λ (zs : List ℕ). StatesMany now at u longer zs) (i.others_is ∙ take_all k to (omega (arith, l, m))) i.states)

  -- the lists with one name more are longer ones
  pub renaming_longer : (now : List Step) (at k d : ℕ) (longer others longer' others' : List ℕ) → IsRenaming sig ts old now u from to ids at k longer others → 0 < k → k < length from
      → longer' ≡ longer ++ get_or from k d ∷ [] → others' ≡ others ++ get_or to k d ∷ [] → IsLonger now u longer' others' at (get_or ids k d)
  renaming_longer now at k d longer others longer' others' i p l e f =
      let c = equal.as_many in
      let m : length longer ≡ length (take k from) = ap length i.longer_is in
      let n : length others ≡ length (take k to) = ap length i.others_is in
      record {
        xs = longer;
        x = get_or from k d;
        ys = others;
        y = get_or to k d;
        left_is = e;
        right_is = f;
        left_some = omega (arith, p, m, length-take-le k from (omega (arith, l)));
        right_some = omega (arith, p, n, length-take-le k to (omega (arith, l, c)));
        lists = i.states;
        lasts = names_kept old now i.kept (get_or ids k d) (get_or from k d) (get_or to k d) (equated_at k d l);
      }
