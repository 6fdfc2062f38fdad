-- The steps of rows in which a number was put for a name.
use Rattle.std.specs.Prelude.{ℕ, ◌<◌, ◌+◌, ◌≡◌, ◌≢◌, ◌⊎◌, Bool, List, [], ◌∷◌, ◌++◌, take, length, slice_index_or, Some}
use Rattle.std.specs.List.{AllByRecursion}
use Rattle.std.proofs.Common.{refl, sym, ap, ◌∙◌, subst, inl, inr}
use Rattle.std.proofs.lemmas.List.{take_more}
use Rattle.std.proofs.lemmas.Option.{same_Some, slice_get_within}
use native.Mathlib.Decide.{ℕ_discrete}
use Rattle.ae_base.proofs.AllOf.{all_weaker, all_push}
use Rattle.ae_base.proofs.ListFacts.{get_append, get_seam}
use Rattle.ae_core.specs.declared.terms.Term.{Term}
use Rattle.ae_core.specs.declared.problems.Signature.{Signature}
use Rattle.ae_num.specs.declared.forms.Lin.{Lin}
use Rattle.ae_linear.specs.declared.rows.Row.{Row}
use Rattle.ae_linear.specs.Rows.{row_at}
use Rattle.ae_pmap.specs.Forest.{present}
use Rattle.ae_pmap.specs.Pairs.{found, with_at}
use Rattle.ae_pmap.proofs.PairLemmas.{at_same}
use Rattle.ae_store.specs.Growing.{IsFront}
use Rattle.ae_store.specs.Parts.{IsIn}
use Rattle.ae_store.proofs.PartLaws.{in_pushed, is_one}
use Rattle.ae_just.specs.declared.steps.Step.{Step}
use Rattle.ae_just.specs.Steps.{Fits}
use Rattle.ae_multiset_steps.specs.Equating.{RestsOnThese}
use Rattle.ae_state_steps.specs.ValueSteps.{IsWritten, name_side, value_side}
use Rattle.ae_value_steps.specs.Stating.{AddsStep}
use Rattle.ae_value_steps.proofs.Added.{stated_kept, states_value}
use Rattle.ae_value_table.specs.Table.{Contents, just_at}
use Rattle.ae_value_fitting.specs.Sources.{SaysValue, RestsOnValues}
use Rattle.ae_value_fitting.proofs.Resting.{rests_still, rests_by, rests_longer, rests_on_named}
use Rattle.ae_values.specs.declared.occurrences.Change.{Change}
use Rattle.ae_values.specs.Inner.Before.{IsChanged}
use Rattle.ae_values.specs.Inner.Putting.{IsRestatable, IsRestated, IsCarried, AreRestated}

-- ---- changes, one more
change_first : (changes more : List Change) (n : ℕ) → IsChanged changes n → IsChanged (changes ++ more) n
change_first changes more n h = record { place = h.place; change = h.change; there = get_append changes more h.place h.change h.there; is = h.is }

module _ (sig : Signature) (ts : List Term) where
  -- ---- steps are added and steps of other names change
  pub restatable_kept : (old new : List Step) → IsFront old new → (real : Bool) (name : ℕ) (value : Lin) (c d : Contents) → ((n : ℕ) → row_at d.rows n ≡ row_at c.rows n) → (change : Change)
      → IsRestatable sig ts old real name value c change → IsRestatable sig ts new real name value d change
  restatable_kept old new f real name value c d rows change r = record {
    row = r.row;
    there = rows change.name ∙ r.there;
    written = r.written;
    old = r.old;
    stated = stated_kept sig ts old new f real change.name r.old change.before.step r.stated;
    den = r.den;
    factor = r.factor;
    put = r.put;
    within = r.within;
  }

  -- ---- a row whose step was added and kept
  pub restated_by : (old new : List Step) (real : Bool) (name : ℕ) (value : Lin) (c d : Contents) (change : Change) (row : Row) (step : ℕ) (given : List ℕ) → row_at c.rows change.name ≡ Some row → IsRestatable sig ts old real name value c change
      → AddsStep old new step (name_side real change.name row.value) (value_side real row.value) given → Fits sig ts new → d ≡ record { entries = c.entries; taken = c.taken; rows = c.rows; leaves = c.leaves; justs = d.justs }
      → ((k : ℕ) → just_at d k ≡ with_at (found (present c.justs)) change.name (Some step) k) → IsRestated sig ts old new real given d change.name
  restated_by old new real name value c d change row step given at r a fits only kept =
      let n = change.name in
      let same : r.row ≡ row = same_Some r.row row (sym r.there ∙ at) in
      record {
        row = row;
        there = ap (λ (x : Contents). row_at x.rows n) only ∙ at;
        step = step;
        just = kept n ∙ at_same (found (present c.justs)) n (Some step);
        stated = record { written = subst (λ (x : Row). IsWritten sig ts real n x.value) same r.written; stated = states_value old new step real n row.value given a };
        rests = rests_on_named sig ts old new step (name_side real n row.value) (value_side real row.value) given a fits;
      }

  -- ---- one change more
  pub restated_none : (steps : List Step) (real : Bool) (c : Contents) → AreRestated sig ts steps steps real c c []
  restated_none steps real c = record { done = tt; kept = λ n. inr refl }

  module _ (first mid new : List Step) (start : IsFront first mid) (f : IsFront mid new) (mid_fits : Fits sig ts mid) (fits : Fits sig ts new) (real : Bool) (c : Contents) (put : ℕ) (put_says : SaysValue c put) (put_within : put < length first) where
    -- the step that was added rests on two steps of the old values
    rests_on_two : (given step : ℕ) → SaysValue c given → given < length first → RestsOnThese mid new step (given ∷ put ∷ []) → RestsOnValues first new c [] step
    rests_on_two given step says within r = rests_by sig ts first mid new c [] (given ∷ put ∷ []) step r (λ p m. by_place p (in_pushed p put (given ∷ []) m))
      where
        by_place : (p : ℕ) → IsIn p (given ∷ []) ⊎ (p ≡ put) → RestsOnValues first mid c [] p
        by_place p (inl m) = subst (RestsOnValues first mid c []) (sym (is_one p given m)) (rests_still sig ts first mid start mid_fits c [] given within (inr says))
        by_place p (inr e) = subst (RestsOnValues first mid c []) (sym e) (rests_still sig ts first mid start mid_fits c [] put put_within (inr put_says))

    pub restated_more : (d e : Contents) (changes : List Change) (i : ℕ) (blank : Change) → i < length changes → ((n : ℕ) → row_at e.rows n ≡ row_at d.rows n)
        → SaysValue c (slice_index_or changes i blank).before.step → (slice_index_or changes i blank).before.step < length first
        → AreRestated sig ts first mid real c d (take i changes)
        → IsRestated sig ts mid new real ((slice_index_or changes i blank).before.step ∷ put ∷ []) e (slice_index_or changes i blank).name
        → ((n : ℕ) → n ≢ (slice_index_or changes i blank).name → just_at e n ≡ just_at d n) → AreRestated sig ts first new real c e (take (i + 1) changes)
    restated_more d e changes i blank l rows says within before here others = record {
      done = subst (AllByRecursion (λ change. IsCarried sig ts first new real c e change.name)) (sym more)
          (all_push (λ (change : Change). IsCarried sig ts first new real c e change.name) (take i changes) next
          (all_weaker (λ (change : Change). IsCarried sig ts first mid real c d change.name) (λ (change : Change). IsCarried sig ts first new real c e change.name)
          (λ change r. still change.name r (ℕ_discrete change.name next.name)) (take i changes) before.done) carried);
      kept = λ n. by_kept n (before.kept n) (ℕ_discrete n next.name);
    }
      where
        next : Change
        next = slice_index_or changes i blank

        more : take (i + 1) changes ≡ take i changes ++ next ∷ []
        more = take_more changes i blank l

        carried : IsCarried sig ts first new real c e next.name
        carried = record { row = here.row; there = here.there; step = here.step; just = here.just; stated = here.stated; rests = rests_on_two next.before.step here.step says within here.rests }

        still : (n : ℕ) → IsCarried sig ts first mid real c d n → Dec (n ≡ next.name) → IsCarried sig ts first new real c e n
        still n r (yes s) = subst (IsCarried sig ts first new real c e) (sym s) carried
        still n r (no m) = record {
          row = r.row;
          there = rows n ∙ r.there;
          step = r.step;
          just = others n m ∙ r.just;
          stated = stated_kept sig ts mid new f real n r.row.value r.step r.stated;
          rests = rests_longer sig ts first mid new f fits c [] r.step (slice_get_within mid r.step _ r.stated.stated.there) r.rests;
        }

        by_kept : (n : ℕ) → IsChanged (take i changes) n ⊎ (just_at d n ≡ just_at c n) → Dec (n ≡ next.name) → IsChanged (take (i + 1) changes) n ⊎ (just_at e n ≡ just_at c n)
        by_kept n (inl h) s = inl (subst (λ (cs : List Change). IsChanged cs n) (sym more) (change_first (take i changes) (next ∷ []) n h))
        by_kept n (inr h) (yes s) = inl (subst (λ (cs : List Change). IsChanged cs n) (sym more) (record { place = length (take i changes); change = next; there = get_seam (take i changes) [] next; is = sym s }))
        by_kept n (inr h) (no m) = inr (others n m ∙ h)
