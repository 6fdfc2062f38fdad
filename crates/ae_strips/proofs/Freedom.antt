-- Steps that rest on no assumption.
use Rattle.std.specs.Prelude.{ℕ, ◌<◌, ◌≡◌, List, [], ◌∷◌, ◌++◌, length, Option, Some, None, Result, Ok, Err, OnOk, IfOk}
use Rattle.std.proofs.Common.{sym, subst, inl, inr}
use Rattle.std.proofs.lemmas.Option.{slice_get_within}
use Rattle.ae_core.specs.declared.terms.Term.{Term}
use Rattle.ae_core.specs.declared.problems.Signature.{Signature}
use Rattle.ae_store.specs.Growing.{IsFront}
use Rattle.ae_store.specs.Parts.{IsIn}
use Rattle.ae_store.proofs.PartLaws.{in_none, in_pushed, is_one}
use Rattle.ae_just.specs.Needed.{RestsOn}
use Rattle.ae_just.specs.Steps.{Fits, tag_of, premises}
use Rattle.ae_just.specs.declared.steps.Side.{Side}
use Rattle.ae_just.specs.declared.steps.Step.{Step}
use Rattle.ae_just.specs.declared.steps.Side.TheVariants as side
use Rattle.ae_just.proofs.EmitLaws.{rest_on_earlier}
use Rattle.ae_multiset_steps.specs.Equating.{RestsOnThese}
use Rattle.ae_multiset_steps.proofs.Resting.{rests_as_before, rests_added}
use Rattle.ae_value_steps.specs.Stating.{AddsStep}
use Rattle.ae_value_steps.proofs.Added.{states_equal, equal_kept}
use Rattle.ae_strips.specs.Stripping.{RestsOnNothing, IsEquating, IsSaidBy}

module _ (sig : Signature) (ts : List Term) (old new : List Step) (fits : Fits sig ts new) where
  -- a step that was added rests on nothing where its premises do
  pub free_added : (id : ℕ) (left right : Side) (rests : List ℕ) → AddsStep old new id left right rests → ((p : ℕ) → IsIn p rests → RestsOnNothing old p) → RestsOnNothing new id
  free_added id left right rests a each k tag s q at is =
      let r : RestsOnThese old new id rests = subst (RestsOnThese old new id) a.rests_on (rests_added {E = ℕ} sig ts old new (record { left = left; right = right; rule = a.by }) (Ok id) a.added a.number fits a.assumes) in
      let w = r.each k tag s q at is in
      each w.by w.one k tag s w.rests w.there is

  pub equating_added : (n m id : ℕ) (rests : List ℕ) → AddsStep old new id (side.Name n) (side.Name m) rests → ((p : ℕ) → IsIn p rests → RestsOnNothing old p) → IsEquating new n m id
  equating_added n m id rests a each = record { equal = states_equal old new id n m rests a; free = free_added id (side.Name n) (side.Name m) rests a each }

  -- steps that come behind change nothing
  pub free_kept : IsFront old new → (id : ℕ) → id < length old → RestsOnNothing old id → RestsOnNothing new id
  free_kept f id l h k tag s q at is =
      let w = (rests_as_before old new f (rest_on_earlier sig ts new fits.allowed) id l).each k tag s q at is in
      h k tag s (subst (λ (x : ℕ). RestsOn old x k) (is_one w.by id w.one) w.rests) w.there is

  pub said_kept : IsFront old new → (n m : ℕ) (o : Option ℕ) → IsSaidBy old n m o → IsSaidBy new n m o
  said_kept f n m None h = h
  said_kept f n m (Some id) h = record { equal = equal_kept old new f id n m h.equal; free = free_kept f id (slice_get_within old id _ (h.equal).there) h.free }

-- the premises of steps with none, one and two
pub each_none : (P : ℕ → Type 0) (p : ℕ) → IsIn p [] → P p
each_none P p m = absurd (in_none p m)

pub each_one : (P : ℕ → Type 0) (a p : ℕ) → P a → IsIn p (a ∷ []) → P p
each_one P a p h m = subst P (sym (is_one p a m)) h

pub each_two : (P : ℕ → Type 0) (a b p : ℕ) → P a → P b → IsIn p (a ∷ b ∷ []) → P p
each_two P a b p h g m = elim (in_pushed p b (a ∷ []) m) [ inl i ↦ each_one P a p h i | inr e ↦ subst P (sym e) g ]

-- a step that a call appended
pub added_by : {E : Type 0} (r : Result ℕ E) (old new : List Step) (s : Step) (rests : List ℕ) → OnOk r (new ≡ old ++ s ∷ []) → IfOk r (λ n. n ≡ length old) → tag_of s.rule ≡ [] → premises s.rule ≡ rests
    → IfOk r (λ id. AddsStep old new id s.left s.right rests)
added_by (Ok n) old new s rests ok num free is = record { by = s.rule; added = ok; number = num; assumes = free; rests_on = is }
added_by (Err e) old new s rests ok num free is = tt

-- ---- one after the other
pub said_first : (steps : List Step) (left between right : ℕ) (first second : Option ℕ) → first ≡ None → IsSaidBy steps left between first → IsSaidBy steps between right second → IsSaidBy steps left right second
said_first steps left between right first second e h g = subst (λ n. IsSaidBy steps n right second) (subst (IsSaidBy steps left between) e h) g

pub said_second : (steps : List Step) (left between right one : ℕ) (first second : Option ℕ) → first ≡ Some one → second ≡ None → IsSaidBy steps left between first → IsSaidBy steps between right second → IsSaidBy steps left right (Some one)
said_second steps left between right one first second e f h g = subst (λ n. IsSaidBy steps left n (Some one)) (sym (subst (IsSaidBy steps between right) f g)) (subst (IsSaidBy steps left between) e h)

pub said_some : (steps : List Step) (n m id : ℕ) (o : Option ℕ) → o ≡ Some id → IsSaidBy steps n m o → IsEquating steps n m id
said_some steps n m id o e h = subst (IsSaidBy steps n m) e h
