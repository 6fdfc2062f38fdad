-- What steps rest on, where steps come behind.
use Rattle.std.specs.Prelude.{ℕ, ◌<◌, ◌⊎◌, List, [], ◌∷◌, ◌++◌, ◌≡◌, length, slice_get, Some, Result, Ok, Err, IfOk, OnOk}
use Rattle.std.proofs.Common.{refl, sym, ap, ◌∙◌, subst, arith, inl, inr}
use Rattle.std.proofs.lemmas.Option.{same_Some}
use Rattle.ae_base.proofs.AllOf.{all_at}
use Rattle.ae_base.proofs.ListFacts.{value_at}
use Rattle.ae_core.specs.declared.terms.Term.{Term}
use Rattle.ae_core.specs.declared.problems.Signature.{Signature}
use Rattle.ae_store.specs.Growing.{IsFront}
use Rattle.ae_store.specs.Parts.{IsIn, AreIn}
use Rattle.ae_store.proofs.EnterLaws.{front_push}
use Rattle.ae_store.proofs.PartLaws.{in_none, in_one, is_one, in_pushed}
use Rattle.ae_just.specs.declared.steps.Rule.{Rule}
use Rattle.ae_just.specs.declared.steps.Rule.TheVariants as rule
use Rattle.ae_just.specs.declared.steps.Step.{Step}
use Rattle.ae_just.specs.Inner.Pending.{RestOnEarlier}
use Rattle.ae_just.specs.Needed.{RestsOn, itself, premise}
use Rattle.ae_just.specs.Steps.{Fits, premises, tag_of}
use Rattle.ae_just.proofs.EmitLaws.{rest_on_earlier}
use Rattle.ae_multiset_steps.specs.Equating.{IsUnder, RestsOnThese}
use Rattle.ae_multiset_steps.proofs.Fronts.{there_kept, added_there}

-- ---- steps of the front
-- where a step of new stands in old, it is the same there
same_there : (old new : List Step) → IsFront old new → (k : ℕ) (s : Step) → k < length old → slice_get new k ≡ Some s → slice_get old k ≡ Some s
same_there old new f k s l at =
    let v = value_at old k l in
    v.1 ∙ ap (λ (t : Step). Some t) (same_Some v.0 s (sym (there_kept old new f k v.0 v.1) ∙ at))

-- a step of old rests on steps of old alone
rests_back : (old new : List Step) → IsFront old new → RestOnEarlier new → (id : ℕ) → id < length old → (k : ℕ) → RestsOn new id k → (k < length old) × RestsOn old id k
rests_back old new f e id l k itself = (l, itself)
rests_back old new f e id l k (premise j p s r at m) =
    let h = rests_back old new f e id l j r in
    let below : k < j = all_at (λ q. q < j) (premises s.rule) m.place k (e.each j s at) m.is in
    (omega (arith, below, h.0), premise j k s h.1 (same_there old new f j s h.0 at) m)

-- a step rests on itself, and on what its premises rest on
rests_split : (new : List Step) (id : ℕ) (s : Step) → slice_get new id ≡ Some s → (k : ℕ) → RestsOn new id k → (k ≡ id) ⊎ ((p : ℕ) × IsIn p (premises s.rule) × RestsOn new p k)
rests_split new id s e k itself = inl refl
rests_split new id s e k (premise j p t r at m) =
    elim (rests_split new id s e j r) [
      | inl h ↦
          let z : t ≡ s = same_Some t s (sym at ∙ ap (slice_get new) h ∙ e) in
          inr (k, subst (λ (w : Step). IsIn k (premises w.rule)) z m, itself)
      | inr h ↦ inr (h.0, h.1, premise j k t h.2 at m)
    ]

-- ---- what rests on these
pub rests_as_before : (old new : List Step) → IsFront old new → RestOnEarlier new → (id : ℕ) → id < length old → RestsOnThese old new id (id ∷ [])
rests_as_before old new f e id l = record { each = each }
  where
    each : (k tag : ℕ) (s : Step) → RestsOn new id k → slice_get new k ≡ Some s → s.rule ≡ rule.Hyp tag → IsUnder old (id ∷ []) k s
    each k tag s r at is = let h = rests_back old new f e id l k r in record { by = id; one = in_one id; rests = h.1; there = same_there old new f k s h.0 at }

assumes_none : (u : Rule) (tag : ℕ) → tag_of u ≡ [] → u ≡ rule.Hyp tag → ⊥
assumes_none u tag free q = (let w : ◌≡◌ {A = List ℕ} (tag ∷ []) [] = sym (ap tag_of q) ∙ free in cc w)

-- a new step that assumes nothing rests on its premises
rests_new : (old new : List Step) (s : Step) (id : ℕ) → new ≡ old ++ s ∷ [] → id ≡ length old → RestOnEarlier new → tag_of s.rule ≡ [] → RestsOnThese old new id (premises s.rule)
rests_new old new s id e n earlier free = record { each = each }
  where
    there : slice_get new id ≡ Some s
    there = added_there old new s id e n

    each : (k tag : ℕ) (t : Step) → RestsOn new id k → slice_get new k ≡ Some t → t.rule ≡ rule.Hyp tag → IsUnder old (premises s.rule) k t
    each k tag t r at is =
        elim (rests_split new id s there k r) [
          | inl g ↦
              let z : t ≡ s = same_Some t s (sym at ∙ ap (slice_get new) g ∙ there) in
              absurd (assumes_none s.rule tag free (ap (λ (w : Step). w.rule) (sym z) ∙ is))
          | inr g ↦
              let m : IsIn g.0 (premises s.rule) = g.1 in
              let below : g.0 < id = all_at (λ q. q < id) (premises s.rule) m.place g.0 (earlier.each id s there) m.is in
              let h = (rests_as_before old new (front_push old new s e) earlier g.0 (omega (arith, below, n))).each k tag t g.2 at is in
              record { by = g.0; one = m; rests = subst (λ (x : ℕ). RestsOn old x k) (is_one h.by g.0 h.one) h.rests; there = h.there }
        ]

pub rests_added : {E : Type 0} (sig : Signature) (ts : List Term) (old new : List Step) (s : Step) (r : Result ℕ E) → OnOk r (new ≡ old ++ s ∷ []) → IfOk r (λ n. n ≡ length old) → Fits sig ts new
    → tag_of s.rule ≡ [] → IfOk r (λ id. RestsOnThese old new id (premises s.rule))
rests_added sig ts old new s (Ok n) ok num fits free = rests_new old new s n ok num (rest_on_earlier sig ts new fits.allowed) free
rests_added sig ts old new s (Err e) ok num fits free = tt

-- ---- one after the other
rests_through : (a b c : List Step) (id : ℕ) (between given : List ℕ) → RestsOnThese b c id between → ((p : ℕ) → IsIn p between → RestsOnThese a b p given) → RestsOnThese a c id given
rests_through a b c id between given r h = record { each = each }
  where
    each : (k tag : ℕ) (s : Step) → RestsOn c id k → slice_get c k ≡ Some s → s.rule ≡ rule.Hyp tag → IsUnder a given k s
    each k tag s q at is = let w = r.each k tag s q at is in (h w.by w.one).each k tag s w.rests w.there is

pub rests_through_none : (a b c : List Step) (id : ℕ) (given : List ℕ) → RestsOnThese b c id [] → RestsOnThese a c id given
rests_through_none a b c id given r = rests_through a b c id [] given r (λ p m. absurd (in_none p m))

pub rests_through_one : (a b c : List Step) (id p : ℕ) (given : List ℕ) → RestsOnThese b c id (p ∷ []) → RestsOnThese a b p given → RestsOnThese a c id given
rests_through_one a b c id p given r h = rests_through a b c id (p ∷ []) given r (λ q m. subst (λ (x : ℕ). RestsOnThese a b x given) (sym (is_one q p m)) h)

pub rests_through_two : (a b c : List Step) (id p q : ℕ) (given : List ℕ) → RestsOnThese b c id (p ∷ q ∷ []) → RestsOnThese a b p given → RestsOnThese a b q given → RestsOnThese a c id given
rests_through_two a b c id p q given r g h = rests_through a b c id (p ∷ q ∷ []) given r each
  where
    each : (x : ℕ) → IsIn x (p ∷ q ∷ []) → RestsOnThese a b x given
    each x m = elim (in_pushed x q (p ∷ []) m) [
      | inl i ↦ subst (λ (y : ℕ). RestsOnThese a b y given) (sym (is_one x p i)) g
      | inr e ↦ subst (λ (y : ℕ). RestsOnThese a b y given) (sym e) h
    ]

pub rests_wider : (a b : List Step) (id : ℕ) (given more : List ℕ) → AreIn given more → RestsOnThese a b id given → RestsOnThese a b id more
rests_wider a b id given more w r = record { each = λ k tag s q at is. (let h = r.each k tag s q at is in record { by = h.by; one = w.each h.by h.one; rests = h.rests; there = h.there }) }

-- steps that come behind change nothing
pub rests_later : (sig : Signature) (ts : List Term) (a b c : List Step) → IsFront b c → Fits sig ts c → (id : ℕ) → id < length b → (given : List ℕ) → RestsOnThese a b id given → RestsOnThese a c id given
rests_later sig ts a b c f fits id l given r = rests_through_one a b c id id given (rests_as_before b c f (rest_on_earlier sig ts c fits.allowed) id l) r

-- nor do steps that came before
pub rests_sooner : (sig : Signature) (ts : List Term) (a b c : List Step) → IsFront a b → Fits sig ts b → (id p : ℕ) → p < length a → RestsOnThese b c id (p ∷ []) → RestsOnThese a c id (p ∷ [])
rests_sooner sig ts a b c f fits id p l r = rests_through_one a b c id p (p ∷ []) r (rests_as_before a b f (rest_on_earlier sig ts b fits.allowed) p l)
