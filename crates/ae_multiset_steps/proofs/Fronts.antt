-- Steps that stay, and one that is added.
use Rattle.std.specs.Prelude.{ℕ, List, [], ◌∷◌, ◌++◌, ◌≡◌, length, slice_get, Some, Result, Ok, Err, IfOk, OnOk, OnErr}
use Rattle.std.proofs.Common.{sym, ap, ◌∙◌, subst}
use Rattle.ae_base.proofs.ListFacts.{get_append, get_seam}
use Rattle.ae_core.specs.declared.problems.AcSymbol.{AcSymbol}
use Rattle.ae_store.specs.Growing.{IsFront}
use Rattle.ae_store.proofs.EnterLaws.{front_same, front_push}
use Rattle.ae_just.specs.declared.steps.Rule.{Rule}
use Rattle.ae_just.specs.declared.steps.Side.{Side}
use Rattle.ae_just.specs.declared.steps.Side.TheVariants as side
use Rattle.ae_just.specs.declared.steps.Step.{Step}
use Rattle.ae_state_steps.specs.ManySteps.{StatesMany, StatesNames}

pub there_kept : (old new : List Step) → IsFront old new → (id : ℕ) (s : Step) → slice_get old id ≡ Some s → slice_get new id ≡ Some s
there_kept old new f id s e = ap (λ (l : List Step). slice_get l id) f.1 ∙ get_append old f.0 id s e

pub many_kept : (old new : List Step) → IsFront old new → (id : ℕ) (u : AcSymbol) (xs ys : List ℕ) → StatesMany old id u xs ys → StatesMany new id u xs ys
many_kept old new f id u xs ys h = record { by = h.by; there = there_kept old new f id _ h.there }

pub names_kept : (old new : List Step) → IsFront old new → (id x y : ℕ) → StatesNames old id x y → StatesNames new id x y
names_kept old new f id x y h = record { by = h.by; there = there_kept old new f id _ h.there }

-- ---- a step that is added, or refused
pub added_there : (old new : List Step) (s : Step) (id : ℕ) → new ≡ old ++ s ∷ [] → id ≡ length old → slice_get new id ≡ Some s
added_there old new s id e n = ap (λ (l : List Step). slice_get l id) e ∙ ap (slice_get (old ++ s ∷ [])) n ∙ get_seam old [] s

pub front_of : {E : Type 0} (old new : List Step) (s : Step) (r : Result ℕ E) → OnOk r (new ≡ old ++ s ∷ []) → OnErr r (new ≡ old) → IsFront old new
front_of old new s (Ok n) ok err = front_push old new s ok
front_of old new s (Err e) ok err = subst (λ (l : List Step). IsFront old l) (sym err) (front_same old)

pub many_added : {E : Type 0} (old new : List Step) (u : AcSymbol) (xs ys : List ℕ) (by : Rule) (l r : Side) → l ≡ side.Many u xs → r ≡ side.Many u ys → (res : Result ℕ E)
    → OnOk res (new ≡ old ++ record { left = l; right = r; rule = by } ∷ []) → IfOk res (λ n. n ≡ length old) → IfOk res (λ id. StatesMany new id u xs ys)
many_added old new u xs ys by l r e f (Ok n) ok num =
    let s : Step = record { left = l; right = r; rule = by } in
    let t : Step = record { left = side.Many u xs; right = side.Many u ys; rule = by } in
    let z : s ≡ t = λ i. record { left = e i; right = f i; rule = by } in
    record { by = by; there = added_there old new s n ok num ∙ ap (λ (w : Step). Some w) z }
many_added old new u xs ys by l r e f (Err x) ok num = tt

pub names_added : {E : Type 0} (old new : List Step) (x y : ℕ) (by : Rule) (res : Result ℕ E) → OnOk res (new ≡ old ++ record { left = side.Name x; right = side.Name y; rule = by } ∷ [])
    → IfOk res (λ n. n ≡ length old) → IfOk res (λ id. StatesNames new id x y)
names_added old new x y by (Ok n) ok num = record { by = by; there = added_there old new (record { left = side.Name x; right = side.Name y; rule = by }) n ok num }
names_added old new x y by (Err e) ok num = tt
