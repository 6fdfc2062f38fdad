-- Two names that are equal as multisets of one name each.
use Rattle.std.specs.Prelude.{ℕ, List, [], ◌∷◌, Result, Ok, Err, IfOk}
use Rattle.std.proofs.Common.{sym, ap, ◌∙◌}
use Rattle.ae_base.specs.Options.{known}
use Rattle.ae_core.proofs.SortFacts.{same_known_is, same_known_of}
use Rattle.ae_core.specs.Sorts.{sort_of}
use Rattle.ae_core.specs.declared.problems.AcSymbol.{AcSymbol}
use Rattle.ae_core.specs.declared.problems.Signature.{Signature}
use Rattle.ae_core.specs.declared.terms.Term.{Term}
use Rattle.ae_just.specs.Steps.{Fits, IsAllowedStep}
use Rattle.ae_just.specs.declared.steps.Rule.TheVariants as rule
use Rattle.ae_just.specs.declared.steps.Side.TheVariants as side
use Rattle.ae_just.specs.declared.steps.Step.{Step}
use Rattle.ae_multiset_steps.specs.Equating.{RestsOnThese}
use Rattle.ae_multiset_steps.proofs.Resting.{rests_through_one}
use Rattle.ae_state_steps.specs.ManySteps.{StatesMany, StatesNames}
use Rattle.ae_state_steps.specs.ValueSteps.{StatesEqual}
use Rattle.ae_state_steps.proofs.Stated.{stated_by}
use Rattle.ae_store.specs.Terms.{named}

pub names_allowed : (sig : Signature) (ts : List Term) (steps : List Step) → Fits sig ts steps → (u : AcSymbol) (x y id : ℕ) → StatesMany steps id u (y ∷ []) (x ∷ [])
    → IsAllowedStep sig ts steps (record { left = side.Name x; right = side.Name y; rule = rule.Sym id })
names_allowed sig ts steps fits u x y id a =
    let s : Step = record { left = side.Many u (y ∷ []); right = side.Many u (x ∷ []); rule = a.by } in
    let p = same_known_is (sort_of sig (named ts y)) (sort_of sig (named ts x)) ((fits.allowed).each id s a.there).sorted in
    record { sorted = same_known_of (sort_of sig (named ts x)) (sort_of sig (named ts y)) (ap known (sym p.1) ∙ p.0) (sym p.1); allowed = stated_by ts steps id s a.there }

pub names_equal : {E : Type 0} (steps : List Step) (x y : ℕ) (r : Result ℕ E) → IfOk r (λ id. StatesNames steps id x y) → IfOk r (λ id. StatesEqual steps id x y)
names_equal steps x y (Ok id) h = record { by = h.by; there = h.there }
names_equal steps x y (Err e) h = tt

-- the last step rests on the one before it
pub names_rest : {E : Type 0} (first mid last : List Step) (between : ℕ) (given : List ℕ) (r : Result ℕ E) → RestsOnThese first mid between given → IfOk r (λ id. RestsOnThese mid last id (between ∷ []))
    → IfOk r (λ id. RestsOnThese first last id given)
names_rest first mid last between given (Ok id) h k = rests_through_one first mid last id between given k h
names_rest first mid last between given (Err e) h k = tt
