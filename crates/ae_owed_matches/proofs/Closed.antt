-- The patterns of owners meet what the search for matches asks of fresh constants.
use Rattle.std.specs.Prelude.{ℕ, nat_lt, ◌≡◌, slice_get, Option, Some, None}
use Rattle.std.specs.List.{AllByRecursion}
use Rattle.std.proofs.Common.{refl, sym, ap, ◌∙◌, subst}
use Rattle.std.proofs.lemmas.Option.{same_Some}
use Rattle.ae_base.proofs.AllOf.{all_at, all_of_map, all_weaker}
use Rattle.ae_base.proofs.Options.{bind_some, never_some, only_some}
use Rattle.ae_base.specs.Options.{only}
use Rattle.ae_core.specs.Signatures.{IsLawfulItem, IsLawfulProblem}
use Rattle.ae_core.specs.declared.formulas.Formula.{out-Formula}
use Rattle.ae_core.specs.declared.problems.Item.{Item}
use Rattle.ae_core.specs.declared.problems.Item.TheVariants.{Axiom, Goal}
use Rattle.ae_core.specs.declared.problems.Problem.{Problem}
use Rattle.ae_journal.specs.States as states
use Rattle.ae_matches.specs.Answers.{HasClosedConstants}
use Rattle.ae_owed_matches.proofs.CleanTerms.{AreClean, axiom_choices_clean, none_of}
use Rattle.ae_owed_matches.proofs.FoundLaws.{literal_patterns_are_closed}
use Rattle.ae_owed_matches.specs.Laws.{PatternsAreClosed}
use Rattle.ae_owners.specs.Owners.{IsOwnerIn, owner_of}
use Rattle.ae_owners.specs.declared.owners.Owner.{Owner}
use Rattle.ae_trigger.specs.Patterns.{pattern}

module _ (p : Problem) (lawful : IsLawfulProblem p) where
  of_item : (k : ℕ) (i : Item) → slice_get p.items k ≡ Some i → (q : states.Pattern)
      → (elim i as (λ _. Option states.Pattern) [ Axiom n v f ↦ only (nat_lt 0 v) (Some (states.axiom_pattern p.signature v f (out-Formula f))) | Goal n v f ↦ None ]) ≡ Some q → AllByRecursion AreClean q.choices
  of_item k (Axiom n v f) at q e =
      let own = all_at (IsLawfulItem p.signature) p.items k (Axiom n v f) lawful.items at in
      let s = (only_some (nat_lt 0 v) (Some (states.axiom_pattern p.signature v f (out-Formula f))) q e).1 in
      subst (λ (z : states.Pattern). AllByRecursion AreClean z.choices) (same_Some (states.axiom_pattern p.signature v f (out-Formula f)) q s) (axiom_choices_clean p.signature v f own.2 (out-Formula f) refl)
  of_item k (Goal n v f) at q e = never_some q e

  axiom_closed : (g k : ℕ) (q : states.Pattern) → states.pattern_of p g (states.of_axiom k) ≡ Some q → AllByRecursion AreClean q.choices
  axiom_closed g k q e =
      let b = bind_some (only (nat_lt k g) (slice_get p.items k)) (λ i. elim i as (λ _. Option states.Pattern) [ Axiom n v f ↦ only (nat_lt 0 v) (Some (states.axiom_pattern p.signature v f (out-Formula f))) | Goal n v f ↦ None ]) q e in
      of_item k b.0 (only_some (nat_lt k g) (slice_get p.items k) b.0 b.1).1 q b.2

  by_owner : (g : ℕ) (w : Owner) → IsOwnerIn p g w → (o : states.Owner) → owner_of w ≡ o → AllByRecursion HasClosedConstants w.patterns
  by_owner g w right (states.of_literal l) own = literal_patterns_are_closed p g w l right own
  by_owner g w right (states.of_axiom k) own =
      let clean = axiom_closed g k right.pattern (ap (states.pattern_of p g) (sym own) ∙ right.is) in
      subst (AllByRecursion HasClosedConstants) (sym right.patterns)
      (all_of_map HasClosedConstants (pattern right.pattern.type_vars right.pattern.vars) right.pattern.choices
      (all_weaker AreClean (λ t. HasClosedConstants (pattern right.pattern.type_vars right.pattern.vars t)) (λ t c. record { none = λ i h. none_of i t c }) right.pattern.choices clean))

pub patterns_are_closed : PatternsAreClosed
patterns_are_closed p g w lawful right = by_owner p lawful g w right (owner_of w) refl
