-- Whether an instance is a match now, by a test of its owner's patterns.
use Rattle.std.specs.Prelude.{ℕ, ◌<◌, Bool, true, false, MatchBool, ◌≡◌, map, length, slice_get, Some}
use Rattle.std.specs.List.{AllByRecursion}
use Rattle.std.proofs.Common.{sym, ap, ◌∙◌, subst}
use Rattle.std.proofs.lemmas.Option.{same_Some}
use Rattle.ae_base.proofs.AllOf.{all_at}
use Rattle.ae_between_rounds.specs.Between.{IsBetweenRounds}
use Rattle.ae_between_rounds.specs.declared.search.Instance.{Instance}
use Rattle.ae_between_rounds.specs.declared.search.Search.{Search}
use Rattle.ae_core.specs.declared.problems.Problem.{Problem}
use Rattle.ae_owed.specs.Known.{IsFoundAt}
use Rattle.ae_owed_matches.proofs.FoundLaws.{any_match_is_found}
use Rattle.ae_owed_matches.specs.Found.{IsAnyMatch}
use Rattle.ae_owners.specs.Owners.{IsOwnerIn, owner_of}
use Rattle.ae_owners.specs.declared.owners.Owner.{Owner}
use Rattle.ae_store.specs.Shapes.{shapes}
use Rattle.ae_store.specs.Terms.{named, terms}
use Rattle.ae_value_table.specs.Alike.{alike}
use Rattle.ae_owed_instances.specs.Inner.Falling.{IsMatchNow}

module _ (p : Problem) (g bound : ℕ) (o : Search) (b : IsBetweenRounds p g bound o) (place n : ℕ) (i : Instance) (w : Owner) (at : slice_get o.instances.made place ≡ Some i)
    (there : slice_get o.owners i.owner ≡ Some w) (within : AllByRecursion (λ v. v < length o.store.nodes) i.subst.terms) where
  abbrev IsTested : Type 0
  IsTested = IsAnyMatch o.store (alike o.solver.theory.values) n w.patterns i.subst

  abbrev IsFoundNow : Instance → Owner → Type 0
  IsFoundNow j v = IsFoundAt p g o.store (alike o.solver.theory.values) n (owner_of v) j.subst.sorts (map (named (terms (shapes o.store.nodes))) j.subst.terms)

  tested_now : IsTested → IsMatchNow p g o place n
  tested_now h = record {
    instance = i;
    at = at;
    owner = w;
    there = there;
    found =
        (any_match_is_found p g o.store (alike o.solver.theory.values) n w i.subst.sorts i.subst.terms (sym b.searching.signature) (all_at (IsOwnerIn p g) o.owners i.owner w b.holds.instances.right there) within).0 h;
  }

  now_tested : IsMatchNow p g o place n → IsTested
  now_tested m =
      let one : m.instance ≡ i = same_Some m.instance i (sym m.at ∙ at) in
      let own : m.owner ≡ w = same_Some m.owner w (sym m.there ∙ ap (λ (z : Instance). slice_get o.owners z.owner) one ∙ there) in
      let f = subst (λ (z : Instance × Owner). IsFoundNow z.0 z.1) (λ k. (one k, own k)) m.found in
      (any_match_is_found p g o.store (alike o.solver.theory.values) n w i.subst.sorts i.subst.terms (sym b.searching.signature) (all_at (IsOwnerIn p g) o.owners i.owner w b.holds.instances.right there) within).1 f

  pub match_now : (r : Bool) → MatchBool r IsTested (¬ IsTested) → MatchBool r (IsMatchNow p g o place n) (¬ IsMatchNow p g o place n)
  match_now true h = tested_now h
  match_now false h = λ m. h (now_tested m)
