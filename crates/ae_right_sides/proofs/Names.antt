-- The names of right sides, with their representatives.
use Rattle.std.specs.Prelude.{ℕ, List, ◌++◌, ◌≡◌, map, Some}
use Rattle.std.specs.List.{AllByRecursion}
use Rattle.ae_base.proofs.AllOf.{all_back}
use Rattle.ae_store.specs.Stores.{Stored}
use Rattle.ae_theory.specs.Names.{terms_in}
use Rattle.ae_state_steps.specs.ManySteps.{IsOfSort}
use Rattle.ae_multiset_steps.specs.Equating.{AreNamesOf}
use Rattle.ae_monoid.specs.declared.rules.Kept.{Kept}
use Rattle.ae_monoid.specs.Rules.{rule_at}
use Rattle.ae_sweeps.specs.Given.{rep_in}
use Rattle.ae_state.specs.declared.holding.Holding.{Holding}
use Rattle.ae_turns.specs.Representing.{IsTaken, AreRepresentatives}
use Rattle.ae_representatives.specs.Equal.{IsRepresented}
use Rattle.ae_representatives.proofs.Taken.{ruled_all, represented, names_with_reps}

module _ (o : Holding) (s : Stored) (t : IsTaken o s) (reps : List ℕ) (r : AreRepresentatives o reps) (n : ℕ) (rule : Kept) (at : rule_at o.equations.rules n ≡ Some rule) where
  right_is : AreNamesOf s.signature (terms_in s) rule.entry.symbol rule.entry.right
  right_is =
      let a = (((ruled_all o s t).rules).each n rule at).names in
      record { sort = a.sort; symbol = a.symbol; of_names = a.of_names; sorted = all_back (IsOfSort s.signature (terms_in s) a.sort) rule.entry.left rule.entry.right a.sorted }

  pub right_names : AreNamesOf s.signature (terms_in s) rule.entry.symbol (rule.entry.right ++ map (rep_in reps) rule.entry.right)
  right_names = names_with_reps o s t reps r rule.entry.symbol rule.entry.right right_is

  pub right_represented : AllByRecursion (IsRepresented s.signature (terms_in s) o.values reps) rule.entry.right
  right_represented = represented o s t reps r right_is.sort rule.entry.right right_is.sorted
