use Rattle.std.specs.Prelude.{ℕ, ◌<◌, ◌≡◌, Some}
use Rattle.std.specs.List.{AllByRecursion}
use Rattle.ae_pmap.specs.Forest.{present}
use Rattle.ae_pmap.specs.Pairs.{found}
use Rattle.ae_value_table.specs.Table.{just_at}
use Rattle.ae_values.specs.Inner.Before.{IsFollowing, IsFollower}
use Rattle.ae_values.proofs.occurrences.followers_of.Given as goal

abbrev pub invariant-loop-name : goal.invariant-loop-name
invariant-loop-name l = record {
  each : AllByRecursion (IsFollowing l.values l.leaf) l.followers;
  all : (n k : ℕ) → n < l.name → found (present l.values.leaves) n ≡ Some l.leaf → just_at l.values n ≡ Some k → IsFollower l.followers n;
}
