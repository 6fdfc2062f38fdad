use Rattle.std.specs.Prelude.{◌≡◌, take}
use Rattle.std.specs.List.{flat_map}
use Rattle.ae_inequalities.specs.Held.{tags_at}
use Rattle.ae_inequalities.proofs.tagging.joined.Given as goal

abbrev pub invariant-loop-number : goal.invariant-loop-number
invariant-loop-number l = record {
  so_far : l.all ≡ flat_map (tags_at l.tags) (take l.number-index l.used);
}
