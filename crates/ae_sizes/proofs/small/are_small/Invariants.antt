use Rattle.std.proofs.Common.{◌≡◌, ℕ, List, map, take}
use Rattle.ae_core.specs.declared.terms.Sort.{Sort}
use Rattle.ae_elab.specs.Conditions.{shown}
use Rattle.ae_elab.specs.Nodes.{Entry}
use Rattle.ae_sizes.specs.Inner.Counted.{told}
use Rattle.ae_sizes.specs.Small.{is_small_entry}
use Rattle.ae_sizes.proofs.small.are_small.Given as goal

abbrev pub invariant-loop-place : goal.invariant-loop-place
invariant-loop-place l =
    (m : ℕ → Sort) (es : List Entry) → l.measures ≡ map (told (shown m)) es → l.small ≡ map (is_small_entry m) (take l.place es)
