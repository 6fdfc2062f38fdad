use Rattle.std.proofs.Common.{◌≡◌, ◌++◌, map, drop}
use Rattle.ae_core.specs.declared.terms.Head.TheVariants as head
use Rattle.ae_termreader.proofs.heads.push_fields.Given as goal

abbrev pub invariant-loop-place : goal.invariant-loop-place
invariant-loop-place l = l.out ++ map (λ place. head.Field l.of place) (drop l.place-index l.places) ≡ l.fn.out ++ map (λ place. head.Field l.of place) l.places
