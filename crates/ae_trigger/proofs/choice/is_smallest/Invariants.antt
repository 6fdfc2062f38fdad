use Rattle.std.proofs.Common.{◌≡◌, take, false}
use Rattle.std.specs.List.{list_any}
use Rattle.ae_journal.specs.Triggers.{stands_inside}
use Rattle.ae_trigger.proofs.choice.is_smallest.Given as goal

abbrev pub invariant-loop-part : goal.invariant-loop-part
invariant-loop-part l = list_any (λ u. stands_inside u l.term) (take l.part-index l.terms) ≡ false
