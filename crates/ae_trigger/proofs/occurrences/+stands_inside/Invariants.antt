use Rattle.std.proofs.Common.{◌≡◌, false, take, ◌||◌, ◌+◌, ◌*◌}
use Rattle.std.specs.List.{list_any}
use Rattle.ae_journal.specs.Triggers.{stands_inside}
use Rattle.ae_trigger.specs.Inner.Kept.{is_term}
use denote.Param.Weighed.{most}
use Rattle.ae_core.specs.declared.terms.Term.{size-Term}
use Rattle.ae_trigger.proofs.occurrences.+stands_inside.Given as goal

abbrev pub invariant-stands_among-loop-term : goal.invariant-stands_among-loop-term
invariant-stands_among-loop-term l = list_any (λ u. is_term u l.part || stands_inside l.part u) (take l.term-index l.terms) ≡ false

abbrev pub decreases-stands_inside : goal.decreases-stands_inside
decreases-stands_inside l = 2 * size-Term l.whole.now

abbrev pub decreases-stands_among : goal.decreases-stands_among
decreases-stands_among l = 2 * most size-Term l.terms.now + 1
