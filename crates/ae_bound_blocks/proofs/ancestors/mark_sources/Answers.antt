use Rattle.std.specs.Prelude.{ℕ, List}
use Rattle.std.specs.List.{Contains}
use Rattle.std.proofs.Common.{sym, subst}
use Rattle.ae_trim.specs.Inner.Marks.{AreMarked}
use Rattle.ae_trim.proofs.Marking.{marked_none}
use Rattle.ae_bound_blocks.proofs.ancestors.mark_sources.Goals as goal

pub mark_parents-requires : goal.mark_parents-requires
mark_parents-requires c = record { within = λ k h. c.requires.within k (subst (λ (ks : List ℕ). Contains ks k) (sym (c.is_combined.ensures.parents c.if-is_combined.true)) h) }

pub returns-then-is_combined : goal.returns-then-is_combined
returns-then-is_combined c = subst (λ (ks : List ℕ). AreMarked c.args.marks.now.items ks c.mark_parents.new.marks.items) (sym (c.is_combined.ensures.parents c.if-is_combined.true)) c.mark_parents.ensures

pub returns-else-is_combined : goal.returns-else-is_combined
returns-else-is_combined c = subst (λ (ks : List ℕ). AreMarked c.args.marks.now.items ks c.args.marks.now.items) (sym (c.is_combined.ensures.none c.if-is_combined.false)) (marked_none c.args.marks.now.items)
