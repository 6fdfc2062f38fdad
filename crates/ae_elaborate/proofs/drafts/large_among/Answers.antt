use Rattle.std.proofs.Common.{arith, ◌∙◌, refl, sym}
use Rattle.ae_elaborate.proofs.DraftLaws.{large_here, none_large, small_next}
use Rattle.ae_elaborate.proofs.drafts.large_among.Goals as goal

pub loop-draft-init : goal.loop-draft-init
loop-draft-init c = λ text m es h. refl

pub loop-draft-preserved : goal.loop-draft-preserved
loop-draft-preserved c = λ text m es h.
    small_next text m es c.args.drafts.now c.loop-draft.draft-index _ c.loop-draft-test.true (sym (c.if-not-is_small_at.ensures m es h)) ∙ c.loop-draft.invariant text m es h

pub returns-then-not-is_small_at : goal.returns-then-not-is_small_at
returns-then-not-is_small_at c = λ text m es h.
    sym (large_here text m es c.args.drafts.now c.loop-draft.draft-index _ c.loop-draft-test.true (sym (c.if-not-is_small_at.ensures m es h))) ∙ c.loop-draft.invariant text m es h

pub returns : goal.returns
returns c = λ text m es h.
    sym (none_large text m es c.args.drafts.now c.loop-draft.draft-index (omega (arith, c.loop-draft-test.false))) ∙ c.loop-draft.invariant text m es h
