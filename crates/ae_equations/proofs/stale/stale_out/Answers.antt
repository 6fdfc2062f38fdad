use Rattle.std.specs.Prelude.{◌+◌, List}
use Rattle.std.proofs.Common.{sym, ◌∙◌, subst, arith}
use Rattle.std.proofs.lemmas.List.{get_or_default}
use Rattle.ae_monoid.specs.declared.pending.PendingPair.{PendingPair}
use Rattle.ae_equations.proofs.TakenOut.{IsReleasing, releasing_none, releasing_skip, releasing_more, releasing_all}
use Rattle.ae_equations.proofs.stale.stale_out.Goals as goal

pub loop-name-init : goal.loop-name-init
loop-name-init c = subst (λ (ps : List PendingPair). IsReleasing c.args.rules.now c.args.rules.now c.args.reps.now 0 ps) (sym c.new-pairs.ensures) (releasing_none c.args.rules.now c.args.reps.now)

pub loop-name-preserved-then-reps-name : goal.loop-name-preserved-then-reps-name
loop-name-preserved-then-reps-name c =
    releasing_skip c.args.rules.now c.loop-name.rules c.args.reps.now c.loop-name.name c.loop-name.pairs c.loop-name.invariant
    (get_or_default c.args.reps.now c.loop-name.name c.loop-name.name _ c.loop-name-test.true ∙ c.if-reps-name.true)

pub loop-name-preserved : goal.loop-name-preserved
loop-name-preserved c =
    subst (λ (ps : List PendingPair). IsReleasing c.args.rules.now c.release.new.self c.args.reps.now (c.loop-name.name + 1) ps) (sym c.in_ok-append.ensures)
    (releasing_more c.args.rules.now c.loop-name.rules c.args.reps.now c.loop-name.name c.loop-name.pairs c.loop-name.invariant c.release.new.self c.in_ok-more.more
    (λ e. c.if-reps-name.false (get_or_default c.args.reps.now c.loop-name.name _ c.loop-name.name c.loop-name-test.true ∙ e)) c.in_ok-more.ensures.pairs c.release.ensures.len c.release.ensures.lasts)

pub returns-clause-pairs : goal.returns-clause-pairs
returns-clause-pairs c = releasing_all c.args.rules.now c.loop-name.rules c.args.reps.now c.loop-name.name c.loop-name.pairs c.loop-name.invariant (omega (arith, c.loop-name-test.false))

pub returns-in_err-more-clause-len : goal.returns-in_err-more-clause-len
returns-in_err-more-clause-len c = c.release.ensures.len ∙ c.loop-name.invariant.len

pub returns-in_err-more-clause-lasts : goal.returns-in_err-more-clause-lasts
returns-in_err-more-clause-lasts c = λ shared rules len s. c.release.ensures.lasts shared rules len (c.loop-name.invariant.lasts shared rules len s)

pub returns-in_err-append-clause-len : goal.returns-in_err-append-clause-len
returns-in_err-append-clause-len c = c.release.ensures.len ∙ c.loop-name.invariant.len

pub returns-in_err-append-clause-lasts : goal.returns-in_err-append-clause-lasts
returns-in_err-append-clause-lasts c = λ shared rules len s. c.release.ensures.lasts shared rules len (c.loop-name.invariant.lasts shared rules len s)
