use Rattle.std.proofs.Common.{arith}
use Rattle.ae_settled.specs.Swept.{AreOwn}
use Rattle.ae_sweeps.specs.Given.{rep_in}
use Rattle.ae_turns.proofs.DroppedRules.{kept_in}
use Rattle.ae_right_sides.proofs.OtherRights.{rights_stay, rights_then, taken_still, reps_still}
use Rattle.ae_right_sides.proofs.Changed.{one_more, below_count}
use Rattle.ae_right_sides.proofs.rights.rename_all.Goals as goal

pub loop-number-init : goal.loop-number-init
loop-number-init c = record { rights = rights_stay c.args.store.now c.args.held.now (c.requires.taken).fits; own = λ n rule l at. absurd (omega (arith, l)) }

pub rename_one-requires-clause-taken : goal.rename_one-requires-clause-taken
rename_one-requires-clause-taken c = taken_still c.args.store.now c.args.held.now c.loop-number.held c.loop-number.invariant.rights c.requires.taken

pub rename_one-requires-clause-reps : goal.rename_one-requires-clause-reps
rename_one-requires-clause-reps c = reps_still c.args.store.now c.args.held.now c.loop-number.held c.args.reps.now c.loop-number.invariant.rights c.requires.reps

pub loop-number-preserved : goal.loop-number-preserved
loop-number-preserved c =
    let p = c.loop-number.held in
    let q = c.rename_one.new.held in
    record {
      rights = rights_then c.args.store.now c.args.held.now p q c.loop-number.invariant.rights c.rename_one.ensures.rights;
      own =
          one_more (λ rule. AreOwn (rep_in c.args.reps.now) rule.entry.right) (kept_in p.equations) (kept_in q.equations) c.loop-number.number c.rename_one.ensures.others c.loop-number.invariant.own
          c.in_ok-rename_one.ensures.own;
    }

pub returns-in_err-rename_one-clause-rights : goal.returns-in_err-rename_one-clause-rights
returns-in_err-rename_one-clause-rights c =
    rights_then c.args.store.now c.args.held.now c.loop-number.held c.rename_one.new.held c.loop-number.invariant.rights c.rename_one.ensures.rights

pub returns-clause-rights : goal.returns-clause-rights
returns-clause-rights c = c.loop-number.invariant.rights

pub returns-clause-own : goal.returns-clause-own
returns-clause-own c =
    let o = c.args.held.now in
    let p = c.loop-number.held in
    record {
      each = λ n rule at.
          c.loop-number.invariant.own n rule
          (below_count o.equations.rules c.rules-rules.result.now (kept_in p.equations) c.loop-number.number c.rules-rules.ensures.rules c.rule-rule.ensures.rules
          (let e = c.len-count.ensures in let f = c.loop-number-test.false in omega (arith, e, f)) (c.loop-number.invariant.rights).lefts n rule at) at;
    }
