use Rattle.std.proofs.Common.{arith}
use Rattle.ae_multiset.specs.Rewriting.{IsReduced}
use Rattle.ae_monoid.specs.Rules.{IsRuleOf}
use Rattle.ae_turns.proofs.DroppedRules.{kept_in}
use Rattle.ae_right_sides.proofs.Lefts.{reduced_still}
use Rattle.ae_right_sides.proofs.OtherRights.{rights_stay, rights_then, taken_still}
use Rattle.ae_right_sides.proofs.Changed.{one_more, below_count}
use Rattle.ae_right_sides.proofs.rights.reduce_all.Goals as goal

pub loop-number-init : goal.loop-number-init
loop-number-init c = record { rights = rights_stay c.args.store.now c.args.held.now (c.requires.taken).fits; own = λ reps own. own; reduced = λ n rule l at. absurd (omega (arith, l)) }

pub reduce_one-requires : goal.reduce_one-requires
reduce_one-requires c = record { taken = taken_still c.args.store.now c.args.held.now c.loop-number.held c.loop-number.invariant.rights c.requires.taken }

pub loop-number-preserved : goal.loop-number-preserved
loop-number-preserved c =
    let p = c.loop-number.held in
    let q = c.reduce_one.new.held in
    let new = kept_in q.equations in
    record {
      rights = rights_then c.args.store.now c.args.held.now p q c.loop-number.invariant.rights c.reduce_one.ensures.rights;
      own = λ reps own. c.reduce_one.ensures.own reps (c.loop-number.invariant.own reps own);
      reduced =
          one_more (λ rule. IsReduced (IsRuleOf new rule.entry.symbol) rule.entry.right) (kept_in p.equations) new c.loop-number.number c.reduce_one.ensures.others
          (λ n rule l at. reduced_still (kept_in p.equations) new (c.reduce_one.ensures.rights).lefts rule.entry.symbol rule.entry.right (c.loop-number.invariant.reduced n rule l at))
          c.in_ok-reduce_one.ensures.reduced;
    }

pub returns-in_err-reduce_one-clause-rights : goal.returns-in_err-reduce_one-clause-rights
returns-in_err-reduce_one-clause-rights c =
    rights_then c.args.store.now c.args.held.now c.loop-number.held c.reduce_one.new.held c.loop-number.invariant.rights c.reduce_one.ensures.rights

pub returns-in_err-reduce_one-clause-own : goal.returns-in_err-reduce_one-clause-own
returns-in_err-reduce_one-clause-own c reps own = c.reduce_one.ensures.own reps (c.loop-number.invariant.own reps own)

pub returns-clause-rights : goal.returns-clause-rights
returns-clause-rights c = c.loop-number.invariant.rights

pub returns-clause-own : goal.returns-clause-own
returns-clause-own c = c.loop-number.invariant.own

pub returns-clause-reduced : goal.returns-clause-reduced
returns-clause-reduced c n rule at =
    let o = c.args.held.now in
    let p = c.loop-number.held in
    c.loop-number.invariant.reduced n rule
    (below_count o.equations.rules c.rules-rules.result.now (kept_in p.equations) c.loop-number.number c.rules-rules.ensures.rules c.rule-rule.ensures.rules
    (let e = c.len-count.ensures in let f = c.loop-number-test.false in omega (arith, e, f)) (c.loop-number.invariant.rights).lefts n rule at) at
