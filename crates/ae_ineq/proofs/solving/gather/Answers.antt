use Rattle.std.proofs.Common.{ℕ, ◌≡◌, ◌+◌, suc, take, arith, sym, ◌∙◌, subst}
use Rattle.ae_num.specs.Forms.{IsNormal}
use Rattle.ae_ineq.specs.declared.solving.Inequality.{Inequality}
use Rattle.ae_ineq.specs.Inner.Derived.{AreRowsOf}
use Rattle.ae_ineq.proofs.RowSets.{all_at}
use Rattle.ae_ineq.proofs.Gathering.{rows_open, rows_zero, rows_refuted}
use Rattle.ae_ineq.proofs.solving.gather.Goals as goal
use Rattle.ae_ineq.proofs.solving.gather.Goals.{in-Open+in_ok-lin-in-Open+in_ok-row_of-in-Open+in_ok-push-in-Open, in-Tight}

pub returns-in-Contradiction : goal.returns-in-Contradiction
returns-in-Contradiction c =
    let given = c.args.inequalities.now in
    let k = c.loop-inequality.inequality-index in
    let it = c.inequality-item.result in
    let normal : IsNormal it.lin = subst (λ (x : Inequality). IsNormal x.lin) (sym c.inequality-item.is) (all_at (λ (x : Inequality). IsNormal x.lin) given k it c.requires c.loop-inequality-test.true) in
    let j = c.judged.ensures.refuted c.in-Contradiction.is in
    rows_refuted given k it c.loop-inequality-test.true c.inequality-item.is normal j.0 j.1

pub loop-inequality-preserved : goal.loop-inequality-preserved
loop-inequality-preserved c =
    let given = c.args.inequalities.now in
    let k = c.loop-inequality.inequality-index in
    let it = c.inequality-item.result in
    let one : suc k ≡ k + 1 = omega arith in
    let normal : IsNormal it.lin = subst (λ (x : Inequality). IsNormal x.lin) (sym c.inequality-item.is) (all_at (λ (x : Inequality). IsNormal x.lin) given k it c.requires c.loop-inequality-test.true) in
    record {
      gathered = subst (λ (n : ℕ). AreRowsOf given (take n given) c.match-judged.rows) one (
          elim c.match-judged.branch [
            | in-Open+in_ok-lin-in-Open+in_ok-row_of-in-Open+in_ok-push-in-Open w ↦
                rows_open given k it c.loop-inequality-test.true c.inequality-item.is normal c.loop-inequality.rows c.match-judged.rows w.in_ok-row_of-in-Open.field-0 c.loop-inequality.invariant.gathered (c.judged.ensures.fine w.in-Open.is)
                (w.in_ok-row_of-in-Open.ensures.form ∙ w.in_ok-lin-in-Open.ensures) w.in_ok-row_of-in-Open.ensures.strict w.in_ok-row_of-in-Open.ensures.known (w.rows-is ∙ w.in_ok-push-in-Open.ensures.ok)
            | in-Tight w ↦
                let j = c.judged.ensures.tight w.in-Tight.is in
                subst (AreRowsOf given (take (suc k) given)) (sym w.rows-is) (rows_zero given k it c.loop-inequality-test.true c.inequality-item.is normal c.loop-inequality.rows c.loop-inequality.invariant.gathered j.0 j.1 j.2)
          ]);
    }
