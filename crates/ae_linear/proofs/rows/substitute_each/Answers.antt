use Rattle.std.proofs.Common.{arith}
use Rattle.ae_pmap.specs.Forest.{present}
use Rattle.ae_pmap.specs.Pairs.{found}
use Rattle.ae_num.specs.declared.numbers.Wide.{Wide}
use Rattle.ae_num.proofs.StepLaws.{same_err}
use Rattle.ae_linear.proofs.RowLaws.{visiting_none, visiting_more, normal_now, first_here, all_substituted, all_fit}
use Rattle.ae_linear.proofs.rows.substitute_each.Goals as goal

pub loop-at-init : goal.loop-at-init
loop-at-init c = record { lasts = λ root map s. s; visiting = visiting_none c.args.name c.args.value.now c.requires.value c.requires.absent (λ n. found (present c.args.rows.now) n) c.args.names.now }

pub substitute_at-requires-clause-normal : goal.substitute_at-requires-clause-normal
substitute_at-requires-clause-normal c =
    normal_now c.args.name c.args.value.now c.requires.value c.requires.absent (λ n. found (present c.args.rows.now) n) (λ n. found (present c.loop-at.rows) n) c.args.names.now c.loop-at.at-index _ c.requires.rows c.loop-at.invariant.visiting c.loop-at-test.true

pub loop-at-preserved : goal.loop-at-preserved
loop-at-preserved c =
    let e = c.in_ok-substitute_at.ensures in
    record {
      lasts = λ root map s. e.lasts root map (c.loop-at.invariant.lasts root map s);
      visiting =
          visiting_more c.args.name c.args.value.now c.requires.value c.requires.absent (λ n. found (present c.args.rows.now) n) (λ n. found (present c.loop-at.rows) n) c.args.names.now c.loop-at.at-index _
          c.requires.rows c.loop-at.invariant.visiting c.loop-at-test.true (λ n. found (present c.substitute_at.new.rows) n) e.ok e.fits e.others;
    }

pub returns-in_err-substitute_at-clause-lasts : goal.returns-in_err-substitute_at-clause-lasts
returns-in_err-substitute_at-clause-lasts c = λ root map s. c.in_err-substitute_at.ensures.lasts root map (c.loop-at.invariant.lasts root map s)

pub returns-in_err-substitute_at-clause-wide : goal.returns-in_err-substitute_at-clause-wide
returns-in_err-substitute_at-clause-wide c =
    same_err c.from_residual.result c.in_err-substitute_at.field-0.0 _ _ c.from_residual.ensures.1
    (λ (w : Wide) h. first_here c.args.name c.args.value.now c.requires.value c.requires.absent (λ n. found (present c.args.rows.now) n) (λ n. found (present c.loop-at.rows) n) c.args.names.now c.loop-at.at-index _
    c.requires.rows c.loop-at.invariant.visiting c.loop-at-test.true c.requires.names c.requires.all w h) c.in_err-substitute_at.ensures.wide

pub returns-clause-ok : goal.returns-clause-ok
returns-clause-ok c =
    all_substituted c.args.name c.args.value.now c.requires.value c.requires.absent (λ n. found (present c.args.rows.now) n) (λ n. found (present c.loop-at.rows) n) c.args.names.now c.loop-at.at-index
    c.requires.rows c.loop-at.invariant.visiting (omega (arith, c.loop-at-test.false)) c.requires.all

pub returns-clause-untouched : goal.returns-clause-untouched
returns-clause-untouched c = c.loop-at.invariant.visiting.touched

pub returns-clause-fits : goal.returns-clause-fits
returns-clause-fits c =
    all_fit c.args.name c.args.value.now c.requires.value c.requires.absent (λ n. found (present c.args.rows.now) n) (λ n. found (present c.loop-at.rows) n) c.args.names.now c.loop-at.at-index
    c.requires.rows c.loop-at.invariant.visiting (omega (arith, c.loop-at-test.false)) c.requires.all

pub returns-clause-lasts : goal.returns-clause-lasts
returns-clause-lasts c = λ root map s. c.loop-at.invariant.lasts root map s
