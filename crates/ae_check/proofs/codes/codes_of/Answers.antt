use Rattle.std.proofs.Common.{◌∙◌, sym, subst, take, ◌+◌}
use Rattle.ae_base.proofs.Relations.{pairwise_more}
use Rattle.ae_check.specs.Inner.Coding.{number_in, IsCode, AreCodes}
use Rattle.ae_check.proofs.Numbering.{codes_kept}
use Rattle.ae_check.proofs.codes.codes_of.Goals as goal

pub loop-i-preserved : goal.loop-i-preserved
loop-i-preserved c =
    let ls = c.args.clause.now in let i = c.loop-i.i in let old = number_in c.loop-i.table.numbers.entries in let new = number_in c.code_of.new.table.numbers.entries in
    record {
      codes = subst (AreCodes new (take (i + 1) ls)) (sym c.in_ok-push.ensures.ok)
          (pairwise_more (IsCode new) ls c.loop-i.codes i c.index-clause-i.result c.in_ok-code.code c.loop-i-test.true c.index-clause-i.is
          (codes_kept old new c.in_ok-code.ensures.kept (take i ls) c.loop-i.codes c.loop-i.invariant.codes) c.in_ok-code.ensures.code);
      table = c.in_ok-code.ensures.table;
      kept = λ f n e. c.in_ok-code.ensures.kept f n (c.loop-i.invariant.kept f n e);
      stamps = λ n. c.in_ok-code.ensures.stamps n ∙ c.loop-i.invariant.stamps n;
    }
