use Rattle.std.specs.Prelude.{List}
use Rattle.std.specs.List.{AllByRecursion}
use Rattle.std.proofs.Common.{sym, subst}
use Rattle.ae_base.proofs.AllOf.{all_push}
use Rattle.ae_combine.specs.declared.state.Mark.{Mark}
use Rattle.ae_combine_tests.specs.Marked.{IsMarkedAtFirst}
use Rattle.ae_combine_tests.proofs.Kept.{all_marked}
use Rattle.ae_combine_tests.proofs.marks.mark_one.Goals as goal

pub returns-clause-marks : goal.returns-clause-marks
returns-clause-marks g c =
    all_marked c.args.state.now c.assume_equation.new.state c.push.new.self.items c.assume_equation.ensures.marks
    (subst (λ (ms : List Mark). AllByRecursion (IsMarkedAtFirst c.args.state.now) ms) (sym c.in_ok-push.ensures.items)
    (all_push (IsMarkedAtFirst c.args.state.now) c.args.marks.now.items c.mark-mark.result c.requires.marks (c.args.state.now, c.mark-mark.ensures.mark, c.requires.step)))
