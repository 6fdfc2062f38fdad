use Rattle.std.proofs.Common.{sym}
use Rattle.ae_base.proofs.AllOf.{all_at}
use Rattle.ae_combine_tests.specs.Marked.{IsMarkedAtFirst}
use Rattle.ae_combine_tests.proofs.Kept.{all_marked}
use Rattle.ae_combine_tests.proofs.marks.back_at.Goals as goal

pub back_to-requires-clause-mark : goal.back_to-requires-clause-mark
back_to-requires-clause-mark g c = all_at (IsMarkedAtFirst c.args.state.now) c.args.marks.now c.args.place c.in-Some.mark.now c.requires.marks (sym c.in-Some.ensures)

pub returns-in-Some-clause-marks : goal.returns-in-Some-clause-marks
returns-in-Some-clause-marks g c = all_marked c.args.state.now c.back_to.new.state c.args.marks.now c.back_to.ensures.marks c.requires.marks
