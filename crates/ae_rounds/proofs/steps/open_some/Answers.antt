use Rattle.std.specs.Prelude.{Bool, Ok, Result}
use Rattle.std.proofs.Common.{ap, ◌∙◌}
use Rattle.ae_journal.specs.Noted.{Noted}
use Rattle.ae_rounds.proofs.Failing.{passed_on}
use Rattle.ae_rounds.specs.Ended.{HasOpened}
use Rattle.ae_theory.specs.declared.theory.Fail.{Fail}
use Rattle.ae_theory.specs.declared.theory.Fail.TheVariants as fail
use Rattle.ae_rounds.proofs.steps.open_some.Goals as goal

pub open_blocks-requires : goal.open_blocks-requires
open_blocks-requires g c = record { between = c.requires.between }

pub returns-in_err-open_blocks : goal.returns-in_err-open_blocks
returns-in_err-open_blocks g c = record {
  opened = passed_on (λ (r : Result Bool Fail). HasOpened c.args.task.problem.now c.args.task.goal c.args.task.generations c.args.search.now c.open_blocks.new.search r) c.from_residual.result
      (fail.Memory c.in_err-open_blocks.field-0.0) c.from_residual.ensures.1 tt;
  limit = ap (λ (j : Noted). j.limit) c.open_blocks.ensures.journal;
}

pub returns-then-branch : goal.returns-then-branch
returns-then-branch g c =
    let yes = c.in_ok-open_blocks.was ∙ ap (λ (b : Bool). Ok b) c.if-branch.true in
    record {
      opened = record {
        between = c.in_ok-open_blocks.ensures.between;
        lines = c.open_blocks.ensures.lines yes;
        passes = c.in_ok-open_blocks.ensures.passes;
        journal = c.open_blocks.ensures.journal;
        falls = c.open_blocks.ensures.falls yes;
      };
      limit = ap (λ (j : Noted). j.limit) c.open_blocks.ensures.journal;
    }

pub returns-else-branch : goal.returns-else-branch
returns-else-branch g c =
    let no = c.in_ok-open_blocks.was ∙ ap (λ (b : Bool). Ok b) c.if-branch.false in
    record { opened = (c.open_blocks.ensures.none no, c.open_blocks.ensures.served no); limit = ap (λ (j : Noted). j.limit) c.open_blocks.ensures.journal }
