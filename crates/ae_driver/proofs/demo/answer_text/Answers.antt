use Rattle.std.proofs.Common.{arith, subst}
use Rattle.ae_driver.specs.Inner.Endings.{IsNotRead}
use Rattle.ae_driver.specs.Problems.{HasNoProblem, IsProblemOf}
use Rattle.ae_driver.proofs.Counting.{no_demo_yet}
use Rattle.ae_driver.proofs.DemoProblems.{demo_has_problem}
use Rattle.ae_driver.proofs.OneProblem.{lawful}
use Rattle.ae_driver.proofs.demo.answer_text.Goals as goal

pub answer_and_tell-status-requires : goal.answer_and_tell-status-requires
answer_and_tell-status-requires g c =
    let h = c.in-Ok.ensures.read in
    let here = subst (λ t. IsProblemOf t c.in-Ok.problem) c.requires.text h in
    record {
      problem = here;
      lawful = lawful c.args.text.now c.in-Ok.problem h;
      lowest = c.typed_problems_have_lowest_numerals.ensures c.args.text.now h.is_file.tokens h.file c.in-Ok.problem h.is_file.tokenized h.is_file.parsed h.typed;
      way = c.requires.way;
      least = c.requires.least;
      most = c.requires.most;
    }

pub returns-in-Err-Memory-clause-ends : goal.returns-in-Err-Memory-clause-ends
returns-in-Err-Memory-clause-ends g c = no_demo_yet c.args.asked.limits c.args.goals (g.K.Sink.written c.args.sink.now)

pub unreachable-requires : goal.unreachable-requires
unreachable-requires g c =
    let none = subst (IsNotRead c.args.text.now) c.in-Err-Refused.field-0-is c.in-Err-Refused.ensures.why in
    demo_has_problem c.args.goals c.in-Err-Refused.field-0-0 (omega arith) (subst (λ t. HasNoProblem t c.in-Err-Refused.field-0-0) c.requires.text none.0)
