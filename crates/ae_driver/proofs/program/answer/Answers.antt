use Rattle.ae_driver.proofs.OneProblem.{lawful}
use Rattle.ae_driver.proofs.Passing.{text_ends}
use Rattle.ae_driver.proofs.program.answer.Goals as goal

pub answer_items-status-requires : goal.answer_items-status-requires
answer_items-status-requires g c =
    let h = c.in-Ok.ensures.read in
    record {
      lawful = lawful c.args.text.now c.in-Ok.problem h;
      lowest = c.typed_problems_have_lowest_numerals.ensures c.args.text.now h.is_file.tokens h.file c.in-Ok.problem h.is_file.tokenized h.is_file.parsed h.typed;
      way = c.requires.way;
      least = c.requires.least;
      most = c.requires.most;
    }

pub returns-in-Ok-clause-ends : goal.returns-in-Ok-clause-ends
returns-in-Ok-clause-ends g c =
    text_ends c.args.asked.limits c.args.text.now c.in-Ok.problem c.in-Ok.ensures.read _ _ c.answer_items-status.result c.answer_items-status.ensures.ends

pub returns-in-Err-clause-ends : goal.returns-in-Err-clause-ends
returns-in-Err-clause-ends g c = c.answer_unread.ensures.ends c.args.asked.limits
