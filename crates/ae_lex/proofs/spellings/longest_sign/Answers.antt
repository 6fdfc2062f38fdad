use Rattle.ae_lex.proofs.Tables.{some_longest, none_sign}
use Rattle.ae_lex.proofs.spellings.longest_sign.Goals as goal

pub returns-clause-longest : goal.returns-clause-longest
returns-clause-longest c = some_longest c.sign_among.result c.args.bytes.now c.sign_among.ensures.some

pub returns-clause-none : goal.returns-clause-none
returns-clause-none c = none_sign c.sign_among.result c.args.bytes.now c.sign_among.ensures.none
