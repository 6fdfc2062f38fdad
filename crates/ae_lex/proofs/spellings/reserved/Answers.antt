use Rattle.ae_lex.proofs.Tables.{none_word}
use Rattle.ae_lex.proofs.spellings.reserved.Goals as goal

pub returns-clause-none : goal.returns-clause-none
returns-clause-none c = none_word c.reserved_among.result c.args.word.now c.reserved_among.ensures.none
