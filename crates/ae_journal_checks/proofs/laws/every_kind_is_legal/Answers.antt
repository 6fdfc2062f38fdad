use Rattle.ae_journal_checks.proofs.KindLines.{every_kind_is_legal}
use Rattle.ae_journal_checks.proofs.laws.every_kind_is_legal.Goals as goal

pub returns : goal.returns
returns c = every_kind_is_legal
