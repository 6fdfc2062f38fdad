use Rattle.std.proofs.Common.{drop}
use Rattle.ae_linereader.specs.Lines.{lines_code}
use Rattle.ae_readers.proofs.Exactness.{exactly_by, same_read}
use Rattle.ae_linereader.proofs.LineReading.{lines_are}
use Rattle.ae_linereader.proofs.lines.read_lines.Goals as goal

pub returns-clause-read : goal.returns-clause-read
returns-clause-read c = same_read c.args.text.now _ _ _ (lines_are c.args.tables.now.signature.now (drop c.args.at c.args.text.now)) c.read_line_list.ensures.read

pub returns-clause-exact : goal.returns-clause-exact
returns-clause-exact c = exactly_by (lines_code c.args.tables.now.signature.now) _ (lines_are c.args.tables.now.signature.now) c.args.text.now c.args.at _ c.read_line_list.ensures.read
