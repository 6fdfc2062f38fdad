use Rattle.std.proofs.Common.{◌∙◌, sym}
use Rattle.ae_lex.proofs.Pieces.{blank_stands}
use Rattle.ae_lex.proofs.lexer.first.Goals as goal

pub returns-then-is_blank : goal.returns-then-is_blank
returns-then-is_blank c = blank_stands c.args.text.now c.args.at c.args.byte c.requires.0 c.requires.1 (sym c.is_blank.ensures ∙ c.if-is_blank.true)
