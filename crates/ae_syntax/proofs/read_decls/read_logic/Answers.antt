use Rattle.ae_syntax.specs.Parts as part
use Rattle.ae_syntax.proofs.ParserMeetsMachine.Decls.{relays, ac_stands, ac_lacks}
use Rattle.ae_syntax.proofs.read_decls.read_logic.Goals as goal

pub returns-then-stands_word : goal.returns-then-stands_word
returns-then-stands_word c = relays (λ d. part.decl d) 8 c.read_symbols.result (ac_stands c.args.first c.if-stands_word.ensures) c.read_symbols.ensures

pub returns : goal.returns
returns c = relays (λ d. part.decl d) 8 c.read_symbols-2.result (ac_lacks c.args.first c.requires.within c.if-stands_word.ensures) c.read_symbols-2.ensures
