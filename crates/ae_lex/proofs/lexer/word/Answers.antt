use Rattle.std.proofs.Common.{◌∙◌, sym}
use Rattle.ae_lex.specs.declared.kinds.TokenKind.TheVariants as kind
use Rattle.ae_lex.proofs.Pieces.{word_stands, word_slice}
use Rattle.ae_lex.proofs.lexer.word.Goals as goal

pub returns-in-Some : goal.returns-in-Some
returns-in-Some c =
    let spelled = word_slice c.args.text.now c.args.at c.args.byte c.word_end-to.result c.requires.here.0 c.requires.here.1 c.word_end-to.ensures in
    word_stands c.args.text.now c.args.at c.args.byte c.word_end-to.result (kind.Reserved c.in-Some.word) c.requires.here.0 c.requires.here.1 c.requires.letter c.word_end-to.ensures
    (λ w. sym spelled ∙ c.in-Some.ensures.some)

pub returns-in-None : goal.returns-in-None
returns-in-None c =
    let spelled = word_slice c.args.text.now c.args.at c.args.byte c.word_end-to.result c.requires.here.0 c.requires.here.1 c.word_end-to.ensures in
    word_stands c.args.text.now c.args.at c.args.byte c.word_end-to.result kind.Ident c.requires.here.0 c.requires.here.1 c.requires.letter c.word_end-to.ensures
    (λ w. (w, λ r e. c.in-None.ensures.none r (spelled ∙ e)))
