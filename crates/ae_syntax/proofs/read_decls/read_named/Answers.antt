use Rattle.std.proofs.Common.{arith, [], ◌∷◌, ◌+◌}
use Rattle.std.proofs.lemmas.Result.{err_from_is_err_and}
use Rattle.ae_lex.specs.declared.kinds.TokenKind.TheVariants as kind
use Rattle.ae_lex.specs.declared.kinds.Sign.TheVariants as sign
use Rattle.ae_syntax.specs.Inner.Machine as machine
use Rattle.ae_syntax.specs.Parts as part
use Rattle.ae_syntax.proofs.ParserMeetsMachine.Decls.{start, at_place, then_keep, stop_keep, then_pass, stop_pass, then_read, stop_read}
use Rattle.ae_syntax.proofs.read_decls.read_named.Goals as goal

pub returns-in_err-name : goal.returns-in_err-name
returns-in_err-name c = let p = err_from_is_err_and c.from_residual.result c.from_residual.ensures.1 in rw (p.1, p.2) (let l0 = start (machine.keep kind.Ident 0 ∷ machine.past sign.Colon 0 ∷ machine.an_expr 0 ∷ []) ([]) c.args.tokens.now c.args.at c.requires.within in stop_keep l0 c.in_err-name.ensures.lacks c.in_err-name.ensures.wrong)

pub returns-in_err-take_sign : goal.returns-in_err-take_sign
returns-in_err-take_sign c = let p = err_from_is_err_and c.from_residual-in_err-take_sign.result c.from_residual-in_err-take_sign.ensures.1 in rw (p.1, p.2) (let l0 = start (machine.keep kind.Ident 0 ∷ machine.past sign.Colon 0 ∷ machine.an_expr 0 ∷ []) ([]) c.args.tokens.now c.args.at c.requires.within in let l1 = then_keep l0 c.in_ok-name.ensures.is c.in_ok-name.ensures.kind (omega arith) in stop_pass l1 c.in_err-take_sign.ensures.lacks c.in_err-take_sign.ensures.wrong)

pub returns-in_err-body : goal.returns-in_err-body
returns-in_err-body c = let p = err_from_is_err_and c.from_residual-in_err-body.result c.from_residual-in_err-body.ensures.1 in rw (p.1, p.2) (let l0 = start (machine.keep kind.Ident 0 ∷ machine.past sign.Colon 0 ∷ machine.an_expr 0 ∷ []) ([]) c.args.tokens.now c.args.at c.requires.within in let l1 = then_keep l0 c.in_ok-name.ensures.is c.in_ok-name.ensures.kind (omega arith) in let l2 = then_pass l1 c.in_ok-take_sign.ensures.is c.in_ok-take_sign.ensures.kind (omega arith) in let l3 = at_place (c.args.at + 2) (omega arith) l2 in stop_read (λ e. part.tree e) 1 c.in_err-body.field-0.0 l3 c.in_err-body.ensures)

pub returns : goal.returns
returns c = let l0 = start (machine.keep kind.Ident 0 ∷ machine.past sign.Colon 0 ∷ machine.an_expr 0 ∷ []) ([]) c.args.tokens.now c.args.at c.requires.within in let l1 = then_keep l0 c.in_ok-name.ensures.is c.in_ok-name.ensures.kind (omega arith) in let l2 = then_pass l1 c.in_ok-take_sign.ensures.is c.in_ok-take_sign.ensures.kind (omega arith) in let l3 = at_place (c.args.at + 2) (omega arith) l2 in let l4 = then_read l3 c.in_ok-body.ensures in l4
