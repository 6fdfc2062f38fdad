use Rattle.std.proofs.Common.{ap, refl, arith, [], ◌∷◌}
use Rattle.std.proofs.lemmas.Result.{err_from_is_err_and}
use Rattle.ae_lex.specs.declared.kinds.Sign.TheVariants as sign
use Rattle.ae_syntax.specs.Grammar as grammar
use Rattle.ae_syntax.specs.Inner.Machine as machine
use Rattle.ae_syntax.specs.Parts as part
use Rattle.ae_syntax.proofs.ParserMeetsMachine.Decls.{halts_answer, start, then_pass, stop_pass, then_sorts, stop_sorts, relays_as}
use Rattle.ae_syntax.proofs.read_decls.read_arguments.Goals as goal

pub returns-in_err-all : goal.returns-in_err-all
returns-in_err-all c = let p = err_from_is_err_and c.from_residual.result c.from_residual.ensures.1 in rw (p.1, p.2) (let l0 = start (machine.more grammar.of_types 0 ∷ machine.past sign.Arrow 0 ∷ machine.a_result ∷ machine.make machine.be_symbols ∷ []) (part.sorts c.args.args ∷ part.names c.args.names ∷ part.flag c.args.ac ∷ part.token c.args.first ∷ []) c.args.tokens.now c.args.at c.requires.within in halts_answer (λ d. part.decl d) 8 (stop_sorts c.args.args l0 c.in_err-all.ensures))

pub returns-in_err-take_sign : goal.returns-in_err-take_sign
returns-in_err-take_sign c = let p = err_from_is_err_and c.from_residual-in_err-take_sign.result c.from_residual-in_err-take_sign.ensures.1 in rw (p.1, p.2) (let l0 = start (machine.more grammar.of_types 0 ∷ machine.past sign.Arrow 0 ∷ machine.a_result ∷ machine.make machine.be_symbols ∷ []) (part.sorts c.args.args ∷ part.names c.args.names ∷ part.flag c.args.ac ∷ part.token c.args.first ∷ []) c.args.tokens.now c.args.at c.requires.within in let l1 = then_sorts c.args.args l0 c.in_ok-all.ensures in halts_answer (λ d. part.decl d) 8 (stop_pass l1 c.in_err-take_sign.ensures.lacks c.in_err-take_sign.ensures.wrong))

pub returns : goal.returns
returns c = let l0 = start (machine.more grammar.of_types 0 ∷ machine.past sign.Arrow 0 ∷ machine.a_result ∷ machine.make machine.be_symbols ∷ []) (part.sorts c.args.args ∷ part.names c.args.names ∷ part.flag c.args.ac ∷ part.token c.args.first ∷ []) c.args.tokens.now c.args.at c.requires.within in let l1 = then_sorts c.args.args l0 c.in_ok-all.ensures in let l2 = then_pass l1 c.in_ok-take_sign.ensures.is c.in_ok-take_sign.ensures.kind (omega arith) in relays_as (λ d. part.decl d) 8 c.read_range.result l2 refl (ap (λ z. part.sorts z ∷ part.names c.args.names ∷ part.flag c.args.ac ∷ part.token c.args.first ∷ []) (let g = c.in_ok-all.ensures in g.is)) c.read_range.ensures
