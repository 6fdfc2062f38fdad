use Rattle.std.proofs.Common.{refl, arith, [], ◌∷◌, ◌++◌}
use Rattle.std.proofs.lemmas.Result.{err_from_is_err_and}
use Rattle.ae_lex.specs.declared.kinds.Sign.TheVariants as sign
use Rattle.ae_syntax.specs.Grammar as grammar
use Rattle.ae_syntax.specs.Inner.Machine as machine
use Rattle.ae_syntax.specs.Parts as part
use Rattle.ae_syntax.proofs.ParserMeetsMachine.Decls.{halts_answer, relays, start, then_pass, stop_pass, then_all, stop_all}
use Rattle.ae_syntax.proofs.read_decls.read_symbols.Goals as goal

pub returns-in_err-names : goal.returns-in_err-names
returns-in_err-names c = let p = err_from_is_err_and c.from_residual.result c.from_residual.ensures.1 in rw (p.1, p.2) (let l0 = start (machine.items_wants grammar.of_names 0 ++ machine.past sign.Colon 0 ∷ machine.logic_sorts ∷ []) (part.flag c.args.ac ∷ part.token c.args.first ∷ []) c.args.tokens.now c.args.at c.requires.within in halts_answer (λ d. part.decl d) 8 (stop_all (λ ns. part.names ns) 8 c.in_err-names.field-0.0 (machine.items_wants grammar.of_names 0) (machine.past sign.Colon 0 ∷ machine.logic_sorts ∷ []) l0 (c.in_err-names.ensures grammar.of_names 0 refl refl (omega arith))))

pub returns-in_err-take_sign : goal.returns-in_err-take_sign
returns-in_err-take_sign c = let p = err_from_is_err_and c.from_residual-in_err-take_sign.result c.from_residual-in_err-take_sign.ensures.1 in rw (p.1, p.2) (let l0 = start (machine.items_wants grammar.of_names 0 ++ machine.past sign.Colon 0 ∷ machine.logic_sorts ∷ []) (part.flag c.args.ac ∷ part.token c.args.first ∷ []) c.args.tokens.now c.args.at c.requires.within in let l1 = then_all (machine.items_wants grammar.of_names 0) (machine.past sign.Colon 0 ∷ machine.logic_sorts ∷ []) l0 (c.in_ok-names.ensures grammar.of_names 0 refl refl (omega arith)) in halts_answer (λ d. part.decl d) 8 (stop_pass l1 c.in_err-take_sign.ensures.lacks c.in_err-take_sign.ensures.wrong))

pub returns : goal.returns
returns c = let l0 = start (machine.items_wants grammar.of_names 0 ++ machine.past sign.Colon 0 ∷ machine.logic_sorts ∷ []) (part.flag c.args.ac ∷ part.token c.args.first ∷ []) c.args.tokens.now c.args.at c.requires.within in let l1 = then_all (machine.items_wants grammar.of_names 0) (machine.past sign.Colon 0 ∷ machine.logic_sorts ∷ []) l0 (c.in_ok-names.ensures grammar.of_names 0 refl refl (omega arith)) in let l2 = then_pass l1 c.in_ok-take_sign.ensures.is c.in_ok-take_sign.ensures.kind (omega arith) in relays (λ d. part.decl d) 8 c.read_sorts.result l2 c.read_sorts.ensures

pub take_sign-requires : goal.take_sign-requires
take_sign-requires c = let d = c.in_ok-names.ensures grammar.of_names 0 refl refl (omega arith) in d.within
