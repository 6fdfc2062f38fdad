use Rattle.std.proofs.Common.{ap, refl, arith, [], ◌∷◌}
use Rattle.std.proofs.lemmas.Result.{err_from_is_err_and}
use Rattle.ae_lex.specs.declared.kinds.Sign.TheVariants as sign
use Rattle.ae_syntax.specs.Grammar as grammar
use Rattle.ae_syntax.specs.Inner.Machine as machine
use Rattle.ae_syntax.specs.Parts as part
use Rattle.ae_syntax.proofs.ParserMeetsMachine.Decls.{leads_done, halts_answer, then_pass, stop_pass, finish, then_all, stop_all, no_formals, some_formals}
use Rattle.ae_syntax.proofs.read_decls.read_formals.Goals as goal

pub returns-then-stands_sign : goal.returns-then-stands_sign
returns-then-stands_sign c = finish (part.typeds c.new-none.result) (no_formals c.if-stands_sign.ensures) (ap (λ z. part.typeds z) c.new-none.ensures)

pub returns-in_err-formals : goal.returns-in_err-formals
returns-in_err-formals c = let p = err_from_is_err_and c.from_residual.result c.from_residual.ensures.1 in rw (p.1, p.2) (let l0 = some_formals c.requires.within c.if-stands_sign.ensures in halts_answer (λ ns. part.typeds ns) 8 (stop_all (λ ns. part.typeds ns) 8 c.in_err-formals.field-0.0 (machine.items_wants grammar.of_formals 1) (machine.past sign.CloseParen 0 ∷ []) l0 (c.in_err-formals.ensures grammar.of_formals refl refl)))

pub take_sign-requires : goal.take_sign-requires
take_sign-requires c = let d = c.in_ok-formals.ensures grammar.of_formals refl refl in d.within

pub returns-in_err-take_sign : goal.returns-in_err-take_sign
returns-in_err-take_sign c = let p = err_from_is_err_and c.from_residual-in_err-take_sign.result c.from_residual-in_err-take_sign.ensures.1 in rw (p.1, p.2) (let l0 = some_formals c.requires.within c.if-stands_sign.ensures in let l1 = then_all (machine.items_wants grammar.of_formals 1) (machine.past sign.CloseParen 0 ∷ []) l0 (c.in_ok-formals.ensures grammar.of_formals refl refl) in halts_answer (λ ns. part.typeds ns) 8 (stop_pass l1 c.in_err-take_sign.ensures.lacks c.in_err-take_sign.ensures.wrong))

pub returns : goal.returns
returns c = let l0 = some_formals c.requires.within c.if-stands_sign.ensures in let l1 = then_all (machine.items_wants grammar.of_formals 1) (machine.past sign.CloseParen 0 ∷ []) l0 (c.in_ok-formals.ensures grammar.of_formals refl refl) in leads_done (then_pass l1 c.in_ok-take_sign.ensures.is c.in_ok-take_sign.ensures.kind (omega arith))
