use Rattle.std.proofs.Common.{ap, arith}
use Rattle.std.proofs.lemmas.Result.{err_from_is_err_and}
use Rattle.ae_syntax.specs.Parts as part
use Rattle.ae_syntax.proofs.ParserMeetsMachine.Decls.{leads_done, halts_answer, then_pass, stop_pass, then_read, stop_read, finish, bare_head, open_head, no_head}
use Rattle.ae_syntax.proofs.read_decls.read_optional_formals.Goals as goal

pub returns-then-stands_sign : goal.returns-then-stands_sign
returns-then-stands_sign c = finish (part.typeds c.new-none.result) (bare_head c.if-stands_sign.ensures) (ap (λ z. part.typeds z) c.new-none.ensures)

pub returns-in_err-take_sign : goal.returns-in_err-take_sign
returns-in_err-take_sign c = let p = err_from_is_err_and c.from_residual.result c.from_residual.ensures.1 in rw (p.1, p.2) (halts_answer (λ ns. part.typeds ns) 8 (no_head c.requires.within c.if-stands_sign.ensures c.in_err-take_sign.ensures.lacks c.in_err-take_sign.ensures.wrong))

pub returns-in_err-formals : goal.returns-in_err-formals
returns-in_err-formals c = let p = err_from_is_err_and c.from_residual-in_err-formals.result c.from_residual-in_err-formals.ensures.1 in rw (p.1, p.2) (let l0 = open_head c.if-stands_sign.ensures c.in_ok-take_sign.ensures.is c.in_ok-take_sign.ensures.kind in halts_answer (λ ns. part.typeds ns) 8 (stop_read (λ ns. part.typeds ns) 8 c.in_err-formals.field-0.0 l0 c.in_err-formals.ensures))

pub returns-in_err-take_sign-2 : goal.returns-in_err-take_sign-2
returns-in_err-take_sign-2 c = let p = err_from_is_err_and c.from_residual-in_err-take_sign-2.result c.from_residual-in_err-take_sign-2.ensures.1 in rw (p.1, p.2) (let l0 = open_head c.if-stands_sign.ensures c.in_ok-take_sign.ensures.is c.in_ok-take_sign.ensures.kind in let l1 = then_read l0 c.in_ok-formals.ensures in halts_answer (λ ns. part.typeds ns) 8 (stop_pass l1 c.in_err-take_sign-2.ensures.lacks c.in_err-take_sign-2.ensures.wrong))

pub returns : goal.returns
returns c = let l0 = open_head c.if-stands_sign.ensures c.in_ok-take_sign.ensures.is c.in_ok-take_sign.ensures.kind in let l1 = then_read l0 c.in_ok-formals.ensures in leads_done (then_pass l1 c.in_ok-take_sign-2.ensures.is c.in_ok-take_sign-2.ensures.kind (omega arith))
