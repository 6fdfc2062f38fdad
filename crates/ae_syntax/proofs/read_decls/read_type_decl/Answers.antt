use Rattle.std.proofs.Common.{ap, refl, arith, [], ◌∷◌, ◌+◌}
use Rattle.std.proofs.lemmas.Result.{err_from_is_err_and}
use Rattle.ae_syntax.specs.Parts as part
use Rattle.ae_syntax.proofs.ParserMeetsMachine.Decls.{halts_answer, halts_before, relays, at_place, then_keep, stop_keep, then_pass, stop_pass, finish, relays_as, plain_head, end_ends, end_goes_on, leads_beside}
use Rattle.ae_syntax.proofs.read_decls.read_type_decl.Goals as goal

pub returns-in-Ok : goal.returns-in-Ok
returns-in-Ok c = relays (λ d. part.decl d) 8 c.read_plain_type.result (plain_head c.args.first c.in-Ok.ensures.is c.in-Ok.ensures.kind) c.read_plain_type.ensures

pub returns-in_err-params : goal.returns-in_err-params
returns-in_err-params c = let p = err_from_is_err_and c.from_residual.result c.from_residual.ensures.1 in rw (p.1, p.2) (halts_answer (λ d. part.decl d) 8 (halts_before [] (part.token c.args.first ∷ []) c.in_err-params.ensures))

pub returns-in_err-name : goal.returns-in_err-name
returns-in_err-name c = let p = err_from_is_err_and c.from_residual-in_err-name.result c.from_residual-in_err-name.ensures.1 in rw (p.1, p.2) (let l0 = leads_beside (part.token c.args.first ∷ []) c.in_ok-params.ensures in halts_answer (λ d. part.decl d) 8 (stop_keep l0 c.in_err-name.ensures.lacks c.in_err-name.ensures.wrong))

pub returns-then-not-stands_sign : goal.returns-then-not-stands_sign
returns-then-not-stands_sign c = let l0 = leads_beside (part.token c.args.first ∷ []) c.in_ok-params.ensures in let l1 = then_keep l0 c.in_ok-name.ensures.is c.in_ok-name.ensures.kind (omega arith) in finish (part.decl c.abstract_type.result) (end_ends c.args.first c.in_ok-name.name c.in_ok-params.params l1 c.if-not-stands_sign.ensures) (ap (λ z. part.decl z) c.abstract_type.ensures)

pub returns-in_err-take_sign : goal.returns-in_err-take_sign
returns-in_err-take_sign c = let p = err_from_is_err_and c.from_residual-in_err-take_sign.result c.from_residual-in_err-take_sign.ensures.1 in rw (p.1, p.2) (let l0 = leads_beside (part.token c.args.first ∷ []) c.in_ok-params.ensures in let l1 = then_keep l0 c.in_ok-name.ensures.is c.in_ok-name.ensures.kind (omega arith) in let l2 = end_goes_on l1 c.if-not-stands_sign.ensures in let m2 = at_place (c.in_ok-params.to + 2) (omega arith) l2 in halts_answer (λ d. part.decl d) 8 (stop_pass m2 c.in_err-take_sign.ensures.lacks c.in_err-take_sign.ensures.wrong))

pub returns : goal.returns
returns c = let l0 = leads_beside (part.token c.args.first ∷ []) c.in_ok-params.ensures in let l1 = then_keep l0 c.in_ok-name.ensures.is c.in_ok-name.ensures.kind (omega arith) in let l2 = end_goes_on l1 c.if-not-stands_sign.ensures in let m2 = at_place (c.in_ok-params.to + 2) (omega arith) l2 in relays_as (λ d. part.decl d) 8 c.read_fields.result (then_pass m2 c.in_ok-take_sign.ensures.is c.in_ok-take_sign.ensures.kind (omega arith)) (omega arith) refl c.read_fields.ensures
