use Rattle.std.proofs.Common.{ap, ◌∙◌, refl, arith, [], ◌∷◌}
use Rattle.std.proofs.lemmas.Result.{err_from_is_err_and}
use Rattle.ae_syntax.specs.Grammar as grammar
use Rattle.ae_syntax.specs.Inner.Machine as machine
use Rattle.ae_syntax.specs.Parts as part
use Rattle.ae_syntax.proofs.ParserMeetsMachine.Decls.{halts_answer, then_make, finish, relays_as, then_all, stop_all, body_ends, body_goes_on, form_fields, form_choices}
use Rattle.ae_syntax.proofs.read_decls.read_plain_type.Goals as goal

pub returns-then-not-stands_sign : goal.returns-then-not-stands_sign
returns-then-not-stands_sign c = finish (part.decl c.abstract_type.result) (body_ends c.args.first c.args.name [] c.requires.within c.if-not-stands_sign.ensures) (ap (λ z. part.decl z) (c.abstract_type.ensures ∙ ap (λ z. part.abstract_type c.args.first z c.args.name) c.new-params.ensures))

pub returns-in-Ok : goal.returns-in-Ok
returns-in-Ok c = let l0 = body_goes_on (part.token c.args.name ∷ part.names [] ∷ part.token c.args.first ∷ []) c.if-not-stands_sign.ensures in relays_as (λ d. part.decl d) 8 c.read_fields.result (form_fields l0 c.in-Ok.ensures.is c.in-Ok.ensures.kind) (omega arith) (ap (λ z. part.token c.args.name ∷ part.names z ∷ part.token c.args.first ∷ []) c.new-params.ensures) c.read_fields.ensures

pub returns-in_err-constructors : goal.returns-in_err-constructors
returns-in_err-constructors c = let p = err_from_is_err_and c.from_residual.result c.from_residual.ensures.1 in rw (p.1, p.2) (let l0 = body_goes_on (part.token c.args.name ∷ part.names [] ∷ part.token c.args.first ∷ []) c.if-not-stands_sign.ensures in let l1 = form_choices l0 c.in_default.ensures.lacks in halts_answer (λ d. part.decl d) 8 (stop_all (λ ns. part.names ns) 8 c.in_err-constructors.field-0.0 (machine.items_wants grammar.of_constructors 0) (machine.make machine.be_choice ∷ []) l1 (c.in_err-constructors.ensures grammar.of_constructors 0 refl refl (omega arith))))

pub returns : goal.returns
returns c = let l0 = body_goes_on (part.token c.args.name ∷ part.names [] ∷ part.token c.args.first ∷ []) c.if-not-stands_sign.ensures in let l1 = form_choices l0 c.in_default.ensures.lacks in finish (part.decl c.enumeration.result) (then_make (part.decl (part.enumeration c.args.first c.args.name c.in_ok-constructors.constructors) ∷ []) (then_all (machine.items_wants grammar.of_constructors 0) (machine.make machine.be_choice ∷ []) l1 (c.in_ok-constructors.ensures grammar.of_constructors 0 refl refl (omega arith))) (λ v. refl)) (ap (λ z. part.decl z) c.enumeration.ensures)
