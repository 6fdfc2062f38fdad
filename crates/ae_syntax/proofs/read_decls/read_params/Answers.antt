use Rattle.std.proofs.Common.{ap, ◌∙◌, refl, arith, [], ◌∷◌, ◌++◌, ◌+◌}
use Rattle.std.proofs.lemmas.Result.{err_from_is_err_and}
use Rattle.ae_lex.specs.declared.kinds.TokenKind.TheVariants as kind
use Rattle.ae_lex.specs.declared.kinds.Sign.TheVariants as sign
use Rattle.ae_syntax.specs.Grammar as grammar
use Rattle.ae_syntax.specs.Inner.Machine as machine
use Rattle.ae_syntax.specs.Parts as part
use Rattle.ae_syntax.proofs.ParserMeetsMachine.Decls.{at_place, then_keep, stop_keep, then_pass, stop_pass, then_make, then_all, stop_all, leads_to, one_param, open_params, no_params}
use Rattle.ae_syntax.proofs.read_decls.read_params.Goals as goal

pub returns-in-Ok : goal.returns-in-Ok
returns-in-Ok c = leads_to _ (one_param c.requires.other c.in-Ok.ensures.is c.in-Ok.ensures.kind) (ap (λ z. part.names z ∷ []) (c.in_ok-push.ensures.ok ∙ ap (λ z. z ++ c.span.result ∷ []) c.new-found.ensures ∙ ap (λ z. z ∷ []) c.span.ensures))

pub returns-in_err-take_sign : goal.returns-in_err-take_sign
returns-in_err-take_sign c = let p = err_from_is_err_and c.from_residual-in_err-take_sign.result c.from_residual-in_err-take_sign.ensures.1 in rw (p.1, p.2) (no_params c.requires.within c.requires.other c.in_default.ensures.lacks c.in_err-take_sign.ensures.lacks c.in_err-take_sign.ensures.wrong)

pub returns-in_err-first : goal.returns-in_err-first
returns-in_err-first c = let p = err_from_is_err_and c.from_residual-in_err-first.result c.from_residual-in_err-first.ensures.1 in rw (p.1, p.2) (let l0 = open_params c.requires.other c.in_default.ensures.lacks c.in_ok-take_sign.ensures.is c.in_ok-take_sign.ensures.kind in stop_keep l0 c.in_err-first.ensures.lacks c.in_err-first.ensures.wrong)

pub returns-in_err-take_sign-2 : goal.returns-in_err-take_sign-2
returns-in_err-take_sign-2 c = let p = err_from_is_err_and c.from_residual-in_err-take_sign-2.result c.from_residual-in_err-take_sign-2.ensures.1 in rw (p.1, p.2) (let l0 = open_params c.requires.other c.in_default.ensures.lacks c.in_ok-take_sign.ensures.is c.in_ok-take_sign.ensures.kind in let l1 = then_keep l0 c.in_ok-first.ensures.is c.in_ok-first.ensures.kind (omega arith) in let m1 = at_place (c.args.at + 2) (omega arith) l1 in stop_pass m1 c.in_err-take_sign-2.ensures.lacks c.in_err-take_sign-2.ensures.wrong)

pub returns-in_err-others : goal.returns-in_err-others
returns-in_err-others c = let p = err_from_is_err_and c.from_residual-in_err-others.result c.from_residual-in_err-others.ensures.1 in rw (p.1, p.2) (let l0 = open_params c.requires.other c.in_default.ensures.lacks c.in_ok-take_sign.ensures.is c.in_ok-take_sign.ensures.kind in let l1 = then_keep l0 c.in_ok-first.ensures.is c.in_ok-first.ensures.kind (omega arith) in let m1 = at_place (c.args.at + 2) (omega arith) l1 in let l2 = at_place (c.args.at + 3) (omega arith) (then_pass m1 c.in_ok-take_sign-2.ensures.is c.in_ok-take_sign-2.ensures.kind (omega arith)) in stop_all (λ ns. part.names ns) 8 c.in_err-others.field-0.0 (machine.items_wants grammar.of_vars 1) (machine.past sign.CloseParen 0 ∷ machine.make machine.more_params ∷ machine.keep kind.Ident 0 ∷ machine.type_end ∷ []) l2 (c.in_err-others.ensures grammar.of_vars 1 refl refl (omega arith)))

pub take_sign-requires-3 : goal.take_sign-requires-3
take_sign-requires-3 c = let d = c.in_ok-others.ensures grammar.of_vars 1 refl refl (omega arith) in d.within

pub returns-in_err-take_sign-3 : goal.returns-in_err-take_sign-3
returns-in_err-take_sign-3 c = let p = err_from_is_err_and c.from_residual-in_err-take_sign-3.result c.from_residual-in_err-take_sign-3.ensures.1 in rw (p.1, p.2) (let l0 = open_params c.requires.other c.in_default.ensures.lacks c.in_ok-take_sign.ensures.is c.in_ok-take_sign.ensures.kind in let l1 = then_keep l0 c.in_ok-first.ensures.is c.in_ok-first.ensures.kind (omega arith) in let m1 = at_place (c.args.at + 2) (omega arith) l1 in let l2 = at_place (c.args.at + 3) (omega arith) (then_pass m1 c.in_ok-take_sign-2.ensures.is c.in_ok-take_sign-2.ensures.kind (omega arith)) in let l3 = then_all (machine.items_wants grammar.of_vars 1) (machine.past sign.CloseParen 0 ∷ machine.make machine.more_params ∷ machine.keep kind.Ident 0 ∷ machine.type_end ∷ []) l2 (c.in_ok-others.ensures grammar.of_vars 1 refl refl (omega arith)) in stop_pass l3 c.in_err-take_sign-3.ensures.lacks c.in_err-take_sign-3.ensures.wrong)

pub returns : goal.returns
returns c = let l0 = open_params c.requires.other c.in_default.ensures.lacks c.in_ok-take_sign.ensures.is c.in_ok-take_sign.ensures.kind in let l1 = then_keep l0 c.in_ok-first.ensures.is c.in_ok-first.ensures.kind (omega arith) in let m1 = at_place (c.args.at + 2) (omega arith) l1 in let l2 = at_place (c.args.at + 3) (omega arith) (then_pass m1 c.in_ok-take_sign-2.ensures.is c.in_ok-take_sign-2.ensures.kind (omega arith)) in let l3 = then_all (machine.items_wants grammar.of_vars 1) (machine.past sign.CloseParen 0 ∷ machine.make machine.more_params ∷ machine.keep kind.Ident 0 ∷ machine.type_end ∷ []) l2 (c.in_ok-others.ensures grammar.of_vars 1 refl refl (omega arith)) in leads_to _ (then_make (part.names (part.span c.in_ok-first.first ∷ c.in_ok-others.others) ∷ []) (then_pass l3 c.in_ok-take_sign-3.ensures.is c.in_ok-take_sign-3.ensures.kind (omega arith)) (λ v. refl)) (ap (λ z. part.names z ∷ []) (c.in_ok-append.ensures ∙ ap (λ z. z ++ c.in_ok-others.others) (c.in_ok-push-2.ensures.ok ∙ ap (λ z. z ++ c.span-2.result ∷ []) c.new-found.ensures ∙ ap (λ z. z ∷ []) c.span-2.ensures)))
