use Rattle.std.proofs.Common.{ap, refl, arith, [], ◌∷◌}
use Rattle.std.proofs.lemmas.Result.{err_from_is_err_and}
use Rattle.ae_lex.specs.declared.kinds.Sign.TheVariants as sign
use Rattle.ae_syntax.specs.Grammar as grammar
use Rattle.ae_syntax.specs.Inner.Machine as machine
use Rattle.ae_syntax.specs.Parts as part
use Rattle.ae_syntax.proofs.ParserMeetsMachine.Decls.{halts_answer, start, then_keep, stop_keep, then_make, finish, then_all, stop_all}
use Rattle.ae_syntax.proofs.read_decls.read_fields.Goals as goal

pub returns-in_err-fields : goal.returns-in_err-fields
returns-in_err-fields c = let p = err_from_is_err_and c.from_residual.result c.from_residual.ensures.1 in rw (p.1, p.2) (let l0 = start (machine.record_wants) (part.token c.args.name ∷ part.names c.args.params ∷ part.token c.args.first ∷ []) c.args.tokens.now c.args.at c.requires.within in halts_answer (λ d. part.decl d) 8 (stop_all (λ ns. part.typeds ns) 8 c.in_err-fields.field-0.0 (machine.items_wants grammar.of_fields 1) (machine.kept sign.CloseBrace 0 ∷ machine.make machine.be_record ∷ []) l0 (c.in_err-fields.ensures grammar.of_fields refl refl)))

pub returns-in_err-close : goal.returns-in_err-close
returns-in_err-close c = let p = err_from_is_err_and c.from_residual-in_err-close.result c.from_residual-in_err-close.ensures.1 in rw (p.1, p.2) (let l0 = start (machine.record_wants) (part.token c.args.name ∷ part.names c.args.params ∷ part.token c.args.first ∷ []) c.args.tokens.now c.args.at c.requires.within in let l1 = then_all (machine.items_wants grammar.of_fields 1) (machine.kept sign.CloseBrace 0 ∷ machine.make machine.be_record ∷ []) l0 (c.in_ok-fields.ensures grammar.of_fields refl refl) in halts_answer (λ d. part.decl d) 8 (stop_keep l1 c.in_err-close.ensures.lacks c.in_err-close.ensures.wrong))

pub returns : goal.returns
returns c = let l0 = start (machine.record_wants) (part.token c.args.name ∷ part.names c.args.params ∷ part.token c.args.first ∷ []) c.args.tokens.now c.args.at c.requires.within in let l1 = then_all (machine.items_wants grammar.of_fields 1) (machine.kept sign.CloseBrace 0 ∷ machine.make machine.be_record ∷ []) l0 (c.in_ok-fields.ensures grammar.of_fields refl refl) in let l2 = then_keep l1 c.in_ok-close.ensures.is c.in_ok-close.ensures.kind (omega arith) in let l3 = then_make (part.decl (part.record_type c.args.first c.args.params c.args.name c.in_ok-fields.fields c.in_ok-close.close) ∷ []) l2 (λ v. refl) in finish (part.decl c.record_type.result) l3 (ap (λ z. part.decl z) c.record_type.ensures)

pub take_sign-requires : goal.take_sign-requires
take_sign-requires c = let d = c.in_ok-fields.ensures grammar.of_fields refl refl in d.within
