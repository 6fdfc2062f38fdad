use Rattle.std.proofs.Common.{ap, refl, arith, [], ◌∷◌}
use Rattle.std.proofs.lemmas.Result.{err_from_is_err_and}
use Rattle.ae_lex.specs.declared.kinds.TokenKind.TheVariants as kind
use Rattle.ae_syntax.specs.Inner.Machine as machine
use Rattle.ae_syntax.specs.Parts as part
use Rattle.ae_syntax.proofs.ParserMeetsMachine.Decls.{halts_answer, start, then_keep, stop_keep, then_read, stop_read, then_make, finish}
use Rattle.ae_syntax.proofs.read_decls.read_predicate.Goals as goal

pub returns-in_err-name : goal.returns-in_err-name
returns-in_err-name c = let p = err_from_is_err_and c.from_residual.result c.from_residual.ensures.1 in rw (p.1, p.2) (let l0 = start (machine.keep kind.Ident 0 ∷ machine.predicate_head ∷ machine.an_expr 0 ∷ machine.make machine.be_predicate ∷ []) (part.token c.args.first ∷ []) c.args.tokens.now c.args.at c.requires.within in halts_answer (λ d. part.decl d) 8 (stop_keep l0 c.in_err-name.ensures.lacks c.in_err-name.ensures.wrong))

pub returns-in_err-formals : goal.returns-in_err-formals
returns-in_err-formals c = let p = err_from_is_err_and c.from_residual-in_err-formals.result c.from_residual-in_err-formals.ensures.1 in rw (p.1, p.2) (let l0 = start (machine.keep kind.Ident 0 ∷ machine.predicate_head ∷ machine.an_expr 0 ∷ machine.make machine.be_predicate ∷ []) (part.token c.args.first ∷ []) c.args.tokens.now c.args.at c.requires.within in let l1 = then_keep l0 c.in_ok-name.ensures.is c.in_ok-name.ensures.kind (omega arith) in halts_answer (λ d. part.decl d) 8 (stop_read (λ ns. part.typeds ns) 8 c.in_err-formals.field-0.0 l1 c.in_err-formals.ensures))

pub returns-in_err-body : goal.returns-in_err-body
returns-in_err-body c = let p = err_from_is_err_and c.from_residual-in_err-body.result c.from_residual-in_err-body.ensures.1 in rw (p.1, p.2) (let l0 = start (machine.keep kind.Ident 0 ∷ machine.predicate_head ∷ machine.an_expr 0 ∷ machine.make machine.be_predicate ∷ []) (part.token c.args.first ∷ []) c.args.tokens.now c.args.at c.requires.within in let l1 = then_keep l0 c.in_ok-name.ensures.is c.in_ok-name.ensures.kind (omega arith) in let l2 = then_read l1 c.in_ok-formals.ensures in halts_answer (λ d. part.decl d) 8 (stop_read (λ e. part.tree e) 1 c.in_err-body.field-0.0 l2 c.in_err-body.ensures))

pub returns : goal.returns
returns c = let l0 = start (machine.keep kind.Ident 0 ∷ machine.predicate_head ∷ machine.an_expr 0 ∷ machine.make machine.be_predicate ∷ []) (part.token c.args.first ∷ []) c.args.tokens.now c.args.at c.requires.within in let l1 = then_keep l0 c.in_ok-name.ensures.is c.in_ok-name.ensures.kind (omega arith) in let l2 = then_read l1 c.in_ok-formals.ensures in let l3 = then_read l2 c.in_ok-body.ensures in let l4 = then_make (part.decl (part.predicate_of c.args.first c.in_ok-name.name c.in_ok-formals.formals c.in_ok-body.body) ∷ []) l3 (λ v. refl) in finish (part.decl c.predicate_of.result) l4 (ap (λ z. part.decl z) c.predicate_of.ensures)
