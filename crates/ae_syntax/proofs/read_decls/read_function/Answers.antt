use Rattle.std.proofs.Common.{ap, refl, arith, [], ◌∷◌, ◌+◌}
use Rattle.std.proofs.lemmas.Result.{err_from_is_err_and}
use Rattle.ae_lex.specs.declared.kinds.TokenKind.TheVariants as kind
use Rattle.ae_lex.specs.declared.kinds.Sign.TheVariants as sign
use Rattle.ae_syntax.specs.Inner.Machine as machine
use Rattle.ae_syntax.specs.Parts as part
use Rattle.ae_syntax.proofs.ParserMeetsMachine.Decls.{halts_answer, start, at_place, then_keep, stop_keep, then_pass, stop_pass, then_read, stop_read, then_make, finish}
use Rattle.ae_syntax.proofs.read_decls.read_function.Goals as goal

pub returns-in_err-name : goal.returns-in_err-name
returns-in_err-name c = let p = err_from_is_err_and c.from_residual.result c.from_residual.ensures.1 in rw (p.1, p.2) (let l0 = start (machine.keep kind.Ident 0 ∷ machine.past sign.OpenParen 1 ∷ machine.formals_end ∷ machine.past sign.Colon 0 ∷ machine.a_type 0 ∷ machine.past sign.Equal 0 ∷ machine.an_expr 0 ∷ machine.make machine.be_function ∷ []) (part.token c.args.first ∷ []) c.args.tokens.now c.args.at c.requires.within in halts_answer (λ d. part.decl d) 8 (stop_keep l0 c.in_err-name.ensures.lacks c.in_err-name.ensures.wrong))

pub returns-in_err-take_sign : goal.returns-in_err-take_sign
returns-in_err-take_sign c = let p = err_from_is_err_and c.from_residual-in_err-take_sign.result c.from_residual-in_err-take_sign.ensures.1 in rw (p.1, p.2) (let l0 = start (machine.keep kind.Ident 0 ∷ machine.past sign.OpenParen 1 ∷ machine.formals_end ∷ machine.past sign.Colon 0 ∷ machine.a_type 0 ∷ machine.past sign.Equal 0 ∷ machine.an_expr 0 ∷ machine.make machine.be_function ∷ []) (part.token c.args.first ∷ []) c.args.tokens.now c.args.at c.requires.within in let l1 = then_keep l0 c.in_ok-name.ensures.is c.in_ok-name.ensures.kind (omega arith) in halts_answer (λ d. part.decl d) 8 (stop_pass l1 c.in_err-take_sign.ensures.lacks c.in_err-take_sign.ensures.wrong))

pub returns-in_err-formals : goal.returns-in_err-formals
returns-in_err-formals c = let p = err_from_is_err_and c.from_residual-in_err-formals.result c.from_residual-in_err-formals.ensures.1 in rw (p.1, p.2) (let l0 = start (machine.keep kind.Ident 0 ∷ machine.past sign.OpenParen 1 ∷ machine.formals_end ∷ machine.past sign.Colon 0 ∷ machine.a_type 0 ∷ machine.past sign.Equal 0 ∷ machine.an_expr 0 ∷ machine.make machine.be_function ∷ []) (part.token c.args.first ∷ []) c.args.tokens.now c.args.at c.requires.within in let l1 = then_keep l0 c.in_ok-name.ensures.is c.in_ok-name.ensures.kind (omega arith) in let l2 = then_pass l1 c.in_ok-take_sign.ensures.is c.in_ok-take_sign.ensures.kind (omega arith) in let l3 = at_place (c.args.at + 2) (omega arith) l2 in halts_answer (λ d. part.decl d) 8 (stop_read (λ ns. part.typeds ns) 8 c.in_err-formals.field-0.0 l3 c.in_err-formals.ensures))

pub returns-in_err-take_sign-2 : goal.returns-in_err-take_sign-2
returns-in_err-take_sign-2 c = let p = err_from_is_err_and c.from_residual-in_err-take_sign-2.result c.from_residual-in_err-take_sign-2.ensures.1 in rw (p.1, p.2) (let l0 = start (machine.keep kind.Ident 0 ∷ machine.past sign.OpenParen 1 ∷ machine.formals_end ∷ machine.past sign.Colon 0 ∷ machine.a_type 0 ∷ machine.past sign.Equal 0 ∷ machine.an_expr 0 ∷ machine.make machine.be_function ∷ []) (part.token c.args.first ∷ []) c.args.tokens.now c.args.at c.requires.within in let l1 = then_keep l0 c.in_ok-name.ensures.is c.in_ok-name.ensures.kind (omega arith) in let l2 = then_pass l1 c.in_ok-take_sign.ensures.is c.in_ok-take_sign.ensures.kind (omega arith) in let l3 = at_place (c.args.at + 2) (omega arith) l2 in let l4 = then_read l3 c.in_ok-formals.ensures in halts_answer (λ d. part.decl d) 8 (stop_pass l4 c.in_err-take_sign-2.ensures.lacks c.in_err-take_sign-2.ensures.wrong))

pub returns-in_err-sort : goal.returns-in_err-sort
returns-in_err-sort c = let p = err_from_is_err_and c.from_residual-in_err-sort.result c.from_residual-in_err-sort.ensures.1 in rw (p.1, p.2) (let l0 = start (machine.keep kind.Ident 0 ∷ machine.past sign.OpenParen 1 ∷ machine.formals_end ∷ machine.past sign.Colon 0 ∷ machine.a_type 0 ∷ machine.past sign.Equal 0 ∷ machine.an_expr 0 ∷ machine.make machine.be_function ∷ []) (part.token c.args.first ∷ []) c.args.tokens.now c.args.at c.requires.within in let l1 = then_keep l0 c.in_ok-name.ensures.is c.in_ok-name.ensures.kind (omega arith) in let l2 = then_pass l1 c.in_ok-take_sign.ensures.is c.in_ok-take_sign.ensures.kind (omega arith) in let l3 = at_place (c.args.at + 2) (omega arith) l2 in let l4 = then_read l3 c.in_ok-formals.ensures in let l5 = then_pass l4 c.in_ok-take_sign-2.ensures.is c.in_ok-take_sign-2.ensures.kind (omega arith) in halts_answer (λ d. part.decl d) 8 (stop_read (λ s. part.sort s) 8 c.in_err-sort.field-0.0 l5 c.in_err-sort.ensures))

pub returns-in_err-take_sign-3 : goal.returns-in_err-take_sign-3
returns-in_err-take_sign-3 c = let p = err_from_is_err_and c.from_residual-in_err-take_sign-3.result c.from_residual-in_err-take_sign-3.ensures.1 in rw (p.1, p.2) (let l0 = start (machine.keep kind.Ident 0 ∷ machine.past sign.OpenParen 1 ∷ machine.formals_end ∷ machine.past sign.Colon 0 ∷ machine.a_type 0 ∷ machine.past sign.Equal 0 ∷ machine.an_expr 0 ∷ machine.make machine.be_function ∷ []) (part.token c.args.first ∷ []) c.args.tokens.now c.args.at c.requires.within in let l1 = then_keep l0 c.in_ok-name.ensures.is c.in_ok-name.ensures.kind (omega arith) in let l2 = then_pass l1 c.in_ok-take_sign.ensures.is c.in_ok-take_sign.ensures.kind (omega arith) in let l3 = at_place (c.args.at + 2) (omega arith) l2 in let l4 = then_read l3 c.in_ok-formals.ensures in let l5 = then_pass l4 c.in_ok-take_sign-2.ensures.is c.in_ok-take_sign-2.ensures.kind (omega arith) in let l6 = then_read l5 c.in_ok-sort.ensures in halts_answer (λ d. part.decl d) 8 (stop_pass l6 c.in_err-take_sign-3.ensures.lacks c.in_err-take_sign-3.ensures.wrong))

pub returns-in_err-body : goal.returns-in_err-body
returns-in_err-body c = let p = err_from_is_err_and c.from_residual-in_err-body.result c.from_residual-in_err-body.ensures.1 in rw (p.1, p.2) (let l0 = start (machine.keep kind.Ident 0 ∷ machine.past sign.OpenParen 1 ∷ machine.formals_end ∷ machine.past sign.Colon 0 ∷ machine.a_type 0 ∷ machine.past sign.Equal 0 ∷ machine.an_expr 0 ∷ machine.make machine.be_function ∷ []) (part.token c.args.first ∷ []) c.args.tokens.now c.args.at c.requires.within in let l1 = then_keep l0 c.in_ok-name.ensures.is c.in_ok-name.ensures.kind (omega arith) in let l2 = then_pass l1 c.in_ok-take_sign.ensures.is c.in_ok-take_sign.ensures.kind (omega arith) in let l3 = at_place (c.args.at + 2) (omega arith) l2 in let l4 = then_read l3 c.in_ok-formals.ensures in let l5 = then_pass l4 c.in_ok-take_sign-2.ensures.is c.in_ok-take_sign-2.ensures.kind (omega arith) in let l6 = then_read l5 c.in_ok-sort.ensures in let l7 = then_pass l6 c.in_ok-take_sign-3.ensures.is c.in_ok-take_sign-3.ensures.kind (omega arith) in halts_answer (λ d. part.decl d) 8 (stop_read (λ e. part.tree e) 1 c.in_err-body.field-0.0 l7 c.in_err-body.ensures))

pub returns : goal.returns
returns c = let l0 = start (machine.keep kind.Ident 0 ∷ machine.past sign.OpenParen 1 ∷ machine.formals_end ∷ machine.past sign.Colon 0 ∷ machine.a_type 0 ∷ machine.past sign.Equal 0 ∷ machine.an_expr 0 ∷ machine.make machine.be_function ∷ []) (part.token c.args.first ∷ []) c.args.tokens.now c.args.at c.requires.within in let l1 = then_keep l0 c.in_ok-name.ensures.is c.in_ok-name.ensures.kind (omega arith) in let l2 = then_pass l1 c.in_ok-take_sign.ensures.is c.in_ok-take_sign.ensures.kind (omega arith) in let l3 = at_place (c.args.at + 2) (omega arith) l2 in let l4 = then_read l3 c.in_ok-formals.ensures in let l5 = then_pass l4 c.in_ok-take_sign-2.ensures.is c.in_ok-take_sign-2.ensures.kind (omega arith) in let l6 = then_read l5 c.in_ok-sort.ensures in let l7 = then_pass l6 c.in_ok-take_sign-3.ensures.is c.in_ok-take_sign-3.ensures.kind (omega arith) in let l8 = then_read l7 c.in_ok-body.ensures in let l9 = then_make (part.decl (part.function_of c.args.first c.in_ok-name.name c.in_ok-formals.formals c.in_ok-sort.sort c.in_ok-body.body) ∷ []) l8 (λ v. refl) in finish (part.decl c.function_of.result) l9 (ap (λ z. part.decl z) c.function_of.ensures)
