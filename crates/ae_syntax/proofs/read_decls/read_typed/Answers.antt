use Rattle.std.proofs.Common.{ap, refl, arith, [], ◌∷◌, ◌+◌}
use Rattle.std.proofs.lemmas.Result.{err_from_is_err_and}
use Rattle.ae_syntax.specs.Inner.Machine as machine
use Rattle.ae_syntax.specs.Parts as part
use Rattle.ae_syntax.proofs.ParserMeetsMachine.Decls.{halts_answer, start, at_place, then_keep, stop_keep, then_pass, stop_pass, then_read, stop_read, then_make, finish}
use Rattle.ae_syntax.proofs.read_decls.read_typed.Goals as goal

pub returns-in_err-name : goal.returns-in_err-name
returns-in_err-name c = let p = err_from_is_err_and c.from_residual.result c.from_residual.ensures.1 in rw (p.1, p.2) (let l0 = start (machine.typed_wants c.args.depth) ([]) c.args.tokens.now c.args.at c.requires.within in halts_answer (λ n. part.typed n) 8 (stop_keep l0 c.in_err-name.ensures.lacks c.in_err-name.ensures.wrong))

pub returns-in_err-take_sign : goal.returns-in_err-take_sign
returns-in_err-take_sign c = let p = err_from_is_err_and c.from_residual-in_err-take_sign.result c.from_residual-in_err-take_sign.ensures.1 in rw (p.1, p.2) (let l0 = start (machine.typed_wants c.args.depth) ([]) c.args.tokens.now c.args.at c.requires.within in let l1 = then_keep l0 c.in_ok-name.ensures.is c.in_ok-name.ensures.kind c.requires.shallow in halts_answer (λ n. part.typed n) 8 (stop_pass l1 c.in_err-take_sign.ensures.lacks c.in_err-take_sign.ensures.wrong))

pub returns-in_err-sort : goal.returns-in_err-sort
returns-in_err-sort c = let p = err_from_is_err_and c.from_residual-in_err-sort.result c.from_residual-in_err-sort.ensures.1 in rw (p.1, p.2) (let l0 = start (machine.typed_wants c.args.depth) ([]) c.args.tokens.now c.args.at c.requires.within in let l1 = then_keep l0 c.in_ok-name.ensures.is c.in_ok-name.ensures.kind c.requires.shallow in let l2 = then_pass l1 c.in_ok-take_sign.ensures.is c.in_ok-take_sign.ensures.kind c.requires.shallow in let l3 = at_place (c.args.at + 2) (omega arith) l2 in halts_answer (λ n. part.typed n) 8 (stop_read (λ s. part.sort s) 8 c.in_err-sort.field-0.0 l3 c.in_err-sort.ensures))

pub returns : goal.returns
returns c = let l0 = start (machine.typed_wants c.args.depth) ([]) c.args.tokens.now c.args.at c.requires.within in let l1 = then_keep l0 c.in_ok-name.ensures.is c.in_ok-name.ensures.kind c.requires.shallow in let l2 = then_pass l1 c.in_ok-take_sign.ensures.is c.in_ok-take_sign.ensures.kind c.requires.shallow in let l3 = at_place (c.args.at + 2) (omega arith) l2 in let l4 = then_read l3 c.in_ok-sort.ensures in let l5 = then_make (part.typed (part.typed_name c.in_ok-name.name c.in_ok-sort.sort) ∷ []) l4 (λ v. refl) in finish (part.typed c.typed_name.result) l5 (ap (λ z. part.typed z) c.typed_name.ensures)
