use Rattle.std.proofs.Common.{ap, refl, [], ◌∷◌}
use Rattle.std.proofs.lemmas.Result.{err_from_is_err_and}
use Rattle.ae_syntax.specs.Inner.Machine as machine
use Rattle.ae_syntax.specs.Parts as part
use Rattle.ae_syntax.proofs.ParserMeetsMachine.Decls.{halts_answer, start, then_read, stop_read, then_make, finish}
use Rattle.ae_syntax.proofs.read_decls.read_range.Goals as goal

pub returns-in_err-range : goal.returns-in_err-range
returns-in_err-range c = let p = err_from_is_err_and c.from_residual.result c.from_residual.ensures.1 in rw (p.1, p.2) (let l0 = start (machine.a_result ∷ machine.make machine.be_symbols ∷ []) (part.sorts c.args.args ∷ part.names c.args.names ∷ part.flag c.args.ac ∷ part.token c.args.first ∷ []) c.args.tokens.now c.args.at c.requires.within in halts_answer (λ d. part.decl d) 8 (stop_read (λ r. part.result r) 8 c.in_err-range.field-0.0 l0 c.in_err-range.ensures))

pub returns : goal.returns
returns c = let l0 = start (machine.a_result ∷ machine.make machine.be_symbols ∷ []) (part.sorts c.args.args ∷ part.names c.args.names ∷ part.flag c.args.ac ∷ part.token c.args.first ∷ []) c.args.tokens.now c.args.at c.requires.within in let l1 = then_read l0 c.in_ok-range.ensures in let l2 = then_make (part.decl (part.logic_of c.args.first c.args.ac c.args.names c.args.args c.in_ok-range.range) ∷ []) l1 (λ v. refl) in finish (part.decl c.logic_of.result) l2 (ap (λ z. part.decl z) c.logic_of.ensures)
