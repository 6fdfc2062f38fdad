use Rattle.std.proofs.Common.{ap, refl, [], ◌∷◌}
use Rattle.std.proofs.lemmas.Result.{err_from_is_err_and}
use Rattle.ae_syntax.specs.Inner.Machine as machine
use Rattle.ae_syntax.specs.Parts as part
use Rattle.ae_syntax.proofs.ParserMeetsMachine.Decls.{halts_answer, leads_first, halts_before, then_make, finish}
use Rattle.ae_syntax.proofs.read_decls.read_axiom.Goals as goal

pub returns-in_err-name : goal.returns-in_err-name
returns-in_err-name c = let p = err_from_is_err_and c.from_residual.result c.from_residual.ensures.1 in rw (p.1, p.2) (halts_answer (λ d. part.decl d) 8 (halts_before (machine.make machine.be_axiom ∷ []) (part.token c.args.first ∷ []) c.in_err-name.ensures))

pub returns : goal.returns
returns c = finish (part.decl c.axiom_of.result) (then_make (part.decl (part.axiom_of c.args.first c.in_ok-name.name c.in_ok-name.body) ∷ []) (leads_first (machine.make machine.be_axiom ∷ []) (part.token c.args.first ∷ []) c.in_ok-name.ensures) (λ v. refl)) (ap (λ z. part.decl z) c.axiom_of.ensures)
