use Rattle.std.proofs.Common.{ap, refl, [], ◌∷◌}
use Rattle.std.proofs.lemmas.Result.{err_from_is_err_and}
use Rattle.ae_syntax.specs.Parts as part
use Rattle.ae_syntax.proofs.ParserMeetsMachine.Decls.{halts_answer, then_read, stop_read, then_make, finish, prop_result, type_result}
use Rattle.ae_syntax.proofs.read_decls.read_result.Goals as goal

pub returns-in-Ok : goal.returns-in-Ok
returns-in-Ok c = finish (part.result c.prop_result.result) (prop_result c.in-Ok.ensures.is c.in-Ok.ensures.kind) (ap (λ z. part.result z) c.prop_result.ensures)

pub returns-in_err-sort : goal.returns-in_err-sort
returns-in_err-sort c = let p = err_from_is_err_and c.from_residual.result c.from_residual.ensures.1 in rw (p.1, p.2) (let l0 = type_result c.requires.within c.in_default.ensures.lacks in halts_answer (λ r. part.result r) 8 (stop_read (λ s. part.sort s) 8 c.in_err-sort.field-0.0 l0 c.in_err-sort.ensures))

pub returns : goal.returns
returns c = let l0 = type_result c.requires.within c.in_default.ensures.lacks in finish (part.result c.sort_result.result) (then_make (part.result (part.a_sort c.in_ok-sort.sort) ∷ []) (then_read l0 c.in_ok-sort.ensures) (λ v. refl)) (ap (λ z. part.result z) c.sort_result.ensures)
