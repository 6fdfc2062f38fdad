use Rattle.std.proofs.Common.{Option, Some, [], sym, subst}
use Rattle.ae_syntax.specs.declared.types.WrittenType.{WrittenType}
use Rattle.ae_elab.specs.Declarations.{result_rule}
use Rattle.ae_elab.specs.Steps.{IsTaken, IsHalted}
use Rattle.ae_elab.proofs.TypeRules.{result_taken, result_halts}
use Rattle.ae_elab.proofs.written_types.result_of.Goals as goal

pub returns-in-Ok-clause-sort : goal.returns-in-Ok-clause-sort
returns-in-Ok-clause-sort c =
    subst (λ (o : Option WrittenType). IsTaken (result_rule c.args.text.now c.args.known.now o) c.args.passing.now c.sort_of.new.passing (Some c.in-Ok.sort)) (sym c.in-Some.is)
    (result_taken c.args.text.now c.args.known.now c.in-Some.value c.args.passing.now c.sort_of.new.passing c.in-Ok.sort (c.in-Ok.ensures.sort []))

pub returns-in-Err-clause-fault : goal.returns-in-Err-clause-fault
returns-in-Err-clause-fault c =
    subst (λ (o : Option WrittenType). IsHalted (result_rule c.args.text.now c.args.known.now o) c.args.passing.now c.in-Err.fault) (sym c.in-Some.is)
    (result_halts c.args.text.now c.args.known.now c.in-Some.value c.args.passing.now c.in-Err.fault (c.in-Err.ensures.fault []))
