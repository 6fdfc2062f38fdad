use Rattle.std.proofs.Common.{IfErr, OnOk, Result, subst}
use Rattle.ae_types.specs.Bound.{bound}
use Rattle.ae_elab.specs.declared.faults.TypeFault.{TypeFault}
use Rattle.ae_elab.specs.Declarations.{only_declared}
use Rattle.ae_elab.specs.Steps.{IsHalted, IsTaken}
use Rattle.ae_file_typing.proofs.KindLaws.{declares_none}
use Rattle.ae_file_typing.proofs.declarations.no_draft.Goals as goal

pub returns-in-Ok : goal.returns-in-Ok
returns-in-Ok c text r sig old q bare taken halted =
    declares_none text r sig old q bare (subst (λ (z : Result (Unit {0}) TypeFault). OnOk z (IsTaken r old.passing q (only_declared sig))) c.in-Ok.is taken (bound old.bindings))

pub returns-in-Err : goal.returns-in-Err
returns-in-Err c text r sig old q bare taken halted =
    subst (λ (z : Result (Unit {0}) TypeFault). IfErr z (IsHalted r old.passing)) c.in-Err.is halted (bound old.bindings)
