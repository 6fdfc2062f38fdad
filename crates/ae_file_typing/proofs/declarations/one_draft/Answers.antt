use Rattle.std.proofs.Common.{Result, subst}
use Rattle.ae_declaration_typing.specs.declared.drafts.Draft as code
use Rattle.ae_declaration_typing.specs.Drafts.{DraftAnswer}
use Rattle.ae_elab.specs.declared.faults.TypeFault.{TypeFault}
use Rattle.ae_file_typing.proofs.KindLaws.{declares_one}
use Rattle.ae_file_typing.proofs.declarations.one_draft.Goals as goal

pub returns-in-Ok : goal.returns-in-Ok
returns-in-Ok c text r sig old new a = declares_one text r sig old new c.in-Ok.draft (subst (λ (z : Result code.Draft TypeFault). DraftAnswer text r sig old new z) c.in-Ok.is a)

pub returns-in-Err : goal.returns-in-Err
returns-in-Err c text r sig old new a = subst (λ (z : Result code.Draft TypeFault). DraftAnswer text r sig old new z) c.in-Err.is a
