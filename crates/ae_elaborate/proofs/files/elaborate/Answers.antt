use Rattle.std.proofs.lemmas.Result.{IfOk-weaker, IfErr-weaker}
use Rattle.ae_elab.specs.Problems.{IsTyped}
use Rattle.ae_elab.specs.Typings.{nodes_of}
use Rattle.ae_elaborate.specs.Faults.{IsFault}
use Rattle.ae_elaborate.specs.Inner.Typed.{IsLarge, IsProblemOf}
use Rattle.ae_elaborate.proofs.DraftNames.{drafts_named}
use Rattle.ae_elaborate.proofs.ElaborateLaws.{has_fault, has_problem}
use Rattle.ae_elaborate.proofs.files.elaborate.Goals as goal

pub problem-requires : goal.problem-requires
problem-requires c =
    let t = c.in-Ok.typed in
    drafts_named c.args.text.now c.args.file.now (nodes_of t.typing) t.drafts c.in-Ok.ensures.drafts c.requires.names

pub returns-in-Ok-clause-problem : goal.returns-in-Ok-clause-problem
returns-in-Ok-clause-problem c =
    let t = c.in-Ok.typed in
    let text = c.args.text.now in
    let file = c.args.file.now in
    let e = c.in-Ok.ensures in
    IfOk-weaker c.problem.result (IsProblemOf text t) (IsTyped text file) (has_problem text file t e.principal e.drafts e.signature) c.problem.ensures.problem

pub returns-in-Ok-clause-fault : goal.returns-in-Ok-clause-fault
returns-in-Ok-clause-fault c =
    let t = c.in-Ok.typed in
    let text = c.args.text.now in
    let file = c.args.file.now in
    let e = c.in-Ok.ensures in
    IfErr-weaker c.problem.result (IsLarge text t) (IsFault text file) (has_fault text file t e.principal e.drafts) c.problem.ensures.large

pub returns-in-Err-clause-fault : goal.returns-in-Err-clause-fault
returns-in-Err-clause-fault c = c.untyped.ensures c.args.text.now c.args.file.now c.in-Err.ensures.fault
