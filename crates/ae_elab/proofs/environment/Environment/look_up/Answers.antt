use Rattle.std.proofs.Common.{[], sym, subst}
use Rattle.std.specs.List.{AllByRecursion}
use Rattle.std.proofs.lemmas.Result.{IfOk-weaker}
use Rattle.ae_elab.specs.Environments.{IsMeaning, Finds, FindsAmong, entries, locals, locals_inside}
use Rattle.ae_elab.specs.Nodes.{entries_of}
use Rattle.ae_elab.proofs.environment.Environment.look_up.Goals as goal

pub returns : goal.returns
returns c =
    let es = entries_of c.self.inside.nodes in
    let name = c.args.name.now in
    IfOk-weaker c.find.result _ (Finds c.args.self.now name)
    (λ o h. subst (λ b. FindsAmong (entries b) (locals b) name o) c.self.view_is
    (subst (λ ls. FindsAmong es (locals_inside es [] ls) name o) c.as_slice.ensures
    (h es (subst (AllByRecursion (λ l. IsMeaning es l.meaning)) (sym c.as_slice.ensures) c.self.invariant))))
    c.find.ensures
