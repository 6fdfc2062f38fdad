use Rattle.std.proofs.Common.{◌∙◌, List, [], ◌∷◌, ◌++◌, length, sym, ap, subst}
use Rattle.std.specs.List.{AllByRecursion}
use Rattle.ae_elab.specs.Environments.{IsMeaning, entries, locals, locals_inside}
use Rattle.ae_elab.specs.Nodes.{Entry, entry_of, entries_of}
use Rattle.ae_elab.proofs.NodeLaws.{entries_more, entries_long}
use Rattle.ae_elab.proofs.LocalLaws.{still_meanings, same_locals}
use Rattle.ae_elab.proofs.environment.Environment.push.Goals as goal

pub invariant_of-self-2 : goal.invariant_of-self-2
invariant_of-self-2 c =
    let ns = c.self.inside.nodes in
    let e = entry_of (entries_of ns) c.args.node in
    subst (λ (es : List Entry). AllByRecursion (λ l. IsMeaning es l.meaning) c.self.inside.locals)
    (sym (ap entries_of c.in_ok-push.ensures.ok ∙ entries_more [] ns c.args.node))
    (still_meanings (entries_of ns) (e ∷ []) c.self.inside.locals c.self.invariant)

pub returns-clause-place : goal.returns-clause-place
returns-clause-place c =
    c.len-place.ensures ∙ sym (entries_long c.self.inside.nodes) ∙ ap (λ b. length (entries b)) c.self.view_is

pub returns-clause-nodes : goal.returns-clause-nodes
returns-clause-nodes c =
    ap entries_of c.in_ok-push.ensures.ok ∙ entries_more [] c.self.inside.nodes c.args.node
    ∙ ap (λ b. entries b ++ entry_of (entries b) c.args.node ∷ []) c.self.view_is

pub returns-clause-locals : goal.returns-clause-locals
returns-clause-locals c =
    let ns = c.self.inside.nodes in
    ap (λ es. locals_inside es [] c.self.inside.locals) (ap entries_of c.in_ok-push.ensures.ok ∙ entries_more [] ns c.args.node)
    ∙ same_locals (entries_of ns) (entry_of (entries_of ns) c.args.node ∷ []) [] c.self.inside.locals c.self.invariant
    ∙ ap locals c.self.view_is
