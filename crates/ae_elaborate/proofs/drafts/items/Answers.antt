use Rattle.std.proofs.Common.{arith}
use Rattle.std.specs.Str.{IsUtf8}
use Rattle.std.proofs.lemmas.Option.{slice_get-get_or}
use Rattle.ae_base.proofs.AllOf.{all_at}
use Rattle.ae_declaration_typing.specs.declared.drafts.Draft as code
use Rattle.ae_elab.specs.Nodes.{entries_of}
use Rattle.ae_elab.specs.Scope.{name_in}
use Rattle.ae_types.specs.Bound.{bound}
use Rattle.ae_elaborate.proofs.DraftLaws.{item_next, items_end}
use Rattle.ae_elaborate.proofs.drafts.items.Goals as goal

pub item-requires : goal.item-requires
item-requires c =
    let ds = c.args.drafts.now in
    let i = c.loop-draft.draft-index in
    all_at (λ (z : code.Draft). IsUtf8 (name_in c.args.text.now z.name)) ds i _ c.requires (slice_get-get_or ds i _ c.loop-draft-test.true)

pub loop-draft-preserved : goal.loop-draft-preserved
loop-draft-preserved c =
    item_next c.args.text.now (bound c.args.bindings.now) (entries_of c.args.nodes.now) c.args.drafts.now c.loop-draft.all _ c.in_ok-next.next c.loop-draft.draft-index _
    c.loop-draft-test.true c.loop-draft.invariant c.in_ok-next.ensures c.in_ok-push.ensures.ok

pub returns : goal.returns
returns c =
    items_end c.args.text.now (bound c.args.bindings.now) (entries_of c.args.nodes.now) c.args.drafts.now c.loop-draft.all c.loop-draft.draft-index
    (omega (arith, c.loop-draft-test.false)) c.loop-draft.invariant
