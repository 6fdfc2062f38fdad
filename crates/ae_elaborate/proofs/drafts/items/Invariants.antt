use Rattle.std.proofs.Common.{◌≡◌, map, take}
use Rattle.ae_elab.specs.Nodes.{entries_of}
use Rattle.ae_elab.specs.Problems.{item_of}
use Rattle.ae_file_typing.specs.Files.{drafts_at}
use Rattle.ae_types.specs.Bound.{bound}
use Rattle.ae_elaborate.proofs.drafts.items.Given as goal

abbrev pub invariant-loop-draft : goal.invariant-loop-draft
invariant-loop-draft l = l.all ≡ map (item_of (bound l.bindings)) (drafts_at l.text (entries_of l.nodes) (take l.draft-index l.drafts))
