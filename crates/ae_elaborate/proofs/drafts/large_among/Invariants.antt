use Rattle.std.proofs.Common.{◌≡◌, ℕ, List, drop, map}
use Rattle.ae_core.specs.declared.terms.Sort.{Sort}
use Rattle.ae_elab.specs.Conditions.{shown}
use Rattle.ae_elab.specs.Nodes.{Entry}
use Rattle.ae_elaborate.specs.Inner.Typed.{large_place}
use Rattle.ae_file_typing.specs.Files.{drafts_at}
use Rattle.ae_sizes.specs.Small.{is_small_entry}
use Rattle.ae_elaborate.proofs.drafts.large_among.Given as goal

abbrev pub invariant-loop-draft : goal.invariant-loop-draft
invariant-loop-draft l =
    (text : List ℕ) (m : ℕ → Sort) (es : List Entry) → l.small ≡ map (is_small_entry m) es
    → large_place (shown m) (drafts_at text es (drop l.draft-index l.drafts)) ≡ large_place (shown m) (drafts_at text es l.drafts)
