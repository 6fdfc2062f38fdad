use Rattle.std.proofs.Common.{◌≡◌, true, take}
use Rattle.std.specs.List.{list_all}
use Rattle.ae_counts.specs.Inner.Counted as spec
use Rattle.ae_counts.proofs.stories.lines_count.Given as goal

abbrev pub invariant-loop-line : goal.invariant-loop-line
invariant-loop-line l = list_all spec.story_line_counts (take l.line-index l.lines) ≡ true
