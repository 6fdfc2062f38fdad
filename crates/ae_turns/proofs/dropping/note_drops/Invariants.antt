use Rattle.std.specs.Prelude.{◌≡◌, ◌++◌, map, take}
use Rattle.ae_rule_changes.specs.Entries.{entry_of}
use Rattle.ae_rule_passes.specs.Passes.{drop_line}
use Rattle.ae_turns.proofs.dropping.note_drops.Given as goal

abbrev pub invariant-loop-pair : goal.invariant-loop-pair
invariant-loop-pair l = l.journal ≡ record l.initial.journal { lines = l.initial.journal.lines ++ map drop_line (take l.pair-index (map entry_of l.pairs)) }
