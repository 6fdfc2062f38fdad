use Rattle.std.specs.Prelude.{◌-◌, length}
use Rattle.ae_rules.specs.Lines.{fields_from}
use Rattle.ae_store.specs.Shapes.{shapes}
use Rattle.ae_store.specs.Terms.{terms, named}
use Rattle.ae_patterns.specs.Patterns.{ArePatternsOf}
use Rattle.ae_patterns.proofs.patterns.+pattern.Given as goal

abbrev pub decreases-pattern : goal.decreases-pattern
decreases-pattern l = length l.store.now.nodes - l.name

abbrev pub invariant-loop-place : goal.invariant-loop-place
invariant-loop-place l = ArePatternsOf l.store.signature (terms (shapes l.store.nodes)) (fields_from l.head l.args (named (terms (shapes l.store.nodes)) l.name) 0 l.place) l.fields
