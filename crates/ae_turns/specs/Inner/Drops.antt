-- Lines that drop rules, of which the first ones are noted.
use Rattle.std.specs.Prelude.{ℕ, List, ◌++◌, ◌≡◌, map, take}
use Rattle.ae_journal.specs.Noted.{Noted}
use Rattle.ae_journal.specs.declared.systems.RuleEntry.{RuleEntry}
use Rattle.ae_rule_passes.specs.Passes.{drop_line}

pub record IsDropNoted (before after : Noted) (rules : List RuleEntry) : Type 0 where
  pub many : ℕ
  pub is : after ≡ record before { lines = before.lines ++ map drop_line (take many rules) }
