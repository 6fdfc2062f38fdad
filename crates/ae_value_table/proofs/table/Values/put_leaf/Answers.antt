use Rattle.std.specs.Prelude.{[]}
use Rattle.std.proofs.Common.{sym, subst}
use Rattle.std.proofs.lemmas.List.{append-nil}
use Rattle.ae_value_table.specs.Table.{Contents}
use Rattle.ae_value_table.specs.Versions.{Lasts}
use Rattle.ae_value_table.proofs.Versioning.{lasts_by}
use Rattle.ae_value_table.proofs.table.Values.put_leaf.Goals as goal

pub returns-clause-lasts : goal.returns-clause-lasts
returns-clause-lasts c =
    let old : Contents = record { entries = c.self.inside.entries; taken = c.self.inside.taken; rows = c.self.inside.rows; leaves = c.self.inside.leaves; justs = c.self.inside.justs } in
    let new : Contents = record { entries = c.self.inside.entries; taken = c.self.inside.taken; rows = c.self.inside.rows; leaves = c.insert.new.self; justs = c.self.inside.justs } in
    subst (λ (r : Contents). Lasts r new) c.self.view_is (lasts_by old new (λ shared rows s. s) c.insert.ensures.lasts (λ root m s. s) [] (sym (append-nil c.self.inside.entries)))
