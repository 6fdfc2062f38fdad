use Rattle.std.proofs.Common.{◌≡◌, arith, sym, subst, length}
use Rattle.ae_check.specs.Inner.Coding.{number_in, IsTable, unstamped}
use Rattle.ae_check.proofs.Numbering.{given_table, given_kept}
use Rattle.ae_check.proofs.codes.give_number.Goals as goal

pub returns-in-Ok-clause-table : goal.returns-in-Ok-clause-table
returns-in-Ok-clause-table c =
    let old = number_in c.args.table.now.numbers.entries in let new = number_in c.insert.new.self.entries in let stamps = c.args.table.now.stamps.items in
    let size = c.args.table.now.stamps.ok.0 in let n = c.len-number.result in
    let long : n ≡ length stamps = omega arith in
    subst (IsTable new) (sym c.in_ok-push.ensures.items)
    (given_table c.args.formula.now c.in_ok-copy.copy n old new c.in_ok-copy.ensures c.in-Ok.ensures.updates.0 stamps unstamped long c.requires.table c.requires.new)

pub returns-in-Ok-clause-kept : goal.returns-in-Ok-clause-kept
returns-in-Ok-clause-kept c =
    let old = number_in c.args.table.now.numbers.entries in let new = number_in c.insert.new.self.entries in let stamps = c.args.table.now.stamps.items in
    let size = c.args.table.now.stamps.ok.0 in let n = c.len-number.result in
    let long : n ≡ length stamps = omega arith in
    given_kept c.args.formula.now c.in_ok-copy.copy n old new c.in_ok-copy.ensures c.in-Ok.ensures.updates.0 stamps unstamped long c.requires.table c.requires.new
