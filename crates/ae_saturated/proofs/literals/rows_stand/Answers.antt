use Rattle.std.proofs.Common.{rules, arith, suc, ◌+◌, ◌≡◌, true, sym, ap, ◌∙◌}
use Rattle.std.proofs.lemmas.Bool.{and_from}
use Rattle.ae_rules.specs.Clauses.{row}
use Rattle.ae_saturated.specs.Literals.{some_stands, rows_stand}
use Rattle.ae_saturated.proofs.LiteralTests.{more_rows}
use Rattle.ae_saturated.proofs.literals.rows_stand.Goals as goal

pub loop-number-preserved : goal.loop-number-preserved
loop-number-preserved c =
    let ls = c.args.literals.now in
    let f = c.args.formula.now in
    let r = c.loop-number.number in
    let yes : c.in_ok-row_stands.field-0 ≡ true = search rules in
    let next : r + 1 ≡ suc r = omega arith in
    ap (rows_stand ls f) next ∙ more_rows ls f r ∙ and_from (some_stands ls (row r f)) (rows_stand ls f r) (sym c.in_ok-row_stands.ensures ∙ yes) c.loop-number.invariant
