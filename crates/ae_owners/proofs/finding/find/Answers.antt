use Rattle.std.proofs.Common.{refl, length, arith}
use Rattle.std.proofs.lemmas.Option.{slice_get_read, slice_get_within}
use Rattle.ae_journal.specs.States.{of_literal}
use Rattle.ae_owners.proofs.Numbers.{none_further}
use Rattle.ae_owners.proofs.finding.find.Goals as goal

pub returns-then-is_literal : goal.returns-then-is_literal
returns-then-is_literal c = record {
  owner = c.index-owners-number.result;
  at = slice_get_read c.args.owners.now (length c.args.owners.now) c.loop-number.number c.index-owners-number.result refl (omega arith) c.index-owners-number.is;
  is = c.if-is_literal.ensures;
}

pub loop-number-preserved : goal.loop-number-preserved
loop-number-preserved c =
    none_further c.args.owners.now (of_literal c.args.lit.now) c.loop-number.number c.index-owners-number.result
    (slice_get_read c.args.owners.now (length c.args.owners.now) c.loop-number.number c.index-owners-number.result refl (omega arith) c.index-owners-number.is) c.if-is_literal.ensures
    c.loop-number.invariant

pub returns : goal.returns
returns c = λ h. c.loop-number.invariant h.0 (let l = slice_get_within c.args.owners.now h.0 h.1.owner h.1.at in omega (arith, l)) h.1
