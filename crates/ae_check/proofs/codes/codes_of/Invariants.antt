use Rattle.std.proofs.Common.{◌≡◌, ℕ, take}
use Rattle.ae_check.specs.Inner.Coding.{number_in, IsTable, AreKept, AreCodes, stamp_at}
use Rattle.ae_check.proofs.codes.codes_of.Given as goal

abbrev pub invariant-loop-i : goal.invariant-loop-i
invariant-loop-i l = record {
  codes : AreCodes (number_in l.table.numbers.entries) (take l.i l.clause) l.codes;
  table : IsTable (number_in l.table.numbers.entries) l.table.stamps.items;
  kept : AreKept (number_in l.fn.table.numbers.entries) (number_in l.table.numbers.entries);
  stamps : (n : ℕ) → stamp_at l.table.stamps.items n ≡ stamp_at l.fn.table.stamps.items n;
}
