use Rattle.std.proofs.Common.{◌≡◌, drop}
use Rattle.ae_num.specs.Forms.{has_key, factor_of}
use Rattle.ae_values.proofs.occurrences.factor_in.Given as goal

abbrev pub invariant-loop-part : goal.invariant-loop-part
invariant-loop-part l = record {
  keys : has_key l.parts l.name ≡ has_key (drop l.part-index l.parts) l.name;
  factors : factor_of l.parts l.name ≡ factor_of (drop l.part-index l.parts) l.name;
}
