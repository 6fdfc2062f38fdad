use Rattle.std.proofs.Common.{◌≡◌, drop}
use Rattle.ae_num.specs.Forms.{has_key, factor_of}
use Rattle.ae_num.proofs.forms.factor_at.Given as goal

abbrev pub invariant-loop-part : goal.invariant-loop-part
invariant-loop-part l = record {
  keys : has_key l.parts l.key ≡ has_key (drop l.part-index l.parts) l.key;
  factors : factor_of l.parts l.key ≡ factor_of (drop l.part-index l.parts) l.key;
}
