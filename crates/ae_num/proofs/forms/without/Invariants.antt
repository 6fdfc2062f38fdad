use Rattle.std.proofs.Common.{◌≡◌, ◌++◌, drop}
use Rattle.ae_num.specs.Forms.{others}
use Rattle.ae_num.proofs.forms.without.Given as goal

abbrev pub invariant-loop-part : goal.invariant-loop-part
invariant-loop-part l = l.parts ++ others (drop l.part-index l.form.parts) l.key ≡ others l.form.parts l.key
