use Rattle.std.proofs.Common.{◌≡◌, take}
use Rattle.ae_data.proofs.copies.+copy_value.Given as goal

abbrev pub invariant-loop-field : goal.invariant-loop-field
invariant-loop-field l = l.copies ≡ take l.field-index l.field-items
