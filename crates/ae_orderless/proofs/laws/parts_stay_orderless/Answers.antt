use Rattle.ae_orderless.proofs.Forms.{orderless_part}
use Rattle.ae_orderless.proofs.laws.parts_stay_orderless.Goals as goal

pub returns : goal.returns
returns c = orderless_part
