-- Denominators are within the limits.
use Rattle.ae_num.specs.Forms.{IsNormal}
use Rattle.ae_num.specs.Limits.{FitsLimits}
use Rattle.ae_num.specs.declared.forms.Lin.{Lin}

pub den_fits : (l : Lin) → IsNormal l → FitsLimits l.den
den_fits l n = n.within.0
