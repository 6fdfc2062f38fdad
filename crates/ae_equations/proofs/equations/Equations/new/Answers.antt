use Rattle.ae_equations.proofs.Lasting.{holding_none}
use Rattle.ae_equations.proofs.equations.Equations.new.Goals as goal

pub invariant_of-result : goal.invariant_of-result
invariant_of-result c =
    holding_none (record { rules = c.new.result; pairs = c.none_paired.result; queue = c.none_waiting.result }) c.none_paired.ensures.noted c.none_paired.ensures.none c.none_waiting.ensures.placed
