use Rattle.std.proofs.Common.{◌++◌, ◌∷◌, [], ℕ, List, subst}
use Rattle.ae_explain.specs.Inner.Index.{IsIndex}
use Rattle.ae_explain.proofs.Valuing.{popped, none_left}
use Rattle.ae_explain.proofs.trail.forget_number.Goals as goal

pub returns-in-Some : goal.returns-in-Some
returns-in-Some c number t last places h =
    popped number t c.pop.new.self c.args.values.now c.forget_value.new.values places last c.in-Some.number c.forget_value.ensures.room c.forget_value.ensures.own c.forget_value.ensures.others
    (subst (λ (w : List ℕ). IsIndex number (t ++ last ∷ []) w c.args.values.now places) c.in-Some.ensures h)

pub returns-in-None : goal.returns-in-None
returns-in-None c number t last places h = absurd (none_left number t c.args.standing.now c.args.values.now places last c.in-None.ensures.0 h)
