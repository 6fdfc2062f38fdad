use Rattle.std.proofs.Common.{arith, get_or}
use Rattle.std.proofs.lemmas.List.Elements.{Contains-get_or}
use Rattle.ae_trim.proofs.trim.renumbered_hints.Goals as goal

pub offset_bounds-numbers-hint : goal.offset_bounds-numbers-hint
offset_bounds-numbers-hint c =
    let ks = c.args.hints.now in let i = c.loop-hint.hint-index in
    let w = c.requires (get_or ks i 0) (Contains-get_or ks i 0 c.loop-hint-test.true) in
    omega (arith, w)

pub bounds-numbers-hint : goal.bounds-numbers-hint
bounds-numbers-hint c =
    let ks = c.args.hints.now in let i = c.loop-hint.hint-index in
    c.requires (get_or ks i 0) (Contains-get_or ks i 0 c.loop-hint-test.true)
