use Rattle.std.proofs.Common.{◌≡◌, ◌≢◌, true, false, sym, ◌∙◌, ap, arith, ◌<◌, length, get_or}
use Rattle.ae_calc.proofs.Flat.{values_stop}
use Rattle.ae_calc.proofs.flattening.same_lent.Goals as goal

pub returns-then-not-same_term : goal.returns-then-not-same_term
returns-then-not-same_term c =
    let ls = c.args.left.now in let rs = c.args.right.now in let i = c.loop-i.i in let l = c.index-left-i.result in let r = c.index-right-i.result in
    let near : i < length ls = c.loop-i-test.true in
    let far : i < length rs = omega arith in
    let differ : (get_or ls i l).now ≢ (get_or rs i r).now =
    λ e. let p : true ≡ false = sym (c.same_term.ensures.1 (ap (λ t. t.now) c.index-left-i.is ∙ e ∙ sym (ap (λ t. t.now) c.index-right-i.is))) ∙ c.if-not-same_term.true in cc p in
    (λ t. let p : false ≡ true = t in cc p, λ e. absurd (values_stop ls rs i l r near far differ e))
