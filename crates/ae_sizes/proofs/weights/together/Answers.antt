use Rattle.std.proofs.Common.{◌+◌, ◌*◌, ap}
use Rattle.ae_elab.specs.Weights as rule
use Rattle.ae_sizes.proofs.CountedLaws.{as_weight}
use Rattle.ae_sizes.proofs.weights.together.Goals as goal

pub returns : goal.returns
returns c = λ v w p q.
    let vc = ap (λ z. z.cases) p in
    let wc = ap (λ z. z.cases) q in
    let vn = ap (λ z. z.nodes) p in
    let wn = ap (λ z. z.nodes) q in
    let va = ap (λ z. z.added) p in
    let wa = ap (λ z. z.added) q in
    let vb = ap (λ z. z.above) p in
    let wb = ap (λ z. z.above) q in
    let vr = ap (λ z. z.reach) p in
    let wr = ap (λ z. z.reach) q in
    let vk = ap (λ z. z.conditions) p in
    let wk = ap (λ z. z.conditions) q in
    as_weight c.by.result c.plus.result c.plus-2.result c.plus-3.result c.greater.result c.greater-2.result (rule.together v w)
    (c.by.ensures v.cases w.cases vc wc)
    (c.plus.ensures (v.nodes * w.cases) (v.cases * w.nodes) (c.by-2.ensures v.nodes w.cases vn wc) (c.by-3.ensures v.cases w.nodes vc wn))
    (c.plus-2.ensures v.added (v.cases * w.added) va (c.by-4.ensures v.cases w.added vc wa))
    (c.plus-3.ensures v.above w.above vb wb)
    (c.greater.ensures (v.reach + w.above) (v.above + w.reach) (c.plus-4.ensures v.reach w.above vr wb) (c.plus-5.ensures v.above w.reach vb wr))
    (c.greater-2.ensures v.conditions (v.above + w.conditions) vk (c.plus-6.ensures v.above w.conditions vb wk))
