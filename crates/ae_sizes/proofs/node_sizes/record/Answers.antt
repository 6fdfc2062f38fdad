use Rattle.std.proofs.Common.{◌≡◌, ◌∙◌, take, length, refl, sym, ap}
use Rattle.ae_elab.specs.Nodes.{trees_at}
use Rattle.ae_elab.specs.Weights as rule
use Rattle.ae_sizes.specs.Inner.Counted.{capped}
use Rattle.ae_sizes.specs.Inner.Weights as own
use Rattle.ae_sizes.proofs.MeasureLaws.{take_both, weights_long}
use Rattle.ae_sizes.proofs.node_sizes.record.Goals as goal

pub returns : goal.returns
returns c = λ f es ss b p q r.
    let n = c.args.count in
    let ps = c.args.places.now in
    let us = c.args.values.now in
    let ws = own.weight_list c.args.last f (trees_at es us) in
    let m = rule.missing n (take (length ws) ps) in
    let s = own.copies m ss b in
    let t = own.all_standing (own.in_fields n ps) 0 ws in
    let few : c.min-absent.result ≡ capped m =
    c.min-absent.ensures
    ∙ ap capped
    (c.missing.ensures.missing
    ∙ ap (rule.missing n)
    (ap (λ k. take k ps) c.min-written.ensures ∙ take_both ps (length us) ∙ ap (λ k. take k ps) (sym (weights_long c.args.last f es us)))) in
    c.within-2.ensures 1 (rule.together (rule.beside ss s) t) refl
    (c.together.ensures (rule.beside ss s) t
    (c.beside-2.ensures ss s q (c.standing-copies.ensures m 0 (rule.within 1 (rule.beside ss b)) few refl (c.within.ensures 1 (rule.beside ss b) refl (c.beside.ensures ss b q r))))
    (c.weigh.ensures f es p))
