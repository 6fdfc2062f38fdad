use Rattle.std.proofs.Common.{arith, ◌≡◌, ◌∙◌, ◌*◌, ap}
use Rattle.ae_sizes.specs.Inner.Counted.{capped}
use Rattle.ae_sizes.proofs.CountedLaws.{products}
use Rattle.ae_sizes.proofs.weights.by.Goals as goal

pub returns : goal.returns
returns c = λ a b p q.
    let m : c.args.left * c.args.right ≡ capped a * capped b = ap (λ x. x * c.args.right) p ∙ ap (λ x. capped a * x) q in
    let e : capped (c.args.left * c.args.right) ≡ capped (a * b) = ap capped m ∙ products a b in
    let s = c.saturating_mul.ensures in
    let t = c.min.ensures in
    let f : c.min.result ≡ capped (c.args.left * c.args.right) = omega arith in
    f ∙ e
