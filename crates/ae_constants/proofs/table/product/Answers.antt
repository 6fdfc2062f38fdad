use Rattle.std.proofs.Common.{rules}
use Rattle.std.specs.Prelude.{IsTrue}
use Rattle.ae_store.specs.Terms.{named}
use Rattle.ae_constants.specs.Forms.{meaning}
use Rattle.ae_constants.proofs.ExactLaws.{times_left, times_right, times_opaque}
use Rattle.ae_constants.proofs.table.product.Goals as goal

pub returns-then-is_number : goal.returns-then-is_number
returns-then-is_number c =
    let t : IsTrue c.is_number.result = search rules in
    λ ts n g h o l k a b.
    times_left ts o n l (named ts c.args.name) g h (meaning c.args.left.now) (meaning c.args.right.now) (meaning c.in_ok-product.product) a b
    (c.is_number.ensures.0 t) (c.in_ok-product.ensures ts n h b)

pub returns-then-is_number-2 : goal.returns-then-is_number-2
returns-then-is_number-2 c =
    let f : IsTrue c.is_number.result → ⊥ = search rules in
    let t : IsTrue c.is_number-2.result = search rules in
    λ ts n g h o l k a b.
    times_right ts o n l (named ts c.args.name) g h (meaning c.args.left.now) (meaning c.args.right.now) (meaning c.in_ok-product-2.product) a b
    (λ e. f (c.is_number.ensures.1 e)) (c.is_number-2.ensures.0 t) (c.in_ok-product-2.ensures ts n g a)

pub returns : goal.returns
returns c =
    let f : IsTrue c.is_number.result → ⊥ = search rules in
    let u : IsTrue c.is_number-2.result → ⊥ = search rules in
    λ ts n g h o l k a b.
    times_opaque ts o n l (named ts c.args.name) g h (meaning c.args.left.now) (meaning c.args.right.now) (meaning c.in_ok-whole.whole) a b
    (λ e. f (c.is_number.ensures.1 e)) (λ e. u (c.is_number-2.ensures.1 e)) (c.in_ok-whole.ensures ts n k)
