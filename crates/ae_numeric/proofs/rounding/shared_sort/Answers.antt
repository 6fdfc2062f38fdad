use Rattle.std.proofs.Common.{ap, sym, ◌∙◌, inl, inr}
use Rattle.ae_core.specs.Sorts.{sort_of, same_numeric}
use Rattle.ae_numeric.proofs.RoundingLines.{shared_yes, shared_no}
use Rattle.ae_numeric.proofs.rounding.shared_sort.Goals as goal
use Rattle.ae_numeric.proofs.rounding.shared_sort.Goals.{else-same_numeric-via-then-same_numeric+else-same_numeric-2, else-same_numeric-via-else-same_numeric}

pub returns-then-same_numeric-2 : goal.returns-then-same_numeric-2
returns-then-same_numeric-2 c =
    let sig = c.args.signature.now in
    let s = c.in_ok-sort.sort in
    let from = sort_of sig c.args.low.now in
    let to = sort_of sig c.args.high.now in
    shared_yes (sort_of sig c.args.left.now) (sort_of sig c.args.right.now) from to s c.in_ok-sort.ensures
    (ap (same_numeric s) (sym c.in_ok-from.ensures) ∙ sym c.same_numeric.ensures ∙ c.if-same_numeric.true)
    (ap (same_numeric s) (sym c.in_ok-to.ensures) ∙ sym c.same_numeric-then-same_numeric.ensures ∙ c.if-same_numeric-2.true)

pub returns-else-same_numeric : goal.returns-else-same_numeric
returns-else-same_numeric c =
    let sig = c.args.signature.now in
    let s = c.in_ok-sort.sort in
    let from = sort_of sig c.args.low.now in
    let to = sort_of sig c.args.high.now in
    shared_no (sort_of sig c.args.left.now) (sort_of sig c.args.right.now) from to s c.in_ok-sort.ensures
    (elim c.else-same_numeric.branch [
      | else-same_numeric-via-then-same_numeric+else-same_numeric-2 w ↦ inr (ap (same_numeric s) (sym c.in_ok-to.ensures) ∙ sym w.same_numeric-then-same_numeric.ensures ∙ w.if-same_numeric-2.false)
      | else-same_numeric-via-else-same_numeric w ↦ inl (ap (same_numeric s) (sym c.in_ok-from.ensures) ∙ sym c.same_numeric.ensures ∙ w.if-same_numeric.false)
    ])
