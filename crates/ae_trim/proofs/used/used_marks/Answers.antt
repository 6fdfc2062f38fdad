use Rattle.std.proofs.Common.{◌≡◌, ◌+◌, ◌-◌, arith, refl, subst, length}
use Rattle.ae_trim.specs.Inner.Marks.{IsSearched}
use Rattle.ae_trim.proofs.Marking.{searched_first, searched_next, searched_all}
use Rattle.ae_trim.proofs.used.used_marks.Goals as goal

pub loop-done-init : goal.loop-done-init
loop-done-init c =
    let ls = c.args.lines.now in
    record { count = refl; searched = searched_first ls c.in_ok-marks.marks.items c.requires.some (c.in_ok-marks.ensures.items_if_clones_equal (λ y e. e)) }

pub loop-done-preserved : goal.loop-done-preserved
loop-done-preserved c =
    let ls = c.args.lines.now in let done = c.loop-done.done in let place = length ls - 1 - done in
    let t = c.loop-done-test.true in
    let at : place + done + 1 ≡ length ls = omega (arith, t) in
    record { count = refl; searched = searched_next ls c.requires.earlier done place at c.loop-done.marks.items c.pass_on.new.marks.items c.loop-done.invariant.searched c.pass_on.ensures }

pub returns : goal.returns
returns c =
    let ls = c.args.lines.now in let done = c.loop-done.done in
    let t = c.loop-done-test.false in let b = c.loop-done.auto.done-end in
    let all : done ≡ length ls = omega (arith, t, b) in
    searched_all ls c.loop-done.marks.items (subst (λ n. IsSearched ls n c.loop-done.marks.items) all c.loop-done.invariant.searched)
