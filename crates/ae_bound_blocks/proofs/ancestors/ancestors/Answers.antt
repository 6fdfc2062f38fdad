use Rattle.std.proofs.Common.{◌≡◌, ◌+◌, ◌-◌, ◌∙◌, arith, refl, sym, ap, subst, length, set, replicate, true, false}
use Rattle.std.proofs.lemmas.List.{length-map}
use Rattle.ae_trim.specs.Inner.Marks.{IsSearched}
use Rattle.ae_trim.proofs.Marking.{searched_first, searched_next, searched_all}
use Rattle.ae_bound_blocks.specs.Inner.Marks.{as_line, as_lines}
use Rattle.ae_bound_blocks.proofs.ancestors.ancestors.Goals as goal

pub loop-done-init : goal.loop-done-init
loop-done-init c =
    let ls = as_lines c.args.through c.args.rows.now in
    let ms = c.in_ok-marks.marks.items in
    let n : length ls ≡ length c.args.rows.now = length-map c.args.rows.now (as_line c.args.through) in
    let some = c.requires.some in
    record {
      count = refl;
      searched = subst (λ k. IsSearched ls 0 (set ms (k - 1) true)) n
          (searched_first ls ms (omega (arith, some, n)) (c.in_ok-marks.ensures.items_if_clones_equal (λ y e. e) ∙ ap (λ k. replicate k false) (sym n)));
    }

pub loop-done-preserved : goal.loop-done-preserved
loop-done-preserved c =
    let ls = as_lines c.args.through c.args.rows.now in let done = c.loop-done.done in let place = length c.args.rows.now - 1 - done in
    let n : length ls ≡ length c.args.rows.now = length-map c.args.rows.now (as_line c.args.through) in
    let t = c.loop-done-test.true in
    let at : place + done + 1 ≡ length ls = omega (arith, t, n) in
    record { count = refl; searched = searched_next ls c.requires.earlier done place at c.loop-done.marks.items c.pass_on.new.marks.items c.loop-done.invariant.searched c.pass_on.ensures }

pub returns : goal.returns
returns c =
    let ls = as_lines c.args.through c.args.rows.now in let done = c.loop-done.done in
    let n : length ls ≡ length c.args.rows.now = length-map c.args.rows.now (as_line c.args.through) in
    let t = c.loop-done-test.false in let b = c.loop-done.auto.done-end in
    let all : done ≡ length ls = omega (arith, t, b, n) in
    searched_all ls c.loop-done.marks.items (subst (λ k. IsSearched ls k c.loop-done.marks.items) all c.loop-done.invariant.searched)
