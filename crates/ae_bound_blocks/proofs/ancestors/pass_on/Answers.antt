use Rattle.std.proofs.Common.{◌∙◌, ◌<◌, arith, false, length, sym, subst}
use Rattle.std.specs.List.{Contains}
use Rattle.std.proofs.lemmas.List.{get_or_read}
use Rattle.ae_trim.specs.Inner.Marks.{AreMarked}
use Rattle.ae_trim.proofs.Marking.{passed_marked}
use Rattle.ae_bound_blocks.specs.Inner.Marks.{as_lines}
use Rattle.ae_bound_blocks.proofs.Marking.{parents_here}
use Rattle.ae_bound_blocks.proofs.ancestors.pass_on.Goals as goal

pub mark_sources-requires : goal.mark_sources-requires
mark_sources-requires c =
    let rows = c.args.rows.now in let n = c.args.place in
    let e = parents_here c.args.through rows n c.index-rows-place.result c.requires.within c.index-rows-place.is in
    let w = c.requires.within in let s = c.requires.size in
    record { within = λ k h. (let l = c.requires.earlier.each n k (subst (λ z. Contains z k) (sym e) h) in omega (arith, l, w, s)) }

pub returns-then-is_marked : goal.returns-then-is_marked
returns-then-is_marked c =
    let rows = c.args.rows.now in let n = c.args.place in let old = c.args.marks.now.items in
    let e = parents_here c.args.through rows n c.index-rows-place.result c.requires.within c.index-rows-place.is in
    let w = c.requires.within in let s = c.requires.size in
    let b : n < length old = omega (arith, w, s) in
    let was = get_or_read old n c.index-is_marked.result.now b c.index-is_marked.ensures false in
    passed_marked (as_lines c.args.through rows) n old c.mark_sources.new.marks.items (subst (λ z. AreMarked old z c.mark_sources.new.marks.items) (sym e) c.mark_sources.ensures) (sym was ∙ c.if-is_marked.true)
