use Rattle.std.proofs.Common.{◌∙◌, ◌<◌, arith, false, length, sym, subst}
use Rattle.std.specs.List.{Contains}
use Rattle.std.proofs.lemmas.List.{get_or_read}
use Rattle.ae_trim.specs.Inner.Marks.{AreMarked}
use Rattle.ae_trim.proofs.Marking.{hints_here, passed_marked}
use Rattle.ae_trim.proofs.used.pass_on.Goals as goal

pub mark-requires : goal.mark-requires
mark-requires c =
    let ls = c.args.lines.now in let n = c.args.place in
    let e = hints_here ls n c.index-lines-place.result c.hints_of.result.now c.requires.within c.index-lines-place.is c.hints_of.ensures in
    let w = c.requires.within in let s = c.requires.size in
    record { within = λ k h. (let l = c.requires.earlier.each n k (subst (λ z. Contains z k) (sym e) h) in omega (arith, l, w, s)) }

pub returns-then-is_marked : goal.returns-then-is_marked
returns-then-is_marked c =
    let ls = c.args.lines.now in let n = c.args.place in let old = c.args.marks.now.items in
    let e = hints_here ls n c.index-lines-place.result c.hints_of.result.now c.requires.within c.index-lines-place.is c.hints_of.ensures in
    let w = c.requires.within in let s = c.requires.size in
    let b : n < length old = omega (arith, w, s) in
    let was = get_or_read old n c.index-is_marked.result.now b c.index-is_marked.ensures false in
    passed_marked ls n old c.mark.new.marks.items (subst (λ z. AreMarked old z c.mark.new.marks.items) (sym e) c.mark.ensures) (sym was ∙ c.if-is_marked.true)
