use Rattle.std.proofs.Common.{drop, ap, ◌∙◌, ◌≡◌, arith}
use Rattle.std.proofs.lemmas.List.{drop_all}
use Rattle.ae_readers.specs.Readers.{common}
use Rattle.ae_readers.proofs.Commons.{common_end}
use Rattle.ae_readers.proofs.words.common.Goals as goal

pub returns-else-i-text : goal.returns-else-i-text
returns-else-i-text c =
    let w = drop c.loop-n.n c.args.word.now in
    let none : common w (drop c.loop-n.i c.args.text.now) ≡ 0 = ap (λ z. common w z) (drop_all c.loop-n.i c.args.text.now c.if-i-text.false) ∙ common_end w in
    let all = c.loop-n.invariant.1 in
    omega (arith, none, all)
