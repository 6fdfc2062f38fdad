use Rattle.std.proofs.Common.{◌≡◌, ◌++◌, map, drop}
use Rattle.ae_core.specs.declared.terms.Head.TheVariants as head
use Rattle.ae_termreader.proofs.heads.push_symbols.Given as goal

abbrev pub invariant-loop-n : goal.invariant-loop-n
invariant-loop-n l = l.out ++ map (λ n. head.Symbol n) (drop l.n-index l.numbers) ≡ l.fn.out ++ map (λ n. head.Symbol n) l.numbers
