use Rattle.std.proofs.Common.{rules, ◌≡◌, ◌+◌, ◌++◌, [], length, map, sym, subst}
use Rattle.std.specs.List.{AllByRecursion}
use Rattle.ae_rules.specs.Built.{HasFactorsWithin}
use Rattle.ae_rules.specs.Lines.{Stated, AllAllowed, fact_ok}
use Rattle.ae_derivations.specs.Inner.Moved.{moved}
use Rattle.ae_derivations.proofs.Joined.{stands_past, all_joined, factors_joined}
use Rattle.ae_derivations.proofs.joining.joined.Goals as goal

pub returns-clause-after : goal.returns-clause-after
returns-clause-after c =
    let one = c.args.first in
    let two = c.args.second.now in
    let lines : c.append-2.new.self ≡ one.lines ++ map (moved (length one.lines) (length one.hyps)) two.lines = search rules in
    λ k f s. subst (λ ls. Stated ls (length one.lines + k) f) (sym lines) (stands_past (length one.hyps) one.lines two.lines k f s)

pub returns-clause-allowed : goal.returns-clause-allowed
returns-clause-allowed c =
    let one = c.args.first in
    let two = c.args.second.now in
    let lines : c.append-2.new.self ≡ one.lines ++ map (moved (length one.lines) (length one.hyps)) two.lines = search rules in
    let hyps : c.append.new.self ≡ one.hyps ++ two.hyps = search rules in
    λ sig a b. subst (λ hs. AllAllowed sig (fact_ok sig) hs [] c.append-2.new.self) (sym hyps)
    (subst (λ ls. AllAllowed sig (fact_ok sig) (one.hyps ++ two.hyps) [] ls) (sym lines) (all_joined sig (fact_ok sig) one.hyps two.hyps one.lines two.lines a b))

pub returns-clause-factors : goal.returns-clause-factors
returns-clause-factors c =
    let one = c.args.first in
    let two = c.args.second.now in
    let lines : c.append-2.new.self ≡ one.lines ++ map (moved (length one.lines) (length one.hyps)) two.lines = search rules in
    λ a b. subst (AllByRecursion HasFactorsWithin) (sym lines) (factors_joined (length one.lines) (length one.hyps) one.lines two.lines a b)
