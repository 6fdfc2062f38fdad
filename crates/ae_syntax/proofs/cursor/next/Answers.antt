use Rattle.std.proofs.Common.{◌<◌, ◌^◌, length, arith}
use Rattle.ae_syntax.proofs.TokenAt.{found_at, some_there}
use Rattle.ae_syntax.proofs.cursor.next.Goals as goal

pub returns-then-at-len-clause-some : goal.returns-then-at-len-clause-some
returns-then-at-len-clause-some c =
    let e = c.len.ensures in
    let l = c.len.type_inv in
    let room : length c.args.tokens.now < 2 ^ 64 = omega (arith, e, l) in
    found_at c.args.tokens.now c.args.at c.get.result c.get.ensures room

pub returns-then-at-len-clause-none : goal.returns-then-at-len-clause-none
returns-then-at-len-clause-none c =
    let e = c.len.ensures in
    let w = c.if-at-len.true in
    let within : c.args.at < length c.args.tokens.now = omega (arith, e, w) in
    some_there c.args.tokens.now c.args.at c.get.result c.get.ensures within
