use Rattle.std.specs.Prelude.{Option, IfSome, IfNone}
use Rattle.std.proofs.Common.{refl, ap, subst, arith}
use Rattle.ae_store.specs.Shapes.{shapes}
use Rattle.ae_store.specs.Terms.{terms}
use Rattle.ae_strips.specs.Stripping.{StripsTo}
use Rattle.ae_value_table.specs.Table.{Contents}
use Rattle.ae_take_in.specs.declared.covering.Led.{Led}
use Rattle.ae_take_in.specs.Inner.Next.{IsCoveredLeaf}
use Rattle.ae_take_in.proofs.Nexts.{own_leaf}
use Rattle.ae_take_in.proofs.Leaves.{own_leaf_next}
use Rattle.ae_take_in.proofs.Puts.{rest_leaf}
use Rattle.ae_take_in.proofs.Taken.{taken_still, taken_leaf}
use Rattle.ae_take_in.proofs.taking.take_leaf.Goals as goal

pub returns-in-None-clause-taken : goal.returns-in-None-clause-taken
returns-in-None-clause-taken c =
    let s = c.args.store.now in
    let v = c.args.values.now in
    let n = c.args.name in
    let store = c.len-len.ensures.store in
    let own = own_leaf s.signature s.nodes store n c.requires.within v c.requires.below n (omega arith) in
    taken_still s.signature s.nodes store n c.requires.within c.the_next_name_is_among_the_first.ensures c.args.justs.now c.covered_leaf.new.justs c.covered_leaf.ensures.front c.covered_leaf.ensures.fits v c.requires.below c.requires.first c.requires.said
    (own_leaf_next s.signature s.nodes store n c.requires.within v c.requires.below c.requires.first c.requires.other (subst (λ (o : Option Led). IfNone o (StripsTo (terms (shapes s.nodes)) n n)) c.in-None.is c.in_ok-covered.ensures.none) own)

pub returns-in_ok-put_led-in-Some-clause-taken : goal.returns-in_ok-put_led-in-Some-clause-taken
returns-in_ok-put_led-in-Some-clause-taken c =
    let s = c.args.store.now in
    let v = c.args.values.now in
    let put = c.in_ok-put_led-in-Some.ensures in
    taken_leaf s.signature s.nodes c.len-len.ensures.store c.args.name c.requires.within c.the_next_name_is_among_the_first.ensures c.args.justs.now c.covered_leaf.new.justs c.covered_leaf.ensures.front c.covered_leaf.ensures.fits v c.requires.below
    c.requires.first c.requires.said c.put_led.new.values c.requires.other c.in-Some.led (subst (λ (o : Option Led). IfSome o (λ l. IsCoveredLeaf (terms (shapes s.nodes)) c.args.justs.now c.covered_leaf.new.justs v c.args.name l)) c.in-Some.is c.in_ok-covered.ensures.some) (ap (λ (x : Contents). x.rows) c.put_led.ensures.rest) put.leaf put.just

-- ---- what else is held
pub returns-in_ok-put_led-in-Some-clause-rest : goal.returns-in_ok-put_led-in-Some-clause-rest
returns-in_ok-put_led-in-Some-clause-rest c = rest_leaf c.args.values.now c.put_led.new.values c.put_led.ensures.rest

pub returns-in_err-put_led-in-Some-clause-rest : goal.returns-in_err-put_led-in-Some-clause-rest
returns-in_err-put_led-in-Some-clause-rest c = rest_leaf c.args.values.now c.put_led.new.values c.put_led.ensures.rest

pub returns-in-None-clause-rest : goal.returns-in-None-clause-rest
returns-in-None-clause-rest c = refl

pub returns-in_err-covered-clause-rest : goal.returns-in_err-covered-clause-rest
returns-in_err-covered-clause-rest c = refl

pub returns-in-None-clause-lasts : goal.returns-in-None-clause-lasts
returns-in-None-clause-lasts c = λ shared then h. h

pub returns-in_err-covered-clause-lasts : goal.returns-in_err-covered-clause-lasts
returns-in_err-covered-clause-lasts c = λ shared then h. h
