use Rattle.std.specs.Prelude.{Option, IfSome, IfNone}
use Rattle.std.proofs.Common.{refl, ap, subst, arith}
use Rattle.ae_store.specs.Shapes.{shapes}
use Rattle.ae_store.specs.Terms.{terms}
use Rattle.ae_strips.specs.Stripping.{StripsTo}
use Rattle.ae_value_table.specs.Table.{Contents}
use Rattle.ae_first_values.specs.declared.numbers.Given.{Given}
use Rattle.ae_take_in.specs.Computing.{IsComputed}
use Rattle.ae_take_in.specs.Inner.Next.{IsNextNumber}
use Rattle.ae_take_in.proofs.Nexts.{unknown, own_number}
use Rattle.ae_take_in.proofs.NextNumbers.{own_next}
use Rattle.ae_take_in.proofs.Rows.{free, absent, alone}
use Rattle.ae_take_in.proofs.Puts.{rest_number}
use Rattle.ae_take_in.proofs.Taken.{taken_still, taken_number}
use Rattle.ae_take_in.proofs.taking.take_number.Goals as goal

pub returns-in-None-clause-taken : goal.returns-in-None-clause-taken
returns-in-None-clause-taken c =
    let s = c.args.store.now in
    let v = c.args.values.now in
    let n = c.args.name in
    let store = c.len-len.ensures.store in
    let own = own_number s.signature s.nodes store n c.requires.within v c.requires.below n (omega arith) in
    taken_still s.signature s.nodes store n c.requires.within c.the_next_name_is_among_the_first.ensures c.args.justs.now c.next_number.new.justs c.next_number.ensures.front c.next_number.ensures.fits v c.requires.below c.requires.first c.requires.said
    (own_next s.signature s.nodes store n c.requires.within v c.requires.below c.requires.first c.args.real c.requires.name (subst (λ (o : Option Given). IfNone o (IsComputed (terms (shapes s.nodes)) n → ⊥)) c.in-None.is c.in_ok-next.ensures.computed) (subst (λ (o : Option Given). IfNone o (StripsTo (terms (shapes s.nodes)) n n)) c.in-None.is c.in_ok-next.ensures.strips) own)

pub put_given-requires-clause-normal : goal.put_given-requires-clause-normal
put_given-requires-clause-normal c = (subst (λ (o : Option Given). IfSome o (λ g. IsNextNumber c.args.store.now.signature (terms (shapes c.args.store.now.nodes)) c.args.justs.now c.next_number.new.justs c.args.values.now c.args.real c.args.name g)) c.in-Some.is c.in_ok-next.ensures.some).stated.written.normal

pub put_given-requires-clause-free : goal.put_given-requires-clause-free
put_given-requires-clause-free c =
    let s = c.args.store.now in
    free s.signature (terms (shapes s.nodes)) c.args.values.now c.row-row.ensures.rows c.args.name c.args.real c.in-Some.given.value (subst (λ (o : Option Given). IfSome o (λ g. IsNextNumber c.args.store.now.signature (terms (shapes c.args.store.now.nodes)) c.args.justs.now c.next_number.new.justs c.args.values.now c.args.real c.args.name g)) c.in-Some.is c.in_ok-next.ensures.some).over

pub put_given-requires-clause-absent : goal.put_given-requires-clause-absent
put_given-requires-clause-absent c =
    let s = c.args.store.now in
    absent s.signature (terms (shapes s.nodes)) c.args.values.now c.row-row.ensures.rows c.args.name c.args.real c.in-Some.given.value (subst (λ (o : Option Given). IfSome o (λ g. IsNextNumber c.args.store.now.signature (terms (shapes c.args.store.now.nodes)) c.args.justs.now c.next_number.new.justs c.args.values.now c.args.real c.args.name g)) c.in-Some.is c.in_ok-next.ensures.some).over

pub put_given-requires-clause-alone : goal.put_given-requires-clause-alone
put_given-requires-clause-alone c =
    let s = c.args.store.now in
    alone s.signature (terms (shapes s.nodes)) c.args.justs.now c.args.values.now c.args.name c.requires.below c.requires.said c.requires.first
    (unknown s.signature s.nodes c.len-len.ensures.store c.args.name c.requires.within (subst (λ (o : Option Given). IfSome o (λ g. IsNextNumber c.args.store.now.signature (terms (shapes c.args.store.now.nodes)) c.args.justs.now c.next_number.new.justs c.args.values.now c.args.real c.args.name g)) c.in-Some.is c.in_ok-next.ensures.some).why)

pub returns-in_ok-put_given-in-Some-clause-taken : goal.returns-in_ok-put_given-in-Some-clause-taken
returns-in_ok-put_given-in-Some-clause-taken c =
    let s = c.args.store.now in
    let v = c.args.values.now in
    let put = c.in_ok-put_given-in-Some.ensures in
    taken_number s.signature s.nodes c.len-len.ensures.store c.args.name c.requires.within c.the_next_name_is_among_the_first.ensures c.args.justs.now c.next_number.new.justs c.next_number.ensures.front c.next_number.ensures.fits v c.requires.below
    c.requires.first c.requires.said c.put_given.new.values c.args.real c.in-Some.given (subst (λ (o : Option Given). IfSome o (λ g. IsNextNumber c.args.store.now.signature (terms (shapes c.args.store.now.nodes)) c.args.justs.now c.next_number.new.justs c.args.values.now c.args.real c.args.name g)) c.in-Some.is c.in_ok-next.ensures.some) put.row put.others (ap (λ (x : Contents). x.leaves) c.put_given.ensures.rest) put.just

-- ---- what else is held
pub returns-in_ok-put_given-in-Some-clause-rest : goal.returns-in_ok-put_given-in-Some-clause-rest
returns-in_ok-put_given-in-Some-clause-rest c = rest_number c.args.values.now c.put_given.new.values c.put_given.ensures.rest

pub returns-in_err-put_given-in-Some-clause-rest : goal.returns-in_err-put_given-in-Some-clause-rest
returns-in_err-put_given-in-Some-clause-rest c = rest_number c.args.values.now c.put_given.new.values c.put_given.ensures.rest

pub returns-in-None-clause-rest : goal.returns-in-None-clause-rest
returns-in-None-clause-rest c = refl

pub returns-in_err-next-clause-rest : goal.returns-in_err-next-clause-rest
returns-in_err-next-clause-rest c = refl

pub returns-in-None-clause-lasts : goal.returns-in-None-clause-lasts
returns-in-None-clause-lasts c = λ shared then h. h

pub returns-in_err-next-clause-lasts : goal.returns-in_err-next-clause-lasts
returns-in_err-next-clause-lasts c = λ shared then h. h
