use Rattle.std.proofs.Common.{◌≡◌, arith, subst, length, get_or}
use Rattle.std.proofs.lemmas.List.Elements.{Contains-get_or}
use Rattle.std.proofs.lemmas.Option.{slice_get-get_or}
use Rattle.ae_trim.proofs.Keeping.{AreNumberedTo, numbered_next, numbered_all}
use Rattle.ae_trim.proofs.trim.new_numbers.Goals as goal

pub index_mut-requires : goal.index_mut-requires
index_mut-requires c =
    let ks = c.args.places.now in let i = c.loop-i.i in
    let w = c.requires.within (get_or ks i 0) (Contains-get_or ks i 0 c.loop-i-test.true) in
    let s = c.loop-i.invariant.size in
    omega (arith, w, s, c.loop-i.numbers.ok.0)

pub loop-i-preserved : goal.loop-i-preserved
loop-i-preserved c =
    let ks = c.args.places.now in let i = c.loop-i.i in
    numbered_next ks c.requires.rising c.args.count i (get_or ks i 0) c.loop-i.numbers.items (slice_get-get_or ks i 0 c.loop-i-test.true)
    (c.requires.within (get_or ks i 0) (Contains-get_or ks i 0 c.loop-i-test.true)) c.loop-i.invariant

pub returns : goal.returns
returns c =
    let ks = c.args.places.now in
    let t = c.loop-i-test.false in let b = c.loop-i.auto.i-end in
    let all : c.loop-i.i ≡ length ks = omega (arith, t, b) in
    numbered_all ks c.args.count c.loop-i.numbers.items c.requires.within (subst (λ n. AreNumberedTo ks c.args.count n c.loop-i.numbers.items) all c.loop-i.invariant)
