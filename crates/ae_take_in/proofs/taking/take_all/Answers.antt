use Rattle.std.specs.Prelude.{ℕ, suc, ◌+◌, ◌<◌, ◌≤◌, ◌≡◌, length}
use Rattle.std.proofs.Common.{refl, sym, ap, ◌∙◌, subst, arith}
use Rattle.ae_store.specs.Shapes.{shapes}
use Rattle.ae_store.specs.Terms.{terms}
use Rattle.ae_store.proofs.EnterLaws.{front_same, front_then}
use Rattle.ae_strips.proofs.FieldTerms.{length_is}
use Rattle.ae_value_table.specs.Table.{Contents, number_at, leaf_at}
use Rattle.ae_take_in.specs.Inner.Taking.{AreTakenTo}
use Rattle.ae_take_in.proofs.Takings.{none_taken, more_taken, held_taken, free_all}
use Rattle.ae_take_in.proofs.Passing.{wide_passed}
use Rattle.ae_take_in.proofs.taking.take_all.Goals as goal

pub loop-name-init : goal.loop-name-init
loop-name-init c =
    let s = c.args.store.now in
    let ts = terms (shapes s.nodes) in
    let v = c.args.values.now in
    let js = c.args.justs.now in
    let start = c.len-start.ensures in
    let long : length ts ≡ length s.nodes = length_is s.signature s.nodes c.len-end.ensures.store in
    record {
      fits = c.requires.fits;
      front = front_same js;
      rest = refl;
      lasts = λ shared then h. h;
      from = omega (arith, start.len);
      upto = omega (arith, start.len, start.within, c.requires.all, long);
      taken =
          subst (λ (n : ℕ). AreTakenTo s.signature ts js js v v v.taken n) (sym start.len)
          (none_taken s.signature ts js v v.taken c.requires.fits c.requires.first c.requires.below c.requires.said);
    }

pub take_next-requires-clause-said : goal.take_next-requires-clause-said
take_next-requires-clause-said c = c.loop-name.invariant.taken.said

pub take_next-requires-clause-within : goal.take_next-requires-clause-within
take_next-requires-clause-within c = subst (λ (n : ℕ). c.loop-name.name < n) c.len-end.ensures.len c.loop-name-test.true

pub take_next-requires-clause-first : goal.take_next-requires-clause-first
take_next-requires-clause-first c = c.loop-name.invariant.taken.first

pub take_next-requires-clause-below : goal.take_next-requires-clause-below
take_next-requires-clause-below c = c.loop-name.invariant.taken.below

pub loop-name-preserved : goal.loop-name-preserved
loop-name-preserved c =
    let s = c.args.store.now in
    let ts = terms (shapes s.nodes) in
    let i = c.loop-name.invariant in
    let old : Contents = c.args.values.now in
    let new : Contents = c.take_next.new.values in
    let at = c.loop-name.name in
    let inside : at < length s.nodes = subst (λ (n : ℕ). at < n) c.len-end.ensures.len c.loop-name-test.true in
    let from : old.taken ≤ at = i.from in
    let next : suc at ≡ at + 1 = omega arith in
    record {
      fits = c.take_next.ensures.fits;
      front = front_then c.args.justs.now c.loop-name.justs c.take_next.new.justs i.front c.take_next.ensures.front;
      rest = c.take_next.ensures.rest ∙ ap (λ (x : Contents). record { entries = x.entries; taken = x.taken; rows = new.rows; leaves = new.leaves; justs = new.justs }) i.rest;
      lasts = λ shared then h. c.take_next.ensures.lasts shared then (i.lasts shared then h);
      from = omega (arith, from);
      upto = omega (arith, inside);
      taken =
          subst (λ (n : ℕ). AreTakenTo s.signature ts c.args.justs.now c.take_next.new.justs old new old.taken n) next
          (more_taken s.signature ts c.args.justs.now c.loop-name.justs c.take_next.new.justs old c.loop-name.values new old.taken at from i.taken c.in_ok-take_next.ensures.taken);
    }

pub returns-in_err-take_next-clause-front : goal.returns-in_err-take_next-clause-front
returns-in_err-take_next-clause-front c = front_then c.args.justs.now c.loop-name.justs c.take_next.new.justs c.loop-name.invariant.front c.take_next.ensures.front

pub returns-in_err-take_next-clause-lasts : goal.returns-in_err-take_next-clause-lasts
returns-in_err-take_next-clause-lasts c = λ shared then h. c.take_next.ensures.lasts shared then (c.loop-name.invariant.lasts shared then h)

pub returns-in_err-take_next-clause-entries : goal.returns-in_err-take_next-clause-entries
returns-in_err-take_next-clause-entries c = ap (λ (x : Contents). x.entries) c.take_next.ensures.rest ∙ ap (λ (x : Contents). x.entries) c.loop-name.invariant.rest

pub returns-in_err-take_next-clause-wide : goal.returns-in_err-take_next-clause-wide
returns-in_err-take_next-clause-wide c =
    let s = c.args.store.now in
    let ts = terms (shapes s.nodes) in
    let i = c.loop-name.invariant in
    let at = c.loop-name.name in
    let inside : at < length s.nodes = subst (λ (n : ℕ). at < n) c.len-end.ensures.len c.loop-name-test.true in
    let long : length ts ≡ length s.nodes = length_is s.signature s.nodes c.len-end.ensures.store in
    wide_passed c.from_residual.result c.in_err-take_next.field-0.0 c.from_residual.ensures.1
    (λ w h. record {
      name = at;
      within = omega (arith, inside, long);
      number = number_at c.loop-name.values;
      leaf = leaf_at c.loop-name.values;
      first = i.taken.first;
      kept = i.taken.kept;
      free = free_all s.signature s.nodes c.len-end.ensures.store at inside c.args.justs.now c.loop-name.justs c.args.values.now c.loop-name.values c.args.values.now.taken i.taken;
      wide = h;
    }) c.in_err-take_next.ensures.wide

pub returns-clause-taken : goal.returns-clause-taken
returns-clause-taken c =
    let s = c.args.store.now in
    let ts = terms (shapes s.nodes) in
    let i = c.loop-name.invariant in
    let old : Contents = c.args.values.now in
    let at = c.loop-name.name in
    let upto : at ≤ length s.nodes = i.upto in
    let long : length ts ≡ length s.nodes = length_is s.signature s.nodes c.len-end.ensures.store in
    let done : at ≡ length ts = omega (arith, upto, long, c.loop-name-test.false, c.len-end.ensures.len) in
    subst (λ (x : Contents). AreTakenTo s.signature ts c.args.justs.now c.loop-name.justs old x old.taken (length ts)) (sym c.hold.ensures.held)
    (held_taken s.signature ts c.args.justs.now c.loop-name.justs old c.loop-name.values old.taken (length ts) _
    (subst (λ (n : ℕ). AreTakenTo s.signature ts c.args.justs.now c.loop-name.justs old c.loop-name.values old.taken n) done i.taken))

pub hold-requires : goal.hold-requires
hold-requires c =
    let s = c.args.store.now in
    let long : length (terms (shapes s.nodes)) ≡ length s.nodes = length_is s.signature s.nodes c.len-end.ensures.store in
    let e : length c.loop-name.values.entries ≡ length c.args.values.now.entries = ap (λ (x : Contents). length x.entries) c.loop-name.invariant.rest in
    omega (arith, c.len-end.ensures.len, e, long, c.requires.all)

pub returns-clause-all : goal.returns-clause-all
returns-clause-all c =
    let s = c.args.store.now in
    ap (λ (x : Contents). x.taken) c.hold.ensures.held ∙ c.len-end.ensures.len ∙ sym (length_is s.signature s.nodes c.len-end.ensures.store)

pub returns-clause-entries : goal.returns-clause-entries
returns-clause-entries c = ap (λ (x : Contents). x.entries) c.hold.ensures.held ∙ ap (λ (x : Contents). x.entries) c.loop-name.invariant.rest

pub returns-clause-lasts : goal.returns-clause-lasts
returns-clause-lasts c = λ shared then h. c.hold.ensures.lasts shared then (c.loop-name.invariant.lasts shared then h)
