use Rattle.std.proofs.Common.{◌≡◌, ◌∷◌, [], ◌++◌, ◌∙◌, ◌+◌, refl, sym, ap, arith, subst, length, get_or, slice_index}
use Rattle.std.proofs.lemmas.List.Elements.{Contains-get_or}
use Rattle.std.proofs.lemmas.Option.{slice_get-get_or, slice_get_read}
use Rattle.ae_core.specs.declared.proofs.ClauseLine.{ClauseLine}
use Rattle.ae_trim.proofs.Keeping.{AreKeptTo, kept_next, kept_all}
use Rattle.ae_trim.proofs.trim.kept_lines.Goals as goal

pub offset_bounds-lines-place : goal.offset_bounds-lines-place
offset_bounds-lines-place c =
    let ks = c.args.places.now in let i = c.loop-place.place-index in
    let w = c.requires.within (get_or ks i 0) (Contains-get_or ks i 0 c.loop-place-test.true) in
    omega (arith, w)

pub bounds-lines-place : goal.bounds-lines-place
bounds-lines-place c =
    let ks = c.args.places.now in let i = c.loop-place.place-index in
    c.requires.within (get_or ks i 0) (Contains-get_or ks i 0 c.loop-place-test.true)

pub renumbered-requires : goal.renumbered-requires
renumbered-requires c =
    let ks = c.args.places.now in let i = c.loop-place.place-index in let k = get_or ks i 0 in let ls = c.args.lines.now in let l = c.index-lines-place.result in
    let w = c.requires.within k (Contains-get_or ks i 0 c.loop-place-test.true) in
    λ h m. c.requires.hints i k h l (slice_get-get_or ks i 0 c.loop-place-test.true) (slice_get_read ls (length ls) k l refl w c.index-lines-place.is) m

pub loop-place-preserved : goal.loop-place-preserved
loop-place-preserved c =
    let ks = c.args.places.now in let i = c.loop-place.place-index in let k = get_or ks i 0 in let ls = c.args.lines.now in let l = c.index-lines-place.result in
    let w = c.requires.within k (Contains-get_or ks i 0 c.loop-place-test.true) in
    subst (AreKeptTo (slice_index c.args.numbers.now) ls ks (i + 1)) (sym (c.in_ok-push.ensures.ok ∙ ap (λ (x : ClauseLine). c.loop-place.kept ++ x ∷ []) c.in_ok-renumbered.ensures))
    (kept_next (slice_index c.args.numbers.now) ls ks i k l c.loop-place.kept (slice_get-get_or ks i 0 c.loop-place-test.true) (slice_get_read ls (length ls) k l refl w c.index-lines-place.is) c.loop-place.invariant)

pub returns : goal.returns
returns c =
    let ks = c.args.places.now in
    let t = c.loop-place-test.false in let b = c.loop-place.auto.place-index-end in
    let all : c.loop-place.place-index ≡ length ks = omega (arith, t, b) in
    kept_all (slice_index c.args.numbers.now) c.args.lines.now ks c.loop-place.kept
    (subst (λ n. AreKeptTo (slice_index c.args.numbers.now) c.args.lines.now ks n c.loop-place.kept) all c.loop-place.invariant)
