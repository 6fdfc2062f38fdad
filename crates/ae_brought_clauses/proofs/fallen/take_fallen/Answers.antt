use Rattle.std.proofs.Common.{sym, subst, ◌∙◌, ap, List, ℕ, slice_get}
use Rattle.std.proofs.lemmas.Option.{slice_get_within}
use Rattle.ae_brought_clauses.specs.Inner.Bringing.{AreWithin, AreNotAged}
use Rattle.ae_brought_clauses.proofs.Places.{taken_out}
use Rattle.ae_brought_clauses.proofs.fallen.take_fallen.Goals as goal

pub find_fallen-requires : goal.find_fallen-requires
find_fallen-requires c = subst (AreWithin c.args.opened.now) (sym c.as_slice.ensures) c.requires

pub returns-in-None : goal.returns-in-None
returns-in-None c = subst (AreNotAged c.args.opened.now c.args.generation c.args.ages.now) c.as_slice.ensures c.in-None.ensures

pub remove-requires : goal.remove-requires
remove-requires c =
    let w = c.in-Some.ensures in
    slice_get_within c.args.places.now c.in-Some.at w.0 (ap (λ (zs : List ℕ). slice_get zs c.in-Some.at) (sym c.as_slice.ensures) ∙ w.1)

pub returns-in-Some : goal.returns-in-Some
returns-in-Some c =
    let w = c.in-Some.ensures in
    taken_out c.args.opened.now c.args.generation c.args.ages.now c.args.places.now c.remove.new.self c.in-Some.at w.0 c.remove.result
    (ap (λ (zs : List ℕ). slice_get zs c.in-Some.at) (sym c.as_slice.ensures) ∙ w.1) w.2 c.remove.ensures.item c.remove.ensures.rest
