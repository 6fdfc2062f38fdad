use Rattle.std.proofs.Common.{◌≡◌, ◌∙◌, ℕ, List, Bool, Option, sym, subst}
use Rattle.ae_explain.specs.Assignments.{Assignment, number_in}
use Rattle.ae_explain.specs.Inner.Index.{IsIndex}
use Rattle.ae_explain.specs.Trail.{place_in}
use Rattle.ae_explain.proofs.Indexing.{within_of}
use Rattle.ae_explain.proofs.Places.{there}
use Rattle.ae_explain.proofs.Valuing.{FoundBy, found_by, unnumbered}
use Rattle.ae_explain.proofs.trail.Trail.place_of.Goals as goal

pub returns-in-Some-clause-place : goal.returns-in-Some-clause-place
returns-in-Some-clause-place c =
    let v = c.args.self.now in
    let n = c.in-Some.number in
    let f = c.args.formula.now in
    let r = c.place_by.result in
    let standing = c.self.inside.standing in
    let values = c.self.inside.values in
    let places = c.self.inside.places in
    let h : IsIndex (number_in v.numbers) v.assigned standing values places = subst (λ (w : Assignment). IsIndex (number_in w.numbers) w.assigned standing values places) c.self.view_is c.self.invariant in
    let m : FoundBy values places n r =
    subst (λ (w : List ℕ). FoundBy values w n r) c.as_slice-in-Some.ensures (subst (λ (w : List (Option Bool)). FoundBy w c.as_slice-in-Some.result.now n r) c.as_slice.ensures c.place_by.ensures) in
    let e : r ≡ place_in v.assigned f = found_by (number_in v.numbers) v.assigned standing values places f n h (sym c.number_of.ensures ∙ c.in-Some.is) r m in
    e

pub returns-in-Some-clause-only : goal.returns-in-Some-clause-only
returns-in-Some-clause-only c p l q =
    let v = c.args.self.now in
    let n = c.in-Some.number in
    let f = c.args.formula.now in
    let r = c.place_by.result in
    let standing = c.self.inside.standing in
    let values = c.self.inside.values in
    let places = c.self.inside.places in
    let h : IsIndex (number_in v.numbers) v.assigned standing values places = subst (λ (w : Assignment). IsIndex (number_in w.numbers) w.assigned standing values places) c.self.view_is c.self.invariant in
    let m : FoundBy values places n r =
    subst (λ (w : List ℕ). FoundBy values w n r) c.as_slice-in-Some.ensures (subst (λ (w : List (Option Bool)). FoundBy w c.as_slice-in-Some.result.now n r) c.as_slice.ensures c.place_by.ensures) in
    let e : r ≡ place_in v.assigned f = found_by (number_in v.numbers) v.assigned standing values places f n h (sym c.number_of.ensures ∙ c.in-Some.is) r m in
    e ∙ there v.assigned p f h.apart l q

pub returns-in-Some-clause-within : goal.returns-in-Some-clause-within
returns-in-Some-clause-within c =
    let v = c.args.self.now in
    let n = c.in-Some.number in
    let f = c.args.formula.now in
    let r = c.place_by.result in
    let standing = c.self.inside.standing in
    let values = c.self.inside.values in
    let places = c.self.inside.places in
    let h : IsIndex (number_in v.numbers) v.assigned standing values places = subst (λ (w : Assignment). IsIndex (number_in w.numbers) w.assigned standing values places) c.self.view_is c.self.invariant in
    let m : FoundBy values places n r =
    subst (λ (w : List ℕ). FoundBy values w n r) c.as_slice-in-Some.ensures (subst (λ (w : List (Option Bool)). FoundBy w c.as_slice-in-Some.result.now n r) c.as_slice.ensures c.place_by.ensures) in
    let e : r ≡ place_in v.assigned f = found_by (number_in v.numbers) v.assigned standing values places f n h (sym c.number_of.ensures ∙ c.in-Some.is) r m in
    within_of v.assigned f r e

pub returns-in-None-clause-place : goal.returns-in-None-clause-place
returns-in-None-clause-place c =
    let v = c.args.self.now in
    let standing = c.self.inside.standing in
    let h : IsIndex (number_in v.numbers) v.assigned standing c.self.inside.values c.self.inside.places =
    subst (λ (w : Assignment). IsIndex (number_in w.numbers) w.assigned standing c.self.inside.values c.self.inside.places) c.self.view_is c.self.invariant in
    sym (unnumbered (number_in v.numbers) v.assigned standing c.args.formula.now h.numbered (sym c.number_of.ensures ∙ c.in-None.is))
