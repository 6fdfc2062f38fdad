use Rattle.std.proofs.Common.{◌≡◌, ◌∙◌, ◌<◌, ℕ, List, Some, length, get_or, slice_index, refl, sym, ap, subst, arith}
use Rattle.std.specs.Prelude.{not}
use Rattle.std.proofs.lemmas.Result.{IfOk-weaker}
use Rattle.ae_core.specs.declared.formulas.Lit.{Lit}
use Rattle.ae_rules.specs.Clauses.{opposite}
use Rattle.ae_explain.specs.Assignments.{number_in}
use Rattle.ae_explain.specs.Trail.{at}
use Rattle.ae_propagation.specs.Watched.{against}
use Rattle.ae_propagation.specs.Inner.Finding.{none_listed, side, holders}
use Rattle.ae_propagation.proofs.Listing.{holder_within, holders_length}
use Rattle.ae_propagation.proofs.Fitting.{found_list}
use Rattle.ae_propagation.proofs.Watching.{LookedAt, LookedAgainst, looked}
use Rattle.ae_propagation.proofs.propagation.look_against.Goals as goal

pub numbers_against-numbers-requires : goal.numbers_against-numbers-requires
numbers_against-numbers-requires g c =
    let fit = c.requires.fit in
    let f = (at c.args.trail.now.assigned c.args.place).lit.formula in
    let n = c.number_at-number.result in
    let k : number_in c.args.trail.now.numbers f ≡ Some n = c.number_at-number.ensures in
    record { within = fit.is_table.within f n k }

pub look_at_each-requires-clause-within : goal.look_at_each-requires-clause-within
look_at_each-requires-clause-within g c =
    let fit = c.requires.fit in
    let a = at c.args.trail.now.assigned c.args.place in
    let n = c.number_at-number.result in
    let k : number_in c.args.trail.now.numbers a.lit.formula ≡ Some n = c.number_at-number.ensures in
    let table = c.args.coded.now.table.items in
    let e : c.numbers_against-numbers.result.now ≡ holders c.args.coded.now.clauses (opposite a.lit) =
    c.numbers_against-numbers.ensures ∙ (ap (λ (l : Lit). side (not l.positive) (get_or table n none_listed)) c.lit_at.ensures ∙ found_list (number_in c.args.trail.now.numbers) table c.args.coded.now.clauses a.lit n fit.each k) in
    let u = c.args.coded.now.clauses in
    let l : Lit = (at c.args.trail.now.assigned c.args.place).lit in
    subst (λ (xs : List ℕ). (i : ℕ) → i < length xs → slice_index xs i < length u) (sym e) (λ i h. holder_within u (opposite l) i h)

pub returns-clause-says : goal.returns-clause-says
returns-clause-says g c =
    let fit = c.requires.fit in
    let a = at c.args.trail.now.assigned c.args.place in
    let n = c.number_at-number.result in
    let k : number_in c.args.trail.now.numbers a.lit.formula ≡ Some n = c.number_at-number.ensures in
    let table = c.args.coded.now.table.items in
    let e : c.numbers_against-numbers.result.now ≡ holders c.args.coded.now.clauses (opposite a.lit) =
    c.numbers_against-numbers.ensures ∙ (ap (λ (l : Lit). side (not l.positive) (get_or table n none_listed)) c.lit_at.ensures ∙ found_list (number_in c.args.trail.now.numbers) table c.args.coded.now.clauses a.lit n fit.each k) in
    let u = c.args.coded.now.clauses in
    let t = c.args.trail.now.assigned in
    let new = c.look_at_each.new.trail.assigned in
    IfOk-weaker c.look_at_each.result (LookedAt t new u c.numbers_against-numbers.result.now) (LookedAgainst new u c.args.place)
    (looked t new u u c.numbers_against-numbers.result.now c.args.place refl e c.requires.within c.look_at_each.ensures.grown c.requires.quiet) c.look_at_each.ensures.says

pub returns-clause-steps : goal.returns-clause-steps
returns-clause-steps g c =
    let fit = c.requires.fit in
    let a = at c.args.trail.now.assigned c.args.place in
    let n = c.number_at-number.result in
    let k : number_in c.args.trail.now.numbers a.lit.formula ≡ Some n = c.number_at-number.ensures in
    let table = c.args.coded.now.table.items in
    let e : c.numbers_against-numbers.result.now ≡ holders c.args.coded.now.clauses (opposite a.lit) =
    c.numbers_against-numbers.ensures ∙ (ap (λ (l : Lit). side (not l.positive) (get_or table n none_listed)) c.lit_at.ensures ∙ found_list (number_in c.args.trail.now.numbers) table c.args.coded.now.clauses a.lit n fit.each k) in
    let u = c.args.coded.now.clauses in
    let q : length c.numbers_against-numbers.result.now ≡ against u a = ap length e ∙ holders_length u (opposite a.lit) in
    omega (arith, q, c.look_at_each.ensures.steps)
