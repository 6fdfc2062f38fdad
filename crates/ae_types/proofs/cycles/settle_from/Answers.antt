use Rattle.std.proofs.Common.{◌≡◌, ◌∙◌, ◌≢◌, ℕ, ◌<◌, refl, sym, subst, ap, length, get_or}
use Rattle.std.proofs.lemmas.List.{get_or_default}
use Rattle.std.proofs.lemmas.Result.{on_ok_weaker}
use Rattle.ae_types.specs.declared.cycles.Mark.TheVariants.{New}
use Rattle.ae_types.specs.Inner.Graphs.{slots_of}
use Rattle.ae_types.specs.Inner.Walks.{mark_at}
use Rattle.ae_types.proofs.GraphLaws.{graph_slots, slots_length}
use Rattle.ae_types.proofs.OrderLaws.{all_new, walked_settles}
use Rattle.ae_types.proofs.WalkLaws.{fresh_walks}
use Rattle.ae_types.proofs.cycles.settle_from.Goals as goal

pub visit_all-result-requires-clause-walking : goal.visit_all-result-requires-clause-walking
visit_all-result-requires-clause-walking c =
    let s = slots_of c.args.nodes.now c.args.classes.now in
    let l = slots_length c.args.nodes.now c.args.classes.now in
    let own = c.replace-own.ensures.value in
    let new : (i : ℕ) → mark_at c.replace-own.result i ≡ New = λ i. ap (λ ms. mark_at ms i) own ∙ c.requires.new i in
    let long : length c.replace-own.result ≡ length s = ap length own ∙ c.requires.size ∙ sym l in
    fresh_walks s _ (record { marks = long; new = new; empty = all_new c.replace-own.result new ∙ long; path = c.new-2.ensures; done = refl })

pub forget-requires : goal.forget-requires
forget-requires c =
    let own = c.replace-own.ensures.value in
    c.visit_all-result.ensures.notes.noted (λ i h. absurd (h (ap (λ ms. mark_at ms i) own ∙ c.requires.new i)))

pub returns-clause-ok : goal.returns-clause-ok
returns-clause-ok c =
    let s = slots_of c.args.nodes.now c.args.classes.now in
    on_ok_weaker c.visit_all-result.result
    (λ v. walked_settles s c.args.joined.now c.visit_all-result.new.walk (graph_slots c.args.nodes.now c.args.classes.now c.requires.well) c.requires.loosened v.walking v.path
    (λ j a h. (let k = h.0 in let e = h.2 in
    let x : get_or c.args.joined.now k 0 ≡ j = get_or_default c.args.joined.now k 0 j h.1 ∙ e in
    subst (λ i. mark_at c.visit_all-result.new.walk.marks i ≢ New) x (v.seen k h.1 (subst (λ i. i < length s) (sym x) a)))))
    c.visit_all-result.ensures.ok

pub returns-clause-size : goal.returns-clause-size
returns-clause-size c = c.forget.ensures.size ∙ c.visit_all-result.ensures.notes.size ∙ ap length c.replace-own.ensures.value
