use Rattle.std.specs.Prelude.{true, false, ◌≡◌, Bool, Some, slice_get}
use Rattle.std.proofs.Common.{sym, subst, ◌∙◌}
use Rattle.std.proofs.lemmas.Option.{slice_get_within}
use Rattle.std.proofs.lemmas.Result.{IfOk-weaker}
use Rattle.ae_base.proofs.ListFacts.{value_at}
use Rattle.ae_base.proofs.Results.{if_ok_both}
use Rattle.ae_journal.proofs.Splits.{contains_at}
use Rattle.ae_store.specs.Shapes.{shapes}
use Rattle.ae_store.specs.Terms.{terms}
use Rattle.ae_bounds.specs.declared.rows.Row.{Row}
use Rattle.ae_bound_blocks.specs.declared.derived.Grounds.{Grounds}
use Rattle.ae_bound_blocks.specs.Said.{kept, IsGiven}
use Rattle.ae_bound_solve.proofs.OneSort.{one_sort}
use Rattle.ae_bound_solve.proofs.derived.derive_row.Goals as goal

pub is_real-real-requires-clause-given : goal.is_real-real-requires-clause-given
is_real-real-requires-clause-given c k tag r at e = let g = c.requires.given r tag (contains_at c.args.rows.now k r at) e in slice_get_within c.args.given.now tag g.0 g.1

pub derive-requires-clause-given : goal.derive-requires-clause-given
derive-requires-clause-given c =
    let q = c.requires in
    let at = value_at c.args.rows.now c.args.place q.place in
    let s = one_sort c.args.store.now.signature (terms (shapes c.args.store.now.nodes)) c.args.rows.now c.args.given.now q.founded q.were_rounded q.given q.opaque c.args.place at.0 at.1 in
    (s.2 c.is_real-real.result (c.is_real-real.ensures s.0 s.1)).0

pub derive-requires-clause-opaque : goal.derive-requires-clause-opaque
derive-requires-clause-opaque c =
    let q = c.requires in
    let at = value_at c.args.rows.now c.args.place q.place in
    let s = one_sort c.args.store.now.signature (terms (shapes c.args.store.now.nodes)) c.args.rows.now c.args.given.now q.founded q.were_rounded q.given q.opaque c.args.place at.0 at.1 in
    (s.2 c.is_real-real.result (c.is_real-real.ensures s.0 s.1)).1

pub returns-clause-said : goal.returns-clause-said
returns-clause-said c =
    let sig = c.args.store.now.signature in
    let ts = (terms (shapes c.args.store.now.nodes)) in
    let real = c.is_real-real.result in
    if_ok_both c.derive.result (λ (g : Grounds). (row : Row) → slice_get c.args.rows.now c.args.place ≡ Some row → IsGiven sig ts real (kept row) g.given) (λ (g : Grounds). g.given.real ≡ real)
    (λ (g : Grounds). (row : Row) → slice_get c.args.rows.now c.args.place ≡ Some row → IsGiven sig ts g.given.real (kept row) g.given)
    (λ g a b row e. subst (λ (x : Bool). IsGiven sig ts x (kept row) g.given) (sym b) (a row e)) c.derive.ensures.said c.derive.ensures.sort

pub returns-clause-sort : goal.returns-clause-sort
returns-clause-sort c =
    let q = c.requires in
    IfOk-weaker c.derive.result (λ (g : Grounds). g.given.real ≡ c.is_real-real.result) (λ (g : Grounds). (row : Row) → slice_get c.args.rows.now c.args.place ≡ Some row → row.integral ≡ true → g.given.real ≡ false)
    (λ g b row e i.
    let s = one_sort c.args.store.now.signature (terms (shapes c.args.store.now.nodes)) c.args.rows.now c.args.given.now q.founded q.were_rounded q.given q.opaque c.args.place row e in
    b ∙ c.is_real-real.ensures s.0 s.1 ∙ s.3 i) c.derive.ensures.sort
