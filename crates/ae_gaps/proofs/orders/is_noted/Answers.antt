use Rattle.std.specs.List.{Contains}
use Rattle.std.specs.Prelude.{◌≡◌, Bool, List, take, MatchBool, Some}
use Rattle.std.proofs.lemmas.List.{take_all}
use Rattle.std.proofs.Common.{refl, sym, ap, ◌∙◌, subst, arith}
use Rattle.std.proofs.lemmas.Option.{slice_get-get_or}
use Rattle.ae_journal.specs.Journals.{live}
use Rattle.ae_journal.specs.declared.lines.Line.{Line}
use Rattle.ae_journal.specs.declared.lines.Line.TheVariants as written
use Rattle.ae_gaps.specs.Inner.Places.{IsPlaced}
use Rattle.ae_gaps.proofs.FirstPlaces.{placed_none, live_taken, placed_end}
use Rattle.ae_gaps.proofs.orders.is_noted.Goals as goal

pub loop-line-init : goal.loop-line-init
loop-line-init c = record { placed = placed_none (written.Pair c.args.symbol.now c.args.left.now c.args.right.now) _ refl refl; few = omega arith }

pub loop-line-preserved : goal.loop-line-preserved
loop-line-preserved c =
    let x = written.Pair c.args.symbol.now c.args.left.now c.args.right.now in
    let i = c.loop-line.line-index in
    let j = c.line-item.result in
    let at = slice_get-get_or c.args.lines.now i j c.loop-line-test.true ∙ ap Some (sym c.line-item.is) in
    record {
      placed =
          subst (λ (ls : List Line). IsPlaced ls x c.moved-place.result) (sym (live_taken c.args.lines.now i j at))
          (c.moved-place.ensures.placed (live (take i c.args.lines.now)) c.loop-line.invariant.placed);
      few = omega (arith, c.moved-place.ensures.few, c.loop-line.invariant.few);
    }

pub returns : goal.returns
returns c =
    let x = written.Pair c.args.symbol.now c.args.left.now c.args.right.now in
    let lines = c.args.lines.now in
    let place = c.loop-line.place in
    let whole : take c.loop-line.line-index lines ≡ lines = take_all c.loop-line.line-index lines (omega (arith, c.loop-line-test.false)) in
    let placed : IsPlaced (live lines) x place = subst (λ (ls : List Line). IsPlaced (live ls) x place) whole c.loop-line.invariant.placed in
    subst (λ (b : Bool). MatchBool b (Contains (live lines) x) (Contains (live lines) x → ⊥)) (sym c.is_some.ensures) (placed_end (live lines) x place placed place.noted refl)
