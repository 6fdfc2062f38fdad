use Rattle.std.specs.Prelude.{◌+◌, List, length}
use Rattle.std.proofs.Common.{refl, sym, ap, subst, arith}
use Rattle.ae_journal.specs.Journals.{after_line}
use Rattle.ae_journal.specs.declared.lines.Line.{Line}
use Rattle.ae_journal.specs.declared.lines.Line.TheVariants as written
use Rattle.ae_gaps.specs.Inner.Places.{IsPlaced}
use Rattle.ae_gaps.proofs.FirstPlaces.{after_other, no_decision, placed_other, placed_back, decide_apart}
use Rattle.ae_gaps.proofs.orders.moved.Goals as goal

pub returns-in-Decide-clause-placed : goal.returns-in-Decide-clause-placed
returns-in-Decide-clause-placed c lines p =
    let x = written.Pair c.args.symbol.now c.args.left.now c.args.right.now in
    let l = c.in-Decide.field-0 in
    subst (λ (j : Line). IsPlaced (after_line lines j) x (record { decided = c.args.place.decided + 1; noted = c.args.place.noted })) (sym c.in-Decide.is)
    (placed_other lines x c.args.place p (written.Decide l) (record { decided = c.args.place.decided + 1; noted = c.args.place.noted })
    (decide_apart l c.args.symbol.now c.args.left.now c.args.right.now) refl refl)

pub returns-in-Back-clause-placed : goal.returns-in-Back-clause-placed
returns-in-Back-clause-placed c lines p =
    let u = c.args.symbol.now in
    let a = c.args.left.now in
    let b = c.args.right.now in
    subst (λ (j : Line). IsPlaced (after_line lines j) (written.Pair u a b) (record { decided = c.lesser.result; noted = c.still_noted.result })) (sym c.in-Back.is)
    (placed_back lines u a b c.args.place p c.in-Back.kept (record { decided = c.lesser.result; noted = c.still_noted.result }) c.lesser.ensures c.still_noted.ensures.stays c.still_noted.ensures.gone)

pub returns-else-pairs_sides : goal.returns-else-pairs_sides
returns-else-pairs_sides c =
    let x = written.Pair c.args.symbol.now c.args.left.now c.args.right.now in
    let j = c.args.line.now in
    record {
      placed = λ lines p.
          subst (λ (ls : List Line). IsPlaced ls x c.args.place) (sym (after_other lines j c.in_default.not-Back))
          (placed_other lines x c.args.place p j c.args.place (rw c.if-pairs_sides.false at c.pairs_sides.ensures) (omega (arith, ap length (no_decision j c.in_default.not-Decide))) refl);
      few = omega arith;
    }
