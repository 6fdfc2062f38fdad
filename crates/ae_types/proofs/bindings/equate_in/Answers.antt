use Rattle.std.proofs.Common.{◌∷◌, [], ◌≡◌, ◌∙◌, ap, sym, subst, arith, length}
use Rattle.std.proofs.lemmas.Result.{err_from_is_err_and}
use Rattle.ae_types.specs.Inner.Enters.{sheet}
use Rattle.ae_types.specs.Bound.{bound, IsSound}
use Rattle.ae_types.specs.Substitutions.{Respects, MakesEqual}
use Rattle.ae_types.proofs.EnterLaws.{grows_trans, stands_more}
use Rattle.ae_types.proofs.UnifyLaws.{grown_sound, bound_kept, joined_sound, equated, blamed_pair, on_err, sheets_same}
use Rattle.ae_types.proofs.OrderLaws.{unmarked_more}
use Rattle.ae_types.proofs.bindings.equate_in.Goals as goal

pub returns-in_err-first-clause-sound : goal.returns-in_err-first-clause-sound
returns-in_err-first-clause-sound c = grown_sound (sheet c.args.graph.now) (sheet c.enter.new.graph) c.requires.sound c.in_err-first.ensures.grows

pub returns-in_err-first-clause-refused : goal.returns-in_err-first-clause-refused
returns-in_err-first-clause-refused c = on_err c.from_residual.result _ (bound_kept (sheet c.args.graph.now) (sheet c.enter.new.graph) c.requires.sound c.in_err-first.ensures.grows)

pub returns-in_err-second-clause-sound : goal.returns-in_err-second-clause-sound
returns-in_err-second-clause-sound c =
    grown_sound (sheet c.args.graph.now) (sheet c.enter-2.new.graph) c.requires.sound
    (grows_trans (sheet c.args.graph.now) (sheet c.enter.new.graph) (sheet c.enter-2.new.graph) c.in_ok-first.ensures.grows c.in_err-second.ensures.grows)

pub returns-in_err-second-clause-refused : goal.returns-in_err-second-clause-refused
returns-in_err-second-clause-refused c =
    on_err c.from_residual-in_err-second.result _
    (bound_kept (sheet c.args.graph.now) (sheet c.enter-2.new.graph) c.requires.sound
    (grows_trans (sheet c.args.graph.now) (sheet c.enter.new.graph) (sheet c.enter-2.new.graph) c.in_ok-first.ensures.grows c.in_err-second.ensures.grows))

pub returns-clause-sound : goal.returns-clause-sound
returns-clause-sound c =
    let t = sheet c.enter-2.new.graph in
    let g = grows_trans (sheet c.args.graph.now) (sheet c.enter.new.graph) t c.in_ok-first.ensures.grows c.in_ok-second.ensures.grows in
    let e = c.in_ok-join.ensures in
    subst IsSound (sheets_same t (sheet c.join.new.graph) e.nodes e.names)
    (joined_sound t (grown_sound (sheet c.args.graph.now) t c.requires.sound g) c.join.new.graph.classes (record { left = c.in_ok-first.first; right = c.in_ok-second.second } ∷ []) e.closed e.settled)

pub returns-clause-respected : goal.returns-clause-respected
returns-clause-respected c = λ f.
    (let t = sheet c.enter-2.new.graph in
    let g = grows_trans (sheet c.args.graph.now) (sheet c.enter.new.graph) t c.in_ok-first.ensures.grows c.in_ok-second.ensures.grows in
    let e = c.in_ok-join.ensures in
    subst (λ x. (Respects f (bound x) → Respects f (bound (sheet c.args.graph.now)) × MakesEqual f c.args.left.now c.args.right.now)
    × (Respects f (bound (sheet c.args.graph.now)) × MakesEqual f c.args.left.now c.args.right.now → Respects f (bound x)))
    (sheets_same t (sheet c.join.new.graph) e.nodes e.names)
    (equated (sheet c.args.graph.now) t c.requires.sound g c.args.left.now c.args.right.now c.in_ok-first.first c.in_ok-second.second
    (stands_more (sheet c.enter.new.graph) t c.args.left.now c.in_ok-first.first c.in_ok-first.ensures.grows.well c.in_ok-second.ensures.grows c.in_ok-first.ensures.ok) c.in_ok-second.ensures.ok
    c.join.new.graph.classes e.closed e.settled f))

pub returns-in_err-join-clause-sound : goal.returns-in_err-join-clause-sound
returns-in_err-join-clause-sound c =
    let t = sheet c.enter-2.new.graph in
    let g = grows_trans (sheet c.args.graph.now) (sheet c.enter.new.graph) t c.in_ok-first.ensures.grows c.in_ok-second.ensures.grows in
    let e = c.in_err-join.ensures in
    subst IsSound (ap (λ xs. record { nodes = t.nodes; classes = xs; names = t.names }) (sym e.err) ∙ sheets_same t (sheet c.join.new.graph) e.nodes e.names)
    (grown_sound (sheet c.args.graph.now) t c.requires.sound g)

pub returns-in_err-join-clause-refused : goal.returns-in_err-join-clause-refused
returns-in_err-join-clause-refused c = on_err c.from_residual-in_err-join.result _ (λ n.
    let t = sheet c.enter-2.new.graph in
    let g = grows_trans (sheet c.args.graph.now) (sheet c.enter.new.graph) t c.in_ok-first.ensures.grows c.in_ok-second.ensures.grows in
    let e = c.in_err-join.ensures in
    subst (λ x. bound x n ≡ bound (sheet c.args.graph.now) n) (ap (λ xs. record { nodes = t.nodes; classes = xs; names = t.names }) (sym e.err) ∙ sheets_same t (sheet c.join.new.graph) e.nodes e.names)
    (bound_kept (sheet c.args.graph.now) t c.requires.sound g n))

pub returns-in_err-join-clause-blamed : goal.returns-in_err-join-clause-blamed
returns-in_err-join-clause-blamed c =
    let p = err_from_is_err_and c.from_residual-in_err-join.result c.from_residual-in_err-join.ensures.1 in
    let t = sheet c.enter-2.new.graph in
    let g = grows_trans (sheet c.args.graph.now) (sheet c.enter.new.graph) t c.in_ok-first.ensures.grows c.in_ok-second.ensures.grows in
    rw (p.1, p.2) (blamed_pair (sheet c.args.graph.now) t c.requires.sound g c.args.left.now c.args.right.now c.in_ok-first.first c.in_ok-second.second
    (stands_more (sheet c.enter.new.graph) t c.args.left.now c.in_ok-first.first c.in_ok-first.ensures.grows.well c.in_ok-second.ensures.grows c.in_ok-first.ensures.ok) c.in_ok-second.ensures.ok
    c.in_err-join.field-0.0 c.in_err-join.ensures.blamed)

pub extend-requires : goal.extend-requires
extend-requires c =
    let g = grows_trans (sheet c.args.graph.now) (sheet c.enter.new.graph) (sheet c.enter-2.new.graph) c.in_ok-first.ensures.grows c.in_ok-second.ensures.grows in
    unmarked_more c.args.marks.now (length c.args.graph.now.nodes) _ (omega (arith, g.longer, g.well.graph.lengths, c.len.ensures)) c.requires.unmarked

pub join-requires-clause-settled : goal.join-requires-clause-settled
join-requires-clause-settled c =
    let t = sheet c.enter-2.new.graph in
    let g = grows_trans (sheet c.args.graph.now) (sheet c.enter.new.graph) t c.in_ok-first.ensures.grows c.in_ok-second.ensures.grows in
    (grown_sound (sheet c.args.graph.now) t c.requires.sound g).settled

pub join-requires-clause-size : goal.join-requires-clause-size
join-requires-clause-size c = c.in_ok-extend.ensures.size ∙ c.len.ensures

pub join-requires-clause-new : goal.join-requires-clause-new
join-requires-clause-new c = c.in_ok-extend.ensures.unmarked.new

pub returns-in_err-extend-clause-sound : goal.returns-in_err-extend-clause-sound
returns-in_err-extend-clause-sound c =
    let t = sheet c.enter-2.new.graph in
    grown_sound (sheet c.args.graph.now) t c.requires.sound
    (grows_trans (sheet c.args.graph.now) (sheet c.enter.new.graph) t c.in_ok-first.ensures.grows c.in_ok-second.ensures.grows)

pub returns-in_err-extend-clause-refused : goal.returns-in_err-extend-clause-refused
returns-in_err-extend-clause-refused c =
    let t = sheet c.enter-2.new.graph in
    on_err c.from_residual-in_err-extend.result _
    (bound_kept (sheet c.args.graph.now) t c.requires.sound
    (grows_trans (sheet c.args.graph.now) (sheet c.enter.new.graph) t c.in_ok-first.ensures.grows c.in_ok-second.ensures.grows))

pub returns-in_err-first-clause-unmarked : goal.returns-in_err-first-clause-unmarked
returns-in_err-first-clause-unmarked c = unmarked_more c.args.marks.now (length c.args.graph.now.nodes) _ c.in_err-first.ensures.grows.longer c.requires.unmarked

pub returns-in_err-second-clause-unmarked : goal.returns-in_err-second-clause-unmarked
returns-in_err-second-clause-unmarked c =
    let g = grows_trans (sheet c.args.graph.now) (sheet c.enter.new.graph) (sheet c.enter-2.new.graph) c.in_ok-first.ensures.grows c.in_err-second.ensures.grows in
    unmarked_more c.args.marks.now (length c.args.graph.now.nodes) _ g.longer c.requires.unmarked

pub returns-in_err-extend-clause-unmarked : goal.returns-in_err-extend-clause-unmarked
returns-in_err-extend-clause-unmarked c =
    let g = c.in_ok-second.ensures.grows in
    unmarked_more c.extend.new.marks c.len.result _ (omega (arith, g.well.graph.lengths, c.len.ensures)) c.in_err-extend.ensures.unmarked

pub returns-in_err-join-clause-unmarked : goal.returns-in_err-join-clause-unmarked
returns-in_err-join-clause-unmarked c =
    let e = c.in_err-join.ensures in
    let g = c.in_ok-second.ensures.grows in
    let n = ap length e.nodes in
    record { new = e.new; size = omega (arith, e.size, c.in_ok-extend.ensures.size, c.len.ensures, g.well.graph.lengths, n) }

pub returns-clause-unmarked : goal.returns-clause-unmarked
returns-clause-unmarked c =
    let e = c.in_ok-join.ensures in
    let g = c.in_ok-second.ensures.grows in
    let n = ap length e.nodes in
    record { new = e.new; size = omega (arith, e.size, c.in_ok-extend.ensures.size, c.len.ensures, g.well.graph.lengths, n) }
