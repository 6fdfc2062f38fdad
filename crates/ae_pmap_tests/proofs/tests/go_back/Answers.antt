use Rattle.std.proofs.Common.{List, sym, subst}
use Rattle.std.specs.List.{All}
use Rattle.std.proofs.lemmas.List.Elements.{All-push}
use Rattle.ae_pmap_tests.specs.declared.tests.Moment.{Moment}
use Rattle.ae_pmap.specs.Forest.{IsRoot}
use Rattle.ae_pmap.proofs.Values.{fits_lasts}
use Rattle.ae_pmap_tests.proofs.tests.go_back.Goals as goal

pub loop-turn-preserved : goal.loop-turn-preserved
loop-turn-preserved g c =
    subst (λ (w : List Moment). All (λ m. IsRoot c.change.new.map m.version) w) (sym c.in_ok-push.ensures.items)
    (All-push (λ (m : Moment). IsRoot c.change.new.map m.version) c.loop-turn.moments.items _
    (λ k d h. fits_lasts c.loop-turn.map c.change.new.map _ c.in_ok-change.ensures.lasts (c.loop-turn.invariant k d h)) c.share-version.ensures.version.fits)

pub loop-turn-2-preserved : goal.loop-turn-2-preserved
loop-turn-2-preserved g c = λ k d h. fits_lasts c.loop-turn-2.map c.check_back.new.map _ c.check_back.ensures (c.loop-turn-2.invariant k d h)
