use Rattle.std.proofs.Common.{◌≡◌, ◌++◌, ◌∷◌, [], ℕ, List, length, refl, ap, ◌∙◌}
use Rattle.std.proofs.lemmas.List.{length_push}
use Rattle.std.proofs.lemmas.Result.{on_ok_weaker}
use Rattle.ae_explain.specs.Inner.Index.{number_at}
use Rattle.ae_explain.proofs.Results.{either_way}
use Rattle.ae_explain.proofs.Valuing.{place_room}
use Rattle.ae_explain.proofs.trail.push_place.Goals as goal

pub returns-clause-ok : goal.returns-clause-ok
returns-clause-ok c = on_ok_weaker c.push.result (λ e. ap length e ∙ length_push c.args.places.now 0) c.push.ensures.ok

pub returns-clause-same : goal.returns-clause-same
returns-clause-same c n =
    let ps = c.args.places.now in
    either_way (λ (w : List ℕ). number_at w n ≡ number_at ps n) c.push.result ps (ps ++ 0 ∷ []) c.push.new.self c.push.ensures.ok c.push.ensures.err refl (place_room ps n)
