use Rattle.std.proofs.Common.{◌≡◌, ◌++◌, ◌∷◌, [], List, Bool, Option, None, length, refl, ap, ◌∙◌}
use Rattle.std.proofs.lemmas.List.{length_push}
use Rattle.std.proofs.lemmas.Result.{on_ok_weaker}
use Rattle.ae_explain.specs.Inner.Index.{value_at}
use Rattle.ae_explain.proofs.Results.{either_way}
use Rattle.ae_explain.proofs.Valuing.{value_room}
use Rattle.ae_explain.proofs.trail.push_value.Goals as goal

pub returns-clause-ok : goal.returns-clause-ok
returns-clause-ok c = on_ok_weaker c.push.result (λ e. ap length e ∙ length_push c.args.values.now None) c.push.ensures.ok

pub returns-clause-same : goal.returns-clause-same
returns-clause-same c n =
    let vs = c.args.values.now in
    either_way (λ (w : List (Option Bool)). value_at w n ≡ value_at vs n) c.push.result vs (vs ++ None ∷ []) c.push.new.self c.push.ensures.ok c.push.ensures.err refl (value_room vs n)
