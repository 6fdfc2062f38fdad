use Rattle.std.proofs.Common.{cond, [], ◌∷◌, ◌++◌, Bool, sym, ap, ◌∙◌, append-nil}
use Rattle.std.proofs.lemmas.Result.{on_ok_weaker}
use Rattle.ae_brought_clauses.proofs.fallen.push_unless.Goals as goal

pub returns-then-aged : goal.returns-then-aged
returns-then-aged c = sym (append-nil c.args.places.now) ∙ ap (λ (b : Bool). c.args.places.now ++ cond b [] (c.args.place ∷ [])) (sym c.if-aged.true)

pub returns : goal.returns
returns c = on_ok_weaker c.push.result (λ h. h ∙ ap (λ (b : Bool). c.args.places.now ++ cond b [] (c.args.place ∷ [])) (sym c.if-aged.false)) c.push.ensures.ok
