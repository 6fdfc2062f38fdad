use Rattle.std.specs.Prelude.{Bool, List, map}
use Rattle.std.proofs.Common.{◌∙◌, ap, length, subst}
use Rattle.std.proofs.lemmas.List.{length-map}
use Rattle.ae_explain.specs.declared.trail.Assigned.{Assigned}
use Rattle.ae_sure_literals.specs.Inner.Closing.{Closes, is_decision}
use Rattle.ae_sure_literals.proofs.sure.closed_flags.Goals as goal

pub close-requires : goal.close-requires
close-requires c = record { long = ap length c.in_ok-flags.ensures ∙ length-map c.as_slice.result.now is_decision ∙ ap length c.as_slice.ensures.value }

pub returns : goal.returns
returns c =
    let t = c.args.trail.now.assigned in
    subst (λ (fs : List Bool). Closes t c.args.clauses.now fs c.close.new.flags) (c.in_ok-flags.ensures ∙ ap (λ (s : List Assigned). map is_decision s) c.as_slice.ensures.value) c.in_ok-close.ensures
