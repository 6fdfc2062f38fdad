use Rattle.std.proofs.Common.{[], ◌∷◌, ◌++◌, ap, ◌∙◌}
use Rattle.ae_lex.proofs.Cuts.{gap_step, token_step, fault_found, end_found}
use Rattle.ae_lex.proofs.lexer.tokens.Goals as goal

pub loop-byte-preserved-in-Gap : goal.loop-byte-preserved-in-Gap
loop-byte-preserved-in-Gap c = (gap_step c.args.text.now c.loop-byte.found c.loop-byte.at c.in-Gap.to c.loop-byte.invariant c.in-Gap.ensures).0

pub loop-byte-preserved : goal.loop-byte-preserved
loop-byte-preserved c =
    let found = c.loop-byte.found in
    let k = c.in-Token.kind in
    let from = c.in_ok-narrow-in-Token.ensures in
    let to = c.in_ok-narrow-in-Token-2.ensures in
    let token =
    ap (λ z. record { kind = k; from = z; to = c.in_ok-narrow-in-Token-2.field-0 }) from ∙ ap (λ z. record { kind = k; from = c.loop-byte.at; to = z }) to in
    (token_step c.args.text.now found c.push.new.self c.loop-byte.at c.in-Token.to k c.loop-byte.invariant c.in-Token.ensures (c.in_ok-push-in-Token.ensures.ok ∙ ap (λ t. found ++ t ∷ []) token)).0

pub returns-in-Fault-clause-fault : goal.returns-in-Fault-clause-fault
returns-in-Fault-clause-fault c = λ m. fault_found c.args.text.now c.loop-byte.found c.loop-byte.at c.in-Fault.fault c.loop-byte.invariant c.in-Fault.ensures

pub returns-clause-tokens : goal.returns-clause-tokens
returns-clause-tokens c = end_found c.args.text.now c.loop-byte.found c.loop-byte.at c.loop-byte.invariant c.in_default.ensures.none
