use Rattle.std.proofs.Common.{[], ◌∷◌, ◌++◌, refl}
use Rattle.ae_lex.proofs.Cuts.{gap_step, token_step, fault_found, end_found}
use Rattle.ae_lex.proofs.lexer.first_fault.Goals as goal

pub loop-byte-preserved-in-Gap : goal.loop-byte-preserved-in-Gap
loop-byte-preserved-in-Gap c = let i = c.loop-byte.invariant in (i.0, (gap_step c.args.text.now i.0 c.loop-byte.at c.in-Gap.to i.1 c.in-Gap.ensures).0)

pub loop-byte-preserved : goal.loop-byte-preserved
loop-byte-preserved c =
    let i = c.loop-byte.invariant in
    (i.0 ++ record { kind = c.in-Token.field-0; from = c.loop-byte.at; to = c.in-Token.to } ∷ [], (token_step c.args.text.now i.0 _ c.loop-byte.at c.in-Token.to c.in-Token.field-0 i.1 c.in-Token.ensures refl).0)

pub returns-in-Fault-clause-fault : goal.returns-in-Fault-clause-fault
returns-in-Fault-clause-fault c = let i = c.loop-byte.invariant in fault_found c.args.text.now i.0 c.loop-byte.at c.in-Fault.fault i.1 c.in-Fault.ensures

pub returns-clause-none : goal.returns-clause-none
returns-clause-none c = let i = c.loop-byte.invariant in (i.0, end_found c.args.text.now i.0 c.loop-byte.at i.1 c.in_default.ensures.none)
