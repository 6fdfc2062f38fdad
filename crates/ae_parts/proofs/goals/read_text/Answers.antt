use Rattle.std.proofs.Common.{arith}
use Rattle.std.proofs.lemmas.List.{drop_all}
use Rattle.ae_parts.specs.Codes.{parts_code}
use Rattle.ae_proofreader.proofs.WholeReading.{stands_in, whole_behind, whole_faulty, whole_read}
use Rattle.ae_parts.proofs.Readable.{at_none, faulty_none}
use Rattle.ae_parts.proofs.goals.read_text.Goals as goal

pub returns-in-Err-clause-exact : goal.returns-in-Err-clause-exact
returns-in-Err-clause-exact c = whole_faulty (parts_code c.args.tables.now.terms.signature.now c.args.names.now) c.args.text.now c.in-Err.fault c.in-Err.ensures.read

pub returns-in-Err-clause-within : goal.returns-in-Err-clause-within
returns-in-Err-clause-within c = stands_in (parts_code c.args.tables.now.terms.signature.now c.args.names.now) c.args.text.now c.in-Err.fault c.in-Err.ensures.read c.in-Err.ensures.onward

pub returns-then-end-text-clause-exact : goal.returns-then-end-text-clause-exact
returns-then-end-text-clause-exact c =
    whole_behind (parts_code c.args.tables.now.terms.signature.now c.args.names.now) c.args.text.now c.in-Ok.parts c.in-Ok.end c.in-Ok.ensures.read (omega arith)

pub returns-else-end-text-clause-exact : goal.returns-else-end-text-clause-exact
returns-else-end-text-clause-exact c =
    whole_read (parts_code c.args.tables.now.terms.signature.now c.args.names.now) c.args.text.now c.in-Ok.parts c.in-Ok.end c.in-Ok.ensures.read (drop_all c.in-Ok.end c.args.text.now (omega arith))

pub returns-in-Err-clause-none : goal.returns-in-Err-clause-none
returns-in-Err-clause-none c = λ told parts. faulty_none (parts_code c.args.tables.now.terms.signature.now c.args.names.now) c.args.text.now parts c.in-Err.fault c.in-Err.ensures.read told

pub returns-then-end-text-clause-none : goal.returns-then-end-text-clause-none
returns-then-end-text-clause-none c =
    let code = parts_code c.args.tables.now.terms.signature.now c.args.names.now in
    λ told parts. at_none code c.args.text.now parts c.in-Ok.end (whole_behind code c.args.text.now c.in-Ok.parts c.in-Ok.end c.in-Ok.ensures.read (omega arith))
