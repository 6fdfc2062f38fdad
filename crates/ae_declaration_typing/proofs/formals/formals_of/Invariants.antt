use Rattle.std.proofs.Common.{ℕ, map, drop}
use Rattle.std.specs.List.{AllByRecursion}
use Rattle.ae_core.specs.declared.terms.Sort.{Sort}
use Rattle.ae_declaration_typing.proofs.FormalLaws.{Formals}
use Rattle.ae_elab.specs.Names.{IsName}
use Rattle.ae_elab.specs.Typings.{bound_in}
use Rattle.ae_declaration_typing.proofs.formals.formals_of.Given as goal

abbrev pub invariant-loop-formal : goal.invariant-loop-formal
invariant-loop-formal l = record {
  bounds : (m : ℕ → Sort) → Formals l.context.text.now l.context.known l.formals m l.fn.passing l.passing (map (bound_in l.context.text.now) l.bounds) l.seen (drop l.formal-index l.formals);
  names : AllByRecursion (λ b. IsName l.context.text.now b.name) l.bounds;
}
