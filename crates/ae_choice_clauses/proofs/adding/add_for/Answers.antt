use Rattle.std.proofs.Common.{sym, subst, inr}
use Rattle.ae_base.proofs.Results.{on_ok_always}
use Rattle.ae_core.specs.Signatures.{IsLawful}
use Rattle.ae_choice_clauses.specs.Inner.Added.{left_out}
use Rattle.ae_choice_clauses.proofs.Constructors.{all_known, names_choices}
use Rattle.ae_choice_clauses.proofs.adding.add_for.Goals as goal

pub name_constructors-requires-clause-known : goal.name_constructors-requires-clause-known
name_constructors-requires-clause-known c =
    all_known c.args.signature.now (subst IsLawful (sym c.requires.same) c.len-names.ensures.store.lawful) c.args.term.now c.args.heads.now c.requires.choices

pub returns-then-is_choice : goal.returns-then-is_choice
returns-then-is_choice c = record {
  named = names_choices c.args.signature.now (subst IsLawful (sym c.requires.same) c.len-names.ensures.store.lawful) c.args.term.now c.args.heads.now c.requires.choices
      c.args.store.now c.name_constructors.new.store c.in_ok-name_constructors.ensures (sym c.requires.same);
  kept = left_out (inr (c.is_choice.ensures c.if-is_choice.true));
}

pub returns-else-is_choice : goal.returns-else-is_choice
returns-else-is_choice c = record {
  named = on_ok_always c.keep_choice.result
      (names_choices c.args.signature.now (subst IsLawful (sym c.requires.same) c.len-names.ensures.store.lawful) c.args.term.now c.args.heads.now c.requires.choices
      c.args.store.now c.name_constructors.new.store c.in_ok-name_constructors.ensures (sym c.requires.same));
  kept = c.keep_choice.ensures;
}
