use Rattle.std.proofs.Common.{◌∙◌, ◌<◌, ℕ, List, length, get_or, sym, subst}
use Rattle.std.proofs.lemmas.List.{same_from_push}
use Rattle.ae_propagation.specs.declared.codes.Code.{Code}
use Rattle.ae_propagation.proofs.coded.forget_last.Goals as goal

pub forget-requires : goal.forget-requires
forget-requires c = record {
  within = subst (λ (ks : List Code). (i : ℕ) (k : Code) → i < length ks → (get_or ks i k).number < length c.args.table.now.items) (sym c.as_slice.ensures)
      (λ i k l. c.requires.within c.pop.new.self c.in-Some.own i k c.in-Some.ensures l);
}

pub returns-in-Some-clause-codes : goal.returns-in-Some-clause-codes
returns-in-Some-clause-codes c kept last e = (same_from_push c.pop.new.self kept c.in-Some.own last (sym c.in-Some.ensures ∙ e)).0
