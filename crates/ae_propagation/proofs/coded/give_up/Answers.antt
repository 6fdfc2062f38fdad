use Rattle.std.proofs.Common.{◌<◌, ◌++◌, ◌∷◌, [], List, length, sym, ap, subst, arith}
use Rattle.std.proofs.lemmas.List.{length_push}
use Rattle.ae_rules.specs.Clauses.{Clause}
use Rattle.ae_propagation.specs.declared.codes.Code.{Code}
use Rattle.ae_propagation.specs.Inner.Finding.{listed, AreListed}
use Rattle.ae_propagation.specs.Inner.Coding.{AreAllCodes}
use Rattle.ae_propagation.proofs.Numbering.{table_sized}
use Rattle.ae_propagation.proofs.Entering.{listed_left}
use Rattle.ae_propagation.proofs.Coding.{last_of, last_codes, pop_codes, codes_within}
use Rattle.ae_propagation.proofs.coded.give_up.Goals as goal

pub forget_last-requires : goal.forget_last-requires
forget_last-requires c =
    let coded = c.args.coded.now in
    let numbers = c.requires.0 in
    let is_coded = c.requires.1 in
    let u = c.pop.new.self in
    let last = c.in-Some._last in
    record {
      within = λ kept own i k e l.
          let codes = subst (λ (v : List Clause). AreAllCodes numbers v (kept ++ own ∷ [])) c.in-Some.ensures (subst (λ (w : List (List Code)). AreAllCodes numbers coded.clauses w) e is_coded.codes) in
          codes_within numbers coded.table.items last own is_coded.is_table (last_codes numbers u kept last own codes) i k l;
    }

pub returns-in-Some-clause-coded : goal.returns-in-Some-clause-coded
returns-in-Some-clause-coded c numbers is_coded =
    let coded = c.args.coded.now in
    let table = coded.table.items in
    let u = c.pop.new.self in
    let last = c.in-Some._last in
    let long : 0 < length coded.codes = omega (arith, ap length c.in-Some.ensures, length_push u last, is_coded.codes.size) in
    let r = last_of coded.codes long in
    let codes : AreAllCodes numbers (u ++ last ∷ []) (r.0 ++ r.1 ∷ []) =
    subst (λ (v : List Clause). AreAllCodes numbers v (r.0 ++ r.1 ∷ [])) c.in-Some.ensures (subst (λ (w : List (List Code)). AreAllCodes numbers coded.clauses w) r.2 is_coded.codes) in
    let listed_all : AreListed (listed numbers table) (u ++ last ∷ []) = subst (AreListed (listed numbers table)) c.in-Some.ensures is_coded.each in
    record {
      is_table = table_sized numbers table c.forget_last.new.table.items c.forget_last.ensures.size is_coded.is_table;
      each = c.forget_last.ensures.each r.0 r.1 numbers last u r.2 is_coded.is_table (last_codes numbers u r.0 last r.1 codes) (sym c.len-number.ensures) (listed_left (listed numbers table) u last listed_all);
      codes = subst (λ (w : List (List Code)). AreAllCodes numbers u w) (sym (c.forget_last.ensures.codes r.0 r.1 r.2)) (pop_codes numbers u r.0 last r.1 codes);
    }
