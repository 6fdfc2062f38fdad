use Rattle.std.proofs.Common.{◌≡◌, ◌∙◌, ◌<◌, ◌++◌, ◌∷◌, [], ℕ, List, length, get_or, refl, sym, ap, subst, arith}
use Rattle.std.proofs.lemmas.Result.{IfOk-at_ok, IfErr-at_err}
use Rattle.std.proofs.lemmas.List.{get_or_push, length_push}
use Rattle.ae_rules.specs.Clauses.{Clause}
use Rattle.ae_explain.specs.Assignments.{number_in}
use Rattle.ae_propagation.specs.declared.codes.Code.{Code}
use Rattle.ae_propagation.specs.Inner.Finding.{listed, AreListed}
use Rattle.ae_propagation.specs.Inner.Coding.{AreCodes, AreAllCodes}
use Rattle.ae_propagation.proofs.Numbering.{table_sized}
use Rattle.ae_propagation.proofs.Coding.{still_all, push_codes, codes_within}
use Rattle.ae_propagation.proofs.Fitting.{wide_coded}
use Rattle.ae_propagation.proofs.coded.take_in.Goals as goal

pub returns-in_err-own-clause-coded : goal.returns-in_err-own-clause-coded
returns-in_err-own-clause-coded c = wide_coded (number_in c.args.trail.now.numbers) (number_in c.codes_of.new.trail.numbers) c.args.coded.now _ c.codes_of.ensures.wide refl refl c.requires

pub returns-in_err-push_both-clause-coded : goal.returns-in_err-push_both-clause-coded
returns-in_err-push_both-clause-coded c = wide_coded (number_in c.args.trail.now.numbers) (number_in c.codes_of.new.trail.numbers) c.args.coded.now _ c.codes_of.ensures.wide c.in_err-push_both.ensures.err c.in_err-push_both.ensures.err_codes c.requires

pub codes_at-requires : goal.codes_at-requires
codes_at-requires c =
    record {
      within = omega (arith, ap length c.in_ok-push_both.ensures.ok_codes, length_push c.args.coded.now.codes c.in_ok-own.own, c.requires.codes.size, c.len-number.ensures);
    }

pub enter-requires : goal.enter-requires
enter-requires c =
    let numbers = number_in c.codes_of.new.trail.numbers in
    let table = c.codes_of.new.table.items in
    let ks = c.args.coded.now.codes in
    let own = c.in_ok-own.own in
    let n = c.len-number.result in
    let size : length ks ≡ n = omega (arith, c.requires.codes.size, c.len-number.ensures) in
    let e : c.codes_at.result.now ≡ own = c.codes_at.ensures ∙ (ap (λ (w : List (List Code)). get_or w n []) c.in_ok-push_both.ensures.ok_codes ∙ get_or_push ks own [] n size) in
    let codes : AreCodes numbers c.args.clause own = subst (λ (x : Clause). AreCodes numbers x own) c.as_slice.ensures c.in_ok-own.ensures.codes in
    record {
      within = subst (λ (w : List Code). (i : ℕ) (k : Code) → i < length w → (get_or w i k).number < length table) (sym e) (codes_within numbers table c.args.clause own c.codes_of.ensures.wide.is_table codes);
    }

pub returns-in-Err-clause-coded : goal.returns-in-Err-clause-coded
returns-in-Err-clause-coded c =
    let numbers = number_in c.codes_of.new.trail.numbers in
    let wide = c.codes_of.ensures.wide in
    let u = c.args.coded.now.clauses in
    let ks = c.args.coded.now.codes in
    let own = c.in_ok-own.own in
    let n = c.len-number.result in
    let after = c.enter.new.table.items in
    let size : length ks ≡ n = omega (arith, c.requires.codes.size, c.len-number.ensures) in
    let count : length u ≡ n = omega (arith, c.len-number.ensures) in
    let e : c.codes_at.result.now ≡ own = c.codes_at.ensures ∙ (ap (λ (w : List (List Code)). get_or w n []) c.in_ok-push_both.ensures.ok_codes ∙ get_or_push ks own [] n size) in
    let codes : AreCodes numbers c.args.clause own = subst (λ (x : Clause). AreCodes numbers x own) c.as_slice.ensures c.in_ok-own.ensures.codes in
    let entered : AreCodes numbers c.args.clause c.codes_at.result.now = subst (λ (w : List Code). AreCodes numbers c.args.clause w) (sym e) codes in
    let before : AreListed (listed numbers c.codes_of.new.table.items) u = λ l. wide.same l ∙ c.requires.each l in
    let kept_u : c.drop_clause.new.clauses ≡ u = c.drop_clause.ensures u c.args.clause c.in_ok-push_both.ensures.ok in
    let kept_k : c.drop_codes.new.codes ≡ ks = c.drop_codes.ensures ks own c.in_ok-push_both.ensures.ok_codes in
    let still : AreAllCodes numbers u ks = still_all (number_in c.args.trail.now.numbers) numbers u ks wide.kept c.requires.codes in
    record {
      is_table = table_sized numbers c.codes_of.new.table.items after c.enter.ensures.size wide.is_table;
      each = subst (AreListed (listed numbers after)) (sym kept_u) (IfErr-at_err (λ _. AreListed (listed numbers after) u) c.in-Err.is (c.enter.ensures.err numbers c.args.clause u wide.is_table entered count before));
      codes = subst (λ (v : List Clause). AreAllCodes numbers v c.drop_codes.new.codes) (sym kept_u) (subst (λ (w : List (List Code)). AreAllCodes numbers u w) (sym kept_k) still);
    }

pub returns-clause-coded : goal.returns-clause-coded
returns-clause-coded c =
    let numbers = number_in c.codes_of.new.trail.numbers in
    let wide = c.codes_of.ensures.wide in
    let u = c.args.coded.now.clauses in
    let ks = c.args.coded.now.codes in
    let own = c.in_ok-own.own in
    let n = c.len-number.result in
    let after = c.enter.new.table.items in
    let size : length ks ≡ n = omega (arith, c.requires.codes.size, c.len-number.ensures) in
    let count : length u ≡ n = omega (arith, c.len-number.ensures) in
    let e : c.codes_at.result.now ≡ own = c.codes_at.ensures ∙ (ap (λ (w : List (List Code)). get_or w n []) c.in_ok-push_both.ensures.ok_codes ∙ get_or_push ks own [] n size) in
    let codes : AreCodes numbers c.args.clause own = subst (λ (x : Clause). AreCodes numbers x own) c.as_slice.ensures c.in_ok-own.ensures.codes in
    let entered : AreCodes numbers c.args.clause c.codes_at.result.now = subst (λ (w : List Code). AreCodes numbers c.args.clause w) (sym e) codes in
    let before : AreListed (listed numbers c.codes_of.new.table.items) u = λ l. wide.same l ∙ c.requires.each l in
    let still : AreAllCodes numbers u ks = still_all (number_in c.args.trail.now.numbers) numbers u ks wide.kept c.requires.codes in
    let more : AreListed (listed numbers after) (u ++ c.args.clause ∷ []) =
    IfOk-at_ok (λ _. AreListed (listed numbers after) (u ++ c.args.clause ∷ [])) c.in_default.is (c.enter.ensures.ok numbers c.args.clause u wide.is_table entered count before) in
    record {
      is_table = table_sized numbers c.codes_of.new.table.items after c.enter.ensures.size wide.is_table;
      each = subst (AreListed (listed numbers after)) (sym c.in_ok-push_both.ensures.ok) more;
      codes = subst (λ (v : List Clause). AreAllCodes numbers v c.push_both.new.codes) (sym c.in_ok-push_both.ensures.ok) (
          subst (λ (w : List (List Code)). AreAllCodes numbers (u ++ c.args.clause ∷ []) w) (sym c.in_ok-push_both.ensures.ok_codes) (push_codes numbers u ks c.args.clause own still codes)
          );
    }
