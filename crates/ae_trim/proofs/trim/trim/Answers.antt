use Rattle.std.proofs.Common.{◌∙◌, sym, subst}
use Rattle.ae_trim.specs.Used.{HintEarlier, AreUsed}
use Rattle.ae_trim.specs.Inner.Marks.{AreNumbered}
use Rattle.ae_trim.proofs.Keeping.{used_within, hint_numbered}
use Rattle.ae_trim.proofs.Deriving.{trimmed_of, trimmed_used, trimmed_earlier, trimmed_derives}
use Rattle.ae_trim.proofs.trim.trim.Goals as goal

pub new_numbers-requires-clause-within : goal.new_numbers-requires-clause-within
new_numbers-requires-clause-within c =
    let ls = c.as_slice-lines.result.now in
    let a = subst (AreUsed ls) (sym c.as_slice.ensures) c.in_ok-places.ensures in
    λ k h. used_within ls (subst HintEarlier (sym c.as_slice-lines.ensures) c.requires.earlier) k (a.used k h)

pub kept_lines-requires-clause-within : goal.kept_lines-requires-clause-within
kept_lines-requires-clause-within c =
    let ls = c.as_slice-lines.result.now in
    let a = subst (AreUsed ls) (sym c.as_slice-2.ensures) c.in_ok-places.ensures in
    λ k h. used_within ls (subst HintEarlier (sym c.as_slice-lines.ensures) c.requires.earlier) k (a.used k h)

pub kept_lines-requires-clause-hints : goal.kept_lines-requires-clause-hints
kept_lines-requires-clause-hints c =
    let ls = c.as_slice-lines.result.now in let ks = c.as_slice-2.result.now in let ns = c.deref.result.now in
    let a = subst (AreUsed ls) (sym c.as_slice-2.ensures) c.in_ok-places.ensures in
    let n = subst (λ z. AreNumbered z ns) (c.as_slice.ensures ∙ sym c.as_slice-2.ensures) (subst (AreNumbered c.as_slice.result.now) (sym c.deref.ensures.value) c.in_ok-numbers.ensures) in
    λ i k h l at e m. hint_numbered ls ks ns a n i k h l at e m

pub returns-clause-exact : goal.returns-clause-exact
returns-clause-exact c =
    let ls = c.as_slice-lines.result.now in let ks = c.as_slice-2.result.now in let ns = c.deref.result.now in
    let a = subst (AreUsed ls) (sym c.as_slice-2.ensures) c.in_ok-places.ensures in
    let n = subst (λ z. AreNumbered z ns) (c.as_slice.ensures ∙ sym c.as_slice-2.ensures) (subst (AreNumbered c.as_slice.result.now) (sym c.deref.ensures.value) c.in_ok-numbers.ensures) in
    trimmed_of c.args.proof.now (record { lines = c.in_ok-kept.kept }) ls ks ns c.as_slice-lines.ensures a n c.in_ok-kept.ensures

pub returns-clause-used : goal.returns-clause-used
returns-clause-used c = trimmed_used c.args.proof.now (record { lines = c.in_ok-kept.kept }) c.requires.earlier (returns-clause-exact c)

pub returns-clause-earlier : goal.returns-clause-earlier
returns-clause-earlier c = trimmed_earlier c.args.proof.now (record { lines = c.in_ok-kept.kept }) c.requires.earlier (returns-clause-exact c)

pub returns-clause-derives : goal.returns-clause-derives
returns-clause-derives c = trimmed_derives c.args.proof.now (record { lines = c.in_ok-kept.kept }) c.requires.earlier c.requires.some (returns-clause-exact c)
