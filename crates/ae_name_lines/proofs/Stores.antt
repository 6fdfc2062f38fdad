-- The terms of a store hold their parts.
use Rattle.std.specs.Prelude.{List, [], None}
use Rattle.ae_core.specs.declared.problems.Signature.{Signature}
use Rattle.ae_store.specs.declared.nodes.Node.{Node}
use Rattle.ae_settled.specs.Held.{Held}
use Rattle.ae_settled.proofs.Terms.{named_sorted, apart, subterms, field_names}
use Rattle.ae_name_lines.specs.Laws.{StoresAreClosed}

-- its names, without values and rules
names_alone : Signature → List Node → Held
names_alone sig nodes = record { signature = sig; nodes = nodes; values = []; rep = λ n. n; rules = λ n. None; next = 0 }

pub stores_are_closed : StoresAreClosed
unfolding names_alone
stores_are_closed sig nodes store = record {
  sorted = named_sorted (names_alone sig nodes) store;
  apart = λ i j t e f. apart (names_alone sig nodes) store i j t e f;
  arguments = subterms (names_alone sig nodes) store;
  fields = field_names (names_alone sig nodes) store;
}
