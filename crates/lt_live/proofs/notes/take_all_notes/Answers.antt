use Rattle.std.proofs.Common.{rules}
use Rattle.std.proofs.lemmas.List.Sorted.{IsNonDecreasingBy-from_sort_by_key}
use Rattle.lt_live.proofs.notes.take_all_notes.Goals as goal

pub returns-clause-order : goal.returns-clause-order
returns-clause-order g c = IsNonDecreasingBy-from_sort_by_key (λ note. note.place) _ c.in_ok-sort_by_key.ensures.sorted (λ a r q k. search rules)
