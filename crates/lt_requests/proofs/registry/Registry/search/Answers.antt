use Rattle.std.proofs.Common.{rules}
use Rattle.std.proofs.lemmas.List.Sorted.{answers_always}
use Rattle.lt_requests.proofs.RegistryLaws.{searched}
use Rattle.lt_requests.proofs.registry.Registry.search.Goals as goal

pub returns : goal.returns
returns c =
    let facts = c.binary_search_by_key.ensures in
    let by_key = facts.position (λ wish. wish.txn) (answers_always _ _ _ (λ f a r g called. search rules)) in
    let at = searched _ c.args.txn (rw c.deref.ensures.value c.self.invariant) _ facts.bound by_key in
    rw (← c.self.view_is, ← c.deref.ensures.value) (record { found = at.found; absent = at.absent })
