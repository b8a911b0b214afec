use Rattle.std.proofs.Common.{sym, subst}
use Rattle.std.specs.List.Sorted.{IsStrictlyIncreasing}
use Rattle.lt_requests.proofs.SearchLaws.{names_ascend}
use Rattle.lt_requests.proofs.search.ask_for.Goals as goal

pub note-requires-clause-ascend : goal.note-requires-clause-ascend
note-requires-clause-ascend g c =
    subst IsStrictlyIncreasing (sym c.owners_of-owners.ensures) (names_ascend _ _ _ _ c.args.wish.now c.in-Ok.receipt c.in-Ok.ensures.answer.answer)
