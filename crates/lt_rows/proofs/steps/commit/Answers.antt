use Rattle.std.proofs.Common.{ℤ, subst, sym, w64}
use Rattle.std.proofs.lemmas.Int.{to_z-of_z}
use Rattle.lt_rows.specs.Passes.{view}
use Rattle.lt_rows.specs.Lawful.{IsCommit}
use Rattle.lt_rows.proofs.steps.commit.Goals as goal

pub commit_as-requires-clause-lawful : goal.commit_as-requires-clause-lawful
commit_as-requires-clause-lawful c =
    subst (λ (n : ℤ). IsCommit c.args.table.now.key (view c.args.place.now) c.args.event.now c.args.plan.now n) (sym (to_z-of_z w64 c.args.change c.ranges.change)) c.requires.lawful
