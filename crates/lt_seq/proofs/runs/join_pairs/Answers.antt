use Rattle.std.proofs.Common.{◌≡◌, rules}
use Rattle.lt_seq.specs.Pairs.{joined}
use Rattle.lt_seq.proofs.RunsLaws.{dedup_joined}
use Rattle.lt_seq.proofs.runs.join_pairs.Goals as goal

pub returns : goal.returns
returns c =
    let left : c.dedup_by.new.self.items ≡ joined c.args.marks.now c.args.pairs.now.items =
    dedup_joined _ c.args.marks.now _ (λ next last b f' next' last' k. search rules) _ _ c.requires c.dedup_by.ensures.filtered in
    search rules
