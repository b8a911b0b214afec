use Rattle.std.proofs.Common.{◌≡◌, List, [], ◌∷◌, ◌++◌, set, take, drop, ◌+◌, rules, ap, ◌∙◌, subst}
use Rattle.lt_forest.specs.declared.part.PartRow.{PartRow}
use Rattle.lt_locktree.specs.LawsOfGrants.{merged_row}
use Rattle.lt_locktree.specs.PlannedParts.{IsAt, PlansRows}
use Rattle.lt_locktree.proofs.RowsInPlace.{is_at, set_is, grown_is}
use Rattle.lt_locktree.proofs.growing.plan_grown.Goals as goal

pub returns : goal.returns
returns c =
    let rows = c.args.part.now.rows.items in
    let r : PartRow = c.index.result.now in
    let at : IsAt rows c.args.at r = is_at rows c.args.at r c.requires.at (search rules) in
    let grown : PartRow = record { row = r.row; owner = c.args.asking.now.txn; range = c.hull.result } in
    let is : grown ≡ merged_row c.args.asking.now.txn c.args.asking.now.range r [] =
    ap (λ i. record { row = r.row; owner = c.args.asking.now.txn; range = i }) c.hull.ensures
    ∙ grown_is c.args.asking.now.txn c.args.asking.now.range r (c.requires.own r at) in
    let new : c.deref-2.result.now ≡ set rows c.args.at grown = search rules in
    let plan : PlansRows c.args.asking.now.tree c.args.asking.now.range c.args.stays.now [] c.plan_rows.new.images.items c.deref-2.result.now
    c.args.part.now.hangs.items = search rules in (
      r,
      at,
      subst (λ (rs : List PartRow). PlansRows c.args.asking.now.tree c.args.asking.now.range c.args.stays.now [] c.plan_rows.new.images.items rs
          c.args.part.now.hangs.items)
          (new ∙ (set_is rows c.args.at grown c.requires.at ∙ ap (λ (x : PartRow). take c.args.at rows ++ x ∷ drop (c.args.at + 1) rows) is)) plan,
    )
