use Rattle.std.proofs.Common.{rules, ◌≡◌, ◌++◌, ◌∷◌, [], ◌+◌, ap, refl, sym, ◌∙◌, length, List}
use Rattle.lt_ranges.specs.Interval.{Interval}
use Rattle.lt_seq.specs.declared.event.Event.{Event}
use Rattle.lt_seq.specs.declared.event.Deed.{Deed}
use Rattle.lt_seq.specs.declared.event.Deed.TheVariants.{Free}
use Rattle.std.specs.Prelude.{false}
use Rattle.lt_rows.specs.declared.row_plan.RowPlan.{RowPlan}
use Rattle.lt_rows.specs.declared.view.View.{View}
use Rattle.lt_rows.specs.Views.{row_at}
use Rattle.lt_rows.specs.Handles.{knows}
use Rattle.lt_rows.proofs.Wide.{still_none}
use Rattle.lt_rows.proofs.OnlyFree.{only_free}
use Rattle.lt_rows.proofs.ThreeRows.{apart, held_after}
use Rattle.lt_rows.proofs.worked_free.commit_free.Goals as goal

pub commit-requires-clause-lawful : goal.commit-requires-clause-lawful
commit-requires-clause-lawful c =
    let three = c.args.three.now in
    let long : length c.args.three.now.anchor.words ≡ 21 = search rules in
    let pool_long : length c.args.three.now.pool.words ≡ 21 = search rules in
    let row_long : length c.args.three.now.row.words ≡ 21 = search rules in
    only_free c.args.table.now.plan (knows c.args.pass.now) c.args.tree c.args.txn three c.args.plan.0 c.args.plan.1 c.args.plan.2 c.requires.tree c.requires.three c.requires.top c.requires.only long pool_long row_long c.requires.plan
    c.args.pass.now.number _ (sym c.args.pass.now.numbered.0) (ap (λ (r : Interval). Free c.args.tree r false 1) c.whole.ensures)

pub returns-clause-made : goal.returns-clause-made
returns-clause-made c =
    let v : View = knows c.args.pass.now in
    let made = c.commit.ensures.made in
    let log : List Event = v.front ++ made.0 in
    let deed_is = ap (λ (r : Interval). Free c.args.tree r false 1) c.whole.ensures in
    record {
      log = log;
      seen = (made.0, refl);
      front = ap (λ (u : View). u.front) made.2 ∙ ap (λ (d : Deed). (v.front ++ made.0) ++ record { pass = c.args.pass.now.number; txn = c.args.txn; deed = d } ∷ []) deed_is;
      place_is = made.1.place_is ∙ ap (λ (k : RowPlan). k.first + length (v.front ++ made.0)) c.requires.of.1;
    }

pub returns-clause-rows : goal.returns-clause-rows
returns-clause-rows c =
    let plan = c.requires.plan in
    held_after c.args.table.now.plan (knows c.args.pass.now) c.args.tree c.args.three.now c.args.plan.0 c.args.plan.1 c.args.plan.2 c.requires.tree c.requires.three plan.anchor_row plan.pool_row plan.vacant_row (knows c.commit.new.pass) _ c.commit.ensures.made.2

pub returns-clause-apart : goal.returns-clause-apart
returns-clause-apart c =
    let plan = c.requires.plan in
    apart c.args.table.now.plan (knows c.args.pass.now) c.args.tree c.args.three.now c.args.plan.0 c.args.plan.1 c.args.plan.2 c.requires.tree c.requires.three plan.anchor_row plan.pool_row plan.vacant_row

pub returns-clause-others : goal.returns-clause-others
returns-clause-others c r n n' n'' =
    let h = c.requires.three in
    let plan = c.requires.plan in
    ap (λ (u : View). row_at u r) c.commit.ensures.made.2
    ∙ still_none (knows c.args.pass.now) (c.args.plan.0 ∷ c.args.plan.1 ∷ c.args.plan.2 ∷ []) [] r
    (h.others r (λ e. n (e ∙ sym plan.anchor_row)) (λ e. n' (e ∙ sym plan.pool_row)) (λ e. n'' (e ∙ sym plan.vacant_row)))
