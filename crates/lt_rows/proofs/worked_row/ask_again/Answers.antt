use Rattle.std.proofs.Common.{◌++◌, ◌∷◌, [], ◌+◌, ℕ, List, length, refl, sym, ap, ◌∙◌, subst}
use mathlib.Core.Logic.{dite}
use native.Mathlib.Decide.{ℕ_discrete}
use Rattle.lt_ranges.specs.Interval.{Interval}
use Rattle.lt_seq.specs.declared.event.Event.{Event}
use Rattle.lt_seq.specs.declared.event.Deed.{Deed}
use Rattle.lt_seq.specs.declared.event.Deed.TheVariants.{Ask}
use Rattle.lt_seq.specs.declared.event.Reply.TheVariants.{Granted}
use Rattle.lt_rows.specs.declared.row_plan.RowPlan.{RowPlan}
use Rattle.lt_forest.specs.Trees.{Node}
use Rattle.lt_rows.specs.declared.view.View.{View}
use Rattle.lt_rows.specs.Views.{row_at}
use Rattle.lt_rows.specs.Handles.{knows}
use Rattle.lt_rows.specs.Worked.{IsCommitOf, ask_whole}
use Rattle.lt_rows.specs.WorkedRow.{HasOnly}
use Rattle.lt_rows.proofs.ThreeRows.{then_ended}
use Rattle.lt_rows.proofs.OnlyRow.{only_on, row_ask, after_commit}
use Rattle.lt_rows.proofs.worked_row.ask_again.Goals as goal

pub commit-place-requires-clause-lawful : goal.commit-place-requires-clause-lawful
commit-place-requires-clause-lawful c =
    let k = c.args.table.now.plan in
    let v : View = knows c.look-look.new.pass in
    let h : HasOnly k v c.args.tree c.in_ok-row.row = only_on k (knows c.descend.new.pass) v c.args.tree c.in_ok-row.row (ap (λ (u : View). u.held) c.look-look.ensures.looks.view) c.in_ok-row.ensures.held in
    let node = c.whole_row-image.ensures.node in
    row_ask k v c.args.tree c.in_ok-row.row c.whole_row-image.result c.requires.tree h c.whole_row-image.ensures.row (ap (λ (n : Node). n.left) node) (ap (λ (n : Node). n.right) node)
    c.args.txn c.if-row-txn.false node c.look-look.new.pass.number _ (sym c.look-look.new.pass.numbered.0) (ap (λ (r : Interval). Ask c.args.tree r Granted) c.whole.ensures)

pub give_back-requires-clause-row : goal.give_back-requires-clause-row
give_back-requires-clause-row c =
    let k = c.args.table.now.plan in
    let v : View = knows c.look-look.new.pass in
    let h : HasOnly k v c.args.tree c.in_ok-row.row = only_on k (knows c.descend.new.pass) v c.args.tree c.in_ok-row.row (ap (λ (u : View). u.held) c.look-look.ensures.looks.view) c.in_ok-row.ensures.held in
    let node = c.whole_row-image.ensures.node in
    (after_commit k v c.args.tree c.in_ok-row.row c.whole_row-image.result c.requires.tree h c.whole_row-image.ensures.row (ap (λ (n : Node). n.left) node) (ap (λ (n : Node). n.right) node) (knows c.commit-place.new.pass) _ c.commit-place.ensures.made.2).0

pub returns-clause-made : goal.returns-clause-made
returns-clause-made c =
    let v : View = knows c.args.pass.now in
    let u : View = knows c.look-look.new.pass in
    let w : View = knows c.commit-place.new.pass in
    let looks = c.look-look.ensures.looks in
    let number = c.look-look.ensures.of.1.0 ∙ c.descend.ensures.of.1.0 in
    let made = c.commit-place.ensures.made in
    let deed_is = ap (λ (r : Interval). Ask c.args.tree r Granted) c.whole.ensures in
    let mine : IsCommitOf c.args.table.now.plan u w (record { pass = c.look-look.new.pass.number; txn = c.args.txn; deed = ask_whole c.args.tree }) c.commit-place.result = record {
      log = u.front ++ made.0;
      seen = (made.0, refl);
      front = ap (λ (x : View). x.front) made.2 ∙ ap (λ (d : Deed). (u.front ++ made.0) ++ record { pass = c.look-look.new.pass.number; txn = c.args.txn; deed = d } ∷ []) deed_is;
      place_is = made.1.place_is ∙ ap (λ (k : RowPlan). k.first + length (u.front ++ made.0)) c.look-look.ensures.of.0.1;
    } in
    let own = subst (λ (n : ℕ). IsCommitOf c.args.table.now.plan u w (record { pass = n; txn = c.args.txn; deed = ask_whole c.args.tree }) c.commit-place.result) number mine in
    then_ended c.args.table.now.plan v u w (knows c.give_back.new.pass) looks.rest _ c.commit-place.result
    (ap (λ (x : View). x.front) looks.view ∙ ap (λ (l : List Event). l ++ looks.rest) c.descend.ensures.front) own c.give_back.ensures.front

pub returns-clause-none : goal.returns-clause-none
returns-clause-none c r =
    let k = c.args.table.now.plan in
    let v : View = knows c.look-look.new.pass in
    let h : HasOnly k v c.args.tree c.in_ok-row.row = only_on k (knows c.descend.new.pass) v c.args.tree c.in_ok-row.row (ap (λ (u : View). u.held) c.look-look.ensures.looks.view) c.in_ok-row.ensures.held in
    let node = c.whole_row-image.ensures.node in
    let after = after_commit k v c.args.tree c.in_ok-row.row c.whole_row-image.result c.requires.tree h c.whole_row-image.ensures.row (ap (λ (n : Node). n.left) node) (ap (λ (n : Node). n.right) node) (knows c.commit-place.new.pass) _ c.commit-place.ensures.made.2 in
    dite (ℕ_discrete r c.whole_row-image.result.row)
    (λ e. ap (row_at (knows c.give_back.new.pass)) e ∙ c.give_back.ensures.gone)
    (λ ne. c.give_back.ensures.others r ne ∙ after.1 r (λ e. ne (e ∙ sym c.whole_row-image.ensures.row)))
