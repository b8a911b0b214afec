use Rattle.std.proofs.Common.{◌++◌, ◌+◌, List, length, refl, sym, ap, ◌∙◌, set}
use mathlib.Core.Logic.{dite}
use native.Mathlib.Decide.{ℕ_discrete}
use Rattle.lt_seq.specs.declared.event.Event.{Event}
use Rattle.lt_rows.specs.declared.row_plan.RowPlan.{RowPlan}
use Rattle.lt_rows.specs.declared.view.View.{View}
use Rattle.lt_rows.specs.declared.image.RowImage.{RowImage}
use Rattle.lt_rows.specs.Views.{row_at}
use Rattle.lt_rows.specs.Handles.{knows}
use Rattle.lt_rows.proofs.OnlyRow.{row_settle, after_settle, estimates_aside, left_of_words, right_of_words}
use Rattle.lt_rows.proofs.worked_row.estimate.Goals as goal

pub settle-place-requires-clause-lawful : goal.settle-place-requires-clause-lawful
settle-place-requires-clause-lawful c =
    let k = c.args.table.now.plan in
    let row = c.in_ok-row.row in
    let h = c.in_ok-row.ensures.held in
    let image : RowImage = record { row = c.in_ok-row.row.row; words = set (set c.in_ok-row.row.words 19 c.args.left) 20 c.args.right } in
    let same = estimates_aside c.in_ok-row.row.words c.args.left c.args.right in
    row_settle k (knows c.descend.new.pass) c.args.tree row image c.requires.tree h refl (left_of_words image.words row.words same h.none_left) (right_of_words image.words row.words same h.none_right) same

pub give_back-requires-clause-row : goal.give_back-requires-clause-row
give_back-requires-clause-row c =
    let k = c.args.table.now.plan in
    let row = c.in_ok-row.row in
    let h = c.in_ok-row.ensures.held in
    let image : RowImage = record { row = c.in_ok-row.row.row; words = set (set c.in_ok-row.row.words 19 c.args.left) 20 c.args.right } in
    let same = estimates_aside c.in_ok-row.row.words c.args.left c.args.right in
    (after_settle k (knows c.descend.new.pass) c.args.tree row image c.requires.tree h refl (left_of_words image.words row.words same h.none_left) (right_of_words image.words row.words same h.none_right) (knows c.settle-place.new.pass) _ c.settle-place.ensures.settled.2).0

pub returns-clause-front : goal.returns-clause-front
returns-clause-front c =
    let made = c.settle-place.ensures.settled in
    (made.0, (c.give_back.ensures.front ∙ ap (λ (u : View). u.front) made.2) ∙ ap (λ (l : List Event). l ++ made.0) c.descend.ensures.front)

pub returns-clause-place : goal.returns-clause-place
returns-clause-place c =
    let v : View = knows c.descend.new.pass in
    let made = c.settle-place.ensures.settled in
    let front = c.give_back.ensures.front ∙ ap (λ (u : View). u.front) made.2 in
    made.1.place_is ∙ (ap (λ (k : RowPlan). k.first + length (v.front ++ made.0)) c.descend.ensures.of.0.1 ∙ ap (λ (l : List Event). c.args.table.now.plan.first + length l) (sym front))

pub returns-clause-none : goal.returns-clause-none
returns-clause-none c r =
    let k = c.args.table.now.plan in
    let row = c.in_ok-row.row in
    let h = c.in_ok-row.ensures.held in
    let image : RowImage = record { row = c.in_ok-row.row.row; words = set (set c.in_ok-row.row.words 19 c.args.left) 20 c.args.right } in
    let same = estimates_aside c.in_ok-row.row.words c.args.left c.args.right in
    let after = after_settle k (knows c.descend.new.pass) c.args.tree row image c.requires.tree h refl (left_of_words image.words row.words same h.none_left) (right_of_words image.words row.words same h.none_right) (knows c.settle-place.new.pass) _ c.settle-place.ensures.settled.2 in
    dite (ℕ_discrete r c.in_ok-row.row.row)
    (λ e. ap (row_at (knows c.give_back.new.pass)) e ∙ c.give_back.ensures.gone)
    (λ ne. c.give_back.ensures.others r ne ∙ after.1 r ne)
