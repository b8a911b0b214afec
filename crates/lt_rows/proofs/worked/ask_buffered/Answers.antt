use Rattle.std.proofs.Common.{ap, ◌∙◌, ◌++◌, List, ℕ, subst}
use mathlib.Core.Logic.{dite}
use native.Mathlib.Decide.{ℕ_discrete}
use Rattle.lt_seq.specs.declared.event.Event.{Event}
use Rattle.lt_rows.specs.declared.view.View.{View}
use Rattle.lt_rows.specs.Views.{row_at}
use Rattle.lt_rows.specs.Handles.{knows}
use Rattle.lt_rows.specs.Worked.{ask_buffered, IsCommitOf}
use Rattle.lt_rows.proofs.ThreeRows.{three_on, then_ended}
use Rattle.lt_rows.proofs.worked.ask_buffered.Goals as goal

pub commit_buffered-place-requires-clause-three : goal.commit_buffered-place-requires-clause-three
commit_buffered-place-requires-clause-three c =
    three_on c.args.table.now.plan (knows c.gather.new.pass) (knows c.look-look.new.pass) c.args.tree c.in_ok-three.three (ap (λ (v : View). v.held) c.look-look.ensures.looks.view) c.in_ok-three.ensures.held

pub returns-clause-made : goal.returns-clause-made
returns-clause-made c =
    let v : View = knows c.args.pass.now in
    let u : View = knows c.look-look.new.pass in
    let w : View = knows c.commit_buffered-place.new.pass in
    let looks = c.look-look.ensures.looks in
    let number = c.look-look.ensures.of.1.0 ∙ c.gather.ensures.of.1.0 in
    let made = subst (λ (n : ℕ). IsCommitOf c.args.table.now.plan u w (record { pass = n; txn = c.args.txn; deed = ask_buffered c.args.tree }) c.commit_buffered-place.result) number c.commit_buffered-place.ensures.made in
    then_ended c.args.table.now.plan v u w (knows c.give_back_three.new.pass) looks.rest _ c.commit_buffered-place.result
    (ap (λ (x : View). x.front) looks.view ∙ ap (λ (l : List Event). l ++ looks.rest) c.gather.ensures.front) made c.give_back_three.ensures.front

pub returns-clause-none : goal.returns-clause-none
returns-clause-none c r =
    let plan = c.buffer_plan-plan.result in
    let back = c.give_back_three.ensures in
    dite (ℕ_discrete r plan.0.row)
    (λ e. ap (row_at (knows c.give_back_three.new.pass)) e ∙ back.gone.0)
    (λ n. dite (ℕ_discrete r plan.1.row)
    (λ e. ap (row_at (knows c.give_back_three.new.pass)) e ∙ back.gone.1)
    (λ n'. dite (ℕ_discrete r plan.2.row)
    (λ e. ap (row_at (knows c.give_back_three.new.pass)) e ∙ back.gone.2)
    (λ n''. back.others r n n' n'' ∙ c.commit_buffered-place.ensures.others r n n' n'')))
