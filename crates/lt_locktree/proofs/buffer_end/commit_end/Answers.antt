use Rattle.std.proofs.Common.{rules, ◌≡◌, ◌<◌, ◌++◌, ◌∷◌, ◌∙◌, ℕ, ℤ, w64, FitsSigned, length, sym, ap, subst}
use Rattle.std.specs.Prelude.{pos, ◌+ℤ◌}
use Rattle.std.proofs.lemmas.Int.{to_z-of_z}
use Rattle.lt_rows.specs.declared.row_plan.RowPlan.{RowPlan}
use Rattle.lt_rows.specs.Handles.{knows}
use Rattle.lt_rows.specs.Lawful.{IsCommit}
use Rattle.lt_rows.specs.Views.{AllHeld}
use Rattle.lt_tree.proofs.WritingLaws.{all_same, commit_plans, backs_then}
use Rattle.lt_locktree.specs.EndedBuffers.{spare_rows}
use Rattle.lt_locktree.proofs.EndedBuffers.{all_planned, end_commits}
use Rattle.lt_locktree.proofs.buffer_end.commit_end.Goals as goal
use Rattle.lt_locktree.proofs.buffer_end.commit_end.Goals.{Start}

planned : (c : Start) → AllHeld (knows c.args.pass.now).held c.args.plan.now
planned c =
    let e = c.requires.ends in
    all_planned (knows c.args.pass.now) c.args.tree e.0 e.1 c.args.chain.items c.args._score c.args.pairs.now c.args.event.now
    c.args.plan.now e.2
    c.requires.lays

pub commit-place-requires-clause-held : goal.commit-place-requires-clause-held
commit-place-requires-clause-held c = planned (goal.at.commit-place-requires-clause-held c).Start

pub commit-place-requires-clause-lawful : goal.commit-place-requires-clause-lawful
commit-place-requires-clause-lawful c =
    let e = c.requires.ends in
    let plan = c.requires.of.1 in
    let len : c.len.result ≡ length c.args.chain.items = c.len.ensures ∙ (search rules) in
    let fits : FitsSigned w64 c.change_of-change.result = record { sfits = c.change_of-change.type_inv } in
    subst (λ (x : RowPlan × ℤ). IsCommit x.0 (knows c.args.pass.now) c.args.event.now c.args.plan.now x.1)
    (λ j. (plan j, sym (to_z-of_z w64 c.change_of-change.result fits) j))
    (end_commits (knows c.args.pass.now) c.args.tree e.0 e.1 c.args.chain.items c.args._score c.args.pairs.now c.args.event.now
    c.args.plan.now e.2
    c.requires.lays c.change_of-change.result (subst (λ (p : RowPlan). c.args.tree < p.trees) (sym plan) c.requires.tree)
    (ap (λ (n : ℕ). c.change_of-change.result +ℤ pos n) (sym len) ∙ c.change_of-change.ensures) c.requires.licensed)

pub write_all-requires-clause-held : goal.write_all-requires-clause-held
write_all-requires-clause-held c =
    let v = knows c.args.pass.now in
    let u = knows c.commit-place.new.pass in
    let p = commit_plans v u c.args.plan.now _ c.commit-place.ensures.made.2 in
    all_same v u p.same c.args.plan.now (planned (goal.at.write_all-requires-clause-held c).Start)

pub put_ends-requires-clause-backs : goal.put_ends-requires-clause-backs
put_ends-requires-clause-backs c =
    let v = knows c.args.pass.now in
    let u = knows c.commit-place.new.pass in
    backs_then v u (knows c.write_all.new.pass) c.args.plan.now (commit_plans v u c.args.plan.now _ c.commit-place.ensures.made.2)
    c.write_all.ensures.written (spare_rows c.args.spare.now ++ c.args.tree ∷ c.args.chain.items) c.requires.backs
