use Rattle.std.proofs.Common.{rules, ◌≡◌, length, [], ◌<◌, ◌∙◌, sym, ap, subst, List, map, replicate, ℕ, Result, Ok, Err, IfOk}
use Rattle.lt_ranges.specs.declared.key.Key.{Key}
use Rattle.lt_rows.specs.declared.row_plan.RowPlan.{RowPlan}
use Rattle.lt_seq.specs.Pairs.{IsLawful}
use Rattle.lt_forest.specs.Parts.{row_pair}
use Rattle.lt_forest.specs.declared.part.PartRow.{PartRow}
use Rattle.lt_forest.specs.declared.part.Part.{Part}
use Rattle.lt_rows.specs.declared.view.View.{View}
use Rattle.lt_rows.specs.Handles.{knows}
use Rattle.lt_locktree.specs.Rejoined.{IsRejoined}
use Rattle.lt_locktree.specs.declared.asking.Asking.{Asking}
use Rattle.lt_locktree.specs.Deeds.{MakesJoin}
use Rattle.lt_locktree.proofs.JoinNotes.{join_on}
use Rattle.lt_locktree.proofs.NoneJoined.{none_joined}
use Rattle.lt_locktree.proofs.GrantedRuns.{rows_lawful}
use Rattle.lt_locktree.proofs.GrownServed.{hangs_between}
use Rattle.lt_locktree.proofs.JoinServed.{all_zero, rejoined_part}
use Rattle.lt_locktree.proofs.rejoining.join_tree.Goals as goal

pub rejoin-requires : goal.rejoin-requires
rejoin-requires c =
    let s = c.widen_whole.new.locked in
    let e = c.in_default.ensures in
    subst (λ (rs : List PartRow). IsLawful (map row_pair rs))
    (sym (c.deref.ensures.value ∙ ap (λ (p : Part). p.rows.items) c.part.ensures))
    (rows_lawful (knows s.pass) s.tree s.asked s.held s.part.rows.items s.part.hangs.items [] e.locked e.closed
    (subst (λ (p : RowPlan). s.tree < p.trees) (sym s.of.0.1) s.of.2))

pub join_rows-requires-clause-bare : goal.join_rows-requires-clause-bare
join_rows-requires-clause-bare c =
    let s = c.widen_whole.new.locked in
    let e = c.in_default.ensures in
    all_zero s.part.hangs.items e.whole
    ∙ ap (λ (n : ℕ). replicate n 0)
    (hangs_between s.pass s.table.now.plan s.tree s.asked s.held s.part.rows.items s.part.hangs.items [] e.locked e.closed s.of.0.1 s.of.2)

-- what is so of the value if there is one
ok_map : {T E : Type 0} (r : Result T E) (P Q : T → Type 0) → ((x : T) → P x → Q x) → IfOk r P → IfOk r Q
ok_map (Ok x) P Q f h = f x h
ok_map (Err e) P Q f h = tt

pub returns-clause-made : goal.returns-clause-made
returns-clause-made c =
    let v : View = knows c.args.locked.pass in
    let w : View = knows c.widen_whole.new.locked.pass in
    let a : Asking = c.args.asking.now in
    ok_map c.join_rows.result (λ r. MakesJoin w (knows r.0) a r.1) (λ r. MakesJoin v (knows r.0) a r.1)
    (λ r. join_on v w (knows r.0) a r.1 c.in_default.ensures.same.1) c.join_rows.ensures.made

pub returns-then-is_empty-clause-made : goal.returns-then-is_empty-clause-made
returns-then-is_empty-clause-made c =
    let v : View = knows c.args.locked.pass in
    let w : View = knows c.widen_whole.new.locked.pass in
    let a : Asking = c.args.asking.now in
    ok_map c.join_none.result (λ r. MakesJoin w (knows r.0) a r.1) (λ r. MakesJoin v (knows r.0) a r.1)
    (λ r. join_on v w (knows r.0) a r.1 c.in_default.ensures.same.1) c.join_none.ensures.made

pub join_rows-requires-clause-left : goal.join_rows-requires-clause-left
join_rows-requires-clause-left c =
    let s = c.widen_whole.new.locked in
    let rows_is : c.deref.result.now ≡ s.part.rows.items = c.deref.ensures.value ∙ ap (λ (p : Part). p.rows.items) c.part.ensures in
    let marks_are : c.marks.result.now ≡ (knows s.pass).plan.marks = c.marks.ensures ∙ ap (λ (k : RowPlan). k.marks) (sym s.of.0.1) in
    let e = c.in-Ok-part_rejoined.ensures in
    rejoined_part (knows s.pass).plan.marks s.part.rows.items c.in-Ok.after c.in-Ok-part_rejoined.left
    (subst (λ (x : List Key × List PartRow). IsRejoined x.0 x.1 c.in-Ok.after) (λ j. (marks_are j, rows_is j)) c.in-Ok.ensures)
    (ap (λ v. v.items) e.0) (ap (λ v. v.items) e.1) e.2

pub join_none-requires-clause-bare : goal.join_none-requires-clause-bare
join_none-requires-clause-bare c =
    let s = c.widen_whole.new.locked in
    let e = c.in_default.ensures in
    all_zero s.part.hangs.items e.whole
    ∙ ap (λ (n : ℕ). replicate n 0)
    (hangs_between s.pass s.table.now.plan s.tree s.asked s.held s.part.rows.items s.part.hangs.items [] e.locked e.closed s.of.0.1 s.of.2)

pub join_none-requires-clause-none : goal.join_none-requires-clause-none
join_none-requires-clause-none c =
    let s = c.widen_whole.new.locked in
    let rows_is : c.deref.result.now ≡ s.part.rows.items = c.deref.ensures.value ∙ ap (λ (p : Part). p.rows.items) c.part.ensures in
    let marks_are : c.marks.result.now ≡ (knows s.pass).plan.marks = c.marks.ensures ∙ ap (λ (k : RowPlan). k.marks) (sym s.of.0.1) in
    let empty : length c.in-Ok.after.gone.items ≡ 0 = search rules in
    none_joined (knows s.pass).plan.marks s.part.rows.items c.in-Ok.after
    (subst (λ (x : List Key × List PartRow). IsRejoined x.0 x.1 c.in-Ok.after) (λ j. (marks_are j, rows_is j)) c.in-Ok.ensures) empty
