use Rattle.std.proofs.Common.{◌≡◌, ℕ, sym, ap, ◌∙◌, subst}
use Rattle.std.proofs.lemmas.Result.{IfOk-at_ok, IfErr-at_err}
use Rattle.lt_seq.specs.declared.event.Event.{Event}
use Rattle.lt_seq.specs.declared.event.Deed.TheVariants.{Free}
use Rattle.lt_rows.specs.Handles.{knows}
use Rattle.lt_tree.specs.States.{SeesOn}
use Rattle.lt_tree.proofs.SeenLaws.{seen_rows, seen_then, refused_seen}
use Rattle.lt_locktree.specs.Deeds.{asked_event}
use Rattle.lt_locktree.specs.Makes.{Makes}
use Rattle.lt_locktree.proofs.free.free_tree.Goals as goal
use Rattle.lt_locktree.proofs.free.free_tree.Goals.{then-first, else-first}

pub returns-in-Err-clause-only : goal.returns-in-Err-clause-only
returns-in-Err-clause-only c = elim c.if-first.branch [
  | then-first w ↦ seen_rows (knows c.args.prepared.pass) (knows c.in-Err.pass)
      (IfErr-at_err _ (sym w.searched-is ∙ c.in-Err.is) w.keep_anchor-searched.ensures.only)
  | else-first w ↦ IfErr-at_err _ (sym w.searched-is ∙ c.in-Err.is) w.acquire-searched.ensures.only
]

pub returns-in-Ok-free_in_tree-clause-made : goal.returns-in-Ok-free_in_tree-clause-made
returns-in-Ok-free_in_tree-clause-made c =
    let seen : SeesOn (knows c.args.prepared.pass) (knows c.in-Ok.locked.pass) = elim c.if-first.branch [
      | then-first w ↦ seen_rows (knows c.args.prepared.pass) (knows c.in-Ok.locked.pass)
          (IfOk-at_ok _ (sym w.searched-is ∙ c.in-Ok.is) w.keep_anchor-searched.ensures.same).1
      | else-first w ↦ (IfOk-at_ok _ (sym w.searched-is ∙ c.in-Ok.is) w.acquire-searched.ensures.same).1
    ] in
    let a = c.args.asking.now in
    let answer = c.in-Ok-free_in_tree in
    let m = c.in-Ok-free_in_tree.ensures.made in
    let e = c.in-Ok-free_in_tree.ensures.event in
    let count : c.freed_by.result ≡ e.0 = c.freed_by.ensures a.tree a.range c.args.first e.0 (ap (λ (x : Event). x.deed) e.1) in
    let event : answer.receipt.event ≡ asked_event a (Free a.tree a.range c.args.first c.freed_by.result) =
    e.1 ∙ ap (λ (n : ℕ). asked_event a (Free a.tree a.range c.args.first n)) (sym count) in (
      knows c.in-Ok.locked.pass,
      seen,
      (m.0, m.1, m.2, subst (λ (x : Event). Makes m.0 (knows answer.pass) m.1 x answer.receipt.place) event m.3),
    )

pub returns-in-Err-free_in_tree-clause-only : goal.returns-in-Err-free_in_tree-clause-only
returns-in-Err-free_in_tree-clause-only c =
    let seen : SeesOn (knows c.args.prepared.pass) (knows c.in-Ok.locked.pass) = elim c.if-first.branch [
      | then-first w ↦ seen_rows (knows c.args.prepared.pass) (knows c.in-Ok.locked.pass)
          (IfOk-at_ok _ (sym w.searched-is ∙ c.in-Ok.is) w.keep_anchor-searched.ensures.same).1
      | else-first w ↦ (IfOk-at_ok _ (sym w.searched-is ∙ c.in-Ok.is) w.acquire-searched.ensures.same).1
    ] in
    seen_then (knows c.args.prepared.pass) (knows c.in-Ok.locked.pass) (knows c.in-Err-free_in_tree.pass) seen
    c.in-Err-free_in_tree.ensures.handed.3

pub returns-in-Err-free_in_tree-clause-refused : goal.returns-in-Err-free_in_tree-clause-refused
returns-in-Err-free_in_tree-clause-refused c =
    let seen : SeesOn (knows c.args.prepared.pass) (knows c.in-Ok.locked.pass) = elim c.if-first.branch [
      | then-first w ↦ seen_rows (knows c.args.prepared.pass) (knows c.in-Ok.locked.pass)
          (IfOk-at_ok _ (sym w.searched-is ∙ c.in-Ok.is) w.keep_anchor-searched.ensures.same).1
      | else-first w ↦ (IfOk-at_ok _ (sym w.searched-is ∙ c.in-Ok.is) w.acquire-searched.ensures.same).1
    ] in
    refused_seen (knows c.args.prepared.pass) (knows c.in-Ok.locked.pass) (knows c.in-Err-free_in_tree.pass) c.in-Err-free_in_tree.fault
    seen c.in-Err-free_in_tree.ensures.refused
