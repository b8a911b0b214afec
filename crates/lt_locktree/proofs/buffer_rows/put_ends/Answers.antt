use Rattle.std.proofs.Common.{◌∷◌, ◌++◌, sym, subst, List, ℕ}
use Rattle.lt_rows.specs.declared.pass.RowPass.{RowPass}
use Rattle.lt_rows.specs.declared.view.View.{View}
use Rattle.lt_rows.specs.Handles.{knows}
use Rattle.lt_tree.specs.Puttings.{Backs}
use Rattle.lt_locktree.specs.declared.buffer_rows.Spare.{Spare}
use Rattle.lt_locktree.specs.EndedBuffers.{spare_rows}
use Rattle.lt_locktree.proofs.HeldRows.{may_give_back, backs_put}
use Rattle.lt_locktree.proofs.buffer_rows.put_ends.Goals as goal
use Rattle.lt_locktree.proofs.buffer_rows.put_ends.Goals.{in-Nothing, in-Anchor, in-First}

pub put-requires-clause-settled : goal.put-requires-clause-settled
put-requires-clause-settled c =
    let v : View = knows c.args.pass.now in
    let rows : List ℕ = c.args.tree ∷ c.args.rows.items in
    may_give_back v c.in-Anchor.pool.row rows
    (subst (λ (s : Spare). Backs v (spare_rows s ++ rows)) c.in-Anchor.is c.requires.backs)

pub put-requires-in-First-clause-settled : goal.put-requires-in-First-clause-settled
put-requires-in-First-clause-settled c =
    let v : View = knows c.args.pass.now in
    let rows : List ℕ = c.args.tree ∷ c.args.rows.items in
    may_give_back v c.in-First.row.row (c.in-First.pool.row ∷ rows)
    (subst (λ (s : Spare). Backs v (spare_rows s ++ rows)) c.in-First.is c.requires.backs)

pub put-requires-in-First-2-clause-settled : goal.put-requires-in-First-2-clause-settled
put-requires-in-First-2-clause-settled c =
    let v : View = knows c.args.pass.now in
    let w : View = knows c.put-in-First.new.pass in
    let rows : List ℕ = c.args.tree ∷ c.args.rows.items in
    may_give_back w c.in-First.pool.row rows
    (backs_put c.in-First.row.row v w (c.in-First.pool.row ∷ rows) c.put-in-First.ensures.given
    (subst (λ (s : Spare). Backs v (spare_rows s ++ rows)) c.in-First.is c.requires.backs))

pub put_chain-requires-clause-backs : goal.put_chain-requires-clause-backs
put_chain-requires-clause-backs c =
    let v : View = knows c.args.pass.now in
    let rows : List ℕ = c.args.tree ∷ c.args.rows.items in
    elim c.match-spare.branch [
      | in-Nothing w ↦
          subst (λ (p : RowPass). Backs (knows p) rows) (sym w.pass-is)
          (subst (λ (s : Spare). Backs v (spare_rows s ++ rows)) w.in-Nothing.is c.requires.backs)
      | in-Anchor w ↦
          subst (λ (p : RowPass). Backs (knows p) rows) (sym w.pass-is)
          (backs_put w.in-Anchor.pool.row v (knows w.put.new.pass) rows w.put.ensures.given
          (subst (λ (s : Spare). Backs v (spare_rows s ++ rows)) w.in-Anchor.is c.requires.backs))
      | in-First w ↦
          let u : View = knows w.put-in-First.new.pass in
          subst (λ (p : RowPass). Backs (knows p) rows) (sym w.pass-is)
          (backs_put w.in-First.pool.row u (knows w.put-in-First-2.new.pass) rows w.put-in-First-2.ensures.given
          (backs_put w.in-First.row.row v u (w.in-First.pool.row ∷ rows) w.put-in-First.ensures.given
          (subst (λ (s : Spare). Backs v (spare_rows s ++ rows)) w.in-First.is c.requires.backs)))
    ]
