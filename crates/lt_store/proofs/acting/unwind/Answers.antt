use Rattle.std.proofs.Common.{◌≡◌, ◌-◌, suc, drop, sym, ap, ◌∙◌, arith, List, ℕ}
use Rattle.lt_store.specs.declared.row.StoreRow.{StoreRow}
use Rattle.lt_store.specs.Rows.{find}
use Rattle.lt_store.specs.Undoing.{unwound}
use Rattle.lt_store.proofs.RerunLaws.{can_at}
use Rattle.lt_store.proofs.acting.unwind.Goals as goal

pub restore-requires : goal.restore-requires
restore-requires c = λ none.
    let key = c.index-undo-left.result.key in
    let next : suc (c.loop-left.left - 1) ≡ c.loop-left.left = omega arith in
    let same = ap (λ (n : ℕ). unwound c.args.rows.now (drop n c.args.undo.now)) next ∙ sym c.loop-left.invariant.rows in
    can_at c.args.rows.now c.args.undo.now (c.loop-left.left - 1) c.index-undo-left.result (omega arith) c.index-undo-left.is c.requires
    (ap (λ (l : List StoreRow). find l key) same ∙ none)
