use Rattle.std.proofs.Common.{rules, length, ◌<◌, ◌≡◌, ◌⊎◌, inl, inr, ℕ, ◌+◌, ◌∙◌, List, true, false, ap, sym, subst, arith}
use Rattle.lt_forest.specs.declared.part.Part.{Part}
use Rattle.lt_forest.specs.declared.part.PartRow.{PartRow}
use Rattle.lt_locktree.specs.LawsOfFrees.{goes}
use Rattle.lt_locktree.proofs.LeavingLaws.{LeavesSome, one_stays, one_goes}
use Rattle.lt_locktree.proofs.leaving.leave_out.Goals as goal
use Rattle.lt_locktree.proofs.leaving.leave_out.Goals.{then-goes+else-ahead-ne0+in_ok-push, else-ahead-ne0-via-then-ahead-ne0+else-behind-ne0, else-ahead-ne0-via-else-ahead-ne0, else-goes+in_ok-push-2+in_ok-push-3}

pub loop-i-preserved : goal.loop-i-preserved
loop-i-preserved c =
    let part : Part = c.args.part.now in
    let txn : ℕ = c.args.txn in
    let range = c.args.range.now in
    let i : ℕ = c.loop-i.i in
    let r : PartRow = c.index.result.now in
    let behind : ℕ = c.index-behind.result.now in
    let short : i < length part.rows.items = search rules in
    elim c.if-goes.branch [
      | then-goes+else-ahead-ne0+in_ok-push w ↦
          let e : goes txn range r ≡ true = sym c.goes.ensures ∙ w.if-goes.true in
          let none : (c.loop-i.ahead ≡ 0) ⊎ (behind ≡ 0) =
          elim w.else-ahead-ne0.branch [
            | else-ahead-ne0-via-then-ahead-ne0+else-behind-ne0 u ↦ inr (omega (arith, u.if-behind-ne0.false))
            | else-ahead-ne0-via-else-ahead-ne0 u ↦ inl (omega (arith, u.if-ahead-ne0.false))
          ] in
          subst (λ (x : (List PartRow × List ℕ) × (ℕ × List PartRow)). LeavesSome txn range part.rows.items part.hangs.items (i + 1) x.0.0 x.0.1 x.1.0 x.1.1)
          (λ j. (
            (sym (ap (λ v. v.items) w.rows-is) j, sym (ap (λ v. v.items) w.hangs-is) j),
            (sym w.ahead-is j, sym (ap (λ v. v.items) w.gone-is ∙ w.in_ok-push.ensures.items) j),
          ))
          (one_goes txn range part.rows.items part.hangs.items i c.loop-i.rows.items c.loop-i.hangs.items c.loop-i.ahead c.loop-i.gone.items r behind
          c.loop-i.invariant short c.requires.hangs_between c.index.ensures c.index-behind.ensures e none)
      | else-goes+in_ok-push-2+in_ok-push-3 w ↦
          let e : goes txn range r ≡ false = sym c.goes.ensures ∙ w.if-goes.false in
          subst (λ (x : (List PartRow × List ℕ) × (ℕ × List PartRow)). LeavesSome txn range part.rows.items part.hangs.items (i + 1) x.0.0 x.0.1 x.1.0 x.1.1)
          (λ j. (
            (sym (ap (λ v. v.items) w.rows-is ∙ w.in_ok-push-2.ensures.items) j, sym (ap (λ v. v.items) w.hangs-is ∙ w.in_ok-push-3.ensures.items) j),
            (sym w.ahead-is j, sym (ap (λ v. v.items) w.gone-is) j),
          ))
          (one_stays txn range part.rows.items part.hangs.items i c.loop-i.rows.items c.loop-i.hangs.items c.loop-i.ahead c.loop-i.gone.items r behind
          c.loop-i.invariant short c.requires.hangs_between c.index.ensures c.index-behind.ensures e)
    ]
